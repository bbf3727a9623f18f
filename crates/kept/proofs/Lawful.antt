-- The flow of one block keeps the laws of flows, and its states have a height: touched, and the other blocks that are in the set.
use mathlib.Core.Bool.{Bool, true, false, cond, true≢false}
use mathlib.Core.Logic.{⊎_elim}
use mathlib.Core.Path.{◌≡◌, refl, sym, ap, ◌∙◌}
use Prim.Native.Nat.{ℕ, ◌≤◌, ◌<◌}
use native.Mathlib.Decide.{ℕ_discrete}
use native.Mathlib.Omega.{arith}
use borrow.Author.Tests.{eq-eqb, ne_eqb}
use lib.Dec.{eqb}
use Rattle.lists.specs.Lists.{sum_of}
use Rattle.lists.proofs.Orders.{below_or}
use Rattle.lists.proofs.Sums.{flags-most, sum_same}
use Rattle.chart.specs.Geometry.{most_blocks}
use Rattle.flow.specs.Laws.{Laws, Height}
use Rattle.flow.proofs.Turns.{in_turn-keeps}
use Rattle.ages.specs.Plan.{Plan, columns_of, touches_in, Sound}
use Rattle.kept.specs.Since.{Since, is_in, same_since, meet_since, SinceFits, SinceLess}
use Rattle.kept.specs.Kept.{after_touch_of, kept_flow}
use Rattle.kept.proofs.Comparing.{same-since, since-same, less-refl, less-trans, less_both}
use Rattle.kept.proofs.Touching.{untouched-fits, touch-fits, touch-monotone, meet_fits, meet_left, meet_right, meet_least}

module _ (plan : Plan) (block : ℕ) where
  pub step_fits : (n : ℕ) (a : Since) → SinceFits plan.blocks block a → SinceFits plan.blocks block ((kept_flow plan block).step n a)
  step_fits n a f =
      in_turn-keeps (after_touch_of plan block) (after_touch_of plan block) (λ b c. SinceFits plan.blocks block b) (touches_in plan n)
      (λ touch i b c. touch-fits (columns_of plan) block touch.column b) a a f

  pub step-monotone : (n : ℕ) (a b : Since) → SinceLess plan.blocks a b → SinceLess plan.blocks ((kept_flow plan block).step n a) ((kept_flow plan block).step n b)
  step-monotone n a b s =
      in_turn-keeps (after_touch_of plan block) (after_touch_of plan block) (SinceLess plan.blocks) (touches_in plan n)
      (λ touch i c d. touch-monotone (columns_of plan) block touch.column c d) a b s

module _ (plan : Plan) (sound : Sound plan) (block : ℕ) where
  unfoldable pub kept_laws : Laws (kept_flow plan block)
  kept_laws =
      record {
        Real = λ n. SinceFits plan.blocks block;
        entry_inside = sound.entry_inside;
        arrows-in = sound.arrows-in;
        real_ok = λ n a r. r;
        real_start = untouched-fits plan.blocks block;
        real_step = λ n t a h i r. step_fits plan block n a r;
        real_meet = λ n a b r s. meet_fits plan.blocks a b block r s;
        below_refl = less-refl plan.blocks;
        below_trans = less-trans plan.blocks;
        below_both = less_both plan.blocks block;
        meet_left = λ n a b r s. meet_left plan.blocks a b;
        meet_right = λ n a b r s. meet_right plan.blocks a b;
        meet_least = λ n a b c r s o t u. meet_least plan.blocks a b c t u;
        monotone = λ n a b h r o t. step-monotone plan block n a b t;
        same_yes = same-since;
      }

-- ---- the height

module _ (count block : ℕ) where
  -- What the column of the block itself counts is whether it is touched.
  abbrev counted : Since → ℕ → Bool
  counted a column = cond (eqb column block) a.touched (is_in a.others column)

  unfoldable pub since_height : Since → ℕ
  since_height a = sum_of count (λ column. cond (counted a column) 1 0)

  pub since-height-most : (a : Since) → since_height a ≤ count
  unfolding since_height
  since-height-most a = flags-most count (counted a)

  more : (s t : Bool) → (s ≡ true → t ≡ true) → cond s 1 0 ≤ cond t 1 0
  more true t e = rw (e refl) (omega arith)
  more false t e = omega arith

  -- Equal heights are of equal flags.
  equal_flags : (s t : Bool) → ◌≡◌ {A = ℕ} (cond s 1 0) (cond t 1 0) → t ≡ true → s ≡ true
  equal_flags true t e q = refl
  equal_flags false true e q = absurd (omega arith)
  equal_flags false false e q = q

  module _ (inside : block < count) (a b : Since) (less : SinceLess count a b) where
    counted-more : (column : ℕ) → column < count → counted a column ≡ true → counted b column ≡ true
    counted-more column h = go (eqb column block)
      where
        go : (t : Bool) → cond t a.touched (is_in a.others column) ≡ true → cond t b.touched (is_in b.others column) ≡ true
        go true e = less.touched e
        go false e = less.others column h e

    -- A state of no more height than one with less is the same.
    since-height-same : SinceFits count block a → SinceFits count block b → since_height b ≤ since_height a → a ≡ b
    unfolding since_height
    since-height-same f g l = less_both count block a b f g less record { touched = touched-back; others = others-back }
      where
        back : (column : ℕ) → column < count → counted b column ≡ true → counted a column ≡ true
        back column h =
            equal_flags (counted a column) (counted b column)
            (sum_same count (λ column. cond (counted a column) 1 0) (λ column. cond (counted b column) 1 0) (λ column h. more (counted a column) (counted b column) (counted-more column h)) l column h)

        own : (c : Since) → counted c block ≡ c.touched
        own c = rw (eq-eqb block block refl)

        touched-back : b.touched ≡ true → a.touched ≡ true
        touched-back e = sym (own a) ∙ back block inside (own b ∙ e)

        others-back : (column : ℕ) → column < count → is_in b.others column ≡ true → is_in a.others column ≡ true
        others-back column h e = go (ℕ_discrete column block)
          where
            go : Dec (column ≡ block) → is_in a.others column ≡ true
            go (yes q) = absurd (true≢false (sym e ∙ ap (is_in b.others) q ∙ g.own))
            go (no q) =
                let apart = ne_eqb column block q in
                let here : counted b column ≡ true = (rw apart e) in
                rw apart at (back column h here)

  pub since-height-grows : block < count → (a b : Since) → SinceFits count block a → SinceFits count block b → same_since (meet_since count a b) a ≡ false → since_height a < since_height (meet_since count a b)
  since-height-grows inside a b f g e = ⊎_elim (λ h. h) stays (below_or (since_height a) (since_height (meet_since count a b)))
    where
      stays : since_height (meet_since count a b) ≤ since_height a → since_height a < since_height (meet_since count a b)
      stays h =
          let same : a ≡ meet_since count a b = since-height-same inside a (meet_since count a b) (meet_left count a b) f (meet_fits count a b block f g) h in
          absurd (true≢false (sym (since-same a) ∙ ap (λ (c : Since). same_since c a) same ∙ e))

module _ (plan : Plan) (sound : Sound plan) (few : plan.blocks ≤ most_blocks) (block : ℕ) (inside : block < plan.blocks) where
  unfoldable pub kept_height : Height (kept_flow plan block) (kept_laws plan sound block)
  unfolding kept_laws
  kept_height =
      record {
        height = since_height plan.blocks block;
        bound = most_blocks;
        bounded = λ n a r. omega (arith, since-height-most plan.blocks block a);
        grows = λ n a b r s e. since-height-grows plan.blocks block inside a b r s e;
      }

  pub kept-bound : kept_height.bound ≡ most_blocks
  unfolding kept_height
  kept-bound = refl
