-- Touches in turn, from the start: the block is touched exactly if one of them is of it, and its set since has exactly the others of its cache set that
-- are touched since the last of those.
use Prim.Native.Nat.{ℕ, ◌<◌}
use mathlib.Core.Bool.{true, false, true≢false}
use mathlib.Core.List.{List, [], ◌∷◌, ◌++◌}
use mathlib.Core.Logic.{◌⊎◌, inl, inr, ⊎_elim}
use mathlib.Core.Path.{◌≡◌, refl, sym, ap, subst, ◌∙◌}
use native.Mathlib.Decide.{ℕ_discrete}
use Rattle.lists.proofs.Listed.{get_or-list_of}
use Rattle.flow.specs.Walk.{in_turn}
use Rattle.ages.specs.Plan.{ColumnTouch, Plan, columns_of}
use Rattle.kept.specs.Since.{Since, is_in, untouched}
use Rattle.kept.specs.Kept.{after_touch_of}
use Rattle.kept.specs.Walked.{Touches, TouchedSince}
use Rattle.kept.proofs.Adding.{touched-own, touched-still, touched-from, stays-in, comes-in, in-from, NewIn}

-- Rule 16.2.
pub none-touched : (count : ℕ) → (untouched count).touched ≡ false
unfolding untouched
none-touched count = refl

pub none_in : (count column : ℕ) → column < count → is_in (untouched count).others column ≡ false
unfolding untouched
none_in count column h = get_or-list_of count (λ k. false) false column h

module _ (plan : Plan) (block : ℕ) where
  abbrev turned : List ColumnTouch → Since → Since
  turned touches a = in_turn (after_touch_of plan block) touches a

  -- ---- touched

  still-turned : (touches : List ColumnTouch) (a : Since) → a.touched ≡ true → (turned touches a).touched ≡ true
  still-turned [] a e = e
  still-turned (t ∷ touches) a e = still-turned touches (after_touch_of plan block t a) (touched-still (columns_of plan) block t.column a e)

  pub turned-touched : (touches : List ColumnTouch) (a : Since) → Touches block touches → (turned touches a).touched ≡ true
  turned-touched [] a h = absurd h
  turned-touched (t ∷ touches) a (inl e) = still-turned touches (after_touch_of plan block t a) (touched-own (columns_of plan) block t.column a e)
  turned-touched (t ∷ touches) a (inr h) = turned-touched touches (after_touch_of plan block t a) h

  touched-turned : (touches : List ColumnTouch) (a : Since) → (turned touches a).touched ≡ true → (a.touched ≡ true) ⊎ Touches block touches
  touched-turned [] a e = inl e
  touched-turned (t ∷ touches) a e =
      ⊎_elim
      (λ here. ⊎_elim (λ own. inr (inl own)) (λ before. inl before) (touched-from (columns_of plan) block t.column a here))
      (λ later. inr (inr later))
      (touched-turned touches (after_touch_of plan block t a) e)

  pub touched-walked : (touches : List ColumnTouch) → (turned touches (untouched plan.blocks)).touched ≡ true → Touches block touches
  touched-walked touches e =
      ⊎_elim (λ q. absurd (true≢false (sym q ∙ none-touched plan.blocks))) (λ h. h) (touched-turned touches (untouched plan.blocks) e)

  -- ---- in the set

  module _ (other : ℕ) (below : other < plan.blocks) where
    abbrev SameSet : Type 0
    SameSet = (columns_of plan).key other ≡ (columns_of plan).key block

    abbrev Has : Since → Type 0
    Has a = is_in a.others other ≡ true

    -- What is in the set stays while the block is not touched.
    stays-turned : (touches : List ColumnTouch) (a : Since) → (Touches block touches → ⊥) → Has a → Has (turned touches a)
    stays-turned [] a none h = h
    stays-turned (t ∷ touches) a none h =
        stays-turned touches (after_touch_of plan block t a) (λ q. none (inr q))
        (stays-in (columns_of plan) block t.column a (λ q. none (inl q)) other below h)

    -- Another that is touched meanwhile comes in.
    comes-turned : (touches : List ColumnTouch) (a : Since) → SameSet → (Touches block touches → ⊥) → a.touched ≡ true → Touches other touches
        → Has (turned touches a)
    comes-turned [] a same none e h = absurd h
    comes-turned (t ∷ touches) a same none e (inl q) =
        stays-turned touches (after_touch_of plan block t a) (λ q. none (inr q))
        (subst (λ (k : ℕ). is_in (after_touch_of plan block t a).others k ≡ true) q
        (comes-in (columns_of plan) block t.column a (λ q. none (inl q)) (subst (λ (k : ℕ). k < plan.blocks) (sym q) below) e
        (ap (columns_of plan).key q ∙ same)))
    comes-turned (t ∷ touches) a same none e (inr h) =
        comes-turned touches (after_touch_of plan block t a) same (λ q. none (inr q)) (touched-still (columns_of plan) block t.column a e) h

    since-turned : (before : List ColumnTouch) (last : ColumnTouch) (after : List ColumnTouch) (a : Since)
        → SameSet → last.column ≡ block → (Touches block after → ⊥) → Touches other after → Has (turned (before ++ last ∷ after) a)
    since-turned [] last after a same own none h =
        comes-turned after (after_touch_of plan block last a) same none (touched-own (columns_of plan) block last.column a own) h
    since-turned (t ∷ before) last after a same own none h = since-turned before last after (after_touch_of plan block t a) same own none h

    pub turned-since : (touches : List ColumnTouch) (a : Since) → SameSet → TouchedSince block other touches → Has (turned touches a)
    turned-since touches a same s =
        subst (λ (l : List ColumnTouch). Has (turned l a)) (sym s.in-turn)
        (since-turned s.before s.last s.after a same s.of-block s.is_last s.since)

    -- Where what is in the set comes from: touches since the last of the block, or what was held before, and no touch of the block.
    data From (touches : List ColumnTouch) (a : Since) : Type 0 where
      since-last : SameSet → TouchedSince block other touches → From touches a
      was-in : (Touches block touches → ⊥) → Has a → From touches a
      came-in : SameSet → (Touches block touches → ⊥) → a.touched ≡ true → Touches other touches → From touches a

    later : (t : ColumnTouch) (touches : List ColumnTouch) → TouchedSince block other touches → TouchedSince block other (t ∷ touches)
    later t touches s =
        record {
          before = t ∷ s.before;
          last = s.last;
          after = s.after;
          in-turn = ap (λ (l : List ColumnTouch). t ∷ l) s.in-turn;
          of-block = s.of-block;
          is_last = s.is_last;
          since = s.since;
        }

    from-turned : (touches : List ColumnTouch) (a : Since) → Has (turned touches a) → From touches a
    from-turned [] a h = was-in (λ q. q) h
    from-turned (t ∷ touches) a h = go (ℕ_discrete t.column block) (from-turned touches (after_touch_of plan block t a) h)
      where
        neither : (t.column ≡ block → ⊥) → (Touches block touches → ⊥) → Touches block (t ∷ touches) → ⊥
        neither p none = ⊎_elim p none

        here : (Touches block touches → ⊥) → (t.column ≡ block → ⊥) × (Has a ⊎ NewIn (columns_of plan) block t.column a other) → From (t ∷ touches) a
        here none q =
            ⊎_elim
            (λ (old : Has a). was-in (neither q.0 none) old)
            (λ (new : NewIn (columns_of plan) block t.column a other).
            came-in (ap (columns_of plan).key new.is-new ∙ new.same_set) (neither q.0 none) new.was-touched (inl (sym new.is-new)))
            q.1

        go : Dec (t.column ≡ block) → From touches (after_touch_of plan block t a) → From (t ∷ touches) a
        go d (since-last same s) = since-last same (later t touches s)
        go d (was-in none i) = here none (in-from (columns_of plan) block t.column a other below i)
        go (yes p) (came-in same none e o) =
            since-last same record { before = []; last = t; after = touches; in-turn = refl; of-block = p; is_last = none; since = o }
        go (no p) (came-in same none e o) =
            came-in same (neither p none) (⊎_elim (λ q. absurd (p q)) (λ q. q) (touched-from (columns_of plan) block t.column a e)) (inr o)

    pub since-walked : (touches : List ColumnTouch) → Has (turned touches (untouched plan.blocks)) → SameSet × TouchedSince block other touches
    since-walked touches h = go (from-turned touches (untouched plan.blocks) h)
      where
        go : From touches (untouched plan.blocks) → SameSet × TouchedSince block other touches
        go (since-last same s) = (same, s)
        go (was-in none i) = absurd (true≢false (sym i ∙ none_in plan.blocks other below))
        go (came-in same none e o) = absurd (true≢false (sym e ∙ none-touched plan.blocks))
