-- A state that has nothing but what one of many states has: the start, and after a touch, and where two meet.
use Prim.Native.Nat.{ℕ, ◌<◌}
use mathlib.Core.Bool.{Bool, true, false, ◌||◌, true≢false}
use mathlib.Core.List.{List, [], ◌∷◌}
use mathlib.Core.Logic.{◌⊎◌, inl, inr, ⊎_elim}
use mathlib.Core.Path.{◌≡◌, refl, sym, ap, subst, ◌∙◌}
use Rattle.lists.proofs.Listed.{get_or-list_of}
use Rattle.cache.specs.Ages.{Columns}
use Rattle.flow.specs.Walk.{in_turn}
use Rattle.ages.specs.Plan.{ColumnTouch, Plan, columns_of}
use Rattle.kept.specs.Since.{Since, is_in, untouched, touch_since, meet_since}
use Rattle.kept.specs.Kept.{after_touch_of}
use Rattle.kept.proofs.Adding.{touched-own, touched-still, touched-from, stays-in, comes-in, in-from, NewIn}
use Rattle.kept.proofs.Turned.{none-touched, none_in}

-- Each of these has a state, and `a` has nothing that none of them has.
pub record Covered (count : ℕ) (W : Type 0) (state : W → Since) (a : Since) : Type 0 where
  pub some : W
  pub touched : a.touched ≡ true → (w : W) × ((state w).touched ≡ true)
  pub others : (column : ℕ) → column < count → is_in a.others column ≡ true → (w : W) × (is_in (state w).others column ≡ true)

module _ (columns : Columns) (block : ℕ) (W : Type 0) where
  touch-covered : (m : ℕ) (state : W → Since) (a : Since) → Covered columns.count W state a
      → Covered columns.count W (λ w. touch_since columns block m (state w)) (touch_since columns block m a)
  touch-covered m state a c =
      record {
        some = c.some;
        touched = λ e.
            ⊎_elim
            (λ own. (c.some, touched-own columns block m (state c.some) own))
            (λ before. let w = c.touched before in (w.0, touched-still columns block m (state w.0) w.1))
            (touched-from columns block m a e);
        others = λ column h e. in-touched column h (in-from columns block m a column h e);
      }
    where
      in-touched : (column : ℕ) → column < columns.count → (m ≡ block → ⊥) × ((is_in a.others column ≡ true) ⊎ NewIn columns block m a column)
          → (w : W) × (is_in (touch_since columns block m (state w)).others column ≡ true)
      in-touched column h q =
          ⊎_elim
          (λ (old : is_in a.others column ≡ true).
          let w = c.others column h old in
          (w.0, stays-in columns block m (state w.0) q.0 column h w.1))
          (λ (new : NewIn columns block m a column).
          let w = c.touched new.was-touched in
          let inside = subst (λ (k : ℕ). k < columns.count) new.is-new h in
          let here = comes-in columns block m (state w.0) q.0 inside w.1 new.same_set in
          (w.0, subst (λ (k : ℕ). is_in (touch_since columns block m (state w.0)).others k ≡ true) (sym new.is-new) here))
          q.1

-- Touches in turn.
pub turns-covered : (plan : Plan) (block : ℕ) (W : Type 0) (touches : List ColumnTouch) (state : W → Since) (a : Since) → Covered plan.blocks W state a
    → Covered plan.blocks W (λ w. in_turn (after_touch_of plan block) touches (state w)) (in_turn (after_touch_of plan block) touches a)
turns-covered plan block W [] state a c = c
turns-covered plan block W (t ∷ touches) state a c =
    turns-covered plan block W touches (λ w. after_touch_of plan block t (state w)) (after_touch_of plan block t a)
    (touch-covered (columns_of plan) block W t.column state a c)

or_from : (a b : Bool) → (a || b) ≡ true → (a ≡ true) ⊎ (b ≡ true)
or_from true b e = inl refl
or_from false b e = inr e

module _ (count : ℕ) (W : Type 0) (state : W → Since) where
  pub meet-covered : (a b : Since) → Covered count W state a → Covered count W state b → Covered count W state (meet_since count a b)
  unfolding meet_since
  meet-covered a b c d =
      record {
        some = c.some;
        touched = λ e. ⊎_elim c.touched d.touched (or_from a.touched b.touched e);
        others = λ column h e.
            let either = sym (get_or-list_of count (λ k. is_in a.others k || is_in b.others k) false column h) ∙ e in
            ⊎_elim (c.others column h) (d.others column h) (or_from (is_in a.others column) (is_in b.others column) either);
      }

  pub start-covered : W → Covered count W state (untouched count)
  start-covered w =
      record {
        some = w;
        touched = λ e. absurd (true≢false (sym e ∙ none-touched count));
        others = λ column h e. absurd (true≢false (sym e ∙ none_in count column h));
      }

  -- The same of other states that are these.
  pub covered-by : (T : Type 0) (other : T → Since) (f : W → T) → ((w : W) → state w ≡ other (f w))
      → (a : Since) → Covered count W state a → Covered count T other a
  covered-by T other f same a c =
      record {
        some = f c.some;
        touched = λ e. let w = c.touched e in (f w.0, ap (λ (s : Since). s.touched) (sym (same w.0)) ∙ w.1);
        others = λ column h e. let w = c.others column h e in (f w.0, ap (λ (s : Since). is_in s.others column) (sym (same w.0)) ∙ w.1);
      }
