-- What one touch makes of what is held of a block: when the block is touched after it, and what is then in its set since.
use Prim.Native.Nat.{ℕ, ◌<◌}
use mathlib.Core.Bool.{Bool, true, false, cond, ◌&&◌, ◌||◌, or-true, true≢false}
use mathlib.Core.Logic.{◌⊎◌, inl, inr}
use mathlib.Core.Path.{◌≡◌, refl, sym, ◌∙◌}
use borrow.Author.Tests.{eqb-true, eqb-false, eq-eqb, ne_eqb}
use lib.Dec.{eqb}
use Rattle.lists.proofs.Choice.{and-true}
use Rattle.cache.specs.Ages.{Columns}
use Rattle.kept.specs.Since.{Since, is_in, in_after, touch_since}
use Rattle.kept.proofs.Touching.{touch-in}

module _ (columns : Columns) (block m : ℕ) (since : Since) where
  -- ---- touched

  pub touched-own : m ≡ block → (touch_since columns block m since).touched ≡ true
  unfolding touch_since
  touched-own e = rw (eq-eqb m block e)

  pub touched-still : since.touched ≡ true → (touch_since columns block m since).touched ≡ true
  unfolding touch_since
  touched-still e = rw e (or-true (eqb m block))

  pub touched-from : (touch_since columns block m since).touched ≡ true → (m ≡ block) ⊎ (since.touched ≡ true)
  unfolding touch_since
  touched-from h = go (eqb m block) refl h
    where
      go : (t : Bool) → eqb m block ≡ t → (t || since.touched) ≡ true → (m ≡ block) ⊎ (since.touched ≡ true)
      go true e h = inl (eqb-true m block e)
      go false e h = inr h

  -- ---- in the set

  -- What is in the set stays there if another block is touched.
  pub stays-in : (m ≡ block → ⊥) → (column : ℕ) → column < columns.count → is_in since.others column ≡ true
      → is_in (touch_since columns block m since).others column ≡ true
  unfolding in_after
  stays-in apart column h e = touch-in columns block m since column h ∙ rw (ne_eqb m block apart, e)

  -- Another block of the same cache set comes in if the block is touched.
  pub comes-in : (m ≡ block → ⊥) → m < columns.count → since.touched ≡ true → columns.key m ≡ columns.key block
      → is_in (touch_since columns block m since).others m ≡ true
  unfolding in_after
  comes-in apart h touched e =
      touch-in columns block m since m h
      ∙ rw (ne_eqb m block apart, eq-eqb m m refl, touched, eq-eqb (columns.key m) (columns.key block) e) (or-true (is_in since.others m))

  -- It comes in by this touch.
  pub record NewIn (column : ℕ) : Type 0 where
    pub is-new : column ≡ m
    pub was-touched : since.touched ≡ true
    pub same_set : columns.key m ≡ columns.key block

  -- Nothing is in the set but by these two, and nothing after a touch of the block itself.
  pub in-from : (column : ℕ) → column < columns.count → is_in (touch_since columns block m since).others column ≡ true
      → (m ≡ block → ⊥) × ((is_in since.others column ≡ true) ⊎ NewIn column)
  unfolding in_after
  in-from column h e = go (eqb m block) (is_in since.others column) refl refl (sym (touch-in columns block m since column h) ∙ e)
    where
      added : Bool
      added = eqb column m && (since.touched && eqb (columns.key m) (columns.key block))

      new : added ≡ true → NewIn column
      new q =
          let one = and-true (eqb column m) (since.touched && eqb (columns.key m) (columns.key block)) q in
          let two = and-true since.touched (eqb (columns.key m) (columns.key block)) one.1 in
          record {
            is-new = eqb-true column m one.0;
            was-touched = two.0;
            same_set = eqb-true (columns.key m) (columns.key block) two.1;
          }

      go : (own before : Bool) → eqb m block ≡ own → is_in since.others column ≡ before → cond own false (before || added) ≡ true
          → (m ≡ block → ⊥) × ((is_in since.others column ≡ true) ⊎ NewIn column)
      go true before o b q = absurd (true≢false (sym q))
      go false true o b q = (eqb-false m block o, inl b)
      go false false o b q = (eqb-false m block o, inr (new q))
