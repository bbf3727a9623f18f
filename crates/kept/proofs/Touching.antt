-- What a start, a touch and a meeting hold, column by column: each keeps the form of a state, a touch keeps the order, and a meeting is the least
-- state that has as much as both.
use mathlib.Core.Bool.{Bool, true, false, cond, ◌&&◌, ◌||◌, true≢false}
use mathlib.Core.Logic.{⊎_elim}
use mathlib.Core.Path.{◌≡◌, refl, sym, ap, ◌∙◌}
use Prim.Native.Nat.{ℕ, ◌<◌, ◌≤◌}
use native.Mathlib.Decide.{ℕ_discrete}
use borrow.Author.Tests.{eq-eqb, ne_eqb}
use lib.Dec.{eqb}
use lib.ListN.{get_or-eq_default}
use Rattle.lists.specs.Lists.{list_of}
use Rattle.lists.proofs.Listed.{length-list_of, get_or-list_of}
use Rattle.lists.proofs.Choice.{and-true, true-and}
use Rattle.lists.proofs.Orders.{below_or}
use Rattle.cache.specs.Ages.{Columns}
use Rattle.kept.specs.Since.{Since, is_in, untouched, in_after, touch_since, meet_since, SinceFits, SinceLess}

-- Whether a column is in a set that is worked out column by column; past the last column none is.
in-listed : (count : ℕ) (f : ℕ → Bool) (column : ℕ) → column < count → is_in (list_of count f) column ≡ f column
in-listed count f column h = get_or-list_of count f false column h

in-past : (count : ℕ) (f : ℕ → Bool) (column : ℕ) → count ≤ column → is_in (list_of count f) column ≡ false
in-past count f column h = get_or-eq_default (list_of count f) false (rw (length-list_of count f) h)

-- A set that is worked out so lacks a column of which the flag is false, or which is none.
lacks : (count : ℕ) (f : ℕ → Bool) (column : ℕ) → f column ≡ false → is_in (list_of count f) column ≡ false
lacks count f column e = ⊎_elim (λ (h : column < count). in-listed count f column h ∙ e) (λ (h : count ≤ column). in-past count f column h) (below_or column count)

either : (a b c d : Bool) → (a ≡ true → c ≡ true) → (b ≡ true → d ≡ true) → (a || b) ≡ true → (c || d) ≡ true
either true b c d s t e = ap (λ (x : Bool). x || d) (s refl)
either false b true d s t e = refl
either false b false d s t e = t e

left_or : (a b : Bool) → a ≡ true → (a || b) ≡ true
left_or a b e = ap (λ (x : Bool). x || b) e

right_or : (a b : Bool) → b ≡ true → (a || b) ≡ true
right_or true b e = refl
right_or false b e = e

from_or : (a b c : Bool) → (a ≡ true → c ≡ true) → (b ≡ true → c ≡ true) → (a || b) ≡ true → c ≡ true
from_or true b c s t e = s refl
from_or false b c s t e = t e

-- ---- the start

pub untouched-fits : (count block : ℕ) → SinceFits count block (untouched count)
unfolding untouched
untouched-fits count block = record { long = length-list_of count (λ column. false); own = lacks count (λ column. false) block refl }

-- Every state has as much as the start.
pub untouched-least : (count : ℕ) (a : Since) → SinceLess count (untouched count) a
unfolding untouched
untouched-least count a =
    record {
      touched = λ e. absurd (true≢false (sym e));
      others = λ column h e. absurd (true≢false (sym e ∙ in-listed count (λ column. false) column h));
    }

-- ---- a touch

module _ (columns : Columns) (block m : ℕ) where
  pub touch-in : (a : Since) (column : ℕ) → column < columns.count → is_in (touch_since columns block m a).others column ≡ in_after columns.key block m a column
  unfolding touch_since
  touch-in a column h = in-listed columns.count (in_after columns.key block m a) column h

  -- Never the block itself.
  own-after : (a : Since) → is_in a.others block ≡ false → in_after columns.key block m a block ≡ false
  unfolding in_after
  own-after a own = go (ℕ_discrete m block)
    where
      go : Dec (m ≡ block) → cond (eqb m block) false (is_in a.others block || (eqb block m && (a.touched && eqb (columns.key m) (columns.key block)))) ≡ false
      go (yes e) = rw (eq-eqb m block e)
      go (no e) = rw (ne_eqb m block e, own, ne_eqb block m (λ q. e (sym q)))

  pub touch-fits : (a : Since) → SinceFits columns.count block a → SinceFits columns.count block (touch_since columns block m a)
  unfolding touch_since
  touch-fits a f =
      record {
        long = length-list_of columns.count (in_after columns.key block m a);
        own = lacks columns.count (in_after columns.key block m a) block (own-after a f.own);
      }

  in-monotone : (a b : Since) (column : ℕ) → column < columns.count → SinceLess columns.count a b → in_after columns.key block m a column ≡ true → in_after columns.key block m b column ≡ true
  unfolding in_after
  in-monotone a b column h s = go (eqb m block)
    where
      same : Bool
      same = eqb (columns.key m) (columns.key block)

      added : (eqb column m && (a.touched && same)) ≡ true → (eqb column m && (b.touched && same)) ≡ true
      added e =
          let one = and-true (eqb column m) (a.touched && same) e in
          let two = and-true a.touched same one.1 in
          true-and (eqb column m) (b.touched && same) one.0 (true-and b.touched same (s.touched two.0) two.1)

      go : (t : Bool) → cond t false (is_in a.others column || (eqb column m && (a.touched && same))) ≡ true → cond t false (is_in b.others column || (eqb column m && (b.touched && same))) ≡ true
      go true e = e
      go false e = either (is_in a.others column) (eqb column m && (a.touched && same)) (is_in b.others column) (eqb column m && (b.touched && same)) (s.others column h) added e

  pub touch-monotone : (a b : Since) → SinceLess columns.count a b → SinceLess columns.count (touch_since columns block m a) (touch_since columns block m b)
  unfolding touch_since
  touch-monotone a b s =
      record {
        touched = either (eqb m block) a.touched (eqb m block) b.touched (λ e. e) s.touched;
        others = λ column h e. in-listed columns.count (in_after columns.key block m b) column h
            ∙ in-monotone a b column h s (sym (in-listed columns.count (in_after columns.key block m a) column h) ∙ e);
      }

-- ---- a meeting

module _ (count : ℕ) (a b : Since) where
  abbrev flag : ℕ → Bool
  flag column = is_in a.others column || is_in b.others column

  pub meet_fits : (block : ℕ) → SinceFits count block a → SinceFits count block b → SinceFits count block (meet_since count a b)
  unfolding meet_since
  meet_fits block f g = record { long = length-list_of count flag; own = lacks count flag block (rw (f.own, g.own)) }

  pub meet_left : SinceLess count a (meet_since count a b)
  unfolding meet_since
  meet_left =
      record {
        touched = left_or a.touched b.touched;
        others = λ column h e. in-listed count flag column h ∙ left_or (is_in a.others column) (is_in b.others column) e;
      }

  pub meet_right : SinceLess count b (meet_since count a b)
  unfolding meet_since
  meet_right =
      record {
        touched = right_or a.touched b.touched;
        others = λ column h e. in-listed count flag column h ∙ right_or (is_in a.others column) (is_in b.others column) e;
      }

  pub meet_least : (c : Since) → SinceLess count a c → SinceLess count b c → SinceLess count (meet_since count a b) c
  unfolding meet_since
  meet_least c s t =
      record {
        touched = from_or a.touched b.touched c.touched s.touched t.touched;
        others = λ column h e. from_or (is_in a.others column) (is_in b.others column) (is_in c.others column) (s.others column h) (t.others column h) (sym (in-listed count flag column h) ∙ e);
      }
