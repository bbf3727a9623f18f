-- What is held of one block: whether it is touched, and which others of its set were touched since. The start, a touch, a meeting, and which of two
-- states has more. Rules 16.1 to 16.3 and 16.5 to 16.7, by rule 9.4 what is the same, and the members that rule 8.1 counts.
-- A block is known by its column, as in `Ages` of the crate `cache`. A set is a flag for each of `count` columns.
-- A choice: past the end of a set no column is in it.
use Rattle.std.specs.Prelude.{ℕ, ◌<◌, ◌≡◌, Bool, true, false, cond, not, ◌&&◌, ◌||◌, List, [], ◌∷◌, get_or, length, eqb}
use Rattle.lists.specs.Lists.{list_of, sum_of}
use Rattle.cache.specs.Ages.{Columns}

-- Rule 16.1, of one block: whether it is touched, and its set since, a flag for each column.
pub record Since : Type 0 where
  pub touched : Bool
  pub others : List Bool

-- Whether a column is in a set.
abbrev pub is_in : List Bool → ℕ → Bool
is_in set column = get_or set column false

-- Rule 8.1: how many of so many columns are in the set.
unfoldable pub members : ℕ → Since → ℕ
members count since = sum_of count (λ column. cond (is_in since.others column) 1 0)

-- Rule 16.2: the start.
unfoldable pub untouched : ℕ → Since
untouched count = record { touched = false; others = list_of count (λ column. false) }

-- Rule 16.3: whether a column is in the set of `block` after a touch of m. A touch of the block itself empties the set; another adds m to it if the
-- block is touched and m is of its cache set.
unfoldable pub in_after : (ℕ → ℕ) → ℕ → ℕ → Since → ℕ → Bool
in_after key block m since column =
    cond (eqb m block) false
    (is_in since.others column || (eqb column m && (since.touched && eqb (key m) (key block))))

-- Rule 16.3: what is held of `block` after a touch of m.
unfoldable pub touch_since : Columns → ℕ → ℕ → Since → Since
touch_since columns block m since =
    record {
      touched = eqb m block || since.touched;
      others = list_of columns.count (in_after columns.key block m since);
    }

-- Rule 16.5: where two states meet.
unfoldable pub meet_since : ℕ → Since → Since → Since
meet_since count a b =
    record {
      touched = a.touched || b.touched;
      others = list_of count (λ column. is_in a.others column || is_in b.others column);
    }

-- ---- whether two are the same, and which has more

abbrev pub same_flag : Bool → Bool → Bool
same_flag a b = cond a b (not b)

abbrev pub same_flags : List Bool → List Bool → Bool
same_flags [] [] = true
same_flags [] (y ∷ ys) = false
same_flags (x ∷ xs) [] = false
same_flags (x ∷ xs) (y ∷ ys) = same_flag x y && same_flags xs ys

-- Rule 16.7, by rule 9.4: whether two states are the same.
unfoldable pub same_since : Since → Since → Bool
same_since a b = same_flag a.touched b.touched && same_flags a.others b.others

-- Rules 16.1 and 16.6: there is a flag for each column, and the block itself is none of the others.
pub record SinceFits (count block : ℕ) (a : Since) : Type 0 where
  pub long : length a.others ≡ count
  pub own : is_in a.others block ≡ false

-- Rule 16.6: b has at least as much as a: touched if that is, and no smaller set.
pub record SinceLess (count : ℕ) (a b : Since) : Type 0 where
  pub touched : a.touched ≡ true → b.touched ≡ true
  pub others : (column : ℕ) → column < count → is_in a.others column ≡ true → is_in b.others column ≡ true
