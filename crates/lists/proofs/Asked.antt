-- What `all`, `any` and `position` of the library answer of a list, a part of one or the first numbers, as tests of places have it.
use mathlib.Core.Bool.{Bool, true, false, cond, ◌&&◌, ◌||◌}
use mathlib.Core.List.{List}
use mathlib.Core.Path.{◌≡◌, refl, sym, ap, ◌∙◌}
use Prim.Native.Nat.{ℕ, zero, suc, ◌+◌, ◌-◌, ◌≤◌, ◌<◌}
use native.Mathlib.Numerals.{add-one}
use native.Mathlib.Nat.{zero-add}
use native.Mathlib.Omega.{arith}
use borrow.Author.Tests.{ltb-false}
use lib.Dec.{ltb}
use lib.ListN.{length, get_or, take, drop}
use Rattle.std.specs.Prelude.{Some, None}
use Rattle.std.specs.Option.{unwrap_or}
use Rattle.std.specs.List.{list_all, list_any, position_or_len, range_with_len}
use Rattle.std.proofs.Math.Seq.{take-length}
use Rattle.std.proofs.lemmas.List.Folds.{list_all_more, list_any_more}
use Rattle.std.proofs.lemmas.List.{get_or-take, get_or-drop, length-take-le, length-drop}
use Rattle.std.proofs.lemmas.List.Sums.{position_or_len_is}
use Rattle.std.proofs.lemmas.List.FromFn.{length-range_with_len, get_or-range_with_len}
use Rattle.lists.specs.Choice.{every, first}
use Rattle.lists.specs.Loops.{any}
use Rattle.lists.proofs.Choice.{every-same}
use Rattle.lists.proofs.Firsts.{first-within, first-fails, first-test}
use Rattle.lists.proofs.Loops.{any_same}

module _ {X : Type 0} (test : X → Bool) (xs : List X) (d : X) where
  all-taken : (n : ℕ) → n ≤ length xs → list_all test (take n xs) ≡ every n (λ i. test (get_or xs i d))
  all-taken zero h = refl
  all-taken (suc n) h = ap (λ (k : ℕ). list_all test (take k xs)) (sym (add-one n)) ∙ list_all_more test xs n d (omega arith) ∙ ap (λ (t : Bool). t && test (get_or xs n d)) (all-taken n (omega arith))

  any-taken : (n : ℕ) → n ≤ length xs → list_any test (take n xs) ≡ any false n (λ i. test (get_or xs i d))
  any-taken zero h = refl
  any-taken (suc n) h = ap (λ (k : ℕ). list_any test (take k xs)) (sym (add-one n)) ∙ list_any_more test xs n d (omega arith) ∙ ap (λ (t : Bool). t || test (get_or xs n d)) (any-taken n (omega arith))

  pub all_listed : list_all test xs ≡ every (length xs) (λ i. test (get_or xs i d))
  all_listed = ap (λ (l : List X). list_all test l) (sym (take-length xs)) ∙ all-taken (length xs) (omega arith)

  pub any_listed : list_any test xs ≡ any false (length xs) (λ i. test (get_or xs i d))
  any_listed = ap (λ (l : List X). list_any test l) (sym (take-length xs)) ∙ any-taken (length xs) (omega arith)

-- Of the first n numbers.
numbered : (n k : ℕ) → k < n → get_or (range_with_len 0 n) k 0 ≡ k
numbered n k h = get_or-range_with_len 0 n k 0 h ∙ zero-add k

pub all-range : (test : ℕ → Bool) (n : ℕ) → list_all test (range_with_len 0 n) ≡ every n test
all-range test n =
    all_listed test (range_with_len 0 n) 0
    ∙ ap (λ (k : ℕ). every k (λ i. test (get_or (range_with_len 0 n) i 0))) (length-range_with_len 0 n)
    ∙ every-same n _ _ (λ k h. ap test (numbered n k h))

pub any-range : (test : ℕ → Bool) (n : ℕ) → list_any test (range_with_len 0 n) ≡ any false n test
any-range test n =
    any_listed test (range_with_len 0 n) 0
    ∙ ap (λ (k : ℕ). any false k (λ i. test (get_or (range_with_len 0 n) i 0))) (length-range_with_len 0 n)
    ∙ any_same n _ _ (λ k h. ap test (numbered n k h))

-- The first place that passes: where none does, the length.
pub first-listed : {X : Type 0} (test : X → Bool) (xs : List X) (d : X) → position_or_len test xs ≡ first (length xs) (λ i. test (get_or xs i d))
first-listed test xs d =
    let at : ℕ → Bool = λ i. test (get_or xs i d) in
    position_or_len_is test xs (first (length xs) at) d (first-within (length xs) at) (first-fails (length xs) at) (first-test (length xs) at)

-- What `position` answers, and the length where it answers none.
pub position-listed : {X : Type 0} (test : X → Bool) (xs : List X) (d : X) (n : ℕ) → length xs ≡ n
    → unwrap_or (cond (ltb (position_or_len test xs) (length xs)) (Some (position_or_len test xs)) None) n ≡ first n (λ i. test (get_or xs i d))
position-listed test xs d n size =
    go (ltb (position_or_len test xs) (length xs)) refl ∙ first-listed test xs d ∙ ap (λ (k : ℕ). first k (λ i. test (get_or xs i d))) size
  where
    within : position_or_len test xs ≤ length xs
    within = omega (arith, first-listed test xs d, first-within (length xs) (λ i. test (get_or xs i d)))

    go : (b : Bool) → ltb (position_or_len test xs) (length xs) ≡ b → unwrap_or (cond b (Some (position_or_len test xs)) None) n ≡ position_or_len test xs
    go true e = refl
    go false e = let past = ltb-false (position_or_len test xs) (length xs) e in omega (arith, within, past, size)

-- A part of a list, and two tests at once.
pub all-part : (test : ℕ → Bool) (xs : List ℕ) (from n : ℕ) → from + n ≤ length xs → list_all test (take (from + n - from) (drop from xs)) ≡ every n (λ i. test (get_or xs (from + i) 0))
all-part test xs from n inside =
    let own : List ℕ = take (from + n - from) (drop from xs) in
    let size : length own ≡ n = length-take-le (from + n - from) (drop from xs) (omega (arith, length-drop from xs)) ∙ omega arith in
    all_listed test own 0
    ∙ ap (λ (k : ℕ). every k (λ i. test (get_or own i 0))) size
    ∙ every-same n _ _ (λ i h. ap test (get_or-take (from + n - from) (drop from xs) i 0 (omega arith) ∙ get_or-drop from xs i 0))

pub every-both : (n : ℕ) (one other : ℕ → Bool) → (every n one && every n other) ≡ every n (λ i. one i && other i)
every-both zero one other = refl
every-both (suc n) one other = turned (every n one) (one n) (every n other) (other n) ∙ ap (λ (t : Bool). t && (one n && other n)) (every-both n one other)
  where
    turned : (a b c d : Bool) → ((a && b) && (c && d)) ≡ ((a && c) && (b && d))
    turned false b c d = refl
    turned true true c d = refl
    turned true false true d = refl
    turned true false false d = refl
