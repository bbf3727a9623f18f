-- Two states that compare as the same are the same, and `SinceLess` is an order of states.
use mathlib.Core.Bool.{Bool, true, false, true≢false}
use mathlib.Core.List.{List, [], ◌∷◌}
use mathlib.Core.Path.{◌≡◌, refl, sym, ◌∙◌}
use Prim.Native.Nat.{ℕ}
use native.Mathlib.Omega.{arith}
use lib.Seq.{ext_get_or}
use Rattle.lists.proofs.Choice.{and-true, same_tests}
use Rattle.kept.specs.Since.{Since, is_in, same_flag, same_flags, same_since, SinceFits, SinceLess}

same_flag-equal : (a b : Bool) → same_flag a b ≡ true → a ≡ b
same_flag-equal true b e = sym e
same_flag-equal false true e = absurd (true≢false (sym e))
same_flag-equal false false e = refl

flag_same : (a : Bool) → same_flag a a ≡ true
flag_same true = refl
flag_same false = refl

same_flags-equal : (xs ys : List Bool) → same_flags xs ys ≡ true → xs ≡ ys
same_flags-equal [] [] e = refl
same_flags-equal [] (y ∷ ys) e = absurd (true≢false (sym e))
same_flags-equal (x ∷ xs) [] e = absurd (true≢false (sym e))
same_flags-equal (x ∷ xs) (y ∷ ys) e =
    let both = and-true (same_flag x y) (same_flags xs ys) e in
    let here = same_flag-equal x y both.0 in
    let rest = same_flags-equal xs ys both.1 in
    λ i. here i ∷ rest i

flags-same : (xs : List Bool) → same_flags xs xs ≡ true
flags-same [] = refl
flags-same (x ∷ xs) = rw (flag_same x) (flags-same xs)

pub same-since : (a b : Since) → same_since a b ≡ true → a ≡ b
unfolding same_since
same-since a b e =
    let both = and-true (same_flag a.touched b.touched) (same_flags a.others b.others) e in
    let touched = same_flag-equal a.touched b.touched both.0 in
    let others = same_flags-equal a.others b.others both.1 in
    λ i. record { touched = touched i; others = others i }

pub since-same : (a : Since) → same_since a a ≡ true
unfolding same_since
since-same a = rw (flag_same a.touched) (flags-same a.others)

module _ (count : ℕ) where
  pub less-refl : (a : Since) → SinceLess count a a
  less-refl a = record { touched = λ e. e; others = λ column h e. e }

  pub less-trans : (a b c : Since) → SinceLess count a b → SinceLess count b c → SinceLess count a c
  less-trans a b c s t =
      record { touched = λ e. t.touched (s.touched e); others = λ column h e. t.others column h (s.others column h e) }

  -- Two states with a flag for each column, each with no more than the other, are the same.
  pub less_both : (block : ℕ) (a b : Since) → SinceFits count block a → SinceFits count block b → SinceLess count a b → SinceLess count b a → a ≡ b
  less_both block a b f g s t =
      let touched : a.touched ≡ b.touched = same_tests a.touched b.touched s.touched t.touched in
      let others : a.others ≡ b.others
      = ext_get_or false a.others b.others (f.long ∙ sym g.long)
      (λ i h. let long = f.long in same_tests (is_in a.others i) (is_in b.others i) (s.others i (omega arith)) (t.others i (omega arith))) in
      λ i. record { touched = touched i; others = others i }
