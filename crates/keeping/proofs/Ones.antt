-- How many bits of a word are set.
use mathlib.Core.Bool.{cond}
use mathlib.Core.Path.{◌≡◌, refl, ap, ◌∙◌}
use Prim.Native.Nat.{ℕ, zero, suc, ◌+◌, ◌/◌, ◌%◌, ◌^◌, ◌≤◌, ◌<◌}
use native.Mathlib.Nat.{div-one}
use native.Mathlib.Omega.{arith}
use borrow.Author.Tests.{eq-eqb, ne_eqb}
use lib.Count.{ones, ones_step}
use lib.Dec.{eqb}
use lib.Pow.{shr-shr, shr_lt}
use Rattle.lists.specs.Lists.{sum_of}
use Rattle.lists.proofs.Sums.{sum-equal}
use Rattle.bits.specs.Bits.{bit_at}
use Rattle.keeping.proofs.Sums.{sum-but-one}

sum_first : (n : ℕ) (f : ℕ → ℕ) → sum_of (suc n) f ≡ f 0 + sum_of n (λ j. f (suc j))
sum_first zero f = omega arith
sum_first (suc n) f = let rest = sum_first n f in omega arith

pub ones-sum : (count word : ℕ) → word < 2 ^ count → ones word ≡ sum_of count (bit_at word)
unfolding ones
ones-sum zero word h = let none : word ≡ 0 = omega arith in rw none
ones-sum (suc count) word h =
    let rest : ones (word / 2) ≡ sum_of count (bit_at (word / 2)) = ones-sum count (word / 2) (shr_lt count 1 (let e : count + 1 ≡ suc count = omega arith in rw e h)) in
    let shifted : sum_of count (bit_at (word / 2)) ≡ sum_of count (λ j. bit_at word (suc j)) = sum-equal count (bit_at (word / 2)) (λ j. bit_at word (suc j)) (λ j k. let e : 1 + j ≡ suc j = omega arith in ap (λ (x : ℕ). x % 2) (shr-shr word 1 j ∙ ap (λ (i : ℕ). word / 2 ^ i) e)) in
    let lowest : bit_at word 0 ≡ word % 2 = ap (λ (x : ℕ). x % 2) (div-one word) in
    let whole = sum_first count (bit_at word) in
    let halved = ones_step word in
    omega arith

-- Those that are set besides one bit, and this one, are all.
pub others-and-own : (count word block : ℕ) → word < 2 ^ count → block < count → sum_of count (λ j. cond (eqb j block) 0 (bit_at word j)) + bit_at word block ≡ ones word
others-and-own count word block h inside =
    let all = ones-sum count word h in
    let own : cond (eqb block block) 0 (bit_at word block) ≡ 0 = rw (eq-eqb block block refl) in
    let but = sum-but-one count block (λ j. cond (eqb j block) 0 (bit_at word j)) (bit_at word) inside (λ j k q. rw (ne_eqb j block q)) in
    omega arith

-- A bit is among those that are set.
pub bit-counted : (count word block : ℕ) → word < 2 ^ count → block < count → bit_at word block ≤ ones word
bit-counted count word block h inside = omega (arith, others-and-own count word block h inside)
