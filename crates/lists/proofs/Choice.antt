-- Laws of the first rule that applies, of the first number that passes a test, of two tests, and of a test that every number passes.
use Rattle.std.specs.Prelude.{Option, Some, None}
use mathlib.Core.Bool.{Bool, true, false, cond, ◌&&◌, ◌||◌}
use mathlib.Core.List.{List, [], ◌∷◌, ◌++◌}
use mathlib.Core.Logic.{◌⊎◌, inl, inr, ⊎_elim}
use mathlib.Core.Path.{◌≡◌, refl, sym, ap, ◌∙◌}
use Prim.Native.Nat.{ℕ, zero, suc, ◌+◌, ◌-◌, ◌≤◌, ◌<◌}
use native.Mathlib.Numerals.{add-one}
use native.Mathlib.Omega.{arith}
use native.Mathlib.Decide.{ℕ_discrete}
use borrow.Author.Tests.{ltb-false, le-ltb}
use lib.Dec.{ltb}
use Rattle.lists.specs.Choice.{Case, ◌⇒◌, first_case, NoneApplies, FirstApplies, first_from, first, found, every, every_of}
use Rattle.lists.specs.Lists.{Among}
use Rattle.lists.specs.Answers.{every_answer}

-- ---- two tests

pub and-true : (a b : Bool) → (a && b) ≡ true → (a ≡ true) × (b ≡ true)
and-true true b e = (refl, e)
and-true false b e = let z : ◌≡◌ {A = ℕ} 0 1 = cc in absurd (omega arith)

pub true-and : (a b : Bool) → a ≡ true → b ≡ true → (a && b) ≡ true
true-and a b e d = rw (e, d)

pub and_last : (a : Bool) → (a && true) ≡ a
and_last true = refl
and_last false = refl

pub or-last : (a : Bool) → (a || false) ≡ a
or-last true = refl
or-last false = refl

pub or-always : (a : Bool) → (a || true) ≡ true
or-always true = refl
or-always false = refl

pub or-false : (a b : Bool) → (a || b) ≡ false → (a ≡ false) × (b ≡ false)
or-false true b e = let z : ◌≡◌ {A = ℕ} 0 1 = cc in absurd (omega arith)
or-false false b e = (refl, e)

pub false-or : (a b : Bool) → a ≡ false → b ≡ false → (a || b) ≡ false
false-or a b e d = rw (e, d)

-- One or the other: the second, where the first does not.
pub or-true : (a b : Bool) → (a || b) ≡ true → a ≡ false → b ≡ true
or-true a b e d = rw d at e

pub true-or : (a b : Bool) → (a ≡ false → b ≡ true) → (a || b) ≡ true
true-or true b h = refl
true-or false b h = h refl

pub same_tests : (a b : Bool) → (a ≡ true → b ≡ true) → (b ≡ true → a ≡ true) → a ≡ b
same_tests true b g h = sym (g refl)
same_tests false true g h = h refl
same_tests false false g h = refl

-- ---- the first rule

-- Where the whole answers what no rule says, none applies.
pub none-applies : {X Y : Type 0} (say : X → Y) (cases : List (Case X)) (y z : Y) → ((x : X) → say x ≡ z → ⊥) → first_case say cases y ≡ z → NoneApplies cases
none-applies say [] y z never e = tt
none-applies say ((test ⇒ answer) ∷ cases) y z never e = go test e (none-applies say cases y z never)
  where
    go : (t : Bool) → cond t (say answer) (first_case say cases y) ≡ z → (first_case say cases y ≡ z → NoneApplies cases) → (t ≡ false) × NoneApplies cases
    go true e rest = absurd (never answer e)
    go false e rest = (refl, rest e)

pub first-otherwise : {X Y : Type 0} (say : X → Y) (cases : List (Case X)) (y : Y) → NoneApplies cases → first_case say cases y ≡ y
first-otherwise say [] y none = refl
first-otherwise say ((test ⇒ answer) ∷ cases) y none = rw none.0 (first-otherwise say cases y none.1)

pub first-after : {X Y : Type 0} (say : X → Y) (cases more : List (Case X)) (y : Y) → NoneApplies cases → first_case say (cases ++ more) y ≡ first_case say more y
first-after say [] more y none = refl
first-after say ((test ⇒ answer) ∷ cases) more y none = rw none.0 (first-after say cases more y none.1)

-- Cases one after another: none of all applies exactly if none of either part does.
pub none-front : {X : Type 0} (cases more : List (Case X)) → NoneApplies (cases ++ more) → NoneApplies cases
none-front [] more none = tt
none-front ((test ⇒ answer) ∷ cases) more none = (none.0, none-front cases more none.1)

pub none-back : {X : Type 0} (cases more : List (Case X)) → NoneApplies (cases ++ more) → NoneApplies more
none-back [] more none = none
none-back ((test ⇒ answer) ∷ cases) more none = none-back cases more none.1

pub none_both : {X : Type 0} (cases more : List (Case X)) → NoneApplies cases → NoneApplies more → NoneApplies (cases ++ more)
none_both [] more none rest = rest
none_both ((test ⇒ answer) ∷ cases) more none rest = (none.0, none_both cases more none.1 rest)

-- The first of all is the first of the front, or of the rest.
pub first_either : {X : Type 0} (cases more : List (Case X)) (x : X) → FirstApplies (cases ++ more) x → FirstApplies cases x ⊎ FirstApplies more x
first_either [] more x f = inr f
first_either ((test ⇒ answer) ∷ cases) more x (inl e) = inl (inl e)
first_either ((test ⇒ answer) ∷ cases) more x (inr e) = ⊎_elim (λ (f : FirstApplies cases x). inl (inr (e.0, f))) (λ (f : FirstApplies more x). inr f) (first_either cases more x e.1)

-- What is made of the answer is made of each case's.
pub first-through : {X Y Z : Type 0} (make : Y → Z) (say : X → Y) (cases : List (Case X)) (y : Y) → make (first_case say cases y) ≡ first_case (λ x. make (say x)) cases (make y)
first-through make say [] y = refl
first-through make say ((true ⇒ answer) ∷ cases) y = refl
first-through make say ((false ⇒ answer) ∷ cases) y = first-through make say cases y

-- A rule that is the first to apply gives the answer, and an answer that a rule gives is the first's.
pub first-applies : {X Y : Type 0} (say : X → Y) (cases : List (Case X)) (y : Y) (x : X) → FirstApplies cases x → first_case say cases y ≡ say x
first-applies say [] y x f = absurd f
first-applies say ((test ⇒ answer) ∷ cases) y x f = go test f (first-applies say cases y x)
  where
    go : (t : Bool) → ((t ≡ true) × (answer ≡ x)) ⊎ ((t ≡ false) × FirstApplies cases x) → (FirstApplies cases x → first_case say cases y ≡ say x) → cond t (say answer) (first_case say cases y) ≡ say x
    go true (inl e) rest = ap say e.1
    go true (inr e) rest = let z : ◌≡◌ {A = ℕ} 0 1 = cc in absurd (omega arith)
    go false (inl e) rest = let z : ◌≡◌ {A = ℕ} 0 1 = cc in absurd (omega arith)
    go false (inr e) rest = rest e.1

pub applies-first : {X Y : Type 0} (say : X → Y) (cases : List (Case X)) (y : Y) (x : X) → ((a b : X) → say a ≡ say b → a ≡ b) → (y ≡ say x → ⊥) → first_case say cases y ≡ say x → FirstApplies cases x
applies-first say [] y x apart never e = absurd (never e)
applies-first say ((test ⇒ answer) ∷ cases) y x apart never e = go test e (applies-first say cases y x apart never)
  where
    go : (t : Bool) → cond t (say answer) (first_case say cases y) ≡ say x → (first_case say cases y ≡ say x → FirstApplies cases x) → ((t ≡ true) × (answer ≡ x)) ⊎ ((t ≡ false) × FirstApplies cases x)
    go true e rest = inl (refl, apart answer x e)
    go false e rest = inr (refl, rest e)

pub first-front : {X : Type 0} (cases more : List (Case X)) (x : X) → FirstApplies cases x → FirstApplies (cases ++ more) x
first-front [] more x f = absurd f
first-front ((test ⇒ answer) ∷ cases) more x f = ⊎_elim (λ e. inl e) (λ e. inr (e.0, first-front cases more x e.1)) f

-- Where every answer that the rules may give passes a test, the one that is given does.
pub answer-passes : {X : Type 0} (test : X → Bool) (cases : List (Case X)) (x : X) → every_answer test cases ≡ true → FirstApplies cases x → test x ≡ true
answer-passes test [] x e f = absurd f
answer-passes test ((applies ⇒ answer) ∷ cases) x e f =
    let both = and-true (test answer) (every_answer test cases) e in
    ⊎_elim (λ h. ap test (sym h.1) ∙ both.0) (λ h. answer-passes test cases x both.1 h.1) f

-- ---- the first number that passes

first_step : (n k : ℕ) → k < n → n - k ≡ suc (n - (k + 1))
first_step n k h = omega arith

-- A search from 0 that has come to k: where it begins, a number passed over, one found, and the end.
pub first-begins : (n : ℕ) (test : ℕ → Bool) → first n test ≡ first_from 0 (n - 0) test
first-begins n test = let e : n - 0 ≡ n = omega arith in rw e

pub first_passes : (n k : ℕ) (test : ℕ → Bool) → k < n → test k ≡ false → first n test ≡ first_from k (n - k) test → first n test ≡ first_from (k + 1) (n - (k + 1)) test
first_passes n k test h fails e = let s = first_step n k h in e ∙ (rw (s, fails, add-one))

pub first_found : (n k : ℕ) (test : ℕ → Bool) → k < n → test k ≡ true → first n test ≡ first_from k (n - k) test → first n test ≡ k
first_found n k test h holds e = let s = first_step n k h in e ∙ (rw (s, holds))

pub first_ends : (n k : ℕ) (test : ℕ → Bool) → n ≤ k → first n test ≡ first_from k (n - k) test → first n test ≡ k
first_ends n k test h e = let s : n - k ≡ 0 = omega arith in e ∙ (rw s)

-- A search that finds none has tried all.
tried : (k left : ℕ) (test : ℕ → Bool) → first_from k left test ≡ k + left → (i : ℕ) → i < left → test (k + i) ≡ false
tried k zero test e i h = absurd (omega arith)
tried k (suc left) test e i h = go (test k) refl i h (tried (suc k) left test)
  where
    go : (t : Bool) → test k ≡ t → (i : ℕ) → i < suc left → (first_from (suc k) left test ≡ suc k + left → (i : ℕ) → i < left → test (suc k + i) ≡ false) → test (k + i) ≡ false
    go true q i h rest = let z : k ≡ k + suc left = (rw q at e) in absurd (omega arith)
    go false q zero h rest = let z : k + 0 ≡ k = omega arith in rw z q
    go false q (suc i) h rest =
        let z : k + suc i ≡ suc k + i = omega arith in
        let later : first_from (suc k) left test ≡ k + suc left = (rw q at e) in
        rw z (rest (omega arith) i (omega arith))

pub first-most : (k left : ℕ) (test : ℕ → Bool) → first_from k left test ≤ k + left
first-most k zero test = omega arith
first-most k (suc left) test = go (test k) (first-most (suc k) left test)
  where
    go : (t : Bool) → first_from (suc k) left test ≤ suc k + left → cond t k (first_from (suc k) left test) ≤ k + suc left
    go true h = omega arith
    go false h = omega arith

pub none_passes : (n : ℕ) (test : ℕ → Bool) → ltb (first n test) n ≡ false → (i : ℕ) → i < n → test i ≡ false
none_passes n test e i h =
    let low = ltb-false (first n test) n e in
    let high = first-most 0 n test in
    let z : 0 + i ≡ i = omega arith in
    rw z at (tried 0 n test (omega arith) i h)

-- Where none passes, the search ends past them.
first-all : (k left : ℕ) (test : ℕ → Bool) → ((i : ℕ) → k ≤ i → i < k + left → test i ≡ false) → first_from k left test ≡ k + left
first-all k zero test fails = omega arith
first-all k (suc left) test fails =
    let here : test k ≡ false = fails k (omega arith) (omega arith) in
    let rest = first-all (suc k) left test (λ i a b. fails i (omega arith) (omega arith)) in
    rw here (omega arith)

pub passes_none : (n : ℕ) (test : ℕ → Bool) → ((i : ℕ) → i < n → test i ≡ false) → ltb (first n test) n ≡ false
passes_none n test fails =
    let ends = first-all 0 n test (λ i a b. fails i (omega arith)) in
    le-ltb (first n test) n (omega arith)

-- Two tests that tell the same of each number below n.
first_from-same : (k left : ℕ) (one other : ℕ → Bool) → ((i : ℕ) → i < k + left → one i ≡ other i) → first_from k left one ≡ first_from k left other
first_from-same k zero one other same = refl
first_from-same k (suc left) one other same =
    let here : one k ≡ other k = same k (omega arith) in
    let rest : first_from (suc k) left one ≡ first_from (suc k) left other = first_from-same (suc k) left one other (λ i h. same i (omega arith)) in
    rw (here, rest)

pub first-same : (n : ℕ) (one other : ℕ → Bool) → ((i : ℕ) → i < n → one i ≡ other i) → first n one ≡ first n other
first-same n one other same = first_from-same 0 n one other (λ i h. same i (omega arith))

-- ---- every number

pub every-all : (n : ℕ) (test : ℕ → Bool) → every n test ≡ true → (i : ℕ) → i < n → test i ≡ true
every-all zero test e i h = absurd (omega arith)
every-all (suc n) test e i h = go (ℕ_discrete i n) (and-true (every n test) (test n) e) (every-all n test)
  where
    go : Dec (i ≡ n) → (every n test ≡ true) × (test n ≡ true) → (every n test ≡ true → (i : ℕ) → i < n → test i ≡ true) → test i ≡ true
    go (yes q) both rest = rw q both.1
    go (no q) both rest = rest both.0 i (omega arith)

pub all-every : (n : ℕ) (test : ℕ → Bool) → ((i : ℕ) → i < n → test i ≡ true) → every n test ≡ true
all-every zero test h = refl
all-every (suc n) test h =
    true-and (every n test) (test n) (all-every n test (λ i k. h i (omega arith))) (h n (omega arith))

-- Two tests that tell the same of each number below n.
pub every-same : (n : ℕ) (one other : ℕ → Bool) → ((i : ℕ) → i < n → one i ≡ other i) → every n one ≡ every n other
every-same zero one other h = refl
every-same (suc n) one other h =
    let rest : every n one ≡ every n other = every-same n one other (λ i k. h i (omega arith)) in
    let here : one n ≡ other n = h n (omega arith) in
    rw (here, rest)

-- ---- a test that every number of a list passes

pub every_of-all : (test : ℕ → Bool) (xs : List ℕ) → every_of test xs ≡ true → (t : ℕ) → Among t xs → test t ≡ true
every_of-all test [] e t i = absurd i
every_of-all test (x ∷ xs) e t (inl q) = rw q (and-true (test x) (every_of test xs) e).0
every_of-all test (x ∷ xs) e t (inr i) = every_of-all test xs (and-true (test x) (every_of test xs) e).1 t i

pub all-every_of : (test : ℕ → Bool) (xs : List ℕ) → ((t : ℕ) → Among t xs → test t ≡ true) → every_of test xs ≡ true
all-every_of test [] h = refl
all-every_of test (x ∷ xs) h = true-and (test x) (every_of test xs) (h x (inl refl)) (all-every_of test xs (λ t i. h t (inr i)))

-- ---- the first number that passes, if one does

pub found-some : (n k node : ℕ) → found n k ≡ Some node → (ltb k n ≡ true) × (k ≡ node)
found-some n k node = go (ltb k n)
  where
    go : (t : Bool) → ◌≡◌ {A = Option ℕ} (cond t (Some k) None) (Some node) → (t ≡ true) × (k ≡ node)
    go true e = (refl, cc)
    go false e = let z : ◌≡◌ {A = ℕ} 0 1 = cc in absurd (omega arith)

pub found-none : (n k : ℕ) → found n k ≡ None → ltb k n ≡ false
found-none n k = go (ltb k n)
  where
    go : (t : Bool) → ◌≡◌ {A = Option ℕ} (cond t (Some k) None) None → t ≡ false
    go true e = let z : ◌≡◌ {A = ℕ} 0 1 = cc in absurd (omega arith)
    go false e = refl
