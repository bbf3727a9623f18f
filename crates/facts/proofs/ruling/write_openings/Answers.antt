use Prim.Native.Nat.{ℕ, ◌<◌, ◌+◌}
use mathlib.Core.Bool.{Bool, true, false, cond, ◌||◌}
use mathlib.Core.List.{List, ◌++◌}
use mathlib.Core.Path.{◌≡◌, refl, sym, ap, ◌∙◌}
use native.Mathlib.Omega.{arith}
use lib.ListN.{length, take, drop, get_or, replicate}
use Rattle.std.proofs.lemmas.List.{length-take-le}
use Rattle.lists.specs.Lists.{list_of, written}
use Rattle.lists.specs.Loops.{any}
use Rattle.lists.proofs.Listed.{length-list_of, get_or-list_of, list_of-same, list_of-const}
use Rattle.lists.proofs.Joined.{get_or-written, written-written}
use Rattle.lists.proofs.Loops.{any-turn}
use Rattle.facts.specs.Facts.{Facts, rules_out}
use Rattle.facts.specs.Inner.{closed}
use Rattle.facts.proofs.ruling.write_openings.Invariants.{open_after}
use Rattle.facts.proofs.ruling.write_openings.Goals as goal

-- What one fact more leaves, where some have left 0 or 1.
one_more : (some this : Bool) → ◌≡◌ {A = ℕ} (cond this 0 (cond some 0 1)) (cond (some || this) 0 1)
one_more true true = refl
one_more true false = refl
one_more false true = refl
one_more false false = refl

pub loop-f-init : goal.loop-f-init
loop-f-init c = let a = c.args in
    let size : length (take a.nodes a.out.now) ≡ a.nodes = length-take-le a.nodes a.out.now c.requires.nodes_in_bounds in
    let filled : c.fill.new.self ≡ list_of a.nodes (λ (n : ℕ). 1) = c.fill.ensures.after (λ y e. e) ∙ ap (λ (n : ℕ). replicate n 1) size ∙ sym (list_of-const a.nodes 1) in
    ap (λ (m : List ℕ). m ++ drop a.nodes a.out.now) filled
    ∙ ap (λ (k : ℕ). list_of a.nodes (λ (n : ℕ). 1) ++ drop k a.out.now) (sym (length-list_of a.nodes (λ (n : ℕ). 1)))

pub loop-f-preserved : goal.loop-f-preserved
loop-f-preserved c = let a = c.args in
    let l = c.loop-f in
    let facts : Facts = record { coefficients = a.coefficients.now; limits = a.limits.now } in
    let before : ℕ → ℕ = open_after a.coefficients.now a.limits.now a.nodes l.f in
    let after : ℕ → ℕ = open_after a.coefficients.now a.limits.now a.nodes (l.f + 1) in
    let stood : List ℕ = written (list_of a.nodes before) a.out.now in
    let turn : (n : ℕ) → n < a.nodes → cond (rules_out a.nodes facts n l.f) 0 (get_or stood n 0) ≡ after n =
    (λ n h. ap (λ (x : ℕ). cond (rules_out a.nodes facts n l.f) 0 x) (get_or-written (list_of a.nodes before) a.out.now n 0 (omega (arith, length-list_of a.nodes before)) ∙ get_or-list_of a.nodes before 0 n h)
    ∙ one_more (any false l.f (rules_out a.nodes facts n)) (rules_out a.nodes facts n l.f)
    ∙ ap (λ (b : Bool). cond b 0 1) (any-turn false l.f (rules_out a.nodes facts n) _ _ refl refl)) in
    c.close.ensures
    ∙ ap (λ (m : List ℕ). written (closed a.nodes facts l.f m) m) l.invariant
    ∙ written-written (closed a.nodes facts l.f stood) (list_of a.nodes before) a.out.now (length-list_of a.nodes _ ∙ sym (length-list_of a.nodes before))
    ∙ ap (λ (xs : List ℕ). written xs a.out.now) (list_of-same a.nodes _ after turn)

pub returns : goal.returns
returns c = let a = c.args in
    let l = c.loop-f in
    let end : l.f ≡ length a.limits.now = omega arith in
    l.invariant ∙ ap (λ (k : ℕ). written (list_of a.nodes (open_after a.coefficients.now a.limits.now a.nodes k)) a.out.now) end
