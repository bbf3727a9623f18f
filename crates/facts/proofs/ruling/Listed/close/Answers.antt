use Rattle.std.proofs.Common.{rules}
use Prim.Native.Nat.{ℕ, ◌<◌, ◌+◌, ◌*◌, ◌-◌}
use mathlib.Core.Bool.{Bool, true, false, cond, ◌&&◌}
use mathlib.Core.List.{List, ◌++◌}
use mathlib.Core.Path.{◌≡◌, sym, ap, ◌∙◌}
use native.Mathlib.Omega.{arith}
use borrow.Author.Tests.{tests}
use lib.Dec.{ltb}
use lib.IntN.{ℤ, pos}
use lib.ListN.{length, take, drop, get_or}
use mir.Syntax.{w64}
use mir.Val.{SFits}
use Rattle.std.proofs.lemmas.Int.{to_z-of_z}
use Rattle.std.proofs.Math.Bool.{and-false}
use Rattle.std.proofs.lemmas.List.{get_or-take, get_or-drop, length-take-le, take-append-drop}
use Rattle.lists.specs.Lists.{list_of}
use Rattle.lists.specs.Loops.{patch}
use Rattle.lists.proofs.Choice.{and_last}
use Rattle.lists.proofs.Listed.{length-list_of, list_of-same, list_of-take}
use Rattle.lists.proofs.Loops.{patch-turn0, patch-ahead, patch-whole}
use Rattle.facts.specs.Parts.{above}
use Rattle.facts.specs.Facts.{Facts, coefficient_at, rules_out}
use Rattle.facts.specs.Inner.{is_ruling, closed}
use Rattle.facts.proofs.ruling.Listed.close.Goals as goal

pub returns-then-not-is_ruling : goal.returns-then-not-is_ruling
returns-then-not-is_ruling c = let a = c.args.self.now in
    let out : List ℕ = c.args.out.now in
    let facts : Facts = record { coefficients = a.coefficients.now; limits = a.limits.now } in
    let never : is_ruling a.nodes facts c.args.f ≡ false = search (rules, tests) in
    let counts : ℕ → Bool = λ n. ltb 0 (above (coefficient_at a.nodes facts c.args.f n)) in
    let as_before : closed a.nodes facts c.args.f out ≡ take a.nodes out =
    list_of-same a.nodes _ (λ n. get_or out n 0) (λ n h. ap (λ (b : Bool). cond (counts n && b) 0 (get_or out n 0)) never ∙ ap (λ (b : Bool). cond b 0 (get_or out n 0)) (and-false (counts n)))
    ∙ list_of-take a.nodes out 0 (omega arith) in
    sym (ap (λ (xs : List ℕ). xs ++ drop (length xs) out) as_before ∙ ap (λ (k : ℕ). take a.nodes out ++ drop k out) (length-take-le a.nodes out (omega arith)) ∙ take-append-drop a.nodes out)

pub loop-n-preserved : goal.loop-n-preserved
loop-n-preserved c = let a = c.args.self.now in
    let l = c.loop-n in
    let start : ℕ = c.args.f * a.nodes in
    let own : List ℤ = take (start + a.nodes - start) (drop start a.coefficients.now) in
    let front : List ℕ = take a.nodes c.args.out.now in
    let f : ℕ → ℕ = λ k. cond (ltb 0 (above (get_or own k (pos 0)))) 0 (get_or front k 0) in
    let fits : SFits w64 (get_or own l.n (pos 0)) = search rules in
    let e = simp to_z-of_z at c.left_open.ensures in
    let read : get_or l.open-items l.n 0 ≡ get_or front l.n 0 = ap (λ (m : List ℕ). get_or m l.n 0) l.invariant ∙ patch-ahead front 0 l.n f l.n (omega arith) in
    patch-turn0 front l.n f l.open-items c.left_open.result l.invariant (e ∙ ap (λ (x : ℕ). cond (ltb 0 (above (get_or own l.n (pos 0)))) 0 x) read)

pub returns : goal.returns
returns c = let a = c.args.self.now in
    let l = c.loop-n in
    let out : List ℕ = c.args.out.now in
    let facts : Facts = record { coefficients = a.coefficients.now; limits = a.limits.now } in
    let start : ℕ = c.args.f * a.nodes in
    let own : List ℤ = take (start + a.nodes - start) (drop start a.coefficients.now) in
    let front : List ℕ = take a.nodes out in
    let f : ℕ → ℕ = λ k. cond (ltb 0 (above (get_or own k (pos 0)))) 0 (get_or front k 0) in
    let rules_all : is_ruling a.nodes facts c.args.f ≡ true = search (rules, tests) in
    let counts : ℕ → Bool = λ n. ltb 0 (above (coefficient_at a.nodes facts c.args.f n)) in
    let size : length front ≡ a.nodes = length-take-le a.nodes out (omega arith) in
    let end : l.n ≡ length front = omega arith in
    let counted : (n : ℕ) → n < a.nodes → ltb 0 (above (get_or own n (pos 0))) ≡ rules_out a.nodes facts n c.args.f =
    (λ n h. ap (λ (z : ℤ). ltb 0 (above z)) (get_or-take (start + a.nodes - start) (drop start a.coefficients.now) n (pos 0) (omega arith) ∙ get_or-drop start a.coefficients.now n (pos 0))
    ∙ sym (ap (λ (b : Bool). counts n && b) rules_all ∙ and_last (counts n))) in
    let same : (n : ℕ) → n < a.nodes → f n ≡ cond (rules_out a.nodes facts n c.args.f) 0 (get_or out n 0) =
    (λ n h. (λ i. cond (counted n h i) 0 (get_or-take a.nodes out n 0 h i))) in
    let filled : l.open-items ≡ closed a.nodes facts c.args.f out =
    l.invariant ∙ ap (λ (k : ℕ). patch front 0 k f) end ∙ patch-whole front f ∙ ap (λ (k : ℕ). list_of k f) size ∙ list_of-same a.nodes f _ same in
    ap (λ (m : List ℕ). m ++ drop a.nodes out) filled
    ∙ ap (λ (k : ℕ). closed a.nodes facts c.args.f out ++ drop k out) (sym (length-list_of a.nodes _))
