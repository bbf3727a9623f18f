use Prim.Native.Nat.{ℕ}
use mathlib.Core.List.{List, ◌++◌}
use mathlib.Core.Path.{◌≡◌, sym, ap, ◌∙◌}
use native.Mathlib.Omega.{arith}
use lib.ListN.{length, get_or, take, drop}
use Rattle.std.proofs.lemmas.List.{get_or-take, length-take-le}
use Rattle.lists.specs.Lists.{list_of}
use Rattle.lists.specs.Loops.{patch}
use Rattle.lists.proofs.Listed.{length-list_of, list_of-same}
use Rattle.lists.proofs.Loops.{patch-turn0, patch-ahead, patch-whole, patch-written}
use Rattle.classing.specs.Both.{refined}
use Rattle.classing.proofs.refining.refine_all.Goals as goal

pub loop-i-preserved : goal.loop-i-preserved
loop-i-preserved c = let a = c.args in
    let l = c.loop-i in
    let front : List ℕ = take a.count a.classes.now in
    let f : ℕ → ℕ = λ k. refined (get_or front k 0) (get_or a.stays.now k 0) in
    let read : get_or l.class-items l.i 0 ≡ get_or front l.i 0 = ap (λ (m : List ℕ). get_or m l.i 0) l.invariant ∙ patch-ahead front 0 l.i f l.i (omega arith) in
    patch-turn0 front l.i f l.class-items c.refine.result l.invariant (c.refine.ensures ∙ ap (λ (class : ℕ). refined class (get_or a.stays.now l.i 0)) read)

pub returns : goal.returns
returns c = let a = c.args in
    let l = c.loop-i in
    let front : List ℕ = take a.count a.classes.now in
    let f : ℕ → ℕ = λ k. refined (get_or front k 0) (get_or a.stays.now k 0) in
    let g : ℕ → ℕ = λ k. refined (get_or a.classes.now k 0) (get_or a.stays.now k 0) in
    let size : length front ≡ a.count = length-take-le a.count a.classes.now (omega arith) in
    let end : l.i ≡ length front = omega arith in
    let filled : l.class-items ≡ list_of a.count g = l.invariant ∙ ap (λ (k : ℕ). patch front 0 k f) end ∙ patch-whole front f ∙ ap (λ (k : ℕ). list_of k f) size ∙ list_of-same a.count f g (λ i h. ap (λ (class : ℕ). refined class (get_or a.stays.now i 0)) (get_or-take a.count a.classes.now i 0 h)) in
    ap (λ (m : List ℕ). m ++ drop a.count a.classes.now) filled
    ∙ ap (λ (k : ℕ). list_of a.count g ++ drop k a.classes.now) (sym (length-list_of a.count g))
    ∙ sym (patch-written a.classes.now a.count g (omega arith))
