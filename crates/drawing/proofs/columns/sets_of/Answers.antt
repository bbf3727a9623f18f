use Prim.Native.Nat.{ℕ, ◌≤◌}
use mathlib.Core.List.{List, ◌++◌}
use mathlib.Core.Path.{◌≡◌, sym, ap, ◌∙◌}
use native.Mathlib.Omega.{arith}
use lib.ListN.{length, get_or, take, drop, replicate, length-replicate}
use Rattle.std.proofs.lemmas.List.{length-take-le}
use Rattle.lists.specs.Lists.{list_of}
use Rattle.lists.specs.Loops.{patch}
use Rattle.lists.proofs.Listed.{length-list_of}
use Rattle.lists.proofs.Loops.{patch-whole, patch-written}
use Rattle.chart.specs.Geometry.{most_blocks, set_of}
use Rattle.drawing.proofs.columns.sets_of.Goals as goal

pub returns : goal.returns
returns c = let a = c.args in
    let l = c.loop-k in
    let zeros : List ℕ = replicate most_blocks 0 in
    let room : a.count ≤ length zeros = omega (arith, length-replicate {A = ℕ} most_blocks 0) in
    let front : List ℕ = take a.count zeros in
    let f : ℕ → ℕ = λ k. set_of a.geometry (get_or a.blocks.now k 0) in
    let size : length front ≡ a.count = length-take-le a.count zeros room in
    let end : l.k ≡ length front = omega arith in
    let filled : l.set-items ≡ list_of a.count f = l.invariant ∙ ap (λ (k : ℕ). patch front 0 k f) end ∙ patch-whole front f ∙ ap (λ (k : ℕ). list_of k f) size in
    ap (λ (m : List ℕ). m ++ drop a.count zeros) filled
    ∙ ap (λ (k : ℕ). list_of a.count f ++ drop k zeros) (sym (length-list_of a.count f))
    ∙ sym (patch-written zeros a.count f room)
