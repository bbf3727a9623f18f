use Prim.Native.Nat.{ℕ, ◌+◌, ◌-◌, ◌≤◌}
use mathlib.Core.List.{List}
use mathlib.Core.Path.{◌≡◌, sym, ◌∙◌}
use native.Mathlib.Omega.{arith}
use lib.ListN.{length, take, drop, get_or}
use Rattle.std.proofs.lemmas.List.{get_or-take, get_or-drop, length-take-le, length-drop}
use Rattle.lists.specs.Lists.{list_of}
use Rattle.lists.proofs.Listed.{list_of-at, list_of-const}
use Rattle.chart.specs.Geometry.{most_blocks}
use Rattle.cache.specs.Ages.{start_ages}
use Rattle.rows.proofs.Row.start.Goals as goal

-- A list's elements from a place on, as many as a row has.
part_of : (columns : List ℕ) (start end : ℕ) → start + most_blocks ≡ end → end ≤ length columns → take (end - start) (drop start columns) ≡ list_of most_blocks (λ k. get_or columns (start + k) 0)
part_of columns start end e inside =
    let size : length (take (end - start) (drop start columns)) ≡ most_blocks = length-take-le (end - start) (drop start columns) (omega (arith, length-drop start columns)) ∙ omega arith in
    sym (list_of-at most_blocks (λ k. get_or columns (start + k) 0) (take (end - start) (drop start columns)) 0 size
    (λ i h. sym (get_or-take (end - start) (drop start columns) i 0 (omega arith) ∙ get_or-drop start columns i 0)))

pub returns-then-empty : goal.returns-then-empty
unfolding start_ages
returns-then-empty c = let columns = c.args.columns.now in
    let must = c.copy_from_slice.ensures.after ∙ part_of columns 64 128 (omega arith) (omega arith) in
    let may = c.copy_from_slice-then-empty.ensures.after ∙ part_of columns 128 192 (omega arith) (omega arith) in
    rw c.if-empty.true (λ i. record { must = must i; may = may i })

pub returns-else-empty : goal.returns-else-empty
unfolding start_ages
returns-else-empty c = let columns = c.args.columns.now in
    let must = c.copy_from_slice.ensures.after ∙ part_of columns 64 128 (omega arith) (omega arith) in
    rw c.if-empty.false (λ i. record { must = must i; may = sym (list_of-const most_blocks 0) i })
