use Rattle.std.specs.Prelude.{ℕ, ◌≤◌, Ok}
use mathlib.Core.List.{◌++◌}
use mathlib.Core.Path.{◌≡◌}
use native.Mathlib.Omega.{arith}
use borrow.Author.Tests.{le-ltb}
use lib.ListN.{length, get_or, drop}
use Rattle.lists.specs.Loops.{patch}
use Rattle.chart.specs.Layout.{chart_length}
use Rattle.blocks.proofs.Copied.{patch-copied}
use Rattle.writer.proofs.writing.store.Goals as goal

pub returns : goal.returns
returns c =
    let used : ℕ = chart_length c.args.nodes in
    let room : used ≤ length c.args.chart.now = omega (arith, c.if-chart-used.false) in
    let stored : c.copy_from_slice.new.self ++ drop used c.args.chart.now ≡ patch c.args.chart.now 0 used (λ k. get_or c.args.packed.now k 0) =
    rw c.copy_from_slice.ensures.after (patch-copied c.args.chart.now c.args.packed.now used c.requires.1 room)
    in
    rw (le-ltb (length c.args.chart.now) used room) (λ i. record { answer = Ok used; chart = stored i })
