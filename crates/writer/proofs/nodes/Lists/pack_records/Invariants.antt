use mathlib.Core.Path.{◌≡◌}
use Prim.Native.Nat.{◌*◌, ◌-◌, ◌≤◌}
use lib.ListN.{length}
use Rattle.lists.specs.Choice.{first, first_from}
use Rattle.lists.specs.Loops.{patch}
use Rattle.chart.specs.Chart.{broken_at}
use Rattle.writer.specs.Packing.{records_word, byte_of}
use Rattle.writer.specs.Given.{listed}
use Rattle.writer.specs.Held.{lists_in}
use Rattle.writer.proofs.nodes.Lists.pack_records.Given as goal

abbrev pub invariant-loop-n : goal.invariant-loop-n
invariant-loop-n l = (l.n ≤ l.nodes) × ((length l.chart ≡ length l.initial.chart)
    × ((first l.nodes (broken_at (listed (lists_in l.self)) l.nodes) ≡ first_from l.n (l.nodes - l.n) (broken_at (listed (lists_in l.self)) l.nodes))
    × (l.chart ≡ patch l.initial.chart 8 (8 * l.n) (byte_of (records_word (listed (lists_in l.self)))))))

abbrev pub decreases-loop-n : goal.decreases-loop-n
decreases-loop-n l = l.nodes - l.n
