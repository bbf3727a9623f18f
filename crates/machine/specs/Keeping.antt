-- Touches that are called kept and miss all the same: what is counted along a walk, of one block. Rules 5.3, 6.3, 6.4, 8.1, 8.2 and 16.3.
use Rattle.std.specs.Prelude.{ℕ, Bool, not, ◌&&◌, eqb}
use Rattle.chart.specs.Record.{Touch}
use Rattle.chart.specs.Chart.{Chart}
use Rattle.ages.specs.Charted.{column_touch, plan_of}
use Rattle.classes.specs.Class.{Whole, whole_after, class_of, kept}
use Rattle.machine.specs.Machine.{plain_machine, Contents}

-- Rules 6.3, 6.4 and 16.3: what a class goes by, after a touch of a block.
abbrev pub touch_whole : Chart → Touch → Whole → Whole
touch_whole chart touch whole = whole_after (plan_of chart) (column_touch chart touch) whole

-- Rule 8.1: whether a touch is called kept.
abbrev pub called_kept : Chart → Touch → Whole → Bool
called_kept chart touch whole = eqb (class_of (plan_of chart) (column_touch chart touch) whole) kept

-- Whether a touch is of this block, is called kept, and is a miss of the machine with these contents.
abbrev pub kept_miss : (chart : Chart) → ℕ → Touch → Whole → Contents chart → Bool
kept_miss chart block touch whole contents =
    eqb touch.block block && (called_kept chart touch whole && not ((plain_machine chart).finds touch contents))
