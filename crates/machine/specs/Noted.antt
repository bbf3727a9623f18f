-- A machine that takes a note of its touches besides; and the plain machine with a note of whether this walk has touched the block of one column.
-- Rule 16.3, of that block; nothing else here is a rule of the tool: laws speak of it.
use Rattle.std.specs.Prelude.{ℕ, Bool, cond, ◌||◌, eqb}
use Rattle.chart.specs.Record.{Touch}
use Rattle.chart.specs.Chart.{Chart}
use Rattle.flow.specs.Walk.{Machine}
use Rattle.ages.specs.Plan.{columns_of}
use Rattle.ages.specs.Charted.{column_of, block_at, column_touch, plan_of}
use Rattle.kept.specs.Since.{Since}
use Rattle.kept.specs.Kept.{after_touch_of}
use Rattle.kept.specs.Younger.{SinceTrue}
use Rattle.machine.specs.Machine.{ways_of, key_of, plain_machine, Contents}

-- It holds what the other holds and the note, and finds what the other finds.
abbrev pub noting : {E N : Type 0} → Machine E → (E → N → N) → Machine E
noting {N = N} M note =
    record {
      Contents = M.Contents × N;
      Begins = λ x. M.Begins x.0;
      act = λ e x. (M.act e x.0, note e x.1);
      finds = λ e x. M.finds e x.0;
    }

-- How many misses of kept touches are left: one while the block is not noted.
abbrev pub left : Bool → ℕ
left noted = cond noted 0 1

module _ (chart : Chart) (column : ℕ) where
  -- A touch of the block is noted for good.
  abbrev pub note_touch : Touch → Bool → Bool
  note_touch touch noted = eqb (column_of chart touch.block) column || noted

  abbrev pub noted_machine : Machine Touch
  noted_machine = noting (plain_machine chart) note_touch

  abbrev pub NotedContents : Type 0
  NotedContents = Contents chart × Bool

  -- Rule 16.3, of the one block, by touches of blocks.
  abbrev pub touch_held : Touch → Since → Since
  touch_held touch since = after_touch_of (plan_of chart) column (column_touch chart touch) since

  -- What is held of the block is true of the contents and the note.
  abbrev pub HeldTrue : Since → NotedContents → Type 0
  HeldTrue since x = SinceTrue (columns_of (plan_of chart)) (ways_of chart) (key_of chart) (block_at chart) column since x.1 x.0
