-- What the six lent lists of a contract hold, put together, and what inner functions ask of them. Nothing here is a rule of the tool.
use Rattle.std.specs.Prelude.{ℕ, ◌*◌, false, cond, ltb, List, ◌≡◌, Result, Ok, Err}
use Rattle.lists.specs.Slices.{Passed, Slice, MutSlice}
use Rattle.lists.specs.Loops.{patch}
use Rattle.chart.specs.declared.records.RecordFields.{RecordFields}
use Rattle.chart.specs.Chart.{first_broken}
use Rattle.writer.specs.Packing.{byte_of, records_word}
use Rattle.writer.specs.Given.{NodeLists}
use Rattle.writer.specs.Writer.{WriteLeft}
use Rattle.refusals.specs.declared.Refusal.{Refusal}
use Rattle.refusals.specs.declared.Refusal.TheVariants.{BrokenRecord}

-- The lists of six fields, each by its name.
abbrev pub six_lists : List ℕ → List ℕ → List ℕ → List ℕ → List ℕ → List ℕ → NodeLists
six_lists kinds addresses sizes outs firsts seconds =
    record {
      kinds = kinds;
      addresses = addresses;
      sizes = sizes;
      outs = outs;
      firsts = firsts;
      seconds = seconds;
    }

-- In a `requires`.
abbrev pub lent_lists : Passed → Passed → Passed → Passed → Passed → Passed → NodeLists
lent_lists kinds addresses sizes outs firsts seconds =
    six_lists kinds.now addresses.now sizes.now outs.now firsts.now seconds.now

-- In an `ensures`.
abbrev pub entry_lists : Slice → Slice → Slice → Slice → Slice → Slice → NodeLists
entry_lists kinds addresses sizes outs firsts seconds =
    lent_lists kinds.entry addresses.entry sizes.entry outs.entry firsts.entry seconds.entry

-- The answer with the buffer at exit.
abbrev pub exit_writing : MutSlice → Result ℕ Refusal → WriteLeft
exit_writing chart answer = record { answer = answer; chart = chart.exit.now }

-- What packing the records of so many nodes answers, and the bytes after it where no record breaks its rules.
pub record Packs (records : ℕ → RecordFields) (nodes : ℕ) (before : List ℕ) (answer : Result (Unit {0}) Refusal) (after : List ℕ) : Type 0 where
  pub answered : answer ≡ cond (ltb (first_broken records nodes) nodes) (Err (BrokenRecord (first_broken records nodes))) (Ok tt)
  pub laid : ltb (first_broken records nodes) nodes ≡ false → after ≡ patch before 8 (8 * nodes) (byte_of (records_word records))
