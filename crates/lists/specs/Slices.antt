-- A lent slice as the clauses of a contract name it.
-- Nothing here is a rule of the tool: with it a contract can say in a few words what several slices hold.
use Rattle.std.specs.Prelude.{List, ℕ}
use Rattle.std.specs.Borrow.{Bor}
use denote.MutBor.{MutBor}
use denote.Triple.Both.{Both}

-- In a `requires`: the slice passed.
abbrev pub Passed : Type 0
Passed = Bor (List ℕ)

-- In an `ensures`: the slice at entry and at exit.
abbrev pub Slice : Type 0
Slice = Both Passed Passed

-- In an `ensures`: a slice lent to be written, at entry and at exit.
abbrev pub MutSlice : Type 0
MutSlice = Both (MutBor (List ℕ)) (MutBor (List ℕ))
