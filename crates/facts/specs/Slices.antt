-- A lent slice of whole numbers as the clauses of a contract name it.
-- Nothing here is a rule of the tool: with it a contract can say in a few words what several slices hold.
use Rattle.std.specs.Prelude.{List, ℤ}
use Rattle.std.specs.Borrow.{Bor}
use denote.Triple.Both.{Both}

-- In a `requires`: the slice passed.
abbrev pub PassedWholes : Type 0
PassedWholes = Bor (List ℤ)

-- In an `ensures`: the slice at entry and at exit.
abbrev pub Wholes : Type 0
Wholes = Both PassedWholes PassedWholes
