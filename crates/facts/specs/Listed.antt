-- Facts and a certificate in lent lists, as the clauses of a contract name them.
-- Nothing here is a rule of the tool: contracts say in a line what they promise.
use Rattle.std.specs.Prelude.{ℕ}
use Rattle.facts.specs.Slices.{PassedWholes, Wholes}
use Rattle.facts.specs.Facts.{Facts}
use Rattle.facts.specs.Certificate.{Certificate}

-- In a `requires`.
abbrev pub passed_facts : PassedWholes → PassedWholes → Facts
passed_facts coefficients limits = record { coefficients = coefficients.now; limits = limits.now }

abbrev pub passed_certificate : PassedWholes → PassedWholes → ℕ → Certificate
passed_certificate multipliers potentials denominator =
    record { multipliers = multipliers.now; potentials = potentials.now; denominator = denominator }

-- In an `ensures`.
abbrev pub entry_facts : Wholes → Wholes → Facts
entry_facts coefficients limits = passed_facts coefficients.entry limits.entry

abbrev pub entry_certificate : Wholes → Wholes → ℕ → Certificate
entry_certificate multipliers potentials denominator = passed_certificate multipliers.entry potentials.entry denominator
