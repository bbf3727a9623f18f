use native.Mathlib.Omega.{arith}
use Rattle.std.proofs.lemmas.Int.{to_z-of_z}
use Rattle.facts.specs.Certificate.{most_potential}
use Rattle.facts.proofs.Within.{above_within, below-within}
use Rattle.facts.proofs.comparing.arrow_holds.Goals as goal

pub overflow_add-result-2 : goal.overflow_add-result-2
overflow_add-result-2 c = let a = c.args in
    grind (arith, to_z-of_z, above_within most_potential a.potentials.now c.requires.place_in.potentials-fit a.n c.requires.place_in.inside, below-within most_potential a.potentials.now c.requires.place_in_2.potentials-fit a.t c.requires.place_in_2.inside)

pub overflow_add-result-4 : goal.overflow_add-result-4
overflow_add-result-4 c = let a = c.args in
    grind (arith, to_z-of_z, above_within most_potential a.potentials.now c.requires.place_in_2.potentials-fit a.t c.requires.place_in_2.inside, below-within most_potential a.potentials.now c.requires.place_in.potentials-fit a.n c.requires.place_in.inside)
