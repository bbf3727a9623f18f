use native.Mathlib.Omega.{arith}
use Rattle.std.proofs.lemmas.Int.{to_z-of_z}
use Rattle.facts.specs.Certificate.{most_potential}
use Rattle.facts.proofs.Within.{above_within, below-within}
use Rattle.certificate.proofs.topping.top_at.Goals as goal

pub returns-clause-small_left : goal.returns-clause-small_left
returns-clause-small_left c = let w = c.weigh-weights.ensures.small_parts in
    let a = c.args in
    record {
      above_most = grind (arith, to_z-of_z, w.above_most, above_within most_potential a.potentials.now c.requires.place_in.potentials-fit a.at c.requires.place_in.inside);
      below-most = grind (arith, to_z-of_z, w.below-most, below-within most_potential a.potentials.now c.requires.place_in.potentials-fit a.at c.requires.place_in.inside);
    }
