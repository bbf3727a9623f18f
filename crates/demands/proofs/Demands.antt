-- The three demands hold.
use Rattle.demands.specs.Demands.{Demands}
use Rattle.demands.proofs.Demand1.{demand1}
use Rattle.demands.proofs.Demand2.{demand2}
use Rattle.demands.proofs.Demand3.{demand3}

pub demands : Demands
demands = record { asked_anything = demand1; says_most = demand2; says_so = demand3 }
