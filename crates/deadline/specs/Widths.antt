-- Costs, floors and ceilings of 16 bits, which is what the functions take. Rule 10.1. The totals are defined for numbers of any size: with these
-- they are below 2^53.
use Rattle.std.specs.Prelude.{ℕ, ◌^◌, ◌<◌, get_or}
use Rattle.costs.specs.Costs.{Figures}

-- Rule 10.1: the costs, and each floor and ceiling, have 16 bits.
pub record SixteenBits (figures : Figures) : Type 0 where
  pub hit : figures.costs.hit < 2 ^ 16
  pub miss : figures.costs.miss < 2 ^ 16
  pub floors : (n : ℕ) → get_or figures.floors n 0 < 2 ^ 16
  pub ceilings : (n : ℕ) → get_or figures.ceilings n 0 < 2 ^ 16
