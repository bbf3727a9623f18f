-- Which blocks a list of blocks has, as a statement. Rule 3.4 a second time, for any touches: nothing here puts blocks into a list one by
-- one, as `Blocks.antt` does. The two have to agree (proofs/Exact.antt), so that a block forgotten or listed twice is a contradiction.
use Rattle.std.specs.Prelude.{ℕ, ◌<◌, List, length, get_or}
use Rattle.lists.specs.Lists.{Among}

-- Rule 3.4: they ascend; each is touched by one of the nodes 0 to `nodes` - 1, and each that is touched is there.
pub record Exactly (touches_at : ℕ → List ℕ) (nodes : ℕ) (blocks : List ℕ) : Type 0 where
  pub ascending : (i j : ℕ) → i < j → j < length blocks → get_or blocks i 0 < get_or blocks j 0
  pub only_touched : (b : ℕ) → Among b blocks → (n : ℕ) × (n < nodes) × Among b (touches_at n)
  pub all_touched : (n b : ℕ) → n < nodes → Among b (touches_at n) → Among b blocks
