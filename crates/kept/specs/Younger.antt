-- When what is held of one block is true of a plain cache: whatever stands before a block that this walk has touched is in its set since.
-- Nothing here is a rule of the tool: laws speak of it.
use Rattle.std.specs.Prelude.{ℕ, zero, suc, ◌<◌, Bool, true, false, List, [], ◌∷◌, ◌≡◌, eqb}
use Rattle.cache.specs.Ages.{Columns}
use Rattle.cache.specs.Plain.{Cache, Formed}
use Rattle.kept.specs.Since.{Since, is_in}

-- At one place of a list: it has the block that is looked for, or else both hold.
abbrev pub Passed : Bool → Type 0 → Type 0 → Type 0
Passed true this rest = Unit {0}
Passed false this rest = this × rest

-- Going down the first places of a list, all that is passed before the block is in K, and the list does not end before.
abbrev pub Younger : ℕ → List ℕ → ℕ → (ℕ → Type 0) → Type 0
Younger zero l block K = Unit {0}
Younger (suc places) [] block K = ⊥
Younger (suc places) (x ∷ l) block K = Passed (eqb x block) (K x) (Younger places l block K)

-- A block is that of some column with a flag.
pub record Flagged (count : ℕ) (block_at : ℕ → ℕ) (flag : ℕ → Bool) (block : ℕ) : Type 0 where
  pub column : ℕ
  pub inside : column < count
  pub names : block_at column ≡ block
  pub flagged : flag column ≡ true

-- A block is that of some column in the set since.
abbrev pub InSet : Columns → (ℕ → ℕ) → Since → ℕ → Type 0
InSet columns block_at since = Flagged columns.count block_at (is_in since.others)

-- What is held of a block is true of a cache, where `noted` says whether this walk has touched the block: it is then touched, and all that is
-- younger than it is in its set since.
pub record SinceTrue (columns : Columns) (ways key block_at : ℕ → ℕ) (block : ℕ) (since : Since) (noted : Bool) (cache : Cache) : Type 0 where
  pub formed : Formed ways key cache
  pub touched : noted ≡ true → since.touched ≡ true
  pub younger : noted ≡ true → Younger (ways (key (block_at block))) (cache (key (block_at block))) (block_at block) (InSet columns block_at since)
