-- The plain cache. Rules 4.1 to 4.7. It speaks of a block's set key and of the ways of the set with that key, never of L, S or A.
-- Choices: there is a list for every number, also for those that are no set's key; `without` takes out a block's first place alone; in a list
-- longer than its ways, which rule 4.1 does not allow, what stands behind them has the age of a block that is not there.
use Rattle.std.specs.Prelude.{ℕ, zero, suc, ◌≤◌, ◌≡◌, Bool, true, false, cond, List, [], ◌∷◌, length, take, eqb}

-- ---- one set

-- Rule 4.2: whether a list has the block.
unfoldable pub has : ℕ → List ℕ → Bool
has block [] = false
has block (x ∷ l) = cond (eqb x block) true (has block l)

-- Rule 4.3, the others: a list without the first place of a block, which is its only one, since the blocks of a list are different (rule 4.1).
unfoldable pub without : ℕ → List ℕ → List ℕ
without block [] = []
without block (x ∷ l) = cond (eqb x block) l (x ∷ without block l)

-- Rule 4.3: a set's list after a touch.
unfoldable pub touch_set : ℕ → ℕ → List ℕ → List ℕ
touch_set ways block l = take ways (block ∷ without block l)

-- Rule 4.5: the age of a block by its set's list.
unfoldable pub age_in : ℕ → List ℕ → ℕ → ℕ
age_in zero l block = zero
age_in (suc ways) [] block = suc ways
age_in (suc ways) (x ∷ l) block = cond (eqb x block) zero (suc (age_in ways l block))

-- ---- the whole cache: a list for each set key

-- Rule 4.1: each set's list.
abbrev pub Cache : Type 0
Cache = ℕ → List ℕ

-- Rule 4.2: what the plain machine finds at a touch.
unfoldable pub hits : (ℕ → ℕ) → ℕ → Cache → Bool
hits key block cache = has block (cache (key block))

-- Rules 4.3 and 4.4: a touch changes the list of its block's set, and no other.
unfoldable pub touch : (ℕ → ℕ) → (ℕ → ℕ) → ℕ → Cache → Cache
touch ways key block cache set = cond (eqb set (key block)) (touch_set (ways set) block (cache set)) (cache set)

-- Rule 4.5: a block's age in the whole cache, that in its set.
unfoldable pub age : (ℕ → ℕ) → (ℕ → ℕ) → Cache → ℕ → ℕ
age ways key cache block = age_in (ways (key block)) (cache (key block)) block

-- ---- what a walk may begin with

-- A block stands nowhere in a list.
abbrev pub Absent : ℕ → List ℕ → Type 0
Absent block [] = Unit {0}
Absent block (x ∷ l) = (x ≡ block → ⊥) × Absent block l

-- Rule 4.1: the blocks of a list are different.
abbrev pub Different : List ℕ → Type 0
Different [] = Unit {0}
Different (x ∷ l) = Absent x l × Different l

-- Rule 4.1: they are all of one set.
abbrev pub AllOf : (ℕ → ℕ) → ℕ → List ℕ → Type 0
AllOf key set [] = Unit {0}
AllOf key set (x ∷ l) = (key x ≡ set) × AllOf key set l

-- Rules 4.1 and 4.7: what each set's list keeps, and all that is known of an unknown start.
pub record Formed (ways key : ℕ → ℕ) (cache : Cache) : Type 0 where
  pub short : (set : ℕ) → length (cache set) ≤ ways set
  pub different : (set : ℕ) → Different (cache set)
  pub own : (set : ℕ) → AllOf key set (cache set)

-- Rule 4.6: the empty start.
abbrev pub empty_cache : Cache
empty_cache set = []
