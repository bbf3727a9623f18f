-- Rules 6.2 to 6.4, 6.6 and 8.1 beside the analysis that they are taken from, by lines as it has them: C. Ferdinand, F. Martin, R. Wilhelm and M.
-- Alt, "Cache behavior prediction by abstract interpretation", Science of Computer Programming 35 (1999), section 5. There a set has lines 1 to A,
-- and a state says which blocks stand in each. A block of age a, which is below A, stands in line a + 1; one of age A stands in none. Demand 2
-- promises that the two agree, in each line and of each block (`published`).
-- Choices: the copy of the article that this goes by lacks the formula of the must update. `MustLines`, and `AllShift` where it is of must, are put
-- together from the words around it: a touch ages the blocks of its set that are younger than the one touched, all of them if that one is in no
-- line, and no block of its age or older. All other formulas are the article's. Line h + 1 of the may update is no line where h is A, and what it
-- would get is gone. What states stand for is `Bounds`; an unknown start is the rules' own.
use Rattle.std.specs.Prelude.{ℕ, suc, ◌-◌, ◌≤◌, ◌<◌, min, max, Bool, true, ◌⊎◌, ◌≡◌}
use Rattle.cache.specs.Ages.{Columns, Ages, age_of, touch_ages, meet_ages, start_ages}

-- A block of some age stands in this line; where the age is A, that is no line.
abbrev pub InLine : (ℕ → ℕ) → ℕ → ℕ → Type 0
InLine age line block = line ≡ suc (age block)

-- It stands in one of the lines.
abbrev pub InSome : ℕ → (ℕ → ℕ → Type 0) → ℕ → Type 0
InSome ways lines block = (line : ℕ) × (1 ≤ line) × (line ≤ ways) × lines line block

-- ---- the published updates: the lines after a touch of m

-- m is in line h: line 1 gets m; lines 2 to h - 1 what the line before had; line h that too, beside what it had but m; the
-- lines after it stay.
abbrev pub MustLines : ℕ → ℕ → (ℕ → ℕ → Type 0) → ℕ → ℕ → Type 0
MustLines h m lines line block =
    ((line ≡ 1) × (block ≡ m))
    ⊎ (((1 < line) × (line < h) × lines (line - 1) block)
    ⊎ (((line ≡ h) × (lines (line - 1) block ⊎ (lines line block × (block ≡ m → ⊥))))
    ⊎ ((h < line) × lines line block)))

-- m is in line h: line 1 gets m; lines 2 to h what the line before had; line h + 1 keeps what it had, beside what line h had but m; the lines
-- after it stay.
abbrev pub MayLines : ℕ → ℕ → (ℕ → ℕ → Type 0) → ℕ → ℕ → Type 0
MayLines h m lines line block =
    ((line ≡ 1) × (block ≡ m))
    ⊎ (((1 < line) × (line ≤ h) × lines (line - 1) block)
    ⊎ (((line ≡ suc h) × (lines line block ⊎ (lines h block × (block ≡ m → ⊥))))
    ⊎ ((suc h < line) × lines line block)))

-- m is in no line, for must and for may: line 1 gets m, each other line what the line before had.
abbrev pub AllShift : ℕ → (ℕ → ℕ → Type 0) → ℕ → ℕ → Type 0
AllShift m lines line block = ((line ≡ 1) × (block ≡ m)) ⊎ ((1 < line) × lines (line - 1) block)

-- ---- the published joins

-- The block is in both, and the line is the later of its two.
abbrev pub MustJoin : ℕ → (ℕ → ℕ → Type 0) → (ℕ → ℕ → Type 0) → ℕ → ℕ → Type 0
MustJoin ways one other line block =
    (a : ℕ) × (b : ℕ) × (a ≤ ways) × (b ≤ ways) × one a block × other b block × (line ≡ max a b)

-- It is in both, and the line is the earlier of its two; or it is in one of them alone, and the line is that one's.
abbrev pub MayJoin : ℕ → (ℕ → ℕ → Type 0) → (ℕ → ℕ → Type 0) → ℕ → ℕ → Type 0
MayJoin ways one other line block =
    ((a : ℕ) × (b : ℕ) × (a ≤ ways) × (b ≤ ways) × one a block × other b block × (line ≡ min a b))
    ⊎ ((one line block × (InSome ways other block → ⊥)) ⊎ (other line block × (InSome ways one block → ⊥)))

-- ---- ours are the same

abbrev pub Same : Type 0 → Type 0 → Type 0
Same S T = (S → T) × (T → S)

-- Of any ages of columns whose limits are A, in each of the lines up to A: those after a touch of m, of two states that met, and at the start.
pub record Published (columns : Columns) (ways m block line : ℕ) (a : Ages) : Type 0 where
  -- rule 6.3: must ages at a touch, of a block that is in a line, and of one that is in none
  pub must_seen : columns.key block ≡ columns.key m
      → age_of a.must m < ways
      → Same (InLine (age_of (touch_ages columns m a).must) line block) (MustLines (suc (age_of a.must m)) m (InLine (age_of a.must)) line block)
  pub must_new : columns.key block ≡ columns.key m
      → (InSome ways (InLine (age_of a.must)) m → ⊥)
      → Same (InLine (age_of (touch_ages columns m a).must) line block) (AllShift m (InLine (age_of a.must)) line block)
  -- rule 6.4: may ages at a touch
  pub may_seen : columns.key block ≡ columns.key m
      → age_of a.may m < ways
      → Same (InLine (age_of (touch_ages columns m a).may) line block) (MayLines (suc (age_of a.may m)) m (InLine (age_of a.may)) line block)
  pub may_new : columns.key block ≡ columns.key m
      → (InSome ways (InLine (age_of a.may)) m → ⊥)
      → Same (InLine (age_of (touch_ages columns m a).may) line block) (AllShift m (InLine (age_of a.may)) line block)
  -- rules 6.3 and 6.4: of another set nothing changes
  pub must_other : (columns.key block ≡ columns.key m → ⊥) → age_of (touch_ages columns m a).must block ≡ age_of a.must block
  pub may_other : (columns.key block ≡ columns.key m → ⊥) → age_of (touch_ages columns m a).may block ≡ age_of a.may block
  -- rule 6.6: two states met
  pub must_met : (b : Ages) → Same (InLine (age_of (meet_ages columns a b).must) line block) (MustJoin ways (InLine (age_of a.must)) (InLine (age_of b.must)) line block)
  pub may_met : (b : Ages) → Same (InLine (age_of (meet_ages columns a b).may) line block) (MayJoin ways (InLine (age_of a.may)) (InLine (age_of b.may)) line block)
  -- rule 6.2: at the start no block is in a line, of must, and of may where the start is empty
  pub must_start : (empty : Bool) → InLine (age_of (start_ages columns empty).must) line block → ⊥
  pub may_start : InLine (age_of (start_ages columns true).may) line block → ⊥
  -- rule 8.1: an age under A, by which a hit is called, is a line, and A, by which a miss is, is none
  pub in_some : (age : ℕ → ℕ) → Same (age block < ways) (InSome ways (InLine age) block)

abbrev pub AsPublished : Type 0
AsPublished = (columns : Columns) (ways m block line : ℕ) (a : Ages)
    → block < columns.count
    → columns.must_limit block ≡ ways
    → columns.may_limit block ≡ ways
    → line ≤ ways
    → Published columns ways m block line a
