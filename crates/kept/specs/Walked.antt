-- What walks do to one block before they arrive at a node, said by the touches that they make, and by no table. Rules 16.1, 16.5 and 16.8,
-- rules 16.2 and 16.3 along one walk, and rule 5.2 of walks to a node. That the table of the block says this and no more is a law (`Walked`).
-- A choice: a block is known by its column, and two are of one cache set if their columns have one key.
use Rattle.std.specs.Prelude.{ℕ, ◌<◌, true, List, [], ◌∷◌, ◌++◌, ◌⊎◌, ◌≡◌}
use Rattle.flow.specs.Flow.{cell_at}
use Rattle.flow.specs.Passing.{Marked}
use Rattle.flow.specs.Walk.{Reached, in_turn}
use Rattle.ages.specs.Plan.{ColumnTouch, Plan, columns_of, touches_in, arrows_in}
use Rattle.kept.specs.Since.{Since, is_in, untouched, SinceLess}
use Rattle.kept.specs.Kept.{after_touch_of, kept_table, since_at}

-- ---- the touches of one walk

-- What a walk from n touches before it arrives at its last node, in turn.
abbrev pub touches_before : Plan → ℕ → List ℕ → List ColumnTouch
touches_before plan n [] = []
touches_before plan n (t ∷ ts) = touches_in plan n ++ touches_before plan t ts

-- One of these touches is of the block.
abbrev pub Touches : ℕ → List ColumnTouch → Type 0
Touches block [] = ⊥
Touches block (touch ∷ touches) = (touch.column ≡ block) ⊎ Touches block touches

-- Rule 16.1: a block is touched since the last touch of another.
pub record TouchedSince (block other : ℕ) (touches : List ColumnTouch) : Type 0 where
  pub before : List ColumnTouch
  pub last : ColumnTouch
  pub after : List ColumnTouch
  pub in-turn : touches ≡ before ++ last ∷ after
  pub of-block : last.column ≡ block
  pub is_last : Touches block after → ⊥
  pub since : Touches other after

-- Rules 16.2 and 16.3, along one walk from n: what is held of the block on arrival at its last node, with `since` on arrival at n.
abbrev pub along_walk : Plan → ℕ → ℕ → List ℕ → Since → Since
along_walk plan block n ts since = in_turn (after_touch_of plan block) (touches_before plan n ts) since

-- ---- all walks to a node

-- Rule 5.2: a walk from the entry that ends at n.
abbrev pub WalkTo : Plan → ℕ → Type 0
WalkTo plan n = Reached (arrows_in plan) plan.entry n

-- What it touches before it arrives there.
abbrev pub walk_touches : (plan : Plan) (n : ℕ) → WalkTo plan n → List ColumnTouch
walk_touches plan n w = touches_before plan plan.entry w.0

-- Rules 16.2 and 16.3: what is held of the block when it arrives there.
abbrev pub walk_since : (plan : Plan) (block n : ℕ) → WalkTo plan n → Since
walk_since plan block n w = along_walk plan block plan.entry w.0 (untouched plan.blocks)

-- Rules 16.1 and 16.5: the table of a block has at node n what one walk to it or another has, and nothing else.
pub record FromWalks (plan : Plan) (block n : ℕ) : Type 0 where
  pub touched-by : (since_at plan n block).touched ≡ true → (w : WalkTo plan n) × ((walk_since plan block n w).touched ≡ true)
  pub others_by : (other : ℕ)
      → other < plan.blocks
      → is_in (since_at plan n block).others other ≡ true
      → (w : WalkTo plan n) × (is_in (walk_since plan block n w).others other ≡ true)
  pub no_less : (w : WalkTo plan n) → SinceLess plan.blocks (walk_since plan block n w) (since_at plan n block)

-- The same by the touches that walks make. Rule 16.1, and rule 16.8 where there is no walk.
pub record Walked (plan : Plan) (block n : ℕ) : Type 0 where
  -- it is marked exactly if some walk ends at n
  pub marked : Marked (cell_at (kept_table plan block) n) → WalkTo plan n
  pub walked : WalkTo plan n → Marked (cell_at (kept_table plan block) n)
  -- the block is touched exactly if some walk to n has touched it before
  pub touched : (since_at plan n block).touched ≡ true → (w : WalkTo plan n) × Touches block (walk_touches plan n w)
  pub touches : (w : WalkTo plan n) → Touches block (walk_touches plan n w) → (since_at plan n block).touched ≡ true
  -- another is in its set since exactly if it is of the same cache set and on some walk to n was touched since the last touch of the block
  pub inside : (other : ℕ)
      → other < plan.blocks
      → is_in (since_at plan n block).others other ≡ true
      → ((columns_of plan).key other ≡ (columns_of plan).key block) × ((w : WalkTo plan n) × TouchedSince block other (walk_touches plan n w))
  pub enters : (other : ℕ)
      → other < plan.blocks
      → (columns_of plan).key other ≡ (columns_of plan).key block
      → (w : WalkTo plan n)
      → TouchedSince block other (walk_touches plan n w)
      → is_in (since_at plan n block).others other ≡ true
