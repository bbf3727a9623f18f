-- Tables of which only the nodes that are due are taken, in passes or in any order: which nodes are due, and what is still to be sent from the node at hand.
-- Nothing here is a rule of the tool: laws and contracts of inner functions speak of it.
use Rattle.std.specs.Prelude.{◌≡◌, Bool, true, false, cond, ◌||◌, List, [], ◌∷◌, ◌⊎◌, ℕ, ◌<◌, eqb}
use Rattle.lists.specs.Lists.{Among}
use Rattle.flow.specs.Flow.{holds, cell_at, Flow, Table}
use Rattle.flow.specs.Passing.{CellBelow, leaving, Marked}
use Rattle.flow.specs.Pass.{changes, met_at}

-- The nodes that are due when one no longer is.
abbrev pub but_one : ℕ → (ℕ → Bool) → ℕ → Bool
but_one n due m = cond (eqb m n) false (due m)

module _ (F : Flow) where
  -- The target of an arrow has what the arrow brings.
  abbrev pub Brought : Table F → ℕ → ℕ → Type 0
  Brought T n t = CellBelow F (leaving F n (cell_at T n)) (cell_at T t)

  -- The nodes that are due are marked; what the arrows of any other bring has been brought.
  pub record Working (T : Table F) (due : ℕ → Bool) : Type 0 where
    pub due-marked : (n : ℕ) → n < F.nodes → due n ≡ true → Marked (cell_at T n)
    pub brought : (n t : ℕ) → n < F.nodes → Among t (F.arrows n) → (due n ≡ true) ⊎ Brought T n t

  -- The same while node n, with the state x when its turn began, is sending: as long as it has that state, what it brings to some targets is
  -- still to be sent.
  pub record Sending (T : Table F) (due : ℕ → Bool) (n : ℕ) (x : F.State) (unsent : List ℕ) : Type 0 where
    pub due-marked : (m : ℕ) → m < F.nodes → due m ≡ true → Marked (cell_at T m)
    pub brought : (m t : ℕ)
        → m < F.nodes
        → Among t (F.arrows m)
        → (due m ≡ true) ⊎ (Brought T m t ⊎ ((m ≡ n) × ((cell_at T n ≡ holds x) × Among t unsent)))

  -- What a state that comes to t does to the nodes that are due: none is forgotten, t alone may be new, and it is due unless the table has not changed.
  pub record DueAfter (T : Table F) (due after : ℕ → Bool) (t : ℕ) (U : Table F) : Type 0 where
    pub still-due : (m : ℕ) → due m ≡ true → after m ≡ true
    pub newly-due : (m : ℕ) → after m ≡ true → (due m ≡ true) ⊎ (m ≡ t)
    pub due-or-same : (after t ≡ true) ⊎ (U ≡ T)

  -- The nodes that are due when a state has come to t: those that were, and t, where the state changes what t holds.
  abbrev pub due_with : Table F → F.State → ℕ → (ℕ → Bool) → ℕ → Bool
  due_with T a t due m = due m || cond (changes F (cell_at T t) a) (eqb m t) false

  -- The same of a state that goes to each target in turn.
  abbrev pub due_sent : F.State → List ℕ → Table F → (ℕ → Bool) → ℕ → Bool
  due_sent a [] T due = due
  due_sent a (t ∷ ts) T due = due_sent a ts (met_at F T t a) (due_with T a t due)

  -- When node n, whose state after its record this is, has been taken: it is no longer due before it sends, so that it is again where an arrow leads back to
  -- it and brings a change.
  abbrev pub due_taken : ℕ → F.State → Table F → (ℕ → Bool) → ℕ → Bool
  due_taken n a T due = due_sent a (F.arrows n) T (but_one n due)
