-- Walks, and what a machine does and pays along one. Rules 2.7, 3.3, 5.1 to 5.3 and 7.9, for any nodes, any touches and any machine: it begins with
-- some contents, acts on them at each touch, and finds each a hit or a miss.
-- Choices: a walk is the entry and the list of the nodes after it; it reaches the node where it ends, since it can end at any.
use Rattle.std.specs.Prelude.{◌≡◌, Bool, cond, List, [], ◌∷◌, ℕ, ◌+◌, eqb}
use Rattle.lists.specs.Lists.{Among}

-- ---- walks

-- Rule 5.1: from n on, an arrow leads to each node of the list from the one before it.
abbrev pub Onward : (ℕ → List ℕ) → ℕ → List ℕ → Type 0
Onward arrows n [] = Unit {0}
Onward arrows n (t ∷ ts) = Among t (arrows n) × Onward arrows t ts

-- Rule 5.1: the entry, and the nodes after it.
abbrev pub Walk : (ℕ → List ℕ) → ℕ → List ℕ → Type 0
Walk arrows entry ts = Onward arrows entry ts

-- Rule 5.2: the node where a walk from n ends.
abbrev pub last_of : ℕ → List ℕ → ℕ
last_of n [] = n
last_of n (t ∷ ts) = last_of t ts

-- Rules 5.2 and 7.9: some walk ends at the node.
abbrev pub Reached : (ℕ → List ℕ) → ℕ → ℕ → Type 0
Reached arrows entry n = (ts : List ℕ) × (Walk arrows entry ts × (last_of entry ts ≡ n))

-- Rule 5.2: how often a node stands in a list of nodes.
abbrev pub visits_of : ℕ → List ℕ → ℕ
visits_of n [] = 0
visits_of n (k ∷ ks) = cond (eqb k n) 1 0 + visits_of n ks

-- ---- touches in turn

-- Rules 2.7 and 3.3: one touch after another; a bare step has none, and x comes out as it went in.
abbrev pub in_turn : {E X : Type 0} → (E → X → X) → List E → X → X
in_turn act [] x = x
in_turn act (e ∷ es) x = in_turn act es (act e x)

-- P holds of each touch of a node, of the table's state and of the machine's contents just before it.
abbrev pub AtTouches : {E S C : Type 0} → (E → S → S) → (E → C → C) → (E → S → C → Type 0) → List E → S → C → Type 0
AtTouches step_s step_c P [] s c = Unit {0}
AtTouches step_s step_c P (e ∷ es) s c = P e s c × AtTouches step_s step_c P es (step_s e s) (step_c e c)

-- How many touches of a node pass a test of the touch, the table's state and the machine's contents just before it.
abbrev pub count_at : {E S C : Type 0} → (E → S → S) → (E → C → C) → (E → S → C → Bool) → List E → S → C → ℕ
count_at step_s step_c test [] s c = 0
count_at step_s step_c test (e ∷ es) s c = cond (test e s c) 1 0 + count_at step_s step_c test es (step_s e s) (step_c e c)

-- ---- machines

-- Rule 5.3, of any contents: what is carried, what a touch does to it, and whether it hits.
pub record Machine (E : Type 0) : Type 1 where
  pub Contents : Type 0
  -- what a walk may begin with
  pub Begins : Contents → Type 0
  pub act : E → Contents → Contents
  pub finds : E → Contents → Bool

module _ {E : Type 0} (M : Machine E) where
  -- Rule 5.3: what it pays at a node.
  abbrev pub paid_at : ℕ → ℕ → List E → M.Contents → ℕ
  paid_at hit miss [] c = 0
  paid_at hit miss (e ∷ es) c = cond (M.finds e c) hit miss + paid_at hit miss es (M.act e c)

  -- Rule 5.3: what it pays along the walk n, ts, begun with these contents.
  abbrev pub paid : ℕ → ℕ → (ℕ → List E) → ℕ → List ℕ → M.Contents → ℕ
  paid hit miss touches n [] c = paid_at hit miss (touches n) c
  paid hit miss touches n (t ∷ ts) c =
      paid_at hit miss (touches n) c + paid hit miss touches t ts (in_turn M.act (touches n) c)

  -- P holds at each node of the walk n, ts, with the contents that rule 5.3 carries there: the form of demand 3's "at each node".
  abbrev pub AtNodes : (ℕ → M.Contents → Type 0) → (ℕ → List E) → ℕ → List ℕ → M.Contents → Type 0
  AtNodes P touches n [] c = P n c
  AtNodes P touches n (t ∷ ts) c = P n c × AtNodes P touches t ts (in_turn M.act (touches n) c)

  -- The sum of what each node of the walk n, ts counts, with the contents that rule 5.3 carries there.
  abbrev pub sum_along : (ℕ → M.Contents → ℕ) → (ℕ → List E) → ℕ → List ℕ → M.Contents → ℕ
  sum_along f touches n [] c = f n c
  sum_along f touches n (t ∷ ts) c = f n c + sum_along f touches t ts (in_turn M.act (touches n) c)

  -- How many touches of the walk n, ts pass a test, where a table has a state for each node, and `step_s` carries it through a node's touches.
  abbrev pub count_along : {S : Type 0} → (E → S → S) → (E → S → M.Contents → Bool) → (ℕ → List E) → (ℕ → S) → ℕ → List ℕ → M.Contents → ℕ
  count_along step_s test touches states n ts c =
      sum_along (λ k d. count_at step_s M.act test (touches k) (states k) d) touches n ts c
