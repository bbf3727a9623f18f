-- The table that marks and words hold: its cells, a word joined into one of them, and that its states are such as the flow of one block has.
use Prim.Native.Nat.{ℕ, ◌≤◌, ◌<◌}
use mathlib.Core.Bool.{Bool, true, false, cond}
use mathlib.Core.List.{List}
use mathlib.Core.Path.{◌≡◌, refl, sym, ap, subst, ◌∙◌}
use native.Mathlib.Decide.{ℕ_discrete}
use native.Mathlib.Omega.{arith}
use borrow.Author.Tests.{eq-eqb, ne_eqb, eqb-true, eqb-false}
use lib.Bits.{bit_or}
use lib.Dec.{eqb}
use lib.ListN.{get_or, set, length, length-set}
use lib.Seq.{get_or-set_same, get_or-set_other, set-get_or}
use Rattle.lists.proofs.Listed.{length-list_of, list_of-at}
use Rattle.flow.specs.Flow.{Cell, blank, holds, cell_at}
use Rattle.flow.specs.Pass.{met, met_at}
use Rattle.flow.specs.Passing.{Marked}
use Rattle.flow.specs.Laws.{CellReal}
use Rattle.ages.specs.Plan.{Plan, Sound, columns_of}
use Rattle.kept.specs.Since.{Since}
use Rattle.kept.specs.Kept.{kept_flow}
use Rattle.kept.proofs.Lawful.{kept_laws}
use Rattle.keeping.specs.Words.{since_in}
use Rattle.layout.specs.Rows.{cell_in}
use Rattle.layout.proofs.Fitting.{table_at, table-past, table-all}
use Rattle.keeping.specs.Flood.{word_state, table_in}
use Rattle.keeping.proofs.States.{word_fits, word-meets}

module _ (plan : Plan) (block : ℕ) (marks words : List ℕ) where
  abbrev state : ℕ → Since
  state = word_state plan block words

  pub table-long : length (table_in plan block marks words) ≡ plan.nodes
  table-long = length-list_of plan.nodes (cell_in state marks)

  pub cell-bare : (n : ℕ) → n < plan.nodes → get_or marks n 0 ≡ 0 → cell_at (table_in plan block marks words) n ≡ blank
  cell-bare n h e = table_at plan.nodes state marks n h ∙ (rw (eq-eqb (get_or marks n 0) 0 e))

  pub cell-held : (n : ℕ) → n < plan.nodes → (get_or marks n 0 ≡ 0 → ⊥) → cell_at (table_in plan block marks words) n ≡ holds (since_in (columns_of plan) block (get_or words n 0))
  cell-held n h e = table_at plan.nodes state marks n h ∙ (rw (ne_eqb (get_or marks n 0) 0 e))

  pub cell-past : (n : ℕ) → plan.nodes ≤ n → cell_at (table_in plan block marks words) n ≡ blank
  cell-past = table-past plan.nodes state marks

  -- What is so of nothing and of the state of each marked node is so of each cell.
  pub cells-all : (Q : ℕ → Cell Since → Type 0) → ((n : ℕ) → Q n blank) → ((n : ℕ) → n < plan.nodes → (get_or marks n 0 ≡ 0 → ⊥) → Q n (holds (since_in (columns_of plan) block (get_or words n 0))))
      → (n : ℕ) → Q n (cell_at (table_in plan block marks words) n)
  cells-all Q none some = table-all plan.nodes state marks Q (λ n h. go n h (eqb (get_or marks n 0) 0) refl) none
    where
      go : (n : ℕ) → n < plan.nodes → (t : Bool) → eqb (get_or marks n 0) 0 ≡ t → Q n (cond t blank (holds (state n)))
      go n h true e = none n
      go n h false e = some n h (eqb-false (get_or marks n 0) 0 e)

  -- Its states are such as the flow has.
  pub table-real : (sound : Sound plan) → block < plan.blocks → (n : ℕ) → CellReal (kept_flow plan block) (kept_laws plan sound block) n (cell_at (table_in plan block marks words) n)
  unfolding kept_laws
  table-real sound inside =
      cells-all (λ n c. CellReal (kept_flow plan block) (kept_laws plan sound block) n c) (λ n. tt) (λ n h e. word_fits (columns_of plan) block (get_or words n 0) inside)

  -- A node with a mark is marked, and a marked one has a mark.
  pub mark-marked : (n : ℕ) → n < plan.nodes → (get_or marks n 0 ≡ 0 → ⊥) → Marked (cell_at (table_in plan block marks words) n)
  mark-marked n h e = rw (cell-held n h e) tt

  pub marked-mark : (n : ℕ) → n < plan.nodes → Marked (cell_at (table_in plan block marks words) n) → get_or marks n 0 ≡ 0 → ⊥
  marked-mark n h m e = subst Marked (cell-bare n h e) m

  -- ---- a word stored

  module _ (t : ℕ) (inside : t < plan.nodes) where
    pub table-stored : plan.nodes ≤ length marks → plan.nodes ≤ length words → (word : ℕ)
        → table_in plan block (set marks t 1) (set words t word) ≡ set (table_in plan block marks words) t (holds (since_in (columns_of plan) block word))
    table-stored room wide word =
        list_of-at plan.nodes (cell_in (word_state plan block (set words t word)) (set marks t 1)) (set (table_in plan block marks words) t (holds (since_in (columns_of plan) block word))) blank
        (length-set (table_in plan block marks words) t (holds (since_in (columns_of plan) block word)) ∙ table-long) (λ n h. go n h (ℕ_discrete n t))
      where
        go : (n : ℕ) → n < plan.nodes → Dec (n ≡ t) → cell_in (word_state plan block (set words t word)) (set marks t 1) n ≡ cell_at (set (table_in plan block marks words) t (holds (since_in (columns_of plan) block word))) n
        go n h (yes e) =
            let there : t < length (table_in plan block marks words) = omega (arith, table-long) in
            rw (e, get_or-set_same marks t 1 0 (omega arith), get_or-set_same words t word 0 (omega arith), get_or-set_same (table_in plan block marks words) t (holds (since_in (columns_of plan) block word)) blank there)
        go n h (no e) =
            rw (get_or-set_other marks t n 1 0 e, get_or-set_other words t n word 0 e, get_or-set_other (table_in plan block marks words) t n (holds (since_in (columns_of plan) block word)) blank e)
            (sym (table_at plan.nodes state marks n h))

    -- What a cell holds when a word has come to it.
    pub cell-met : (get_or marks t 0 ≡ 0 → get_or words t 0 ≡ 0) → (out : ℕ)
        → met (kept_flow plan block) (cell_at (table_in plan block marks words) t) (since_in (columns_of plan) block out) ≡ holds (since_in (columns_of plan) block (bit_or (get_or words t 0) out))
    unfolding met
    cell-met bare out = go (eqb (get_or marks t 0) 0) refl
      where
        go : (b : Bool) → eqb (get_or marks t 0) 0 ≡ b
            → met (kept_flow plan block) (cell_at (table_in plan block marks words) t) (since_in (columns_of plan) block out) ≡ holds (since_in (columns_of plan) block (bit_or (get_or words t 0) out))
        go true e =
            let none = eqb-true (get_or marks t 0) 0 e in
            rw (cell-bare t inside none, bare none)
        go false e =
            rw (cell-held t inside (eqb-false (get_or marks t 0) 0 e))
            (ap holds (sym (word-meets (columns_of plan) block (get_or words t 0) out)))

    -- A word that comes to a node, stored: the table met by its state.
    pub table-met : plan.nodes ≤ length marks → plan.nodes ≤ length words → (get_or marks t 0 ≡ 0 → get_or words t 0 ≡ 0) → (out : ℕ)
        → table_in plan block (set marks t 1) (set words t (bit_or (get_or words t 0) out)) ≡ met_at (kept_flow plan block) (table_in plan block marks words) t (since_in (columns_of plan) block out)
    unfolding met_at
    table-met room wide bare out =
        table-stored room wide (bit_or (get_or words t 0) out)
        ∙ ap (set (table_in plan block marks words) t) (sym (cell-met bare out))

    -- And one that brings nothing new leaves the table.
    pub table_same : (get_or marks t 0 ≡ 0 → ⊥) → (out : ℕ) → bit_or (get_or words t 0) out ≡ get_or words t 0
        → met_at (kept_flow plan block) (table_in plan block marks words) t (since_in (columns_of plan) block out) ≡ table_in plan block marks words
    unfolding met_at
    table_same marked out e =
        ap (set (table_in plan block marks words) t)
        (cell-met (λ none. absurd (marked none)) out ∙ ap (λ (w : ℕ). holds (since_in (columns_of plan) block w)) e ∙ sym (cell-held t inside marked))
        ∙ set-get_or (table_in plan block marks words) t blank
