-- What is worked on while words are sent along arrows: marks, words, which nodes are due, and where those stand; a word sent, and a node
-- taken. Rules 16.3 to 16.5, of words; nothing else here is a rule of the tool. Laws hold it to the tables of `flow`.
use Rattle.std.specs.Prelude.{ℕ, ◌+◌, ◌≤◌, max, min, Bool, true, false, cond, not, ◌||◌, List, [], ◌∷◌, eqb, ltb, get_or, set, length, replicate}
use Rattle.std.specs.Int.Bits.{bit_or}
use Rattle.chart.specs.Geometry.{most_nodes}
use Rattle.chart.specs.Record.{arrows_of}
use Rattle.plan.specs.Listed.{node_in}
use Rattle.keeping.specs.declared.span.Span.{Span}
use Rattle.keeping.specs.declared.putting.Work.{Work as HeldWork}
use Rattle.keeping.specs.Words.{Group, word_after}

pub record Work : Type 0 where
  pub marks : List ℕ
  pub words : List ℕ
  pub due : List Bool
  pub span : Span

-- The work that a struct holds, with a span beside it; and one of nothing.
abbrev pub work_at : HeldWork → Span → Work
work_at held span = record { marks = held.marks; words = held.words; due = held.due; span = span }

abbrev pub nothing_done : HeldWork
nothing_done = record { marks = replicate most_nodes 0; words = replicate most_nodes 0; due = replicate most_nodes false }

-- All that are due stand before this node.
abbrev pub span_to : ℕ → Span
span_to to = record { to = to; low = most_nodes; high = 0 }

-- Node t, besides, where node n is at hand.
unfoldable pub span_with : ℕ → ℕ → Span → Span
span_with n t span =
    cond (ltb n t) (record { to = max span.to (t + 1); low = span.low; high = span.high })
    (record { to = span.to; low = min span.low t; high = max span.high (t + 1) })

-- Whether a word that comes to t changes anything there: its word, or that it is unmarked.
abbrev pub changes_at : ℕ → ℕ → Work → Bool
changes_at out t work =
    not (eqb (bit_or (get_or work.words t 0) out) (get_or work.words t 0)) || eqb (get_or work.marks t 0) 0

-- Rule 16.5: a word comes to t, from node n.
unfoldable pub put_word : ℕ → ℕ → ℕ → Work → Work
put_word n out t work =
    cond (changes_at out t work)
    (record {
      marks = set work.marks t 1;
      words = set work.words t (bit_or (get_or work.words t 0) out);
      due = set work.due t true;
      span = span_with n t work.span;
    }) work

-- The same word comes to each target in turn.
abbrev pub sent_all : ℕ → ℕ → List ℕ → Work → Work
sent_all n out [] work = work
sent_all n out (t ∷ ts) work = sent_all n out ts (put_word n out t work)

-- Node n is no longer due.
abbrev pub cleared : ℕ → Work → Work
cleared n work = record { marks = work.marks; words = work.words; due = set work.due n false; span = work.span }

-- Rules 16.3 and 16.4: node n is taken, if it is due.
unfoldable pub visited : Group → List ℕ → ℕ → Work → Work
visited group plan n work =
    cond (get_or work.due n false)
    (sent_all n (word_after group (node_in plan n).what (get_or work.words n 0)) (arrows_of (node_in plan n).targets) (cleared n work)) work

-- There is room for so many nodes.
pub record Roomy (nodes : ℕ) (marks words : List ℕ) (due : List Bool) : Type 0 where
  pub marks_room : nodes ≤ length marks
  pub words_room : nodes ≤ length words
  pub due_room : nodes ≤ length due
