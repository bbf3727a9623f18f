-- A text in an array of fixed size, and what the crate's inner functions promise of a text that is being written. Nothing here is a rule of the
-- tool: it is how a report, which rules 14.1 to 14.4 say, comes to those who print it.
use Rattle.std.specs.Prelude.{Bool, List, ◌≡◌, ℕ, ◌+◌, ◌*◌, ◌≤◌, length, Err, Ok, Result}
use Rattle.std.proofs.lemmas.List.Edits.{sets}
use Rattle.lists.specs.Lists.{padded}
use Rattle.chart.specs.Geometry.{most_nodes}
use Rattle.analysis.specs.Analysis.{Left}
use Rattle.report.specs.declared.puts.Line.{Line}
use Rattle.report.specs.declared.text.Text.{Text}
use Rattle.report.specs.Report.{report_left}
use Rattle.report.specs.Ending.{refused_by}
use Rattle.chart.specs.declared.headers.Header.{Header}
use Rattle.refusals.specs.declared.Refusal.{Refusal}

-- The most digits of a number, and the most letters of a class.
abbrev pub most_digits : ℕ
most_digits = 20

abbrev pub most_letters : ℕ
most_letters = 9

-- The most bytes of a settled chart's first line: "nodes ", " blocks ", " passes " and a line feed, and three numbers.
abbrev pub most_first : ℕ
most_first = 23 + 3 * most_digits

-- Of a class in a line: a space and its word.
abbrev pub most_spaced : ℕ
most_spaced = 1 + most_letters

-- Of a node's line: its number, its classes, and a line feed.
abbrev pub most_node : ℕ
most_node = most_digits + most_spaced + most_spaced + 1

-- Of a refusal's line: "refused ", " at " and a line feed, and two numbers.
abbrev pub most_refused : ℕ
most_refused = 13 + 2 * most_digits

-- Of a report, which is as long for a settled chart of the most nodes as it can get.
abbrev pub most_text : ℕ
most_text = most_first + most_node * most_nodes

-- The bytes, zeros after them, how many there are, and whether they are a refusal's line.
unfoldable pub text_of : List ℕ → Bool → Text
text_of bytes refused =
    record { bytes = padded most_text bytes; size = length bytes; refused = refused }

-- The text of what the analysis of these bytes left.
abbrev pub text_left : List ℕ → Left → Text
text_left bytes left = text_of (report_left bytes left) (refused_by left.answer)

-- The nodes of an accepted header, and 0 for a refusal.
abbrev pub nodes_read : Result Header Refusal → ℕ
nodes_read (Ok header) = header.nodes
nodes_read (Err refusal) = 0

-- `word` put behind what is written of a line: what stands in its buffer after it, how much is written then, which is at most `room` more; and that it
-- is the same buffer, as long as before.
pub record Put (room : ℕ) (before : Line) (word : List ℕ) (after : Line) : Type 0 where
  pub laid : after.text.now ≡ sets before.text.now before.size word
  pub behind : after.size ≡ before.size + length word
  pub within : length word ≤ room
  pub same : after.text.ghost_name ≡ before.text.ghost_name
  pub long : length after.text.now ≡ length before.text.now
