-- What the program prints for any input. Rules 1.4, 13.1, 13.2 and 14.1 to 14.3. A class above 5, which the analysis never writes, reads as none. The
-- analysis gets buffers of the program's own, zeros with room for the largest chart; so a report never says 11. How the input is read is not said here.
use Rattle.std.specs.Prelude.{ℕ, ◌+◌, ◌*◌, List, [], ◌∷◌, ◌++◌, get_or, replicate, take, eqb, Result, Ok, Err}
use Rattle.lists.specs.Choice.{◌⇒◌, first_case}
use Rattle.lists.specs.Lists.{list_of, joined}
use Rattle.chart.specs.Geometry.{most_nodes, most_blocks, most_touches, longest_chart, all_passes}
use Rattle.chart.specs.Header.{header_in}
use Rattle.refusals.specs.declared.Refusal.{Refusal}
use Rattle.refusals.specs.Refusals.{number_of, place_of}
use Rattle.analysis.specs.Analysis.{Buffers, Left, refusal_of, analysed}
use Rattle.classes.specs.Class.{unreached, hit, miss, unsure, kept}
use Rattle.report.specs.Text.{line_feed, space, nodes_word, blocks_word, passes_word, unreached_word, hit_word, miss_word, unsure_word, kept_word, none_word, refused_word, at_word, decimal}
use Rattle.analysis.specs.declared.Unanalysed.{Unanalysed}
use Rattle.analysis.specs.declared.SettledAfter.{SettledAfter}

-- Rules 1.4 and 13.1: as many bytes as the longest chart has, and one more.
abbrev pub taken : List ℕ → List ℕ
taken input = take (longest_chart + 1) input

-- Rule 14.2: the word of a class.
abbrev pub class_word : ℕ → List ℕ
class_word class =
    first_case (λ word. word)
    ((eqb class unreached ⇒ unreached_word)
    ∷ (eqb class hit ⇒ hit_word)
    ∷ (eqb class miss ⇒ miss_word)
    ∷ (eqb class unsure ⇒ unsure_word)
    ∷ (eqb class kept ⇒ kept_word)
    ∷ [])
    none_word

-- Rule 14.2: a space, and the word of a class.
abbrev pub spaced_word : ℕ → List ℕ
spaced_word class = space ++ class_word class

-- Rule 14.2: the line of node n, with the words of its two classes.
abbrev pub node_line : List ℕ → ℕ → List ℕ
node_line classes n =
    decimal n ++ spaced_word (get_or classes (most_touches * n) 0) ++ spaced_word (get_or classes (most_touches * n + 1) 0) ++ line_feed

-- Rule 14.3, as in `refused 9 at 2`.
abbrev pub refusal_line : Refusal → List ℕ
refusal_line refusal =
    refused_word ++ space ++ decimal (number_of refusal) ++ space ++ at_word ++ space ++ decimal (place_of refusal) ++ line_feed

-- Rules 14.1 to 14.3: the first line and the nodes' lines, or the line of a refusal.
abbrev pub report_of : ℕ → List ℕ → Result SettledAfter Unanalysed → List ℕ
report_of nodes classes (Ok done) =
    nodes_word ++ space ++ decimal nodes ++ space ++ blocks_word ++ space ++ decimal done.blocks ++ space
    ++ passes_word ++ space ++ decimal done.passes ++ line_feed
    ++ joined (list_of nodes (node_line classes))
report_of nodes classes (Err error) = refusal_line (refusal_of error)

-- The program's own buffers, of zeros, for a chart of so many nodes and blocks.
abbrev pub zero_buffers : ℕ → ℕ → Buffers
zero_buffers nodes blocks =
    record {
      blocks = replicate blocks 0;
      must = replicate (nodes * blocks) 0;
      may = replicate (nodes * blocks) 0;
      marks = replicate nodes 0;
      classes = replicate (most_touches * nodes) 0;
    }

-- Rules 14.1 to 14.3: the report of what the analysis of these bytes left. N is the header's.
abbrev pub report_left : List ℕ → Left → List ℕ
report_left bytes left = report_of (header_in bytes).nodes left.buffers.classes left.answer

-- Rule 13.2: the allowance is enough for the largest chart.
unfoldable pub report : List ℕ → List ℕ
report input =
    report_left (taken input) (analysed (taken input) all_passes (zero_buffers most_nodes most_blocks))
