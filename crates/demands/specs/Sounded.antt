-- What is claimed of the definitions: soundings on charts that are written out, proved by computing; the program's numbers; and statements of
-- walks, starts, reports, classes and costs. `sounded` in proofs/Soundings.antt proves it. Nothing here is a rule of the tool: it is what the rules
-- come to, so that a definition that says something else is found out.
use Rattle.std.specs.Prelude.{◌≡◌, ℕ, ◌*◌, ◌≤◌, ◌<◌, Bool, true, false, cond, List, [], ◌∷◌, ◌++◌, map, length, get_or, Ok}
use Rattle.lists.specs.Soundings.{Hold}
use Rattle.cache.specs.Plain.{empty_cache}
use Rattle.lists.specs.Lists.{Among}
use Rattle.flow.specs.Walk.{Walk, last_of}
use Rattle.facts.specs.declared.Side.TheVariants.{High}
use Rattle.facts.specs.Whole.{InWholes}
use Rattle.analysis.specs.Analysis.{table_in}
use Rattle.checker.specs.Checker.{checked}
use Rattle.totals.specs.Totals.{totals, totals_between}
use Rattle.chart.specs.Geometry.{longest_chart, passes_for, all_passes}
use Rattle.chart.specs.Sounded.{chart_fields, node_counts, twin_arrows}
use Rattle.chart.specs.Sizes.{sized_touches, sizes_refused, crowded}
use Rattle.chart.specs.Claims.{ChartSounded}
use Rattle.fields.specs.Sounded.{nodes_read, blocks_listed, FieldsSounded}
use Rattle.writer.specs.Sounded.{loop_written, fields_packed, headings_refused, nodes_refused, ordered, crowds, WriterSounded}
use Rattle.clock.specs.Laws.{ExactSheet}
use Rattle.clock.specs.Sounded.{number, zero, eighth, two, two_and_half, sheet, latest, figures_sounded, times_sounded, refusals_sounded, verdicts_sounded, ClockSounded}
use Rattle.deadline.specs.Deadline.{judged, judged_with}
use Rattle.certificate.specs.Bound.{bounded}
use Rattle.report.specs.Report.{report}
use Rattle.report.specs.Ending.{refuses, ending_of}
use Rattle.chart.specs.Chart.{Chart, chart_in}
use Rattle.ages.specs.Plan.{Plan, plan_flow}
use Rattle.ages.specs.Charted.{plan_of}
use Rattle.kept.specs.Kept.{kept_flow}
use Rattle.classes.specs.Class.{class_by}
use Rattle.machine.specs.Machine.{plain_machine, Contents, cost_of}
use Rattle.demands.specs.Demand3.{OnWalk, VisitsWithin, AtEachNode}
use Rattle.demands.specs.Anywhere.{Anywhere}
use Rattle.demands.specs.Leaving.{Leaving}
use Rattle.demands.specs.Paying.{Paying}
use Rattle.demands.specs.Taking.{Taking}
use Rattle.demands.specs.Sets.{Sets}
use Rattle.demands.specs.Charts.{loop_chart, loop_report}
use Rattle.demands.specs.Soundings.{starred, after, loop_figures, loop, ten_turns}
use Rattle.demands.specs.Refused.{damaged, unanalysed}
use Rattle.demands.specs.Tabled.{unchecked, looser, untotalled, summed}
use Rattle.demands.specs.Timely.{quarter, least, most, timely}
use Rattle.demands.specs.OnTime.{JudgedWalk}
use Rattle.demands.specs.AsFacts.{visit_question}
use Rattle.demands.specs.Certified.{WalkKeeps, cost_in}
use Rattle.demands.specs.Certifying.{branch, branch_table, branch_walk, ten_sides, nested, nested_table, four_rounds, one_round, longest, shortest}
use Rattle.demands.specs.Certifying.{bounds, low_bounds, at_the_ends}
use Rattle.demands.specs.Varied.{branch_figures, settled_so, varied, figures_as_facts}
use Rattle.demands.specs.Unbounded.{not_bounded}
use Rattle.demands.specs.Corners.{corners, unknown_start, strangers}
use Rattle.demands.specs.Shared.{shared_soundings, shape_soundings}
use Rattle.demands.specs.Edges.{left_behind, edges, eleven_steps, eleven_report}
use Rattle.demands.specs.Straddling.{straddle, straddle_report, straddling, straddling_paid}
use Rattle.demands.specs.Staying.{staying_passes, staying, staying_paid, staying_apart}
use Rattle.demands.specs.Mistakes.{right, mistaken}
use Rattle.demands.specs.Examples.{examples}

pub record Sounded : Type 0 where
  -- the starred soundings, all under one claim
  pub starred_hold : Hold starred
  -- the ten turns are a walk of the loop chart from contents that it allows, and within the floors and ceilings of the sounding: demand 3
  -- speaks of them
  pub ten_turns_walk : OnWalk loop_chart loop empty_cache ten_turns
  pub ten_turns_within : VisitsWithin loop loop_figures ten_turns
  -- and with 0.125 microseconds a cycle, no overhead and a latest time of 2.5 what is said of deadlines speaks of them, without rounding too
  pub ten_turns_judged : JudgedWalk loop_chart loop (table_in (after loop_chart)) loop_figures empty_cache ten_turns (sheet eighth zero) (latest two_and_half) (judged_with true (number quarter) (number two_and_half))
  pub eighth_exact : ExactSheet (sheet eighth zero) 3
  -- not every node of them is below 2: `AtEachNode` speaks of the last one, node 2, too
  pub last_node : AtEachNode loop (λ n cache. n < 2) ten_turns empty_cache → ⊥
  -- a walk goes on along any arrow of its last node, however long it is (rule 5.1)
  pub walk_goes_on : (arrows : ℕ → List ℕ) (entry t : ℕ) (ts : List ℕ)
      → Walk arrows entry ts
      → Among t (arrows (last_of entry ts))
      → Walk arrows entry (ts ++ t ∷ [])
  -- where the contents are unknown, they may have blocks that the chart does not have (rule 4.7)
  pub strangers_begin : (plain_machine unknown_start).Begins strangers
  -- the loop chart's table passes, its totals are 2 and 20, and they meet a deadline of 4.5 at 0.125 a cycle and an overhead of 2: what the program
  -- `soundings` runs
  pub loop_checked : checked loop_chart (table_in (after loop_chart)) ≡ Ok true
  pub loop-totals : totals loop_chart (table_in (after loop_chart)) loop_figures ≡ totals_between 2 20
  pub loop_judged : judged loop_chart (table_in (after loop_chart)) loop_figures (sheet eighth two) (latest most) ≡ judged_with true (number least) (number most)
  -- the loop's report, whole, and the numbers that the program goes by (rules 1.4, 9.6, 13.1 and 13.2)
  pub sample_report : report loop_chart ≡ loop_report
  pub longest-chart : longest_chart ≡ 8200
  pub passes_allowed : all_passes ≡ 1049601
  pub passes_enough : passes_for 3 1 2 ≡ 16
  -- and what is so at every node, place, length and number, however large
  pub at_any_number : Anywhere
  pub left_at_any : Leaving
  pub paid_at_any : Paying
  pub taken_at_any : (plan : Plan) → Taking (plan_flow plan)
  pub kept_taken_at_any : (plan : Plan) (column : ℕ) → Taking (kept_flow plan column)
  pub sets_at_any : Sets
  -- facts and certificates by whole numbers as they are, in place of what is above 0 and what is below (rules 18.1 and 18.3 to 18.7)
  pub wholes_at_any : InWholes
  -- how the program ends (rule 13.3): which inputs are refused, and the status of a report and of a refusal, written whole and not
  pub sample_not_refused : refuses loop_chart ≡ false
  pub no_bytes_refused : refuses [] ≡ true
  -- the text says so too, for every input: it begins with the r of "refused" or the n of "nodes"
  pub refusal_told : (input : List ℕ) → get_or (report input) 0 0 ≡ cond (refuses input) 114 110
  pub endings : (ending_of false true ∷ ending_of true true ∷ ending_of false false ∷ ending_of true false ∷ []) ≡ 0 ∷ 1 ∷ 2 ∷ 2 ∷ []
  -- refusals by the reader, the analysis, the checker and the totals; tables that pass, and sums
  pub damaged_hold : Hold damaged
  pub unanalysed_hold : Hold unanalysed
  pub unchecked_hold : Hold unchecked
  pub looser_hold : Hold looser
  pub untotalled_hold : Hold untotalled
  pub summed_hold : Hold summed
  -- deadlines of the loop, figures that are infinite, and refusal 18 behind those of the totals
  pub timely_hold : Hold timely
  -- bounds of certificates that are worked out by hand, on both sides and of more charts, the ends of the ranges, and refusals 23 to 25 behind the others
  pub bounds_hold : Hold bounds
  pub low_bounds_hold : Hold low_bounds
  pub at_the_ends_hold : Hold at_the_ends
  pub settled_so_hold : Hold settled_so
  pub varied_hold : Hold varied
  pub figures_as_facts_hold : Hold figures_as_facts
  pub not_bounded_hold : Hold not_bounded
  -- the branch's floors and ceilings as facts come to its total, too
  pub branch_as_facts : bounded branch branch_table (visit_question (plan_of (chart_in branch)) branch_table branch_figures High) ≡ Ok 78
  -- the walk by both sides in turn keeps the fact of the sides: what is said of certificates speaks of it, and its cost is the bound
  pub both_sides_walk : OnWalk branch (chart_in branch) empty_cache branch_walk
  pub both_sides_keep : WalkKeeps (chart_in branch) ten_sides branch_walk
  pub both_sides_bounded : bounded branch branch_table ten_sides ≡ Ok 68
  pub both_sides_paid : cost_in (chart_in branch) ten_sides branch_walk empty_cache ≡ 68
  -- and so it does of the longest walk of a loop within a loop, whose facts have coefficients below -1, and of the shortest one, on the low side
  pub longest_walk : OnWalk nested (chart_in nested) empty_cache longest
  pub longest_keeps : WalkKeeps (chart_in nested) four_rounds longest
  pub longest_bounded : bounded nested nested_table four_rounds ≡ Ok 133
  pub longest_paid : cost_in (chart_in nested) four_rounds longest empty_cache ≡ 133
  pub shortest_walk : OnWalk nested (chart_in nested) empty_cache shortest
  pub shortest_keeps : WalkKeeps (chart_in nested) one_round shortest
  pub shortest_bounded : bounded nested nested_table one_round ≡ Ok 31
  pub shortest_paid : cost_in (chart_in nested) one_round shortest empty_cache ≡ 31
  -- what analysis and plain machine share
  pub shared_hold : Hold shared_soundings
  pub shapes_hold : Hold shape_soundings
  -- tails, buffers without places, the largest costs, eight ways, marks after each pass, a report of two-digit nodes
  pub left_behind_hold : Hold left_behind
  pub edges_hold : Hold edges
  pub eleven-report : report eleven_steps ≡ eleven_report
  -- references across two lines, what they cost, and the report of such a chart, whole
  pub straddling_hold : Hold straddling
  pub straddling-paid : Hold straddling_paid
  pub straddle-report : report straddle ≡ straddle_report
  -- blocks that stay, and what they cost
  pub staying-passes : Hold staying_passes
  pub staying_hold : Hold staying
  pub staying-paid : Hold staying_paid
  pub staying-apart : Hold staying_apart
  -- a class, by any ages and any set (rule 8.1)
  pub hit_called : (limit must may : ℕ) (stays : Bool) → must < limit → class_by limit must may stays ≡ 1
  pub miss_called : (limit must may : ℕ) (stays : Bool) → limit ≤ must → may ≡ limit → class_by limit must may stays ≡ 2
  pub kept_called : (limit must may : ℕ) → limit ≤ must → (may ≡ limit → ⊥) → class_by limit must may true ≡ 5
  pub unsure_called : (limit must may : ℕ) → limit ≤ must → (may ≡ limit → ⊥) → class_by limit must may false ≡ 3
  -- the plain machine pays k times as much where both costs are k times as high
  pub cost_scales : (chart : Chart) (k hit_cost miss_cost : ℕ) (ts : List ℕ) (contents : Contents chart)
      → cost_of chart (k * hit_cost) (k * miss_cost) ts contents ≡ k * cost_of chart hit_cost miss_cost ts contents
  -- the reader's: fields, kinds, two arrows to one node, sizes, and the limits
  pub chart_sounded : ChartSounded
  pub fields_sounded : FieldsSounded
  pub writer_sounded : WriterSounded
  -- the clock's: figures by their bits, times, limits and verdicts
  pub clock_sounded : ClockSounded
  -- corners that the starred soundings leave out
  pub corners_hold : Hold corners
  -- what is right, and what each of five mistakes reads
  pub right_hold : Hold right
  pub mistaken_hold : Hold mistaken
  -- the examples of docs/RULES.md
  pub examples_hold : Hold examples
  -- how many soundings each list has: none is dropped unseen
  pub how_many : map length (chart_fields ∷ node_counts ∷ twin_arrows ∷ sized_touches ∷ sizes_refused ∷ crowded ∷ [])
      ++ map length (nodes_read ∷ blocks_listed ∷ loop_written ∷ fields_packed ∷ headings_refused ∷ nodes_refused ∷ ordered ∷ crowds ∷ [])
      ++ map length (starred ∷ damaged ∷ unanalysed ∷ unchecked ∷ looser ∷ untotalled ∷ summed ∷ corners ∷ shared_soundings ∷ shape_soundings ∷ [])
      ++ map length (figures_sounded ∷ times_sounded ∷ refusals_sounded ∷ verdicts_sounded ∷ timely ∷ [])
      ++ map length (bounds ∷ low_bounds ∷ at_the_ends ∷ settled_so ∷ varied ∷ figures_as_facts ∷ not_bounded ∷ [])
      ++ map length (left_behind ∷ edges ∷ straddling ∷ straddling_paid ∷ staying_passes ∷ staying ∷ staying_paid ∷ staying_apart ∷ right ∷ mistaken ∷ examples ∷ [])
      ≡ (9 ∷ 12 ∷ 22 ∷ 19 ∷ 11 ∷ 8 ∷ [])
      ++ (5 ∷ 5 ∷ 4 ∷ 1 ∷ 24 ∷ 31 ∷ 7 ∷ 2 ∷ [])
      ++ (13 ∷ 26 ∷ 13 ∷ 13 ∷ 10 ∷ 20 ∷ 8 ∷ 17 ∷ 13 ∷ 6 ∷ [])
      ++ (24 ∷ 3 ∷ 10 ∷ 9 ∷ 23 ∷ [])
      ++ (27 ∷ 10 ∷ 8 ∷ 9 ∷ 20 ∷ 4 ∷ 37 ∷ [])
      ++ (11 ∷ 12 ∷ 15 ∷ 11 ∷ 4 ∷ 13 ∷ 6 ∷ 4 ∷ 6 ∷ 6 ∷ 28 ∷ [])
