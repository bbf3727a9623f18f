-- The definitions give the numbers that are asked for: the starred soundings under one claim; the loop's report whole; a damaged chart's refusals;
-- and what each of five mistakes would read instead.
use Rattle.std.specs.Prelude.{Ok}
use Prim.Native.Nat.{ℕ, zero, suc, ◌^◌, ◌≤◌, ◌<◌}
use mathlib.Core.List.{◌∷◌}
use lib.ListN.{get_or, length}
use native.Mathlib.Omega.{arith}
use borrow.Author.Tests.{lt-ltb, le-ltb, eq-eqb, ne_eqb}
use mathlib.Core.Path.{◌≡◌, refl}
use mathlib.Core.Logic.{inl, inr}
use Rattle.lists.specs.Soundings.{Hold}
use Rattle.chart.specs.Layout.{word_at}
use Rattle.chart.specs.Header.{header_in}
use Rattle.chart.specs.Geometry.{block_of, set_of, shape_allowed}
use Rattle.chart.specs.Record.{record_keeps, record_of, arrows_of, touches_of}
use Rattle.blocks.specs.Blocks.{gathered, overfull, place_in}
use Rattle.chart.specs.Reading.{reading_of}
use Rattle.chart.proofs.Sounded.{chart_sounded}
use Rattle.fields.specs.Fields.{node_read}
use Rattle.fields.proofs.Sounded.{fields_sounded}
use Rattle.writer.proofs.Sounded.{writer_sounded}
use Rattle.clock.proofs.Sounded.{clock_sounded}
use lib.Ieee.{of_bits, to_bits, of_int, mul, add, lt, le, eq}
use Rattle.clock.specs.Clock.{figure_of, improper}
use Rattle.deadline.specs.Deadline.{judged_by, judged}
use Rattle.chart.specs.Chart.{accepted, chart_in, arrows, touches, first_broken, first_overfull, read_chart}
use Rattle.cache.specs.Plain.{has, without, touch_set, age_in, hits, touch, Different, AllOf}
use Rattle.cache.specs.Ages.{must_grown, may_grown, must_after, may_after, same_ages, touch_ages, meet_ages, start_ages}
use Rattle.flow.specs.Walk.{Onward, visits_of}
use Rattle.flow.specs.Pass.{met, changes, met_at, put, put_all, take_with, take_node, take_nodes, pass, before, after_passes, settle_from, settle}
use Rattle.flow.proofs.Reaching.{onward-more}
use Rattle.flow.proofs.Paying.{paid-scales}
use Rattle.facts.specs.declared.Side.TheVariants.{High}
use Rattle.facts.proofs.Whole.{in-wholes}
use Rattle.kept.specs.Since.{members, untouched, in_after, touch_since, meet_since, same_since}
use Rattle.kept.specs.Kept.{kept_flow, kept_table, stays_by}
use Rattle.classes.specs.Class.{class_by}
use Rattle.analysis.specs.Analysis.{finish, analysed}
use Rattle.checker.specs.Checker.{passing, checked_by, checked}
use Rattle.totals.specs.Totals.{totals, totals_between}
use Rattle.costs.specs.Costs.{total_by, kept_charge}
use Rattle.certificate.specs.Bound.{bounded}
use Rattle.report.specs.Report.{report}
use Rattle.report.specs.Ending.{refuses}
use Rattle.report.proofs.Refusing.{refusal_told}
use Rattle.machine.specs.Machine.{key_of, plain_machine}
use Rattle.ages.specs.Plan.{plan_flow}
use Rattle.ages.specs.Charted.{plan_of}
use Rattle.demands.proofs.Anywhere.{anywhere}
use Rattle.demands.proofs.Leaving.{leaving}
use Rattle.demands.proofs.Paying.{paying}
use Rattle.demands.proofs.Taking.{taking}
use Rattle.demands.proofs.Sets.{sets}
use Rattle.demands.proofs.Certified.{certified}
use Rattle.demands.specs.Soundings.{loop, starred, loop_figures, ten_turns}
use Rattle.demands.specs.Refused.{damaged, unanalysed}
use Rattle.demands.specs.Tabled.{unchecked, looser, untotalled, summed}
use Rattle.demands.specs.Timely.{timely}
use Rattle.demands.specs.Corners.{corners, unknown_start, strangers}
use Rattle.demands.specs.Shared.{shared_soundings, shape_soundings}
use Rattle.demands.specs.Edges.{left_behind, edges, eleven_steps, eleven_report}
use Rattle.demands.specs.Straddling.{straddle, straddle_report, straddling, straddling_paid}
use Rattle.demands.specs.Staying.{staying_passes, staying, staying_paid, staying_apart}
use Rattle.demands.specs.Certifying.{branch, branch_table, both_sides, branch_walk, ten_sides, nested, four_rounds, one_round, full_rounds, longest, shortest}
use Rattle.demands.specs.Certifying.{bounds, low_bounds, at_the_ends}
use Rattle.demands.specs.Varied.{branch_figures, settled_so, varied, figures_as_facts}
use Rattle.demands.specs.Unbounded.{not_bounded}
use Rattle.demands.specs.Mistakes.{right, mistaken}
use Rattle.demands.specs.Examples.{examples}
use Rattle.demands.specs.Charts.{loop_chart}
use Rattle.cache.specs.Plain.{empty_cache}
use Rattle.demands.specs.Demand3.{OnWalk}
use Rattle.demands.specs.AsFacts.{visit_question}
use Rattle.demands.specs.Certified.{WalkKeeps}
use Rattle.demands.specs.Sounded.{Sounded}

-- All that has to be seen through for a definition to compute.
all-unfolded : Unit {0}
unfolding reading_of word_at block_of set_of shape_allowed record_keeps record_of arrows_of touches_of gathered overfull place_in first_broken first_overfull read_chart has without touch_set age_in hits touch must_grown may_grown must_after may_after same_ages touch_ages meet_ages start_ages met changes met_at put put_all take_with take_node take_nodes pass before after_passes settle_from settle class_by members untouched in_after touch_since meet_since same_since kept_table stays_by kept_charge finish analysed passing checked_by checked total_by totals of_bits to_bits of_int mul add lt le eq figure_of improper judged_by judged report refuses node_read bounded
all-unfolded = tt

pub loop-nodes : (header_in loop_chart).nodes ≡ 3
unfolding all-unfolded
loop-nodes = refl

no_less : (n : ℕ) → n < 3 → get_or loop_figures.floors n 0 ≤ visits_of n (0 ∷ ten_turns)
no_less zero h = omega arith
no_less (suc zero) h = omega arith
no_less (suc (suc zero)) h = omega arith
no_less (suc (suc (suc n))) h = absurd (omega arith)

no-more : (n : ℕ) → n < 3 → visits_of n (0 ∷ ten_turns) ≤ get_or loop_figures.ceilings n 0
no-more zero h = omega arith
no-more (suc zero) h = omega arith
no-more (suc (suc zero)) h = omega arith
no-more (suc (suc (suc n))) h = absurd (omega arith)

-- The loop's figures have 16 bits, whichever node is asked for.
loop-floors : (n : ℕ) → get_or loop_figures.floors n 0 < 2 ^ 16
loop-floors zero = omega arith
loop-floors (suc zero) = omega arith
loop-floors (suc (suc zero)) = omega arith
loop-floors (suc (suc (suc n))) = omega arith

loop-ceilings : (n : ℕ) → get_or loop_figures.ceilings n 0 < 2 ^ 16
loop-ceilings zero = omega arith
loop-ceilings (suc zero) = omega arith
loop-ceilings (suc (suc zero)) = omega arith
loop-ceilings (suc (suc (suc n))) = omega arith

starred_hold : Hold starred
unfolding all-unfolded
starred_hold = refl

damaged_hold : Hold damaged
unfolding all-unfolded
damaged_hold = refl

unanalysed_hold : Hold unanalysed
unfolding all-unfolded
unanalysed_hold = refl

unchecked_hold : Hold unchecked
unfolding all-unfolded
unchecked_hold = refl

untotalled_hold : Hold untotalled
unfolding all-unfolded
untotalled_hold = refl

right_hold : Hold right
unfolding all-unfolded
right_hold = refl

examples_hold : Hold examples
unfolding all-unfolded
examples_hold = refl

mistaken_hold : Hold mistaken
unfolding all-unfolded
mistaken_hold = refl

looser_hold : Hold looser
unfolding all-unfolded
looser_hold = refl

summed_hold : Hold summed
unfolding all-unfolded
summed_hold = refl

timely_hold : Hold timely
unfolding all-unfolded
timely_hold = refl

shared_hold : Hold shared_soundings
unfolding all-unfolded
shared_hold = refl

left_behind_hold : Hold left_behind
unfolding all-unfolded
left_behind_hold = refl

edges_hold : Hold edges
unfolding all-unfolded
edges_hold = refl

eleven-report : report eleven_steps ≡ eleven_report
unfolding all-unfolded
eleven-report = refl

straddling_hold : Hold straddling
unfolding all-unfolded
straddling_hold = refl

straddling-paid : Hold straddling_paid
unfolding all-unfolded
straddling-paid = refl

staying-passes : Hold staying_passes
unfolding all-unfolded
staying-passes = refl

staying_hold : Hold staying
unfolding all-unfolded
staying_hold = refl

staying-paid : Hold staying_paid
unfolding all-unfolded
staying-paid = refl

staying-apart : Hold staying_apart
unfolding all-unfolded
staying-apart = refl

straddle-report : report straddle ≡ straddle_report
unfolding all-unfolded
straddle-report = refl

shapes_hold : Hold shape_soundings
unfolding all-unfolded
shapes_hold = refl

corners_hold : Hold corners
unfolding all-unfolded
corners_hold = refl

bounds_hold : Hold bounds
unfolding all-unfolded
bounds_hold = refl

low_bounds_hold : Hold low_bounds
unfolding all-unfolded
low_bounds_hold = refl

at_the_ends_hold : Hold at_the_ends
unfolding all-unfolded
at_the_ends_hold = refl

settled_so_hold : Hold settled_so
unfolding all-unfolded
settled_so_hold = refl

varied_hold : Hold varied
unfolding all-unfolded
varied_hold = refl

figures_as_facts_hold : Hold figures_as_facts
unfolding all-unfolded
figures_as_facts_hold = refl

not_bounded_hold : Hold not_bounded
unfolding all-unfolded
not_bounded_hold = refl

strangers-formed : (plain_machine unknown_start).Begins strangers
unfolding all-unfolded
strangers-formed = record { short = short; different = different; own = own }
  where
    short : (set : ℕ) → length (strangers set) ≤ 2
    short zero = omega arith
    short (suc set) = omega arith

    different : (set : ℕ) → Different (strangers set)
    different zero = (((λ e. omega arith), tt), (tt, tt))
    different (suc set) = tt

    own : (set : ℕ) → AllOf (key_of unknown_start) set (strangers set)
    own zero = (refl, (refl, tt))
    own (suc set) = tt

ten-turns : OnWalk loop_chart loop empty_cache ten_turns
unfolding all-unfolded
ten-turns =
    record {
      read = refl;
      begins = λ set. refl;
      walk = (inl refl, (inl refl, (inl refl, (inl refl, (inl refl, (inl refl, (inl refl, (inl refl, (inl refl, (inl refl, (inr (inl refl), tt)))))))))));
    }

-- Pairs of turns of the branch, one by each side, and out.
pairs-onward : (pairs : ℕ) → Onward (arrows (chart_in branch)) 0 (both_sides pairs)
unfolding all-unfolded
pairs-onward zero = (inr (inl refl), tt)
pairs-onward (suc pairs) = (inl refl, (inl refl, (inl refl, (inl refl, (inl refl, (inr (inl refl), (inl refl, (inl refl, pairs-onward pairs))))))))

both-sides : OnWalk branch (chart_in branch) empty_cache branch_walk
unfolding all-unfolded
both-sides = record { read = refl; begins = λ set. refl; walk = pairs-onward 5 }

both_sides_keep : WalkKeeps (chart_in branch) ten_sides branch_walk
unfolding all-unfolded
both_sides_keep zero h = omega arith
both_sides_keep (suc f) h = absurd (omega arith)

branch-floors : (n : ℕ) → get_or branch_figures.floors n 0 < 2 ^ 16
branch-floors zero = omega arith
branch-floors (suc zero) = omega arith
branch-floors (suc (suc zero)) = omega arith
branch-floors (suc (suc (suc zero))) = omega arith
branch-floors (suc (suc (suc (suc zero)))) = omega arith
branch-floors (suc (suc (suc (suc (suc zero))))) = omega arith
branch-floors (suc (suc (suc (suc (suc (suc n)))))) = omega arith

branch-ceilings : (n : ℕ) → get_or branch_figures.ceilings n 0 < 2 ^ 16
branch-ceilings zero = omega arith
branch-ceilings (suc zero) = omega arith
branch-ceilings (suc (suc zero)) = omega arith
branch-ceilings (suc (suc (suc zero))) = omega arith
branch-ceilings (suc (suc (suc (suc zero)))) = omega arith
branch-ceilings (suc (suc (suc (suc (suc zero))))) = omega arith
branch-ceilings (suc (suc (suc (suc (suc (suc n)))))) = omega arith

branch_read : read_chart branch ≡ accepted (chart_in branch)
unfolding all-unfolded
branch_read = refl

branch-totals : totals branch branch_table branch_figures ≡ totals_between 0 78
unfolding all-unfolded
branch-totals = refl

branch_as_facts : bounded branch branch_table (visit_question (plan_of (chart_in branch)) branch_table branch_figures High) ≡ Ok 78
branch_as_facts =
    certified.high-total branch (chart_in branch) branch_table branch_figures 0 78 branch_read
    (record { hit = omega arith; miss = omega arith; floors = branch-floors; ceilings = branch-ceilings })
    branch-totals

-- Full rounds of the outer loop, from its last node on, and out; and the longest walk, which begins before it.
rounds-onward : (rounds : ℕ) → Onward (arrows (chart_in nested)) 4 (full_rounds rounds)
unfolding all-unfolded
rounds-onward zero = (inr (inl refl), tt)
rounds-onward (suc rounds) = (inl refl, (inl refl, (inl refl, (inl refl, (inl refl, (inr (inl refl), rounds-onward rounds))))))

longest_walk : OnWalk nested (chart_in nested) empty_cache longest
unfolding all-unfolded
longest_walk = record { read = refl; begins = λ set. refl; walk = (inl refl, (rounds-onward 4).1) }

longest_keeps : WalkKeeps (chart_in nested) four_rounds longest
unfolding all-unfolded
longest_keeps zero h = omega arith
longest_keeps (suc zero) h = omega arith
longest_keeps (suc (suc zero)) h = omega arith
longest_keeps (suc (suc (suc f))) h = absurd (omega arith)

shortest_walk : OnWalk nested (chart_in nested) empty_cache shortest
unfolding all-unfolded
shortest_walk = record { read = refl; begins = λ set. refl; walk = (inl refl, (inl refl, (inr (inl refl), (inr (inl refl), tt)))) }

shortest_keeps : WalkKeeps (chart_in nested) one_round shortest
unfolding all-unfolded
shortest_keeps zero h = omega arith
shortest_keeps (suc zero) h = omega arith
shortest_keeps (suc (suc zero)) h = omega arith
shortest_keeps (suc (suc (suc f))) h = absurd (omega arith)

pub sounded : Sounded
unfolding all-unfolded
sounded =
    record {
      starred_hold = starred_hold;
      ten_turns_walk = ten-turns;
      ten_turns_judged = record {
        on_walk = ten-turns;
        within = record { no_less = no_less; no-more = no-more };
        sixteen_bits = record { hit = omega arith; miss = omega arith; floors = loop-floors; ceilings = loop-ceilings };
        answered = refl;
      };
      eighth_exact = record { most = omega arith; period = (refl, refl); overhead = refl };
      last_node = λ p. omega (arith, p.1.1.1.1.1.1.1.1.1.1.1);
      walk_goes_on = onward-more;
      strangers_begin = strangers-formed;
      ten_turns_within = record { no_less = no_less; no-more = no-more };
      loop_checked = refl;
      loop-totals = refl;
      loop_judged = refl;
      sample_report = refl;
      longest-chart = refl;
      passes_allowed = refl;
      passes_enough = refl;
      at_any_number = anywhere;
      left_at_any = leaving;
      paid_at_any = paying;
      taken_at_any = λ plan. taking (plan_flow plan);
      kept_taken_at_any = λ plan column. taking (kept_flow plan column);
      sets_at_any = sets;
      wholes_at_any = in-wholes;
      sample_not_refused = refl;
      no_bytes_refused = refl;
      refusal_told = refusal_told;
      endings = refl;
      damaged_hold = damaged_hold;
      unanalysed_hold = unanalysed_hold;
      unchecked_hold = unchecked_hold;
      looser_hold = looser_hold;
      untotalled_hold = untotalled_hold;
      summed_hold = summed_hold;
      timely_hold = timely_hold;
      bounds_hold = bounds_hold;
      low_bounds_hold = low_bounds_hold;
      at_the_ends_hold = at_the_ends_hold;
      settled_so_hold = settled_so_hold;
      varied_hold = varied_hold;
      figures_as_facts_hold = figures_as_facts_hold;
      not_bounded_hold = not_bounded_hold;
      branch_as_facts = branch_as_facts;
      both_sides_walk = both-sides;
      both_sides_keep = both_sides_keep;
      both_sides_bounded = refl;
      both_sides_paid = refl;
      longest_walk = longest_walk;
      longest_keeps = longest_keeps;
      longest_bounded = refl;
      longest_paid = refl;
      shortest_walk = shortest_walk;
      shortest_keeps = shortest_keeps;
      shortest_bounded = refl;
      shortest_paid = refl;
      shared_hold = shared_hold;
      shapes_hold = shapes_hold;
      left_behind_hold = left_behind_hold;
      edges_hold = edges_hold;
      eleven-report = eleven-report;
      straddling_hold = straddling_hold;
      straddling-paid = straddling-paid;
      straddle-report = straddle-report;
      staying-passes = staying-passes;
      staying_hold = staying_hold;
      staying-paid = staying-paid;
      staying-apart = staying-apart;
      hit_called = λ limit must may stays h. rw (lt-ltb must limit h);
      miss_called = λ limit must may stays h e. rw (le-ltb must limit h, eq-eqb may limit e);
      kept_called = λ limit must may h e. rw (le-ltb must limit h, ne_eqb may limit e);
      unsure_called = λ limit must may h e. rw (le-ltb must limit h, ne_eqb may limit e);
      cost_scales = λ chart k hit_cost miss_cost ts contents. paid-scales (plain_machine chart) k hit_cost miss_cost (touches chart) chart.header.entry ts contents;
      chart_sounded = chart_sounded;
      fields_sounded = fields_sounded;
      writer_sounded = writer_sounded;
      clock_sounded = clock_sounded;
      corners_hold = corners_hold;
      right_hold = right_hold;
      mistaken_hold = mistaken_hold;
      examples_hold = examples_hold;
      how_many = refl;
    }
