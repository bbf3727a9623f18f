-- Demand 2: the checker passes exactly the tables that meet the equations, and an analysis that settles leaves the tightest of them.
use Prim.Native.Nat.{ℕ, ◌+◌, ◌*◌, ◌%◌, ◌^◌, ◌≤◌, ◌<◌}
use mathlib.Core.Bool.{false}
use mathlib.Core.List.{List}
use mathlib.Core.Path.{◌≡◌, refl, sym, ap, ◌∙◌, subst}
use native.Mathlib.Nat.{mul-le-mul}
use native.Mathlib.Omega.{arith}
use lib.ListN.{length, replicate, length-replicate}
use Rattle.chart.specs.declared.headers.Start.{Start}
use Rattle.chart.specs.declared.headers.Start.TheVariants.{Unknown, Empty}
use Rattle.chart.specs.Geometry.{most_touches, most_nodes, most_blocks, most_ways, set_of, passes_for, all_passes}
use Rattle.chart.specs.Chart.{Chart, Read, accepted, refused, read_chart, touches, block_count}
use Rattle.chart.specs.Bytes.{AreBytes}
use Rattle.chart.proofs.Saying.{accepted_says}
use Rattle.chart.proofs.Accepted.{accepted-nodes, accepted-ways, accepted-few}
use Rattle.cache.specs.Ages.{Ages}
use Rattle.cache.specs.Plain.{Cache, Formed, empty_cache}
use Rattle.cache.proofs.Published.{as-published}
use Rattle.machine.specs.Machine.{ways_of, key_of, BeginsWith, plain_machine}
use Rattle.flow.specs.Flow.{Cell, cell_at}
use Rattle.flow.specs.Passing.{Marked, Tightest}
use Rattle.flow.specs.Pass.{settled, settle}
use Rattle.flow.specs.Walk.{in_turn}
use Rattle.kept.specs.Since.{Since}
use Rattle.kept.specs.Kept.{after_touch_of, kept_flow, kept_passes, kept_table}
use Rattle.kept.proofs.Settled.{kept_settles, kept-count, kept-tightest}
use Rattle.kept.proofs.Walked.{kept-walked}
use Rattle.kept.proofs.Checked.{test-passing, passing-test}
use Rattle.ages.specs.Plan.{ColumnTouch}
use Rattle.lists.proofs.Listed.{get_or-list_of}
use Rattle.flow.proofs.Ending.{settle-after}
use Rattle.flow.proofs.Outcomes.{settle-agree, settle-made}
use Rattle.ages.specs.Charted.{block_at, key_at, column_touch, is_empty, plan_of, ages_flow, most_passes}
use Rattle.ages.proofs.Charting.{key-alike, set-alike, must-limit-planned, may-limit-planned, limits-planned, enough-planned, chart-sound, turns-mapped, arrows-planned, touches-planned, column-inside, column-holds, step-touches, reached-planned, planned-reached}
use Rattle.tables.specs.Lent.{ages_used}
use Rattle.tables.specs.Fitting.{TableFits}
use Rattle.tables.proofs.Laid.{table-over, not_short, over-passes}
use Rattle.tables.proofs.Fitting.{after_passes-fits}
use Rattle.ages.proofs.Settled.{settles-within, settled-tightest, settled-passes, settled-made, settled-last, settled-earlier, settled-table, settled-marked}
use Rattle.analysis.specs.Analysis.{Buffers, Left, buffers_short, filled_by, table_in, analysed, analysis_refused, settled_after}
use Rattle.report.specs.Report.{taken, zero_buffers}
use Rattle.report.specs.Ending.{refused_by, refuses}
use Rattle.demands.specs.Demand2.{ShapeSaid, Settles, Planned, KeptSettles, Demand2}
use Rattle.demands.proofs.Refusals.{reading-refusals}
use Rattle.demands.proofs.Checking.{checker_yes, yes_checker}
use Rattle.analysis.proofs.Room.{room-parts, parts-room}
use Rattle.demands.specs.Inner.{Done}
use Rattle.demands.proofs.Analysing.{settled-done, done-settled}

-- ---- the shape that the bytes say

-- What a machine may begin with goes by the start.
begins-as : (chart : Chart) (start : Start) → chart.header.start ≡ start → (cache : Cache) → BeginsWith chart start cache → (plain_machine chart).Begins cache
begins-as chart start e cache h = subst (λ (s : Start). BeginsWith chart s cache) (sym e) h

-- Lists of the form that numbers say are of the chart's form.
formed-as : (chart : Chart) (ways sets : ℕ) → chart.header.geometry.ways ≡ ways → chart.header.geometry.sets ≡ sets → (cache : Cache) → Formed (λ set. ways) (λ block. block % 2 ^ sets) cache → Formed (ways_of chart) (key_of chart) cache
unfolding set_of
formed-as chart ways sets e d cache h =
    subst (λ (w : ℕ). Formed (λ set. w) (key_of chart) cache) (sym e)
    (subst (λ (s : ℕ). Formed (λ set. ways) (λ block. block % 2 ^ s) cache) (sym d) h)

shape_said : (bytes : List ℕ) (chart : Chart) → AreBytes bytes → read_chart bytes ≡ accepted chart → ShapeSaid bytes chart
shape_said bytes chart small read =
    let says = accepted_says bytes small chart read in
    record {
      must-limits = λ column h. must-limit-planned chart column h ∙ says.header.ways;
      may-limits = λ column h. may-limit-planned chart column h ∙ says.header.ways;
      machine_ways = λ set. says.header.ways;
      machine_sets = says.sets;
      column_sets = λ column. says.sets (block_at chart column);
      plan_unknown = λ e. ap is_empty (says.header.unknown e);
      plan_empty = λ e. ap is_empty (says.header.empty e);
      unknown_begins = λ e cache h. begins-as chart Unknown (says.header.unknown e) cache (formed-as chart _ _ says.header.ways says.header.sets cache h);
      empty_begins = λ e. begins-as chart Empty (says.header.empty e) empty_cache (λ set. refl);
      most-passes = ap (λ (a : ℕ). passes_for chart.header.nodes (block_count chart) a) says.header.ways;
    }

-- ---- an analysis that settles

module _ (bytes : List ℕ) (chart : Chart) (read : read_chart bytes ≡ accepted chart) (allowance passes blocks : ℕ) (lent : Buffers) (done : Done bytes chart allowance lent passes blocks) where
  fits : TableFits (plan_of chart) done.table
  fits =
      subst (TableFits (plan_of chart)) (sym (settled-table (plan_of chart) (chart-sound bytes chart read) allowance passes done.table done.outcome)) (after_passes-fits (plan_of chart) passes)

  tightest : Tightest (ages_flow chart) done.table
  tightest = settled-tightest (plan_of chart) (chart-sound bytes chart read) allowance passes done.table done.outcome

  done-settles : Settles chart passes blocks lent (filled_by (plan_of chart) chart.blocks done.table lent)
  done-settles =
      let same = settled-table (plan_of chart) (chart-sound bytes chart read) allowance passes done.table done.outcome in
      let table_is = table-over (plan_of chart) fits (table_in lent) in
      let reach = settled-marked (plan_of chart) (chart-sound bytes chart read) allowance passes done.table done.outcome in
      record {
        blocks_is = done.count_is;
        made = settled-made (plan_of chart) (chart-sound bytes chart read) allowance passes done.table done.outcome;
        last = settled-last (plan_of chart) (chart-sound bytes chart read) allowance passes done.table done.outcome;
        earlier = settled-earlier (plan_of chart) (chart-sound bytes chart read) allowance passes done.table done.outcome;
        count =
            let most = settled-passes (plan_of chart) (chart-sound bytes chart read) chart.header.geometry.ways (limits-planned chart) allowance passes done.table done.outcome in
            omega (arith, enough-planned chart);
        filled = ap (λ (T : List (Cell Ages)). filled_by (plan_of chart) chart.blocks T lent) same;
        table = table_is ∙ same;
        table_passes = over-passes (plan_of chart) fits tightest.passing (table_in lent) (room-parts (plan_of chart) lent done.room).1.0;
        tightest = subst (Tightest (ages_flow chart)) (sym table_is) tightest;
        marked_reached = λ n m. planned-reached bytes chart read n ((reach n).0 (subst (λ (T : List (Cell Ages)). Marked (cell_at T n)) table_is m));
        reached_marked = λ n r. subst (λ (T : List (Cell Ages)). Marked (cell_at T n)) (sym table_is) ((reach n).1 (reached-planned bytes chart read n r));
      }

settled-settles : (bytes : List ℕ) (chart : Chart) (allowance passes blocks : ℕ) (lent : Buffers) → read_chart bytes ≡ accepted chart → (analysed bytes allowance lent).answer ≡ settled_after passes blocks
    → Settles chart passes blocks lent (analysed bytes allowance lent).buffers
settled-settles bytes chart allowance passes blocks lent read e =
    let done = settled-done bytes chart allowance lent read passes blocks e in
    subst (Settles chart passes blocks lent) (ap (λ (l : Left). l.buffers) (sym done.left)) (done-settles bytes chart read allowance passes blocks lent done)

-- Bytes whose analysis settles hold an accepted chart.
settled-accepted : (bytes : List ℕ) (allowance passes blocks : ℕ) (lent : Buffers) → (analysed bytes allowance lent).answer ≡ settled_after passes blocks
    → (chart : Chart) × (read_chart bytes ≡ accepted chart)
settled-accepted bytes allowance passes blocks lent e = go (read_chart bytes) refl
  where
    go : (r : Read) → read_chart bytes ≡ r → (chart : Chart) × (read_chart bytes ≡ accepted chart)
    go (accepted chart) q = (chart, q)
    go (refused refusal) q =
        let says : (analysed bytes allowance lent).answer ≡ analysis_refused refusal = ap (λ (l : Left). l.answer) (reading-refusals.to_analysis bytes refusal allowance lent q) in
        let z : ◌≡◌ {A = ℕ} 0 1 = cc in
        absurd (omega arith)

settled-agree : (bytes : List ℕ) (one other passes passes' blocks blocks' : ℕ) (lent : Buffers) → (analysed bytes one lent).answer ≡ settled_after passes blocks → (analysed bytes other lent).answer ≡ settled_after passes' blocks'
    → analysed bytes one lent ≡ analysed bytes other lent
settled-agree bytes one other passes passes' blocks blocks' lent d e =
    let found = settled-accepted bytes one passes blocks lent d in
    let chart : Chart = found.0 in
    let first = settled-done bytes chart one lent found.1 passes blocks d in
    let second = settled-done bytes chart other lent found.1 passes' blocks' e in
    let same = settle-agree (ages_flow chart) one other passes passes' first.table second.table first.outcome second.outcome in
    first.left
    ∙ (λ i. record { answer = settled_after (same.0 i) (block_count chart); buffers = filled_by (plan_of chart) chart.blocks (same.1 i) lent })
    ∙ sym second.left

-- ---- an allowance that is enough

settles-enough : (bytes : List ℕ) (chart : Chart) (allowance : ℕ) (lent : Buffers) → read_chart bytes ≡ accepted chart → buffers_short (plan_of chart) lent ≡ false → most_passes chart ≤ allowance
    → (passes : ℕ) × ((analysed bytes allowance lent).answer ≡ settled_after passes (block_count chart))
settles-enough bytes chart allowance lent read room h =
    let done = settles-within (plan_of chart) (chart-sound bytes chart read) chart.header.geometry.ways (limits-planned chart) allowance (omega (arith, enough-planned chart)) in
    (done.0, done-settled bytes chart allowance lent read room done.0 done.1 done.2)

passes-grow : (nodes nodes' blocks blocks' ways ways' : ℕ) → nodes ≤ nodes' → blocks ≤ blocks' → ways ≤ ways' → passes_for nodes blocks ways ≤ passes_for nodes' blocks' ways'
passes-grow nodes nodes' blocks blocks' ways ways' n b w =
    let twice : 2 * blocks ≤ 2 * blocks' = omega arith in
    let each : 1 + 2 * blocks * ways ≤ 1 + 2 * blocks' * ways' = omega (arith, mul-le-mul twice w) in
    omega (arith, mul-le-mul n each)

-- Buffers of zeros for as many nodes and blocks as the chart has, or more, have room.
zeros-room : (chart : Chart) (nodes blocks : ℕ) → chart.header.nodes ≤ nodes → block_count chart ≤ blocks → buffers_short (plan_of chart) (zero_buffers nodes blocks) ≡ false
zeros-room chart nodes blocks n b =
    let ages : ages_used (plan_of chart) ≤ nodes * blocks = mul-le-mul n b in
    parts-room (plan_of chart) (zero_buffers nodes blocks) (room blocks (block_count chart) b)
    (not_short (plan_of chart) (table_in (zero_buffers nodes blocks)) (room (nodes * blocks) (ages_used (plan_of chart)) ages) (room (nodes * blocks) (ages_used (plan_of chart)) ages) (room nodes chart.header.nodes n))
    (room (most_touches * nodes) (most_touches * chart.header.nodes) (omega arith))
  where
    room : (size used : ℕ) → used ≤ size → used ≤ length (replicate {A = ℕ} size 0)
    room size used h = omega (arith, length-replicate {A = ℕ} size 0)

program-enough : (bytes : List ℕ) (chart : Chart) → read_chart bytes ≡ accepted chart
    → (passes : ℕ) × ((analysed bytes all_passes (zero_buffers most_nodes most_blocks)).answer ≡ settled_after passes (block_count chart))
program-enough bytes chart read =
    let nodes = accepted-nodes bytes chart read in
    let few = accepted-few bytes chart read in
    settles-enough bytes chart all_passes (zero_buffers most_nodes most_blocks) read (zeros-room chart most_nodes most_blocks nodes few)
    (passes-grow chart.header.nodes most_nodes (block_count chart) most_blocks chart.header.geometry.ways most_ways nodes few (accepted-ways bytes chart read).1)

program_accepts : (input : List ℕ) (chart : Chart) → read_chart (taken input) ≡ accepted chart → refuses input ≡ false
unfolding refuses
program_accepts input chart read = ap refused_by (program-enough (taken input) chart read).1

-- ---- the demand

-- ---- the plan

chart-planned : (bytes : List ℕ) (chart : Chart) → read_chart bytes ≡ accepted chart → Planned chart
chart-planned bytes chart read =
    record {
      entry_is = refl;
      nodes_are = refl;
      blocks_are = refl;
      arrows_are = arrows-planned chart;
      touches_are = touches-planned chart;
      keys_are = λ column h. get_or-list_of (block_count chart) (key_at chart) 0 column h;
      columns_hold = λ n h touch among. (column-inside bytes chart read n h touch among, column-holds bytes chart read n h touch among);
    }

-- ---- the table of one block

kept-touches : (chart : Chart) (column n : ℕ) → n < chart.header.nodes → (since : Since)
    → (kept_flow (plan_of chart) column).step n since ≡ in_turn (λ touch. after_touch_of (plan_of chart) column (column_touch chart touch)) (touches chart n) since
kept-touches chart column n h since =
    ap (λ (ts : List ColumnTouch). in_turn (after_touch_of (plan_of chart) column) ts since) (touches-planned chart n h)
    ∙ turns-mapped (column_touch chart) (after_touch_of (plan_of chart) column) (touches chart n) since

kept_settled : (bytes : List ℕ) (chart : Chart) (column : ℕ) → read_chart bytes ≡ accepted chart → column < block_count chart → KeptSettles chart column
kept_settled bytes chart column read inside =
    let plan = plan_of chart in
    let sound = chart-sound bytes chart read in
    let few = accepted-few bytes chart read in
    let most : kept_passes plan ≡ 65 * chart.header.nodes + 1 = omega arith in
    let done = kept_settles plan sound few column inside in
    record {
      passes = done.0;
      settles = subst (λ (allowance : ℕ). settle (kept_flow plan column) allowance ≡ settled done.0 (kept_table plan column)) most done.1;
      one_made = settle-made (kept_flow plan column) (kept_passes plan) done.0 (kept_table plan column) done.1;
      last = (settle-after (kept_flow plan column) (kept_passes plan) done.0 (kept_table plan column) done.1).last;
      earlier = (settle-after (kept_flow plan column) (kept_passes plan) done.0 (kept_table plan column) done.1).earlier;
      count = λ allowance made table e. omega (arith, kept-count plan sound few column inside allowance made table e);
      table_passes = (kept-tightest plan sound few column inside).passing;
      table_yes = passing-test plan column (kept_table plan column) (kept-tightest plan sound few column inside).passing;
      tightest = kept-tightest plan sound few column inside;
      walked = kept-walked plan sound few column inside;
    }

pub demand2 : Demand2
demand2 =
    record {
      published = as-published;
      touch_by_touch = step-touches;
      shape_said = shape_said;
      keys_sets = key-alike;
      sets_keys = set-alike;
      checker_yes = checker_yes;
      yes_checker = yes_checker;
      settled = settled-settles;
      settled_yes = λ bytes allowance passes blocks lent e.
          let found = settled-accepted bytes allowance passes blocks lent e in
          yes_checker bytes found.0 (table_in (analysed bytes allowance lent).buffers) found.1 (settled-settles bytes found.0 allowance passes blocks lent found.1 e).table_passes;
      enough = settles-enough;
      program_settles = λ input. program-enough (taken input);
      program_accepts = program_accepts;
      agree = settled-agree;
      planned = chart-planned;
      kept_touch_by_touch = kept-touches;
      kept_yes = λ chart. test-passing (plan_of chart);
      yes_kept = λ chart. passing-test (plan_of chart);
      kept_settled = kept_settled;
    }
