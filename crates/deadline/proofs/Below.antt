-- Totals of costs, floors and ceilings of 16 bits are below 2^53: there are no more nodes than a chart may have, of two touches each, and each
-- touch counts at most 65,535 times 65,535; and for each block, of which there are no more than a chart may have, the high total has at most 65,535
-- more.
use Rattle.std.specs.Prelude.{Err, None, Option, Some}
use Prim.Native.Nat.{ℕ, suc, ◌*◌, ◌^◌, ◌≤◌, ◌<◌}
use mathlib.Core.Bool.{Bool, true, false, cond}
use mathlib.Core.List.{List, [], ◌∷◌}
use mathlib.Core.Path.{◌≡◌, refl, sym, ap, subst, ◌∙◌}
use native.Mathlib.Nat.{mul-le-mul, le_trans, suc-mul}
use native.Mathlib.Omega.{arith}
use lib.Dec.{eqb}
use lib.ListN.{length, get_or, length-map}
use Rattle.lists.proofs.Choice.{none-applies, first-otherwise}
use Rattle.lists.proofs.Sums.{sum-most, flags-most}
use Rattle.chart.specs.declared.shape.Geometry.{Geometry}
use Rattle.chart.specs.Geometry.{most_nodes, most_blocks, block_of}
use Rattle.chart.specs.Record.{Touch, both_touched, touches_of}
use Rattle.chart.specs.Chart.{Chart, Read, accepted, refused, read_chart, touches, block_count}
use Rattle.chart.proofs.Accepted.{accepted-nodes, accepted-few}
use Rattle.flow.specs.Flow.{Cell, blank, holds, cell_at}
use Rattle.cache.specs.Ages.{Ages}
use Rattle.ages.specs.Plan.{ColumnTouch, touches_in}
use Rattle.ages.specs.Charted.{column_touch, plan_of}
use Rattle.ages.proofs.Charting.{touches-planned}
use Rattle.classes.specs.Class.{whole_at, class_of, whole_after, classes_by}
use Rattle.costs.specs.Costs.{Figures, rates_of, visit_cost, classes_at, high_rate, low_rate, total_by, kept_charge, charged_for, high_total, low_total}
use Rattle.tables.specs.Lent.{Lent, table_of}
use Rattle.totals.specs.declared.Totals.{Totals}
use Rattle.totals.specs.Totals.{total_cases, both_totals, total_read, totals, totals_between}
use Rattle.totals.proofs.Summing.{low-rate-most, high-rate-most}
use Rattle.deadline.specs.Widths.{SixteenBits}
use Rattle.chart.specs.declared.records.Reference.{Reference}

-- ---- what a visit counts

classes_long : {E S : Type 0} (class_at : E → S → ℕ) (touched_by : E → S → S) (touches : List E) (a : S) → length (classes_by class_at touched_by touches a) ≡ length touches
classes_long class_at touched_by [] a = refl
classes_long class_at touched_by (touch ∷ touches) a = ap suc (classes_long class_at touched_by touches (touched_by touch a))

rates-most : (rate : ℕ → ℕ) (most : ℕ) → ((class : ℕ) → rate class ≤ most) → (classes : List ℕ) → rates_of rate classes ≤ length classes * most
rates-most rate most h [] = omega arith
rates-most rate most h (class ∷ classes) = omega (arith, h class, rates-most rate most h classes, suc-mul (length classes) most)

touched-few : (geometry : Geometry) (what : Option Reference) → length (touches_of geometry what) ≤ 2
unfolding touches_of
touched-few geometry None = omega arith
touched-few geometry (Some reference) = go reference.write (block_of geometry reference.address) (block_of geometry reference.last)
  where
    go : (write : Bool) (lower upper : ℕ) → length (both_touched write lower upper) ≤ 2
    go write lower upper = either (eqb lower upper)
      where
        either : (t : Bool) → length {A = Touch} (record { block = lower; write = write } ∷ cond t [] (record { block = upper; write = write } ∷ [])) ≤ 2
        either true = omega arith
        either false = omega arith

-- Of a chart's node, at a rate of 16 bits.
module _ (chart : Chart) (n : ℕ) (inside : n < chart.header.nodes) (rate : ℕ → ℕ) (most : (class : ℕ) → rate class ≤ 65535) where
  few-planned : length (touches_in (plan_of chart) n) ≤ 2
  few-planned =
      subst (λ (touches : List ColumnTouch). length touches ≤ 2) (sym (touches-planned chart n inside))
      (rw (length-map (touches chart n) (column_touch chart)) (touched-few chart.header.geometry (chart.node n).what))

  pub visit-most : (cell : Cell Ages) → visit_cost (classes_at (plan_of chart) n) rate cell ≤ 2 * 65535
  visit-most blank = omega arith
  visit-most (holds a) =
      le_trans (rates-most rate 65535 most (classes_at (plan_of chart) n a))
      (mul-le-mul {n₂ = 2} {m₂ = 65535} (rw (classes_long (class_of (plan_of chart)) (whole_after (plan_of chart)) (touches_in (plan_of chart) n) (whole_at (plan_of chart) n a)) few-planned) (omega arith))

-- ---- the sums

total-most : (chart : Chart) (table : List (Cell Ages)) (rate : ℕ → ℕ) (times : List ℕ) → ((class : ℕ) → rate class ≤ 65535) → ((n : ℕ) → get_or times n 0 < 2 ^ 16)
    → total_by chart.header.nodes (classes_at (plan_of chart)) table rate times ≤ chart.header.nodes * (65535 * (2 * 65535))
unfolding total_by
total-most chart table rate times most few =
    sum-most chart.header.nodes (65535 * (2 * 65535)) (λ n. get_or times n 0 * visit_cost (classes_at (plan_of chart) n) rate (cell_at table n))
    (λ n h. mul-le-mul {n₂ = 65535} {m₂ = 2 * 65535} (omega (arith, few n)) (visit-most chart n h rate most (cell_at table n)))

charge-most : (chart : Chart) (table : List (Cell Ages)) (figures : Figures) → figures.costs.miss < 2 ^ 16 → kept_charge (plan_of chart) table figures ≤ 65535 * block_count chart
unfolding kept_charge
charge-most chart table figures few =
    mul-le-mul {n₂ = 65535} {m₂ = block_count chart} (omega arith) (flags-most (block_count chart) (charged_for (plan_of chart) table figures.ceilings))

-- ---- whatever was answered

abbrev pub both : ℕ → ℕ → Totals
both low high = record { low = low; high = high }

-- The two totals of an answer are those of another that is the same.
pub both-same : {low high low' high' : ℕ} → totals_between low high ≡ totals_between low' high' → (low ≡ low') × (high ≡ high')
both-same {low = low} {high = high} {low' = low'} {high' = high'} is =
    let same : both low high ≡ both low' high' = cc in (ap (λ (t : Totals). t.low) same, ap (λ (t : Totals). t.high) same)

module _ (chart : Chart) (table : List (Cell Ages)) (figures : Figures) (bits : SixteenBits figures) (nodes : chart.header.nodes ≤ most_nodes) (blocks : block_count chart ≤ most_blocks) where
  low_below : low_total (plan_of chart) table figures < 2 ^ 53
  low_below =
      let rate = low-rate-most figures.costs (omega (arith, bits.hit)) (omega (arith, bits.miss)) in
      omega (arith, total-most chart table (low_rate figures.costs) figures.floors rate bits.floors)

  high-below : high_total (plan_of chart) table figures < 2 ^ 53
  high-below =
      let rate = high-rate-most figures.costs (omega (arith, bits.hit)) (omega (arith, bits.miss)) in
      omega (arith, total-most chart table (high_rate figures.costs) figures.ceilings rate bits.ceilings, charge-most chart table figures bits.miss)

pub totals_below : (bytes : List ℕ) (lent : Lent) (figures : Figures) (low high : ℕ) → totals_between low high ≡ totals bytes lent figures → SixteenBits figures → (low < 2 ^ 53) × (high < 2 ^ 53)
unfolding totals
totals_below bytes lent figures low high e bits = go (read_chart bytes) refl e
  where
    go : (read : Read) → read_chart bytes ≡ read → totals_between low high ≡ total_read lent figures read → (low < 2 ^ 53) × (high < 2 ^ 53)
    go (refused refusal) r g = let z : ◌≡◌ {A = ℕ} 0 1 = cc in absurd (omega arith)
    go (accepted chart) r g =
        let cases = total_cases (plan_of chart) lent figures in
        let sums = both_totals (plan_of chart) lent figures in
        let none = none-applies Err cases sums (totals_between low high) (λ x q. let z : ◌≡◌ {A = ℕ} 0 1 = cc in omega arith) (sym g) in
        let is : totals_between low high ≡ sums = g ∙ first-otherwise Err cases sums none in
        let lows = low_below chart (table_of (plan_of chart) lent) figures bits (accepted-nodes bytes chart r) (accepted-few bytes chart r) in
        let highs = high-below chart (table_of (plan_of chart) lent) figures bits (accepted-nodes bytes chart r) (accepted-few bytes chart r) in
        let same = both-same is in
        (subst (λ (k : ℕ). k < 2 ^ 53) (sym same.0) lows, subst (λ (k : ℕ). k < 2 ^ 53) (sym same.1) highs)
