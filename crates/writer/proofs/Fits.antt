-- What keeps its rules fits its field: so what the writer packs is never cut.
use Prim.Native.Nat.{ℕ, ◌^◌, ◌≤◌, ◌<◌}
use mathlib.Core.Bool.{true}
use mathlib.Core.Logic.{⊎_elim}
use mathlib.Core.Path.{◌≡◌}
use native.Mathlib.Omega.{arith}
use borrow.Author.Tests.{ltb-false, leb-false, not-false}
use Rattle.lists.specs.Choice.{NoneApplies}
use Rattle.lists.proofs.Orders.{below_or}
use Rattle.chart.specs.declared.records.RecordFields.{RecordFields}
use Rattle.chart.specs.Geometry.{most_nodes}
use Rattle.chart.specs.Layout.{header_widths, record_widths}
use Rattle.chart.specs.Header.{geometry_of, header_cases}
use Rattle.chart.specs.Record.{record_keeps}
use Rattle.chart.specs.Refusing.{RecordKeeps}
use Rattle.chart.proofs.Allowed.{between-both, line-bounds, sets-bound, ways-bounds}
use Rattle.chart.proofs.Keeping.{tells-record}
use Rattle.chart.proofs.Sizes.{size-cases}
use Rattle.writer.specs.declared.heading.Heading.{Heading}
use Rattle.writer.specs.Packing.{Fit, header_values, record_values}
use Rattle.writer.specs.Given.{header_given}

-- ---- a record

module _ (nodes : ℕ) (fields : RecordFields) (kept : record_keeps nodes fields ≡ true) where
  keeps : RecordKeeps nodes fields
  keeps = (tells-record nodes fields).0 kept

  pub keeps-address : fields.address < 2 ^ 32
  keeps-address =
      size-cases fields (fields.address < 2 ^ 32)
      (λ e. keeps.one_byte e)
      (λ e. omega (arith, keeps.two_bytes e))
      (λ d e. omega (arith, keeps.four_bytes (omega (arith, keeps.sizes))))

  first_below : nodes ≤ most_nodes → fields.first < 2 ^ 12
  first_below few =
      ⊎_elim
      (λ (h : fields.outs < 1). omega (arith, keeps.first_unused (omega arith)))
      (λ (h : 1 ≤ fields.outs). omega (arith, keeps.first_used h))
      (below_or fields.outs 1)

  second_below : nodes ≤ most_nodes → fields.second < 2 ^ 12
  second_below few =
      ⊎_elim
      (λ (h : fields.outs < 2). omega (arith, keeps.second_unused (omega arith)))
      (λ (h : 2 ≤ fields.outs). omega (arith, keeps.second_used h))
      (below_or fields.outs 2)

  pub record-fits : nodes ≤ most_nodes → Fit record_widths (record_values fields)
  record-fits few =
      (omega (arith, keeps.kinds), (keeps-address, (omega (arith, keeps.arrows), (first_below few, (second_below few, (omega (arith, keeps.sizes), tt))))))

-- ---- the header

module _ (heading : Heading) (none : NoneApplies (header_cases (header_given heading) true)) where
  pub few_nodes : heading.nodes ≤ most_nodes
  few_nodes = (between-both 1 most_nodes heading.nodes (not-false _ none.1.1.1.0)).1

  pub header-fits : Fit header_widths (header_values (header_given heading))
  header-fits =
      let allowed = not-false _ none.1.0 in
      let line = line-bounds (geometry_of (header_given heading)) allowed in
      let sets = sets-bound (geometry_of (header_given heading)) allowed in
      let ways = ways-bounds (geometry_of (header_given heading)) allowed in
      let start = ltb-false 1 heading.start none.1.1.0 in
      let entry = leb-false heading.nodes heading.entry none.1.1.1.1.0 in (
        omega arith,
        (
          omega (arith, line.1),
          (
            omega (arith, sets),
            (omega (arith, ways.1), (omega arith, (omega arith, (omega (arith, few_nodes), (omega (arith, few_nodes), (omega arith, tt)))))),
          ),
        ),
      )
