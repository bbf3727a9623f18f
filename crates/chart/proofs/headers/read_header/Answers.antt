use Rattle.std.specs.Prelude.{Err, Ok, Result}
use borrow.Author.Tests.{lt-ltb, le-ltb}
use mathlib.Core.List.{List}
use mathlib.Core.Path.{ap, ◌∙◌, ◌≡◌}
use Prim.Native.Nat.{ℕ}
use lib.Dec.{eqb}
use lib.ListN.{length}
use Rattle.lists.specs.Choice.{first_case}
use Rattle.chart.specs.declared.headers.HeaderFields.{HeaderFields}
use Rattle.chart.specs.Layout.{chart_length}
use Rattle.refusals.specs.declared.Refusal.TheVariants.{TooShort}
use Rattle.chart.specs.Header.{header_fields, header_of, header_cases, header_read, header_says}
use Rattle.chart.proofs.headers.read_header.Goals as goal
use Rattle.chart.specs.declared.headers.Header.{Header}
use Rattle.refusals.specs.declared.Refusal.{Refusal}

-- What fields that begin so many bytes give.
abbrev answer_in : List ℕ → HeaderFields → Result Header Refusal
answer_in bytes fields =
    first_case Err (header_cases fields (eqb (length bytes) (chart_length fields.nodes))) (Ok (header_of fields))

pub returns-then-chart-lt8 : goal.returns-then-chart-lt8
unfolding header_read
returns-then-chart-lt8 c =
    let e : Err TooShort ≡ header_read c.args.chart.now = rw (lt-ltb _ _ c.if-chart-lt8.true) in
    record { value = e; result_value = ap header_says e }

pub returns : goal.returns
unfolding header_read
returns c =
    let bytes = c.args.chart.now in
    let e : c.header_of.result ≡ header_read c.args.chart.now =
    rw (le-ltb _ _ c.if-chart-lt8.false)
    (c.header_of.ensures ∙ ap (answer_in bytes) (c.header_fields-fields.ensures ∙ ap header_fields c.word_at.ensures))
    in
    record { value = e; result_value = ap header_says e }
