use Rattle.std.specs.Prelude.{Err}
use Rattle.std.proofs.Common.{rules}
use mathlib.Core.Path.{◌≡◌, refl, sym, ap, subst, ◌∙◌}
use borrow.Author.Tests.{ltb-false}
use Rattle.lists.proofs.Choice.{first-after}
use Rattle.chart.specs.declared.headers.Header.{Header}
use Rattle.chart.specs.declared.headers.HeaderFields.{HeaderFields}
use Rattle.chart.specs.Layout.{header_widths}
use Rattle.chart.specs.Chart.{record_cases, first_broken}
use Rattle.chart.proofs.Reader.{records-over}
use Rattle.writer.specs.Packing.{packed, Fit, header_values}
use Rattle.writer.specs.Given.{header_given, listed}
use Rattle.writer.specs.Held.{lists_in}
use Rattle.writer.specs.Writer.{room_cases, refuse_writing, stored}
use Rattle.writer.proofs.Fits.{header-fits}
use Rattle.writer.proofs.Refused.{refused-records, none-refused, packed-whole, packed-refused}
use Rattle.writer.proofs.Stored.{answer-stored}
use Rattle.writer.proofs.Kept.{packed-are, packed_ends, packed-gathers}
use Rattle.writer.proofs.writing.write_nodes.Goals as goal

pub pack_header-requires : goal.pack_header-requires
pack_header-requires c = subst (λ (f : HeaderFields). Fit header_widths (header_values f)) (sym c.header_given.ensures) (header-fits c.args.heading c.requires.header_value.1)

pub gather-requires-clause-all_end : goal.gather-requires-clause-all_end
gather-requires-clause-all_end c =
    let lists = lists_in c.args.lists in
    let given : c.pack_header.result ≡ packed header_widths (header_values (header_given c.args.heading)) =
    c.pack_header.ensures ∙ ap (λ (f : HeaderFields). packed header_widths (header_values f)) c.header_given.ensures
    in
    let a = c.args in
    let b = c.pack_records in
    let w = c.pack_header in
    let whole = packed-whole (listed lists) a.header c.put_word.new.chart b.new.chart b.result b.ensures _ c.in_ok-pack_records.was in
    packed_ends a.heading a.header lists c.requires.header_value.0 c.requires.header_value.1 c.requires.all_long w.result c.put_word.new.chart b.new.chart given c.put_word.ensures b.result b.ensures whole

pub returns-in_err-pack_records : goal.returns-in_err-pack_records
returns-in_err-pack_records c =
    let told : c.from_residual.result ≡ Err c.in_err-pack_records.field-0.0 = search rules in
    let lists = lists_in c.args.lists in
    let a = c.args in
    let b = c.pack_records in
    ap (λ answer. record { answer = answer; chart = a.chart.now }) told
    ∙ sym
    (packed-refused (listed lists) a.header c.put_word.new.chart b.new.chart b.result b.ensures (refuse_writing a.chart.now) (room_cases a.header.nodes a.chart.now) (stored a.heading lists a.chart.now) _
    c.in_err-pack_records.was)

pub returns-in_err-gather : goal.returns-in_err-gather
returns-in_err-gather c =
    let told : c.from_residual-in_err-gather.result ≡ Err c.in_err-gather.field-0.0 = search rules in
    let lists = lists_in c.args.lists in
    let given : c.pack_header.result ≡ packed header_widths (header_values (header_given c.args.heading)) =
    c.pack_header.ensures ∙ ap (λ (f : HeaderFields). packed header_widths (header_values f)) c.header_given.ensures
    in
    let a = c.args in
    let g = c.gather in
    let b = c.pack_records in
    let w = c.pack_header in
    let whole = packed-whole (listed lists) a.header c.put_word.new.chart b.new.chart b.result b.ensures _ c.in_ok-pack_records.was in
    ap (λ answer. record { answer = answer; chart = a.chart.now }) told
    ∙ sym
    (refused-records (refuse_writing a.chart.now) (listed lists) a.header (room_cases a.header.nodes a.chart.now) (stored a.heading lists a.chart.now) _
    (records-over (listed lists) a.header (first_broken (listed lists) a.header.nodes) refl (ltb-false _ _ whole) g.result _
    (packed-gathers a.heading a.header lists c.requires.header_value.0 c.requires.header_value.1 c.requires.all_long w.result c.put_word.new.chart b.new.chart given c.put_word.ensures b.result b.ensures whole
    g.result _ g.ensures) _ c.in_err-gather.was))

pub returns : goal.returns
returns c =
    let lists = lists_in c.args.lists in
    let given : c.pack_header.result ≡ packed header_widths (header_values (header_given c.args.heading)) =
    c.pack_header.ensures ∙ ap (λ (f : HeaderFields). packed header_widths (header_values f)) c.header_given.ensures
    in
    let a = c.args in
    let g = c.gather in
    let b = c.pack_records in
    let w = c.pack_header in
    let whole = packed-whole (listed lists) a.header c.put_word.new.chart b.new.chart b.result b.ensures _ c.in_ok-pack_records.was in
    c.store.ensures
    ∙ answer-stored a.heading lists a.chart.now b.new.chart a.header.nodes (ap (λ (h : Header). h.nodes) c.requires.header_value.0)
    (packed-are a.heading a.header lists c.requires.header_value.0 c.requires.header_value.1 c.requires.all_long w.result c.put_word.new.chart b.new.chart given c.put_word.ensures b.result b.ensures whole)
    ∙ sym
    (first-after (refuse_writing a.chart.now) (record_cases (listed lists) a.header) (room_cases a.header.nodes a.chart.now) (stored a.heading lists a.chart.now)
    (none-refused (listed lists) a.header whole g.result _
    (packed-gathers a.heading a.header lists c.requires.header_value.0 c.requires.header_value.1 c.requires.all_long w.result c.put_word.new.chart b.new.chart given c.put_word.ensures b.result b.ensures whole
    g.result _ g.ensures) _ c.in_ok-gather.was))
