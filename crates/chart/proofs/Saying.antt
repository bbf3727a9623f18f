-- An accepted chart is the one that its bytes say.
use Rattle.std.specs.Prelude.{None, Some}
use Prim.Native.Nat.{ℕ, ◌%◌, ◌^◌, ◌≤◌}
use mathlib.Core.Bool.{Bool, true, false, cond}
use mathlib.Core.List.{List, [], ◌∷◌}
use mathlib.Core.Path.{◌≡◌, refl, sym, ap, subst, ◌∙◌}
use native.Mathlib.Omega.{arith}
use borrow.Author.Tests.{eq-eqb, ne_eqb}
use lib.Dec.{eqb}
use Rattle.chart.specs.declared.headers.HeaderFields.{HeaderFields}
use Rattle.chart.specs.declared.records.RecordFields.{RecordFields}
use Rattle.chart.specs.declared.shape.Geometry.{Geometry}
use Rattle.chart.specs.Geometry.{block_of, set_of}
use Rattle.chart.specs.Header.{header_of, header_in}
use Rattle.chart.specs.Record.{last_byte, record_of, targets_of, arrows_of, Touch, touches_of}
use Rattle.chart.specs.Chart.{Chart, accepted, records_in, blocks_at, chart_in, read_chart}
use Rattle.chart.proofs.Accepted.{accepted-chart, accepted-lines, accepted-sized}
use Rattle.chart.proofs.Sizes.{touches-say}
use Rattle.chart.specs.Bytes.{AreBytes}
use Rattle.chart.specs.Saying.{HeaderSays, TouchesSay, NodeSays, Says}
use Rattle.blocks.proofs.Exact.{gathered-exactly}
use Rattle.chart.proofs.Bytes.{header-bytes, record-bytes}

header-says : (fields : HeaderFields) → HeaderSays fields (header_of fields)
header-says fields =
    record {
      line = refl;
      sets = refl;
      ways = refl;
      unknown = λ e. rw (eq-eqb fields.start 0 e);
      empty = λ e. rw (ne_eqb fields.start 0 (λ d. omega arith));
      nodes = refl;
      entry = refl;
    }

module _ (geometry : Geometry) (fields : RecordFields) (least : 2 ≤ geometry.line) (sized : fields.size ≤ 2) where
  -- What the record touches if its kind is that of a reference or not, and writes or not; and where one with another number of arrows leads.
  abbrev touches_if : Bool → Bool → List Touch
  touches_if step write = touches_of geometry (cond step None (Some (record { write = write; address = fields.address; last = last_byte fields })))

  abbrev leads : ℕ → List ℕ
  leads outs = arrows_of (record { outs = outs; first = fields.first; second = fields.second })

  touches_are : touches_of geometry (record_of fields) ≡ touches_if (eqb fields.kind 0) (eqb fields.kind 2)
  unfolding record_of
  touches_are = refl

  step-touches : (write : Bool) → touches_if true write ≡ []
  unfolding touches_of
  step-touches write = refl

  refers : (write : Bool) → TouchesSay fields geometry.line write (touches_if false write)
  unfolding touches_of block_of
  refers write = touches-say fields geometry.line write least sized

  no-arrow-leads : leads 0 ≡ []
  unfolding arrows_of
  no-arrow-leads = refl

  one-arrow-leads : leads 1 ≡ fields.first ∷ []
  unfolding arrows_of
  one-arrow-leads = refl

  two-arrows-lead : leads 2 ≡ fields.first ∷ fields.second ∷ []
  unfolding arrows_of
  two-arrows-lead = refl

  node-says : NodeSays fields geometry.line (touches_of geometry (record_of fields)) (arrows_of (targets_of fields))
  node-says =
      record {
        step = λ e. touches_are ∙ ap (λ (kind : ℕ). touches_if (eqb kind 0) (eqb kind 2)) e ∙ step-touches false;
        read = λ e. subst (TouchesSay fields geometry.line false) (sym (touches_are ∙ ap (λ (kind : ℕ). touches_if (eqb kind 0) (eqb kind 2)) e)) (refers false);
        write = λ e. subst (TouchesSay fields geometry.line true) (sym (touches_are ∙ ap (λ (kind : ℕ). touches_if (eqb kind 0) (eqb kind 2)) e)) (refers true);
        no_arrow = λ e. ap leads e ∙ no-arrow-leads;
        one_arrow = λ e. ap leads e ∙ one-arrow-leads;
        two_arrows = λ e. ap leads e ∙ two-arrows-lead;
      }

module _ (bytes : List ℕ) (small : AreBytes bytes) (read : read_chart bytes ≡ accepted (chart_in bytes)) where
  set-said : (block : ℕ) → set_of (header_in bytes).geometry block ≡ block % 2 ^ (header_in bytes).geometry.sets
  unfolding set_of
  set-said block = refl

  chart-says : Says bytes (chart_in bytes)
  chart-says =
      record {
        header = subst (λ (f : HeaderFields). HeaderSays f (header_in bytes)) (header-bytes bytes small) (header-says _);
        nodes = λ n h. subst (λ (f : RecordFields). NodeSays f (header_in bytes).geometry.line (touches_of (header_in bytes).geometry (record_of (records_in bytes n))) (arrows_of (targets_of (records_in bytes n)))) (record-bytes bytes small n)
            (node-says (header_in bytes).geometry (records_in bytes n) (accepted-lines bytes (chart_in bytes) read).0 (accepted-sized bytes (chart_in bytes) read n h));
        blocks = gathered-exactly (blocks_at (header_in bytes).geometry (records_in bytes)) (header_in bytes).nodes;
        sets = λ block. set-said block ∙ ap (λ (f : HeaderFields). block % 2 ^ f.sets) (header-bytes bytes small);
      }

pub accepted_says : (bytes : List ℕ) → AreBytes bytes → (chart : Chart) → read_chart bytes ≡ accepted chart → Says bytes chart
accepted_says bytes small chart e =
    let is : chart ≡ chart_in bytes = accepted-chart bytes chart e in
    subst (Says bytes) (sym is) (chart-says bytes small (e ∙ ap accepted is))
