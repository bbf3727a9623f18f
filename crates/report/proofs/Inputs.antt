-- The report of any bytes: the number of nodes counts only where their header is accepted.
use Rattle.std.specs.Prelude.{Err, Ok, Result, MatchResult}
use Prim.Native.Nat.{ℕ, ◌≤◌}
use native.Mathlib.Omega.{arith}
use mathlib.Core.List.{List}
use mathlib.Core.Path.{◌≡◌, refl, sym, ap, ◌∙◌}
use Rattle.chart.specs.declared.headers.Header.{Header}
use Rattle.chart.specs.Header.{header_read}
use Rattle.chart.specs.Geometry.{most_nodes}
use Rattle.chart.proofs.Reader.{read-header, read-nodes, read-refuses}
use Rattle.analysis.specs.Analysis.{Buffers, Left, analysed}
use Rattle.report.specs.Report.{report_of, report_left}
use Rattle.report.specs.Written.{nodes_read}
use Rattle.refusals.specs.declared.Refusal.{Refusal}

module _ (bytes : List ℕ) (allowance : ℕ) (lent : Buffers) where
  abbrev left : Left
  left = analysed bytes allowance lent

  abbrev report_with : ℕ → List ℕ
  report_with nodes = report_of nodes left.buffers.classes left.answer

  pub nodes-counted : report_with (nodes_read (header_read bytes)) ≡ report_left bytes left
  unfolding analysed
  nodes-counted = go (header_read bytes) refl
    where
      go : (read : Result Header Refusal) → header_read bytes ≡ read → report_with (nodes_read read) ≡ report_left bytes left
      go (Ok header) e = ap (λ (h : Header). report_with h.nodes) (sym (read-header bytes header e))
      go (Err refusal) e = rw (read-refuses bytes refusal e)

-- The nodes of what was read, where a refusal gives 0.
pub nodes-read : {P : Header → Type 0} {Q : Refusal → Type 0} (bytes : List ℕ) (nodes : ℕ) (read : Result Header Refusal) → read ≡ header_read bytes → MatchResult read P Q
    → ((header : Header) → P header → nodes ≡ header.nodes) → ((refusal : Refusal) → Q refusal → nodes ≡ 0) → (nodes ≤ most_nodes) × (nodes ≡ nodes_read (header_read bytes))
nodes-read bytes nodes (Ok header) e told first other =
    let few = read-nodes bytes header (sym e) in
    let same = first header told in
    (omega (arith, few, same), same ∙ ap nodes_read e)
nodes-read bytes nodes (Err refusal) e told first other =
    let none = other refusal told in
    (omega (arith, none), none ∙ ap nodes_read e)
