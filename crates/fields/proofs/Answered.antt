-- What a reader that accepts, or refuses, leaves to say of a node and of the blocks.
use Rattle.std.specs.Prelude.{Err, None, Ok, Some}
use Prim.Native.Nat.{ℕ, ◌≤◌, ◌<◌}
use mathlib.Core.List.{List}
use mathlib.Core.Path.{◌≡◌, ap, ◌∙◌}
use native.Mathlib.Omega.{arith}
use borrow.Author.Tests.{lt-ltb, le-ltb}
use lib.ListN.{length, get_or}
use Rattle.lists.specs.Lists.{written}
use Rattle.lists.specs.Loops.{patch}
use Rattle.lists.proofs.Lists.{get_or-padded}
use Rattle.lists.proofs.Listed.{list_of-all}
use Rattle.lists.proofs.Loops.{patch-same, patch-written}
use Rattle.refusals.specs.declared.Refusal.{Refusal}
use Rattle.refusals.specs.declared.Refusal.TheVariants.{ShortBuffer}
use Rattle.chart.specs.declared.headers.Header.{Header}
use Rattle.chart.specs.Geometry.{most_blocks}
use Rattle.chart.specs.Chart.{Chart, refused, read_chart, records_in, chart_in, block_count}
use Rattle.chart.specs.Inner.{AcceptedAs}
use Rattle.fields.specs.Fields.{node_read, refuse_blocks, blocks_read}

module _ (bytes : List ℕ) (refusal : Refusal) (e : read_chart bytes ≡ refused refusal) where
  pub node-refused : (n : ℕ) → Err refusal ≡ node_read bytes n
  unfolding node_read
  node-refused n = rw e

  pub blocks-refused : (lent : List ℕ) → refuse_blocks lent refusal ≡ blocks_read bytes lent
  unfolding blocks_read
  blocks-refused lent = rw e

module _ (bytes : List ℕ) (header : Header) (count : ℕ) (array : List ℕ) (found : AcceptedAs bytes header count array) where
  abbrev chart : Chart
  chart = chart_in bytes

  nodes-same : header.nodes ≡ chart.header.nodes
  nodes-same = ap (λ (h : Header). h.nodes) found.header_is

  pub node-there : (n : ℕ) → n < header.nodes → Ok (Some (records_in bytes n)) ≡ node_read bytes n
  unfolding node_read
  node-there n h = rw (found.read, lt-ltb n chart.header.nodes (omega (arith, nodes-same)))

  pub node-none : (n : ℕ) → header.nodes ≤ n → Ok None ≡ node_read bytes n
  unfolding node_read
  node-none n h = rw (found.read, le-ltb n chart.header.nodes (omega (arith, nodes-same)))

  pub blocks-short : (lent : List ℕ) → length lent < count → refuse_blocks lent ShortBuffer ≡ blocks_read bytes lent
  unfolding blocks_read
  blocks-short lent h = rw (found.read, lt-ltb (length lent) (block_count chart) (omega (arith, found.count_is)))

  pub blocks-listed : (lent after : List ℕ) → count ≤ length lent → after ≡ patch lent 0 count (λ k. get_or array k 0)
      → record { answer = Ok count; blocks = after } ≡ blocks_read bytes lent
  unfolding blocks_read
  blocks-listed lent after room e =
      rw (found.read, le-ltb (length lent) (block_count chart) (omega (arith, found.count_is)))
      (λ i. record { answer = Ok (found.count_is i); blocks = list i })
    where
      list : after ≡ written chart.blocks lent
      list =
          e
          ∙ ap (λ (n : ℕ). patch lent 0 n (λ k. get_or array k 0)) found.count_is
          ∙ patch-same lent 0 (block_count chart) (λ k. get_or array k 0) (λ k. get_or chart.blocks k 0)
          (λ j h. ap (λ (l : List ℕ). get_or l j 0) found.array_is ∙ get_or-padded most_blocks chart.blocks j h)
          ∙ patch-written lent (block_count chart) (λ k. get_or chart.blocks k 0) (omega (arith, found.count_is))
          ∙ ap (λ (l : List ℕ). written l lent) (list_of-all chart.blocks 0)
