-- Laws of the reader: the nodes' blocks gathered or one too many, the records' refusals, and the header's before them.
use mathlib.Core.Bool.{Bool, true, false, cond}
use mathlib.Core.List.{List}
use mathlib.Core.Path.{◌≡◌, refl, sym, ap, subst, ◌∙◌}
use Prim.Native.Nat.{ℕ, ◌+◌, ◌-◌, ◌≤◌, ◌<◌}
use native.Mathlib.Omega.{arith}
use borrow.Author.Tests.{lt-ltb, le-ltb, ltb-false, eqb-true, not-false}
use lib.Dec.{ltb}
use lib.ListN.{length, take}
use Rattle.std.specs.Prelude.{Option, None, Result, Ok, Err}
use Rattle.lists.specs.Choice.{found, Case, NoneApplies, first_from, first}
use Rattle.lists.specs.Lists.{padded}
use Rattle.lists.proofs.Choice.{found-none, none_passes, none-applies, first-otherwise, first-after, first-applies, applies-first, first-front, first_found, first_ends}
use Rattle.blocks.specs.Blocks.{insert_all, gathered}
use Rattle.blocks.specs.Listing.{Laid}
use Rattle.blocks.proofs.Arrays.{gather-more}
use Rattle.chart.specs.declared.headers.Header.{Header}
use Rattle.chart.specs.declared.records.RecordFields.{RecordFields}
use Rattle.refusals.specs.declared.Refusal.{Refusal}
use Rattle.refusals.specs.declared.Refusal.TheVariants.{TooManyBlocks}
use Rattle.chart.specs.declared.shape.Geometry.{Geometry}
use Rattle.chart.specs.Chart.{accepted, refused, blocks_at, chart_of, broken_at, first_broken, overfull_at, first_overfull, record_cases, records_read, records_in, chart_in, chart_cases, read_chart}
use Rattle.chart.specs.Geometry.{most_nodes, most_blocks}
use Rattle.chart.specs.Header.{header_in, bytes_cases, header_read}
use Rattle.chart.specs.Layout.{chart_length}
use Rattle.chart.specs.Record.{record_of, touches_of, blocks_of}
use Rattle.chart.specs.Reading.{reading_of, outlined}
use Rattle.chart.specs.Inner.{AllEnd, Gathers}
use Rattle.chart.proofs.Allowed.{between-both, keeps-ends}
use Rattle.chart.specs.declared.records.Reference.{Reference}

-- ---- the blocks of all nodes, or the first node that brings one too many

module _ (fields_at : ℕ → RecordFields) (geometry : Geometry) where
  -- A turn: the blocks of node n's record put into those of the nodes before it.
  pub gather-turn : (n count : ℕ) (array : List ℕ) → count ≤ most_blocks → count ≡ length (gathered (blocks_at geometry fields_at) n) → array ≡ padded most_blocks (gathered (blocks_at geometry fields_at) n)
      → (what : Option Reference) → what ≡ record_of (fields_at n)
      → (more : Option ℕ) (after : List ℕ) → Laid most_blocks (insert_all (blocks_of (touches_of geometry what)) (take count array)) more after → Laid most_blocks (gathered (blocks_at geometry fields_at) (n + 1)) more after
  gather-turn n count array short counted laid what is more after h =
      gather-more most_blocks (blocks_at geometry fields_at) n count array short counted laid more after
      (subst (λ (r : Option Reference). Laid most_blocks (insert_all (blocks_of (touches_of geometry r)) (take count array)) more after) is h)

  module _ (nodes n : ℕ) (array : List ℕ) (come : first nodes (overfull_at geometry fields_at) ≡ first_from n (nodes - n) (overfull_at geometry fields_at)) where
    pub gathers-over : n < nodes → overfull_at geometry fields_at n ≡ true → Gathers fields_at geometry nodes (Err (TooManyBlocks n)) array
    unfolding first_overfull
    gathers-over h t =
        let e : first_overfull fields_at geometry nodes ≡ n = first_found nodes n (overfull_at geometry fields_at) h t come in
        record {
          answered = rw (e, lt-ltb n nodes h);
          laid = λ f. absurd (omega (arith, ltb-false (first_overfull fields_at geometry nodes) nodes f));
        }

    pub gathers-all : n ≤ nodes → nodes ≤ n → (count : ℕ) → count ≡ length (gathered (blocks_at geometry fields_at) n) → array ≡ padded most_blocks (gathered (blocks_at geometry fields_at) n) → Gathers fields_at geometry nodes (Ok count) array
    unfolding first_overfull
    gathers-all k h count counted laid =
        let e : first_overfull fields_at geometry nodes ≡ n = first_ends nodes n (overfull_at geometry fields_at) h come in
        let q : n ≡ nodes = omega arith in
        record {
          answered = rw (e, le-ltb n nodes h, ← q) (ap Ok counted);
          laid = λ _. rw (← q) laid;
        }

-- ---- records that keep their rules

pub none-below : (nodes n : ℕ) → found nodes n ≡ None → nodes ≤ n
none-below nodes n e = omega (arith, ltb-false n nodes (found-none nodes n e))

pub records-end : (fields_at : ℕ → RecordFields) (nodes : ℕ) → nodes ≤ first_broken fields_at nodes → AllEnd fields_at nodes
unfolding first_broken
records-end fields_at nodes whole n h =
    keeps-ends nodes (fields_at n) (not-false _ (none_passes nodes (broken_at fields_at nodes) (le-ltb (first_broken fields_at nodes) nodes whole) n h))

-- ---- the records under a header

module _ (fields_at : ℕ → RecordFields) (header : Header) (broken : ℕ) (first_one : broken ≡ first_broken fields_at header.nodes) where
  abbrev over : ℕ
  over = first_overfull fields_at header.geometry header.nodes

  abbrev blocks : List ℕ
  blocks = gathered (blocks_at header.geometry fields_at) header.nodes

  module _ (whole : header.nodes ≤ broken) (answer : Result ℕ Refusal) (array : List ℕ) (gathers : Gathers fields_at header.geometry header.nodes answer array) where
    unbroken : records_read fields_at header ≡ cond (ltb over header.nodes) (refused (TooManyBlocks over)) (accepted (chart_of fields_at header))
    unbroken = rw (← first_one, le-ltb broken header.nodes whole)

    pub records-over : (refusal : Refusal) → answer ≡ Err refusal → records_read fields_at header ≡ refused refusal
    records-over refusal q = unbroken ∙ go (ltb over header.nodes) (sym gathers.answered ∙ q)
      where
        go : (t : Bool) → cond t (Err (TooManyBlocks over)) (Ok (length blocks)) ≡ Err refusal
            → cond t (refused (TooManyBlocks over)) (accepted (chart_of fields_at header)) ≡ refused refusal
        go true d = cc
        go false d = let z : ◌≡◌ {A = ℕ} 0 1 = cc in absurd (omega arith)

    pub records-keep : (count : ℕ) → answer ≡ Ok count → record { verdict = outlined header count; blocks = array } ≡ reading_of (records_read fields_at header)
    unfolding reading_of
    records-keep count q = sym (ap reading_of unbroken ∙ go (ltb over header.nodes) (sym gathers.answered ∙ q) gathers.laid)
      where
        go : (t : Bool) → cond t (Err (TooManyBlocks over)) (Ok (length blocks)) ≡ Ok count
            → (t ≡ false → array ≡ padded most_blocks blocks)
            → reading_of (cond t (refused (TooManyBlocks over)) (accepted (chart_of fields_at header))) ≡ record { verdict = outlined header count; blocks = array }
        go true d laid = let z : ◌≡◌ {A = ℕ} 0 1 = cc in absurd (omega arith)
        go false d laid =
            let e : length blocks ≡ count = cc in
            let k : array ≡ padded most_blocks blocks = laid refl in
            rw (← k, e)

-- ---- the header before them

pub read-refuses : (bytes : List ℕ) (refusal : Refusal) → header_read bytes ≡ Err refusal → read_chart bytes ≡ refused refusal
unfolding header_read read_chart
read-refuses bytes refusal e =
    let cases : List (Case Refusal) = bytes_cases bytes in
    let first_one = applies-first Err cases (Ok (header_in bytes)) refusal (λ a b q. cc) (λ q. let z : ◌≡◌ {A = ℕ} 0 1 = cc in omega arith) e in
    first-applies refused (chart_cases bytes) (accepted (chart_in bytes)) refusal
    (first-front cases (record_cases (records_in bytes) (header_in bytes)) refusal first_one)

module _ (bytes : List ℕ) (header : Header) (taken : header_read bytes ≡ Ok header) where
  no-refusal : NoneApplies (bytes_cases bytes)
  unfolding header_read
  no-refusal = none-applies Err (bytes_cases bytes) (Ok (header_in bytes)) (Ok header) (λ x q. let z : ◌≡◌ {A = ℕ} 0 1 = cc in omega arith) taken

  pub read-header : header_in bytes ≡ header
  unfolding header_read
  read-header =
      let e : Ok (header_in bytes) ≡ Ok header = sym (first-otherwise Err (bytes_cases bytes) (Ok (header_in bytes)) no-refusal) ∙ taken in
      cc

  pub read_length : length bytes ≡ chart_length header.nodes
  read_length =
      eqb-true (length bytes) (chart_length (header_in bytes).nodes) (not-false _ no-refusal.1.1.1.1.1.1.1.0)
      ∙ ap (λ (h : Header). chart_length h.nodes) read-header

  pub read-nodes : header.nodes ≤ most_nodes
  read-nodes =
      subst (λ (h : Header). h.nodes ≤ most_nodes) read-header
      (between-both 1 most_nodes (header_in bytes).nodes (not-false _ no-refusal.1.1.1.1.0)).1

  pub read-accepts : read_chart bytes ≡ records_read (records_in bytes) header
  unfolding read_chart
  read-accepts =
      first-after refused (bytes_cases bytes) (record_cases (records_in bytes) (header_in bytes)) (accepted (chart_in bytes)) no-refusal
      ∙ ap (records_read (records_in bytes)) read-header
