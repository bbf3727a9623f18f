-- Of demand 1: the writer refuses exactly where a rule applies to what it is given, and reading a node and the blocks refuse as the reader does.
use Rattle.std.specs.Prelude.{Err, None, Ok, Result, Some}
use Prim.Native.Nat.{ℕ, ◌+◌, ◌*◌, ◌^◌, ◌≤◌, ◌<◌}
use mathlib.Core.Bool.{Bool, true, false, cond, true≢false}
use mathlib.Core.List.{List}
use mathlib.Core.Logic.{◌⊎◌, inl, inr, ⊎_elim}
use mathlib.Core.Path.{◌≡◌, refl, sym, ap, subst, ◌∙◌}
use native.Mathlib.Omega.{arith}
use borrow.Author.Tests.{lt-ltb, le-ltb, ltb-false}
use lib.Dec.{ltb}
use lib.ListN.{length, get_or}
use Rattle.lists.specs.Choice.{Case, first_case, NoneApplies, FirstApplies}
use Rattle.lists.specs.Lists.{written}
use Rattle.lists.specs.Telling.{Tells, AllTell, Numbered, Answered}
use Rattle.lists.proofs.Choice.{first-through, first-applies, applies-first, none-applies, first-otherwise}
use Rattle.lists.proofs.Telling.{tells-ltb, tells-same, holds-true, first-only, first-given, none_given, none_only}
use Rattle.refusals.specs.declared.Refusal.{Refusal}
use Rattle.refusals.specs.declared.Refusal.TheVariants.{TooShort, Edition, CacheShape, StartCode, NodeCount, EntryNode, SpareBits, Length, BrokenRecord, TooManyBlocks, ShortBuffer, Unsettled, NotPassing, BoundsLength, MissBelowHit, FloorAboveCeiling, FloorAtUnmarked, ImpossibleTimes, FactsLength, NumberOutOfRange, CertificateFails}
use Rattle.refusals.specs.Refusals.{number_of}
use Rattle.chart.specs.Layout.{chart_length}
use Rattle.chart.specs.Refusing.{ShapeKeeps}
use Rattle.chart.specs.Chart.{Chart, Read, accepted, refused, read_chart, records_in, block_count}
use Rattle.chart.proofs.Bytes.{record-bytes}
use Rattle.chart.proofs.Keeping.{tells-record}
use Rattle.chart.proofs.Refusing.{fields-tell, fields-numbered, fields-answered}
use Rattle.fields.specs.Fields.{node_read, node_says, read_node_says, refuse_blocks, blocks_read, blocks_say, read_blocks_say}
use Rattle.writer.specs.declared.heading.Heading.{Heading}
use Rattle.writer.specs.Packing.{chart_bytes}
use Rattle.writer.specs.Given.{NodeLists, header_given, listed, all_long, AllLong}
use Rattle.writer.specs.Writer.{WriteLeft, room_cases, write_cases, stored, refuse_writing, wrote, wrote_says}
use Rattle.writer.proofs.Refused.{long-lists, lists-long}
use Rattle.writer.proofs.Fits.{record-fits}
use Rattle.writer.proofs.Made.{made-length}
use Rattle.demands.proofs.Numbers.{read-most}
use Rattle.demands.proofs.Anywhere.{written_tail, written_long}
use Rattle.demands.specs.Writing.{ListsLong, GivenApplies, NoneBeforeGiven, WriterRefusals, FieldsRefusals}

module _ (heading : Heading) (lists : NodeLists) (lent : List ℕ) where
  abbrev cases : List (Case Refusal)
  cases = write_cases heading lists lent

  abbrev applies : Refusal → Type 0
  applies = GivenApplies heading lists lent

  tells-long : Tells (all_long heading.nodes lists) (ListsLong heading.nodes lists)
  tells-long =
      tells-same (all_long heading.nodes lists) (AllLong heading.nodes lists) (ListsLong heading.nodes lists)
      (λ l. (l.kinds, (l.addresses, (l.sizes, (l.outs, (l.firsts, l.seconds))))))
      (λ l. record { kinds = l.0; addresses = l.1.0; sizes = l.1.1.0; outs = l.1.1.1.0; firsts = l.1.1.1.1.0; seconds = l.1.1.1.1.1 })
      ((λ e. long-lists heading.nodes lists e), λ e long. true≢false (sym (lists-long heading.nodes lists long) ∙ e))

  all_tell : AllTell applies cases
  all_tell =
      fields-tell ⊥ (ListsLong heading.nodes lists) (length lent < chart_length heading.nodes) (header_given heading) (listed lists) (all_long heading.nodes lists) tells-long
      (room_cases heading.nodes lent) (tells-ltb (length lent) (chart_length heading.nodes), tt)

  all-numbered : Numbered number_of 1 cases
  all-numbered = fields-numbered (header_given heading) (all_long heading.nodes lists) (listed lists) (room_cases heading.nodes lent) (omega arith, tt)

  answered : (refusal : Refusal) → applies refusal → Answered refusal cases
  answered refusal h =
      ⊎_elim
      (λ (e : refusal ≡ TooShort). absurd (subst applies e h))
      (λ (a : Answered refusal cases). a)
      (fields-answered ⊥ (ListsLong heading.nodes lists) (length lent < chart_length heading.nodes) (header_given heading) (listed lists) (all_long heading.nodes lists) tells-long
      (room_cases heading.nodes lent) (λ _. inl refl) refusal h)

  -- The first rule that applies is the answer's, and the answer is the first's.
  answer-of : (wrote heading lists lent).answer ≡ first_case Err cases (Ok (chart_length heading.nodes))
  unfolding wrote
  answer-of = first-through (λ (left : WriteLeft). left.answer) (refuse_writing lent) cases (stored heading lists lent)

  pub refused-first : (refusal : Refusal) → (wrote heading lists lent).answer ≡ Err refusal → FirstApplies cases refusal
  refused-first refusal e =
      applies-first Err cases (Ok (chart_length heading.nodes)) refusal (λ a b q. cc) (λ q. let z : ◌≡◌ {A = ℕ} 0 1 = cc in omega arith) (sym answer-of ∙ e)

  pub written_none : (count : ℕ) → (wrote heading lists lent).answer ≡ Ok count → NoneApplies cases
  written_none count e =
      none-applies Err cases (Ok (chart_length heading.nodes)) (Ok count) (λ x q. let z : ◌≡◌ {A = ℕ} 0 1 = cc in omega arith) (sym answer-of ∙ e)

  pub first-refused : (refusal : Refusal) → FirstApplies cases refusal → wrote heading lists lent ≡ refuse_writing lent refusal
  unfolding wrote
  first-refused refusal f = first-applies (refuse_writing lent) cases (stored heading lists lent) refusal f

  pub none_written : NoneApplies cases → wrote heading lists lent ≡ stored heading lists lent
  unfolding wrote
  none_written none = first-otherwise (refuse_writing lent) cases (stored heading lists lent) none

  -- ---- what follows

  refused-only : (refusal : Refusal) → (wrote heading lists lent).answer ≡ Err refusal → applies refusal × NoneBeforeGiven heading lists lent refusal
  refused-only refusal e =
      let only = first-only number_of applies 1 cases all-numbered all_tell refusal (refused-first refusal e) in
      (only.0, λ other less h. only.1 other (answered other h) less h)

  count_is : (count : ℕ) → (wrote heading lists lent).answer ≡ Ok count → count ≡ 8 + 8 * heading.nodes
  count_is count e =
      let same : Ok count ≡ Ok (chart_length heading.nodes) = sym e ∙ ap (λ (left : WriteLeft). left.answer) (none_written (written_none count e)) in
      cc

  number-below : (a : Result ℕ Refusal) → (wrote heading lists lent).answer ≡ a → ((wrote_says a).number ≤ 11) × (((wrote_says a).number ≡ 1 → ⊥) × (((wrote_says a).number ≡ 2 → ⊥) × ((wrote_says a).number ≡ 7 → ⊥)))
  number-below (Ok count) e = (omega arith, ((λ q. omega arith), ((λ q. omega arith), λ q. omega arith)))
  number-below (Err refusal) e = by_row refusal (refused-only refusal e).0
    where
      by_row : (r : Refusal) → applies r → (number_of r ≤ 11) × ((number_of r ≡ 1 → ⊥) × ((number_of r ≡ 2 → ⊥) × (number_of r ≡ 7 → ⊥)))
      by_row TooShort h = absurd h
      by_row Edition h = absurd (h refl)
      by_row CacheShape h = (omega arith, ((λ q. omega arith), ((λ q. omega arith), λ q. omega arith)))
      by_row StartCode h = (omega arith, ((λ q. omega arith), ((λ q. omega arith), λ q. omega arith)))
      by_row NodeCount h = (omega arith, ((λ q. omega arith), ((λ q. omega arith), λ q. omega arith)))
      by_row EntryNode h = (omega arith, ((λ q. omega arith), ((λ q. omega arith), λ q. omega arith)))
      by_row SpareBits h = absurd (h (refl, refl))
      by_row Length h = (omega arith, ((λ q. omega arith), ((λ q. omega arith), λ q. omega arith)))
      by_row (BrokenRecord n) h = (omega arith, ((λ q. omega arith), ((λ q. omega arith), λ q. omega arith)))
      by_row (TooManyBlocks n) h = (omega arith, ((λ q. omega arith), ((λ q. omega arith), λ q. omega arith)))
      by_row ShortBuffer h = (omega arith, ((λ q. omega arith), ((λ q. omega arith), λ q. omega arith)))
      by_row Unsettled h = absurd h
      by_row NotPassing h = absurd h
      by_row BoundsLength h = absurd h
      by_row MissBelowHit h = absurd h
      by_row (FloorAboveCeiling n) h = absurd h
      by_row (FloorAtUnmarked n) h = absurd h
      by_row ImpossibleTimes h = absurd h
      by_row FactsLength h = absurd h
      by_row NumberOutOfRange h = absurd h
      by_row (CertificateFails n) h = absurd h

  -- The buffer is as long as it was.
  long-left : (a : Result ℕ Refusal) → (wrote heading lists lent).answer ≡ a → length (wrote heading lists lent).chart ≡ length lent
  long-left (Err refusal) e = ap (λ (left : WriteLeft). length left.chart) (first-refused refusal (refused-first refusal e))
  long-left (Ok count) e =
      let none = written_none count e in
      let room = ltb-false (length lent) (chart_length heading.nodes) none.1.1.1.1.1.1.1.1.1.0 in
      ap (λ (left : WriteLeft). length left.chart) (none_written none)
      ∙ written_long (chart_bytes (header_given heading) (listed lists) heading.nodes) lent (omega (arith, made-length (header_given heading) (listed lists) heading.nodes))

  wide : (2 ^ 4 ≤ heading.line) ⊎ ((2 ^ 4 ≤ heading.sets) ⊎ (2 ^ 4 ≤ heading.ways)) → ShapeKeeps (header_given heading) → ⊥
  wide (inl h) keeps = omega (arith, keeps.line_to)
  wide (inr (inl h)) keeps = omega (arith, keeps.sets_to)
  wide (inr (inr h)) keeps = omega (arith, keeps.ways_to)

  tail : (count k : ℕ) → (wrote heading lists lent).answer ≡ Ok count → count ≤ k → get_or (wrote heading lists lent).chart k 0 ≡ get_or lent k 0
  tail count k e h =
      let bytes = chart_bytes (header_given heading) (listed lists) heading.nodes in
      ap (λ (left : WriteLeft). get_or left.chart k 0) (none_written (written_none count e))
      ∙ written_tail bytes lent k (omega (arith, count_is count e, made-length (header_given heading) (listed lists) heading.nodes))

  pub writer-refusals : WriterRefusals heading lists lent
  writer-refusals =
      record {
        order = refl;
        given = λ refusal h none. first-refused refusal (first-given number_of applies 1 cases all-numbered all_tell refusal (answered refusal h) h none);
        only = refused-only;
        unchanged = λ refusal e. ap (λ (left : WriteLeft). left.chart) (first-refused refusal (refused-first refusal e));
        writes = λ none. none_written (none_given number_of applies cases all_tell none);
        only_writes = λ count e. (count_is count e, λ refusal h. none_only number_of applies cases all_tell (written_none count e) refusal (answered refusal h) h);
        numbers = number-below (wrote heading lists lent).answer refl;
        refusal_says = λ refusal e. ap wrote_says e;
        length_says = λ count e. ap wrote_says e;
        same_length = long-left (wrote heading lists lent).answer refl;
        tail_kept = tail;
        wide_shape = λ h keeps. wide h keeps;
        wide_start = λ h. omega arith;
        wide_nodes = λ h k. omega (arith, k.1);
        wide_entry = λ few h. omega arith;
        wide_record = λ n few wide keeps. wide (record-fits heading.nodes (listed lists n) (holds-true _ _ (tells-record heading.nodes (listed lists n)) keeps) few);
      }

-- ---- a node, and the blocks

blocks-long : (bytes lent : List ℕ) (r : Read) → read_chart bytes ≡ r → length (blocks_read bytes lent).blocks ≡ length lent
unfolding blocks_read
blocks-long bytes lent (refused refusal) e = rw e
blocks-long bytes lent (accepted chart) e = rw e (go (ltb (length lent) (block_count chart)) refl)
  where
    go : (t : Bool) → ltb (length lent) (block_count chart) ≡ t
        → length (cond t (refuse_blocks lent ShortBuffer) (record { answer = Ok (block_count chart); blocks = written chart.blocks lent })).blocks ≡ length lent
    go true q = refl
    go false q = written_long chart.blocks lent (ltb-false (length lent) (block_count chart) q)

blocks-tail : (bytes lent : List ℕ) (count k : ℕ) (r : Read) → read_chart bytes ≡ r → (blocks_read bytes lent).answer ≡ Ok count → count ≤ k → get_or (blocks_read bytes lent).blocks k 0 ≡ get_or lent k 0
unfolding blocks_read
blocks-tail bytes lent count k (refused refusal) e q h = rw e
blocks-tail bytes lent count k (accepted chart) e q h = rw e (go (ltb (length lent) (block_count chart)) (rw e at q))
  where
    go : (t : Bool) → (cond t (refuse_blocks lent ShortBuffer) (record { answer = Ok (block_count chart); blocks = written chart.blocks lent })).answer ≡ Ok count
        → get_or (cond t (refuse_blocks lent ShortBuffer) (record { answer = Ok (block_count chart); blocks = written chart.blocks lent })).blocks k 0 ≡ get_or lent k 0
    go true d = refl
    go false d =
        let same : block_count chart ≡ count = cc in
        written_tail chart.blocks lent k (omega arith)

node-below : (bytes : List ℕ) (n : ℕ) (r : Read) → read_chart bytes ≡ r → (read_node_says bytes n).number ≤ 10
unfolding node_read
node-below bytes n (accepted chart) e = rw e (go (ltb n chart.header.nodes))
  where
    go : (t : Bool) → (node_says (cond t (Ok (Some (records_in bytes n))) (Ok None))).number ≤ 10
    go true = omega arith
    go false = omega arith
node-below bytes n (refused refusal) e = rw e (read-most bytes refusal e)

blocks-below : (bytes lent : List ℕ) (r : Read) → read_chart bytes ≡ r → (read_blocks_say bytes lent).number ≤ 11
unfolding blocks_read
blocks-below bytes lent (accepted chart) e = rw e (go (ltb (length lent) (block_count chart)))
  where
    go : (t : Bool) → (blocks_say (cond t (refuse_blocks lent ShortBuffer) (record { answer = Ok (block_count chart); blocks = written chart.blocks lent })).answer).number ≤ 11
    go true = omega arith
    go false = omega arith
blocks-below bytes lent (refused refusal) e = rw e (omega (arith, read-most bytes refusal e))

pub node-there : (bytes : List ℕ) (chart : Chart) (n : ℕ) → read_chart bytes ≡ accepted chart → n < chart.header.nodes → node_read bytes n ≡ Ok (Some (records_in bytes n))
unfolding node_read
node-there bytes chart n e h = rw (e, lt-ltb n chart.header.nodes h)

pub fields-refusals : FieldsRefusals
unfolding node_read blocks_read
fields-refusals =
    record {
      to_node = λ bytes refusal n e. rw e;
      to_blocks = λ bytes refusal lent e. rw e;
      there = λ bytes chart n small e h. node-there bytes chart n e h ∙ (λ i. Ok (Some (record-bytes bytes small n i)));
      not_there = λ bytes chart n e h. rw (e, le-ltb n chart.header.nodes h);
      listed_blocks = λ bytes chart lent e h. rw (e, le-ltb (length lent) (block_count chart) h);
      short_blocks = λ bytes chart lent e h. rw (e, lt-ltb (length lent) (block_count chart) h);
      node-numbers = λ bytes n. node-below bytes n (read_chart bytes) refl;
      blocks-numbers = λ bytes lent. blocks-below bytes lent (read_chart bytes) refl;
      same_length = λ bytes lent. blocks-long bytes lent (read_chart bytes) refl;
      tail_kept = λ bytes lent count k q h. blocks-tail bytes lent count k (read_chart bytes) refl q h;
      node_refusal = λ bytes n refusal e. ap node_says e;
      node-says = λ bytes n f e. ap node_says e;
      no_node_says = λ bytes n e. ap node_says e;
      blocks_refusal = λ bytes lent refusal e. ap blocks_say e;
      blocks-say = λ bytes lent count e. ap blocks_say e;
    }
