-- The reader's tests tell when each of refusals 1 to 10 applies.
use Rattle.std.specs.Prelude.{None, Some}
use Prim.Native.Nat.{ℕ, zero, suc, ◌+◌, ◌*◌, ◌/◌, ◌^◌, ◌≤◌, ◌<◌}
use mathlib.Core.Bool.{Bool, true, false, cond, not}
use mathlib.Core.List.{List, [], ◌∷◌, ◌++◌}
use mathlib.Core.Logic.{◌⊎◌, inl, inr, ⊎_elim}
use mathlib.Core.Path.{◌≡◌, refl, sym, ap, subst, ◌∙◌}
use native.Mathlib.Omega.{arith}
use borrow.Author.Tests.{ltb-true, ltb-false, not-true, not-false, lt-ltb, le-ltb}
use lib.Dec.{ltb, leb, eqb}
use lib.ListN.{length}
use Rattle.lists.specs.Choice.{Case, ◌⇒◌, FirstApplies, first}
use Rattle.lists.specs.Telling.{Tells, AllTell, Numbered, Answered}
use Rattle.lists.proofs.Choice.{first-applies, applies-first, none-applies, first-otherwise}
use Rattle.lists.proofs.Firsts.{first-test, first-fails, first-is}
use Rattle.blocks.specs.Blocks.{gathered, overfull}
use Rattle.chart.specs.declared.shape.Geometry.{Geometry}
use Rattle.refusals.specs.declared.Refusal.{Refusal}
use Rattle.refusals.specs.declared.Refusal.TheVariants.{TooShort, Edition, CacheShape, StartCode, NodeCount, EntryNode, SpareBits, Length, BrokenRecord, TooManyBlocks, ShortBuffer, Unsettled, NotPassing, BoundsLength, MissBelowHit, FloorAboveCeiling, FloorAtUnmarked, ImpossibleTimes, FactsLength, NumberOutOfRange, CertificateFails}
use Rattle.refusals.specs.Refusals.{number_of}
use Rattle.chart.specs.declared.headers.HeaderFields.{HeaderFields}
use Rattle.chart.specs.declared.records.RecordFields.{RecordFields}
use Rattle.chart.specs.Geometry.{most_nodes, most_blocks, most_set_bits, most_ways, block_of, between, shape_allowed}
use Rattle.chart.specs.Layout.{chart_length}
use Rattle.chart.specs.Header.{geometry_of, fields_in}
use Rattle.chart.specs.Record.{last_byte, record_keeps, record_of, touches_of, blocks_of}
use Rattle.chart.specs.Chart.{Chart, accepted, refused, records_in, broken_at, first_broken, overfull_at, first_overfull, field_cases, chart_in, chart_cases, read_chart}
use Rattle.chart.specs.Bytes.{AreBytes, header_bytes, record_bytes}
use Rattle.chart.specs.Refusing.{ShapeKeeps, RecordKeeps, FirstBroken, last_block_said, record_blocks, blocks_before, FirstOver, Rows, Applies}
use Rattle.lists.proofs.Telling.{tells-ltb, tells-leb, tells-eqb, tells-not, tells-and, tells-same, holds-true, fails-false, first-only, first-given, none_given, none_only}
use Rattle.blocks.proofs.Exact.{gathered-same, gathered-longer}
use Rattle.chart.proofs.Keeping.{tells-record}
use Rattle.chart.proofs.Sizes.{last_block}
use Rattle.chart.proofs.Bytes.{header-bytes, record-bytes}

false-not : (t : Bool) → t ≡ false → not t ≡ true
false-not t e = rw e

true-not : (t : Bool) → t ≡ true → not t ≡ false
true-not t e = rw e

-- ---- the shape, and the blocks of a record

tells-between : (least most n : ℕ) → Tells (between least most n) ((least ≤ n) × (n ≤ most))
tells-between least most n = tells-and (leb least n) (leb n most) (least ≤ n) (n ≤ most) (tells-leb least n) (tells-leb n most)

tells-shape : (fields : HeaderFields) → Tells (shape_allowed (geometry_of fields)) (ShapeKeeps fields)
unfolding shape_allowed
tells-shape fields =
    tells-same _ _ (ShapeKeeps fields)
    (λ h. record { line_from = h.0.0; line_to = h.0.1; sets_to = h.1.0.1; ways_from = h.1.1.0; ways_to = h.1.1.1 })
    (λ k. ((k.line_from, k.line_to), ((omega arith, k.sets_to), (k.ways_from, k.ways_to))))
    (tells-and _ _ _ _ (tells-between 2 8 fields.line)
    (tells-and _ _ _ _ (tells-between 0 most_set_bits fields.sets) (tells-between 1 most_ways fields.ways)))

-- The blocks of a record: none of a bare step, else that of its first byte, and that of its last byte if it is another.
record-blocks : (geometry : Geometry) (fields : RecordFields) → blocks_of (touches_of geometry (record_of fields)) ≡ record_blocks geometry.line fields
unfolding record_of touches_of block_of
record-blocks geometry fields = go (eqb fields.kind 0)
  where
    lower : ℕ
    lower = fields.address / 2 ^ geometry.line

    two : (upper : ℕ) (t : Bool) → blocks_of (record { block = lower; write = eqb fields.kind 2 } ∷ cond t [] (record { block = upper; write = eqb fields.kind 2 } ∷ [])) ≡ lower ∷ cond t [] (upper ∷ [])
    two upper true = refl
    two upper false = refl

    go : (t : Bool) → blocks_of (touches_of geometry (cond t None (Some (record { write = eqb fields.kind 2; address = fields.address; last = last_byte fields }))))
        ≡ cond t [] (lower ∷ cond (eqb lower (last_block_said geometry.line fields)) [] (last_block_said geometry.line fields ∷ []))
    go true = refl
    go false =
        two (last_byte fields / 2 ^ geometry.line) (eqb lower (last_byte fields / 2 ^ geometry.line))
        ∙ ap (λ (upper : ℕ). lower ∷ cond (eqb lower upper) [] (upper ∷ [])) (last_block fields geometry.line)

-- Rows 2 to 10 stand in the order of their numbers.
pub fields-numbered : (fields : HeaderFields) (long : Bool) (records : ℕ → RecordFields) (more : List (Case Refusal)) → Numbered number_of 10 more → Numbered number_of 1 (field_cases fields long records ++ more)
fields-numbered fields long records more numbered =
    (omega arith, (omega arith, (omega arith, (omega arith, (omega arith, (omega arith, (omega arith, (omega arith, (omega arith, numbered)))))))))

-- ---- any fields, and tests that tell what rows 1, 8 and 11 ask

module _ (Few Long Short : Type 0) (fields : HeaderFields) (records : ℕ → RecordFields) (long : Bool) (tells-long : Tells long Long) where
  -- ---- the first node whose record breaks its rules

  tells-keeps : (n : ℕ) → Tells (record_keeps fields.nodes (records n)) (RecordKeeps fields.nodes (records n))
  tells-keeps n = tells-record fields.nodes (records n)

  abbrev broken : ℕ → Bool
  broken = broken_at records fields.nodes

  found-broken : (n : ℕ) → first fields.nodes broken ≡ n → n < fields.nodes → FirstBroken fields.nodes records n
  found-broken n e h =
      let tests : (i : ℕ) → i < n → broken i ≡ false = λ i k. first-fails fields.nodes broken i (omega arith) in
      let here : broken (first fields.nodes broken) ≡ true = first-test fields.nodes broken (omega arith) in
      record {
        inside = h;
        breaks = λ k. (tells-keeps n).1 (not-true _ (rw e at here)) k;
        earlier = λ i k. (tells-keeps i).0 (not-false _ (tests i k));
      }

  broken-found : (n : ℕ) → FirstBroken fields.nodes records n → first fields.nodes broken ≡ n
  broken-found n h =
      first-is fields.nodes broken n h.inside
      (false-not _ (fails-false _ _ (tells-keeps n) h.breaks))
      (λ i k. true-not _ (holds-true _ _ (tells-keeps i) (h.earlier i k)))

  -- ---- the first node that brings a block too many

  abbrev over : ℕ → Bool
  over = overfull_at (geometry_of fields) records

  abbrev before : ℕ → List ℕ
  before n = blocks_before fields.line records n

  over-said : (n : ℕ) → over n ≡ ltb most_blocks (length (before (suc n)))
  unfolding overfull
  over-said n =
      ap (λ (l : List ℕ). ltb most_blocks (length l))
      (gathered-same _ (λ i. record_blocks fields.line (records i)) (λ i. record-blocks (geometry_of fields) (records i)) (suc n))

  found-over : (n : ℕ) → first fields.nodes over ≡ n → n < fields.nodes → FirstOver fields.nodes fields.line records n
  unfolding gathered
  found-over n e h =
      let tests : (i : ℕ) → i < n → over i ≡ false = λ i k. first-fails fields.nodes over i (omega arith) in
      let here : over (first fields.nodes over) ≡ true = first-test fields.nodes over (omega arith) in
      record {
        inside = h;
        over = ltb-true most_blocks (length (before (suc n))) (sym (over-said n) ∙ (rw e at here));
        earlier = few n tests;
      }
    where
      few : (n : ℕ) → ((i : ℕ) → i < n → over i ≡ false) → length (before n) ≤ most_blocks
      few zero tests = omega arith
      few (suc n) tests = ltb-false most_blocks (length (before (suc n))) (sym (over-said n) ∙ tests n (omega arith))

  over-found : (n : ℕ) → FirstOver fields.nodes fields.line records n → first fields.nodes over ≡ n
  over-found n h =
      first-is fields.nodes over n h.inside
      (over-said n ∙ lt-ltb most_blocks (length (before (suc n))) h.over)
      (λ i k. over-said i ∙ le-ltb most_blocks (length (before (suc i)))
      (omega (arith, h.earlier, gathered-longer (λ i. record_blocks fields.line (records i)) (suc i) n (omega arith))))

  -- ---- rows 2 to 10, and more behind them

  abbrev rows : Refusal → Type 0
  rows = Rows Few Long Short fields records

  pub fields-tell : (more : List (Case Refusal)) → AllTell rows more → AllTell rows (field_cases fields long records ++ more)
  unfolding first_broken first_overfull
  fields-tell more tell = (
    tells-not _ _ (tells-eqb fields.edition 1),
    (
      tells-not _ _ (tells-shape fields),
      (
        tells-ltb 1 fields.start,
        (
          tells-not _ _ (tells-between 1 most_nodes fields.nodes),
          (
            tells-leb fields.nodes fields.entry,
            (
              tells-not _ _ (tells-and _ _ _ _ (tells-eqb fields.first_spare 0) (tells-eqb fields.second_spare 0)),
              (
                tells-not _ _ tells-long,
                (
                  ((λ e. found-broken _ refl (ltb-true _ fields.nodes e)), λ e h. omega (arith, ltb-false _ fields.nodes e, h.inside)),
                  (
                    ((λ e. found-over _ refl (ltb-true _ fields.nodes e)), λ e h. omega (arith, ltb-false _ fields.nodes e, h.inside)),
                    tell,
                  ),
                ),
              ),
            ),
          ),
        ),
      ),
    ),
  )

  -- A row that applies is among those, or it is row 1 or row 11.
  pub fields-answered : (more : List (Case Refusal)) → (Short → Answered ShortBuffer more) → (refusal : Refusal) → rows refusal
      → (refusal ≡ TooShort) ⊎ Answered refusal (field_cases fields long records ++ more)
  unfolding first_broken first_overfull
  fields-answered more s TooShort h = inl refl
  fields-answered more s Edition h = inr (inl refl)
  fields-answered more s CacheShape h = inr (inr (inl refl))
  fields-answered more s StartCode h = inr (inr (inr (inl refl)))
  fields-answered more s NodeCount h = inr (inr (inr (inr (inl refl))))
  fields-answered more s EntryNode h = inr (inr (inr (inr (inr (inl refl)))))
  fields-answered more s SpareBits h = inr (inr (inr (inr (inr (inr (inl refl))))))
  fields-answered more s Length h = inr (inr (inr (inr (inr (inr (inr (inl refl)))))))
  fields-answered more s (BrokenRecord n) h = inr (inr (inr (inr (inr (inr (inr (inr (inl (ap BrokenRecord (broken-found n h))))))))))
  fields-answered more s (TooManyBlocks n) h = inr (inr (inr (inr (inr (inr (inr (inr (inr (inl (ap TooManyBlocks (over-found n h)))))))))))
  fields-answered more s ShortBuffer h = inr (inr (inr (inr (inr (inr (inr (inr (inr (inr (s h))))))))))
  fields-answered more s Unsettled h = absurd h
  fields-answered more s NotPassing h = absurd h
  fields-answered more s BoundsLength h = absurd h
  fields-answered more s MissBelowHit h = absurd h
  fields-answered more s (FloorAboveCeiling n) h = absurd h
  fields-answered more s (FloorAtUnmarked n) h = absurd h
  fields-answered more s ImpossibleTimes h = absurd h
  fields-answered more s FactsLength h = absurd h
  fields-answered more s NumberOutOfRange h = absurd h
  fields-answered more s (CertificateFails n) h = absurd h

-- ---- any bytes

module _ (bytes : List ℕ) (small : AreBytes bytes) where
  abbrev long : HeaderFields → Bool
  long fields = eqb (length bytes) (chart_length fields.nodes)

  -- The reader's tests are those of the fields that bytes have.
  by_bytes : chart_cases bytes ≡ (ltb (length bytes) 8 ⇒ TooShort) ∷ field_cases (header_bytes bytes) (long (header_bytes bytes)) (record_bytes bytes)
  by_bytes =
      λ i. (ltb (length bytes) 8 ⇒ TooShort)
      ∷ field_cases (header-bytes bytes small i) (long (header-bytes bytes small i)) (λ n. record-bytes bytes small n i)

  abbrev Long : Type 0
  Long = length bytes ≡ 8 + 8 * (header_bytes bytes).nodes

  tells-long : Tells (long (header_bytes bytes)) Long
  tells-long = tells-eqb (length bytes) (8 + 8 * (header_bytes bytes).nodes)

  all_tell : AllTell (Applies bytes) (chart_cases bytes)
  all_tell =
      subst (AllTell (Applies bytes)) (sym by_bytes)
      (tells-ltb (length bytes) 8, fields-tell (length bytes < 8) Long ⊥ (header_bytes bytes) (record_bytes bytes) (long (header_bytes bytes)) tells-long [] tt)

  cases-numbered : Numbered number_of 0 (chart_cases bytes)
  cases-numbered =
      (omega arith, fields-numbered (fields_in bytes) (long (fields_in bytes)) (records_in bytes) [] tt)

  applies-answered : (refusal : Refusal) → Applies bytes refusal → Answered refusal (chart_cases bytes)
  applies-answered refusal h =
      subst (Answered refusal) (sym by_bytes)
      (⊎_elim (λ (e : refusal ≡ TooShort). inl (sym e)) (λ (a : Answered refusal (field_cases (header_bytes bytes) (long (header_bytes bytes)) (record_bytes bytes))). inr a)
      (fields-answered (length bytes < 8) Long ⊥ (header_bytes bytes) (record_bytes bytes) (long (header_bytes bytes)) tells-long [] (λ no. no) refusal h))

  -- ---- the first that applies is given, and only that

  pub refuses-first : (refusal : Refusal) → read_chart bytes ≡ refused refusal → Applies bytes refusal × ((other : Refusal) → number_of other < number_of refusal → Applies bytes other → ⊥)
  unfolding read_chart
  refuses-first refusal e =
      let rule : FirstApplies (chart_cases bytes) refusal = applies-first refused (chart_cases bytes) (accepted (chart_in bytes)) refusal (λ a b q. cc) (λ q. let z : ◌≡◌ {A = ℕ} 0 1 = cc in omega arith) e in
      let only = first-only number_of (Applies bytes) 0 (chart_cases bytes) cases-numbered all_tell refusal rule in
      (only.0, λ other less h. only.1 other (applies-answered other h) less h)

  pub first-refuses : (refusal : Refusal) → Applies bytes refusal → ((other : Refusal) → number_of other < number_of refusal → Applies bytes other → ⊥) → read_chart bytes ≡ refused refusal
  unfolding read_chart
  first-refuses refusal h none =
      first-applies refused (chart_cases bytes) (accepted (chart_in bytes)) refusal
      (first-given number_of (Applies bytes) 0 (chart_cases bytes) cases-numbered all_tell refusal (applies-answered refusal h) h none)

  pub none-accepts : ((refusal : Refusal) → Applies bytes refusal → ⊥) → read_chart bytes ≡ accepted (chart_in bytes)
  unfolding read_chart
  none-accepts none = first-otherwise refused (chart_cases bytes) (accepted (chart_in bytes)) (none_given number_of (Applies bytes) (chart_cases bytes) all_tell none)

  pub accepts-none : (chart : Chart) → read_chart bytes ≡ accepted chart → (refusal : Refusal) → Applies bytes refusal → ⊥
  unfolding read_chart
  accepts-none chart e refusal h =
      none_only number_of (Applies bytes) (chart_cases bytes) all_tell
      (none-applies refused (chart_cases bytes) (accepted (chart_in bytes)) (accepted chart) (λ x q. let z : ◌≡◌ {A = ℕ} 0 1 = cc in omega arith) e)
      refusal (applies-answered refusal h) h
