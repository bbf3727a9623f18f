-- The analysis of an accepted chart: when it gives 11, 12 or settles, what it then leaves, and that no buffer grows or shrinks.
use Prim.Native.Nat.{ℕ}
use mathlib.Core.Bool.{Bool, true, false, cond}
use mathlib.Core.List.{List}
use mathlib.Core.Path.{◌≡◌, refl, sym, ap, ◌∙◌, subst}
use native.Mathlib.Omega.{arith}
use lib.ListN.{length, replicate, length-replicate}
use Rattle.lists.proofs.Joined.{length-written}
use Rattle.refusals.specs.declared.Refusal.TheVariants.{ShortBuffer}
use Rattle.chart.specs.Chart.{Chart, Read, accepted, refused, read_chart, block_count}
use Rattle.cache.specs.Ages.{Ages}
use Rattle.flow.specs.Flow.{Cell}
use Rattle.flow.specs.Pass.{Outcome, settled, spent, settle}
use Rattle.flow.proofs.Ending.{settle-after, settle-spends}
use Rattle.flow.proofs.Outcomes.{settle-spent}
use Rattle.ages.specs.Charted.{plan_of, ages_flow}
use Rattle.tables.specs.Lent.{Lent, ages_used, marks_used, lent_of}
use Rattle.tables.specs.Fitting.{TableFits}
use Rattle.tables.proofs.Laid.{must-laid, may-laid, marks-laid, long-enough}
use Rattle.tables.proofs.Fitting.{after_passes-fits}
use Rattle.classes.specs.Class.{table_classes}
use Rattle.classes.proofs.Places.{classes_long}
use Rattle.analysis.proofs.Room.{room-parts, parts-room}
use Rattle.analysis.specs.declared.SettledAfter.{SettledAfter}
use Rattle.analysis.specs.Analysis.{Buffers, Left, table_in, classes_used, buffers_short, fill, zero_lent, filled_by, refuse, finish, analyse_read, analysed, analysis_refused, settled_after, unsettled}
use Rattle.demands.specs.Demand1.{AllChange, AnalysisRefusals, SameLengths}
use Rattle.demands.proofs.Checking.{room-short, short-room}
use Rattle.demands.specs.Inner.{Done}

-- ---- what it answers

module _ (bytes : List ℕ) (chart : Chart) (allowance : ℕ) (lent : Buffers) (read : read_chart bytes ≡ accepted chart) where
  accepted-analysed : analysed bytes allowance lent ≡ cond (buffers_short (plan_of chart) lent) (refuse lent ShortBuffer) (finish (plan_of chart) chart.blocks allowance lent (settle (ages_flow chart) allowance))
  unfolding analysed
  accepted-analysed = rw read

  answered-short : buffers_short (plan_of chart) lent ≡ true → analysed bytes allowance lent ≡ refuse lent ShortBuffer
  answered-short e = accepted-analysed ∙ (rw e)

  answered-outcome : buffers_short (plan_of chart) lent ≡ false → (o : Outcome Ages) → settle (ages_flow chart) allowance ≡ o → analysed bytes allowance lent ≡ finish (plan_of chart) chart.blocks allowance lent o
  answered-outcome e o q = accepted-analysed ∙ (rw (e, q))

  -- Two answers that are the same settled after as many passes, over as many blocks.
  abbrev done : ℕ → ℕ → SettledAfter
  done k b = record { passes = k; blocks = b }

  settled-same : {k passes b blocks : ℕ} → settled_after k b ≡ settled_after passes blocks → (k ≡ passes) × (b ≡ blocks)
  settled-same {k = k} {passes = passes} {b = b} {blocks = blocks} e =
      let same : done k b ≡ done passes blocks = cc in (ap (λ (s : SettledAfter). s.passes) same, ap (λ (s : SettledAfter). s.blocks) same)

  pub settled-done : (passes blocks : ℕ) → (analysed bytes allowance lent).answer ≡ settled_after passes blocks → Done bytes chart allowance lent passes blocks
  unfolding finish
  settled-done passes blocks e = go (buffers_short (plan_of chart) lent) refl (settle (ages_flow chart) allowance) refl
    where
      go : (short : Bool) → buffers_short (plan_of chart) lent ≡ short → (o : Outcome Ages) → settle (ages_flow chart) allowance ≡ o → Done bytes chart allowance lent passes blocks
      go true s o q =
          let says : (analysed bytes allowance lent).answer ≡ analysis_refused ShortBuffer = ap (λ (l : Left). l.answer) (answered-short s) in
          let z : ◌≡◌ {A = ℕ} 0 1 = cc in
          absurd (omega arith)
      go false s spent q =
          let says : (analysed bytes allowance lent).answer ≡ unsettled allowance (block_count chart) = ap (λ (l : Left). l.answer) (answered-outcome s spent q) in
          let z : ◌≡◌ {A = ℕ} 0 1 = cc in
          absurd (omega arith)
      go false s (settled k U) q =
          let says : (analysed bytes allowance lent).answer ≡ settled_after k (block_count chart) = ap (λ (l : Left). l.answer) (answered-outcome s (settled k U) q) in
          let same = settled-same (sym says ∙ e) in
          let made : k ≡ passes = same.0 in
          let of : blocks ≡ block_count chart = sym same.1 in
          record {
            room = s;
            table = U;
            outcome = q ∙ ap (λ (n : ℕ). settled n U) made;
            count_is = of;
            left = answered-outcome s (settled k U) q ∙ ap (λ (n : ℕ). record { answer = settled_after n (block_count chart); buffers = filled_by (plan_of chart) chart.blocks U lent }) made;
          }

  pub done-settled : buffers_short (plan_of chart) lent ≡ false → (k : ℕ) (U : List (Cell Ages)) → settle (ages_flow chart) allowance ≡ settled k U
      → (analysed bytes allowance lent).answer ≡ settled_after k (block_count chart)
  unfolding finish
  done-settled room k U q = ap (λ (l : Left). l.answer) (answered-outcome room (settled k U) q)

  pub analysis-refusals : AnalysisRefusals bytes chart allowance lent
  unfolding finish
  analysis-refusals =
      record {
        not_short = λ room. parts-room (plan_of chart) lent room.blocks (room-short chart (table_in lent) room.table) room.classes;
        has_room = λ room.
            let parts = room-parts (plan_of chart) lent room in
            record { blocks = parts.0; table = short-room chart (table_in lent) parts.1.0; classes = parts.1.1 };
        short = answered-short;
        unsettled = λ room all. answered-outcome room spent (settle-spent (ages_flow chart) allowance all);
        settled = λ room some. go room some (settle (ages_flow chart) allowance) refl;
      }
    where
      go : buffers_short (plan_of chart) lent ≡ false → (AllChange chart allowance → ⊥)
          → (o : Outcome Ages) → settle (ages_flow chart) allowance ≡ o → (passes : ℕ) × ((analysed bytes allowance lent).answer ≡ settled_after passes (block_count chart))
      go room some (settled k U) q = (k, done-settled room k U q)
      go room some spent q = absurd (some (settle-spends (ages_flow chart) allowance q))

-- ---- lengths

unchanged : (lent : Buffers) → SameLengths lent lent
unchanged lent = record { blocks = refl; must = refl; may = refl; marks = refl; classes = refl }

module _ (chart : Chart) (lent : Buffers) (room : buffers_short (plan_of chart) lent ≡ false) where
  filled-lengths : (table : Lent) (classes : List ℕ) → length table.must ≡ ages_used (plan_of chart) → length table.may ≡ ages_used (plan_of chart) → length table.marks ≡ marks_used (plan_of chart) → length classes ≡ classes_used (plan_of chart)
      → SameLengths lent (fill chart.blocks table classes lent)
  filled-lengths table classes must may marks of =
      let parts = room-parts (plan_of chart) lent room in
      let long = long-enough (plan_of chart) (table_in lent) parts.1.0 in
      record {
        blocks = length-written chart.blocks lent.blocks parts.0;
        must = length-written table.must lent.must (omega (arith, long.0));
        may = length-written table.may lent.may (omega (arith, long.1.0));
        marks = length-written table.marks lent.marks (omega (arith, long.1.1));
        classes = length-written classes lent.classes (omega (arith, parts.1.1));
      }

  finished-lengths : (allowance : ℕ) (o : Outcome Ages) → settle (ages_flow chart) allowance ≡ o → SameLengths lent (finish (plan_of chart) chart.blocks allowance lent o).buffers
  unfolding finish
  finished-lengths allowance (settled k U) q =
      let fits = subst (TableFits (plan_of chart)) (sym (settle-after (ages_flow chart) allowance k U q).table) (after_passes-fits (plan_of chart) k) in
      filled-lengths (lent_of (plan_of chart) U) (table_classes (plan_of chart) U) (must-laid (plan_of chart) fits) (may-laid (plan_of chart) fits) (marks-laid (plan_of chart) fits) (classes_long (plan_of chart) U)
  finished-lengths allowance spent q =
      filled-lengths (zero_lent (plan_of chart)) (replicate (classes_used (plan_of chart)) 0) (length-replicate _ _) (length-replicate _ _) (length-replicate _ _) (length-replicate _ _)

pub same_lengths : (bytes : List ℕ) (allowance : ℕ) (lent : Buffers) → SameLengths lent (analysed bytes allowance lent).buffers
unfolding analysed
same_lengths bytes allowance lent = go (read_chart bytes)
  where
    room : (chart : Chart) (short : Bool) → buffers_short (plan_of chart) lent ≡ short
        → SameLengths lent (cond short (refuse lent ShortBuffer) (finish (plan_of chart) chart.blocks allowance lent (settle (ages_flow chart) allowance))).buffers
    room chart true e = unchanged lent
    room chart false e = finished-lengths chart lent e allowance (settle (ages_flow chart) allowance) refl

    go : (r : Read) → SameLengths lent (analyse_read allowance lent r).buffers
    go (accepted chart) = room chart (buffers_short (plan_of chart) lent) refl
    go (refused refusal) = unchanged lent
