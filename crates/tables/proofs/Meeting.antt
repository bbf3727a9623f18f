-- Ages met into a row of a lent table are a state met into a cell of the table: here lent lists become a table.
use Prim.Native.Nat.{ℕ, ◌*◌, ◌<◌, max, min}
use mathlib.Core.Bool.{Bool, true, false, not, ◌||◌}
use mathlib.Core.Path.{◌≡◌, refl, ap, subst, ◌∙◌}
use lib.ListN.{get_or, set}
use Rattle.lists.specs.Lists.{same_row}
use Rattle.lists.proofs.Same.{or-not}
use Rattle.cache.specs.Ages.{Ages, age_of, same_ages, meet_ages}
use Rattle.flow.specs.Flow.{Cell, blank, holds, cell_at}
use Rattle.flow.specs.Pass.{Run, met, met_at, changes, put}
use Rattle.layout.specs.Rows.{mark_of}
use Rattle.layout.specs.Joins.{row_moves}
use Rattle.layout.proofs.Laid.{mark-stored, mark-stays}
use Rattle.layout.proofs.Meeting.{max-moves, min-moves, row-taken, row-joined, row_moved}
use Rattle.ages.specs.Plan.{Plan, columns_of, plan_flow}
use Rattle.tables.specs.Lent.{Lent, over}
use Rattle.tables.specs.Inner.{LentRun, over_run, AgesAgree, grows, falls, ages_move, taken_into, joined_into, met_into}
use Rattle.tables.specs.Fitting.{CellAgesFit, TableFits, must_kind, may_kind}
use Rattle.tables.proofs.Laid.{marks-read}

module _ (plan : Plan) (lent : Lent) (run : Run Ages) (fits : TableFits plan run.table) (t : ℕ) (inside : t < plan.nodes)
    (row a : Ages) (long : CellAgesFit plan (holds a)) (agree : AgesAgree plan.blocks row a) where
  abbrev before : LentRun
  before = over_run plan lent run

  into-blank : taken_into plan.blocks t row before.lent ≡ record { lent = over plan (set run.table t (holds a)) lent; changed = true }
  unfolding taken_into
  into-blank = λ i. record {
    lent = record {
      must = row-taken (must_kind plan) fits lent.must t inside (age_of row.must) a agree.must long i;
      may = row-taken (may_kind plan) fits lent.may t inside (age_of row.may) a agree.may long i;
      marks = mark-stored fits lent.marks t inside a i;
    };
    changed = true;
  }

  module _ (old : Ages) (stands : cell_at run.table t ≡ holds old) (was : CellAgesFit plan (holds old)) where
    abbrev meeting : Ages
    meeting = meet_ages (columns_of plan) old a

    must-moved : (c : Bool) → row_moves grows c (t * plan.blocks) plan.blocks (age_of row.must) before.lent.must ≡ (c || not (same_row meeting.must old.must))
    unfolding meet_ages
    must-moved c = row_moved (must_kind plan) fits lent.must t inside (age_of row.must) a agree.must old stands max meeting refl was grows max-moves c

    may-moved : (c : Bool) → row_moves falls c (t * plan.blocks) plan.blocks (age_of row.may) before.lent.may ≡ (c || not (same_row meeting.may old.may))
    unfolding meet_ages
    may-moved c = row_moved (may_kind plan) fits lent.may t inside (age_of row.may) a agree.may old stands min meeting refl was falls min-moves c

    both-moved : ages_move plan.blocks t row before ≡ (run.changed || not (same_ages meeting old))
    unfolding same_ages
    both-moved =
        may-moved (row_moves grows run.changed (t * plan.blocks) plan.blocks (age_of row.must) before.lent.must)
        ∙ ap (λ (c : Bool). c || not (same_row meeting.may old.may)) (must-moved run.changed)
        ∙ or-not run.changed (same_row meeting.must old.must) (same_row meeting.may old.may)

    into-held : joined_into plan.blocks t row before ≡ record { lent = over plan (set run.table t (holds meeting)) lent; changed = run.changed || not (same_ages meeting old) }
    unfolding joined_into meet_ages
    into-held = λ i. record {
      lent = record {
        must = row-joined (must_kind plan) fits lent.must t inside (age_of row.must) a agree.must old stands max meeting refl i;
        may = row-joined (may_kind plan) fits lent.may t inside (age_of row.may) a agree.may old stands min meeting refl i;
        marks = mark-stays fits lent.marks t old meeting stands i;
      };
      changed = both-moved i;
    }

  -- The whole: by what the cell has.
  pub met-laid : met_into plan.blocks t row before ≡ over_run plan lent (put (plan_flow plan) a t run)
  unfolding put met_at met changes
  met-laid = go (cell_at run.table t) refl
    where
      marked : (c : Cell Ages) → cell_at run.table t ≡ c → get_or before.lent.marks t 0 ≡ mark_of c
      marked c e = marks-read plan fits lent.marks t inside ∙ ap mark_of e

      or-true : (c : Bool) → true ≡ (c || true)
      or-true true = refl
      or-true false = refl

      go : (c : Cell Ages) → cell_at run.table t ≡ c → met_into plan.blocks t row before ≡ over_run plan lent (put (plan_flow plan) a t run)
      go blank e = rw (marked blank e, e) (into-blank ∙ (λ i. record { lent = over plan (set run.table t (holds a)) lent; changed = or-true run.changed i }))
      go (holds old) e = rw (marked (holds old) e, e) (into-held old e (subst (CellAgesFit plan) e (fits.cells_fit t)))
