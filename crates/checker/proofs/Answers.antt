-- What an answer of the checker says of the table.
use Rattle.std.specs.Prelude.{Err, Ok}
use Prim.Native.Nat.{ℕ}
use mathlib.Core.Bool.{Bool, true, false}
use mathlib.Core.List.{List}
use mathlib.Core.Path.{◌≡◌, refl, ap}
use native.Mathlib.Omega.{arith}
use Rattle.refusals.specs.declared.Refusal.{Refusal}
use Rattle.refusals.specs.declared.Refusal.TheVariants.{ShortBuffer}
use Rattle.chart.specs.Chart.{Chart, accepted, read_chart}
use Rattle.ages.specs.Plan.{Plan}
use Rattle.ages.specs.Charted.{plan_of}
use Rattle.plan.specs.Listed.{plan_in}
use Rattle.drawing.specs.Drawing.{Draws}
use Rattle.tables.specs.Lent.{Lent, table_short}
use Rattle.checker.specs.Checker.{passing, checked_by, checked}
use Rattle.checker.specs.Inner.{answer_of}

pub checked-by : (plan : Plan) (lent : Lent) → checked_by plan lent ≡ answer_of (table_short plan lent) (passing plan lent)
unfolding checked_by
checked-by plan lent = refl

pub checked-accepted : (bytes : List ℕ) (chart : Chart) (lent : Lent) → read_chart bytes ≡ accepted chart → checked bytes lent ≡ answer_of (table_short (plan_of chart) lent) (passing (plan_of chart) lent)
unfolding checked
checked-accepted bytes chart lent read = rw read (checked-by (plan_of chart) lent)

-- The answer for a plan that was drawn of bytes is the answer for the bytes.
pub checked-drawn : {bytes columns plan : List ℕ} {chart : Chart} (lent : Lent) → Draws bytes columns plan → read_chart bytes ≡ accepted chart → checked_by (plan_in columns plan) lent ≡ checked bytes lent
unfolding checked
checked-drawn {chart = chart} lent draws read = rw read (ap (λ (plan : Plan). checked_by plan lent) (draws.plan_is chart read))

pub short-only : (refusal : Refusal) (short pass : Bool) → answer_of short pass ≡ Err refusal → (short ≡ true) × (refusal ≡ ShortBuffer)
short-only refusal true pass e = (refl, cc)
short-only refusal false true e = let z : ◌≡◌ {A = ℕ} 0 1 = cc in absurd (omega arith)
short-only refusal false false e = let z : ◌≡◌ {A = ℕ} 0 1 = cc in absurd (omega arith)

pub no-only : (short pass : Bool) → answer_of short pass ≡ Ok false → (short ≡ false) × (pass ≡ false)
no-only true pass e = let z : ◌≡◌ {A = ℕ} 0 1 = cc in absurd (omega arith)
no-only false true e = let z : ◌≡◌ {A = ℕ} 0 1 = cc in absurd (omega arith)
no-only false false e = (refl, refl)

pub yes-only : (short pass : Bool) → answer_of short pass ≡ Ok true → (short ≡ false) × (pass ≡ true)
yes-only true pass e = let z : ◌≡◌ {A = ℕ} 0 1 = cc in absurd (omega arith)
yes-only false true e = (refl, refl)
yes-only false false e = let z : ◌≡◌ {A = ℕ} 0 1 = cc in absurd (omega arith)
