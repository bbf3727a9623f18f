-- From a chart that was read and drawn, and buffers that are long enough or not, to what the analysis is defined to answer and leave.
use Rattle.std.specs.Prelude.{Result}
use Prim.Native.Nat.{ℕ, ◌*◌, ◌≤◌}
use mathlib.Core.Bool.{Bool, true, false, cond}
use mathlib.Core.List.{List}
use mathlib.Core.Path.{◌≡◌, sym, ap, subst, ◌∙◌}
use lib.ListN.{length, get_or}
use Rattle.lists.specs.Loops.{patch}
use Rattle.refusals.specs.declared.Refusal.TheVariants.{ShortBuffer}
use Rattle.chart.specs.declared.headers.Header.{Header}
use Rattle.chart.specs.Geometry.{most_touches}
use Rattle.chart.specs.Chart.{Chart, chart_in}
use Rattle.chart.specs.Inner.{AcceptedAs}
use Rattle.flow.specs.Pass.{settle}
use Rattle.ages.specs.Plan.{Plan, plan_flow}
use Rattle.ages.specs.Charted.{plan_of}
use Rattle.plan.specs.Listed.{nodes_in, blocks_in, plan_in, Drawn}
use Rattle.drawing.specs.Drawing.{Draws}
use Rattle.tables.specs.Lent.{Lent}
use Rattle.tables.specs.Inner.{Roomy}
use Rattle.analysis.specs.Analysis.{Buffers, table_in, buffers_short, refuse, finish, analysed}
use Rattle.analysis.specs.Inner.{sized, buffers_by, Finishes}
use Rattle.analysis.proofs.Room.{room-parts, table-room}
use Rattle.analysis.proofs.Finishing.{blocks-written}
use Rattle.analysis.specs.declared.Unanalysed.{Unanalysed}
use Rattle.analysis.specs.declared.SettledAfter.{SettledAfter}

module _ (bytes columns plan : List ℕ) (draws : Draws bytes columns plan) (header : Header) (count : ℕ) (list : List ℕ) (found : AcceptedAs bytes header count list)
    (allowance : ℕ) (buffers : Buffers) where
  abbrev chart : Chart
  chart = chart_in bytes

  held-is : plan_in columns plan ≡ plan_of chart
  held-is = draws.plan_is chart found.read

  pub held-drawn : Drawn columns plan
  held-drawn = draws.drawn chart found.read

  module _ (short : Bool) (tells : short ≡ buffers_short (sized plan) buffers) where
    short-is : buffers_short (plan_of chart) buffers ≡ short
    short-is = sym (tells ∙ ap (λ (p : Plan). buffers_short p buffers) held-is)

    defined : analysed bytes allowance buffers
        ≡ cond short (refuse buffers ShortBuffer) (finish (plan_of chart) chart.blocks allowance buffers (settle (plan_flow (plan_of chart)) allowance))
    unfolding analysed
    defined = rw (found.read, short-is)

    pub short-refused : short ≡ true → refuse buffers ShortBuffer ≡ analysed bytes allowance buffers
    short-refused is = sym (defined ∙ rw is)

    module _ (is : short ≡ false) where
      chart-room : length chart.blocks ≤ length buffers.blocks
      chart-room = (room-parts (plan_of chart) buffers (short-is ∙ is)).0

      pub list-room : count ≤ length buffers.blocks
      list-room = subst (λ (n : ℕ). n ≤ length buffers.blocks) (sym found.count_is) chart-room

      pub plan-room : Roomy (nodes_in plan) (blocks_in plan) buffers.must buffers.may buffers.marks
      plan-room = table-room (plan_in columns plan) buffers (sym tells ∙ is)

      pub classes-room : most_touches * nodes_in plan ≤ length buffers.classes
      classes-room = (room-parts (plan_in columns plan) buffers (sym tells ∙ is)).1.1

      pub finishes-analysed : (blocks : List ℕ) → blocks ≡ patch buffers.blocks 0 count (λ k. get_or list k 0)
          → (answer : Result SettledAfter Unanalysed) (left : Lent) (classes : List ℕ) → Finishes (plan_in columns plan) allowance (table_in buffers) buffers.classes answer left classes
          → record { answer = answer; buffers = buffers_by blocks left classes } ≡ analysed bytes allowance buffers
      finishes-analysed blocks e answer left classes finishes =
          (λ i. record {
            answer = answer;
            buffers = buffers_by
                ((e
                ∙ ap (λ (n : ℕ). patch buffers.blocks 0 n (λ k. get_or list k 0)) found.count_is
                ∙ blocks-written chart.blocks list buffers.blocks found.array_is chart-room) i)
                left classes;
          })
          ∙ finishes chart.blocks buffers.blocks
          ∙ ap (λ (p : Plan). finish p chart.blocks allowance buffers (settle (plan_flow p) allowance)) held-is
          ∙ sym (defined ∙ rw is)
