-- By the classes that were written, a claim about a plan's list is the claim about the lent table: it fails at the same node, has its peak at the same node,
-- and the same blocks are charged for.
use Prim.Native.Nat.{ℕ, zero, suc, ◌+◌, ◌-◌, ◌*◌, ◌<◌}
use mathlib.Core.Bool.{Bool, true, false, not, cond, ◌&&◌, ◌||◌}
use mathlib.Core.List.{List, [], ◌∷◌}
use mathlib.Core.Logic.{inl, inr}
use mathlib.Core.Path.{◌≡◌, refl, sym, ap, subst, ◌∙◌}
use borrow.Author.Tests.{leb-true, leb-false, lt-ltb, le-ltb}
use lib.Dec.{eqb, leb, ltb}
use lib.IntN.{ℤ}
use lib.ListN.{get_or}
use Rattle.lists.specs.Choice.{first, every_of}
use Rattle.lists.specs.Lists.{Among, written}
use Rattle.lists.specs.Loops.{any}
use Rattle.lists.proofs.Choice.{first-same}
use Rattle.lists.proofs.Loops.{any_same}
use Rattle.lists.proofs.Sums.{sum-equal}
use Rattle.chart.specs.Geometry.{most_touches}
use Rattle.chart.specs.Record.{arrows_of}
use Rattle.classes.specs.Class.{table_classes}
use Rattle.facts.specs.declared.Side.{Side}
use Rattle.facts.specs.declared.Side.TheVariants.{High, Low}
use Rattle.facts.specs.Parts.{above, below}
use Rattle.facts.specs.Facts.{Facts, openings}
use Rattle.facts.specs.Certificate.{Claim, gain, loss, weighed_at, rise, fall, potential, start_holds, arrow_holds, holds_at, peak_to, peak}
use Rattle.ages.specs.Plan.{Plan, arrows_in}
use Rattle.plan.specs.Listed.{nodes_in, blocks_in, entry_in, node_in, plan_in, Drawn}
use Rattle.plan.proofs.Holding.{arrows-held}
use Rattle.tables.specs.Lent.{Lent, table_of}
use Rattle.costs.specs.Costs.{kept_charge}
use Rattle.totals.specs.Inner.{costs_of}
use Rattle.totals.specs.Charged.{keeps_of, charges_at, charged_blocks}
use Rattle.totals.proofs.Summing.{visit-is}
use Rattle.totals.proofs.Charged.{charged-is}
use Rattle.certificate.specs.declared.visiting.Price.{Price}
use Rattle.certificate.specs.Bound.{Question, side_rate, claim_of, loads_of, side_bound, failing_at}
use Rattle.certificate.specs.Inner.{Lists, marked_by, plan_claim, higher_node, peak_by, top_by, loads_by, bound_by, price_asks}

-- ---- tests

every_of-same : (one other : ℕ → Bool) (xs : List ℕ) → ((t : ℕ) → Among t xs → one t ≡ other t) → every_of one xs ≡ every_of other xs
every_of-same one other [] same = refl
every_of-same one other (x ∷ xs) same =
    let here = same x (inl refl) in
    let rest = every_of-same one other xs (λ t i. same t (inr i)) in
    λ i. here i && rest i

not-leb : (a b : ℕ) → not (leb a b) ≡ ltb b a
not-leb a b = go (leb a b) refl
  where
    go : (t : Bool) → leb a b ≡ t → not t ≡ ltb b a
    go true e = sym (le-ltb b a (leb-true a b e))
    go false e = sym (lt-ltb b a (leb-false a b e))

-- Ceilings that are the same at each node charge for the same blocks.
pub charged-same : (plan classes one other : List ℕ) → ((n : ℕ) → n < nodes_in plan → get_or one n 0 ≡ get_or other n 0) → charged_blocks plan classes one ≡ charged_blocks plan classes other
charged-same plan classes one other same =
    sum-equal (blocks_in plan) (λ column. cond (any false (nodes_in plan) (charges_at plan classes one column)) 1 0) (λ column. cond (any false (nodes_in plan) (charges_at plan classes other column)) 1 0)
    (λ column h. ap (λ (t : Bool). cond t 1 0) (any_same (nodes_in plan) (charges_at plan classes one column) (charges_at plan classes other column) (λ n l. ap (λ (k : ℕ). ltb 0 k && keeps_of column (node_in plan n).what (get_or classes (most_touches * n) 0) (get_or classes (most_touches * n + 1) 0)) (same n l))))

-- ---- the claim

module _ (columns plan : List ℕ) (drawn : Drawn columns plan) (lent : Lent) (classes before : List ℕ)
    (is : classes ≡ written (table_classes (plan_in columns plan) (table_of (plan_in columns plan) lent)) before)
    (price : Price) (facts : Facts) (multipliers potentials : List ℤ) where
  abbrev held : Plan
  held = plan_in columns plan

  abbrev question : Question
  question = price_asks price facts multipliers potentials

  abbrev lists : Lists
  lists = record { classes = classes; coefficients = facts.coefficients; multipliers = multipliers; potentials = potentials }

  abbrev by_lists : Claim
  by_lists = plan_claim price lists plan lent.marks

  abbrev by_table : Claim
  by_table = claim_of held lent question

  cost-is : (n : ℕ) → n < nodes_in plan → by_lists.course.cost n ≡ by_table.course.cost n
  cost-is n h = visit-is columns plan lent classes before is (side_rate price.side (costs_of price.tariff)) n h

  rise-is : (n : ℕ) → n < nodes_in plan → rise by_lists n ≡ rise by_table n
  rise-is n h = ap (λ (k : ℕ). gain price.side (price.denominator * k) + weighed_at by_table below n) (cost-is n h)

  fall-is : (n : ℕ) → n < nodes_in plan → fall by_lists n ≡ fall by_table n
  fall-is n h = ap (λ (k : ℕ). loss price.side (price.denominator * k) + weighed_at by_table above n) (cost-is n h)

  start_is : (n : ℕ) → n < nodes_in plan → start_holds by_lists n ≡ start_holds by_table n
  start_is n h = λ i. leb (rise-is n h i + below (potential by_table n)) (above (potential by_table n) + fall-is n h i)

  arrow-is : (n t : ℕ) → t < nodes_in plan → arrow_holds by_lists n t ≡ arrow_holds by_table n t
  arrow-is n t h =
      λ i. leb (above (potential by_table n) + rise-is t h i + below (potential by_table t)) (above (potential by_table t) + below (potential by_table n) + fall-is t h i)

  targets-are : (n : ℕ) → n < nodes_in plan → every_of (arrow_holds by_lists n) (arrows_of (node_in plan n).targets) ≡ every_of (arrow_holds by_table n) (arrows_in held n)
  targets-are n h =
      every_of-same (arrow_holds by_lists n) (arrow_holds by_table n) (arrows_of (node_in plan n).targets)
      (λ t among. arrow-is n t (drawn.sound.arrows-in n t h (subst (Among t) (sym (arrows-held columns plan n h)) among)))
      ∙ ap (every_of (arrow_holds by_table n)) (sym (arrows-held columns plan n h))

  holds-is : (n : ℕ) → n < nodes_in plan → holds_at by_lists n ≡ holds_at by_table n
  holds-is n h = λ i. (not (eqb n (entry_in plan)) || start_is n h i) && (not (marked_by lent.marks n) || targets-are n h i)

  pub failing-is : first (nodes_in plan) (λ n. not (holds_at by_lists n)) ≡ failing_at held lent question
  failing-is = first-same (nodes_in plan) (λ n. not (holds_at by_lists n)) (λ n. not (holds_at by_table n)) (λ n h. ap not (holds-is n h))

  -- ---- the bound

  peak-to : (n : ℕ) → peak_by lent.marks potentials (entry_in plan) n ≡ peak_to by_table n
  peak-to zero = refl
  peak-to (suc n) =
      ap (higher_node lent.marks potentials n) (peak-to n)
      ∙ ap (λ (t : Bool). cond (marked_by lent.marks n && t) n (peak_to by_table n))
      (sym (not-leb (above (potential by_table n) + below (potential by_table (peak_to by_table n))) (above (potential by_table (peak_to by_table n)) + below (potential by_table n))))

  pub peak-is : peak_by lent.marks potentials (entry_in plan) (nodes_in plan) ≡ peak by_table
  peak-is = peak-to (nodes_in plan)

  pub loads-are : loads_by price.tariff plan classes facts ≡ loads_of held lent question
  unfolding kept_charge
  loads-are = ap (λ (k : ℕ). (price.tariff.miss - price.tariff.hit) * k) (charged-is columns plan lent classes before is (openings (nodes_in plan) facts))

  pub bound-is : (side : Side) → bound_by side price.denominator (top_by multipliers facts.limits potentials (peak by_table)) (loads_of held lent question) ≡ side_bound side held lent question
  bound-is High = refl
  bound-is Low = refl
