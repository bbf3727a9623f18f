-- What holds of fields that are allowed: the limits of the shape, and what a record keeps, where its arrows lead and its bytes end.
use Rattle.std.specs.Prelude.{None, Some}
use mathlib.Core.Bool.{Bool, true, false, cond}
use mathlib.Core.List.{[], ◌∷◌}
use mathlib.Core.Logic.{inl, inr}
use mathlib.Core.Path.{◌≡◌, refl}
use Prim.Native.Nat.{ℕ, ◌^◌, ◌≤◌, ◌<◌}
use native.Mathlib.Omega.{arith}
use borrow.Author.Tests.{ltb-true, leb-true, eqb-false}
use lib.Dec.{ltb, leb, eqb}
use Rattle.lists.specs.Lists.{Among}
use Rattle.lists.proofs.Choice.{and-true}
use Rattle.chart.specs.declared.shape.Geometry.{Geometry}
use Rattle.chart.specs.declared.records.RecordFields.{RecordFields}
use Rattle.chart.specs.declared.records.Targets.{Targets}
use Rattle.chart.specs.Geometry.{most_set_bits, most_ways, between, shape_allowed}
use Rattle.chart.specs.Record.{last_byte, record_keeps, record_of, targets_of, arrows_of, Leads, Ends}
use Rattle.chart.specs.Refusing.{RecordKeeps}
use Rattle.chart.proofs.Keeping.{tells-record}

pub between-both : (least most n : ℕ) → between least most n ≡ true → (least ≤ n) × (n ≤ most)
between-both least most n e =
    let both = and-true (leb least n) (leb n most) e in
    (leb-true least n both.0, leb-true n most both.1)

-- ---- the shape

module _ (geometry : Geometry) (allowed : shape_allowed geometry ≡ true) where
  sets-and-ways : (between 0 most_set_bits geometry.sets ≡ true) × (between 1 most_ways geometry.ways ≡ true)
  unfolding shape_allowed
  sets-and-ways =
      and-true (between 0 most_set_bits geometry.sets) (between 1 most_ways geometry.ways) (and-true (between 2 8 geometry.line) _ allowed).1

  pub line-bounds : (2 ≤ geometry.line) × (geometry.line ≤ 8)
  unfolding shape_allowed
  line-bounds = between-both 2 8 geometry.line (and-true (between 2 8 geometry.line) _ allowed).0

  pub sets-bound : geometry.sets ≤ most_set_bits
  sets-bound = (between-both 0 most_set_bits geometry.sets sets-and-ways.0).1

  pub ways-bounds : (1 ≤ geometry.ways) × (geometry.ways ≤ most_ways)
  ways-bounds = between-both 1 most_ways geometry.ways sets-and-ways.1

-- ---- what a record keeps: its arrows and its bytes

module _ (nodes : ℕ) (fields : RecordFields) (kept : record_keeps nodes fields ≡ true) where
  keeps : RecordKeeps nodes fields
  keeps = (tells-record nodes fields).0 kept

  pub keeps-leads : Leads nodes (targets_of fields)
  keeps-leads = record { first_in = λ h. keeps.first_used (omega arith); second_in = λ h. keeps.second_used (omega arith) }

  pub keeps-sized : fields.size ≤ 2
  keeps-sized = keeps.sizes

  pub keeps-ends : Ends (record_of fields)
  unfolding record_keeps record_of
  keeps-ends = go (eqb fields.kind 0)
    where
      go : (t : Bool) → Ends (cond t None (Some (record { write = eqb fields.kind 2; address = fields.address; last = last_byte fields })))
      go true = tt
      go false = ltb-true (last_byte fields) (2 ^ 32) (and-true (ltb (last_byte fields) (2 ^ 32)) _ (and-true (leb fields.kind 2) _ kept).1).0

pub leads-in : (nodes : ℕ) (targets : Targets) → Leads nodes targets → (t : ℕ) → Among t (arrows_of targets) → t < nodes
unfolding arrows_of
leads-in nodes targets leads t i = go (eqb targets.outs 0) refl (eqb targets.outs 1) refl i
  where
    go : (none : Bool) → eqb targets.outs 0 ≡ none → (one : Bool) → eqb targets.outs 1 ≡ one
        → Among t (cond none [] (cond one (targets.first ∷ []) (targets.first ∷ targets.second ∷ []))) → t < nodes
    go true d one e i = absurd i
    go false d true e (inl q) = let some = eqb-false targets.outs 0 d in omega (arith, leads.first_in (omega arith))
    go false d true e (inr i) = absurd i
    go false d false e (inl q) = let some = eqb-false targets.outs 0 d in omega (arith, leads.first_in (omega arith))
    go false d false e (inr (inl q)) =
        let some = eqb-false targets.outs 0 d in
        let more = eqb-false targets.outs 1 e in
        omega (arith, leads.second_in (omega arith))
    go false d false e (inr (inr i)) = absurd i
