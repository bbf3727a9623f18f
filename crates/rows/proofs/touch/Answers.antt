use Prim.Native.Nat.{ℕ}
use mathlib.Core.Bool.{cond}
use mathlib.Core.List.{List}
use mathlib.Core.Path.{◌≡◌, ap, ◌∙◌}
use native.Mathlib.Omega.{arith}
use lib.Dec.{eqb}
use Rattle.lists.proofs.Loops.{patch-turn0, patch-in0}
use Rattle.cache.specs.Ages.{age_of, must_after, may_after}
use Rattle.rows.proofs.touch.Invariants.{must_touched, may_touched}
use Rattle.rows.proofs.touch.Goals as goal

pub loop-j-preserved : goal.loop-j-preserved
unfolding must_after may_after
loop-j-preserved c =
    let a = c.args in
    let l = c.loop-j in
    let own = c.byte_of-touched_place.ensures in
    let here = c.byte_of.ensures in
    let must = c.touched.ensures ∙ (λ i. cond (eqb (here i) (own i)) 0 (c.must_age.ensures i)) in
    let may = c.touched-in-loop-j.ensures ∙ (λ i. cond (eqb (here i) (own i)) 0 (c.may_age.ensures i)) in
    record {
      musts = patch-turn0 a.musts.now l.j (must_touched a.columns.now a.m a.base a.must.now) _ _ l.invariant.musts must;
      mays = patch-turn0 a.mays.now l.j (may_touched a.columns.now a.m a.base a.may.now) _ _ l.invariant.mays may;
    }

pub returns : goal.returns
returns c =
    let a = c.args in
    let l = c.loop-j in
    let end : l.j ≡ a.width = omega arith in
    record {
      must = λ j inside. ap (λ (ages : List ℕ). age_of ages j) l.invariant.musts
          ∙ patch-in0 a.musts.now l.j (must_touched a.columns.now a.m a.base a.must.now) j (omega arith) (omega arith);
      may = λ j inside. ap (λ (ages : List ℕ). age_of ages j) l.invariant.mays
          ∙ patch-in0 a.mays.now l.j (may_touched a.columns.now a.m a.base a.may.now) j (omega arith) (omega arith);
    }
