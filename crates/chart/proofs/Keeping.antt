-- The test of a record tells what a record keeps.
use mathlib.Core.Bool.{Bool, true, false}
use mathlib.Core.Path.{◌≡◌, refl}
use Prim.Native.Nat.{ℕ, ◌^◌, ◌≤◌, ◌<◌}
use native.Mathlib.Omega.{arith}
use borrow.Author.Tests.{ltb-true, ltb-false}
use lib.Dec.{ltb, eqb}
use Rattle.lists.specs.Telling.{Tells}
use Rattle.lists.proofs.Telling.{tells-ltb, tells-leb, tells-eqb, tells-not, tells-and, tells-same, tells-if}
use Rattle.chart.specs.declared.records.RecordFields.{RecordFields}
use Rattle.chart.specs.Record.{arrow_keeps, last_byte, record_keeps}
use Rattle.chart.specs.Refusing.{RecordKeeps}
use Rattle.chart.proofs.Sizes.{last_one, last-two, last-four, size-cases}

-- An arrow's rule: below N where it is used, else 0.
tells-arrow : (nodes least outs target : ℕ) → Tells (arrow_keeps nodes (ltb least outs) target) ((least < outs → target < nodes) × (outs ≤ least → target ≡ 0))
tells-arrow nodes least outs target = go (ltb least outs) refl
  where
    go : (t : Bool) → ltb least outs ≡ t → Tells (arrow_keeps nodes t target) ((least < outs → target < nodes) × (outs ≤ least → target ≡ 0))
    go true e =
        let used = ltb-true least outs e in
        tells-same (ltb target nodes) (target < nodes) _ (λ h. ((λ _. h), λ k. absurd (omega arith))) (λ h. h.0 used) (tells-ltb target nodes)
    go false e =
        let unused = ltb-false least outs e in
        tells-same (eqb target 0) (target ≡ 0) _ (λ h. ((λ k. absurd (omega arith)), λ _. h)) (λ h. h.1 unused) (tells-eqb target 0)

pub tells-record : (nodes : ℕ) (fields : RecordFields) → Tells (record_keeps nodes fields) (RecordKeeps nodes fields)
unfolding record_keeps
tells-record nodes fields =
    tells-same _ _ (RecordKeeps nodes fields)
    (λ h. record {
      kinds = h.0;
      one_byte = λ e. omega (arith, h.1.0, last_one fields e);
      two_bytes = λ e. omega (arith, h.1.0, last-two fields e);
      four_bytes = λ e. omega (arith, h.1.0, last-four fields (λ d. omega arith) (λ d. omega arith));
      steps = h.1.1.0;
      arrows = h.1.1.1.0;
      first_used = λ k. h.1.1.1.1.0.0 (omega arith);
      first_unused = λ k. h.1.1.1.1.0.1 (omega arith);
      second_used = λ k. h.1.1.1.1.1.0.0 (omega arith);
      second_unused = λ k. h.1.1.1.1.1.0.1 (omega arith);
      no_twins = λ k e. h.1.1.1.1.1.1.0 (omega arith, e);
      sizes = h.1.1.1.1.1.1.1;
    })
    (λ k. (
      k.kinds,
      (
        ends k,
        (
          k.steps,
          (
            k.arrows,
            (
              ((λ h. k.first_used (omega arith)), λ h. k.first_unused (omega arith)),
              (
                ((λ h. k.second_used (omega arith)), λ h. k.second_unused (omega arith)),
                ((λ h. k.no_twins (omega (arith, h.0)) h.1), k.sizes),
              ),
            ),
          ),
        ),
      ),
    ))
    (tells-and _ _ _ _ (tells-leb fields.kind 2)
    (tells-and _ _ _ _ (tells-ltb (last_byte fields) (2 ^ 32))
    (tells-and _ _ _ _ (tells-if _ _ _ _ (tells-eqb fields.kind 0) (tells-and _ _ _ _ (tells-eqb fields.address 0) (tells-eqb fields.size 0)))
    (tells-and _ _ _ _ (tells-leb fields.outs 2)
    (tells-and _ _ _ _ (tells-arrow nodes 0 fields.outs fields.first)
    (tells-and _ _ _ _ (tells-arrow nodes 1 fields.outs fields.second)
    (tells-and _ _ _ _ (tells-not _ _ (tells-and _ _ _ _ (tells-ltb 1 fields.outs) (tells-eqb fields.first fields.second)))
    (tells-leb fields.size 2))))))))
  where
    ends : RecordKeeps nodes fields → last_byte fields < 2 ^ 32
    ends k = size-cases fields (last_byte fields < 2 ^ 32)
        (λ e. omega (arith, last_one fields e, k.one_byte e))
        (λ e. omega (arith, last-two fields e, k.two_bytes e))
        (λ d e. omega (arith, last-four fields d e, k.four_bytes (omega (arith, k.sizes))))
