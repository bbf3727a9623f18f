use borrow.Author.Rules.{rules}
use borrow.Author.Tests.{le-ltb}
use Prim.Native.Nat.{ℕ}
use mathlib.Core.Path.{ap, ◌∙◌}
use native.Mathlib.Omega.{arith}
use lib.Bits.{bit_or}
use lib.ListN.{get_or, length-set, get_or-replicate}
use Rattle.lists.proofs.Shifts.{one_shifted}
use Rattle.bits.specs.Bits.{is_set}
use Rattle.bits.proofs.Bits.{set-none}
use Rattle.keeping.specs.Choosing.{most_keys}
use Rattle.keeping.proofs.Chosen.{sets-turn}
use Rattle.keeping.proofs.choosing.list_sets.Goals as goal

pub loop-m-init : goal.loop-m-init
loop-m-init c = (omega arith, (search rules, λ key column h. ap (λ (w : ℕ). is_set w column) (get_or-replicate most_keys key 0 0 h) ∙ set-none column ∙ (rw (le-ltb column 0 (omega arith)))))

pub loop-m-preserved : goal.loop-m-preserved
loop-m-preserved c = let a = c.args in
    let l = c.loop-m in
    let bit = one_shifted 64 l.m (omega (arith, c.requires.0, c.loop-m-test.true)) in (
      search rules,
      (
        length-set l.sets c.from-key.result _ ∙ l.invariant.1.0,
        sets-turn a.columns.now l.sets l.m c.from-key.result _ c.from-key.ensures (omega (arith, c.from-key.ensures, c.type_inv.columns l.m, l.invariant.1.0)) (ap (bit_or (get_or l.sets c.from-key.result 0)) bit) l.invariant.1.1,
      ),
    )
