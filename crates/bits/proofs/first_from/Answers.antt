use mathlib.Core.Path.{sym, subst}
use Prim.Native.Nat.{◌+◌, ◌*◌, ◌/◌}
use native.Mathlib.Omega.{arith}
use Rattle.bits.specs.Bits.{FirstFrom}
use Rattle.bits.proofs.Members.{rest-here, rest-none, rest-first, first-after}
use Rattle.bits.proofs.first_from.Goals as goal

pub returns-then-rest-eq1 : goal.returns-then-rest-eq1
returns-then-rest-eq1 c = record { within = omega arith; none_before = λ m l h. absurd (omega arith); is_in_set = λ h. (omega arith, rest-here c.args.set.now c.args.from c.if-rest-eq1.true) }

pub returns-then-rest-ne0 : goal.returns-then-rest-ne0
returns-then-rest-ne0 c = subst (FirstFrom c.args.set.now c.args.from c.args.count) (sym c.min.ensures)
    (rest-first c.args.set.now c.args.from c.args.count (omega (arith, c.type_inv.set (c.args.from / 64))) (λ e. c.if-rest-ne0.true e) (omega arith))

pub returns : goal.returns
returns c = first-after c.args.set.now c.args.from (64 * (c.args.from / 64 + 1)) c.args.count c.first_in_words.result (omega arith)
    (rest-none c.args.set.now c.args.from c.args.count (omega (arith, c.type_inv.set (c.args.from / 64))) (omega (arith, c.if-rest-ne0.false))) c.first_in_words.ensures
