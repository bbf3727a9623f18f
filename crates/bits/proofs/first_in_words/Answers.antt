use mathlib.Core.Path.{sym, subst}
use Prim.Native.Nat.{◌*◌, ◌≤◌, ◌<◌}
use mathlib.Core.Logic.{⊎_elim}
use native.Mathlib.Omega.{arith}
use Rattle.lists.proofs.Orders.{below_or}
use Rattle.bits.specs.Bits.{FirstFrom}
use Rattle.bits.proofs.Members.{word_none, word_first, first-after}
use Rattle.bits.proofs.first_in_words.Goals as goal

pub returns-then-bits-ne0 : goal.returns-then-bits-ne0
returns-then-bits-ne0 c = let l = c.loop-word in
    first-after c.args.set.now (64 * c.args.first) (64 * l.word) c.args.count c.min.result (omega arith) l.invariant
    (subst (FirstFrom c.args.set.now (64 * l.word) c.args.count) (sym c.min.ensures)
    (word_first c.args.set.now l.word c.args.count (omega (arith, c.type_inv.set l.word)) (λ e. c.if-bits-ne0.true e) (omega arith)))

pub loop-word-preserved : goal.loop-word-preserved
loop-word-preserved c = let l = c.loop-word in
    λ m h k. ⊎_elim (λ (b : m < 64 * l.word). l.invariant m h b) (λ (b : 64 * l.word ≤ m). word_none c.args.set.now l.word c.args.count (omega (arith, c.type_inv.set l.word)) (omega (arith, c.if-bits-ne0.false)) m b k) (below_or m (64 * l.word))
