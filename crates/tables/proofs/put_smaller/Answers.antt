use borrow.Author.Rules.{rules}
use Prim.Native.Nat.{min}
use mathlib.Core.Path.{refl}
use Rattle.cache.specs.Ages.{age_of}
use Rattle.layout.proofs.Meeting.{joined-turn}
use Rattle.tables.specs.Inner.{falls}
use Rattle.tables.proofs.put_smaller.Goals as goal

pub loop-j-preserved : goal.loop-j-preserved
loop-j-preserved c = let a = c.args in
    let l = c.loop-j in
    (search rules, (search rules, joined-turn min falls a.base l.j (age_of a.ages.now) a.changed a.buffer.now _ _ _ _ l.invariant.1.1 c.min.ensures refl))
