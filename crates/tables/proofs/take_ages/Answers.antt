use Prim.Native.Nat.{ℕ}
use mathlib.Core.List.{List}
use mathlib.Core.Path.{ap, ◌∙◌}
use native.Mathlib.Omega.{arith}
use Rattle.lists.proofs.Loops.{patch-in0}
use Rattle.cache.specs.Ages.{age_of}
use Rattle.rows.specs.Rows.{age_from}
use Rattle.tables.proofs.take_ages.Goals as goal

pub returns : goal.returns
returns c j inside = let a = c.args in
    let l = c.loop-j in
    ap (λ (taken : List ℕ). age_of taken j) l.invariant.1.1
    ∙ patch-in0 a.taken.now l.j (age_from a.base a.ages.now) j (omega arith) (omega arith)
