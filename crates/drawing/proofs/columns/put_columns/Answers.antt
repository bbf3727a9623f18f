use native.Mathlib.Omega.{arith}
use Rattle.lists.proofs.Firsts.{first-within}
use Rattle.drawing.specs.Columns.{alike}
use Rattle.drawing.proofs.columns.put_columns.Goals as goal

pub overflow_cast-columns : goal.overflow_cast-columns
overflow_cast-columns c = let a = c.args in
    let k = c.loop-k.k in
    omega (arith, c.first_alike.ensures, first-within k (alike a.sets.now k))
