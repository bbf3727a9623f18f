use borrow.Author.Rules.{rules}
use mathlib.Core.Bool.{◌&&◌}
use mathlib.Core.Path.{refl}
use lib.Dec.{leb}
use Rattle.cache.specs.Ages.{age_of}
use Rattle.checker.proofs.Testing.{ages-turn}
use Rattle.checker.proofs.allowing.row_allows.Goals as goal

pub loop-k-preserved : goal.loop-k-preserved
loop-k-preserved c = let a = c.args in
    let l = c.loop-k in
    (search rules, ages-turn a.blocks a.table.must.now a.table.may.now a.t l.k (search rules) (λ column x y. leb (age_of a.row.must column) x && leb y (age_of a.row.may column)) l.covers _ l.invariant.1 refl)
