use borrow.Author.Rules.{rules}
use mathlib.Core.Bool.{◌&&◌}
use mathlib.Core.Path.{refl}
use lib.Dec.{leb}
use Rattle.rows.specs.Rows.{columns_by}
use Rattle.checker.proofs.Testing.{ages-turn}
use Rattle.checker.proofs.fitting.row_fits.Goals as goal

pub loop-k-preserved : goal.loop-k-preserved
loop-k-preserved c = let a = c.args in
    let l = c.loop-k in
    (search rules, ages-turn a.blocks a.must.now a.may.now a.n l.k (search rules) (λ column x y. leb x ((columns_by a.columns.now a.blocks).must_limit column) && leb y ((columns_by a.columns.now a.blocks).may_limit column)) l.fit _ l.invariant.1 refl)
