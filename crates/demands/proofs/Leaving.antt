-- What the analysis leaves and the report shows, at every node, column and place: by computing, but for how long a table's classes are.
use Prim.Native.Nat.{ℕ}
use mathlib.Core.List.{◌++◌}
use mathlib.Core.Path.{refl, ap}
use lib.ListN.{drop}
use Rattle.classes.specs.Class.{table_classes}
use Rattle.classes.proofs.Places.{classes_long}
use Rattle.demands.specs.Leaving.{Leaving}

pub leaving : Leaving
leaving =
    record {
      blocks_left = λ plan blocks table lent. refl;
      must_left = λ plan blocks table lent. refl;
      may_left = λ plan blocks table lent. refl;
      marks_left = λ plan blocks table lent. refl;
      classes-left = λ plan blocks table lent. ap (λ (used : ℕ). table_classes plan table ++ drop used lent.classes) (classes_long plan table);
      blocks-listed = λ plan blocks lent. refl;
      must_cleared = λ plan blocks lent. refl;
      may_cleared = λ plan blocks lent. refl;
      marks_cleared = λ plan blocks lent. refl;
      classes_cleared = λ plan blocks lent. refl;
      column_blocks = λ chart column. refl;
      report_shows = λ bytes left. refl;
    }
