-- What is held of a block by its flags, and the table that is lent: by computing, column by column and node by node.
use mathlib.Core.Path.{refl, ap}
use Rattle.lists.proofs.Listed.{length-list_of, get_or-list_of}
use Rattle.kept.specs.Since.{in_after, untouched, touch_since, meet_since}
use Rattle.kept.specs.Kept.{since_of}
use Rattle.tables.proofs.Laid.{table_of-at}
use Rattle.demands.specs.Sets.{Sets}

pub sets : Sets
unfolding in_after untouched touch_since meet_since
sets =
    record {
      is-in = λ set column. refl;
      start_long = λ count. length-list_of count _;
      start_untouched = λ count. refl;
      start_empty = λ count column h. get_or-list_of count _ _ column h;
      after_long = λ columns block m since. length-list_of columns.count _;
      after_touched = λ columns block m since. refl;
      after_in = λ columns block m since column h. get_or-list_of columns.count _ _ column h;
      met_long = λ count a b. length-list_of count _;
      met_touched = λ count a b. refl;
      met_in = λ count a b column h. get_or-list_of count _ _ column h;
      nowhere = λ plan column n e. ap (since_of plan.blocks) e;
      somewhere = λ plan column n since e. ap (since_of plan.blocks) e;
      lent-cell = λ plan lent n h. table_of-at plan lent n h;
    }
