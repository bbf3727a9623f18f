-- In which order a pass takes the nodes, and what each sends: by computing, for a node that is not known.
use mathlib.Core.Path.{refl}
use Rattle.flow.specs.Flow.{Flow}
use Rattle.flow.specs.Pass.{put_all, take_with, take_node, take_nodes, pass}
use Rattle.demands.specs.Taking.{Taking}

pub taking : (F : Flow) → Taking F
unfolding put_all take_with take_node take_nodes pass
taking F =
    record {
      pass_takes = λ table. refl;
      takes_none = λ run. refl;
      takes_next = λ n run. refl;
      takes_held = λ n run. refl;
      sends_nothing = λ n run. refl;
      sends_once = λ n a run. refl;
      puts_none = λ a run. refl;
      puts_next = λ a t ts run. refl;
    }
