-- Rule 16.1: the table of one block says of each node what walks to it have touched, and nothing else.
use Prim.Native.Nat.{ℕ, ◌≤◌, ◌<◌}
use Rattle.chart.specs.Geometry.{most_blocks}
use Rattle.ages.specs.Plan.{Plan, Sound}
use Rattle.kept.specs.Since.{untouched}
use Rattle.kept.specs.Walked.{walk_touches, FromWalks, Walked}
use Rattle.kept.proofs.Settled.{kept-reached}
use Rattle.kept.proofs.Turned.{turned-touched, touched-walked, turned-since, since-walked}
use Rattle.kept.proofs.Walks.{from-walks}

module _ (plan : Plan) (sound : Sound plan) (few : plan.blocks ≤ most_blocks) (block : ℕ) (inside : block < plan.blocks) (n : ℕ) where
  abbrev walks : FromWalks plan block n
  walks = from-walks plan sound few block inside n

  pub kept-walked : Walked plan block n
  kept-walked =
      record {
        marked = (kept-reached plan sound few block inside n).0;
        walked = (kept-reached plan sound few block inside n).1;
        touched = λ e. let w = walks.touched-by e in (w.0, touched-walked plan block (walk_touches plan n w.0) w.1);
        touches = λ w h. (walks.no_less w).touched (turned-touched plan block (walk_touches plan n w) (untouched plan.blocks) h);
        inside = λ other h e.
            let w = walks.others_by other h e in
            let s = since-walked plan block other h (walk_touches plan n w.0) w.1 in
            (s.0, (w.0, s.1));
        enters = λ other h same w s.
            (walks.no_less w).others other h (turned-since plan block other h (walk_touches plan n w) (untouched plan.blocks) same s);
      }
