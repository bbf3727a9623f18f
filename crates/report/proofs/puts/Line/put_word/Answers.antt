use mathlib.Core.List.{List}
use mathlib.Core.Path.{refl, ap, ◌∙◌}
use Prim.Native.Nat.{ℕ}
use native.Mathlib.Omega.{arith}
use lib.ListN.{length}
use lib.Seq.{length-sets}
use Rattle.report.proofs.Putting.{word-copied}
use Rattle.report.proofs.puts.Line.put_word.Goals as goal

pub returns : goal.returns
returns c =
    let line = c.args.self.now in
    let word = c.args.word.now in
    let laid = word-copied line.text.now word _ line.size c.requires c.copy_from_slice.ensures.after in
    record {
      laid = laid;
      behind = refl;
      within = omega arith;
      same = refl;
      long = ap (λ (l : List ℕ). length l) laid ∙ length-sets line.text.now line.size word;
    }
