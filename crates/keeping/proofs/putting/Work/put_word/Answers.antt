use mathlib.Core.Bool.{true}
use lib.Bits.{bit_or}
use lib.ListN.{get_or, set}
use Rattle.keeping.specs.Work.{put_word}
use Rattle.keeping.proofs.putting.Work.put_word.Goals as goal

pub returns-then-new-old : goal.returns-then-new-old
unfolding put_word
returns-then-new-old c = let a = c.args in
    let work = a.self.now in
    rw c.if-new-old.true (λ i. record { marks = set work.marks a.t 1; words = set work.words a.t (bit_or (get_or work.words a.t 0) a.out); due = set work.due a.t true; span = c.span_with.ensures i })

pub returns : goal.returns
unfolding put_word
returns c = rw c.if-new-old.false
