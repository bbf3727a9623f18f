use borrow.Author.Rules.{rules}
use Prim.Native.Nat.{ℕ, ◌+◌, ◌*◌, ◌/◌, ◌%◌}
use mathlib.Core.List.{List}
use mathlib.Core.Path.{◌≡◌, ap, ◌∙◌}
use native.Mathlib.Omega.{arith}
use lib.ListN.{get_or, set}
use lib.Seq.{get_or-set_other}
use Rattle.lists.specs.Loops.{patch}
use Rattle.lists.proofs.Loops.{patch-turn0, patch-ahead}
use Rattle.chart.specs.Geometry.{most_touches}
use Rattle.plan.specs.Listed.{node_in}
use Rattle.keeping.specs.Words.{Group}
use Rattle.keeping.specs.Columns.{group_at}
use Rattle.keeping.specs.Telling.{told_of, told_at}
use Rattle.keeping.proofs.words.Group.tell_chosen.Goals as goal

pub loop-n-preserved : goal.loop-n-preserved
loop-n-preserved c = let a = c.args in
    let l = c.loop-n in
    let group : Group = group_at a.self.now in
    let f : ℕ → ℕ = told_at group a.plan.now a.words.now a.stays.now in
    let word = get_or a.words.now l.n 0 in
    let one = c.first_told in
    let two = c.second_told in
    let node = c.node_in-node in
    let which : l.n ≡ most_touches * l.n / most_touches = omega arith in
    let touch : 0 ≡ most_touches * l.n % most_touches = omega arith in
    let which2 : l.n ≡ (most_touches * l.n + 1) / most_touches = omega arith in
    let touch2 : 1 ≡ (most_touches * l.n + 1) % most_touches = omega arith in
    let old : get_or l.stays (most_touches * l.n) 0 ≡ get_or a.stays.now (most_touches * l.n) 0 = ap (λ (m : List ℕ). get_or m (most_touches * l.n) 0) l.invariant.1.1 ∙ patch-ahead a.stays.now 0 (most_touches * l.n) f (most_touches * l.n) (omega arith) in
    let old2 : get_or l.stays (most_touches * l.n + 1) 0 ≡ get_or a.stays.now (most_touches * l.n + 1) 0 = ap (λ (m : List ℕ). get_or m (most_touches * l.n + 1) 0) l.invariant.1.1 ∙ patch-ahead a.stays.now 0 (most_touches * l.n) f (most_touches * l.n + 1) (omega arith) in
    let is : one.result ≡ f (most_touches * l.n) = one.ensures ∙ (λ i. told_of group (node.ensures i).what word 0 (old i)) ∙ (λ i. told_of group (node_in a.plan.now (which i)).what (get_or a.words.now (which i) 0) (touch i) (get_or a.stays.now (most_touches * l.n) 0)) in
    let apart : get_or (set l.stays (most_touches * l.n) one.result) (most_touches * l.n + 1) 0 ≡ get_or l.stays (most_touches * l.n + 1) 0 = get_or-set_other l.stays (most_touches * l.n) (most_touches * l.n + 1) one.result 0 (λ e. omega arith) in
    let is2 : two.result ≡ f (most_touches * l.n + 1) = two.ensures ∙ (λ i. told_of group (node.ensures i).what word 1 ((apart ∙ old2) i)) ∙ (λ i. told_of group (node_in a.plan.now (which2 i)).what (get_or a.words.now (which2 i) 0) (touch2 i) (get_or a.stays.now (most_touches * l.n + 1) 0)) in
    let once = patch-turn0 a.stays.now (most_touches * l.n) f l.stays one.result l.invariant.1.1 is in
    let twice = patch-turn0 a.stays.now (most_touches * l.n + 1) f _ two.result once is2 in
    let places : most_touches * l.n + 1 + 1 ≡ most_touches * (l.n + 1) = omega arith in
    (search rules, (search rules, twice ∙ ap (λ (k : ℕ). patch a.stays.now 0 k f) places))
