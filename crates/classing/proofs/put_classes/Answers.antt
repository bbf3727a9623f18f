use borrow.Author.Rules.{rules}
use Prim.Native.Nat.{ℕ, ◌+◌, ◌*◌}
use mathlib.Core.Path.{◌≡◌, ap, sym, ◌∙◌}
use native.Mathlib.Omega.{arith}
use Rattle.lists.specs.Loops.{patch}
use Rattle.lists.proofs.Loops.{patch-turn0, patch-written}
use Rattle.chart.specs.Geometry.{most_touches}
use Rattle.plan.specs.Listed.{nodes_in}
use Rattle.tables.specs.AsTable.{lent_as}
use Rattle.classing.specs.declared.Classes.{Classes}
use Rattle.classes.proofs.Places.{first-place, second-place}
use Rattle.classing.proofs.put_classes.Invariants.{class_at, class_of}
use Rattle.classing.proofs.put_classes.Goals as goal

pub loop-n-preserved : goal.loop-n-preserved
loop-n-preserved c = let a = c.args in
    let l = c.loop-n in
    let f : ℕ → ℕ = class_at a.table.plan.columns.now a.table.plan.numbers.now (lent_as a.table.table) in
    let class : ℕ → ℕ → ℕ = class_of a.table.plan.columns.now a.table.plan.numbers.now (lent_as a.table.table) in
    let first : class l.n 0 ≡ f (most_touches * l.n) = λ i. class (sym (first-place l.n).0 i) (sym (first-place l.n).1 i) in
    let second : class l.n 1 ≡ f (most_touches * l.n + 1) = λ i. class (sym (second-place l.n).0 i) (sym (second-place l.n).1 i) in
    let both = c.classes_at-both in
    let once = patch-turn0 a.classes.now (most_touches * l.n) f l.classes both.result.first l.invariant.1.1 (ap (λ (b : Classes). b.first) both.ensures ∙ first) in
    let twice = patch-turn0 a.classes.now (most_touches * l.n + 1) f _ both.result.second once (ap (λ (b : Classes). b.second) both.ensures ∙ second) in
    let places : most_touches * l.n + 1 + 1 ≡ most_touches * (l.n + 1) = omega arith in
    (search rules, (search rules, twice ∙ ap (λ (k : ℕ). patch a.classes.now 0 k f) places))

pub returns : goal.returns
returns c = let a = c.args in
    let e : c.loop-n.n ≡ nodes_in a.table.plan.numbers.now = omega (arith, c.nodes-nodes.ensures) in
    (rw e at c.loop-n.invariant.1.1)
    ∙ patch-written a.classes.now (most_touches * nodes_in a.table.plan.numbers.now) (class_at a.table.plan.columns.now a.table.plan.numbers.now (lent_as a.table.table)) c.requires
