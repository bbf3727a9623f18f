use mathlib.Core.Path.{sym, ap, subst, ◌∙◌}
use native.Mathlib.Omega.{arith}
use lib.ListN.{get_or}
use Rattle.chart.specs.Geometry.{most_nodes}
use Rattle.chart.specs.Record.{arrows_of, Leads}
use Rattle.plan.specs.Listed.{blocks_in, node_in}
use Rattle.plan.proofs.Holding.{node-leads, record-in}
use Rattle.keeping.specs.Words.{TouchableBy, word_after}
use Rattle.keeping.specs.Columns.{group_at}
use Rattle.keeping.specs.Work.{Work, work_at, sent_all, cleared, visited}
use Rattle.keeping.proofs.Chosen.{record-touchable}
use Rattle.keeping.proofs.putting.Work.visit.Goals as goal
use Rattle.chart.specs.declared.records.Node.{Node}
use Rattle.plan.specs.declared.ColumnTouches.{ColumnTouches}

pub returns-then-not-self-n : goal.returns-then-not-self-n
unfolding visited
returns-then-not-self-n c = rw c.if-not-self-n.true

pub step_word-out-requires : goal.step_word-out-requires
step_word-out-requires c =
    let a = c.args in
    let group = a.group.now in
    let drawn = c.requires.drawn_in in
    subst (λ (p : Node ColumnTouches). TouchableBy (group_at group) p.what) (sym c.node_in-node.ensures)
    (record-touchable group.columns.now group.chosen group.sets.now (blocks_in a.plan.now) c.requires.group_in drawn.few_blocks drawn.columns_long (node_in a.plan.now a.n).what (record-in group.columns.now a.plan.now drawn a.n c.requires.n_bound))

pub send_word-requires : goal.send_word-requires
send_word-requires c =
    let a = c.args in
    let drawn = c.requires.drawn_in in
    let leads = node-leads a.group.now.columns.now a.plan.now drawn a.n c.requires.n_bound in
    subst (λ (p : Node ColumnTouches). Leads most_nodes p.targets) (sym c.node_in-node.ensures)
    (record { first_in = λ h. omega (arith, leads.first_in h, drawn.few_nodes); second_in = λ h. omega (arith, leads.second_in h, drawn.few_nodes) })

pub returns : goal.returns
unfolding visited
returns c = let a = c.args in
    let node = c.node_in-node in
    let begun : Work = cleared a.n (work_at a.self.now a.span) in
    c.send_word.ensures
    ∙ (λ i. sent_all a.n (c.step_word-out.ensures i) (arrows_of node.result.targets) begun)
    ∙ ap (λ (p : Node ColumnTouches). sent_all a.n (word_after (group_at a.group.now) p.what (get_or a.self.now.words a.n 0)) (arrows_of p.targets) begun) node.ensures
    ∙ (rw c.if-not-self-n.false)
