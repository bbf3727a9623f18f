use Prim.Native.Nat.{ℕ}
use borrow.Author.Tests.{ne_eqb, not-false}
use mathlib.Core.Bool.{Bool, not, ◌||◌}
use mathlib.Core.Path.{◌≡◌, sym, ap, ◌∙◌}
use lib.Dec.{eqb}
use lib.ListN.{get_or}
use Rattle.lists.specs.Choice.{every_of}
use Rattle.chart.specs.Record.{arrows_of}
use Rattle.facts.specs.Certificate.{Claim, start_holds, arrow_holds}
use Rattle.plan.specs.Listed.{nodes_in, entry_in}
use Rattle.certificate.specs.Inner.{plain_claim}
use Rattle.certificate.specs.Given.{lists_in}
use Rattle.certificate.proofs.visiting.Claimed.node_holds.Goals as goal

pub returns : goal.returns
returns c = let claim : ℕ → Claim = plain_claim c.args.self.now.price (lists_in c.args.self.now) in
    let starts : (nodes : ℕ) → nodes ≡ nodes_in c.args.plan.now → (entry : ℕ) → entry ≡ entry_in c.args.plan.now → (held : Bool) → held ≡ (not (eqb c.args.n entry) || start_holds (claim nodes) c.args.n) → held ≡ (not (eqb c.args.n (entry_in c.args.plan.now)) || start_holds (claim (nodes_in c.args.plan.now)) c.args.n) = λ nodes n entry e held h. h ∙ (λ i. not (eqb c.args.n (e i)) || start_holds (claim (n i)) c.args.n) in
    rw (sym (starts c.args.self.now.nodes c.requires.nodes_value c.entry_in-entry.result c.entry_in-entry.ensures c.entry_holds-starts.result c.entry_holds-starts.ensures) ∙ not-false c.entry_holds-starts.result (ap not c.if-not-starts.false), ne_eqb (get_or c.args.marks.now c.args.n 0) 0 c.if-marks-n-eq0.false)
    (c.targets_hold.ensures ∙ (λ i. every_of (arrow_holds (claim (c.requires.nodes_value i)) c.args.n) (arrows_of (c.node_in-node.ensures i).targets)))
