use borrow.Author.Rules.{rules}
use Prim.Native.Nat.{ℕ, ◌-◌, ◌+◌}
use mathlib.Core.List.{List}
use mathlib.Core.Path.{◌≡◌, refl, sym, ap, subst, ◌∙◌}
use native.Mathlib.Omega.{arith}
use lib.ListN.{replicate}
use Rattle.bits.specs.Bits.{is_member, with_member}
use Rattle.flow.specs.Pass.{after_passes}
use Rattle.flow.specs.Working.{Working}
use Rattle.flow.proofs.Counting.{counting-begins, counting-goes, counting-settles, counting-spends}
use Rattle.ages.specs.Plan.{Plan, plan_flow}
use Rattle.plan.specs.AsPlan.{drawn_as}
use Rattle.tables.specs.Lent.{Lent, over}
use Rattle.tables.specs.Inner.{LentRun}
use Rattle.std.specs.Prelude.{Some}
use Rattle.flow.specs.Underway.{SettlesFrom}
use Rattle.settling.specs.Inner.{SettledIn}
use Rattle.settling.proofs.Runs.{passes-begin, passes-stand, passes-turn, passes-table, passes-work}
use Rattle.settling.proofs.settling.settle.Goals as goal

pub loop-made-init : goal.loop-made-init
unfolding after_passes
loop-made-init c = let held : Plan = drawn_as c.args.plan in
    let begun = subst (λ (due : List ℕ). Working (plan_flow held) (after_passes (plan_flow held) 0) (is_member due)) (sym (c.put.ensures ∙ ap (λ (n : ℕ). with_member n (replicate 16 0)) c.entry.ensures))
    (passes-begin held c.args.plan.drawn.sound 16 (omega (arith, c.args.plan.drawn.few_nodes))) in
    (search rules, (refl, (refl, (refl, (omega (arith, c.put.auto), (c.requires.begun_in, (begun, counting-begins (plan_flow held) c.args.allowance)))))))

pub pass-requires-clause-stands_in : goal.pass-requires-clause-stands_in
pass-requires-clause-stands_in c = let held : Plan = drawn_as c.args.plan in
    let lent : Lent = record { must = c.args.must.now; may = c.args.may.now; marks = c.args.marks.now } in
    let l = c.loop-made in
    passes-stand held lent (l.made - 1) _ _ l.invariant.1.1.1.1.1.0 l.invariant.1.1.1.1.1.1.0

pub returns-then-not-pass : goal.returns-then-not-pass
returns-then-not-pass c = let held : Plan = drawn_as c.args.plan in
    let lent : Lent = record { must = c.args.must.now; may = c.args.may.now; marks = c.args.marks.now } in
    let l = c.loop-made in
    let here : l.made - 1 + 1 ≡ l.made = omega (arith, l.auto.made) in
    let turn = passes-turn held lent (l.made - 1) _ _ l.invariant.1.1.1.1.1.0 l.invariant.1.1.1.1.1.1.0 _ c.pass.ensures in
    subst (λ (n : ℕ). SettledIn held c.args.allowance lent (Some n) (record { must = c.pass.new.must; may = c.pass.new.may; marks = c.pass.new.marks })) here
    (record {
      answered = sym (counting-settles (plan_flow held) c.args.allowance (l.made - 1) (omega (arith, l.auto.made, c.loop-made-test.true)) l.invariant.1.1.1.1.1.1.1 (sym (ap (λ (r : LentRun). r.changed) turn) ∙ c.if-not-pass.true));
      table = passes-table held lent (l.made - 1) _ _ l.invariant.1.1.1.1.1.0 l.invariant.1.1.1.1.1.1.0 _ c.pass.ensures;
    })

pub loop-made-preserved : goal.loop-made-preserved
loop-made-preserved c = let held : Plan = drawn_as c.args.plan in
    let lent : Lent = record { must = c.args.must.now; may = c.args.may.now; marks = c.args.marks.now } in
    let l = c.loop-made in
    let here : l.made - 1 + 1 ≡ l.made + 1 - 1 = omega (arith, l.auto.made) in
    let turn = passes-turn held lent (l.made - 1) _ _ l.invariant.1.1.1.1.1.0 l.invariant.1.1.1.1.1.1.0 _ c.pass.ensures in (
      search rules,
      (
        search rules,
        (
          search rules,
          (
            search rules,
            (
              omega (arith, c.pass.auto),
              (
                passes-table held lent (l.made - 1) _ _ l.invariant.1.1.1.1.1.0 l.invariant.1.1.1.1.1.1.0 _ c.pass.ensures ∙ ap (λ (n : ℕ). over held (after_passes (plan_flow held) n) lent) here,
                (
                  subst (λ (n : ℕ). Working (plan_flow held) (after_passes (plan_flow held) n) (is_member c.pass.new.due)) here (passes-work held lent (l.made - 1) _ _ l.invariant.1.1.1.1.1.0 l.invariant.1.1.1.1.1.1.0 _ c.pass.ensures),
                  subst (SettlesFrom (plan_flow held) c.args.allowance) here (counting-goes (plan_flow held) c.args.allowance (l.made - 1) (omega (arith, l.auto.made)) l.invariant.1.1.1.1.1.1.1 (sym (ap (λ (r : LentRun). r.changed) turn) ∙ c.if-not-pass.false)),
                ),
              ),
            ),
          ),
        ),
      ),
    )

pub returns : goal.returns
returns c = let held : Plan = drawn_as c.args.plan in
    let lent : Lent = record { must = c.args.must.now; may = c.args.may.now; marks = c.args.marks.now } in
    let l = c.loop-made in
    let all : l.made - 1 ≡ c.args.allowance = omega arith in
    record {
      answered = sym (counting-spends (plan_flow held) c.args.allowance (l.made - 1) (omega arith) l.invariant.1.1.1.1.1.1.1);
      table = l.invariant.1.1.1.1.1.0 ∙ ap (λ (n : ℕ). over held (after_passes (plan_flow held) n) lent) all;
    }

pub returns-else-not-pass : goal.returns-else-not-pass
returns-else-not-pass c = let held : Plan = drawn_as c.args.plan in
    let lent : Lent = record { must = c.args.must.now; may = c.args.may.now; marks = c.args.marks.now } in
    let l = c.loop-made in
    let last : l.made ≡ c.args.allowance = omega arith in
    let all : l.made - 1 + 1 ≡ c.args.allowance = omega (arith, l.auto.made, last) in
    let turn = passes-turn held lent (l.made - 1) _ _ l.invariant.1.1.1.1.1.0 l.invariant.1.1.1.1.1.1.0 _ c.pass.ensures in
    record {
      answered = sym (counting-spends (plan_flow held) c.args.allowance (l.made - 1 + 1) (omega (arith, all)) (counting-goes (plan_flow held) c.args.allowance (l.made - 1) (omega (arith, all)) l.invariant.1.1.1.1.1.1.1 (sym (ap (λ (r : LentRun). r.changed) turn) ∙ c.if-not-pass.false)));
      table = passes-table held lent (l.made - 1) _ _ l.invariant.1.1.1.1.1.0 l.invariant.1.1.1.1.1.1.0 _ c.pass.ensures ∙ ap (λ (n : ℕ). over held (after_passes (plan_flow held) n) lent) all;
    }
