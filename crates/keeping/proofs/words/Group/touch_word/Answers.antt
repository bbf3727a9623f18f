use borrow.Author.Tests.{eq-eqb, ne_eqb}
use Prim.Native.Nat.{ℕ, ◌/◌, ◌%◌, ◌^◌}
use mathlib.Core.Path.{◌≡◌, ap, sym, subst, ◌∙◌}
use lib.Bits.{bit_or}
use lib.ListN.{get_or}
use Rattle.lists.proofs.Shifts.{one_shifted}
use Rattle.bits.specs.Bits.{without}
use Rattle.keeping.specs.Words.{word_touched}
use Rattle.keeping.proofs.words.Group.touch_word.Goals as goal

pub returns-then-block-m : goal.returns-then-block-m
unfolding word_touched
returns-then-block-m c = let a = c.args in
    let own : get_or a.self.now.chosen a.m 0 ≡ a.m = sym c.from-block.ensures ∙ c.if-block-m.true in
    (λ i. bit_or (without a.word (get_or a.self.now.sets.now (c.from-key.ensures i) 0)) (one_shifted 64 a.m c.requires.column_in i))
    ∙ (rw (eq-eqb (get_or a.self.now.chosen a.m 0) a.m own))

pub returns-then-word-block-eq1 : goal.returns-then-word-block-eq1
unfolding word_touched
returns-then-word-block-eq1 c = let a = c.args in
    let not_own = ne_eqb (get_or a.self.now.chosen a.m 0) a.m (λ e. c.if-block-m.false (c.from-block.ensures ∙ e)) in
    let touched : a.word / 2 ^ get_or a.self.now.chosen a.m 0 % 2 ≡ 1 = subst (λ (block : ℕ). a.word / 2 ^ block % 2 ≡ 1) c.from-block.ensures c.if-word-block-eq1.true in
    ap (bit_or a.word) (one_shifted 64 a.m c.requires.column_in) ∙ (rw (not_own, eq-eqb (a.word / 2 ^ get_or a.self.now.chosen a.m 0 % 2) 1 touched))

pub returns : goal.returns
unfolding word_touched
returns c = let a = c.args in
    let not_own = ne_eqb (get_or a.self.now.chosen a.m 0) a.m (λ e. c.if-block-m.false (c.from-block.ensures ∙ e)) in
    let untouched = ne_eqb (a.word / 2 ^ get_or a.self.now.chosen a.m 0 % 2) 1 (λ e. c.if-word-block-eq1.false (ap (λ (block : ℕ). a.word / 2 ^ block % 2) c.from-block.ensures ∙ e)) in
    rw (not_own, untouched)
