use Rattle.std.proofs.Common.{rules}
use Rattle.std.proofs.lemmas.List.{nil_from_length}
use Rattle.std.proofs.lemmas.List.Folds.{list_all-append}
use Rattle.std.specs.List.{list_all}
use Rattle.std.specs.Slice.Iter.{chunks_rest}
use mathlib.Core.Bool.{Bool, false, ◌&&◌}
use mathlib.Core.List.{List, []}
use mathlib.Core.Path.{◌≡◌, sym, ap, ◌∙◌}
use Prim.Native.Nat.{ℕ}
use borrow.Author.Tests.{tests}
use lib.Dec.{leb}
use lib.IntN.{ℤ, pos, nat_abs}
use lib.ListN.{length, get_or}
use Rattle.lists.proofs.Choice.{every-same}
use Rattle.lists.proofs.Asked.{all_listed}
use Rattle.facts.specs.Certificate.{all_within}
use Rattle.facts.proofs.Asked.{size-within}
use Rattle.facts.proofs.ranges.all_within.Goals as goal

abbrev is_within : ℕ → ℤ → Bool
is_within most number = leb (nat_abs number) most

whole : (most : ℕ) (numbers : List ℤ) → list_all (is_within most) numbers ≡ all_within most numbers
whole most numbers =
    all_listed (is_within most) numbers (pos 0)
    ∙ every-same (length numbers) _ _ (λ i h. size-within most (get_or numbers i (pos 0)))

pub returns-then-not-part_within : goal.returns-then-not-part_within
returns-then-not-part_within c = let a = c.args in
    let part : List ℤ = c.in-Some.part.now in
    let rest : List ℤ = chunks_rest c.next.new.self in
    let steps = c.in-Some.ensures.steps in
    let out : list_all (is_within a.most) part ≡ false = search (rules, tests) in
    sym (c.loop-part.invariant.2 ∙ ap (list_all (is_within a.most)) steps.1.0 ∙ list_all-append (is_within a.most) part rest ∙ ap (λ (b : Bool). b && list_all (is_within a.most) rest) out)
    ∙ whole a.most a.numbers.now

pub returns : goal.returns
returns c = let a = c.args in
    let none : chunks_rest c.loop-part.part-iterator ≡ [] = nil_from_length _ c.in-None.ensures.steps.1.0 in
    sym (c.loop-part.invariant.2 ∙ ap (list_all (is_within a.most)) none) ∙ whole a.most a.numbers.now
