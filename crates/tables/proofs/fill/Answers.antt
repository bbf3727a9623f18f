use Prim.Native.Nat.{ℕ, ◌+◌, ◌-◌}
use mathlib.Core.List.{List, ◌++◌}
use mathlib.Core.Path.{◌≡◌, sym, ap, ◌∙◌}
use native.Mathlib.Omega.{arith}
use lib.ListN.{length, take, drop, replicate}
use lib.Seq.{length-take-le}
use Rattle.std.proofs.lemmas.List.{length-drop, drop-drop}
use Rattle.lists.proofs.Listed.{list_of-const}
use Rattle.lists.proofs.Loops.{patch-laid}
use Rattle.tables.proofs.fill.Goals as goal

pub returns : goal.returns
returns c = let a = c.args in
    let old : List ℕ = a.buffer.now in
    let part : List ℕ = take (a.base + a.count - a.base) (drop a.base old) in
    let size : length part ≡ a.count = length-take-le (a.base + a.count - a.base) (drop a.base old) (omega (arith, length-drop a.base old)) ∙ omega arith in
    let stored : c.fill.new.self ≡ replicate a.count a.value = c.fill.ensures.after (λ y e. e) ∙ ap (λ (n : ℕ). replicate n a.value) size in
    let end : a.base + (a.base + a.count - a.base) ≡ a.base + a.count = omega arith in
    let behind : drop (a.base + a.count - a.base) (drop a.base old) ≡ drop (a.base + a.count) old = drop-drop (a.base + a.count - a.base) a.base old ∙ ap (λ (n : ℕ). drop n old) end in
    (λ i. take a.base old ++ ((stored ∙ sym (list_of-const a.count a.value)) i ++ behind i)) ∙ sym (patch-laid old a.base a.count (λ j. a.value) (omega arith))
