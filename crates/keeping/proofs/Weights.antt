-- What is left to do grows less: a node taken, and a word that changes something where it comes.
use Prim.Native.Nat.{ℕ, ◌+◌, ◌-◌, ◌^◌, ◌≤◌, ◌<◌}
use mathlib.Core.Bool.{Bool, true, false, cond, not, ◌||◌}
use mathlib.Core.Path.{◌≡◌, refl, sym}
use native.Mathlib.Omega.{arith}
use borrow.Author.Tests.{eqb-false}
use lib.Arith.{lt_of_le-ne}
use lib.Bits.{bit_or}
use lib.Dec.{eqb}
use lib.ListN.{get_or, set}
use lib.Seq.{get_or-set_same, get_or-set_other}
use Rattle.keeping.specs.Work.{Work, Roomy, changes_at, cleared, span_with}
use Rattle.keeping.specs.Flood.{weight_at, weight_of}
use Rattle.bits.proofs.Bits.{or-grows}
use Rattle.keeping.proofs.Sums.{sum-but-one}

module _ (nodes : ℕ) (work : Work) (room : Roomy nodes work.marks work.words work.due) where
  pub cleared-lighter : (n : ℕ) → n < nodes → get_or work.due n false ≡ true → weight_of nodes (cleared n work) < weight_of nodes work
  cleared-lighter n h due =
      let other = sum-but-one nodes n (weight_at (cleared n work)) (weight_at work) h (λ i k e. rw (get_or-set_other work.due n i false false e)) in
      let now : weight_at (cleared n work) n ≡ (2 ^ 64 - get_or work.words n 0) + cond (eqb (get_or work.marks n 0) 0) 1 0 + 0 = rw (get_or-set_same work.due n false false (omega (arith, room.due_room))) in
      let was : weight_at work n ≡ (2 ^ 64 - get_or work.words n 0) + cond (eqb (get_or work.marks n 0) 0) 1 0 + 1 = rw due in
      omega arith

  -- the numbers of the node that a word comes to
  heavier : (old new : ℕ) (mark due : Bool) → old < 2 ^ 64 → old ≤ new → (not (eqb new old) || mark) ≡ true
      → (2 ^ 64 - new) + 0 + 1 ≤ (2 ^ 64 - old) + cond mark 1 0 + cond due 1 0
  heavier old new true due small grows e = omega arith
  heavier old new false due small grows e = go (eqb new old) refl
    where
      go : (b : Bool) → eqb new old ≡ b → (2 ^ 64 - new) + 0 + 1 ≤ (2 ^ 64 - old) + 0 + cond due 1 0
      go true q = let z : ◌≡◌ {A = ℕ} 0 1 = (let k : (not true || false) ≡ true = (rw q at e) in cc) in absurd (omega arith)
      go false q = let apart : new ≡ old → ⊥ = eqb-false new old q in let more : old < new = lt_of_le-ne grows (λ s. apart (sym s)) in omega arith

  pub put-lighter : (n out t : ℕ) → t < nodes → get_or work.words t 0 < 2 ^ 64 → changes_at out t work ≡ true
      → weight_of nodes (record { marks = set work.marks t 1; words = set work.words t (bit_or (get_or work.words t 0) out); due = set work.due t true; span = span_with n t work.span }) ≤ weight_of nodes work
  put-lighter n out t h small changes =
      let after : Work = record { marks = set work.marks t 1; words = set work.words t (bit_or (get_or work.words t 0) out); due = set work.due t true; span = span_with n t work.span } in
      let other = sum-but-one nodes t (weight_at after) (weight_at work) h
      (λ i k e. rw (get_or-set_other work.marks t i 1 0 e, get_or-set_other work.words t i (bit_or (get_or work.words t 0) out) 0 e, get_or-set_other work.due t i true false e)) in
      let now : weight_at after t ≡ (2 ^ 64 - bit_or (get_or work.words t 0) out) + 0 + 1 = rw (get_or-set_same work.marks t 1 0 (omega (arith, room.marks_room)), get_or-set_same work.words t (bit_or (get_or work.words t 0) out) 0 (omega (arith, room.words_room)), get_or-set_same work.due t true false (omega (arith, room.due_room))) in
      let less = heavier (get_or work.words t 0) (bit_or (get_or work.words t 0) out) (eqb (get_or work.marks t 0) 0) (get_or work.due t false) small (or-grows (get_or work.words t 0) out) changes in
      omega arith
