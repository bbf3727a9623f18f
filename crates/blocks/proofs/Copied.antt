-- What a list holds after others were copied over a part of it.
use mathlib.Core.List.{List, ◌++◌}
use mathlib.Core.Path.{◌≡◌, sym, ap, ◌∙◌}
use Prim.Native.Nat.{ℕ, ◌≤◌}
use lib.ListN.{length, get_or, take, drop}
use Rattle.lists.specs.Lists.{list_of}
use Rattle.lists.specs.Loops.{patch}
use Rattle.lists.proofs.Listed.{length-list_of, list_of-take}
use Rattle.lists.proofs.Loops.{patch-written}

-- The first of one list over the first of another.
pub patch-copied : (l list : List ℕ) (n : ℕ) → n ≤ length list → n ≤ length l → take n list ++ drop n l ≡ patch l 0 n (λ k. get_or list k 0)
patch-copied l list n h k =
    sym
    (patch-written l n (λ i. get_or list i 0) k
    ∙ ap (λ (m : ℕ). list_of n (λ i. get_or list i 0) ++ drop m l) (length-list_of n (λ i. get_or list i 0))
    ∙ ap (λ (front : List ℕ). front ++ drop n l) (list_of-take n list 0 h))
