-- Numbers that are an answer's, told where there is room: what is returned and what the lent list then holds.
use borrow.Author.Tests.{ltb-false}
use Prim.Native.Nat.{ℕ, ◌≤◌}
use mathlib.Core.Bool.{Bool, false, ◌||◌}
use mathlib.Core.Path.{◌≡◌, refl}
use mathlib.Core.List.{List, [], ◌∷◌}
use native.Mathlib.Omega.{arith}
use lib.ListN.{length, get_or, set}
use Rattle.lists.specs.Lists.{written}
use Rattle.lists.proofs.Choice.{or-false}
use Rattle.boundary.specs.Told.{returned, told, short}

-- A function with two lists has room in both.
pub both-roomy : {X : Type 0} (places : ℕ) (list : List X) (answer : List ℕ) → (short list places || short answer 3) ≡ false → (places ≤ length list) × (3 ≤ length answer)
both-roomy places list answer roomy =
    let parts = or-false (short list places) (short answer 3) roomy in
    (ltb-false _ _ parts.0, ltb-false _ _ parts.1)

pub answer-told : (short : Bool) (numbers said lent after : List ℕ)
    → short ≡ false
    → numbers ≡ said
    → after ≡ written numbers lent
    → (get_or numbers 0 0 ≡ returned short (get_or said 0 0)) × (after ≡ told short said lent)
answer-told short numbers said lent after roomy are tells = (rw (roomy, are), rw (roomy, tells, are))

-- Two places that are set are two numbers written over the start.
pub two-written : {X : Type 0} (first second : X) (lent : List X) → 2 ≤ length lent → set (set lent 0 first) 1 second ≡ written (first ∷ second ∷ []) lent
two-written first second [] room = absurd (omega arith)
two-written first second (x ∷ []) room = absurd (omega arith)
two-written first second (x ∷ y ∷ lent) room = refl
