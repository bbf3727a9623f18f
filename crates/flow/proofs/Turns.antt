-- Touches in turn keep what each of them keeps.
use mathlib.Core.List.{List, [], ◌∷◌}
use mathlib.Core.Logic.{inl, inr}
use mathlib.Core.Path.{refl}
use Rattle.lists.specs.Lists.{Among}
use Rattle.flow.specs.Walk.{in_turn}

-- Two actions, and a relation of what they act on.
pub in_turn-keeps : {E X Y : Type 0} (f : E → X → X) (g : E → Y → Y) (R : X → Y → Type 0) (es : List E)
    → ((e : E) → Among e es → (x : X) (y : Y) → R x y → R (f e x) (g e y)) → (x : X) (y : Y) → R x y → R (in_turn f es x) (in_turn g es y)
in_turn-keeps f g R [] each x y r = r
in_turn-keeps f g R (e ∷ es) each x y r =
    in_turn-keeps f g R es (λ k i. each k (inr i)) (f e x) (g e y) (each e (inl refl) x y r)
