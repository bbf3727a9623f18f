-- What a loop over places has stored, and what it has found, so far.
-- Nothing here is a rule of the tool: contracts of inner functions and invariants speak of it, and laws lead from it to the lists that the
-- definitions name.
use Rattle.std.specs.Prelude.{Bool, ◌||◌, List, ℕ, zero, suc, ◌+◌, set}

-- l, with f 0 .. f (n - 1) stored at places base .. base + n - 1
abbrev pub patch : List ℕ → ℕ → ℕ → (ℕ → ℕ) → List ℕ
patch l base zero f = l
patch l base (suc n) f = set (patch l base n f) (base + n) (f n)

-- c, or whether some number below n passes the test
abbrev pub any : Bool → ℕ → (ℕ → Bool) → Bool
any c zero test = c
any c (suc n) test = any c n test || test n
