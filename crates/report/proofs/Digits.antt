-- Laws of a number that is put digit by digit.
use mathlib.Core.List.{[], ◌∷◌}
use mathlib.Core.Path.{◌≡◌, refl}
use Prim.Native.Nat.{ℕ, zero, suc, ◌+◌, ◌-◌, ◌/◌, ◌%◌, ◌≤◌, ◌<◌}
use native.Mathlib.Omega.{arith}
use borrow.Author.Tests.{lt-ltb, le-ltb}
use Rattle.report.specs.declared.puts.Line.{Line}
use Rattle.report.specs.Text.{decimal_by}
use Rattle.report.specs.Written.{Put}
use Rattle.report.proofs.Putting.{put_then, put-wide, put-nothing}

pub digits-none : (digits n : ℕ) (line : Line) → digits ≡ 0 → Put digits line (decimal_by digits n) line
digits-none digits n line e = rw e (put-nothing line)

pub digits-one : {before after : Line} (digits n : ℕ) → (digits ≡ 0 → ⊥) → n < 10 → Put 1 before ((48 + n % 10) ∷ []) after → Put digits before (decimal_by digits n) after
digits-one zero n some h p = absurd (some refl)
digits-one (suc digits) n some h p =
    let own : n % 10 ≡ n = omega arith in
    rw (lt-ltb n 10 h) (put-wide (rw own at p) (omega arith))

pub digits_more : {before between after : Line} (digits n : ℕ) → (digits ≡ 0 → ⊥) → 10 ≤ n
    → Put (digits - 1) before (decimal_by (digits - 1) (n / 10)) between → Put 1 between ((48 + n % 10) ∷ []) after
    → Put digits before (decimal_by digits n) after
digits_more zero n some h p q = absurd (some refl)
digits_more (suc digits) n some h p q =
    let e : suc digits - 1 ≡ digits = omega arith in
    rw (le-ltb n 10 h) (put-wide (rw e at (put_then p q)) (omega arith))
