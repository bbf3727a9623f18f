-- Laws of a text that is put into an array of zeros from its start on.
use mathlib.Core.Bool.{Bool}
use mathlib.Core.List.{List, ◌++◌}
use mathlib.Core.Path.{◌≡◌, ap, ◌∙◌}
use Prim.Native.Nat.{ℕ, zero, suc, ◌-◌, ◌≤◌}
use native.Mathlib.Nat.{zero-add}
use native.Mathlib.Omega.{arith}
use lib.ListN.{length, drop, replicate, length-replicate}
use lib.Seq.{sets, sets-eq}
use Rattle.lists.specs.Lists.{padded}
use Rattle.report.specs.declared.puts.Line.{Line}
use Rattle.report.specs.declared.text.Text.{Text}
use Rattle.report.specs.Written.{most_text, text_of, Put}

drop-zeros : (k n : ℕ) → drop k (replicate n zero) ≡ replicate (n - k) zero
drop-zeros zero n =
    let e : n - 0 ≡ n = omega arith in
    rw e
drop-zeros (suc k) zero =
    let e : 0 - suc k ≡ 0 = omega arith in
    rw e
drop-zeros (suc k) (suc n) =
    let e : suc n - suc k ≡ n - k = omega arith in
    rw e (drop-zeros k n)

-- A line that began as zeros.
put-padded : {room size : ℕ} {before after : Line} {w : List ℕ} → Put room before w after → before.text.now ≡ replicate size 0 → before.size ≡ 0 → room ≤ size → after.text.now ≡ padded size w
put-padded {room} {size} {before} {after} {w} p zeros start h =
    p.laid
    ∙ (λ i. sets (zeros i) (start i) w)
    ∙ sets-eq w (replicate size 0) 0 (omega (arith, p.within, length-replicate size zero))
    ∙ ap (λ (k : ℕ). w ++ drop k (replicate size 0)) (zero-add (length w))
    ∙ ap (λ (rest : List ℕ). w ++ rest) (drop-zeros (length w) size)

-- The text whose bytes are that line's.
pub text-put : {room : ℕ} {before after : Line} {w bytes : List ℕ} {known refused : Bool} → bytes ≡ after.text.now → Put room before w after → before.text.now ≡ replicate most_text 0 → before.size ≡ 0 → room ≤ most_text → known ≡ refused
    → ◌≡◌ {A = Text} (record { bytes = bytes; size = after.size; refused = known }) (text_of w refused)
unfolding text_of
text-put {room} {before} {after} {w} held p zeros start h told =
    let counted : after.size ≡ length w = omega (arith, p.behind, start) in
    let padding = held ∙ put-padded p zeros start h in
    λ i. record { bytes = padding i; size = counted i; refused = told i }
