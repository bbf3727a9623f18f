-- Laws of packing, for any widths: values that fit come back as the fields of their word, and a word is packed of its fields.
use Prim.Native.Nat.{ℕ, zero, suc, ◌+◌, ◌*◌, ◌/◌, ◌%◌, ◌^◌, ◌<◌}
use mathlib.Core.List.{List, [], ◌∷◌}
use mathlib.Core.Path.{◌≡◌, sym, ap, ◌∙◌}
use native.Mathlib.Omega.{arith}
use native.Mathlib.Nat.{mod-eq_of_lt, mod-one, mul_assoc, add_comm, add-mul-div_right, add-mul-mod_self_right}
use lib.ListN.{length, get_or}
use lib.Pow.{pow-add, pow_pos, high, mod-pow-add}
use Rattle.lists.proofs.Joined.{row_in}
use Rattle.chart.specs.Layout.{widths_total, field}
use Rattle.writer.specs.Packing.{packed, Fit}

-- A number of two digits, the low one below n, is below m times n if the high one is below m.
digits : (a m b n : ℕ) → a < m → b < n → a * n + b < m * n
digits a m b n h k = omega (arith, row_in a m n h)

-- A word packed of values that fit has no bit beyond its fields.
pub packed-below : (widths values : List ℕ) → Fit widths values → packed widths values < 2 ^ widths_total widths
packed-below [] [] fit = omega arith
packed-below [] (value ∷ values) fit = absurd fit
packed-below (width ∷ widths) [] fit = absurd fit
packed-below (width ∷ widths) (value ∷ values) fit =
    rw (pow-add 2 width (widths_total widths)) (digits value (2 ^ width) (packed widths values) (2 ^ widths_total widths) fit.0 (packed-below widths values fit.1))

apart : (width rest more : ℕ) → more * 2 ^ (width + rest) ≡ more * 2 ^ width * 2 ^ rest
apart width rest more = ap (λ (n : ℕ). more * n) (pow-add 2 width rest) ∙ sym (mul_assoc more (2 ^ width) (2 ^ rest))

-- What stands before all fields is in none of them.
field-behind : (widths : List ℕ) (k more word : ℕ) → k < length widths → field widths k (more * 2 ^ widths_total widths + word) ≡ field widths k word
field-behind [] k more word h = absurd (omega arith)
field-behind (width ∷ widths) zero more word h =
    rw (apart width (widths_total widths) more, add_comm (more * 2 ^ width * 2 ^ widths_total widths) word, add-mul-div_right word (more * 2 ^ width) (pow_pos (widths_total widths)))
    (add-mul-mod_self_right (word / 2 ^ widths_total widths) more (2 ^ width))
field-behind (width ∷ widths) (suc k) more word h =
    ap (λ (n : ℕ). field widths k (n + word)) (apart width (widths_total widths) more) ∙ field-behind widths k (more * 2 ^ width) word (omega arith)

pub field-packed : (widths values : List ℕ) → Fit widths values → (k : ℕ) → k < length widths → field widths k (packed widths values) ≡ get_or values k 0
field-packed [] values fit k h = absurd (omega arith)
field-packed (width ∷ widths) [] fit k h = absurd fit
field-packed (width ∷ widths) (value ∷ values) fit zero h = rw (high value (widths_total widths) (packed-below widths values fit.1)) (mod-eq_of_lt fit.0)
field-packed (width ∷ widths) (value ∷ values) fit (suc k) h = field-behind widths k value (packed widths values) (omega arith) ∙ field-packed widths values fit.1 k (omega arith)

-- The fields of a word.
abbrev pub fields_of : List ℕ → ℕ → List ℕ
fields_of [] word = []
fields_of (width ∷ widths) word = field (width ∷ widths) 0 word ∷ fields_of widths word

packed-low : (widths : List ℕ) (word : ℕ) → packed widths (fields_of widths word) ≡ word % 2 ^ widths_total widths
packed-low [] word = sym (mod-one word)
packed-low (width ∷ widths) word = rw (packed-low widths word) (sym (mod-pow-add word width (widths_total widths)))

pub packed-fields : (widths : List ℕ) (word : ℕ) → word < 2 ^ widths_total widths → packed widths (fields_of widths word) ≡ word
packed-fields widths word h = packed-low widths word ∙ mod-eq_of_lt h
