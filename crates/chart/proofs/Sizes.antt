-- The bytes of a reference: the last of them by its size code, and the one block or the two neighbours in which they lie.
use Prim.Native.Nat.{ℕ, ◌+◌, ◌*◌, ◌-◌, ◌/◌, ◌^◌, ◌≤◌, ◌<◌}
use mathlib.Core.Bool.{Bool, true, false, cond}
use mathlib.Core.List.{[], ◌∷◌}
use mathlib.Core.Logic.{inl, inr}
use mathlib.Core.Path.{◌≡◌, refl, sym, ap, ◌∙◌}
use native.Mathlib.Nat.{le-div_iff_mul-le, div-lt_iff_lt-mul}
use native.Mathlib.Omega.{arith}
use borrow.Author.Tests.{ltb-true, ltb-false, lt-ltb, le-ltb, leb-true, leb-false, eq-eqb, ne_eqb, eqb-true, eqb-false}
use lib.Dec.{ltb, leb, eqb}
use lib.Pow.{pow_mono}
use Rattle.lists.specs.Lists.{Among}
use Rattle.chart.specs.declared.records.RecordFields.{RecordFields}
use Rattle.chart.specs.Record.{last_byte, both_touched, blocks_of}
use Rattle.chart.specs.Refusing.{last_block_said}
use Rattle.chart.specs.Saying.{OneOf, TouchesSay}

-- ---- the last byte

module _ (fields : RecordFields) where
  pub last_one : fields.size ≡ 0 → last_byte fields ≡ fields.address
  last_one e = rw (eq-eqb _ _ e) (omega arith)

  pub last-two : fields.size ≡ 1 → last_byte fields ≡ fields.address + 1
  last-two e = rw (ne_eqb fields.size 0 (λ d. omega arith), eq-eqb _ _ e) (omega arith)

  pub last-four : (fields.size ≡ 0 → ⊥) → (fields.size ≡ 1 → ⊥) → last_byte fields ≡ fields.address + 3
  last-four d e = rw (ne_eqb _ _ d, ne_eqb _ _ e) (omega arith)

  -- A size code is 0, or 1, or neither.
  pub size-cases : (P : Type 0) → (fields.size ≡ 0 → P) → (fields.size ≡ 1 → P) → ((fields.size ≡ 0 → ⊥) → (fields.size ≡ 1 → ⊥) → P) → P
  size-cases P one two four = go (eqb fields.size 0) refl (eqb fields.size 1) refl
    where
      go : (t : Bool) → eqb fields.size 0 ≡ t → (u : Bool) → eqb fields.size 1 ≡ u → P
      go true d u e = one (eqb-true fields.size 0 d)
      go false d true e = two (eqb-true fields.size 1 e)
      go false d false e = four (eqb-false fields.size 0 d) (eqb-false fields.size 1 e)

  pub last_block : (line : ℕ) → last_byte fields / 2 ^ line ≡ last_block_said line fields
  last_block line =
      size-cases (last_byte fields / 2 ^ line ≡ last_block_said line fields)
      (λ e. rw (last_one e, eq-eqb _ _ e))
      (λ e. rw (last-two e, ne_eqb fields.size 0 (λ d. omega arith), eq-eqb _ _ e))
      (λ d e. rw (last-four d e, ne_eqb _ _ d, ne_eqb _ _ e))

-- Whether so many bytes end within 32 bits, with nothing added to the address.
pub within-words : (address bytes : ℕ) → 1 ≤ bytes → bytes ≤ 4 → leb address (4294967296 - bytes) ≡ ltb (address + bytes - 1) (2 ^ 32)
within-words address bytes h k = go (leb address (4294967296 - bytes)) refl
  where
    go : (t : Bool) → leb address (4294967296 - bytes) ≡ t → t ≡ ltb (address + bytes - 1) (2 ^ 32)
    go true e = let less = leb-true address (4294967296 - bytes) e in sym (lt-ltb (address + bytes - 1) (2 ^ 32) (omega arith))
    go false e = let more = leb-false address (4294967296 - bytes) e in sym (le-ltb (address + bytes - 1) (2 ^ 32) (omega arith))

-- ---- the blocks of its bytes

module _ (d : ℕ) (wide : 4 ≤ d) where
  some : 0 < d
  some = omega arith

  block-mono : (a b : ℕ) → a ≤ b → a / d ≤ b / d
  block-mono a b h =
      let under : a / d * d ≤ a = (le-div_iff_mul-le some).0 (omega arith) in
      (le-div_iff_mul-le some).1 (omega arith)

  -- Four bytes reach into the next block at most.
  block_near : (a k : ℕ) → k ≤ 3 → (a + k) / d ≤ a / d + 1
  block_near a k h =
      let over : a < (a / d + 1) * d = (div-lt_iff_lt-mul some).0 (omega arith) in
      let more : (a / d + 2) * d ≡ (a / d + 1) * d + d = omega arith in
      let less : (a + k) / d < a / d + 2 = (div-lt_iff_lt-mul some).1 (omega arith) in
      omega arith

-- Which byte the last one is.
pub record Last (fields : RecordFields) : Type 0 where
  pub byte : ℕ
  pub few : byte ≤ 3
  pub there : OneOf fields.size byte
  pub is : last_byte fields ≡ fields.address + byte
  pub most : (k : ℕ) → OneOf fields.size k → k ≤ byte

last_of : (fields : RecordFields) → fields.size ≤ 2 → Last fields
last_of fields h =
    size-cases fields (Last fields)
    (λ z. record {
      byte = 0;
      few = omega arith;
      there = record { one = λ _. refl; two = λ _. omega arith; four = λ _. omega arith };
      is = last_one fields z ∙ omega arith;
      most = λ k o. omega (arith, o.one z);
    })
    (λ z. record {
      byte = 1;
      few = omega arith;
      there = record { one = λ y. absurd (omega arith); two = λ _. omega arith; four = λ y. absurd (omega arith) };
      is = last-two fields z;
      most = λ k o. omega (arith, o.two z);
    })
    (λ not-one not-two. record {
      byte = 3;
      few = omega arith;
      there = record { one = λ y. absurd (not-one y); two = λ y. absurd (not-two y); four = λ _. omega arith };
      is = last-four fields not-one not-two;
      most = λ k o. omega (arith, o.four (omega arith));
    })

module _ (fields : RecordFields) (line : ℕ) (write : Bool) (least : 2 ≤ line) (sized : fields.size ≤ 2) where
  abbrev d : ℕ
  d = 2 ^ line

  abbrev lower : ℕ
  lower = fields.address / d

  abbrev upper : ℕ
  upper = last_byte fields / d

  four : 4 ≤ d
  four = pow_mono {i = 2} {j = line} least

  last_byte_bound : Last fields
  last_byte_bound = last_of fields sized

  upper_is : upper ≡ (fields.address + last_byte_bound.byte) / d
  upper_is = ap (λ (a : ℕ). a / d) last_byte_bound.is

  upper-near : upper ≤ lower + 1
  upper-near = rw upper_is (block_near d four fields.address last_byte_bound.byte last_byte_bound.few)

  -- The block of each byte lies between the two.
  from-lower : (k : ℕ) → lower ≤ (fields.address + k) / d
  from-lower k = block-mono d four fields.address (fields.address + k) (omega arith)

  to-upper : (k : ℕ) → OneOf fields.size k → (fields.address + k) / d ≤ upper
  to-upper k o =
      let h = last_byte_bound.most k o in
      rw upper_is (block-mono d four (fields.address + k) (fields.address + last_byte_bound.byte) (omega arith))

  alone : upper ≡ lower → both_touched write lower upper ≡ record { block = lower; write = write } ∷ []
  alone e = rw (e, eq-eqb lower lower refl)

  both : upper ≡ lower + 1 → both_touched write lower upper ≡ record { block = lower; write = write } ∷ record { block = lower + 1; write = write } ∷ []
  both e = rw (e, ne_eqb lower (lower + 1) (λ q. omega arith))

  pub touches-say : TouchesSay fields line write (both_touched write lower upper)
  touches-say =
      record {
        one_line = λ same. alone (upper_is ∙ same last_byte_bound.byte last_byte_bound.there);
        two_lines = λ k o other. both (over k o other);
        every_byte = λ k o. among k o (eqb lower upper) refl;
      }
    where
      over : (k : ℕ) → OneOf fields.size k → ((fields.address + k) / d ≡ lower → ⊥) → upper ≡ lower + 1
      over k o other = go (ltb lower ((fields.address + k) / d)) refl
        where
          go : (t : Bool) → ltb lower ((fields.address + k) / d) ≡ t → upper ≡ lower + 1
          go true e = omega (arith, ltb-true lower ((fields.address + k) / d) e, to-upper k o, upper-near)
          go false e = absurd (other (omega (arith, ltb-false lower ((fields.address + k) / d) e, from-lower k)))

      among : (k : ℕ) → OneOf fields.size k → (t : Bool) → eqb lower upper ≡ t → Among ((fields.address + k) / d) (blocks_of (record { block = lower; write = write } ∷ cond t [] (record { block = upper; write = write } ∷ [])))
      among k o true e = inl (omega (arith, eqb-true lower upper e, from-lower k, to-upper k o))
      among k o false e = go (ltb lower ((fields.address + k) / d)) refl
        where
          go : (t : Bool) → ltb lower ((fields.address + k) / d) ≡ t → Among ((fields.address + k) / d) (lower ∷ upper ∷ [])
          go true g = inr (inl (omega (arith, ltb-true lower ((fields.address + k) / d) g, to-upper k o, upper-near)))
          go false g = inl (omega (arith, ltb-false lower ((fields.address + k) / d) g, from-lower k))
