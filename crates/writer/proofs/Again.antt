-- A chart that was read and is taken apart: its fields are those of the bytes, and packed again they are the bytes.
use Rattle.std.specs.Prelude.{None, Some}
use Prim.Native.Nat.{ℕ, zero, suc, ◌+◌, ◌*◌, ◌-◌, ◌/◌, ◌%◌, ◌^◌, ◌≤◌, ◌<◌}
use mathlib.Core.Bool.{Bool, true, false, cond}
use mathlib.Core.List.{List}
use mathlib.Core.Path.{◌≡◌, refl, sym, ap, ◌∙◌}
use native.Mathlib.Numerals.{add-one}
use native.Mathlib.Omega.{arith}
use borrow.Author.Tests.{eq-eqb, eqb-true, eqb-false}
use lib.Dec.{eqb}
use lib.ListN.{length, get_or}
use lib.Seq.{ext_get_or}
use Rattle.lists.proofs.Listed.{length-list_of, get_or-list_of}
use Rattle.chart.specs.declared.headers.HeaderFields.{HeaderFields}
use Rattle.chart.specs.declared.records.RecordFields.{RecordFields}
use Rattle.chart.specs.Layout.{word_at, chart_length, field}
use Rattle.chart.specs.Header.{header_fields, start_of, start_code}
use Rattle.chart.specs.Record.{last_byte, record_fields, record_keeps, record_of, node_of}
use Rattle.chart.specs.Bytes.{AreBytes}
use Rattle.chart.specs.Refusing.{RecordKeeps}
use Rattle.chart.proofs.Keeping.{tells-record}
use Rattle.chart.proofs.Sizes.{last_one, last-two, last-four, size-cases}
use Rattle.writer.specs.Packing.{chart_word, byte_widths, byte_of, chart_bytes}
use Rattle.writer.specs.Taken.{code_of, fields_of}
use Rattle.writer.proofs.Packed.{packed-below}
use Rattle.writer.proofs.Readback.{eight, eight-fit, word-packed, byte-of-word, read-header, read-record}

-- ---- a node taken apart

module _ (nodes : ℕ) (fields : RecordFields) (kept : record_keeps nodes fields ≡ true) where
  keeps : RecordKeeps nodes fields
  keeps = (tells-record nodes fields).0 kept

  code-back : code_of (last_byte fields - fields.address) ≡ fields.size
  code-back =
      size-cases fields (code_of (last_byte fields - fields.address) ≡ fields.size)
      (λ e.
      let none : last_byte fields - fields.address ≡ 0 = omega (arith, last_one fields e) in
      rw (eq-eqb (last_byte fields - fields.address) 0 none, e))
      (λ e.
      let one : last_byte fields - fields.address ≡ 1 = omega (arith, last-two fields e) in
      rw (one, e))
      (λ d e.
      let three : last_byte fields - fields.address ≡ 3 = omega (arith, last-four fields d e) in
      let two : 2 ≡ fields.size = omega (arith, keeps.sizes, d, e) in
      rw three two)

  kind-back : eqb fields.kind 0 ≡ false → cond (eqb fields.kind 2) 2 1 ≡ fields.kind
  kind-back some = go (eqb fields.kind 2) refl
    where
      go : (t : Bool) → eqb fields.kind 2 ≡ t → cond t 2 1 ≡ fields.kind
      go true e = sym (eqb-true fields.kind 2 e)
      go false e = omega (arith, keeps.kinds, eqb-false fields.kind 0 some, eqb-false fields.kind 2 e)

  pub node-back : fields_of (node_of fields) ≡ fields
  unfolding record_of
  node-back = go (eqb fields.kind 0) refl
    where
      go : (t : Bool) → eqb fields.kind 0 ≡ t
          → fields_of (record { what = cond t None (Some (record { write = eqb fields.kind 2; address = fields.address; last = last_byte fields })); targets = record { outs = fields.outs; first = fields.first; second = fields.second } }) ≡ fields
      go true e =
          let none = eqb-true fields.kind 0 e in
          let bare = keeps.steps none in
          λ i. record { kind = sym none i; address = sym bare.0 i; outs = fields.outs; first = fields.first; second = fields.second; size = sym bare.1 i }
      go false e =
          λ i. record { kind = kind-back e i; address = fields.address; outs = fields.outs; first = fields.first; second = fields.second; size = code-back i }

-- ---- a start's code

pub start_back : (code : ℕ) → code ≤ 1 → start_code (start_of code) ≡ code
start_back code h = go (eqb code 0) refl
  where
    go : (t : Bool) → eqb code 0 ≡ t → start_code (start_of code) ≡ code
    go true e = rw (eqb-true code 0 e)
    go false e = rw e (omega (arith, eqb-false code 0 e))

-- ---- bytes packed again

module _ (bytes : List ℕ) (small : AreBytes bytes) (fields : HeaderFields) (records : ℕ → RecordFields) (count : ℕ) (long : length bytes ≡ chart_length count)
    (header_is : header_fields (word_at bytes 0) ≡ fields) (record_is : (n : ℕ) → n < count → record_fields (word_at bytes (n + 1)) ≡ records n)
  where
    word_below : (n : ℕ) → word_at bytes n < 2 ^ 64
    word_below n =
        rw (word-packed bytes n)
        (packed-below byte_widths (eight bytes n) (eight-fit bytes small n))

    word-again : (n : ℕ) → n ≤ count → chart_word fields records n ≡ word_at bytes n
    word-again zero h = sym (ap (λ (f : HeaderFields). chart_word f records 0) header_is) ∙ read-header (word_at bytes 0) (word_below 0)
    word-again (suc n) h =
        sym (ap (λ (f : RecordFields). chart_word fields (λ _. f) (suc n)) (record_is n (omega arith)))
        ∙ read-record (word_at bytes (n + 1)) (word_below (n + 1))
        ∙ ap (word_at bytes) (add-one n)

    byte-again : (i : ℕ) → i < chart_length count → byte_of (chart_word fields records) i ≡ get_or bytes i 0
    byte-again i h =
        let place : 8 * (i / 8) + i % 8 ≡ i = omega arith in
        ap (field byte_widths (i % 8)) (word-again (i / 8) (omega arith))
        ∙ byte-of-word bytes small (i / 8) (i % 8) (omega arith)
        ∙ ap (λ (p : ℕ). get_or bytes p 0) place

    pub bytes-again : chart_bytes fields records count ≡ bytes
    bytes-again =
        ext_get_or 0 (chart_bytes fields records count) bytes
        (length-list_of (chart_length count) (byte_of (chart_word fields records)) ∙ sym long)
        (λ i h.
        let inside : i < chart_length count = omega (arith, length-list_of (chart_length count) (byte_of (chart_word fields records))) in
        get_or-list_of (chart_length count) (byte_of (chart_word fields records)) 0 i inside ∙ byte-again i inside)
