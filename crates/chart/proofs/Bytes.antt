-- Words read by widths and bytes read one by one say the same.
use Prim.Native.Nat.{ℕ, ◌+◌, ◌*◌, ◌/◌, ◌%◌, ◌<◌}
use mathlib.Core.List.{List}
use mathlib.Core.Path.{◌≡◌}
use native.Mathlib.Omega.{arith}
use lib.ListN.{get_or}
use Rattle.chart.specs.declared.records.RecordFields.{RecordFields}
use Rattle.chart.specs.Layout.{word_at}
use Rattle.chart.specs.Header.{header_fields, fields_in}
use Rattle.chart.specs.Record.{record_fields}
use Rattle.chart.specs.Chart.{records_in}
use Rattle.chart.specs.Bytes.{AreBytes, header_of_bytes, header_bytes, record_of_bytes, record_byte, record_bytes}

-- Eight bytes as one number.
abbrev word : ℕ → ℕ → ℕ → ℕ → ℕ → ℕ → ℕ → ℕ → ℕ
word a b c d e f g h = (((((((0 + a) * 256 + b) * 256 + c) * 256 + d) * 256 + e) * 256 + f) * 256 + g) * 256 + h

module _ (a b c d e f g h : ℕ) (a' : a < 256) (b' : b < 256) (c' : c < 256) (d' : d < 256) (e' : e < 256) (f' : f < 256) (g' : g < 256) (h' : h < 256) where
  -- One law for each field: the search for a proof then has the eight bytes before it and nothing else.
  edition : (header_fields (word a b c d e f g h)).edition ≡ a
  edition = omega arith

  line : (header_fields (word a b c d e f g h)).line ≡ b / 16
  line = omega arith

  sets : (header_fields (word a b c d e f g h)).sets ≡ b % 16
  sets = omega arith

  ways : (header_fields (word a b c d e f g h)).ways ≡ c / 16
  ways = omega arith

  start : (header_fields (word a b c d e f g h)).start ≡ c / 4 % 4
  start = omega arith

  first-spare : (header_fields (word a b c d e f g h)).first_spare ≡ c % 4 * 256 + d
  first-spare = omega arith

  nodes : (header_fields (word a b c d e f g h)).nodes ≡ e * 16 + f / 16
  nodes = omega arith

  entry : (header_fields (word a b c d e f g h)).entry ≡ f % 16 * 256 + g
  entry = omega arith

  second-spare : (header_fields (word a b c d e f g h)).second_spare ≡ h
  second-spare = omega arith

  header-of-bytes : header_fields (word a b c d e f g h) ≡ header_of_bytes a b c d e f g h
  header-of-bytes =
      λ i. record { edition = edition i; line = line i; sets = sets i; ways = ways i; start = start i; first_spare = first-spare i; nodes = nodes i; entry = entry i; second_spare = second-spare i }

  record-of-bytes : record_fields (word a b c d e f g h) ≡ record_of_bytes a b c d e f g h
  record-of-bytes =
      let fields : RecordFields = record_fields (word a b c d e f g h) in
      let kind : fields.kind ≡ a / 64 = omega arith in
      let address : fields.address ≡ a % 64 * 67108864 + b * 262144 + c * 1024 + d * 4 + e / 64 = omega arith in
      let outs : fields.outs ≡ e / 16 % 4 = omega arith in
      let first : fields.first ≡ e % 16 * 256 + f = omega arith in
      let second : fields.second ≡ g * 16 + h / 16 = omega arith in
      let size : fields.size ≡ h % 16 = omega arith in
      λ i. record { kind = kind i; address = address i; outs = outs i; first = first i; second = second i; size = size i }

module _ (bytes : List ℕ) (small : AreBytes bytes) where
  pub header-bytes : fields_in bytes ≡ header_bytes bytes
  unfolding word_at
  header-bytes =
      header-of-bytes (get_or bytes 0 0) (get_or bytes 1 0) (get_or bytes 2 0) (get_or bytes 3 0) (get_or bytes 4 0) (get_or bytes 5 0) (get_or bytes 6 0) (get_or bytes 7 0)
      (small 0) (small 1) (small 2) (small 3) (small 4) (small 5) (small 6) (small 7)

  pub record-bytes : (n : ℕ) → records_in bytes n ≡ record_bytes bytes n
  unfolding word_at
  record-bytes n =
      let at : ℕ → ℕ = record_byte bytes n in
      let byte : (k : ℕ) → at k < 256 = λ k. small (8 * (n + 1) + k) in
      record-of-bytes (at 0) (at 1) (at 2) (at 3) (at 4) (at 5) (at 6) (at 7) (byte 0) (byte 1) (byte 2) (byte 3) (byte 4) (byte 5) (byte 6) (byte 7)
