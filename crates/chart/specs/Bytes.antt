-- A chart's fields a second time, byte by byte. Rules 1.1, 1.2 and 2.1, from their tables alone: nothing here goes by words or widths, as
-- `Layout.antt` does. The two have to agree (proofs/Bytes.antt), so that a field read from the wrong bits is a contradiction.
-- Choices: a byte past the end counts as 0; a list may have any numbers, and the two agree where all are bytes (`AreBytes`).
use Rattle.std.specs.Prelude.{ℕ, ◌+◌, ◌*◌, ◌/◌, ◌%◌, ◌<◌, List, get_or}
use Rattle.chart.specs.declared.headers.HeaderFields.{HeaderFields}
use Rattle.chart.specs.declared.records.RecordFields.{RecordFields}

-- Rule 1.1: each is a byte.
abbrev pub AreBytes : List ℕ → Type 0
AreBytes bytes = (k : ℕ) → get_or bytes k 0 < 256

-- Rule 1.2: eight bytes as the header's fields. A byte that holds two of them is cut by a power of two.
abbrev pub header_of_bytes : ℕ → ℕ → ℕ → ℕ → ℕ → ℕ → ℕ → ℕ → HeaderFields
header_of_bytes a b c d e f g h =
    record {
      edition = a;
      line = b / 16;
      sets = b % 16;
      ways = c / 16;
      start = c / 4 % 4;
      first_spare = c % 4 * 256 + d;
      nodes = e * 16 + f / 16;
      entry = f % 16 * 256 + g;
      second_spare = h;
    }

-- Rule 1.1: the header is the first eight bytes.
abbrev pub header_bytes : List ℕ → HeaderFields
header_bytes bytes =
    header_of_bytes
    (get_or bytes 0 0)
    (get_or bytes 1 0)
    (get_or bytes 2 0)
    (get_or bytes 3 0)
    (get_or bytes 4 0)
    (get_or bytes 5 0)
    (get_or bytes 6 0)
    (get_or bytes 7 0)

-- Rule 2.1: eight bytes as a record's fields.
abbrev pub record_of_bytes : ℕ → ℕ → ℕ → ℕ → ℕ → ℕ → ℕ → ℕ → RecordFields
record_of_bytes a b c d e f g h =
    record {
      kind = a / 64;
      address = a % 64 * 67108864 + b * 262144 + c * 1024 + d * 4 + e / 64;
      outs = e / 16 % 4;
      first = e % 16 * 256 + f;
      second = g * 16 + h / 16;
      size = h % 16;
    }

-- Rule 1.1: byte k of node n's record, behind the header and the records of the nodes before.
abbrev pub record_byte : List ℕ → ℕ → ℕ → ℕ
record_byte bytes n k = get_or bytes (8 * (n + 1) + k) 0

-- Rule 1.1: node n's record is eight bytes.
abbrev pub record_bytes : List ℕ → ℕ → RecordFields
record_bytes bytes n =
    record_of_bytes
    (record_byte bytes n 0)
    (record_byte bytes n 1)
    (record_byte bytes n 2)
    (record_byte bytes n 3)
    (record_byte bytes n 4)
    (record_byte bytes n 5)
    (record_byte bytes n 6)
    (record_byte bytes n 7)
