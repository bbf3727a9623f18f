-- How a chart's bytes carry its fields. Rules 1.1 and 1.3, and the widths of rules 1.2 and 2.1.
-- Choices: the header and each record have 64 bits, so a chart is read as words of eight bytes; a byte past the end counts as 0; numbers that
-- are no bytes would carry over. No answer depends on the last two.
use Rattle.std.specs.Prelude.{ℕ, zero, suc, ◌+◌, ◌*◌, ◌/◌, ◌%◌, ◌^◌, List, [], ◌∷◌, get_or, drop}

-- Rule 1.1: the number that n bytes from a place on make, the first the most significant.
abbrev pub number_at : List ℕ → ℕ → ℕ → ℕ
number_at bytes place zero = 0
number_at bytes place (suc n) = number_at bytes place n * 256 + get_or bytes (place + n) 0

-- Rule 1.1: word n of a chart. The header is word 0.
unfoldable pub word_at : List ℕ → ℕ → ℕ
word_at bytes n = number_at bytes (8 * n) 8

-- Rule 1.1: the record of node n is word n + 1.
abbrev pub record_word : List ℕ → ℕ → ℕ
record_word bytes n = word_at bytes (n + 1)

-- Rule 1.3: the length of a chart of so many nodes.
abbrev pub chart_length : ℕ → ℕ
chart_length nodes = 8 + 8 * nodes

-- How many bits fields of these widths have together.
abbrev pub widths_total : List ℕ → ℕ
widths_total [] = 0
widths_total (width ∷ widths) = width + widths_total widths

-- Rule 1.1: field k of a word, where the fields have these widths. As many bits stand behind it as the fields after it have.
abbrev pub field : List ℕ → ℕ → ℕ → ℕ
field widths k word = word / 2 ^ widths_total (drop (suc k) widths) % 2 ^ get_or widths k 0

-- Rule 1.2: how wide the header's fields are, in order.
abbrev pub header_widths : List ℕ
header_widths = 8 ∷ 4 ∷ 4 ∷ 4 ∷ 2 ∷ 10 ∷ 12 ∷ 12 ∷ 8 ∷ []

-- Rule 2.1: how wide a record's fields are, in order.
abbrev pub record_widths : List ℕ
record_widths = 2 ∷ 32 ∷ 2 ∷ 12 ∷ 12 ∷ 4 ∷ []
