-- Words and numbers of a report, as the bytes of ASCII. Rule 14.4, and the words of rules 14.1 to 14.3. A number has at most 20 digits, as many as
-- one of 64 bits needs; of a larger one they are the last 20.
use Rattle.std.specs.Prelude.{ℕ, zero, suc, ◌+◌, ◌/◌, ◌%◌, cond, List, [], ◌∷◌, ◌++◌, ltb}

-- Rule 14.4: the end of a line.
abbrev pub line_feed : List ℕ
line_feed = 10 ∷ []

-- What rules 14.1 to 14.3 put between words and numbers.
abbrev pub space : List ℕ
space = 32 ∷ []

-- nodes
abbrev pub nodes_word : List ℕ
nodes_word = 110 ∷ 111 ∷ 100 ∷ 101 ∷ 115 ∷ []

-- blocks
abbrev pub blocks_word : List ℕ
blocks_word = 98 ∷ 108 ∷ 111 ∷ 99 ∷ 107 ∷ 115 ∷ []

-- passes
abbrev pub passes_word : List ℕ
passes_word = 112 ∷ 97 ∷ 115 ∷ 115 ∷ 101 ∷ 115 ∷ []

-- unreached
abbrev pub unreached_word : List ℕ
unreached_word = 117 ∷ 110 ∷ 114 ∷ 101 ∷ 97 ∷ 99 ∷ 104 ∷ 101 ∷ 100 ∷ []

-- hit
abbrev pub hit_word : List ℕ
hit_word = 104 ∷ 105 ∷ 116 ∷ []

-- miss
abbrev pub miss_word : List ℕ
miss_word = 109 ∷ 105 ∷ 115 ∷ 115 ∷ []

-- unsure
abbrev pub unsure_word : List ℕ
unsure_word = 117 ∷ 110 ∷ 115 ∷ 117 ∷ 114 ∷ 101 ∷ []

-- kept
abbrev pub kept_word : List ℕ
kept_word = 107 ∷ 101 ∷ 112 ∷ 116 ∷ []

-- none
abbrev pub none_word : List ℕ
none_word = 110 ∷ 111 ∷ 110 ∷ 101 ∷ []

-- refused
abbrev pub refused_word : List ℕ
refused_word = 114 ∷ 101 ∷ 102 ∷ 117 ∷ 115 ∷ 101 ∷ 100 ∷ []

-- at
abbrev pub at_word : List ℕ
at_word = 97 ∷ 116 ∷ []

-- Rule 14.4: a number in at most so many digits, the first not 0 unless it is the only one.
abbrev pub decimal_by : ℕ → ℕ → List ℕ
decimal_by zero n = []
decimal_by (suc digits) n = cond (ltb n 10) ((48 + n) ∷ []) (decimal_by digits (n / 10) ++ ((48 + n % 10) ∷ []))

-- Rule 14.4, of a number below 2^64, which has at most 20 digits.
abbrev pub decimal : ℕ → List ℕ
decimal n = decimal_by 20 n
