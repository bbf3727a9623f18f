-- What is held of some blocks at a node, as one word. The blocks are of different cache sets, so that their sets since have no column in common and
-- share the word: the bit of a block itself says that it is touched, that of another column that this is in the set of the block of its cache set. A touch,
-- a node's touches, and whether few enough are in a set. Rules 8.1, 16.1, 16.3 and 16.4, of words; laws hold them to the states of `kept`.
-- A choice: `since_in` reads no bit above those of the columns, and `stays_in` counts all that the list of a cache set has; in a table the bits above are
-- 0 (`WordsFit`).
use Rattle.std.specs.Prelude.{ℕ, ◌+◌, ◌-◌, ◌*◌, ◌^◌, ◌≤◌, ◌<◌, Bool, false, cond, not, ◌&&◌, ◌||◌, List, ◌≡◌, eqb, ltb, get_or, length, None, Option, Some}
use Rattle.std.specs.Int.Bits.{bit_and, bit_or}
use Rattle.std.specs.Int.Count.{ones}
use Rattle.lists.specs.Lists.{list_of}
use Rattle.bits.specs.Bits.{bit_at, is_set, without}
use Rattle.chart.specs.Geometry.{most_blocks}
use Rattle.cache.specs.Ages.{Columns}
use Rattle.flow.specs.Walk.{in_turn}
use Rattle.ages.specs.Plan.{ColumnTouch}
use Rattle.plan.specs.Listed.{touches_by}
use Rattle.kept.specs.Since.{Since}
use Rattle.plan.specs.declared.ColumnTouches.{ColumnTouches}

-- The blocks that share words, as lists: for each column the one that is of its cache set, and for each set key the columns of that cache set, as
-- bits. The first numbers of `columns` are set keys.
pub record Group : Type 0 where
  pub columns : List ℕ
  pub chosen : List ℕ
  pub sets : List ℕ

abbrev pub chosen_for : Group → ℕ → ℕ
chosen_for group m = get_or group.chosen m 0

abbrev pub key_of : Group → ℕ → ℕ
key_of group m = get_or group.columns m 0

abbrev pub set_bits : Group → ℕ → ℕ
set_bits group m = get_or group.sets (key_of group m) 0

-- The lists say so of the columns below a count.
pub record Grouped (count : ℕ) (group : Group) : Type 0 where
  pub chosen_room : count ≤ length group.chosen
  pub chosen_in : (m : ℕ) → m < count → chosen_for group m < count
  pub chosen_key : (m : ℕ) → m < count → key_of group (chosen_for group m) ≡ key_of group m
  pub chosen_same : (m k : ℕ) → m < count → k < count → key_of group m ≡ key_of group k → chosen_for group m ≡ chosen_for group k
  pub sets_room : (m : ℕ) → m < count → key_of group m < length group.sets
  pub sets_are : (m column : ℕ) → m < count → column < count → is_set (set_bits group m) column ≡ eqb (key_of group column) (key_of group m)

-- A block is one of those that share words; and what is so of each of them.
abbrev pub Chosen : List ℕ → ℕ → Type 0
Chosen chosen block = get_or chosen block 0 ≡ block

abbrev pub EachChosen : List ℕ → ℕ → (ℕ → Type 0) → Type 0
EachChosen chosen count Q = (block : ℕ) → block < count → Chosen chosen block → Q block

-- Rule 16.1: the state of a block that a word holds.
unfoldable pub since_in : Columns → ℕ → ℕ → Since
since_in columns block word =
    record {
      touched = is_set word block;
      others = list_of columns.count (λ column. not (eqb column block) && (eqb (columns.key column) (columns.key block) && is_set word column));
    }

-- Rule 16.3: the word after a touch of column m. One of the blocks themselves empties its set; another column joins the set of the block of its cache
-- set, if that is touched.
unfoldable pub word_touched : Group → ℕ → ℕ → ℕ
word_touched group m word =
    cond (eqb (chosen_for group m) m) (bit_or (without word (set_bits group m)) (2 ^ m))
    (cond (is_set word (chosen_for group m)) (bit_or word (2 ^ m)) word)

-- Rules 16.3 and 16.4: the word after a node's touches, in turn.
abbrev pub word_after_touch : Group → ColumnTouch → ℕ → ℕ
word_after_touch group touch word = word_touched group touch.column word

unfoldable pub word_after : Group → Option ColumnTouches → ℕ → ℕ
word_after group planned word = in_turn (word_after_touch group) (touches_by planned) word

-- Rule 8.1: whether fewer are in the set than the limit of the block's column.
unfoldable pub stays_in : Group → ℕ → ℕ → Bool
stays_in group block word =
    ltb (ones (bit_and word (set_bits group block)) - bit_at (bit_and word (set_bits group block)) block) (get_or group.columns (2 * most_blocks + block) 0)

-- Whether a record touches one of the blocks.
abbrev pub touches_chosen : List ℕ → Option ColumnTouches → Bool
touches_chosen chosen None = false
touches_chosen chosen (Some reference) =
    eqb (get_or chosen reference.lower 0) reference.lower || eqb (get_or chosen reference.upper 0) reference.upper

-- What a function asks that touches column m, and one that goes by a record.
pub record Touchable (group : Group) (m : ℕ) : Type 0 where
  pub column_in : m < most_blocks
  pub columns_room : 3 * most_blocks ≤ length group.columns
  pub chosen_room : m < length group.chosen
  pub chosen_in : chosen_for group m < most_blocks
  pub sets_room : key_of group m < length group.sets

abbrev pub TouchableBy : Group → Option ColumnTouches → Type 0
TouchableBy group None = Unit {0}
TouchableBy group (Some reference) = Touchable group reference.lower × Touchable group reference.upper
