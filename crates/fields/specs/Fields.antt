-- What reading one node and listing the blocks answer, for any bytes, any number and any buffer. Rules 2.1, 11.11, 12.8, 15.1 and 15.2.
-- Choices: number and place are 0 where nothing is refused; a node that there is not is no refusal, and has an answer of its own; in numbers a node
-- that is there is 1 and one that is not is 0.
use Rattle.std.specs.Prelude.{ℕ, cond, List, [], ◌∷◌, length, ltb, Err, None, Ok, Option, Result, Some}
use Rattle.lists.specs.Slices.{MutSlice}
use Rattle.lists.specs.Choice.{◌⇒◌, first_case}
use Rattle.lists.specs.Lists.{written}
use Rattle.refusals.specs.declared.Refusal.{Refusal}
use Rattle.refusals.specs.declared.Refusal.TheVariants.{ShortBuffer}
use Rattle.refusals.specs.Refusals.{number_of, place_of}
use Rattle.chart.specs.declared.records.RecordFields.{RecordFields}
use Rattle.chart.specs.Chart.{Read, accepted, refused, read_chart, records_in, block_count}

-- ---- one node

-- Rule 15.1: of an accepted chart the fields of rule 2.1, of a node that there is.
abbrev pub node_found : List ℕ → ℕ → Read → Result (Option RecordFields) Refusal
node_found bytes n (accepted chart) = cond (ltb n chart.header.nodes) (Ok (Some (records_in bytes n))) (Ok None)
node_found bytes n (refused refusal) = Err refusal

unfoldable pub node_read : List ℕ → ℕ → Result (Option RecordFields) Refusal
node_read bytes n = node_found bytes n (read_chart bytes)

-- Rule 15.1: the fields in numbers, the size code behind the address.
abbrev pub field_numbers : RecordFields → List ℕ
field_numbers fields = fields.kind ∷ fields.address ∷ fields.size ∷ fields.outs ∷ fields.first ∷ fields.second ∷ []

-- The answer in numbers: number and place, both 0 for no refusal, whether there is such a node, and its fields.
pub record NodeSaid : Type 0 where
  pub number : ℕ
  pub place : ℕ
  pub there : ℕ
  pub fields : List ℕ

-- Rule 12.8, with 0 for a node that there is not, and after a refusal.
abbrev pub node_says : Result (Option RecordFields) Refusal → NodeSaid
node_says (Ok (Some fields)) = record { number = 0; place = 0; there = 1; fields = field_numbers fields }
node_says (Ok None) = record { number = 0; place = 0; there = 0; fields = [] }
node_says (Err refusal) = record { number = number_of refusal; place = place_of refusal; there = 0; fields = [] }

abbrev pub read_node_says : List ℕ → ℕ → NodeSaid
read_node_says bytes n = node_says (node_read bytes n)

-- ---- the blocks

-- The answer, and the list at exit.
pub record BlocksLeft : Type 0 where
  pub answer : Result ℕ Refusal
  pub blocks : List ℕ

-- Rule 15.2: after a refusal the list is as it was.
abbrev pub refuse_blocks : List ℕ → Refusal → BlocksLeft
refuse_blocks lent refusal = record { answer = Err refusal; blocks = lent }

-- Rule 15.2: of an accepted chart refusal 11, or the blocks over the start of the list.
abbrev pub blocks_found : List ℕ → Read → BlocksLeft
blocks_found lent (accepted chart) =
    first_case (refuse_blocks lent) ((ltb (length lent) (block_count chart) ⇒ ShortBuffer) ∷ [])
    (record { answer = Ok (block_count chart); blocks = written chart.blocks lent })
blocks_found lent (refused refusal) = refuse_blocks lent refusal

unfoldable pub blocks_read : List ℕ → List ℕ → BlocksLeft
blocks_read bytes lent = blocks_found lent (read_chart bytes)

-- The answer in numbers: number and place, both 0 for no refusal, and B.
pub record BlocksSaid : Type 0 where
  pub number : ℕ
  pub place : ℕ
  pub blocks : ℕ

-- Rule 12.8: after a refusal B is 0.
abbrev pub blocks_say : Result ℕ Refusal → BlocksSaid
blocks_say (Ok count) = record { number = 0; place = 0; blocks = count }
blocks_say (Err refusal) = record { number = number_of refusal; place = place_of refusal; blocks = 0 }

abbrev pub read_blocks_say : List ℕ → List ℕ → BlocksSaid
read_blocks_say bytes lent = blocks_say (blocks_read bytes lent).answer

-- The answer with the list at exit, as a contract names them.
abbrev pub exit_blocks : MutSlice → Result ℕ Refusal → BlocksLeft
exit_blocks blocks answer = record { answer = answer; blocks = blocks.exit.now }
