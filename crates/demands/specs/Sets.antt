-- What is held of a block, by its flags, at every column and number: at the start, after a touch and where two states meet; where there is no state; and
-- which table is lent. Laws of walks and of classes speak of the definitions' names, and these of their numbers. Rules 7.1, 7.2, 16.2, 16.3, 16.5 and
-- 16.8. `sets` in proofs/Sets.antt proves it.
use Rattle.std.specs.Prelude.{ℕ, ◌<◌, Bool, false, cond, ◌&&◌, ◌||◌, List, ◌≡◌, eqb, get_or, length}
use Rattle.cache.specs.Ages.{Columns}
use Rattle.flow.specs.Flow.{blank, holds, cell_at}
use Rattle.layout.specs.Rows.{row_at}
use Rattle.ages.specs.Plan.{Plan}
use Rattle.kept.specs.Since.{Since, is_in, untouched, touch_since, meet_since}
use Rattle.kept.specs.Kept.{kept_table, since_at}
use Rattle.tables.specs.Lent.{Lent, table_of}

pub record Sets : Type 0 where
  pub is-in : (set : List Bool) (column : ℕ) → is_in set column ≡ get_or set column false
  -- rule 16.2
  pub start_long : (count : ℕ) → length (untouched count).others ≡ count
  pub start_untouched : (count : ℕ) → (untouched count).touched ≡ false
  pub start_empty : (count column : ℕ) → column < count → get_or (untouched count).others column false ≡ false
  -- rule 16.3
  pub after_long : (columns : Columns) (block m : ℕ) (since : Since) → length (touch_since columns block m since).others ≡ columns.count
  pub after_touched : (columns : Columns) (block m : ℕ) (since : Since) → (touch_since columns block m since).touched ≡ (eqb m block || since.touched)
  pub after_in : (columns : Columns) (block m : ℕ) (since : Since) (column : ℕ)
      → column < columns.count
      → get_or (touch_since columns block m since).others column false
      ≡ cond (eqb m block) false (get_or since.others column false || (eqb column m && (since.touched && eqb (columns.key m) (columns.key block))))
  -- rule 16.5
  pub met_long : (count : ℕ) (a b : Since) → length (meet_since count a b).others ≡ count
  pub met_touched : (count : ℕ) (a b : Since) → (meet_since count a b).touched ≡ (a.touched || b.touched)
  pub met_in : (count : ℕ) (a b : Since) (column : ℕ)
      → column < count
      → get_or (meet_since count a b).others column false ≡ (get_or a.others column false || get_or b.others column false)
  -- rule 16.8, and what stands in the table of a block
  pub nowhere : (plan : Plan) (column n : ℕ) → cell_at (kept_table plan column) n ≡ blank → since_at plan n column ≡ untouched plan.blocks
  pub somewhere : (plan : Plan) (column n : ℕ) (since : Since) → cell_at (kept_table plan column) n ≡ holds since → since_at plan n column ≡ since
  -- rules 7.1 and 7.2: the table that is lent, node by node
  pub lent-cell : (plan : Plan) (lent : Lent) (n : ℕ)
      → n < plan.nodes
      → cell_at (table_of plan lent) n
      ≡ cond (eqb (get_or lent.marks n 0) 0) blank (holds (record { must = row_at plan.blocks lent.must n; may = row_at plan.blocks lent.may n }))
