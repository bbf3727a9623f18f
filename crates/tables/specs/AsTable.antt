-- What a lent table holds. Nothing here is a rule of the tool: contracts name it so.
use Rattle.tables.specs.Lent.{Lent}
use Rattle.tables.specs.declared.lent.Table.{Table}

abbrev pub lent_as : Table → Lent
lent_as table = record { must = table.must.now; may = table.may.now; marks = table.marks.now }
