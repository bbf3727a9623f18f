-- Facts in lent lists, as the functions that rule nodes out hold them.
-- Nothing here is a rule of the tool: contracts say in a line what they promise.
use Rattle.facts.specs.Facts.{Facts}
use Rattle.facts.specs.declared.ruling.Listed.{Listed}

abbrev pub facts_in : Listed → Facts
facts_in listed = record { coefficients = listed.coefficients.now; limits = listed.limits.now }
