-- Facts and a certificate, as they are asked about; and a certificate beside classes, as the functions that hold it to nodes have it.
-- Nothing here is a rule of the tool: contracts say in a line what they promise.
use Rattle.std.specs.Prelude.{ℕ, List}
use Rattle.facts.specs.Facts.{Facts}
use Rattle.facts.specs.Certificate.{Certificate, Claim}
use Rattle.facts.specs.Listed.{passed_facts, passed_certificate}
use Rattle.certificate.specs.declared.Asked.{Asked}
use Rattle.certificate.specs.declared.visiting.Claimed.{Claimed}
use Rattle.certificate.specs.Bound.{Question}
use Rattle.certificate.specs.Inner.{Lists, passed_lists, plan_claim, plain_claim, price_asks}

abbrev pub facts_in : Asked → Facts
facts_in asked = passed_facts asked.coefficients asked.limits

abbrev pub certificate_in : Asked → Certificate
certificate_in asked = passed_certificate asked.multipliers asked.potentials asked.price.denominator

abbrev pub question_in : Asked → Question
question_in asked = price_asks asked.price (facts_in asked) asked.multipliers.now asked.potentials.now

abbrev pub lists_in : Claimed → Lists
lists_in claimed = passed_lists claimed.classes claimed.coefficients claimed.multipliers claimed.potentials

-- What it claims about a plan's list and marks; and where nodes and arrows are not looked at.
abbrev pub plan_claim_in : Claimed → List ℕ → List ℕ → Claim
plan_claim_in claimed plan marks = plan_claim claimed.price (lists_in claimed) plan marks

abbrev pub plain_claim_in : Claimed → Claim
plain_claim_in claimed = plain_claim claimed.price (lists_in claimed) claimed.nodes
