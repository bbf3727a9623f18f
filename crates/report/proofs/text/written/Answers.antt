use mathlib.Core.Path.{refl}
use native.Mathlib.Omega.{arith}
use borrow.Author.Rules.{rules}
use Rattle.report.proofs.Zeros.{text-put}
use Rattle.report.proofs.text.written.Goals as goal

pub returns-clause-value : goal.returns-clause-value
returns-clause-value c =
    let done = c.put_report.ensures in
    text-put (search rules) done refl refl (omega arith) c.is_err-refused.ensures.value
