use Rattle.report.proofs.Digits.{digits-none, digits-one, digits_more}
use Rattle.report.proofs.puts.Line.+put_digits.Goals.{then-n-ge10, else-n-ge10}
use Rattle.report.proofs.puts.Line.+put_digits.Goals as goal

pub returns-then-digits-eq0 : goal.returns-then-digits-eq0
returns-then-digits-eq0 t c = digits-none c.args.digits c.args.n c.args.self.now c.if-digits-eq0.true

pub returns : goal.returns
returns t c =
    let a = c.args in
    let some = c.if-digits-eq0.false in
    let last = c.put_byte.ensures in
    elim c.if-n-ge10.branch [
      | then-n-ge10 w ↦ digits_more a.digits a.n some w.if-n-ge10.true w.put_digits.ensures (rw w.self-is at last)
      | else-n-ge10 w ↦ digits-one a.digits a.n some w.if-n-ge10.false (rw w.self-is at last)
    ]
