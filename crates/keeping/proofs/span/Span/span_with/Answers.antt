use borrow.Author.Tests.{lt-ltb, le-ltb}
use native.Mathlib.Omega.{arith}
use Rattle.keeping.specs.Work.{span_with}
use Rattle.keeping.proofs.span.Span.span_with.Goals as goal

pub returns-then-n-t : goal.returns-then-n-t
unfolding span_with
returns-then-n-t c = let a = c.args in
    rw (lt-ltb a.n a.t c.if-n-t.true) (λ i. record { to = c.max.ensures i; low = a.self.low; high = a.self.high })

pub returns : goal.returns
unfolding span_with
returns c = let a = c.args in
    rw (le-ltb a.n a.t (omega (arith, c.if-n-t.false))) (λ i. record { to = a.self.to; low = c.min.ensures i; high = c.max-2.ensures i })
