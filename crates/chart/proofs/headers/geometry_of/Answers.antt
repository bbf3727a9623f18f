use native.Mathlib.Omega.{arith}
use Rattle.chart.specs.Header.{geometry_of}
use Rattle.chart.proofs.Allowed.{line-bounds, sets-bound, ways-bounds}
use Rattle.chart.proofs.headers.geometry_of.Goals as goal

pub overflow_cast-result : goal.overflow_cast-result
overflow_cast-result c = omega (arith, line-bounds (geometry_of c.args.fields) c.requires)

pub overflow_cast-result-2 : goal.overflow_cast-result-2
overflow_cast-result-2 c = omega (arith, sets-bound (geometry_of c.args.fields) c.requires)

pub overflow_cast-result-3 : goal.overflow_cast-result-3
overflow_cast-result-3 c = omega (arith, ways-bounds (geometry_of c.args.fields) c.requires)
