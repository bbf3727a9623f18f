use Prim.Native.Nat.{ℕ}
use mathlib.Core.List.{List}
use mathlib.Core.Path.{◌≡◌}
use Rattle.lists.specs.Loops.{patch}
use Rattle.cache.specs.Ages.{must_after, may_after}
use Rattle.rows.specs.Rows.{key_by, may_limit_by, age_from}
use Rattle.rows.proofs.touch.Given as goal

-- The ages of a row that begins at `base`, after a touch of column m.
abbrev pub must_touched : List ℕ → ℕ → ℕ → List ℕ → ℕ → ℕ
must_touched columns m base row = must_after (key_by columns) m (age_from base row)

abbrev pub may_touched : List ℕ → ℕ → ℕ → List ℕ → ℕ → ℕ
may_touched columns m base row = may_after (key_by columns) (may_limit_by columns) m (age_from base row)

abbrev pub invariant-loop-j : goal.invariant-loop-j
invariant-loop-j l = record {
  musts : l.musts ≡ patch l.initial.musts 0 l.j (must_touched l.columns l.m l.base l.must);
  mays : l.mays ≡ patch l.initial.mays 0 l.j (may_touched l.columns l.m l.base l.may);
}
