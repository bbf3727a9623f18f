-- Two states that compare as the same are the same.
use mathlib.Core.Bool.{true}
use mathlib.Core.Path.{◌≡◌}
use Rattle.lists.specs.Lists.{same_row}
use Rattle.lists.proofs.Choice.{and-true}
use Rattle.lists.proofs.Same.{same_row-equal, row_same}
use Rattle.cache.specs.Ages.{Ages, same_ages}

pub same-ages : (a b : Ages) → same_ages a b ≡ true → a ≡ b
unfolding same_ages
same-ages a b e =
    let both = and-true (same_row a.must b.must) (same_row a.may b.may) e in
    let must : a.must ≡ b.must = same_row-equal a.must b.must both.0 in
    let may : a.may ≡ b.may = same_row-equal a.may b.may both.1 in
    λ i. record { must = must i; may = may i }

pub ages-same : (a : Ages) → same_ages a a ≡ true
unfolding same_ages
ages-same a = rw (row_same a.must) (row_same a.may)
