-- A span with one node more: it has that node and all that it had, and reaches no further than the nodes.
use Prim.Native.Nat.{ℕ, suc, ◌≤◌, ◌<◌}
use mathlib.Core.Bool.{Bool, true, false}
use mathlib.Core.Logic.{inl, inr}
use mathlib.Core.Path.{◌≡◌, refl}
use native.Mathlib.Omega.{arith}
use borrow.Author.Tests.{ltb-true}
use lib.Dec.{ltb}
use Rattle.keeping.specs.declared.span.Span.{Span}
use Rattle.keeping.specs.Work.{span_with}
use Rattle.keeping.specs.Flood.{Within}

module _ (n t : ℕ) (span : Span) where
  pub span-has : Within (suc n) (span_with n t span) t
  unfolding span_with
  span-has = go (ltb n t) refl
    where
      go : (b : Bool) → ltb n t ≡ b → Within (suc n) (span_with n t span) t
      go true e = let h = ltb-true n t e in rw e (inl (omega arith, omega arith))
      go false e = rw e (inr (omega arith, omega arith))

  pub span-keeps : (m : ℕ) → Within (suc n) span m → Within (suc n) (span_with n t span) m
  unfolding span_with
  span-keeps m w = go (ltb n t) refl w
    where
      go : (b : Bool) → ltb n t ≡ b → Within (suc n) span m → Within (suc n) (span_with n t span) m
      go true e (inl h) = rw e (inl (h.0, omega (arith, h.1)))
      go true e (inr h) = rw e (inr h)
      go false e (inl h) = rw e (inl h)
      go false e (inr h) = rw e (inr (omega (arith, h.0), omega (arith, h.1)))

  pub span-inside : (nodes : ℕ) → t < nodes → span.to ≤ nodes → span.high ≤ nodes → ((span_with n t span).to ≤ nodes) × ((span_with n t span).high ≤ nodes)
  unfolding span_with
  span-inside nodes h to high = go (ltb n t) refl
    where
      go : (b : Bool) → ltb n t ≡ b → ((span_with n t span).to ≤ nodes) × ((span_with n t span).high ≤ nodes)
      go true e = rw e (omega arith, high)
      go false e = rw e (to, omega arith)
