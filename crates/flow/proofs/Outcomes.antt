-- What a settling comes to: a pass is made at least, passes that all change something are spent, and two settlings agree.
use mathlib.Core.Bool.{Bool, true, false, true≢false}
use mathlib.Core.Path.{◌≡◌, refl, sym, ap, ◌∙◌}
use Prim.Native.Nat.{ℕ, zero, suc, ◌-◌, ◌≤◌, ◌<◌}
use native.Mathlib.Omega.{arith}
use native.Mathlib.Decide.{dec_lt}
use Rattle.flow.specs.Flow.{Flow, Table}
use Rattle.flow.specs.Pass.{Outcome, settled, spent, pass, before, after_passes, settle_from, settle}
use Rattle.flow.specs.Underway.{pass_changes}
use Rattle.flow.proofs.Ending.{settle-after}

module _ (F : Flow) where
  settle_from-least : (f c : ℕ) (T : Table F) (b : Bool) (k : ℕ) (U : Table F) → settle_from F f c T b ≡ settled k U → c ≤ k
  unfolding settle_from
  settle_from-least zero c T false k U e = let q : c ≡ k = cc in omega arith
  settle_from-least zero c T true k U e = let z : ◌≡◌ {A = ℕ} 0 1 = cc in absurd (omega arith)
  settle_from-least (suc f) c T false k U e = let q : c ≡ k = cc in omega arith
  settle_from-least (suc f) c T true k U e = let h = settle_from-least f (suc c) (pass F T).table (pass F T).changed k U e in omega arith

  pub settle-made : (f k : ℕ) (U : Table F) → settle F f ≡ settled k U → 0 < k
  unfolding settle settle_from
  settle-made zero k U e = let z : ◌≡◌ {A = ℕ} 0 1 = cc in absurd (omega arith)
  settle-made (suc f) k U e = settle_from-least f 1 (pass F (before F)).table (pass F (before F)).changed k U e

  -- The last pass made changes nothing.
  settle-last : (f k : ℕ) (U : Table F) → settle F f ≡ settled k U → pass_changes F (k - 1) ≡ false
  settle-last f k U e = (settle-after F f k U e).last (k - 1) (omega (arith, settle-made f k U e))

  pub settle-spent : (f : ℕ) → ((j : ℕ) → j < f → pass_changes F j ≡ true) → settle F f ≡ spent
  settle-spent f all = go (settle F f) refl
    where
      go : (o : Outcome F.State) → settle F f ≡ o → o ≡ spent
      go (settled k U) e =
          let inside : k - 1 < f = omega (arith, settle-made f k U e, (settle-after F f k U e).within) in
          absurd (true≢false (sym (all (k - 1) inside) ∙ settle-last f k U e))
      go spent e = refl

  -- Of two settlings neither makes fewer passes.
  settle-no-fewer : (f g k l : ℕ) (U W : Table F) → settle F f ≡ settled k U → settle F g ≡ settled l W → l ≤ k
  settle-no-fewer f g k l U W d e = go (dec_lt k l)
    where
      go : Dec (k < l) → l ≤ k
      go (yes h) = absurd (true≢false (sym ((settle-after F g l W e).earlier (k - 1) (omega (arith, settle-made f k U d))) ∙ settle-last f k U d))
      go (no h) = omega arith

  pub settle-agree : (f g k l : ℕ) (U W : Table F) → settle F f ≡ settled k U → settle F g ≡ settled l W → (k ≡ l) × (U ≡ W)
  settle-agree f g k l U W d e =
      let same : k ≡ l = omega (arith, settle-no-fewer f g k l U W d e, settle-no-fewer g f l k W U e d) in
      (same, (settle-after F f k U d).table ∙ ap (after_passes F) same ∙ sym (settle-after F g l W e).table)
