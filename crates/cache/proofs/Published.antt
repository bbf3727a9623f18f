-- The ages of the rules are those of the published analysis, line by line.
use mathlib.Core.Logic.{◌⊎◌, inl, inr, ⊎_elim}
use mathlib.Core.Path.{◌≡◌, refl, ◌∙◌}
use mathlib.Core.Bool.{true}
use Prim.Native.Nat.{ℕ, suc, ◌≤◌, ◌<◌, min, max}
use native.Mathlib.Omega.{arith}
use Rattle.lists.proofs.Orders.{below_or, at_most, same_or}
use Rattle.cache.specs.Ages.{age_of, must_after, may_after}
use Rattle.cache.proofs.Cases.{must-own, must-apart, must-younger, must-older, may-own, may-apart, may-younger, may-older}
use Rattle.cache.proofs.Touching.{touch-must, touch-may}
use Rattle.cache.proofs.Meeting.{meet-must, meet-may, start-must, start-may}
use Rattle.cache.specs.Published.{InLine, InSome, MustLines, MayLines, AllShift, MustJoin, MayJoin, Same, AsPublished}

-- A block of age A stands in no line.
none_above : (ways : ℕ) (age : ℕ → ℕ) (block : ℕ) → ways ≤ age block → InSome ways (InLine age) block → ⊥
none_above ways age block old (line, from, to, i) = omega arith

-- ---- the lines: those of a block by the age that the touch leaves it

module _ (age : ℕ → ℕ) (m block line after : ℕ) where
  -- of m itself
  module _ (own : block ≡ m) (same : age block ≡ age m) (first : after ≡ 0) where
    must-lines-own : Same (line ≡ suc after) (MustLines (suc (age m)) m (InLine age) line block)
    must-lines-own = ((λ l. inl (omega arith, own)), back)
      where
        back : MustLines (suc (age m)) m (InLine age) line block → line ≡ suc after
        back (inl (l, o)) = omega arith
        back (inr (inl (a, b, l))) = absurd (omega arith)
        back (inr (inr (inl (l, inl i)))) = absurd (omega arith)
        back (inr (inr (inl (l, inr (i, n))))) = absurd (n own)
        back (inr (inr (inr (l, i)))) = absurd (omega arith)

    may-lines-own : Same (line ≡ suc after) (MayLines (suc (age m)) m (InLine age) line block)
    may-lines-own = ((λ l. inl (omega arith, own)), back)
      where
        back : MayLines (suc (age m)) m (InLine age) line block → line ≡ suc after
        back (inl (l, o)) = omega arith
        back (inr (inl (a, b, l))) = absurd (omega arith)
        back (inr (inr (inl (l, inl i)))) = absurd (omega arith)
        back (inr (inr (inl (l, inr (i, n))))) = absurd (n own)
        back (inr (inr (inr (l, i)))) = absurd (omega arith)

    shift-own : (ways : ℕ) → line ≤ ways → ways ≤ age m → Same (line ≡ suc after) (AllShift m (InLine age) line block)
    shift-own ways to w = ((λ l. inl (omega arith, own)), back)
      where
        back : AllShift m (InLine age) line block → line ≡ suc after
        back (inl (l, o)) = omega arith
        back (inr (l, i)) = absurd (omega arith)

  -- of another block
  module _ (other : block ≡ m → ⊥) where
    must-lines-younger : age block < age m → after ≡ suc (age block) → Same (line ≡ suc after) (MustLines (suc (age m)) m (InLine age) line block)
    must-lines-younger young e = (onward, back)
      where
        onward : line ≡ suc after → MustLines (suc (age m)) m (InLine age) line block
        onward l = ⊎_elim (λ (b : line < suc (age m)). inr (inl (omega arith, b, omega arith))) (λ (b : suc (age m) ≤ line). inr (inr (inl (omega arith, inl (omega arith))))) (below_or line (suc (age m)))

        back : MustLines (suc (age m)) m (InLine age) line block → line ≡ suc after
        back (inl (l, o)) = absurd (other o)
        back (inr (inl (a, b, l))) = omega arith
        back (inr (inr (inl (l, inl i)))) = omega arith
        back (inr (inr (inl (l, inr (i, n))))) = absurd (omega arith)
        back (inr (inr (inr (l, i)))) = absurd (omega arith)

    must-lines-older : age m ≤ age block → after ≡ age block → Same (line ≡ suc after) (MustLines (suc (age m)) m (InLine age) line block)
    must-lines-older old e = (onward, back)
      where
        onward : line ≡ suc after → MustLines (suc (age m)) m (InLine age) line block
        onward l = ⊎_elim (λ (b : suc (age m) < line). inr (inr (inr (b, omega arith)))) (λ (b : line ≤ suc (age m)). inr (inr (inl (omega arith, inr (omega arith, other))))) (below_or (suc (age m)) line)

        back : MustLines (suc (age m)) m (InLine age) line block → line ≡ suc after
        back (inl (l, o)) = absurd (other o)
        back (inr (inl (a, b, l))) = absurd (omega arith)
        back (inr (inr (inl (l, inl i)))) = absurd (omega arith)
        back (inr (inr (inl (l, inr (i, n))))) = omega arith
        back (inr (inr (inr (l, i)))) = omega arith

    -- within the lines there are, the limit is not reached
    may-lines-younger : (ways : ℕ) → line ≤ ways → age block ≤ age m → after ≡ min ways (suc (age block)) → Same (line ≡ suc after) (MayLines (suc (age m)) m (InLine age) line block)
    may-lines-younger ways to young e = (onward, back)
      where
        onward : line ≡ suc after → MayLines (suc (age m)) m (InLine age) line block
        onward l = ⊎_elim (λ (b : line ≤ suc (age m)). inr (inl (omega arith, b, omega arith))) (λ (b : suc (age m) < line). inr (inr (inl (omega arith, inr (omega arith, other))))) (at_most line (suc (age m)))

        back : MayLines (suc (age m)) m (InLine age) line block → line ≡ suc after
        back (inl (l, o)) = absurd (other o)
        back (inr (inl (a, b, l))) = omega arith
        back (inr (inr (inl (l, inl i)))) = absurd (omega arith)
        back (inr (inr (inl (l, inr (i, n))))) = omega arith
        back (inr (inr (inr (l, i)))) = absurd (omega arith)

    may-lines-older : age m < age block → after ≡ age block → Same (line ≡ suc after) (MayLines (suc (age m)) m (InLine age) line block)
    may-lines-older old e = (onward, back)
      where
        onward : line ≡ suc after → MayLines (suc (age m)) m (InLine age) line block
        onward l = ⊎_elim (λ (b : suc (suc (age m)) < line). inr (inr (inr (b, omega arith)))) (λ (b : line ≤ suc (suc (age m))). inr (inr (inl (omega arith, inl (omega arith))))) (below_or (suc (suc (age m))) line)

        back : MayLines (suc (age m)) m (InLine age) line block → line ≡ suc after
        back (inl (l, o)) = absurd (other o)
        back (inr (inl (a, b, l))) = absurd (omega arith)
        back (inr (inr (inl (l, inl i)))) = omega arith
        back (inr (inr (inl (l, inr (i, n))))) = absurd (omega arith)
        back (inr (inr (inr (l, i)))) = omega arith

    -- a line up, or no line before and after
    shift-other : (ways : ℕ) → line ≤ ways → (after ≡ suc (age block)) ⊎ ((ways ≤ age block) × (ways ≤ after)) → Same (line ≡ suc after) (AllShift m (InLine age) line block)
    shift-other ways to grown = (onward grown, back grown)
      where
        onward : (after ≡ suc (age block)) ⊎ ((ways ≤ age block) × (ways ≤ after)) → line ≡ suc after → AllShift m (InLine age) line block
        onward (inl e) l = inr (omega arith, omega arith)
        onward (inr (x, y)) l = absurd (omega arith)

        back : (after ≡ suc (age block)) ⊎ ((ways ≤ age block) × (ways ≤ after)) → AllShift m (InLine age) line block → line ≡ suc after
        back g (inl (l, o)) = absurd (other o)
        back (inl e) (inr (l, i)) = omega arith
        back (inr (x, y)) (inr (l, i)) = absurd (omega arith)

-- ---- a touch, line by line

module _ (ways : ℕ) (key age : ℕ → ℕ) (m block line : ℕ) (to : line ≤ ways) where
  must_seen : key block ≡ key m → Same (InLine (must_after key m age) line block) (MustLines (suc (age m)) m (InLine age) line block)
  must_seen k =
      ⊎_elim
      (λ (own : block ≡ m). must-lines-own age m block line (must_after key m age block) own (rw own refl) (must-own key age m block own))
      (λ (other : block ≡ m → ⊥).
      ⊎_elim
      (λ (young : age block < age m). must-lines-younger age m block line (must_after key m age block) other young (must-younger key age m block k other young))
      (λ (old : age m ≤ age block). must-lines-older age m block line (must_after key m age block) other old (must-older key age m block k other old))
      (below_or (age block) (age m)))
      (same_or block m)

  must_new : key block ≡ key m → ways ≤ age m → Same (InLine (must_after key m age) line block) (AllShift m (InLine age) line block)
  must_new k w =
      ⊎_elim
      (λ (own : block ≡ m). shift-own age m block line (must_after key m age block) own (rw own refl) (must-own key age m block own) ways to w)
      (λ (other : block ≡ m → ⊥).
      ⊎_elim
      (λ (young : age block < age m). shift-other age m block line (must_after key m age block) other ways to (inl (must-younger key age m block k other young)))
      (λ (old : age m ≤ age block). shift-other age m block line (must_after key m age block) other ways to (let e = must-older key age m block k other old in inr (omega arith, omega arith)))
      (below_or (age block) (age m)))
      (same_or block m)

  module _ (limit : ℕ → ℕ) (at : limit block ≡ ways) where
    may_seen : key block ≡ key m → Same (InLine (may_after key limit m age) line block) (MayLines (suc (age m)) m (InLine age) line block)
    may_seen k =
        ⊎_elim
        (λ (own : block ≡ m). may-lines-own age m block line (may_after key limit m age block) own (rw own refl) (may-own key age m block limit own))
        (λ (other : block ≡ m → ⊥).
        ⊎_elim
        (λ (young : age block ≤ age m). may-lines-younger age m block line (may_after key limit m age block) other ways to young (let e = may-younger key age m block limit k other young in omega arith))
        (λ (old : age m < age block). may-lines-older age m block line (may_after key limit m age block) other old (may-older key age m block limit k other old))
        (at_most (age block) (age m)))
        (same_or block m)

    may_new : key block ≡ key m → ways ≤ age m → Same (InLine (may_after key limit m age) line block) (AllShift m (InLine age) line block)
    may_new k w =
        ⊎_elim
        (λ (own : block ≡ m). shift-own age m block line (may_after key limit m age block) own (rw own refl) (may-own key age m block limit own) ways to w)
        (λ (other : block ≡ m → ⊥).
        ⊎_elim
        (λ (young : age block ≤ age m). shift-other age m block line (may_after key limit m age block) other ways to (let e = may-younger key age m block limit k other young in ⊎_elim (λ (s : suc (age block) ≤ ways). inl (omega arith)) (λ (s : ways < suc (age block)). inr (omega arith, omega arith)) (at_most (suc (age block)) ways)))
        (λ (old : age m < age block). shift-other age m block line (may_after key limit m age block) other ways to (let e = may-older key age m block limit k other old in inr (omega arith, omega arith)))
        (at_most (age block) (age m)))
        (same_or block m)

-- ---- two states, line by line

module _ (ways : ℕ) (age other : ℕ → ℕ) (block line : ℕ) (to : line ≤ ways) where
  must_met : Same (line ≡ suc (max (age block) (other block))) (MustJoin ways (InLine age) (InLine other) line block)
  must_met = ((λ l. (suc (age block), suc (other block), omega arith, omega arith, refl, refl, omega arith)), back)
    where
      back : MustJoin ways (InLine age) (InLine other) line block → line ≡ suc (max (age block) (other block))
      back (a, b, x, y, i, j, l) = omega arith

  may_met : Same (line ≡ suc (min (age block) (other block))) (MayJoin ways (InLine age) (InLine other) line block)
  may_met = (onward, back)
    where
      onward : line ≡ suc (min (age block) (other block)) → MayJoin ways (InLine age) (InLine other) line block
      onward l =
          ⊎_elim
          (λ (a : age block < ways).
          ⊎_elim
          (λ (b : other block < ways). inl (suc (age block), suc (other block), omega arith, omega arith, refl, refl, omega arith))
          (λ (b : ways ≤ other block). inr (inl (omega arith, none_above ways other block b)))
          (below_or (other block) ways))
          (λ (a : ways ≤ age block). inr (inr (omega arith, none_above ways age block a)))
          (below_or (age block) ways)

      back : MayJoin ways (InLine age) (InLine other) line block → line ≡ suc (min (age block) (other block))
      back (inl (a, b, x, y, i, j, l)) = omega arith
      back (inr (inl (i, none))) = ⊎_elim (λ (b : other block < ways). absurd (none (suc (other block), omega arith, omega arith, refl))) (λ (b : ways ≤ other block). omega arith) (below_or (other block) ways)
      back (inr (inr (i, none))) = ⊎_elim (λ (b : age block < ways). absurd (none (suc (age block), omega arith, omega arith, refl))) (λ (b : ways ≤ age block). omega arith) (below_or (age block) ways)

below_in : (ways : ℕ) (age : ℕ → ℕ) (block : ℕ) → Same (age block < ways) (InSome ways (InLine age) block)
below_in ways age block = ((λ b. (suc (age block), omega arith, omega arith, refl)), back)
  where
    back : InSome ways (InLine age) block → age block < ways
    back (l, x, y, i) = omega arith

-- In no line: the age is A, or above.
none_old : (ways : ℕ) (age : ℕ → ℕ) (block : ℕ) → (InSome ways (InLine age) block → ⊥) → ways ≤ age block
none_old ways age block none = ⊎_elim (λ (b : age block < ways). absurd (none ((below_in ways age block).0 b))) (λ (b : ways ≤ age block). b) (below_or (age block) ways)

-- ---- of columns and states

-- A line that goes by an age, and by another that is the same.
by-age : (line age other : ℕ) (T : Type 0) → age ≡ other → Same (line ≡ suc other) T → Same (line ≡ suc age) T
by-age line age other T e s = ((λ l. s.0 (omega arith)), (λ t. let l = s.1 t in omega arith))

pub as-published : AsPublished
as-published columns ways m block line a inside must-limit may-limit to =
    let key = columns.key in
    let must = age_of a.must in
    let may = age_of a.may in
    record {
      must_seen = λ k seen. by-age line _ _ _ (touch-must columns m a block inside) (must_seen ways key must m block line to k);
      must_new = λ k none. by-age line _ _ _ (touch-must columns m a block inside) (must_new ways key must m block line to k (none_old ways must m none));
      may_seen = λ k seen. by-age line _ _ _ (touch-may columns m a block inside) (may_seen ways key may m block line to columns.may_limit may-limit k);
      may_new = λ k none. by-age line _ _ _ (touch-may columns m a block inside) (may_new ways key may m block line to columns.may_limit may-limit k (none_old ways may m none));
      must_other = λ apart. touch-must columns m a block inside ∙ must-apart key must m block apart;
      may_other = λ apart. touch-may columns m a block inside ∙ may-apart key may m block columns.may_limit apart;
      must_met = λ b. by-age line _ _ _ (meet-must columns a b block inside) (must_met ways must (age_of b.must) block line to);
      may_met = λ b. by-age line _ _ _ (meet-may columns a b block inside) (may_met ways may (age_of b.may) block line to);
      must_start = λ empty l. let e = start-must columns empty block inside in omega arith;
      may_start = λ l. let e = start-may columns true block inside in omega arith;
      in_some = λ age. below_in ways age block;
    }
