-- The unit of soundness: one touch. Where must ages are upper and may ages lower bounds of the ages in a plain cache, they still are
-- after the block is touched in both. It speaks of keys and limits, and of any columns that name blocks.
use mathlib.Core.Bool.{Bool, true, false, cond}
use mathlib.Core.List.{List, []}
use mathlib.Core.Path.{◌≡◌, refl, sym, ap, ◌∙◌, subst}
use Prim.Native.Nat.{ℕ, ◌≤◌, ◌<◌, zero-le}
use native.Mathlib.Decide.{ℕ_discrete}
use native.Mathlib.Omega.{arith}
use borrow.Author.Tests.{eq-eqb, ne_eqb}
use lib.ListN.{length}
use Rattle.cache.specs.Ages.{Columns, Ages, age_of, must_after, may_after, touch_ages, start_ages, Tighter}
use Rattle.cache.specs.Plain.{Cache, touch_set, hits, touch, age, Different, AllOf, Formed}
use Rattle.cache.specs.Bounds.{Bounds}
use Rattle.cache.specs.Laws.{Aged, Named}
use Rattle.cache.proofs.Growing.{grown-above, may-grown-below}
use Rattle.cache.proofs.Places.{age-empty, age-most, age-apart, touch-ages, touch-first, touch-different, touch-own, touch-short, young-has, old-lacks}
use Rattle.cache.proofs.Touching.{touch-must, touch-may}
use Rattle.cache.proofs.Meeting.{start-must, start-may}

-- ---- a touch of the whole cache

module _ (ways key : ℕ → ℕ) (m : ℕ) (cache : Cache) where
  pub touch-here : (set : ℕ) → set ≡ key m → touch ways key m cache set ≡ touch_set (ways set) m (cache set)
  unfolding touch
  touch-here set e = rw (eq-eqb set (key m) e)

  -- Rule 4.4: other sets.
  pub touch-elsewhere : (set : ℕ) → (set ≡ key m → ⊥) → touch ways key m cache set ≡ cache set
  unfolding touch
  touch-elsewhere set e = rw (ne_eqb set (key m) e)

  age-touch : age ways key (touch ways key m cache) m ≡ 0
  unfolding age
  age-touch = rw (touch-here (key m) refl) (touch-first (ways (key m)) m (cache (key m)))

  age-same-set : (block : ℕ) → (block ≡ m → ⊥) → key block ≡ key m → Aged (age ways key cache m) (age ways key cache block) (age ways key (touch ways key m cache) block)
  unfolding age
  age-same-set block apart e = rw (touch-here (key block) e, ← e) (touch-ages m block apart (ways (key block)) (cache (key block)))

  age-other-set : (block : ℕ) → (key block ≡ key m → ⊥) → age ways key (touch ways key m cache) block ≡ age ways key cache block
  unfolding age
  age-other-set block e = rw (touch-elsewhere (key block) e)

  age-absent : (block : ℕ) → (block ≡ m → ⊥) → key block ≡ key m → age ways key cache block ≡ age ways key cache m → age ways key cache block ≡ ways (key block)
  unfolding age
  age-absent block apart e same = age-apart (ways (key block)) block m (cache (key block)) apart (rw (← e) at same)

-- A touch keeps the plain cache's form.
pub touch-formed : (ways key : ℕ → ℕ) (m : ℕ) (cache : Cache) → Formed ways key cache → Formed ways key (touch ways key m cache)
touch-formed ways key m cache formed =
    record {
      short = λ set. at set (λ l. length l ≤ ways set) (λ e. touch-short (ways set) m (cache set)) (formed.short set);
      different = λ set. at set Different (λ e. touch-different (ways set) m (cache set) (formed.different set)) (formed.different set);
      own = λ set. at set (AllOf key set) (λ e. touch-own key set (ways set) m (cache set) (sym e) (formed.own set)) (formed.own set);
    }
  where
    at : (set : ℕ) (P : List ℕ → Type 0) → (set ≡ key m → P (touch_set (ways set) m (cache set))) → P (cache set) → P (touch ways key m cache set)
    at set P here elsewhere = go (ℕ_discrete set (key m))
      where
        go : Dec (set ≡ key m) → P (touch ways key m cache set)
        go (yes e) = subst P (sym (touch-here ways key m cache set e)) (here e)
        go (no e) = subst P (sym (touch-elsewhere ways key m cache set e)) elsewhere

pub age-limit : (ways key : ℕ → ℕ) (cache : Cache) (block : ℕ) → age ways key cache block ≤ ways (key block)
unfolding age
age-limit ways key cache block = age-most (ways (key block)) block (cache (key block))

age-bare : (ways key : ℕ → ℕ) (cache : Cache) (block : ℕ) → cache (key block) ≡ [] → age ways key cache block ≡ ways (key block)
unfolding age
age-bare ways key cache block e = rw e (age-empty (ways (key block)) block)

-- ---- columns that name blocks, and rows that bound their ages

module _ (columns : Columns) (ways key : ℕ → ℕ) (block_at : ℕ → ℕ) where
  -- A row that allows more bounds as well.
  pub bounds-weaker : (a b : Ages) (cache : Cache) → Tighter columns a b → Bounds columns ways key block_at a cache → Bounds columns ways key block_at b cache
  bounds-weaker a b cache tighter bounds =
      record {
        formed = bounds.formed;
        must_above = λ column h. omega (arith, bounds.must_above column h, tighter.must-less column h);
        may_below = λ column h. omega (arith, bounds.may_below column h, tighter.may_more column h);
      }

  -- The start bounds what it allows: anything, or, where it is empty, lists that are.
  pub start-bounds : Named columns ways key block_at → (empty : Bool) (cache : Cache) → Formed ways key cache → (empty ≡ true → (set : ℕ) → cache set ≡ []) → Bounds columns ways key block_at (start_ages columns empty) cache
  start-bounds named empty cache formed bare =
      record {
        formed = formed;
        must_above = λ column h. omega (arith, start-must columns empty column h, named.must-limits column h, age-limit ways key cache (block_at column));
        may_below = λ column h. rw (start-may columns empty column h) (least empty bare column h);
      }
    where
      least : (t : Bool) → (t ≡ true → (set : ℕ) → cache set ≡ []) → (column : ℕ) → column < columns.count → cond t (columns.may_limit column) 0 ≤ age ways key cache (block_at column)
      least true bare column h = omega (arith, named.may-limits column h, age-bare ways key cache (block_at column) (bare refl (key (block_at column))))
      least false bare column h = zero-le

  module _ (named : Named columns ways key block_at) (m : ℕ) (inside : m < columns.count) (a : Ages) (cache : Cache) (bounds : Bounds columns ways key block_at a cache) where
    abbrev after : Cache
    after = touch ways key (block_at m) cache

    module _ (column : ℕ) (h : column < columns.count) where
      abbrev block : ℕ
      block = block_at column

      other_block : (column ≡ m → ⊥) → block ≡ block_at m → ⊥
      other_block other e = other (named.apart column m h inside e)

      same_key : columns.key column ≡ columns.key m → key block ≡ key (block_at m)
      same_key e = named.one_set column m h inside e

      other_key : (columns.key column ≡ columns.key m → ⊥) → key block ≡ key (block_at m) → ⊥
      other_key other e = other (named.one_key column m h inside e)

      must-after : age ways key after block ≤ must_after columns.key m (age_of a.must) column
      unfolding must_after
      must-after = go (ℕ_discrete column m) (ℕ_discrete (columns.key column) (columns.key m))
        where
          go : Dec (column ≡ m) → Dec (columns.key column ≡ columns.key m) → age ways key after block ≤ must_after columns.key m (age_of a.must) column
          go (yes e) d = omega (arith, ap (λ (k : ℕ). age ways key after (block_at k)) e ∙ age-touch ways key (block_at m) cache)
          go (no p) (yes e) =
              rw (ne_eqb column m p, eq-eqb (columns.key column) (columns.key m) e)
              (grown-above _ _ _ (age-same-set ways key (block_at m) cache block (other_block p) (same_key e)) _ _ (bounds.must_above m inside) (bounds.must_above column h))
          go (no p) (no e) =
              rw (ne_eqb column m p, ne_eqb (columns.key column) (columns.key m) e, age-other-set ways key (block_at m) cache block (other_key e))
              (bounds.must_above column h)

      may-after : may_after columns.key columns.may_limit m (age_of a.may) column ≤ age ways key after block
      unfolding may_after
      may-after = go (ℕ_discrete column m) (ℕ_discrete (columns.key column) (columns.key m))
        where
          go : Dec (column ≡ m) → Dec (columns.key column ≡ columns.key m) → may_after columns.key columns.may_limit m (age_of a.may) column ≤ age ways key after block
          go (yes e) d = rw (eq-eqb column m e) zero-le
          go (no p) (yes e) =
              rw (ne_eqb column m p, eq-eqb (columns.key column) (columns.key m) e, named.may-limits column h)
              (may-grown-below _ _ _ (age-same-set ways key (block_at m) cache block (other_block p) (same_key e)) _ _ _ (bounds.may_below m inside) (bounds.may_below column h) (age-limit ways key cache block) (age-absent ways key (block_at m) cache block (other_block p) (same_key e)))
          go (no p) (no e) =
              rw (ne_eqb column m p, ne_eqb (columns.key column) (columns.key m) e, age-other-set ways key (block_at m) cache block (other_key e))
              (bounds.may_below column h)

    -- One touch.
    pub touch-bounds : Bounds columns ways key block_at (touch_ages columns m a) after
    touch-bounds =
        record {
          formed = touch-formed ways key (block_at m) cache bounds.formed;
          must_above = λ column h. rw (touch-must columns m a column h) (must-after column h);
          may_below = λ column h. rw (touch-may columns m a column h) (may-after column h);
        }

    -- A must age below the limit is a hit.
    pub young-hits : age_of a.must m < columns.must_limit m → hits key (block_at m) cache ≡ true
    unfolding hits age
    young-hits young =
        young-has (ways (key (block_at m))) (block_at m) (cache (key (block_at m))) (omega (arith, bounds.must_above m inside, named.must-limits m inside))

    -- A may age at the must limit is a miss.
    pub old-misses : age_of a.may m ≡ columns.must_limit m → hits key (block_at m) cache ≡ false
    unfolding hits age
    old-misses old =
        old-lacks (ways (key (block_at m))) (block_at m) (cache (key (block_at m))) (bounds.formed.short (key (block_at m))) (omega (arith, bounds.may_below m inside, named.must-limits m inside))
