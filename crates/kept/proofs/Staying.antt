-- What is held of one block is true of the plain cache: at the start, after each touch, and where more is held. A block that this walk has touched, and
-- whose set since has fewer members than the set has ways, is found.
use Prim.Native.Nat.{ℕ, ◌<◌}
use mathlib.Core.Bool.{Bool, true, false, ◌||◌}
use mathlib.Core.Path.{◌≡◌, refl, sym, ap}
use native.Mathlib.Decide.{ℕ_discrete}
use native.Mathlib.Omega.{arith}
use borrow.Author.Tests.{ltb-true, ne_eqb}
use lib.Dec.{eqb}
use Rattle.cache.specs.Ages.{Columns}
use Rattle.cache.specs.Plain.{Cache, hits, touch, Formed}
use Rattle.cache.specs.Laws.{Named}
use Rattle.cache.proofs.Places.{young-has}
use Rattle.cache.proofs.Bounding.{touch-here, touch-elsewhere, touch-formed}
use Rattle.ages.specs.Plan.{Plan, columns_of}
use Rattle.kept.specs.Since.{Since, is_in, members, touch_since, SinceLess}
use Rattle.kept.specs.Kept.{stays_by}
use Rattle.kept.specs.Younger.{Younger, InSet, SinceTrue}
use Rattle.kept.proofs.Adding.{stays-in, comes-in}
use Rattle.kept.proofs.Younger.{younger-more, touch-own, touch-other, age-flagged}

-- ---- what is held is true

module _ (columns : Columns) (ways key block_at : ℕ → ℕ) (block : ℕ) where
  -- A walk that has not touched the block yet, whatever is held of it.
  pub since-start : (since : Since) (cache : Cache) → Formed ways key cache → SinceTrue columns ways key block_at block since false cache
  since-start since cache formed =
      record {
        formed = formed;
        touched = λ e. let z : ◌≡◌ {A = ℕ} 0 1 = cc in absurd (omega arith);
        younger = λ e. let z : ◌≡◌ {A = ℕ} 0 1 = cc in absurd (omega arith);
      }

  -- Where more is held.
  pub since-weaker : (a b : Since) (noted : Bool) (cache : Cache) → SinceLess columns.count a b
      → SinceTrue columns ways key block_at block a noted cache → SinceTrue columns ways key block_at block b noted cache
  since-weaker a b noted cache less says =
      record {
        formed = says.formed;
        touched = λ e. less.touched (says.touched e);
        younger = λ e.
            younger-more (ways (key (block_at block))) (block_at block) (cache (key (block_at block))) (InSet columns block_at a) (InSet columns block_at b) more
            (says.younger e);
      }
    where
      more : (x : ℕ) → InSet columns block_at a x → InSet columns block_at b x
      more x f = record { column = f.column; inside = f.inside; names = f.names; flagged = less.others f.column f.inside f.flagged }

  -- Rule 8.1: fewer members than ways is a hit, once this walk has touched the block.
  pub since-hits : (since : Since) (cache : Cache) → SinceTrue columns ways key block_at block since true cache
      → members columns.count since < ways (key (block_at block)) → hits key (block_at block) cache ≡ true
  unfolding hits members
  since-hits since cache says few =
      let set = key (block_at block) in
      let different = says.formed.different set in
      let most = age-flagged columns.count block_at (ways set) (block_at block) (cache set) (is_in since.others) different (says.younger refl) in
      young-has (ways set) (block_at block) (cache set) (omega arith)

  -- One touch, which is noted if it is of the block.
  module _ (named : Named columns ways key block_at) (inside : block < columns.count) (m : ℕ) (m-inside : m < columns.count)
      (since : Since) (noted : Bool) (cache : Cache) (says : SinceTrue columns ways key block_at block since noted cache) where
    abbrev after : Since
    after = touch_since columns block m since

    abbrev YoungerIn : Cache → Type 0
    YoungerIn c = Younger (ways (key (block_at block))) (c (key (block_at block))) (block_at block) (InSet columns block_at after)

    still : (m ≡ block → ⊥) → (x : ℕ) → InSet columns block_at since x → InSet columns block_at after x
    still apart x f =
        record {
          column = f.column;
          inside = f.inside;
          names = f.names;
          flagged = stays-in columns block m since apart f.column f.inside f.flagged;
        }

    touched-after : (eqb m block || noted) ≡ true → after.touched ≡ true
    unfolding touch_since
    touched-after h = go (eqb m block) h
      where
        go : (t : Bool) → (t || noted) ≡ true → (t || since.touched) ≡ true
        go true h = refl
        go false h = says.touched h

    younger-own : m ≡ block → YoungerIn (touch ways key (block_at m) cache)
    younger-own e =
        rw (touch-here ways key (block_at m) cache (key (block_at block)) (ap (λ (k : ℕ). key (block_at k)) (sym e)))
        (touch-own (ways (key (block_at block))) (block_at m) (block_at block) (cache (key (block_at block))) (InSet columns block_at after) (ap block_at e))

    younger-other : (m ≡ block → ⊥) → noted ≡ true → YoungerIn (touch ways key (block_at m) cache)
    younger-other apart note = go (ℕ_discrete (key (block_at block)) (key (block_at m)))
      where
        before : YoungerIn cache
        before =
            younger-more (ways (key (block_at block))) (block_at block) (cache (key (block_at block))) (InSet columns block_at since) (InSet columns block_at after)
            (still apart) (says.younger note)

        added : key (block_at block) ≡ key (block_at m) → InSet columns block_at after (block_at m)
        added e =
            record {
              column = m;
              inside = m-inside;
              names = refl;
              flagged = comes-in columns block m since apart m-inside (says.touched note) (named.one_key m block m-inside inside (sym e));
            }

        go : Dec (key (block_at block) ≡ key (block_at m)) → YoungerIn (touch ways key (block_at m) cache)
        go (yes e) =
            rw (touch-here ways key (block_at m) cache (key (block_at block)) e)
            (touch-other (ways (key (block_at block))) (block_at m) (block_at block) (cache (key (block_at block))) (InSet columns block_at after)
            (λ q. apart (sym (named.apart block m inside m-inside q))) (added e) before)
        go (no e) = rw (touch-elsewhere ways key (block_at m) cache (key (block_at block)) e) before

    younger-after : (eqb m block || noted) ≡ true → YoungerIn (touch ways key (block_at m) cache)
    younger-after h = go (ℕ_discrete m block)
      where
        go : Dec (m ≡ block) → YoungerIn (touch ways key (block_at m) cache)
        go (yes e) = younger-own e
        go (no e) = younger-other e (rw (ne_eqb m block e) at h)

    pub since-touch : SinceTrue columns ways key block_at block (touch_since columns block m since) (eqb m block || noted) (touch ways key (block_at m) cache)
    since-touch = record { formed = touch-formed ways key (block_at m) cache says.formed; touched = touched-after; younger = younger-after }

-- Rule 8.1: what stays by its set is found, once this walk has touched it.
pub stays-found : (plan : Plan) (ways key block_at : ℕ → ℕ) → Named (columns_of plan) ways key block_at → (block : ℕ) → block < plan.blocks
    → (since : Since) (cache : Cache) → SinceTrue (columns_of plan) ways key block_at block since true cache
    → stays_by plan block since ≡ true → hits key (block_at block) cache ≡ true
unfolding stays_by
stays-found plan ways key block_at named block inside since cache says stays =
    let few = ltb-true (members plan.blocks since) ((columns_of plan).may_limit block) stays in
    since-hits (columns_of plan) ways key block_at block since cache says (omega (arith, named.may-limits block inside))
