-- The meeting of two states: it keeps ages within their limits, and it is the tightest that both are tighter than. And the start.
use mathlib.Core.Bool.{Bool, true, false, cond}
use mathlib.Core.Path.{◌≡◌}
use Prim.Native.Nat.{ℕ, ◌≤◌, ◌<◌, min, max}
use native.Mathlib.Omega.{arith}
use Rattle.lists.proofs.Listed.{length-list_of, get_or-list_of}
use Rattle.cache.specs.Ages.{Columns, Ages, age_of, meet_ages, start_ages, Within, Tighter}

module _ (columns : Columns) (a b : Ages) where
  pub meet-must : (block : ℕ) → block < columns.count → age_of (meet_ages columns a b).must block ≡ max (age_of a.must block) (age_of b.must block)
  unfolding meet_ages
  meet-must block h = get_or-list_of columns.count (λ i. max (age_of a.must i) (age_of b.must i)) 0 block h

  pub meet-may : (block : ℕ) → block < columns.count → age_of (meet_ages columns a b).may block ≡ min (age_of a.may block) (age_of b.may block)
  unfolding meet_ages
  meet-may block h = get_or-list_of columns.count (λ i. min (age_of a.may i) (age_of b.may i)) 0 block h

  pub meet_within : Within columns a → Within columns b → Within columns (meet_ages columns a b)
  unfolding meet_ages
  meet_within f g =
      record {
        must_long = length-list_of columns.count (λ i. max (age_of a.must i) (age_of b.must i));
        may_long = length-list_of columns.count (λ i. min (age_of a.may i) (age_of b.may i));
        must-most = λ block h. omega (arith, meet-must block h, f.must-most block h, g.must-most block h);
        may-most = λ block h. omega (arith, meet-may block h, f.may-most block h);
      }

  pub meet_left : Tighter columns a (meet_ages columns a b)
  meet_left =
      record {
        must-less = λ block h. omega (arith, meet-must block h);
        may_more = λ block h. omega (arith, meet-may block h);
      }

  pub meet_right : Tighter columns b (meet_ages columns a b)
  meet_right =
      record {
        must-less = λ block h. omega (arith, meet-must block h);
        may_more = λ block h. omega (arith, meet-may block h);
      }

  pub meet_least : (c : Ages) → Tighter columns a c → Tighter columns b c → Tighter columns (meet_ages columns a b) c
  meet_least c t u =
      record {
        must-less = λ block h. omega (arith, meet-must block h, t.must-less block h, u.must-less block h);
        may_more = λ block h. omega (arith, meet-may block h, t.may_more block h, u.may_more block h);
      }

pub start-must : (columns : Columns) (empty : Bool) (block : ℕ) → block < columns.count → age_of (start_ages columns empty).must block ≡ columns.must_limit block
unfolding start_ages
start-must columns empty block h = get_or-list_of columns.count columns.must_limit 0 block h

pub start-may : (columns : Columns) (empty : Bool) (block : ℕ) → block < columns.count → age_of (start_ages columns empty).may block ≡ cond empty (columns.may_limit block) 0
unfolding start_ages
start-may columns empty block h = get_or-list_of columns.count (λ i. cond empty (columns.may_limit i) 0) 0 block h

start-may-within : (empty : Bool) (limit : ℕ) → cond empty limit 0 ≤ limit
start-may-within true limit = omega arith
start-may-within false limit = omega arith

pub start-within : (columns : Columns) (empty : Bool) → Within columns (start_ages columns empty)
unfolding start_ages
start-within columns empty =
    record {
      must_long = length-list_of columns.count columns.must_limit;
      may_long = length-list_of columns.count (λ block. cond empty (columns.may_limit block) 0);
      must-most = λ block h. omega (arith, start-must columns empty block h);
      may-most = λ block h. rw (start-may columns empty block h) (start-may-within empty (columns.may_limit block));
    }
