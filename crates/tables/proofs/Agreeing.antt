-- Ages that agree at each block: what is told of two states is one, and touches keep it so.
use Prim.Native.Nat.{ℕ, ◌≤◌, ◌<◌}
use mathlib.Core.List.{List}
use mathlib.Core.Path.{◌≡◌, refl, sym, ◌∙◌}
use native.Mathlib.Nat.{zero-add}
use native.Mathlib.Omega.{arith}
use Rattle.lists.proofs.Listed.{get_or-list_of}
use Rattle.chart.specs.Geometry.{most_blocks}
use Rattle.cache.specs.Ages.{Columns, Ages, must_after, may_after, touch_ages}
use Rattle.cache.proofs.Touching.{touch-must, touch-may}
use Rattle.rows.specs.Rows.{key_by, may_limit_by, columns_by, age_from, Begins}
use Rattle.tables.specs.Inner.{AgesAgree, ages_from}

pub agree-through : {count : ℕ} (a b c : Ages) → AgesAgree count a b → AgesAgree count b c → AgesAgree count a c
agree-through a b c one other =
    record { must = λ j h. one.must j h ∙ other.must j h; may = λ j h. one.may j h ∙ other.may j h }

-- What a touch does to the first columns depends on them alone.
module _ (count : ℕ) (one other : Columns) (in_one : count ≤ one.count) (in-other : count ≤ other.count)
    (keys : (j : ℕ) → j < count → one.key j ≡ other.key j) (limits : (j : ℕ) → j < count → one.may_limit j ≡ other.may_limit j) where
  pub touch-agrees : (m : ℕ) → m < count → (a b : Ages) → AgesAgree count a b → AgesAgree count (touch_ages one m a) (touch_ages other m b)
  unfolding must_after may_after
  touch-agrees m inside a b agree =
      record {
        must = λ j h. rw (touch-must one m a j (omega arith), touch-must other m b j (omega arith)) (rw (keys j h, keys m inside, agree.must j h, agree.must m inside));
        may = λ j h. rw (touch-may one m a j (omega arith), touch-may other m b j (omega arith)) (rw (keys j h, keys m inside, limits j h, agree.may j h, agree.may m inside));
      }

module _ (count base : ℕ) (must may musts mays : List ℕ) where
  -- Lists that begin with ages that stand elsewhere.
  pub begun-agrees : Begins count musts (age_from base must) → Begins count mays (age_from base may) → AgesAgree count (record { must = musts; may = mays }) (ages_from count base must may)
  begun-agrees one other =
      record {
        must = λ j h. one j h ∙ sym (get_or-list_of count (age_from base must) 0 j h);
        may = λ j h. other j h ∙ sym (get_or-list_of count (age_from base may) 0 j h);
      }

  -- Lists that begin with those ages after a touch.
  module _ (columns : List ℕ) (m : ℕ) (inside : m < count) (few : count ≤ most_blocks) where
    pub touched-agrees : Begins count musts (must_after (key_by columns) m (age_from base must)) → Begins count mays (may_after (key_by columns) (may_limit_by columns) m (age_from base may))
        → AgesAgree count (record { must = musts; may = mays }) (touch_ages (columns_by columns most_blocks) m (ages_from count base must may))
    unfolding must_after may_after
    touched-agrees one other =
        record {
          must = λ j h. one j h ∙ sym (touch-must (columns_by columns most_blocks) m (ages_from count base must may) j (omega arith) ∙ rw (get_or-list_of count (age_from base must) 0 j h, get_or-list_of count (age_from base must) 0 m inside));
          may = λ j h. other j h ∙ sym (touch-may (columns_by columns most_blocks) m (ages_from count base must may) j (omega arith) ∙ rw (get_or-list_of count (age_from base may) 0 j h, get_or-list_of count (age_from base may) 0 m inside));
        }

-- A list taken from its start on.
pub from_start : (count : ℕ) (must may : List ℕ) → AgesAgree count (ages_from count 0 must may) (record { must = must; may = may })
from_start count must may =
    record {
      must = λ j h. get_or-list_of count (age_from 0 must) 0 j h ∙ rw zero-add;
      may = λ j h. get_or-list_of count (age_from 0 may) 0 j h ∙ rw zero-add;
    }

-- A second touch, of lists that begin with what the first left.
pub twice-agrees : (count : ℕ) (columns : List ℕ) (m : ℕ) → m < count → count ≤ most_blocks → (must may first_must first_may : List ℕ) (row after : Ages)
    → AgesAgree count (record { must = must; may = may }) row
    → Begins most_blocks first_must (age_from 0 must) → Begins most_blocks first_may (age_from 0 may)
    → AgesAgree count after (touch_ages (columns_by columns most_blocks) m (ages_from count 0 first_must first_may))
    → AgesAgree count after (touch_ages (columns_by columns most_blocks) m row)
twice-agrees count columns m inside few must may first_must first_may row after first one other second =
    let copied : AgesAgree count (record { must = first_must; may = first_may }) (ages_from count 0 must may) =
    begun-agrees count 0 must may first_must first_may (λ j h. one j (omega arith)) (λ j h. other j (omega arith)) in
    agree-through after _ _ second
    (touch-agrees count (columns_by columns most_blocks) (columns_by columns most_blocks) few few (λ j h. refl) (λ j h. refl) m inside _ row
    (agree-through _ _ row (from_start count first_must first_may) (agree-through _ _ row copied (agree-through _ _ row (from_start count must may) first))))
