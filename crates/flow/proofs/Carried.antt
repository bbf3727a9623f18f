-- The laws of a flow with something carried along beside its states: what holds at the start, goes on along arrows and outlives a meeting is so of every
-- state that passes bring.
use Prim.Native.Nat.{ℕ}
use Rattle.lists.specs.Lists.{Among}
use Rattle.flow.specs.Flow.{Flow}
use Rattle.flow.specs.Laws.{Laws}

module _ (F : Flow)
    (Carried : ℕ → F.State → Type 0)
    (starts : Carried F.entry F.start)
    (goes : (n t : ℕ) (a : F.State) → Among t (F.arrows n) → Carried n a → Carried t (F.step n a))
    (meets : (n : ℕ) (a b : F.State) → Carried n a → Carried n b → Carried n (F.meet a b))
    (L : Laws F) where
  abbrev pub carrying : Laws F
  carrying =
      record {
        Real = λ n a. L.Real n a × Carried n a;
        entry_inside = L.entry_inside;
        arrows-in = L.arrows-in;
        real_ok = λ n a r. L.real_ok n a r.0;
        real_start = (L.real_start, starts);
        real_step = λ n t a h i r. (L.real_step n t a h i r.0, goes n t a i r.1);
        real_meet = λ n a b r s. (L.real_meet n a b r.0 s.0, meets n a b r.1 s.1);
        below_refl = L.below_refl;
        below_trans = L.below_trans;
        below_both = L.below_both;
        meet_left = λ n a b r s. L.meet_left n a b r.0 s.0;
        meet_right = λ n a b r s. L.meet_right n a b r.0 s.0;
        meet_least = λ n a b c r s. L.meet_least n a b c r.0 s.0;
        monotone = λ n a b h r. L.monotone n a b h r.0;
        same_yes = L.same_yes;
      }
