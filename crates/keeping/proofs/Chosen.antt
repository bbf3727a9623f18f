-- The blocks that are chosen to share words are of different cache sets, and one of every cache set; and what functions ask of a column then.
use Rattle.std.specs.Prelude.{None, Option, Some}
use Prim.Native.Nat.{ℕ, ◌+◌, ◌^◌, ◌≤◌, ◌<◌}
use mathlib.Core.Bool.{Bool, true, false, cond, not, ◌&&◌, ◌||◌, true≢false}
use mathlib.Core.List.{List}
use mathlib.Core.Logic.{◌⊎◌, inr, ⊎_elim}
use mathlib.Core.Path.{◌≡◌, refl, sym, ap, subst, ◌∙◌}
use native.Mathlib.Decide.{ℕ_discrete}
use native.Mathlib.Omega.{arith}
use borrow.Author.Tests.{lt-ltb, le-ltb, ltb-true, eq-eqb, ne_eqb, eqb-true, eqb-false}
use lib.Arith.{lt_of_le-ne}
use lib.Bits.{bit_and, bit_or, and_le_r}
use lib.Count.{count_trailing_zeros}
use lib.Dec.{eqb, ltb}
use lib.ListN.{get_or, set, length, replicate}
use lib.Seq.{get_or-set_same, get_or-set_other}
use Rattle.lists.proofs.Choice.{and-true}
use Rattle.lists.proofs.Loops.{length-patch, patch-in0}
use Rattle.lists.proofs.Orders.{below_or}
use Rattle.chart.specs.Geometry.{most_blocks}
use Rattle.plan.specs.Listed.{nodes_in, blocks_in, node_in, RecordIn, Drawn}
use Rattle.plan.proofs.Holding.{record-in, record-fits}
use Rattle.bits.specs.Bits.{is_set, without}
use Rattle.keeping.specs.Words.{Grouped, Chosen, Touchable, TouchableBy}
use Rattle.keeping.specs.Columns.{RecordsIn, RecordsTouchable, group_of}
use Rattle.keeping.specs.Choosing.{most_keys, SetsListed, picked, picked_all, TakenOut}
use Rattle.bits.proofs.Bits.{set-and, set-or, set-without, set-none, set-one, trailing-set}
use Rattle.plan.specs.declared.ColumnTouches.{ColumnTouches}

-- What is picked is of the cache set.
picked-member : (members left block : ℕ) → members < 2 ^ 64 → (members ≡ 0 → ⊥) → is_set members (picked members left block) ≡ true
picked-member members left block small some = go (is_set members block) refl (eqb (bit_and left members) 0) refl
  where
    go : (t : Bool) → is_set members block ≡ t → (z : Bool) → eqb (bit_and left members) 0 ≡ z
        → is_set members (cond t block (cond z (count_trailing_zeros 64 members) (count_trailing_zeros 64 (bit_and left members)))) ≡ true
    go true e z d = e
    go false e true d = trailing-set 64 members small some
    go false e false d =
        let less = and_le_r left members in
        let found : is_set (bit_and left members) (count_trailing_zeros 64 (bit_and left members)) ≡ true = trailing-set 64 (bit_and left members) (omega arith) (eqb-false (bit_and left members) 0 d) in
        (and-true (is_set left (count_trailing_zeros 64 (bit_and left members))) (is_set members (count_trailing_zeros 64 (bit_and left members))) (sym (set-and left members (count_trailing_zeros 64 (bit_and left members))) ∙ found)).1

module _ (columns sets : List ℕ) (count : ℕ) (listed : SetsListed columns count sets) (narrow : (key : ℕ) → get_or sets key 0 < 2 ^ 64) (keys : (m : ℕ) → get_or columns m 0 < most_keys) where
  abbrev members_of : ℕ → ℕ
  members_of m = get_or sets (get_or columns m 0) 0

  member : (m column : ℕ) → column < count → is_set (members_of m) column ≡ eqb (get_or columns column 0) (get_or columns m 0)
  member m column h = listed.members (get_or columns m 0) column (keys m) ∙ (rw (lt-ltb column count h))

  some : (m : ℕ) → m < count → members_of m ≡ 0 → ⊥
  some m h e =
      true≢false
      (sym (member m m h ∙ eq-eqb (get_or columns m 0) (get_or columns m 0) refl) ∙ ap (λ (w : ℕ). is_set w m) e ∙ set-none m)

  module _ (left block : ℕ) (inside : block < count) (before chosen : List ℕ) (room : count ≤ length before) (is : chosen ≡ picked_all columns sets left block count before) where
    chosen_is : (m : ℕ) → m < count → get_or chosen m 0 ≡ picked (members_of m) left block
    chosen_is m h = ap (λ (l : List ℕ). get_or l m 0) is ∙ patch-in0 before count (λ k. picked (members_of k) left block) m room h

    both : (m : ℕ) → m < count → (ltb (get_or chosen m 0) count ≡ true) × (eqb (get_or columns (get_or chosen m 0) 0) (get_or columns m 0) ≡ true)
    both m h =
        and-true (ltb (get_or chosen m 0) count) (eqb (get_or columns (get_or chosen m 0) 0) (get_or columns m 0))
        (sym (listed.members (get_or columns m 0) (get_or chosen m 0) (keys m)) ∙ ap (is_set (members_of m)) (chosen_is m h) ∙ picked-member (members_of m) left block (narrow (get_or columns m 0)) (some m h))

    pub chosen-grouped : Grouped count (group_of columns chosen sets)
    chosen-grouped =
        record {
          chosen_room = rw (is, length-patch before 0 count (λ k. picked (members_of k) left block)) room;
          chosen_in = λ m h. ltb-true (get_or chosen m 0) count (both m h).0;
          chosen_key = λ m h. eqb-true (get_or columns (get_or chosen m 0) 0) (get_or columns m 0) (both m h).1;
          chosen_same = λ m k h l e. chosen_is m h ∙ ap (λ (key : ℕ). picked (get_or sets key 0) left block) e ∙ sym (chosen_is k l);
          sets_room = λ m h. let short = keys m in omega (arith, listed.room);
          sets_are = λ m column h l. member m column l;
        }

    pub block-chosen : Chosen chosen block
    block-chosen =
        chosen_is block inside
        ∙ ap (λ (t : Bool). cond t block (cond (eqb (bit_and left (members_of block)) 0) (count_trailing_zeros 64 (members_of block)) (count_trailing_zeros 64 (bit_and left (members_of block)))))
        (member block block inside ∙ eq-eqb (get_or columns block 0) (get_or columns block 0) refl)

pub sets-counted : (columns sets : List ℕ) (count blocks : ℕ) → blocks ≡ count → SetsListed columns blocks sets → SetsListed columns count sets
sets-counted columns sets count blocks same listed = subst (λ (k : ℕ). SetsListed columns k sets) same listed

-- A round: where the count is known by an equation.
pub round-chosen : (columns sets : List ℕ) (count blocks : ℕ) → blocks ≡ count → SetsListed columns count sets → ((key : ℕ) → get_or sets key 0 < 2 ^ 64) → ((m : ℕ) → get_or columns m 0 < most_keys)
    → (left block : ℕ) → block < count → (before chosen : List ℕ) → count ≤ length before → chosen ≡ picked_all columns sets left block blocks before
    → Grouped count (group_of columns chosen sets) × Chosen chosen block
round-chosen columns sets count blocks same listed narrow keys left block inside before chosen room e =
    let is : chosen ≡ picked_all columns sets left block count before = e ∙ ap (λ (k : ℕ). picked_all columns sets left block k before) same in
    (chosen-grouped columns sets count listed narrow keys left block inside before chosen room is, block-chosen columns sets count listed narrow keys left block inside before chosen room is)

-- The same, of a list that was zeros before.
pub new-round : (columns sets : List ℕ) (count blocks : ℕ) → blocks ≡ count → count ≤ most_blocks → SetsListed columns count sets → ((key : ℕ) → get_or sets key 0 < 2 ^ 64) → ((m : ℕ) → get_or columns m 0 < most_keys)
    → (left block : ℕ) → block < count → (chosen : List ℕ) → chosen ≡ picked_all columns sets left block blocks (replicate most_blocks 0)
    → Grouped count (group_of columns chosen sets) × Chosen chosen block
new-round columns sets count blocks same few listed narrow keys left block inside chosen e =
    round-chosen columns sets count blocks same listed narrow keys left block inside (replicate most_blocks 0) chosen few e

-- Some block is chosen where there is one.
pub first-chosen : (count : ℕ) (columns chosen sets : List ℕ) → 0 < count → Grouped count (group_of columns chosen sets) → (get_or chosen 0 0 < count) × Chosen chosen (get_or chosen 0 0)
first-chosen count columns chosen sets some grouped =
    let inside = grouped.chosen_in 0 some in
    (inside, grouped.chosen_same (get_or chosen 0 0) 0 inside some (grouped.chosen_key 0 some))

-- What functions ask.
module _ (columns chosen sets : List ℕ) (count : ℕ) (grouped : Grouped count (group_of columns chosen sets)) (few : count ≤ most_blocks) (long : 192 ≤ length columns) where
  pub column-touchable : (m : ℕ) → m < count → Touchable (group_of columns chosen sets) m
  column-touchable m h =
      record {
        column_in = omega arith;
        columns_room = long;
        chosen_room = omega (arith, grouped.chosen_room);
        chosen_in = let l = grouped.chosen_in m h in omega arith;
        sets_room = grouped.sets_room m h;
      }

  pub record-touchable : (planned : Option ColumnTouches) → RecordIn count planned → TouchableBy (group_of columns chosen sets) planned
  record-touchable None inside = tt
  record-touchable (Some reference) inside = (column-touchable reference.lower inside.0, column-touchable reference.upper inside.1)

-- Of all nodes of a plan.
module _ (columns plan : List ℕ) (drawn : Drawn columns plan) (chosen sets : List ℕ) (grouped : Grouped (blocks_in plan) (group_of columns chosen sets)) (nodes : ℕ) (same : nodes ≡ nodes_in plan) where
  pub records-touchable : RecordsTouchable (group_of columns chosen sets) plan nodes
  records-touchable n h =
      record-touchable columns chosen sets (blocks_in plan) grouped drawn.few_blocks drawn.columns_long (node_in plan n).what (record-in columns plan drawn n (omega arith))

  pub records-in : RecordsIn (length chosen) plan nodes
  records-in n h = record-fits (blocks_in plan) (length chosen) grouped.chosen_room (node_in plan n).what (record-in columns plan drawn n (omega arith))

-- ---- turns of loops

-- One chosen block more is taken out.
pub taken-turn : (chosen : List ℕ) (count left rest m after : ℕ) → after ≡ cond (eqb (get_or chosen m 0) m) (without rest (2 ^ m)) rest → TakenOut chosen count left rest → TakenOut chosen count left after
taken-turn chosen count left rest m after e taken block inside out = go (eqb (get_or chosen m 0) m) refl (ℕ_discrete block m)
  where
    kept : (t : Bool) → eqb (get_or chosen m 0) m ≡ t → (block ≡ m → ⊥) → is_set rest block ≡ false
    kept true d q = one (is_set rest block) (sym (set-without rest (2 ^ m) block ∙ (rw (set-one m block, ne_eqb block m q))) ∙ ap (λ (w : ℕ). is_set w block) (sym (e ∙ (rw d))) ∙ out)
      where
        one : (b : Bool) → (b && not false) ≡ false → b ≡ false
        one true z = z
        one false z = refl
    kept false d q = ap (λ (w : ℕ). is_set w block) (sym (e ∙ (rw d))) ∙ out

    go : (t : Bool) → eqb (get_or chosen m 0) m ≡ t → Dec (block ≡ m) → (is_set left block ≡ false) ⊎ Chosen chosen block
    go true d (yes q) = inr (ap (λ (k : ℕ). get_or chosen k 0) q ∙ eqb-true (get_or chosen m 0) m d ∙ sym q)
    go false d (yes q) = taken block inside (ap (λ (w : ℕ). is_set w block) (sym (e ∙ (rw d))) ∙ out)
    go t d (no q) = taken block inside (kept t d q)

-- One column more stands in its cache set.
ltb_next : (column m : ℕ) → (column ≡ m → ⊥) → ltb column (m + 1) ≡ ltb column m
ltb_next column m q =
    ⊎_elim (λ (l : column < m). lt-ltb column (m + 1) (omega arith) ∙ sym (lt-ltb column m l))
    (λ (l : m ≤ column). let more : m < column = lt_of_le-ne l (λ e. q (sym e)) in le-ltb column (m + 1) (omega arith) ∙ sym (le-ltb column m l)) (below_or column m)

pub sets-turn : (columns sets : List ℕ) (m key word : ℕ) → key ≡ get_or columns m 0 → key < length sets → word ≡ bit_or (get_or sets key 0) (2 ^ m)
    → ((k column : ℕ) → k < most_keys → is_set (get_or sets k 0) column ≡ (ltb column m && eqb (get_or columns column 0) k))
    → (k column : ℕ) → k < most_keys → is_set (get_or (set sets key word) k 0) column ≡ (ltb column (m + 1) && eqb (get_or columns column 0) k)
sets-turn columns sets m key word is room e so_far k column h = go (ℕ_discrete k key) (ℕ_discrete column m)
  where
    or_no : (b : Bool) → (b || false) ≡ b
    or_no true = refl
    or_no false = refl

    or_yes : (b : Bool) → (b || true) ≡ true
    or_yes true = refl
    or_yes false = refl

    and_no : (b : Bool) → (b && false) ≡ false
    and_no true = refl
    and_no false = refl

    here : k ≡ key → is_set (get_or (set sets key word) k 0) column ≡ ((ltb column m && eqb (get_or columns column 0) k) || eqb column m)
    here q =
        ap (λ (w : ℕ). is_set w column) (ap (λ (j : ℕ). get_or (set sets key word) j 0) q ∙ get_or-set_same sets key word 0 room ∙ e)
        ∙ set-or (get_or sets key 0) (2 ^ m) column
        ∙ (λ i. is_set (get_or sets (sym q i) 0) column || set-one m column i)
        ∙ ap (λ (b : Bool). b || eqb column m) (so_far k column h)

    go : Dec (k ≡ key) → Dec (column ≡ m) → is_set (get_or (set sets key word) k 0) column ≡ (ltb column (m + 1) && eqb (get_or columns column 0) k)
    go (yes q) (yes p) =
        here q
        ∙ ap (λ (b : Bool). (ltb column m && eqb (get_or columns column 0) k) || b) (eq-eqb column m p)
        ∙ or_yes (ltb column m && eqb (get_or columns column 0) k)
        ∙ (λ i. sym (lt-ltb column (m + 1) (omega arith)) i && sym (eq-eqb (get_or columns column 0) k (ap (λ (j : ℕ). get_or columns j 0) p ∙ sym is ∙ sym q)) i)
    go (yes q) (no p) =
        here q
        ∙ ap (λ (b : Bool). (ltb column m && eqb (get_or columns column 0) k) || b) (ne_eqb column m p)
        ∙ or_no (ltb column m && eqb (get_or columns column 0) k)
        ∙ ap (λ (b : Bool). b && eqb (get_or columns column 0) k) (sym (ltb_next column m p))
    go (no q) (yes p) =
        let none : eqb (get_or columns column 0) k ≡ false = ne_eqb (get_or columns column 0) k (λ z. q (sym z ∙ ap (λ (j : ℕ). get_or columns j 0) p ∙ sym is)) in
        ap (λ (w : ℕ). is_set w column) (get_or-set_other sets key k word 0 q)
        ∙ so_far k column h
        ∙ ap (λ (b : Bool). ltb column m && b) none
        ∙ and_no (ltb column m)
        ∙ sym (ap (λ (b : Bool). ltb column (m + 1) && b) none ∙ and_no (ltb column (m + 1)))
    go (no q) (no p) =
        ap (λ (w : ℕ). is_set w column) (get_or-set_other sets key k word 0 q)
        ∙ so_far k column h
        ∙ ap (λ (b : Bool). b && eqb (get_or columns column 0) k) (sym (ltb_next column m p))
