-- Words held to the states that they stand for: no touch yet, a touch, a node's touches, two that meet, and the members of the set.
use mathlib.Core.Bool.{Bool, true, false, cond, not, ◌&&◌, ◌||◌}
use mathlib.Core.List.{List, [], ◌∷◌}
use mathlib.Core.Logic.{inl, inr}
use mathlib.Core.Path.{◌≡◌, refl, sym, ap, ◌∙◌}
use Prim.Native.Nat.{ℕ, ◌-◌, ◌^◌, ◌<◌}
use native.Mathlib.Decide.{ℕ_discrete}
use native.Mathlib.Omega.{arith}
use borrow.Author.Tests.{eq-eqb, ne_eqb, eqb-true, eqb-false}
use lib.Bits.{bit_and, bit_or, or_lt, xor_lt, and_le_l}
use lib.Count.{ones}
use lib.Dec.{eqb}
use lib.ListN.{get_or}
use lib.Pow.{pow-lt}
use Rattle.lists.specs.Lists.{sum_of, Among}
use Rattle.lists.proofs.Choice.{and_last}
use Rattle.lists.proofs.Listed.{length-list_of, get_or-list_of, list_of-same}
use Rattle.lists.proofs.Sums.{sum-equal}
use Rattle.cache.specs.Ages.{Columns}
use Rattle.flow.specs.Walk.{in_turn}
use Rattle.ages.specs.Plan.{ColumnTouch}
use Rattle.kept.specs.Since.{Since, is_in, members, untouched, in_after, touch_since, meet_since, SinceFits}
use Rattle.bits.specs.Bits.{bit_at, is_set, without}
use Rattle.keeping.specs.Words.{Group, chosen_for, key_of, set_bits, Grouped, Chosen, since_in, word_touched, word_after_touch}
use Rattle.bits.proofs.Bits.{bit_is, set-and, set-or, set-without, set-none, set-one}
use Rattle.keeping.proofs.Ones.{others-and-own}

module _ (cols : Columns) (block : ℕ) where
  -- Which columns are in the set that a word has.
  abbrev other : ℕ → ℕ → Bool
  other word column = not (eqb column block) && (eqb (cols.key column) (cols.key block) && is_set word column)

  in-set : (word column : ℕ) → column < cols.count → is_in (since_in cols block word).others column ≡ other word column
  unfolding since_in
  in-set word column h = get_or-list_of cols.count (other word) false column h

  -- A word holds a state of the block.
  pub word_fits : (word : ℕ) → block < cols.count → SinceFits cols.count block (since_in cols block word)
  unfolding since_in
  word_fits word inside = record { long = length-list_of cols.count (other word); own = in-set word block inside ∙ (rw (eq-eqb block block refl)) }

  not-and : (t : Bool) → (t && false) ≡ false
  not-and true = refl
  not-and false = refl

  pub word_none : since_in cols block 0 ≡ untouched cols.count
  unfolding since_in untouched
  word_none =
      λ i. record { touched = set-none block i; others = list_of-same cols.count (other 0) (λ column. false) (λ column h. rw (set-none column, not-and (eqb (cols.key column) (cols.key block))) (not-and (not (eqb column block)))) i }

  -- ---- two words together

  both-in : (s t a b : Bool) → (s && (t && (a || b))) ≡ ((s && (t && a)) || (s && (t && b)))
  both-in true true a b = refl
  both-in true false a b = refl
  both-in false t a b = refl

  pub word-meets : (a b : ℕ) → since_in cols block (bit_or a b) ≡ meet_since cols.count (since_in cols block a) (since_in cols block b)
  unfolding since_in meet_since
  word-meets a b =
      λ i. record { touched = set-or a b block i; others = list_of-same cols.count (other (bit_or a b)) (λ column. is_in (since_in cols block a).others column || is_in (since_in cols block b).others column) (λ column h. rw (in-set a column h, in-set b column h, set-or a b column) (both-in (not (eqb column block)) (eqb (cols.key column) (cols.key block)) (is_set a column) (is_set b column))) i }

  -- ---- how many are in the set

  pub word-members : (set word : ℕ) → ((column : ℕ) → column < cols.count → is_set set column ≡ eqb (cols.key column) (cols.key block)) → word < 2 ^ cols.count → block < cols.count
      → members cols.count (since_in cols block word) ≡ ones (bit_and word set) - bit_at (bit_and word set) block
  unfolding members
  word-members set word is small inside =
      let each : members cols.count (since_in cols block word) ≡ sum_of cols.count (λ j. cond (eqb j block) 0 (bit_at (bit_and word set) j)) =
      sum-equal cols.count (λ j. cond (is_in (since_in cols block word).others j) 1 0) (λ j. cond (eqb j block) 0 (bit_at (bit_and word set) j)) (λ j h. rw (in-set word j h) (counted j h (eqb j block))) in
      let all = others-and-own cols.count (bit_and word set) block (let l = and_le_l word set in omega arith) inside in
      omega arith
    where
      turned : (s t : Bool) → (s && t) ≡ (t && s)
      turned true true = refl
      turned true false = refl
      turned false true = refl
      turned false false = refl

      counted : (j : ℕ) → j < cols.count → (t : Bool) → cond (not t && (eqb (cols.key j) (cols.key block) && is_set word j)) 1 0 ≡ cond t 0 (bit_at (bit_and word set) j)
      counted j h true = refl
      counted j h false =
          ap (λ (b : Bool). cond b 1 0) (turned (eqb (cols.key j) (cols.key block)) (is_set word j) ∙ ap (λ (b : Bool). is_set word j && b) (sym (is j h)) ∙ sym (set-and word set j))
          ∙ sym (bit_is (bit_and word set) j)

-- ---- a touch

or_no : (t : Bool) → (t || false) ≡ t
or_no true = refl
or_no false = refl

and_no : (t : Bool) → (t && false) ≡ false
and_no true = refl
and_no false = refl

module _ (group : Group) (cols : Columns) (keys : (column : ℕ) → column < cols.count → cols.key column ≡ get_or group.columns column 0) (grouped : Grouped cols.count group)
    (block : ℕ) (inside : block < cols.count) (own : Chosen group.chosen block) (m : ℕ) (there : m < cols.count) (word : ℕ) where
  abbrev after : ℕ
  after = word_touched group m word

  abbrev same_key : ℕ → ℕ → Bool
  same_key a b = eqb (key_of group a) (key_of group b)

  -- A touch changes no bit of another cache set.
  touch-elsewhere : (column : ℕ) → column < cols.count → (key_of group column ≡ key_of group m → ⊥) → is_set after column ≡ is_set word column
  unfolding word_touched
  touch-elsewhere column h apart = go (eqb (chosen_for group m) m) (is_set word (chosen_for group m))
    where
      other-column : eqb column m ≡ false
      other-column = ne_eqb column m (λ e. apart (ap (key_of group) e))

      keep : (b : Bool) → (b && not false) ≡ b
      keep true = refl
      keep false = refl

      go : (t s : Bool) → is_set (cond t (bit_or (without word (set_bits group m)) (2 ^ m)) (cond s (bit_or word (2 ^ m)) word)) column ≡ is_set word column
      go true s =
          rw (set-or (without word (set_bits group m)) (2 ^ m) column, set-one m column, other-column, set-without word (set_bits group m) column, grouped.sets_are m column there h, ne_eqb (key_of group column) (key_of group m) apart, keep (is_set word column))
          (or_no (is_set word column))
      go false true = rw (set-or word (2 ^ m) column, set-one m column, other-column) (or_no (is_set word column))
      go false false = refl

  -- A bit of the block's own cache set.
  bit-after : (column : ℕ) → column < cols.count → key_of group column ≡ key_of group block
      → is_set after column ≡ cond (eqb m block) (eqb column block) (is_set word column || (eqb column m && (is_set word block && same_key m block)))
  unfolding word_touched
  bit-after column h same = go (ℕ_discrete m block) (ℕ_discrete (key_of group m) (key_of group block))
    where
      empties : m ≡ block → is_set after column ≡ eqb column block
      empties e =
          let chosen : eqb (chosen_for group m) m ≡ true = eq-eqb (chosen_for group m) m (ap (chosen_for group) e ∙ own ∙ sym e) in
          let member : is_set (set_bits group m) column ≡ true = grouped.sets_are m column there h ∙ eq-eqb (key_of group column) (key_of group m) (same ∙ ap (key_of group) (sym e)) in
          (rw (chosen, set-or (without word (set_bits group m)) (2 ^ m) column, set-one m column, set-without word (set_bits group m) column, member, and_no (is_set word column)))
          ∙ ap (eqb column) e

      joins : (m ≡ block → ⊥) → key_of group m ≡ key_of group block → is_set after column ≡ (is_set word column || (eqb column m && (is_set word block && true)))
      joins q k =
          let chosen : chosen_for group m ≡ block = grouped.chosen_same m block there inside k ∙ own in
          let not_own : eqb (chosen_for group m) m ≡ false = ne_eqb (chosen_for group m) m (λ e. q (sym e ∙ chosen)) in
          (rw (not_own, chosen)) ∙ touched (is_set word block)
        where
          touched : (s : Bool) → is_set (cond s (bit_or word (2 ^ m)) word) column ≡ (is_set word column || (eqb column m && (s && true)))
          touched true = set-or word (2 ^ m) column ∙ (rw (set-one m column)) ∙ ap (λ (b : Bool). is_set word column || b) (sym (and_last (eqb column m)))
          touched false = sym (ap (λ (b : Bool). is_set word column || b) (and_no (eqb column m)) ∙ or_no (is_set word column))

      go : Dec (m ≡ block) → Dec (key_of group m ≡ key_of group block)
          → is_set after column ≡ cond (eqb m block) (eqb column block) (is_set word column || (eqb column m && (is_set word block && same_key m block)))
      go (yes e) k = empties e ∙ (rw (eq-eqb m block e))
      go (no q) (yes k) = joins q k ∙ (rw (ne_eqb m block q, eq-eqb (key_of group m) (key_of group block) k))
      go (no q) (no k) =
          touch-elsewhere column h (λ e. k (sym e ∙ same))
          ∙ sym (or_no (is_set word column))
          ∙ ap (λ (b : Bool). is_set word column || b) (sym (and_no (eqb column m)))
          ∙ ap (λ (b : Bool). is_set word column || (eqb column m && b)) (sym (and_no (is_set word block)))
          ∙ (rw (ne_eqb m block q, ne_eqb (key_of group m) (key_of group block) k))

  touched-after : is_set after block ≡ (eqb m block || is_set word block)
  touched-after = bit-after block inside refl ∙ go (ℕ_discrete m block)
    where
      go : Dec (m ≡ block) → cond (eqb m block) (eqb block block) (is_set word block || (eqb block m && (is_set word block && same_key m block))) ≡ (eqb m block || is_set word block)
      go (yes e) = rw (eq-eqb m block e, eq-eqb block block refl)
      go (no q) = rw (ne_eqb m block q, ne_eqb block m (λ e. q (sym e))) (or_no (is_set word block))

  -- Whether a column is in the set.
  after_in : (column : ℕ) → column < cols.count
      → (not (eqb column block) && (same_key column block && is_set after column)) ≡ cond (eqb m block) false ((not (eqb column block) && (same_key column block && is_set word column)) || (eqb column m && (is_set word block && same_key m block)))
  after_in column h = go (ℕ_discrete (key_of group column) (key_of group block))
    where
      fits : (b own t joins : Bool) → (b ≡ true → joins ≡ false) → (not b && cond t b (own || joins)) ≡ cond t false ((not b && own) || joins)
      fits true own true joins e = refl
      fits true own false joins e = sym (e refl)
      fits false own true joins e = refl
      fits false own false joins e = refl

      apart : (b t joins : Bool) → joins ≡ false → (not b && (false && is_set after column)) ≡ cond t false ((not b && (false && is_set word column)) || joins)
      apart true true joins e = refl
      apart true false joins e = sym e
      apart false true joins e = refl
      apart false false joins e = sym e

      -- the block itself does not join its own set
      not_itself : (t : Bool) → eqb m block ≡ t → t ≡ false → eqb column block ≡ true → (eqb column m && (is_set word block && same_key m block)) ≡ false
      not_itself t d f e = rw (ne_eqb column m (λ q. eqb-false m block (d ∙ f) (sym q ∙ eqb-true column block e)))

      -- nor does a column of another cache set
      not-other : (key_of group column ≡ key_of group block → ⊥) → (eqb column m && (is_set word block && same_key m block)) ≡ false
      not-other q = two (eqb column m) refl
        where
          two : (t : Bool) → eqb column m ≡ t → (t && (is_set word block && same_key m block)) ≡ false
          two true e = rw (ne_eqb (key_of group m) (key_of group block) (λ k. q (ap (key_of group) (eqb-true column m e) ∙ k))) (and_no (is_set word block))
          two false e = refl

      by-touch : (t : Bool) → eqb m block ≡ t → (not (eqb column block) && cond t (eqb column block) (is_set word column || (eqb column m && (is_set word block && same_key m block)))) ≡ cond t false ((not (eqb column block) && is_set word column) || (eqb column m && (is_set word block && same_key m block)))
      by-touch true d = go2 (eqb column block)
        where
          go2 : (b : Bool) → (not b && b) ≡ false
          go2 true = refl
          go2 false = refl
      by-touch false d = fits (eqb column block) (is_set word column) false (eqb column m && (is_set word block && same_key m block)) (not_itself false d refl)

      go : Dec (key_of group column ≡ key_of group block)
          → (not (eqb column block) && (same_key column block && is_set after column)) ≡ cond (eqb m block) false ((not (eqb column block) && (same_key column block && is_set word column)) || (eqb column m && (is_set word block && same_key m block)))
      go (yes e) = rw (eq-eqb (key_of group column) (key_of group block) e, bit-after column h e) (by-touch (eqb m block) refl)
      go (no q) = rw (ne_eqb (key_of group column) (key_of group block) q) (apart (eqb column block) (eqb m block) (eqb column m && (is_set word block && same_key m block)) (not-other q))

  by-keys : (column : ℕ) → column < cols.count → other cols block after column ≡ in_after cols.key block m (since_in cols block word) column
  unfolding since_in in_after
  by-keys column h = rw (in-set cols block word column h, keys column h, keys block inside, keys m there) (after_in column h)

  pub word-touch : since_in cols block (word_touched group m word) ≡ touch_since cols block m (since_in cols block word)
  unfolding since_in touch_since in_after
  word-touch =
      λ i. record {
        touched = touched-after i;
        others = list_of-same cols.count (other cols block after) (in_after cols.key block m (since_in cols block word))
            (λ column h. by-keys column h) i;
      }

  -- It is no larger than the columns allow.
  pub touch-small : word < 2 ^ cols.count → word_touched group m word < 2 ^ cols.count
  unfolding word_touched
  touch-small small = go (eqb (chosen_for group m) m) (is_set word (chosen_for group m))
    where
      less : without word (set_bits group m) < 2 ^ cols.count
      less = xor_lt cols.count word (bit_and word (set_bits group m)) small (let l = and_le_l word (set_bits group m) in omega arith)

      go : (t s : Bool) → cond t (bit_or (without word (set_bits group m)) (2 ^ m)) (cond s (bit_or word (2 ^ m)) word) < 2 ^ cols.count
      go true s = or_lt cols.count (without word (set_bits group m)) (2 ^ m) less (pow-lt there)
      go false true = or_lt cols.count word (2 ^ m) small (pow-lt there)
      go false false = small

-- ---- a node's touches

module _ (group : Group) (cols : Columns) (keys : (column : ℕ) → column < cols.count → cols.key column ≡ get_or group.columns column 0) (grouped : Grouped cols.count group)
    (block : ℕ) (inside : block < cols.count) (own : Chosen group.chosen block) where
  abbrev touch_by : ColumnTouch → Since → Since
  touch_by touch since = touch_since cols block touch.column since

  pub words-touch : (touches : List ColumnTouch) → ((touch : ColumnTouch) → Among touch touches → touch.column < cols.count) → (word : ℕ)
      → since_in cols block (in_turn (word_after_touch group) touches word) ≡ in_turn touch_by touches (since_in cols block word)
  words-touch [] each word = refl
  words-touch (touch ∷ touches) each word =
      words-touch touches (λ t i. each t (inr i)) (word_after_touch group touch word)
      ∙ ap (in_turn touch_by touches) (word-touch group cols keys grouped block inside own touch.column (each touch (inl refl)) word)

  pub words_small : (touches : List ColumnTouch) → ((touch : ColumnTouch) → Among touch touches → touch.column < cols.count) → (word : ℕ) → word < 2 ^ cols.count
      → in_turn (word_after_touch group) touches word < 2 ^ cols.count
  words_small [] each word small = small
  words_small (touch ∷ touches) each word small =
      words_small touches (λ t i. each t (inr i)) (word_after_touch group touch word)
      (touch-small group cols keys grouped block inside own touch.column (each touch (inl refl)) word small)

-- Where none of the blocks is touched and none among those touched, that stays so.
pub words-none : (group : Group) (touches : List ColumnTouch) → ((touch : ColumnTouch) → Among touch touches → Chosen group.chosen touch.column → ⊥) → in_turn (word_after_touch group) touches 0 ≡ 0
unfolding word_touched
words-none group [] none = refl
words-none group (touch ∷ touches) none =
    let still : word_touched group touch.column 0 ≡ 0 = rw (ne_eqb (chosen_for group touch.column) touch.column (none touch (inl refl)), set-none (chosen_for group touch.column)) in
    rw still (words-none group touches (λ t i. none t (inr i)))
