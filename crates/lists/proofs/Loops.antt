-- Laws of `patch`, `any` and `every`: a turn of a loop, and what the loop has made when it ends.
use mathlib.Core.Bool.{Bool, true, false, ◌&&◌, ◌||◌, true≢false}
use mathlib.Core.List.{List, [], ◌∷◌, ◌++◌, append_assoc, append-nil}
use mathlib.Core.Logic.{⊎_elim}
use mathlib.Core.Path.{◌≡◌, refl, sym, ap, ◌∙◌}
use Prim.Native.Nat.{ℕ, zero, suc, ◌+◌, ◌≤◌, ◌<◌}
use native.Mathlib.Numerals.{add-one}
use native.Mathlib.Nat.{zero-add, add-zero, add_assoc, add-suc, eq-or-lt_of_le, le_of_suc-le-suc}
use native.Mathlib.Decide.{ℕ_discrete}
use native.Mathlib.Omega.{arith}
use lib.ListN.{length, get_or, set, take, drop, length-set, length-append, take-append-drop, drop_of_length-le}
use lib.Seq.{get_or-set_same, get_or-set_other, length-take-le, drop-cons, set_at}
use Rattle.lists.specs.Choice.{every}
use Rattle.lists.specs.Lists.{list_of, written}
use Rattle.lists.specs.Loops.{patch, any}
use Rattle.lists.proofs.Choice.{or-false, false-or, or-true}
use Rattle.lists.proofs.Listed.{length-list_of, list_of-more}

-- ---- turns

patch-more : (l : List ℕ) (base n : ℕ) (f : ℕ → ℕ) → patch l base (n + 1) f ≡ set (patch l base n f) (base + n) (f n)
patch-more l base n f = rw add-one

pub length-patch : (l : List ℕ) (base n : ℕ) (f : ℕ → ℕ) → length (patch l base n f) ≡ length l
length-patch l base zero f = refl
length-patch l base (suc n) f = length-set (patch l base n f) (base + n) (f n) ∙ length-patch l base n f

-- What stands at or past the place reached is as it was.
pub patch-ahead : (l : List ℕ) (base n : ℕ) (f : ℕ → ℕ) (k : ℕ) → base + n ≤ k → get_or (patch l base n f) k 0 ≡ get_or l k 0
patch-ahead l base zero f k h = refl
patch-ahead l base (suc n) f k h =
    get_or-set_other (patch l base n f) (base + n) k (f n) 0 (λ e. omega arith) ∙ patch-ahead l base n f k (omega arith)

-- One more turn of a loop: what it has, and the value that it stores.
pub patch-turn : (l : List ℕ) (base n : ℕ) (f : ℕ → ℕ) (cur : List ℕ) (v : ℕ) → cur ≡ patch l base n f → v ≡ f n → set cur (base + n) v ≡ patch l base (n + 1) f
patch-turn l base n f cur v e d = rw (patch-more, e, d)

pub patch-turn0 : (l : List ℕ) (n : ℕ) (f : ℕ → ℕ) (cur : List ℕ) (v : ℕ) → cur ≡ patch l 0 n f → v ≡ f n → set cur n v ≡ patch l 0 (n + 1) f
patch-turn0 l n f cur v e d = rw zero-add at (patch-turn l 0 n f cur v e d)

-- So many turns at once: what they store behind what is there.
pub patch-patch : (l : List ℕ) (base n : ℕ) (f : ℕ → ℕ) (cur : List ℕ) (k : ℕ) (g : ℕ → ℕ) → cur ≡ patch l base n f → ((j : ℕ) → j < k → g j ≡ f (n + j)) → patch cur (base + n) k g ≡ patch l base (n + k) f
patch-patch l base n f cur zero g e same = rw add-zero e
patch-patch l base n f cur (suc k) g e same =
    rw (patch-patch l base n f cur k g e (λ j h. same j (omega arith)), same k (omega arith), add_assoc, add-suc)

-- The place that a turn reads is as it was at the start.
pub patch-read : (l : List ℕ) (base n : ℕ) (f : ℕ → ℕ) (cur : List ℕ) → cur ≡ patch l base n f → get_or cur (base + n) 0 ≡ get_or l (base + n) 0
patch-read l base n f cur e = rw e (patch-ahead l base n f (base + n) (omega arith))

-- A turn that stores what it reads, changed by g at n.
pub patch-turn-by : (l : List ℕ) (base n : ℕ) (g : ℕ → ℕ → ℕ) (cur : List ℕ) (v : ℕ) → cur ≡ patch l base n (λ j. g j (get_or l (base + j) 0)) → v ≡ g n (get_or cur (base + n) 0)
    → set cur (base + n) v ≡ patch l base (n + 1) (λ j. g j (get_or l (base + j) 0))
patch-turn-by l base n g cur v e d =
    patch-turn l base n (λ j. g j (get_or l (base + j) 0)) cur v e (d ∙ ap (g n) (patch-read l base n (λ j. g j (get_or l (base + j) 0)) cur e))

pub any-turn : (c₀ : Bool) (n : ℕ) (p : ℕ → Bool) (c d : Bool) → c ≡ any c₀ n p → d ≡ (c || p n) → d ≡ any c₀ (n + 1) p
any-turn c₀ n p c d e h = rw (add-one, ← e) h

-- Where nothing passes, no number does; and tests that agree have the same answer.
pub any_none : (n : ℕ) (test : ℕ → Bool) → any false n test ≡ false → (i : ℕ) → i < n → test i ≡ false
any_none zero test e i h = absurd (omega arith)
any_none (suc n) test e i h = go (ℕ_discrete i n) (any_none n test (or-false (any false n test) (test n) e).0 i)
  where
    go : Dec (i ≡ n) → (i < n → test i ≡ false) → test i ≡ false
    go (yes q) rest = ap test q ∙ (or-false (any false n test) (test n) e).1
    go (no q) rest = rest (omega arith)

pub none_any : (n : ℕ) (test : ℕ → Bool) → ((i : ℕ) → i < n → test i ≡ false) → any false n test ≡ false
none_any zero test h = refl
none_any (suc n) test h = false-or (any false n test) (test n) (none_any n test (λ i l. h i (omega arith))) (h n (omega arith))

-- Where one does, it is there.
pub any_some : (n : ℕ) (test : ℕ → Bool) → any false n test ≡ true → (i : ℕ) × (i < n) × (test i ≡ true)
any_some zero test e = absurd (true≢false (sym e))
any_some (suc n) test e = go (any false n test) refl (any_some n test)
  where
    go : (t : Bool) → any false n test ≡ t → (any false n test ≡ true → (i : ℕ) × (i < n) × (test i ≡ true)) → (i : ℕ) × (i < suc n) × (test i ≡ true)
    go true q rest = let found = rest q in (found.0, omega (arith, found.1), found.2)
    go false q rest = (n, omega arith, or-true (any false n test) (test n) e q)

pub some-any : (n : ℕ) (test : ℕ → Bool) (i : ℕ) → i < n → test i ≡ true → any false n test ≡ true
some-any n test i h e = go (any false n test) refl
  where
    go : (t : Bool) → any false n test ≡ t → t ≡ true
    go true q = refl
    go false q = sym (any_none n test q i h) ∙ e

pub any_same : (n : ℕ) (one other : ℕ → Bool) → ((i : ℕ) → i < n → one i ≡ other i) → any false n one ≡ any false n other
any_same zero one other h = refl
any_same (suc n) one other h =
    let rest = any_same n one other (λ i l. h i (omega arith)) in
    let here = h n (omega arith) in
    λ i. rest i || here i

-- A turn, of a test on what it reads, while the list is being patched by f.
pub any-turn-by : (l : List ℕ) (base n : ℕ) (f : ℕ → ℕ) (cur : List ℕ) (g : ℕ → ℕ → Bool) (c₀ c d : Bool) → cur ≡ patch l base n f
    → c ≡ any c₀ n (λ j. g j (get_or l (base + j) 0)) → d ≡ (c || g n (get_or cur (base + n) 0)) → d ≡ any c₀ (n + 1) (λ j. g j (get_or l (base + j) 0))
any-turn-by l base n f cur g c₀ c d e h q =
    any-turn c₀ n (λ j. g j (get_or l (base + j) 0)) c d h (q ∙ ap (λ (x : ℕ). c || g n x) (patch-read l base n f cur e))

pub every-turn : (n : ℕ) (p : ℕ → Bool) (c d : Bool) → c ≡ every n p → d ≡ (c && p n) → d ≡ every (n + 1) p
every-turn n p c d e h = rw (add-one, ← e) h

-- ---- the end

-- What stands at a place that the loop has passed.
pub patch-in : (l : List ℕ) (base n : ℕ) (f : ℕ → ℕ) (j : ℕ) → base + n ≤ length l → j < n → get_or (patch l base n f) (base + j) 0 ≡ f j
patch-in l base zero f j h k = absurd (omega arith)
patch-in l base (suc n) f j h k = ⊎_elim last (earlier (patch-in l base n f j (omega arith))) (eq-or-lt_of_le (le_of_suc-le-suc k))
  where
    last : j ≡ n → get_or (set (patch l base n f) (base + n) (f n)) (base + j) 0 ≡ f j
    last e = rw e (get_or-set_same (patch l base n f) (base + n) (f n) 0 (omega (arith, length-patch l base n f)))

    earlier : (j < n → get_or (patch l base n f) (base + j) 0 ≡ f j) → j < n → get_or (set (patch l base n f) (base + n) (f n)) (base + j) 0 ≡ f j
    earlier before less = get_or-set_other (patch l base n f) (base + n) (base + j) (f n) 0 (λ q. omega arith) ∙ before less

pub patch-in0 : (l : List ℕ) (n : ℕ) (f : ℕ → ℕ) (j : ℕ) → n ≤ length l → j < n → get_or (patch l 0 n f) j 0 ≡ f j
patch-in0 l n f j h k = rw zero-add at (patch-in l 0 n f j (omega arith) k)

-- The list with the values laid over a part of it.
pub patch-laid : (l : List ℕ) (base n : ℕ) (f : ℕ → ℕ) → base + n ≤ length l → patch l base n f ≡ take base l ++ (list_of n f ++ drop (base + n) l)
patch-laid l base zero f h =
    let here : base + 0 ≡ base = omega arith in
    rw here (sym (take-append-drop base l))
patch-laid l base (suc n) f h =
    let before : List ℕ = take base l ++ list_of n f in
    let long : length before ≡ base + n = length-append (take base l) (list_of n f) ∙ (λ i. length-take-le base l (omega arith) i + length-list_of n f i) in
    let so_far : patch l base n f ≡ before ++ drop (base + n) l = patch-laid l base n f (omega arith) ∙ sym (append_assoc (take base l) (list_of n f) (drop (base + n) l)) in
    let opened : drop (base + n) l ≡ get_or l (base + n) 0 ∷ drop (suc (base + n)) l = drop-cons l (base + n) 0 (omega arith) in
    let stored : set (patch l base n f) (base + n) (f n) ≡ before ++ (f n ∷ drop (suc (base + n)) l) =
    ap (λ (m : List ℕ). set m (base + n) (f n)) (so_far ∙ ap (λ (m : List ℕ). before ++ m) opened) ∙ set_at before (get_or l (base + n) 0) (drop (suc (base + n)) l) (f n) (base + n) long in
    let places : suc (base + n) ≡ base + suc n = omega arith in
    stored
    ∙ append_assoc (take base l) (list_of n f) (f n ∷ drop (suc (base + n)) l)
    ∙ ap (λ (m : List ℕ). take base l ++ m) (sym (append_assoc (list_of n f) (f n ∷ []) (drop (suc (base + n)) l)))
    ∙ ap (λ (m : List ℕ). take base l ++ (m ++ drop (suc (base + n)) l)) (sym (list_of-more n f))
    ∙ ap (λ (k : ℕ). take base l ++ (list_of (suc n) f ++ drop k l)) places

-- From the start of a list on: the values written over it.
pub patch-written : (l : List ℕ) (n : ℕ) (f : ℕ → ℕ) → n ≤ length l → patch l 0 n f ≡ written (list_of n f) l
patch-written l n f h =
    patch-laid l 0 n f (omega arith)
    ∙ ap (λ (k : ℕ). list_of n f ++ drop k l) (zero-add n ∙ sym (length-list_of n f))

-- Over all places of a list: the values alone.
pub patch-whole : (l : List ℕ) (f : ℕ → ℕ) → patch l 0 (length l) f ≡ list_of (length l) f
patch-whole l f =
    let none : drop (length (list_of (length l) f)) l ≡ [] = let short : length l ≤ length (list_of (length l) f) = omega (arith, length-list_of (length l) f) in drop_of_length-le l short in
    patch-written l (length l) f (omega arith) ∙ ap (λ (t : List ℕ). list_of (length l) f ++ t) none ∙ append-nil (list_of (length l) f)

-- Two loops that store the same.
pub patch-same : (l : List ℕ) (base n : ℕ) (f g : ℕ → ℕ) → ((j : ℕ) → j < n → f j ≡ g j) → patch l base n f ≡ patch l base n g
patch-same l base zero f g h = refl
patch-same l base (suc n) f g h =
    let here : f n ≡ g n = h n (omega arith) in
    let rest : patch l base n f ≡ patch l base n g = patch-same l base n f g (λ j k. h j (omega arith)) in
    rw (here, rest)
