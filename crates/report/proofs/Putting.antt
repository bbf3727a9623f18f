-- Laws of words put into a line, one after the other.
use mathlib.Core.List.{List, [], ◌∷◌, ◌++◌, append_assoc}
use mathlib.Core.Path.{◌≡◌, refl, sym, ap, subst, ◌∙◌}
use Prim.Native.Nat.{ℕ, suc, ◌+◌, ◌-◌, ◌≤◌}
use native.Mathlib.Nat.{add-zero}
use native.Mathlib.Omega.{arith}
use lib.ListN.{length, set, take, drop, length-append}
use borrow.Rule.Slice.PartMut.{put_mid}
use lib.Seq.{sets, sets-eq, drop-drop}
use Rattle.report.specs.declared.puts.Line.{Line}
use Rattle.report.specs.Written.{Put}

sets-append : (l : List ℕ) (i : ℕ) (v w : List ℕ) → sets l i (v ++ w) ≡ sets (sets l i v) (i + length v) w
sets-append l i [] w = rw add-zero
sets-append l i (a ∷ v) w =
    let e : i + suc (length v) ≡ suc i + length v = omega arith in
    rw e (sets-append (set l i a) (suc i) v w)

pub put_then : {j k : ℕ} {before between after : Line} {v w : List ℕ} → Put j before v between → Put k between w after → Put (j + k) before (v ++ w) after
put_then {j} {k} {before} {between} {after} {v} {w} p q =
    record {
      laid = rw (sets-append, ← p.laid, ← p.behind) q.laid;
      behind = omega (arith, p.behind, q.behind, length-append v w);
      within = omega (arith, p.within, q.within, length-append v w);
      same = q.same ∙ p.same;
      long = q.long ∙ p.long;
    }

-- Where there is more room than was said; and the same word said otherwise.
pub put-wide : {j k : ℕ} {before after : Line} {w : List ℕ} → Put j before w after → j ≤ k → Put k before w after
put-wide p h = record { laid = p.laid; behind = p.behind; within = omega (arith, p.within); same = p.same; long = p.long }

pub put_same : {j : ℕ} {before after : Line} {v w : List ℕ} → Put j before v after → v ≡ w → Put j before w after
put_same {j} {before} {after} p e = subst (λ (word : List ℕ). Put j before word after) e p

pub put-nothing : (line : Line) → Put 0 line [] line
put-nothing line = record { laid = refl; behind = omega arith; within = omega arith; same = refl; long = refl }

-- A word that is copied to its place.
pub word-copied : (text word copied : List ℕ) (at : ℕ) → at + length word ≤ length text → copied ≡ word → put_mid at (at + length word - at) text copied ≡ sets text at word
word-copied text word copied at h e =
    let long : at + length word - at ≡ length word = omega arith in
    (λ i. take at text ++ (e i ++ drop (long i) (drop at text)))
    ∙ ap (λ (rest : List ℕ). take at text ++ (word ++ rest)) (drop-drop (length word) at text)
    ∙ sym (append_assoc (take at text) word (drop (at + length word) text))
    ∙ sym (sets-eq word text at h)
