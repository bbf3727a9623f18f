-- Laws of the report's lines, put part by part.
use mathlib.Core.List.{List, [], ◌∷◌, ◌++◌, append-nil, append_assoc}
use mathlib.Core.Path.{◌≡◌, refl, sym, ap, subst, ◌∙◌}
use Prim.Native.Nat.{ℕ, ◌+◌, ◌*◌, ◌≤◌}
use native.Mathlib.Nat.{mul-suc}
use native.Mathlib.Numerals.{add-one}
use native.Mathlib.Omega.{arith}
use borrow.Author.Tests.{ne_eqb}
use Rattle.lists.specs.Lists.{list_of, joined}
use Rattle.lists.proofs.Listed.{list_of-more}
use Rattle.refusals.specs.declared.Refusal.{Refusal}
use Rattle.refusals.specs.Refusals.{number_of, place_of}
use Rattle.report.specs.declared.puts.Line.{Line}
use Rattle.report.specs.Text.{line_feed, space, nodes_word, blocks_word, passes_word, none_word, refused_word, at_word, decimal}
use Rattle.report.specs.Report.{class_word, node_line, report_of, refusal_line}
use Rattle.report.specs.Written.{most_digits, most_letters, most_first, most_node, most_refused, Put}
use Rattle.report.proofs.Putting.{put_then, put-wide, put_same}
use Rattle.analysis.specs.Analysis.{settled_after}

-- The word for a class that is k.
pub class-put : {room : ℕ} {before after : Line} (class k : ℕ) → class ≡ k → Put room before (class_word k) after → room ≤ most_letters → Put most_letters before (class_word class) after
class-put {room} {before} {after} class k e p h =
    subst (λ (x : ℕ). Put most_letters before (class_word x) after) (sym e) (put-wide p h)

-- The word for any other class.
pub other-put : {before after : Line} (class : ℕ) → (class ≡ 0 → ⊥) → (class ≡ 1 → ⊥) → (class ≡ 2 → ⊥) → (class ≡ 3 → ⊥) → (class ≡ 5 → ⊥) → Put 4 before none_word after → Put most_letters before (class_word class) after
other-put class a b c d e p =
    rw (ne_eqb class 0 a, ne_eqb class 1 b, ne_eqb class 2 c, ne_eqb class 3 d, ne_eqb class 5 e) (put-wide p (omega arith))

-- The lines of n nodes, and of one more.
joined-append : (a b : List (List ℕ)) → joined (a ++ b) ≡ joined a ++ joined b
joined-append [] b = refl
joined-append (l ∷ a) b = rw (joined-append a b, append_assoc)

joined-more : (n : ℕ) (f : ℕ → List ℕ) → joined (list_of (n + 1) f) ≡ joined (list_of n f) ++ f n
joined-more n f =
    ap (λ (k : ℕ). joined (list_of k f)) (add-one n)
    ∙ ap joined (list_of-more n f)
    ∙ joined-append (list_of n f) (f n ∷ [])
    ∙ ap (λ (l : List ℕ). joined (list_of n f) ++ l) (append-nil (f n))

pub lines-turn : {before between after : Line} (most n : ℕ) (f : ℕ → List ℕ) → Put (most * n) before (joined (list_of n f)) between → Put most between (f n) after → Put (most * (n + 1)) before (joined (list_of (n + 1) f)) after
lines-turn most n f p q =
    let e : most * (n + 1) ≡ most * n + most = ap (λ (k : ℕ). most * k) (add-one n) ∙ mul-suc most n in
    rw e (put_same (put_then p q) (sym (joined-more n f)))

-- The line of a refusal, in three parts.
refused-parts : (r s a x y l : List ℕ) → r ++ s ++ x ++ (s ++ a ++ s ++ y) ++ l ≡ r ++ s ++ x ++ s ++ a ++ s ++ y ++ l
refused-parts r s a x y l = simp append_assoc

pub refused-put : {before between later after : Line} (refusal : Refusal) (number place : ℕ) → number ≡ number_of refusal → place ≡ place_of refusal
    → Put (8 + most_digits) before (refused_word ++ space ++ decimal number) between → Put (4 + most_digits) between (space ++ at_word ++ space ++ decimal place) later → Put 1 later line_feed after
    → Put most_refused before (refusal_line refusal) after
refused-put refusal number place d e p q s =
    put_same (put_then (put_then p q) s)
    (refused-parts refused_word space at_word (decimal number) (decimal place) line_feed
    ∙ (λ i. refused_word ++ space ++ decimal (d i) ++ space ++ at_word ++ space ++ decimal (e i) ++ line_feed))

-- The whole of a report on a chart that settled, in five parts.
settled-parts : (n s b p x y z l lines : List ℕ) → n ++ s ++ x ++ (s ++ b ++ s ++ y) ++ (s ++ p ++ s ++ z) ++ l ++ lines ≡ n ++ s ++ x ++ s ++ b ++ s ++ y ++ s ++ p ++ s ++ z ++ l ++ lines
settled-parts n s b p x y z l lines = simp append_assoc

pub settled-put : {before first second third fourth after : Line} (nodes blocks passes : ℕ) (classes : List ℕ)
    → Put (6 + most_digits) before (nodes_word ++ space ++ decimal nodes) first → Put (8 + most_digits) first (space ++ blocks_word ++ space ++ decimal blocks) second
    → Put (8 + most_digits) second (space ++ passes_word ++ space ++ decimal passes) third → Put 1 third line_feed fourth
    → Put (most_node * nodes) fourth (joined (list_of nodes (node_line classes))) after
    → Put (most_first + most_node * nodes) before (report_of nodes classes (settled_after passes blocks)) after
settled-put nodes blocks passes classes p q s t u =
    put_same (put_then (put_then (put_then (put_then p q) s) t) u)
    (settled-parts nodes_word space blocks_word passes_word (decimal nodes) (decimal blocks) (decimal passes) line_feed (joined (list_of nodes (node_line classes))))
