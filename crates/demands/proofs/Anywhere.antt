-- What is so at every node and number: most of it by computing, for a node or a number that is not known.
use Prim.Native.Nat.{ℕ, ◌+◌, ◌-◌, ◌≤◌, ◌<◌}
use mathlib.Core.List.{List}
use mathlib.Core.Path.{◌≡◌, refl, sym, ap, ◌∙◌}
use lib.ListN.{length, get_or, drop, length-append, length-drop, get_or-append}
use lib.Seq.{get_or-append-add, get_or-drop}
use Rattle.lists.specs.Lists.{written}
use native.Mathlib.Omega.{arith}
use borrow.Author.Tests.{lt-ltb, le-ltb}
use Rattle.lists.proofs.Listed.{get_or-list_of}
use Rattle.classes.proofs.Places.{classes_long, first_listed, second_listed}
use Rattle.report.specs.Report.{report}
use Rattle.report.specs.Ending.{refuses}
use Rattle.demands.specs.Anywhere.{Anywhere}

pub written_start : (new lent : List ℕ) (k : ℕ) → k < length new → get_or (written new lent) k 0 ≡ get_or new k 0
written_start new lent k h = get_or-append new (drop (length new) lent) 0 k h

pub written_tail : (new lent : List ℕ) (k : ℕ) → length new ≤ k → get_or (written new lent) k 0 ≡ get_or lent k 0
written_tail new lent k h =
    let e : k ≡ length new + (k - length new) = omega arith in
    ap (λ (p : ℕ). get_or (written new lent) p 0) e
    ∙ get_or-append-add new (drop (length new) lent) (k - length new) 0
    ∙ get_or-drop (length new) lent (k - length new) 0
    ∙ ap (λ (p : ℕ). get_or lent p 0) (sym e)

pub written_long : (new lent : List ℕ) → length new ≤ length lent → length (written new lent) ≡ length lent
written_long new lent h = length-append new (drop (length new) lent) ∙ omega (arith, length-drop (length new) lent)

pub anywhere : Anywhere
unfolding report refuses
anywhere =
    record {
      most-nodes = refl;
      input_taken = λ input. refl;
      report_made = λ input. refl;
      refused_alike = λ input. refl;
      report_lines = λ nodes passes blocks classes. refl;
      node-line = λ classes n. refl;
      most-digits = λ n. refl;
      one_digit = λ digits n h. rw (lt-ltb n 10 h);
      last_digit = λ digits n h. rw (le-ltb n 10 h);
      places = λ n. refl;
      classes_long = classes_long;
      first_listed = first_listed;
      second_listed = second_listed;
      class_unmarked = λ plan n k. refl;
      class_of_none = λ plan n k a e. rw e;
      class_of_touch = λ plan n a touch e. (rw e, rw e);
      class_of_two = λ plan n a touch other e. (rw e, rw e);
      cost_unmarked = λ plan n rate. refl;
      cost_of_none = λ plan n a rate e. rw e;
      cost_of_touch = λ plan n a rate touch e. rw e (omega arith);
      cost_of_two = λ plan n a rate touch other e. rw e (omega arith);
      bare_step = λ plan n a e. rw e;
      one_touch = λ plan n a touch e. rw e;
      two_touches = λ plan n a touch other e. rw e;
      kept_bare = λ plan column n since e. rw e;
      kept_one = λ plan column n since touch e. rw e;
      kept_two = λ plan column n since touch other e. rw e;
      written_start = written_start;
      written_tail = written_tail;
      written_long = written_long;
      block-count = λ chart. refl;
      buffers_lent = λ blocks must may marks classes. refl;
      buffers_left = λ blocks must may marks classes answer. refl;
      table_lent = λ must may marks. refl;
      figures_lent = λ hit miss floors ceilings. refl;
      facts_lent = λ coefficients limits. refl;
      certificate_lent = λ multipliers potentials denominator. refl;
      question_asked = λ side hit miss facts certificate. refl;
      age_place = λ count n column buffer h. get_or-list_of count _ 0 column h;
    }
