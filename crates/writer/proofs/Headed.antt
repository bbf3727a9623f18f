-- What the reader's test of the header says of what is given: it is refused, or the rest is left to ask.
use Rattle.std.specs.Prelude.{Err, Ok, Result}
use mathlib.Core.Bool.{Bool, true}
use mathlib.Core.List.{List, ◌++◌}
use mathlib.Core.Path.{◌≡◌, sym, ap, subst, ◌∙◌}
use Prim.Native.Nat.{ℕ}
use native.Mathlib.Omega.{arith}
use borrow.Author.Tests.{not-false}
use Rattle.lists.specs.Choice.{Case, NoneApplies, first_case}
use Rattle.lists.proofs.Choice.{none-applies, first-otherwise, first-after}
use Rattle.refusals.specs.declared.Refusal.{Refusal}
use Rattle.chart.specs.declared.headers.HeaderFields.{HeaderFields}
use Rattle.chart.specs.declared.headers.Header.{Header}
use Rattle.chart.specs.Header.{header_cases, header_of}
use Rattle.chart.specs.Chart.{record_cases}
use Rattle.writer.specs.declared.heading.Heading.{Heading}
use Rattle.writer.specs.Given.{NodeLists, header_given, listed, all_long, AllLong}
use Rattle.writer.specs.Writer.{WriteLeft, room_cases, refuse_writing, stored, wrote}
use Rattle.writer.proofs.Refused.{refused-first, long-lists}

module _ (heading : Heading) (lists : NodeLists) (fields : HeaderFields) (long : Bool) (answer : Result Header Refusal)
    (given : fields ≡ header_given heading) (counted : long ≡ all_long heading.nodes lists) (asked : answer ≡ first_case Err (header_cases fields long) (Ok (header_of fields)))
  where
    abbrev cases : List (Case Refusal)
    cases = header_cases (header_given heading) (all_long heading.nodes lists)

    asked-given : answer ≡ first_case Err cases (Ok (header_of (header_given heading)))
    asked-given = asked ∙ λ i. first_case Err (header_cases (given i) (counted i)) (Ok (header_of (given i)))

    pub header_refused : (lent : List ℕ) (refusal : Refusal) → answer ≡ Err refusal → refuse_writing lent refusal ≡ wrote heading lists lent
    unfolding wrote
    header_refused lent refusal e =
        sym
        (refused-first Err (refuse_writing lent) cases (record_cases (listed lists) (header_of (header_given heading)) ++ room_cases heading.nodes lent) (Ok (header_of (header_given heading)))
        (stored heading lists lent) refusal (λ a b q. cc) (λ q. let z : ◌≡◌ {A = ℕ} 0 1 = cc in omega arith) (sym asked-given ∙ e))

    module _ (header : Header) (taken : answer ≡ Ok header) where
      none-of-header : NoneApplies cases
      none-of-header = none-applies Err cases (Ok (header_of (header_given heading))) (Ok header) (λ x q. let z : ◌≡◌ {A = ℕ} 0 1 = cc in omega arith) (sym asked-given ∙ taken)

      pub header-given : header ≡ header_of (header_given heading)
      header-given =
          let e : Ok header ≡ Ok (header_of (header_given heading)) =
          sym taken ∙ asked-given ∙ first-otherwise Err cases (Ok (header_of (header_given heading))) none-of-header in
          cc

      lists-long : all_long heading.nodes lists ≡ true
      lists-long = not-false _ none-of-header.1.1.1.1.1.1.0

      pub header-long : AllLong header.nodes lists
      header-long = subst (λ (h : Header). AllLong h.nodes lists) (sym header-given) (long-lists heading.nodes lists lists-long)

      pub header-none : NoneApplies (header_cases (header_given heading) true)
      header-none = subst (λ (t : Bool). NoneApplies (header_cases (header_given heading) t)) lists-long none-of-header

      pub header-rest : (lent : List ℕ) (left : WriteLeft)
          → left ≡ first_case (refuse_writing lent) (record_cases (listed lists) header ++ room_cases header.nodes lent) (stored heading lists lent) → left ≡ wrote heading lists lent
      unfolding wrote
      header-rest lent left e =
          e
          ∙ ap (λ (h : Header). first_case (refuse_writing lent) (record_cases (listed lists) h ++ room_cases h.nodes lent) (stored heading lists lent)) header-given
          ∙ sym
          (first-after (refuse_writing lent) cases (record_cases (listed lists) (header_of (header_given heading)) ++ room_cases heading.nodes lent) (stored heading lists lent) none-of-header)
