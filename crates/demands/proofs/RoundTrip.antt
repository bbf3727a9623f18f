-- What was written reads back, what was read is written again, and so no two charts have the same bytes and no two byte strings the same chart.
use Rattle.std.specs.Prelude.{Ok}
use Prim.Native.Nat.{ℕ, ◌+◌, ◌*◌, ◌<◌}
use mathlib.Core.List.{List, [], ◌++◌, append-nil}
use mathlib.Core.Path.{◌≡◌, refl, sym, ap, subst, ◌∙◌}
use native.Mathlib.Nat.{le_refl}
use native.Mathlib.Omega.{arith}
use lib.ListN.{length, get_or, take, drop}
use lib.Seq.{drop-length, ext_get_or}
use Rattle.lists.specs.Lists.{written}
use Rattle.chart.specs.declared.records.RecordFields.{RecordFields}
use Rattle.chart.specs.Chart.{Chart, accepted, read_chart}
use Rattle.chart.specs.Bytes.{AreBytes}
use Rattle.chart.proofs.Accepted.{accepted-length}
use Rattle.chart.specs.declared.headers.Header.{Header}
use Rattle.writer.specs.Taken.{heading_of, fields_of, lists_of}
use Rattle.writer.specs.declared.heading.Heading.{Heading}
use Rattle.writer.specs.Given.{NodeLists, header_given, listed, AllLong}
use Rattle.writer.specs.Writer.{WriteLeft, wrote}
use Rattle.demands.specs.Writing.{ListsLong}
use Rattle.demands.specs.RoundTrip.{ReadsBack, RoundTrip}
use Rattle.demands.proofs.Back.{all_fit, reads_back, given-long}
use Rattle.demands.proofs.Again.{lists-are, listed-taken, nodes_again, writes_again}
use Rattle.demands.proofs.Alike.{makes, refuses_alike, refused_alike, accepts_alike}

-- Lists that say the same of each node are the same.
same_lists : (count : ℕ) (ones others : NodeLists) → AllLong count ones → AllLong count others → ((n : ℕ) → n < count → listed ones n ≡ listed others n) → ones ≡ others
same_lists count ones others long longs same =
    λ i. record {
      kinds = column ones.kinds others.kinds long.kinds longs.kinds (λ n h. ap (λ (f : RecordFields). f.kind) (same n h)) i;
      addresses = column ones.addresses others.addresses long.addresses longs.addresses (λ n h. ap (λ (f : RecordFields). f.address) (same n h)) i;
      sizes = column ones.sizes others.sizes long.sizes longs.sizes (λ n h. ap (λ (f : RecordFields). f.size) (same n h)) i;
      outs = column ones.outs others.outs long.outs longs.outs (λ n h. ap (λ (f : RecordFields). f.outs) (same n h)) i;
      firsts = column ones.firsts others.firsts long.firsts longs.firsts (λ n h. ap (λ (f : RecordFields). f.first) (same n h)) i;
      seconds = column ones.seconds others.seconds long.seconds longs.seconds (λ n h. ap (λ (f : RecordFields). f.second) (same n h)) i;
    }
  where
    column : (l m : List ℕ) → length l ≡ count → length m ≡ count → ((n : ℕ) → n < count → get_or l n 0 ≡ get_or m n 0) → l ≡ m
    column l m e d at = ext_get_or 0 l m (e ∙ sym d) (λ n h. at n (omega (arith, e)))

no_two_charts : (one other : Heading) (ones others : NodeLists) (lent spare : List ℕ) (count same : ℕ)
    → (wrote one ones lent).answer ≡ Ok count
    → (wrote other others spare).answer ≡ Ok same
    → take count (wrote one ones lent).chart ≡ take same (wrote other others spare).chart
    → (one ≡ other) × (ones ≡ others)
no_two_charts one other ones others lent spare count same e d alike =
    let first = reads_back one ones lent count e in
    let second = subst (ReadsBack other others) (sym alike) (reads_back other others spare same d) in
    let header : header_given one ≡ header_given other = sym first.header_said ∙ second.header_said in
    let heading : one ≡ other = λ i. record { line = (header i).line; sets = (header i).sets; ways = (header i).ways; start = (header i).start; nodes = (header i).nodes; entry = (header i).entry } in
    let nodes : one.nodes ≡ other.nodes = ap (λ (h : Heading). h.nodes) heading in (
      heading,
      same_lists one.nodes ones others (given-long one ones lent count e) (subst (λ (n : ℕ). AllLong n others) (sym nodes) (given-long other others spare same d))
          (λ n h. sym (first.records_said n h) ∙ second.records_said n (omega (arith, nodes))),
    )

-- A list written over one that is as long is all that is left.
written-whole : (new lent : List ℕ) → length new ≡ length lent → written new lent ≡ new
written-whole new lent e = ap (λ (n : ℕ). new ++ drop n lent) e ∙ ap (λ (l : List ℕ). new ++ l) (drop-length lent) ∙ append-nil new

-- Charts of one header and the same nodes are taken apart alike.
same_taken : (chart same : Chart) → chart.header ≡ same.header → ((n : ℕ) → n < chart.header.nodes → chart.node n ≡ same.node n) → lists_of chart ≡ lists_of same
same_taken chart same header nodes =
    let count : chart.header.nodes ≡ same.header.nodes = ap (λ (h : Header). h.nodes) header in
    same_lists chart.header.nodes (lists_of chart) (lists_of same) (lists-are chart) (subst (λ (n : ℕ). AllLong n (lists_of same)) (sym count) (lists-are same))
    (λ n h. listed-taken chart n h ∙ ap fields_of (nodes n h) ∙ sym (listed-taken same n (omega (arith, count))))

no_two_strings : (one other : List ℕ) (chart same : Chart) → AreBytes one → AreBytes other → read_chart one ≡ accepted chart → read_chart other ≡ accepted same
    → chart.header ≡ same.header → ((n : ℕ) → n < chart.header.nodes → chart.node n ≡ same.node n) → one ≡ other
no_two_strings one other chart same small little read again header nodes =
    let long : length other ≡ length one = accepted-length other same again ∙ ap (λ (h : Header). 8 + 8 * h.nodes) (sym header) ∙ sym (accepted-length one chart read) in
    let first = writes_again one chart read small one (le_refl (length one)) in
    let second = writes_again other same again little one (omega (arith, long)) in
    let alike : wrote (heading_of chart.header) (lists_of chart) one ≡ wrote (heading_of same.header) (lists_of same) one =
    λ i. wrote (heading_of (header i)) (same_taken chart same header nodes i) one in
    sym (written-whole one one refl) ∙ ap (λ (left : WriteLeft). left.chart) (sym first ∙ alike ∙ second) ∙ written-whole other one long

all-long : {count : ℕ} {lists : NodeLists} → ListsLong count lists → AllLong count lists
all-long l = record { kinds = l.0; addresses = l.1.0; sizes = l.1.1.0; outs = l.1.1.1.0; firsts = l.1.1.1.1.0; seconds = l.1.1.1.1.1 }

pub round_trip : RoundTrip
round_trip =
    record {
      reads_back = reads_back;
      written_fits = all_fit;
      writes_again = λ bytes chart lent small read room. writes_again bytes chart read small lent room;
      nodes_again = λ bytes chart n read h. nodes_again bytes chart read n h;
      header_again = λ header. refl;
      fits_none = tt;
      fits_more = λ width value widths values below rest. (below, rest);
      makes = λ heading lists count long fit. makes heading lists [] count (all-long long) fit;
      refuses_alike = λ heading lists lent count refusal long fit e. refuses_alike heading lists lent count (all-long long) fit refusal e;
      refused_alike = λ heading lists lent count refusal long fit e. refused_alike heading lists lent count (all-long long) fit refusal e;
      accepts_alike = λ heading lists lent count chart long fit e room. accepts_alike heading lists lent count (all-long long) fit chart e room;
      no_two_charts = no_two_charts;
      no_two_strings = no_two_strings;
    }
