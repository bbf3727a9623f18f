-- Of demand 1: refusals 1 to 10 are given exactly when their rule is the first that applies, and every function gives them.
use Rattle.std.specs.Prelude.{Err, Ok}
use mathlib.Core.Path.{◌≡◌, refl}
use Prim.Native.Nat.{ℕ}
use native.Mathlib.Omega.{arith}
use Rattle.lists.proofs.Choice.{first-applies, applies-first}
use Rattle.chart.specs.Header.{header_in, bytes_cases, header_read}
use Rattle.chart.specs.Chart.{accepted, refused, chart_in, chart_cases, read_chart}
use Rattle.chart.specs.Refusing.{record_blocks}
use Rattle.chart.specs.Reading.{reading_of}
use Rattle.blocks.proofs.Exact.{gathered-exactly}
use Rattle.chart.proofs.Reader.{read-refuses}
use Rattle.chart.proofs.Refusing.{refuses-first, first-refuses, none-accepts, accepts-none}
use Rattle.chart.proofs.Saying.{accepted_says}
use Rattle.chart.proofs.Accepted.{accepted-few}
use Rattle.analysis.specs.Analysis.{analysed}
use Rattle.checker.specs.Checker.{checked}
use Rattle.totals.specs.Totals.{totals}
use Rattle.demands.specs.Demand1.{ReadingRefusals}

pub reading-refusals : ReadingRefusals
unfolding read_chart reading_of analysed checked totals header_read
reading-refusals =
    record {
      order = λ bytes. refl;
      header_order = λ bytes. refl;
      given = λ bytes refusal f. first-applies refused (chart_cases bytes) (accepted (chart_in bytes)) refusal f;
      only = λ bytes refusal e. applies-first refused (chart_cases bytes) (accepted (chart_in bytes)) refusal (λ a b q. cc) (λ q. let z : ◌≡◌ {A = ℕ} 0 1 = cc in omega arith) e;
      header-given = λ bytes refusal f. first-applies Err (bytes_cases bytes) (Ok (header_in bytes)) refusal f;
      header_only = λ bytes refusal e. applies-first Err (bytes_cases bytes) (Ok (header_in bytes)) refusal (λ a b q. cc) (λ q. let z : ◌≡◌ {A = ℕ} 0 1 = cc in omega arith) e;
      from_header = read-refuses;
      to_reader = λ bytes refusal e. rw e;
      to_reader_accepted = λ bytes chart e. rw e;
      to_analysis = λ bytes refusal allowance lent e. rw e;
      to_checker = λ bytes refusal table e. rw e;
      to_totals = λ bytes refusal table figures e. rw e;
      row_given = λ bytes refusal small h none. first-refuses bytes small refusal h none;
      row_only = λ bytes refusal small e. refuses-first bytes small refusal e;
      none_accepted = λ bytes small none. (chart_in bytes, none-accepts bytes small none);
      accepted_none = λ bytes chart refusal small e. accepts-none bytes small chart e refusal;
      accepted_says = λ bytes chart small e. accepted_says bytes small chart e;
      counted_blocks = λ line records n. gathered-exactly (λ i. record_blocks line (records i)) n;
      few_blocks = accepted-few;
    }
