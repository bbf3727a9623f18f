-- Demand 1: any bytes and any buffer lengths get an answer or a numbered refusal, put together from its parts.
use Rattle.demands.specs.Demand1.{Demand1}
use Rattle.demands.proofs.Refusals.{reading-refusals}
use Rattle.demands.proofs.Analysing.{analysis-refusals, same_lengths}
use Rattle.demands.proofs.Checking.{checker-refusals, checker_used}
use Rattle.demands.proofs.Writing.{writer-refusals, fields-refusals}
use Rattle.demands.proofs.Totalling.{totals-refusals, totals-numbers, totals_refusal, totals_used}
use Rattle.demands.proofs.Judging.{judged-refusals, judged_used}
use Rattle.demands.proofs.Bounding.{bounding}
use Rattle.demands.proofs.Numbers.{header-numbers, reading_numbers, analysis_numbers, checker_numbers, header_refusal, reading_refusal, analysis_refusal, analysis_refused, analysis_unsettled, checker_refusal}

pub demand1 : Demand1
demand1 =
    record {
      readings = reading-refusals;
      analysis = λ bytes chart allowance lent read. analysis-refusals bytes chart allowance lent read;
      checker = λ bytes chart table read. checker-refusals bytes chart table read;
      totalling = λ bytes chart table figures read. totals-refusals bytes chart table figures read;
      judging = λ bytes table figures sheet deadline. judged-refusals bytes table figures sheet deadline;
      bounding = bounding;
      fields = fields-refusals;
      writing = writer-refusals;
      header-numbers = header-numbers;
      reading_numbers = reading_numbers;
      analysis_numbers = analysis_numbers;
      checker_numbers = checker_numbers;
      totals-numbers = totals-numbers;
      header_refusal = header_refusal;
      reading_refusal = reading_refusal;
      analysis_refusal = analysis_refusal;
      analysis_refused = analysis_refused;
      analysis_unsettled = analysis_unsettled;
      checker_refusal = checker_refusal;
      totals_refusal = totals_refusal;
      same_lengths = same_lengths;
      checker_used = λ bytes chart one other read same. checker_used bytes chart one other read same;
      totals_used = λ bytes chart one other figures read same. totals_used bytes chart one other figures read same;
      judged_used = judged_used;
    }
