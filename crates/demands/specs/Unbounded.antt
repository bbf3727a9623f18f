-- Certificates that get no bound: every cause of refusals 23 to 25, of the charts of `Certifying`, alone where that can be and beside others, and the
-- refusals that go before them. Nothing here is a rule of the tool: it is what rules 11.0, 11.1, 11.11, 11.13, 11.15, 11.23 to 11.25, 18.4, 18.8 and
-- 18.9 come to.
use Rattle.std.specs.Prelude.{ℕ, ◌+◌, ◌*◌, ◌^◌, List, [], ◌∷◌, ◌++◌, pos, set, take, replicate}
use Rattle.lists.specs.Soundings.{Sounding, ◌reads◌}
use Rattle.facts.specs.declared.Side.TheVariants.{High}
use Rattle.tables.specs.Lent.{Lent}
use Rattle.certificate.specs.Bound.{Question}
use Rattle.demands.specs.Certifying.{minus, ask, says_of, branch, branch_table, sides, one_side, no_nodes, turn_potentials, branch_says}
use Rattle.demands.specs.Certifying.{branch_says_low, back_and_out, nested, nested_table, round_potentials, rounds_by}
use Rattle.demands.specs.Varied.{endless_says}

-- Costs that are the wrong way round.
abbrev pub dear_hit : Question → Question
dear_hit question =
    record { costs = record { hit = 11; miss = 10 }; side = question.side; facts = question.facts; certificate = question.certificate }

-- The branch's table with a younger must age at the entry, and with so much of each buffer, of 24, 24 and 6.
abbrev pub branch_younger : Lent
branch_younger = record { must = set branch_table.must 0 3; may = branch_table.may; marks = branch_table.marks }

abbrev pub branch_cut : ℕ → ℕ → ℕ → Lent
branch_cut must may marks =
    record { must = take must branch_table.must; may = take may branch_table.may; marks = take marks branch_table.marks }

-- Coefficients that are too few, no denominator, and potentials that do not hold at the entry: refused for three reasons.
abbrev pub short_and_zero : Question
short_and_zero = ask High (take 5 sides) (pos 10 ∷ []) (pos 3 ∷ []) (replicate 6 (minus 1)) 0

-- One more than the largest denominator.
abbrev pub over_most : ℕ
over_most = 2 ^ 32 + 1

abbrev pub not_bounded : List Sounding
not_bounded =
    -- the chart, a short table, one that fails, and the costs, beside all that comes after them
    (says_of (take 7 branch) (branch_cut 24 24 5) (dear_hit short_and_zero) reads (1 ∷ 0 ∷ 0 ∷ []))
    ∷ (says_of branch (branch_cut 24 24 5) (dear_hit short_and_zero) reads (11 ∷ 0 ∷ 0 ∷ []))
    ∷ (says_of branch (branch_cut 23 24 6) (dear_hit short_and_zero) reads (11 ∷ 0 ∷ 0 ∷ []))
    ∷ (says_of branch (branch_cut 24 23 6) (dear_hit short_and_zero) reads (11 ∷ 0 ∷ 0 ∷ []))
    ∷ (says_of branch branch_younger (dear_hit short_and_zero) reads (13 ∷ 0 ∷ 0 ∷ []))
    ∷ (says_of branch branch_table (dear_hit short_and_zero) reads (15 ∷ 0 ∷ 0 ∷ []))
    -- 23, beside 24 and 25: too few coefficients
    ∷ (says_of branch branch_table short_and_zero reads (23 ∷ 0 ∷ 0 ∷ []))
    -- and with every number in its range: one too many; no limit; multipliers and potentials, too few and too many
    ∷ (branch_says (sides ++ pos 0 ∷ []) (pos 10 ∷ []) (pos 3 ∷ []) turn_potentials 1 reads (23 ∷ 0 ∷ 0 ∷ []))
    ∷ (branch_says sides [] (pos 3 ∷ []) turn_potentials 1 reads (23 ∷ 0 ∷ 0 ∷ []))
    ∷ (branch_says sides (pos 10 ∷ []) [] turn_potentials 1 reads (23 ∷ 0 ∷ 0 ∷ []))
    ∷ (branch_says sides (pos 10 ∷ []) (pos 3 ∷ pos 0 ∷ []) turn_potentials 1 reads (23 ∷ 0 ∷ 0 ∷ []))
    ∷ (branch_says sides (pos 10 ∷ []) (pos 3 ∷ []) (take 5 turn_potentials) 1 reads (23 ∷ 0 ∷ 0 ∷ []))
    ∷ (branch_says sides (pos 10 ∷ []) (pos 3 ∷ []) (turn_potentials ++ pos 0 ∷ []) 1 reads (23 ∷ 0 ∷ 0 ∷ []))
    -- 24, beside 25: no denominator
    ∷ (branch_says sides (pos 10 ∷ []) (pos 3 ∷ []) (replicate 6 (minus 1)) 0 reads (24 ∷ 0 ∷ 0 ∷ []))
    -- and alone: no denominator, and one too large; a coefficient and a limit, above and below
    ∷ (branch_says sides (pos 10 ∷ []) (pos 3 ∷ []) (replicate 6 (pos 0)) 0 reads (24 ∷ 0 ∷ 0 ∷ []))
    ∷ (branch_says sides (pos 10 ∷ []) (pos (3 * over_most) ∷ []) (pos over_most ∷ pos over_most ∷ minus over_most ∷ minus over_most ∷ pos 0 ∷ pos (2 * over_most) ∷ []) over_most reads (24 ∷ 0 ∷ 0 ∷ []))
    ∷ (branch_says (set sides 2 (pos (2 ^ 24 + 1))) (pos 10 ∷ []) (pos 3 ∷ []) turn_potentials 1 reads (24 ∷ 0 ∷ 0 ∷ []))
    ∷ (branch_says (sides ++ set no_nodes 0 (minus (2 ^ 24 + 1))) (pos 10 ∷ pos 0 ∷ []) (pos 3 ∷ pos 0 ∷ []) turn_potentials 1 reads (24 ∷ 0 ∷ 0 ∷ []))
    ∷ (branch_says sides (pos (2 ^ 24 + 1) ∷ []) (pos 3 ∷ []) turn_potentials 1 reads (24 ∷ 0 ∷ 0 ∷ []))
    ∷ (branch_says sides (minus (2 ^ 24 + 1) ∷ []) (pos 3 ∷ []) turn_potentials 1 reads (24 ∷ 0 ∷ 0 ∷ []))
    -- a multiplier below 0; one too large, and two that are together; a potential above, and one below at a node that no walk reaches
    ∷ (branch_says (sides ++ sides) (pos 10 ∷ pos 10 ∷ []) (pos 4 ∷ minus 1 ∷ []) turn_potentials 1 reads (24 ∷ 0 ∷ 0 ∷ []))
    ∷ (branch_says sides (pos 10 ∷ []) (pos (2 ^ 36 + 1) ∷ []) turn_potentials 1 reads (24 ∷ 0 ∷ 0 ∷ []))
    ∷ (branch_says (sides ++ sides) (pos 10 ∷ pos 10 ∷ []) (pos (2 ^ 36) ∷ pos 1 ∷ []) turn_potentials 1 reads (24 ∷ 0 ∷ 0 ∷ []))
    ∷ (branch_says sides (pos 10 ∷ []) (pos 3 ∷ []) (set turn_potentials 5 (pos (2 ^ 60 + 1))) 1 reads (24 ∷ 0 ∷ 0 ∷ []))
    ∷ (endless_says (pos 0 ∷ pos 1 ∷ pos 0 ∷ []) (pos 10 ∷ []) (pos 1 ∷ []) (minus (2 ^ 60 + 1)) reads (24 ∷ 0 ∷ 0 ∷ []))
    -- 25: at the entry, for itself and for the first and the second of its arrows; at nodes after it
    ∷ (branch_says sides (pos 10 ∷ []) (pos 3 ∷ []) (replicate 6 (pos 0)) 1 reads (25 ∷ 0 ∷ 0 ∷ []))
    ∷ (branch_says sides (pos 10 ∷ []) (pos 3 ∷ []) (set turn_potentials 1 (pos 0)) 1 reads (25 ∷ 0 ∷ 0 ∷ []))
    ∷ (branch_says sides (pos 10 ∷ []) (pos 3 ∷ []) (set turn_potentials 5 (pos 1)) 1 reads (25 ∷ 0 ∷ 0 ∷ []))
    ∷ (branch_says sides (pos 10 ∷ []) (pos 3 ∷ []) (set turn_potentials 3 (minus 2)) 1 reads (25 ∷ 1 ∷ 0 ∷ []))
    ∷ (branch_says sides (pos 10 ∷ []) (pos 3 ∷ []) (set turn_potentials 4 (minus 1)) 1 reads (25 ∷ 2 ∷ 0 ∷ []))
    ∷ (branch_says sides (pos 10 ∷ []) (pos 3 ∷ []) (set turn_potentials 4 (pos 1)) 1 reads (25 ∷ 4 ∷ 0 ∷ []))
    -- a multiplier too small by 1, and the fact of one side alone: the loop costs more each turn
    ∷ (branch_says sides (pos 10 ∷ []) (pos 2 ∷ []) turn_potentials 1 reads (25 ∷ 1 ∷ 0 ∷ []))
    ∷ (branch_says one_side (pos 10 ∷ []) (pos 3 ∷ []) turn_potentials 1 reads (25 ∷ 1 ∷ 0 ∷ []))
    -- of the loop within a loop, one too small at node 0, for itself, and at node 2, for an arrow of node 1
    ∷ (says_of nested nested_table (rounds_by (set round_potentials 0 (pos 131))) reads (25 ∷ 0 ∷ 0 ∷ []))
    ∷ (says_of nested nested_table (rounds_by (set round_potentials 2 (pos 121))) reads (25 ∷ 1 ∷ 0 ∷ []))
    -- on the low side, at the entry and at node 1
    ∷ (branch_says_low [] [] [] (replicate 6 (minus 2)) 1 reads (25 ∷ 0 ∷ 0 ∷ []))
    ∷ (branch_says_low back_and_out (minus 10 ∷ minus 1 ∷ []) (pos 3 ∷ pos 2 ∷ []) (minus 1 ∷ minus 1 ∷ minus 2 ∷ minus 3 ∷ pos 0 ∷ pos 0 ∷ []) 1 reads (25 ∷ 1 ∷ 0 ∷ []))
    ∷ []
