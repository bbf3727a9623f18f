-- What is answered for certificates that are worked out by hand: a loop by one side or the other of a branch, where one fact of both sides is all that is
-- known, and a loop within a loop by how often it turns for each entry; both sides of each, rounding, nodes that are ruled out, and the ends of the ranges.
-- `Varied` has other charts, and `Unbounded` the refusals. Nothing here is a rule of the tool: it is what rules 10.2 to 10.4 and 18.1 to 18.8 come to.
use Rattle.std.specs.Prelude.{ℕ, zero, suc, ◌+◌, ◌-◌, ◌*◌, ◌^◌, List, [], ◌∷◌, ◌++◌, ℤ, pos, neg_ℤ, set, replicate}
use Rattle.lists.specs.Soundings.{Sounding, ◌reads◌}
use Rattle.chart.specs.Chart.{chart_in}
use Rattle.cache.specs.Plain.{empty_cache}
use Rattle.facts.specs.declared.Side.{Side}
use Rattle.facts.specs.declared.Side.TheVariants.{High, Low}
use Rattle.machine.specs.Machine.{cost_of}
use Rattle.tables.specs.Lent.{Lent}
use Rattle.certificate.specs.Bound.{Question, bound_says}
use Rattle.demands.specs.Straddling.{headed, settled_in}
use Rattle.demands.specs.Staying.{step_to, read_block}

-- ---- how a question is put

-- A number below 0.
abbrev pub minus : ℕ → ℤ
minus k = neg_ℤ (pos k)

-- A hit costs 1 and a miss 10.
abbrev pub ask : Side → List ℤ → List ℤ → List ℤ → List ℤ → ℕ → Question
ask side coefficients limits multipliers potentials denominator =
    record {
      costs = record { hit = 1; miss = 10 };
      side = side;
      facts = record { coefficients = coefficients; limits = limits };
      certificate = record { multipliers = multipliers; potentials = potentials; denominator = denominator };
    }

-- The number, the place and the bound.
abbrev pub says_of : List ℕ → Lent → Question → List ℕ
says_of bytes table question =
    (bound_says bytes table question).number ∷ (bound_says bytes table question).place ∷ (bound_says bytes table question).bound ∷ []

-- ---- a branch in a loop: the chart charts/branch.hex

-- Node 0 reads block 0 and leads to the fork, node 1, and to node 5; the sides, nodes 2 and 3, read blocks 1 and 2; node 4 reads block 3 and leads back;
-- node 5 reads block 0. Four ways, empty.
abbrev pub branch : List ℕ
branch =
    headed 6 0 4 1
    ++ read_block 0 (1 ∷ 5 ∷ [])
    ++ step_to (2 ∷ 3 ∷ [])
    ++ read_block 1 (4 ∷ [])
    ++ read_block 2 (4 ∷ [])
    ++ read_block 3 (0 ∷ [])
    ++ read_block 0 []

-- The table that the analysis leaves: nodes 0, 2, 3 and 4 are kept, and node 5 is a hit.
abbrev pub branch_table : Lent
branch_table =
    record {
      must =
          4 ∷ 4 ∷ 4 ∷ 4
          ∷ 0 ∷ 4 ∷ 4 ∷ 4
          ∷ 0 ∷ 4 ∷ 4 ∷ 4
          ∷ 0 ∷ 4 ∷ 4 ∷ 4
          ∷ 1 ∷ 4 ∷ 4 ∷ 4
          ∷ 0 ∷ 4 ∷ 4 ∷ 4
          ∷ [];
      may =
          2 ∷ 1 ∷ 1 ∷ 0
          ∷ 0 ∷ 2 ∷ 2 ∷ 1
          ∷ 0 ∷ 2 ∷ 2 ∷ 1
          ∷ 0 ∷ 2 ∷ 2 ∷ 1
          ∷ 1 ∷ 0 ∷ 0 ∷ 2
          ∷ 0 ∷ 2 ∷ 2 ∷ 1
          ∷ [];
      marks = replicate 6 1;
    }

-- So many pairs of turns, one by each side, and out; and ten turns.
abbrev pub both_sides : ℕ → List ℕ
both_sides zero = 5 ∷ []
both_sides (suc pairs) = 1 ∷ 2 ∷ 4 ∷ 0 ∷ 1 ∷ 3 ∷ 4 ∷ 0 ∷ both_sides pairs

abbrev pub branch_walk : List ℕ
branch_walk = both_sides 5

-- Rows of coefficients: both sides together, the one side, the way back, and none.
abbrev pub sides : List ℤ
sides = pos 0 ∷ pos 0 ∷ pos 1 ∷ pos 1 ∷ pos 0 ∷ pos 0 ∷ []

abbrev pub one_side : List ℤ
one_side = pos 0 ∷ pos 0 ∷ pos 1 ∷ pos 0 ∷ pos 0 ∷ pos 0 ∷ []

abbrev pub back : List ℤ
back = pos 0 ∷ pos 0 ∷ pos 0 ∷ pos 0 ∷ pos 1 ∷ pos 0 ∷ []

abbrev pub no_nodes : List ℤ
no_nodes = replicate 6 (pos 0)

-- A turn costs 3: three times the fact takes it off at the side that is visited. Node 0 costs 1 before the first turn, and node 5 one more after the last.
abbrev pub turn_potentials : List ℤ
turn_potentials = pos 1 ∷ pos 1 ∷ minus 1 ∷ minus 1 ∷ pos 0 ∷ pos 2 ∷ []

-- The same twice and three times, with this at node 5.
abbrev pub twice : ℕ → List ℤ
twice last = pos 2 ∷ pos 2 ∷ minus 2 ∷ minus 2 ∷ pos 0 ∷ pos last ∷ []

abbrev pub thrice : ℕ → List ℤ
thrice last = pos 3 ∷ pos 3 ∷ minus 3 ∷ minus 3 ∷ pos 0 ∷ pos last ∷ []

-- The sides are visited ten times at most, whichever is taken.
abbrev pub ten_sides : Question
ten_sides = ask High sides (pos 10 ∷ []) (pos 3 ∷ []) turn_potentials 1

-- What is said of the branch for these coefficients, limits, multipliers, potentials and denominator.
abbrev pub branch_says : List ℤ → List ℤ → List ℤ → List ℤ → ℕ → List ℕ
branch_says coefficients limits multipliers potentials denominator =
    says_of branch branch_table (ask High coefficients limits multipliers potentials denominator)

-- And on the low side. Rows of coefficients there: of the way back and of node 5, both no less often; and of node 0 no more often than of the way back.
abbrev pub branch_says_low : List ℤ → List ℤ → List ℤ → List ℤ → ℕ → List ℕ
branch_says_low coefficients limits multipliers potentials denominator =
    says_of branch branch_table (ask Low coefficients limits multipliers potentials denominator)

abbrev pub back_and_out : List ℤ
back_and_out =
    pos 0 ∷ pos 0 ∷ pos 0 ∷ pos 0 ∷ minus 1 ∷ pos 0
    ∷ pos 0 ∷ pos 0 ∷ pos 0 ∷ pos 0 ∷ pos 0 ∷ minus 1
    ∷ []

abbrev pub at_most_back : List ℤ
at_most_back = pos 1 ∷ pos 0 ∷ pos 0 ∷ pos 0 ∷ minus 1 ∷ pos 0 ∷ []

-- Ten times back and out: these potentials once, twice and three times, with this at node 5.
abbrev pub low_twice : ℕ → List ℤ
low_twice last = minus 2 ∷ minus 2 ∷ minus 4 ∷ minus 4 ∷ pos 0 ∷ pos last ∷ []

abbrev pub low_thrice : ℕ → List ℤ
low_thrice last = minus 3 ∷ minus 3 ∷ minus 6 ∷ minus 6 ∷ pos 0 ∷ pos last ∷ []

-- ---- a loop within a loop: the chart charts/nested.hex

-- Node 0 begins; nodes 1, 2 and 4, the outer loop, read blocks 0, 1 and 2; node 3, the inner one, reads block 1 again; node 5, after both, block 2 again. Two
-- ways, empty: the outer loop misses three times a round, and the others hit.
abbrev pub nested : List ℕ
nested =
    headed 6 0 2 1
    ++ step_to (1 ∷ [])
    ++ read_block 0 (2 ∷ [])
    ++ read_block 1 (3 ∷ 4 ∷ [])
    ++ read_block 1 (3 ∷ 4 ∷ [])
    ++ read_block 2 (1 ∷ 5 ∷ [])
    ++ read_block 2 []

abbrev pub nested_table : Lent
nested_table =
    record {
      must = 2 ∷ 2 ∷ 2 ∷ 2 ∷ 2 ∷ 2 ∷ 0 ∷ 2 ∷ 2 ∷ 1 ∷ 0 ∷ 2 ∷ 1 ∷ 0 ∷ 2 ∷ 2 ∷ 1 ∷ 0 ∷ [];
      may = 2 ∷ 2 ∷ 2 ∷ 2 ∷ 1 ∷ 0 ∷ 0 ∷ 2 ∷ 1 ∷ 1 ∷ 0 ∷ 2 ∷ 1 ∷ 0 ∷ 2 ∷ 2 ∷ 1 ∷ 0 ∷ [];
      marks = replicate 6 1;
    }

-- Node 1 four times at most for each visit of node 0, node 3 three times at most for each of node 2, and node 5 once at least.
abbrev pub turns : List ℤ
turns =
    minus 4 ∷ pos 1 ∷ pos 0 ∷ pos 0 ∷ pos 0 ∷ pos 0
    ∷ pos 0 ∷ pos 0 ∷ minus 3 ∷ pos 1 ∷ pos 0 ∷ pos 0
    ∷ pos 0 ∷ pos 0 ∷ pos 0 ∷ pos 0 ∷ pos 0 ∷ minus 1
    ∷ []

abbrev pub turn_limits : List ℤ
turn_limits = pos 0 ∷ pos 0 ∷ minus 1 ∷ []

-- A round costs 33 at most, and begins with 4 of them to come; it costs 30 at least.
abbrev pub round_potentials : List ℤ
round_potentials = pos 132 ∷ pos 109 ∷ pos 122 ∷ pos 122 ∷ pos 132 ∷ pos 133 ∷ []

abbrev pub rounds_by : List ℤ → Question
rounds_by potentials = ask High turns turn_limits (pos 33 ∷ pos 1 ∷ pos 0 ∷ []) potentials 1

abbrev pub four_rounds : Question
four_rounds = rounds_by round_potentials

abbrev pub one_round : Question
one_round =
    ask Low turns turn_limits (pos 0 ∷ pos 0 ∷ pos 31 ∷ []) (pos 0 ∷ minus 10 ∷ minus 20 ∷ minus 21 ∷ minus 30 ∷ pos 0 ∷ []) 1

-- So many rounds that turn as often as they may, and out; the walk that goes round most, and the one that goes round least.
abbrev pub full_rounds : ℕ → List ℕ
full_rounds zero = 5 ∷ []
full_rounds (suc rounds) = 1 ∷ 2 ∷ 3 ∷ 3 ∷ 3 ∷ 4 ∷ full_rounds rounds

abbrev pub longest : List ℕ
longest = full_rounds 4

abbrev pub shortest : List ℕ
shortest = 1 ∷ 2 ∷ 4 ∷ 5 ∷ []

-- ---- bounds

abbrev pub bounds : List Sounding
bounds =
    -- the tables are the analysis's own
    ((settled_in 6 4 branch).must reads branch_table.must)
    ∷ ((settled_in 6 4 branch).may reads branch_table.may)
    ∷ ((settled_in 6 3 nested).must reads nested_table.must)
    ∷ ((settled_in 6 3 nested).may reads nested_table.may)
    -- the branch: 32 touches at 1 and four loads of 9, and the walk by both sides costs just that
    ∷ (says_of branch branch_table ten_sides reads (0 ∷ 0 ∷ 68 ∷ []))
    ∷ ((cost_of (chart_in branch) 1 10 branch_walk empty_cache ∷ []) reads (68 ∷ []))
    -- no turn at all, and a limit below 0, which is no walk's
    ∷ (branch_says sides (pos 0 ∷ []) (pos 3 ∷ []) turn_potentials 1 reads (0 ∷ 0 ∷ 20 ∷ []))
    ∷ (branch_says sides (minus 1 ∷ []) (pos 3 ∷ []) turn_potentials 1 reads (0 ∷ 0 ∷ 18 ∷ []))
    -- twice all of it comes to the same, also with the fact twice in place of its multiplier, and one more is rounded down; so are one and two of three
    ∷ (branch_says sides (pos 10 ∷ []) (pos 6 ∷ []) (twice 4) 2 reads (0 ∷ 0 ∷ 68 ∷ []))
    ∷ (branch_says (set (set sides 2 (pos 2)) 3 (pos 2)) (pos 20 ∷ []) (pos 3 ∷ []) (twice 4) 2 reads (0 ∷ 0 ∷ 68 ∷ []))
    ∷ (branch_says sides (pos 10 ∷ []) (pos 6 ∷ []) (twice 5) 2 reads (0 ∷ 0 ∷ 68 ∷ []))
    ∷ (branch_says sides (pos 10 ∷ []) (pos 6 ∷ []) (twice 6) 2 reads (0 ∷ 0 ∷ 69 ∷ []))
    ∷ (branch_says sides (pos 10 ∷ []) (pos 9 ∷ []) (thrice 6) 3 reads (0 ∷ 0 ∷ 68 ∷ []))
    ∷ (branch_says sides (pos 10 ∷ []) (pos 9 ∷ []) (thrice 8) 3 reads (0 ∷ 0 ∷ 68 ∷ []))
    ∷ (branch_says sides (pos 10 ∷ []) (pos 9 ∷ []) (thrice 9) 3 reads (0 ∷ 0 ∷ 69 ∷ []))
    -- by how often it goes back in place of the sides: the same; and with one side ruled out and the largest potential there
    ∷ (branch_says back (pos 10 ∷ []) (pos 3 ∷ []) (pos 1 ∷ pos 1 ∷ pos 2 ∷ pos 2 ∷ pos 0 ∷ pos 2 ∷ []) 1 reads (0 ∷ 0 ∷ 68 ∷ []))
    ∷ (branch_says (back ++ one_side) (pos 10 ∷ pos 0 ∷ []) (pos 4 ∷ pos 0 ∷ []) (pos 1 ∷ pos 1 ∷ pos 3 ∷ pos 2 ∷ pos 0 ∷ pos 2 ∷ []) 1 reads (0 ∷ 0 ∷ 70 ∷ []))
    -- a fact of no node: its limit counts by its multiplier, 2 times 4
    ∷ (branch_says (sides ++ no_nodes) (pos 10 ∷ pos 4 ∷ []) (pos 3 ∷ pos 2 ∷ []) turn_potentials 1 reads (0 ∷ 0 ∷ 76 ∷ []))
    -- one side that is ruled out is not loaded, by a coefficient of 1 or of 2; nor is it by a limit below 0, but with a coefficient below 0 or a limit
    -- above it is
    ∷ (branch_says (sides ++ one_side) (pos 10 ∷ pos 0 ∷ []) (pos 3 ∷ pos 0 ∷ []) turn_potentials 1 reads (0 ∷ 0 ∷ 59 ∷ []))
    ∷ (branch_says (sides ++ set no_nodes 2 (pos 2)) (pos 10 ∷ pos 0 ∷ []) (pos 3 ∷ pos 0 ∷ []) turn_potentials 1 reads (0 ∷ 0 ∷ 59 ∷ []))
    ∷ (branch_says (sides ++ one_side) (pos 10 ∷ minus 7 ∷ []) (pos 3 ∷ pos 0 ∷ []) turn_potentials 1 reads (0 ∷ 0 ∷ 59 ∷ []))
    ∷ (branch_says (sides ++ set one_side 5 (minus 1)) (pos 10 ∷ pos 0 ∷ []) (pos 3 ∷ pos 0 ∷ []) turn_potentials 1 reads (0 ∷ 0 ∷ 68 ∷ []))
    ∷ (branch_says (sides ++ one_side) (pos 10 ∷ pos 1 ∷ []) (pos 3 ∷ pos 0 ∷ []) turn_potentials 1 reads (0 ∷ 0 ∷ 68 ∷ []))
    ∷ (branch_says (sides ++ set no_nodes 2 (pos 2)) (pos 10 ∷ pos 1 ∷ []) (pos 3 ∷ pos 0 ∷ []) turn_potentials 1 reads (0 ∷ 0 ∷ 68 ∷ []))
    -- the loop within a loop, both sides, and what its longest and its shortest walk cost
    ∷ (says_of nested nested_table four_rounds reads (0 ∷ 0 ∷ 133 ∷ []))
    ∷ (says_of nested nested_table one_round reads (0 ∷ 0 ∷ 31 ∷ []))
    ∷ ((cost_of (chart_in nested) 1 10 longest empty_cache ∷ cost_of (chart_in nested) 1 10 shortest empty_cache ∷ []) reads (133 ∷ 31 ∷ []))
    ∷ []

-- On the low side.
abbrev pub low_bounds : List Sounding
low_bounds =
    -- ten times back and out cost 32 touches at least; half a touch is rounded up, and so are one and two of three
    (branch_says_low back_and_out (minus 10 ∷ minus 1 ∷ []) (pos 3 ∷ pos 2 ∷ []) (minus 1 ∷ minus 1 ∷ minus 2 ∷ minus 2 ∷ pos 0 ∷ pos 0 ∷ []) 1 reads (0 ∷ 0 ∷ 32 ∷ []))
    ∷ (branch_says_low back_and_out (minus 10 ∷ minus 1 ∷ []) (pos 6 ∷ pos 4 ∷ []) (low_twice 1) 2 reads (0 ∷ 0 ∷ 32 ∷ []))
    ∷ (branch_says_low back_and_out (minus 10 ∷ minus 1 ∷ []) (pos 6 ∷ pos 4 ∷ []) (low_twice 2) 2 reads (0 ∷ 0 ∷ 31 ∷ []))
    ∷ (branch_says_low back_and_out (minus 10 ∷ minus 1 ∷ []) (pos 9 ∷ pos 6 ∷ []) (low_thrice 1) 3 reads (0 ∷ 0 ∷ 32 ∷ []))
    ∷ (branch_says_low back_and_out (minus 10 ∷ minus 1 ∷ []) (pos 9 ∷ pos 6 ∷ []) (low_thrice 2) 3 reads (0 ∷ 0 ∷ 32 ∷ []))
    ∷ (branch_says_low back_and_out (minus 10 ∷ minus 1 ∷ []) (pos 9 ∷ pos 6 ∷ []) (low_thrice 3) 3 reads (0 ∷ 0 ∷ 31 ∷ []))
    -- node 0 once more at most than the way back: all potentials are below 0, and the limit is above
    ∷ (branch_says_low at_most_back (pos 1 ∷ []) (pos 1 ∷ []) (minus 2 ∷ minus 2 ∷ minus 3 ∷ minus 3 ∷ minus 3 ∷ minus 3 ∷ []) 1 reads (0 ∷ 0 ∷ 1 ∷ []))
    -- without facts: what the entry costs, and with potentials that say nothing 0
    ∷ (branch_says_low [] [] [] (replicate 6 (minus 1)) 1 reads (0 ∷ 0 ∷ 1 ∷ []))
    ∷ (branch_says_low [] [] [] (replicate 6 (pos 0)) 1 reads (0 ∷ 0 ∷ 0 ∷ []))
    ∷ (branch_says_low [] [] [] (replicate 6 (pos 5)) 1 reads (0 ∷ 0 ∷ 0 ∷ []))
    ∷ []

-- ---- the ends of the ranges

abbrev pub at_the_ends : List Sounding
at_the_ends =
    -- the largest denominator, all multipliers together, a potential, and coefficients and limits both ways
    (branch_says sides (pos 10 ∷ []) (pos (3 * 2 ^ 32) ∷ []) (pos (2 ^ 32) ∷ pos (2 ^ 32) ∷ minus (2 ^ 32) ∷ minus (2 ^ 32) ∷ pos 0 ∷ pos (2 * 2 ^ 32) ∷ []) (2 ^ 32) reads (0 ∷ 0 ∷ 68 ∷ []))
    ∷ (branch_says sides (pos 10 ∷ []) (pos (2 ^ 36) ∷ []) turn_potentials 1 reads (0 ∷ 0 ∷ (2 + 10 * 2 ^ 36 + 36) ∷ []))
    ∷ (branch_says sides (pos 10 ∷ []) (pos 3 ∷ []) (set turn_potentials 5 (pos (2 ^ 60))) 1 reads (0 ∷ 0 ∷ (2 ^ 60 + 30 + 36) ∷ []))
    ∷ (branch_says (sides ++ set (set one_side 2 (pos (2 ^ 24))) 3 (minus (2 ^ 24))) (pos 10 ∷ pos (2 ^ 24) ∷ []) (pos 3 ∷ pos 0 ∷ []) turn_potentials 1 reads (0 ∷ 0 ∷ 68 ∷ []))
    ∷ (branch_says (sides ++ back) (pos 10 ∷ minus (2 ^ 24) ∷ []) (pos 3 ∷ pos 0 ∷ []) turn_potentials 1 reads (0 ∷ 0 ∷ 59 ∷ []))
    ∷ (branch_says_low [] [] [] (replicate 6 (pos (2 ^ 60))) 1 reads (0 ∷ 0 ∷ 0 ∷ []))
    -- all of a multiplier, a coefficient and potentials below 0: with a limit as large as they are, and with one that no walk keeps
    ∷ (branch_says_low (set no_nodes 0 (pos (2 ^ 24))) (pos (2 ^ 24) ∷ []) (pos (2 ^ 36) ∷ []) (replicate 6 (minus (2 ^ 60))) 1 reads (0 ∷ 0 ∷ 0 ∷ []))
    ∷ (branch_says_low (set no_nodes 0 (pos (2 ^ 24))) (pos 1 ∷ []) (pos (2 ^ 36) ∷ []) (replicate 6 (minus (2 ^ 60))) 1 reads (0 ∷ 0 ∷ (2 ^ 60 - 2 ^ 36) ∷ []))
    ∷ []
