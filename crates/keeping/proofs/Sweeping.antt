-- Turns of one sweep, and sweeps until none is due: the table is then the tightest of the block.
use Prim.Native.Nat.{ℕ, ◌+◌, ◌*◌, ◌≤◌, ◌<◌}
use mathlib.Core.Bool.{cond}
use mathlib.Core.List.{List}
use mathlib.Core.Logic.{◌⊎◌, inl, inr}
use mathlib.Core.Path.{◌≡◌, sym, subst}
use native.Mathlib.Omega.{arith}
use borrow.Author.Tests.{lt-ltb, le-ltb}
use lib.Dec.{ltb}
use Rattle.flow.proofs.Settling.{tightest-same}
use Rattle.flow.proofs.Working.{idle-tightest}
use Rattle.lists.proofs.Sums.{flag-most}
use Rattle.plan.specs.Listed.{nodes_in, blocks_in, plan_in, Drawn}
use Rattle.kept.specs.Kept.{kept_flow, kept_table}
use Rattle.kept.proofs.Lawful.{kept_laws}
use Rattle.kept.proofs.Settled.{kept-tightest}
use Rattle.keeping.specs.declared.span.Span.{Span}
use Rattle.keeping.specs.Words.{Grouped, Chosen}
use Rattle.keeping.specs.Columns.{group_of}
use Rattle.keeping.specs.Work.{Work, Roomy, span_to, visited}
use Rattle.keeping.specs.Flood.{due_in, Within, Stands, weight_of, Swept, Flooded}
use Rattle.keeping.proofs.Sending.{table_of}
use Rattle.keeping.proofs.Visiting.{Turned, stands-underway, visited-turned}

-- ---- one sweep

-- Before node n is taken in a sweep that began with `before`.
pub record Sweeping (columns plan : List ℕ) (block : ℕ) (before : Work) (n : ℕ) (work : Work) : Type 0 where
  pub room : Roomy (nodes_in plan) work.marks work.words work.due
  pub stands : Stands (plan_in columns plan) block n work
  pub lighter : weight_of (nodes_in plan) work ≤ weight_of (nodes_in plan) before
  pub progress : (weight_of (nodes_in plan) work < weight_of (nodes_in plan) before) ⊎ (work.span.high ≤ work.span.low)

module _ (columns plan : List ℕ) (drawn : Drawn columns plan) (chosen sets : List ℕ) (grouped : Grouped (blocks_in plan) (group_of columns chosen sets))
    (block : ℕ) (inside : block < blocks_in plan) (own : Chosen chosen block) (before : Work) (n : ℕ) (work : Work) where
  pub sweep-turns : Sweeping columns plan block before n work → n < work.span.to → (after : Work) → after ≡ visited (group_of columns chosen sets) plan n work → Sweeping columns plan block before (n + 1) after
  sweep-turns s ahead after e =
      let node : n < nodes_in plan = omega (arith, s.stands.to_in) in
      let turned : Turned columns plan block n work after = subst (Turned columns plan block n work) (sym e) (visited-turned columns plan drawn chosen sets grouped block inside own n node work s.room s.stands) in
      record {
        room = turned.room;
        stands = turned.stands;
        lighter = omega (arith, turned.lighter, s.lighter);
        progress = go turned turned.progress s.progress;
      }
    where
      go : Turned columns plan block n work after
          → (weight_of (nodes_in plan) after < weight_of (nodes_in plan) work) ⊎ (after.span ≡ work.span)
          → (weight_of (nodes_in plan) work < weight_of (nodes_in plan) before) ⊎ (work.span.high ≤ work.span.low)
          → (weight_of (nodes_in plan) after < weight_of (nodes_in plan) before) ⊎ (after.span.high ≤ after.span.low)
      go turned (inl less) old = inl (omega (arith, s.lighter))
      go turned (inr same) (inl less) = inl (omega (arith, turned.lighter))
      go turned (inr same) (inr none) = inr (subst (λ (span : Span). span.high ≤ span.low) (sym same) none)

module _ (columns plan : List ℕ) (block : ℕ) (before : Work) (n : ℕ) (work : Work) where
  pub sweep-ends : Sweeping columns plan block before n work → work.span.to ≤ n → Swept columns plan block before work
  sweep-ends s done =
      record {
        stands =
            record {
              fits = s.stands.fits;
              begun = s.stands.begun;
              under = s.stands.under;
              working = s.stands.working;
              within = λ m h d. go m (s.stands.within m h d);
              to_in = s.stands.to_in;
              high_in = s.stands.high_in;
            };
        lighter = s.lighter;
        progress = s.progress;
      }
    where
      go : (m : ℕ) → Within n work.span m → Within work.span.to work.span m
      go m (inl h) = absurd (omega (arith, h.0, h.1))
      go m (inr h) = inr h

-- ---- sweeps

-- The same work, with all that are due before a node.
abbrev pub up_to : ℕ → Work → Work
up_to to work = record { marks = work.marks; words = work.words; due = work.due; span = span_to to }

-- What is left to do, and whether there is a node that may be due.
abbrev pub left_over : ℕ → ℕ → ℕ → Work → ℕ
left_over nodes low high work = 2 * weight_of nodes work + cond (ltb low high) 1 0

module _ (columns plan : List ℕ) (block : ℕ) (before after : Work) (swept : Swept columns plan block before after) where
  -- All that are due after a sweep stand from `low` to before `high`.
  pub sweeps-on : Stands (plan_in columns plan) block after.span.low (up_to after.span.high after)
  sweeps-on =
      record {
        fits = swept.stands.fits;
        begun = swept.stands.begun;
        under = swept.stands.under;
        working = swept.stands.working;
        within = λ m h d. go m (swept.stands.within m h d);
        to_in = swept.stands.high_in;
        high_in = omega arith;
      }
    where
      go : (m : ℕ) → Within after.span.to after.span m → Within after.span.low (span_to after.span.high) m
      go m (inl h) = absurd (omega (arith, h.0, h.1))
      go m (inr h) = inl h

  pub sweeps-less : (low high : ℕ) → low < high → left_over (nodes_in plan) after.span.low after.span.high after < left_over (nodes_in plan) low high before
  sweeps-less low high more = rw (lt-ltb low high more) (go swept.progress)
    where
      go : (weight_of (nodes_in plan) after < weight_of (nodes_in plan) before) ⊎ (after.span.high ≤ after.span.low)
          → 2 * weight_of (nodes_in plan) after + cond (ltb after.span.low after.span.high) 1 0 < 2 * weight_of (nodes_in plan) before + 1
      go (inl less) = omega (arith, flag-most (ltb after.span.low after.span.high))
      go (inr none) = rw (le-ltb after.span.low after.span.high none) (omega (arith, swept.lighter))

-- When no node can be due, the table is the tightest.
pub sweeps-end : (columns plan : List ℕ) (drawn : Drawn columns plan) (block : ℕ) → block < blocks_in plan → (low high : ℕ) (work : Work) → high ≤ low → Stands (plan_in columns plan) block low (up_to high work)
    → Flooded (plan_in columns plan) block work.marks work.words
sweeps-end columns plan drawn block inside low high work none s =
    record {
      fits = s.fits;
      table =
          tightest-same (kept_flow (plan_in columns plan) block) (kept_laws (plan_in columns plan) drawn.sound block) (table_of (plan_in columns plan) block work) (kept_table (plan_in columns plan) block)
          (idle-tightest (kept_flow (plan_in columns plan) block) (kept_laws (plan_in columns plan) drawn.sound block) (table_of (plan_in columns plan) block work) (due_in work.due) (stands-underway columns plan drawn block inside low (up_to high work) s) s.working (λ m h d. go m (s.within m h d)))
          (kept-tightest (plan_in columns plan) drawn.sound drawn.few_blocks block inside);
    }
  where
    go : (m : ℕ) → Within low (span_to high) m → ⊥
    go m (inl h) = omega (arith, h.0, h.1)
    go m (inr h) = omega (arith, h.1)
