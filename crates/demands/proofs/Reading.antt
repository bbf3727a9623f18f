-- Touches called kept that miss, counted by the classes in a buffer: no more than by the table that the classes are of.
use Prim.Native.Nat.{ℕ, ◌+◌, ◌*◌, ◌≤◌, ◌<◌, zero-le}
use mathlib.Core.Bool.{Bool, true, false, cond, not, ◌&&◌}
use mathlib.Core.List.{List, [], ◌∷◌}
use mathlib.Core.Path.{◌≡◌, refl, sym, ap, ◌∙◌}
use native.Mathlib.Omega.{arith}
use lib.Dec.{eqb}
use lib.ListN.{get_or, drop}
use Rattle.chart.specs.Record.{Touch}
use Rattle.chart.specs.Chart.{Chart, accepted, read_chart, touches}
use Rattle.flow.specs.Flow.{cell_at}
use Rattle.flow.specs.Passing.{Passing}
use Rattle.flow.specs.Walk.{count_at}
use Rattle.flow.proofs.Paying.{along-monotone}
use Rattle.ages.specs.Charted.{plan_of, ages_flow}
use Rattle.classes.specs.Class.{none, kept, Whole, node_class, classes_by}
use Rattle.machine.specs.Machine.{plain_machine, Contents}
use Rattle.machine.specs.Keeping.{touch_whole, kept_miss}
use Rattle.tables.specs.Lent.{Lent, ages_at, table_of}
use Rattle.demands.specs.Demand3.{whole_in, classes_read, read_miss, kept_misses, read_misses, AtEachNode}
use Rattle.demands.specs.Inner.{touch_class, Arrives}
use Rattle.demands.proofs.Truth.{classes-charted}

module _ (chart : Chart) (block : ℕ) where
  -- Where no class is left, none is called kept.
  read_none : (es : List Touch) (c : Contents chart) → count_at (λ touch left. drop 1 left) (plain_machine chart).act (read_miss chart block) es [] c ≡ 0
  read_none [] c = refl
  read_none (e ∷ es) c = go (eqb e.block block) (read_none es ((plain_machine chart).act e c))
    where
      go : (t : Bool) → count_at (λ touch left. drop 1 left) (plain_machine chart).act (read_miss chart block) es [] ((plain_machine chart).act e c) ≡ 0
          → cond (t && (eqb (get_or [] 0 none) kept && not ((plain_machine chart).finds e c))) 1 0 + count_at (λ touch left. drop 1 left) (plain_machine chart).act (read_miss chart block) es [] ((plain_machine chart).act e c) ≡ 0
      go true rest = omega (arith, rest)
      go false rest = omega (arith, rest)

  -- Of a node, by its first two classes.
  read-least : (es : List Touch) (whole : Whole) (c : Contents chart) (first second : ℕ)
      → first ≡ get_or (classes_by (touch_class chart) (touch_whole chart) es whole) 0 none
      → second ≡ get_or (classes_by (touch_class chart) (touch_whole chart) es whole) 1 none
      → count_at (λ touch left. drop 1 left) (plain_machine chart).act (read_miss chart block) es (first ∷ second ∷ []) c
      ≤ count_at (touch_whole chart) (plain_machine chart).act (kept_miss chart block) es whole c
  read-least [] whole c first second e f = zero-le
  read-least (t ∷ []) whole c first second e f = rw e (omega arith)
  read-least (t ∷ (u ∷ es)) whole c first second e f = rw (e, f) (omega (arith, read_none es ((plain_machine chart).act u ((plain_machine chart).act t c))))

module _ (bytes : List ℕ) (chart : Chart) (read : read_chart bytes ≡ accepted chart) (table : Lent) (passing : Passing (ages_flow chart) (table_of (plan_of chart) table)) (classes : List ℕ)
    (first-is : (n : ℕ) → n < chart.header.nodes → node_class (plan_of chart) n 0 (cell_at (table_of (plan_of chart) table) n) ≡ get_or classes (2 * n) 0)
    (second_is : (n : ℕ) → n < chart.header.nodes → node_class (plan_of chart) n 1 (cell_at (table_of (plan_of chart) table) n) ≡ get_or classes (2 * n + 1) 0) where
  node-class : (n k : ℕ) (c : Contents chart) → Arrives chart table n c → node_class (plan_of chart) n k (cell_at (table_of (plan_of chart) table) n) ≡ get_or (classes_by (touch_class chart) (touch_whole chart) (touches chart n) (whole_in chart table n)) k none
  node-class n k c arrived =
      ap (node_class (plan_of chart) n k) arrived.marked
      ∙ ap (λ (l : List ℕ). get_or l k none) (classes-charted chart n arrived.inside (ages_at (plan_of chart) table n))

  pub written-misses : (block : ℕ) (ts : List ℕ) (cache : Contents chart) → AtEachNode chart (Arrives chart table) ts cache → read_misses chart classes block ts cache ≤ kept_misses chart table block ts cache
  written-misses block ts cache arriving =
      along-monotone (plain_machine chart) (touches chart) (Arrives chart table)
      (λ n c. count_at (λ touch left. drop 1 left) (plain_machine chart).act (read_miss chart block) (touches chart n) (classes_read classes n) c)
      (λ n c. count_at (touch_whole chart) (plain_machine chart).act (kept_miss chart block) (touches chart n) (whole_in chart table n) c)
      (λ n c a. read-least chart block (touches chart n) (whole_in chart table n) c (get_or classes (2 * n) 0) (get_or classes (2 * n + 1) 0)
      (sym (first-is n a.inside) ∙ node-class n 0 c a) (sym (second_is n a.inside) ∙ node-class n 1 c a))
      chart.header.entry ts cache arriving
