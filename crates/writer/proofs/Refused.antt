-- What is refused by some of the rules is refused by more of them, and what is not refused goes on to the rest.
use mathlib.Core.Bool.{Bool, true, false, cond}
use mathlib.Core.List.{List, [], ◌∷◌, ◌++◌}
use mathlib.Core.Path.{◌≡◌, refl, sym, ◌∙◌}
use Prim.Native.Nat.{ℕ, ◌<◌}
use native.Mathlib.Omega.{arith}
use borrow.Author.Tests.{eqb-true, eq-eqb, not-false}
use lib.Dec.{ltb, eqb}
use lib.ListN.{length}
use Rattle.std.specs.Prelude.{Result, Ok, Err}
use Rattle.lists.specs.Choice.{Case, ◌⇒◌, NoneApplies, first_case}
use Rattle.lists.proofs.Choice.{and-true, true-and, none_passes, first-applies, applies-first, first-front}
use Rattle.blocks.specs.Blocks.{gathered}
use Rattle.refusals.specs.declared.Refusal.{Refusal}
use Rattle.refusals.specs.declared.Refusal.TheVariants.{TooManyBlocks, BrokenRecord}
use Rattle.chart.specs.declared.headers.Header.{Header}
use Rattle.chart.specs.declared.records.RecordFields.{RecordFields}
use Rattle.chart.specs.Record.{record_keeps}
use Rattle.chart.specs.Chart.{accepted, refused, chart_of, blocks_at, broken_at, first_broken, first_overfull, record_cases, records_read}
use Rattle.chart.specs.Inner.{Gathers}
use Rattle.writer.specs.Given.{NodeLists, all_long, AllLong}
use Rattle.writer.specs.Contract.{Packs}

-- `told` is another way to tell of the same refusals.
pub refused-first : {X Y : Type 0} (told : Refusal → X) (say : Refusal → Y) (cases more : List (Case Refusal)) (x : X) (y : Y) (refusal : Refusal)
    → ((a b : Refusal) → told a ≡ told b → a ≡ b) → (x ≡ told refusal → ⊥) → first_case told cases x ≡ told refusal → first_case say (cases ++ more) y ≡ say refusal
refused-first told say cases more x y refusal apart other e =
    first-applies say (cases ++ more) y refusal (first-front cases more refusal (applies-first told cases x refusal apart other e))

-- Records that the reader would refuse.
pub refused-records : {Y : Type 0} (say : Refusal → Y) (records : ℕ → RecordFields) (header : Header) (more : List (Case Refusal)) (y : Y) (refusal : Refusal)
    → records_read records header ≡ refused refusal → first_case say (record_cases records header ++ more) y ≡ say refusal
refused-records say records header more y refusal e =
    refused-first refused say (record_cases records header) more (accepted (chart_of records header)) y refusal (λ a b q. cc) (λ q. let z : ◌≡◌ {A = ℕ} 0 1 = cc in omega arith) e

-- Where no record is the first to break its rules, all keep them.
pub all-kept : (nodes : ℕ) (records : ℕ → RecordFields) → ltb (first_broken records nodes) nodes ≡ false → (n : ℕ) → n < nodes → record_keeps nodes (records n) ≡ true
unfolding first_broken
all-kept nodes records whole n h = not-false _ (none_passes nodes (broken_at records nodes) whole n h)

-- Records that could all be packed are whole; and what their packing refuses is refused.
module _ (records : ℕ → RecordFields) (header : Header) (before after : List ℕ) (answer : Result (Unit {0}) Refusal) (packs : Packs records header.nodes before answer after) where
  abbrev broken : ℕ
  broken = first_broken records header.nodes

  pub packed-whole : (u : Unit {0}) → answer ≡ Ok u → ltb broken header.nodes ≡ false
  packed-whole u e = go (ltb broken header.nodes) (sym packs.answered ∙ e)
    where
      go : (t : Bool) → cond t (Err (BrokenRecord broken)) (Ok tt) ≡ Ok u → t ≡ false
      go true d = let z : ◌≡◌ {A = ℕ} 0 1 = cc in absurd (omega arith)
      go false d = refl

  pub packed-refused : {Y : Type 0} (say : Refusal → Y) (more : List (Case Refusal)) (y : Y) (refusal : Refusal)
      → answer ≡ Err refusal → first_case say (record_cases records header ++ more) y ≡ say refusal
  packed-refused say more y refusal e =
      let over : ℕ = first_overfull records header.geometry header.nodes in
      refused-first {X = Result (Unit {0}) Refusal} Err say ((ltb broken header.nodes ⇒ BrokenRecord broken) ∷ []) ((ltb over header.nodes ⇒ TooManyBlocks over) ∷ more) (Ok tt) y refusal
      (λ a b q. cc) (λ q. let z : ◌≡◌ {A = ℕ} 0 1 = cc in omega arith) (sym packs.answered ∙ e)

-- Records that are whole and bring few blocks are refused by no rule.
pub none-refused : (records : ℕ → RecordFields) (header : Header) → ltb (first_broken records header.nodes) header.nodes ≡ false
    → (answer : Result ℕ Refusal) (array : List ℕ) → Gathers records header.geometry header.nodes answer array → (count : ℕ) → answer ≡ Ok count → NoneApplies (record_cases records header)
none-refused records header whole answer array gathers count q =
    (whole, (go (ltb over header.nodes) (sym gathers.answered ∙ q), tt))
  where
    over : ℕ
    over = first_overfull records header.geometry header.nodes

    go : (t : Bool) → cond t (Err (TooManyBlocks over)) (Ok (length (gathered (blocks_at header.geometry records) header.nodes))) ≡ Ok count → t ≡ false
    go true d = let z : ◌≡◌ {A = ℕ} 0 1 = cc in absurd (omega arith)
    go false d = refl

-- The test of the lists' lengths, told.
pub long-lists : (count : ℕ) (lists : NodeLists) → all_long count lists ≡ true → AllLong count lists
long-lists count lists h =
    let a = and-true (eqb (length lists.kinds) count) _ h in
    let b = and-true (eqb (length lists.addresses) count) _ a.1 in
    let c = and-true (eqb (length lists.sizes) count) _ b.1 in
    let d = and-true (eqb (length lists.outs) count) _ c.1 in
    let e = and-true (eqb (length lists.firsts) count) _ d.1 in
    record {
      kinds = eqb-true _ _ a.0;
      addresses = eqb-true _ _ b.0;
      sizes = eqb-true _ _ c.0;
      outs = eqb-true _ _ d.0;
      firsts = eqb-true _ _ e.0;
      seconds = eqb-true _ _ e.1;
    }

pub lists-long : (count : ℕ) (lists : NodeLists) → AllLong count lists → all_long count lists ≡ true
lists-long count lists long =
    true-and _ _ (eq-eqb _ _ long.kinds)
    (true-and _ _ (eq-eqb _ _ long.addresses)
    (true-and _ _ (eq-eqb _ _ long.sizes) (true-and _ _ (eq-eqb _ _ long.outs) (true-and _ _ (eq-eqb _ _ long.firsts) (eq-eqb _ _ long.seconds)))))
