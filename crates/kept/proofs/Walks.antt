-- The table of one block has at each node what some walk to it has, and no walk has more. What a state has of walks is carried along passes.
use Prim.Native.Nat.{ℕ, ◌≤◌, ◌<◌}
use mathlib.Core.Bool.{true, true≢false}
use mathlib.Core.List.{List, [], ◌∷◌, ◌++◌}
use mathlib.Core.Path.{◌≡◌, refl, sym, ap, subst, ◌∙◌}
use Rattle.lists.specs.Lists.{Among}
use Rattle.chart.specs.Geometry.{most_blocks}
use Rattle.flow.specs.Flow.{Cell, blank, holds, cell_at, Table}
use Rattle.flow.specs.Passing.{CellBelow, leaving, Passing}
use Rattle.flow.specs.Laws.{Laws, CellReal}
use Rattle.flow.specs.Walk.{Onward, last_of, in_turn}
use Rattle.flow.proofs.Settling.{after_passes-underway}
use Rattle.flow.proofs.Ending.{settle-after}
use Rattle.flow.proofs.Carried.{carrying}
use Rattle.flow.proofs.Reaching.{reached_more}
use Rattle.ages.specs.Plan.{Plan, touches_in, arrows_in, Sound}
use Rattle.kept.specs.Since.{Since, is_in, untouched, SinceLess}
use Rattle.kept.specs.Kept.{after_touch_of, kept_flow, kept_passes, kept_table, since_of}
use Rattle.kept.specs.Walked.{touches_before, along_walk, WalkTo, walk_since, FromWalks}
use Rattle.kept.proofs.Comparing.{less-trans}
use Rattle.kept.proofs.Lawful.{step-monotone, kept_laws}
use Rattle.kept.proofs.Settled.{kept_settles, kept-tightest}
use Rattle.kept.proofs.Turned.{none-touched, none_in}
use Rattle.kept.proofs.Covered.{Covered, turns-covered, meet-covered, start-covered, covered-by}

-- ---- one node more

turns-joined : {E X : Type 0} (act : E → X → X) (es fs : List E) (x : X) → in_turn act (es ++ fs) x ≡ in_turn act fs (in_turn act es x)
turns-joined act [] fs x = refl
turns-joined act (e ∷ es) fs x = turns-joined act es fs (act e x)

module _ (plan : Plan) (block : ℕ) where
  abbrev step : ℕ → Since → Since
  step n a = (kept_flow plan block).step n a

  along-more : (n t : ℕ) (ts : List ℕ) (a : Since) → along_walk plan block n (ts ++ t ∷ []) a ≡ step (last_of n ts) (along_walk plan block n ts a)
  along-more n t [] a = turns-joined (after_touch_of plan block) (touches_in plan n) [] a
  along-more n t (k ∷ ts) a =
      turns-joined (after_touch_of plan block) (touches_in plan n) (touches_before plan k (ts ++ t ∷ [])) a
      ∙ along-more k t ts (step n a)
      ∙ ap (step (last_of k ts)) (sym (turns-joined (after_touch_of plan block) (touches_in plan n) (touches_before plan k ts) a))

-- ---- passes

module _ (plan : Plan) (block : ℕ) where
  abbrev CoveredAt : ℕ → Since → Type 0
  CoveredAt n a = Covered plan.blocks (WalkTo plan n) (walk_since plan block n) a

  -- A walk to n goes on to t.
  abbrev goes_on : (n t : ℕ) → Among t (arrows_in plan n) → WalkTo plan n → WalkTo plan t
  goes_on = reached_more (arrows_in plan) plan.entry

  since-on : (n t : ℕ) (i : Among t (arrows_in plan n)) (w : WalkTo plan n)
      → step plan block n (walk_since plan block n w) ≡ walk_since plan block t (goes_on n t i w)
  since-on n t i w =
      ap (λ (k : ℕ). step plan block k (walk_since plan block n w)) (sym w.1.1)
      ∙ sym (along-more plan block plan.entry t w.0 (untouched plan.blocks))

  step-covered : (n t : ℕ) (a : Since) → Among t (arrows_in plan n) → CoveredAt n a → CoveredAt t (step plan block n a)
  step-covered n t a i c =
      covered-by plan.blocks (WalkTo plan n) (λ w. step plan block n (walk_since plan block n w))
      (WalkTo plan t) (walk_since plan block t) (goes_on n t i) (since-on n t i) (step plan block n a)
      (turns-covered plan block (WalkTo plan n) (touches_in plan n) (walk_since plan block n) a c)

  -- The laws of the block's flow, with what walks have carried along.
  abbrev walk_laws : Laws (kept_flow plan block) → Laws (kept_flow plan block)
  walk_laws =
      carrying (kept_flow plan block) CoveredAt
      (start-covered plan.blocks (WalkTo plan plan.entry) (walk_since plan block plan.entry) ([], (tt, refl)))
      step-covered
      (λ n. meet-covered plan.blocks (WalkTo plan n) (walk_since plan block n))

-- ---- no walk has more

module _ (plan : Plan) (block : ℕ) (table : List (Cell Since)) (passing : Passing (kept_flow plan block) table) where
  abbrev Below : Since → Cell Since → Type 0
  Below a cell = CellBelow (kept_flow plan block) (holds a) cell

  less-below : (a b : Since) (cell : Cell Since) → SinceLess plan.blocks a b → Below b cell → Below a cell
  less-below a b blank less h = h
  less-below a b (holds c) less h = less-trans plan.blocks a b c less h

  below_next : (n : ℕ) (a : Since) (cell next : Cell Since) → Below a cell
      → CellBelow (kept_flow plan block) (leaving (kept_flow plan block) n cell) next → Below (step plan block n a) next
  below_next n a blank next h closed = absurd h
  below_next n a (holds b) next h closed = less-below (step plan block n a) (step plan block n b) next (step-monotone plan block n a b h) closed

  along-below : (n : ℕ) (ts : List ℕ) (a : Since) → Onward (arrows_in plan) n ts → Below a (cell_at table n)
      → Below (along_walk plan block n ts a) (cell_at table (last_of n ts))
  along-below n [] a on h = h
  along-below n (t ∷ ts) a on h =
      subst (λ (s : Since). Below s (cell_at table (last_of t ts)))
      (sym (turns-joined (after_touch_of plan block) (touches_in plan n) (touches_before plan t ts) a))
      (along-below t ts (step plan block n a) on.1 (below_next n a (cell_at table n) (cell_at table t) h (passing.closed n t on.0)))

  walk-below : (n : ℕ) (w : WalkTo plan n) → Below (walk_since plan block n w) (cell_at table n)
  walk-below n w =
      subst (λ (k : ℕ). Below (walk_since plan block n w) (cell_at table k)) w.1.1
      (along-below plan.entry w.0 (untouched plan.blocks) w.1.0 passing.begun)

-- ---- the settled table

module _ (plan : Plan) (sound : Sound plan) (few : plan.blocks ≤ most_blocks) (block : ℕ) (inside : block < plan.blocks) (n : ℕ) where
  abbrev laws : Laws (kept_flow plan block)
  laws = walk_laws plan block (kept_laws plan sound block)

  settled-covered : CellReal (kept_flow plan block) laws n (cell_at (kept_table plan block) n)
  settled-covered =
      let settles = kept_settles plan sound few block inside in
      let after = settle-after (kept_flow plan block) (kept_passes plan) settles.0 (kept_table plan block) settles.1 in
      subst (λ (T : Table (kept_flow plan block)). CellReal (kept_flow plan block) laws n (cell_at T n)) (sym after.table)
      ((after_passes-underway (kept_flow plan block) laws settles.0).fine n)

  cell-touched : (cell : Cell Since) → CellReal (kept_flow plan block) laws n cell → (since_of plan.blocks cell).touched ≡ true
      → (w : WalkTo plan n) × ((walk_since plan block n w).touched ≡ true)
  cell-touched blank r e = absurd (true≢false (sym e ∙ none-touched plan.blocks))
  cell-touched (holds a) r e = r.1.touched e

  cell-others : (cell : Cell Since) → CellReal (kept_flow plan block) laws n cell
      → (other : ℕ) → other < plan.blocks → is_in (since_of plan.blocks cell).others other ≡ true
      → (w : WalkTo plan n) × (is_in (walk_since plan block n w).others other ≡ true)
  cell-others blank r other h e = absurd (true≢false (sym e ∙ none_in plan.blocks other h))
  cell-others (holds a) r other h e = r.1.others other h e

  cell-less : (a : Since) (cell : Cell Since) → CellBelow (kept_flow plan block) (holds a) cell → SinceLess plan.blocks a (since_of plan.blocks cell)
  cell-less a blank h = absurd h
  cell-less a (holds b) h = h

  pub from-walks : FromWalks plan block n
  from-walks =
      record {
        touched-by = cell-touched (cell_at (kept_table plan block) n) settled-covered;
        others_by = cell-others (cell_at (kept_table plan block) n) settled-covered;
        no_less = λ w. cell-less (walk_since plan block n w) (cell_at (kept_table plan block) n)
            (walk-below plan block (kept_table plan block) (kept-tightest plan sound few block inside).passing n w);
      }
