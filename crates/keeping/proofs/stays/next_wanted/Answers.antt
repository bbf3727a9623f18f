use Prim.Native.Nat.{◌≤◌, ◌<◌}
use mathlib.Core.Logic.{⊎_elim}
use mathlib.Core.Path.{sym, ◌∙◌}
use native.Mathlib.Omega.{arith}
use Rattle.lists.proofs.Orders.{below_or}
use Rattle.bits.proofs.Members.{one_word}
use Rattle.keeping.proofs.stays.next_wanted.Goals as goal

pub returns : goal.returns
returns c = let w = c.args.wanted in
    let f = c.first_from.ensures in
    record {
      within = f.within;
      none_before = λ block l h. sym (one_word w block (omega (arith, f.within, c.requires))) ∙ f.none_before block l h;
      ahead = λ l. ⊎_elim (λ (h : c.first_from.result < c.args.blocks). (f.is_in_set h).0) (λ (h : c.args.blocks ≤ c.first_from.result). omega arith) (below_or c.first_from.result c.args.blocks);
      is_wanted = λ h. sym (one_word w c.first_from.result (omega (arith, c.requires))) ∙ (f.is_in_set h).1;
    }
