use Prim.Native.Nat.{ℕ, ◌+◌, ◌*◌}
use mathlib.Core.List.{List, ◌++◌}
use mathlib.Core.Path.{◌≡◌, sym, ap, ◌∙◌}
use native.Mathlib.Omega.{arith}
use native.Mathlib.Nat.{div-one}
use borrow.Rule.Slice.PartMut.{Post-is}
use lib.ListN.{take, drop}
use Rattle.lists.specs.Lists.{list_of}
use Rattle.lists.proofs.Loops.{patch-laid}
use Rattle.chart.specs.Layout.{field}
use Rattle.writer.specs.Packing.{byte_widths}
use Rattle.writer.proofs.packing.put_word.Goals as goal

pub returns : goal.returns
returns c =
    let place : ℕ = 8 * c.args.n in
    let l : List ℕ = c.args.chart.now in
    let bytes : c.to_be_bytes.result ≡ list_of 8 (λ k. field byte_widths k c.args.word) = rw (div-one c.args.word) c.to_be_bytes.ensures in
    (λ i. take place l ++ (c.copy_from_slice.ensures.after i ++ Post-is place (place + 8) l (omega arith) i))
    ∙ ap (λ (part : List ℕ). take place l ++ (part ++ drop (place + 8) l)) bytes
    ∙ sym (patch-laid l place 8 (λ k. field byte_widths k c.args.word) c.requires)
