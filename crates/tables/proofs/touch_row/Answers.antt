use native.Mathlib.Omega.{arith}
use Rattle.tables.proofs.Agreeing.{touched-agrees}
use Rattle.tables.proofs.touch_row.Goals as goal

pub returns : goal.returns
returns c = let a = c.args in
    let touched = c.touch.ensures in
    let wide = c.width_of-width.ensures.0 in
    touched-agrees a.blocks a.base a.must.now a.may.now _ _ a.columns.now a.m c.requires.m_lt_blocks.0 c.requires.m_lt_blocks.1
    (λ j h. touched.must j (omega (arith, h, wide)))
    (λ j h. touched.may j (omega (arith, h, wide)))
