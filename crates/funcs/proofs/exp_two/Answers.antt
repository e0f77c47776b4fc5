-- Where both numbers are in the range, each exponential comes from its parts; elsewhere each is worked alone.
use mathlib.Core.Path.{refl, ◌∙◌}
use lib.Ieee.{of_bits, of_int}
use Rattle.funcs.proofs.Reducible.{both, exp_parts}
use Rattle.funcs.proofs.exp_two.Goals as goal

pub returns-then-is_reducible : goal.returns-then-is_reducible
unfolding of_bits of_int
returns-then-is_reducible c =
    let h = both _ _ c.is_reducible.ensures c.is_reducible-2.ensures c.if-is_reducible.true in
    let a = c.reduce-a.ensures in
    let b = c.reduce-b.ensures in
    let p = c.exp_series_two-p.ensures in (
      exp_parts _ _ _ h.0 (p.0 ∙ rw a.0 refl) a.1,
      exp_parts _ _ _ h.1 (p.1 ∙ rw b.0 refl) b.1,
    )
