-- The sums below c have one term more.
use mathlib.Core.Path.{ap, ap₂, ◌∙◌}
use Rattle.phonon.specs.declared.Complex.{Complex}
use Rattle.phonon.specs.Number.{◌⊕◌}
use Rattle.phonon.specs.Common.{cadd, cmul}
use Rattle.reciprocal_to_normal.proofs.ColumnLaws.{begun_step}
use native.Mathlib.Omega.{arith}
use Rattle.reciprocal_to_normal.proofs.columns.Sums.add_row.Goals as goal

pub loop-c-preserved : goal.loop-c-preserved
unfolding cadd
loop-c-preserved g c =
    let inv = c.loop-c.invariant.1 in
    let s = inv.rest c.loop-c.c (omega arith) in
    let p = c.cmplx_mul-p.ensures ∙ ap (λ z. cmul z c.args.v) c.get_split.ensures in (
      omega arith,
      begun_step inv c.loop-c-test.true (ap₂ (λ (x y : Complex). x.re ⊕ y.re) s p) (ap₂ (λ (x y : Complex). x.im ⊕ y.im) s p),
    )
