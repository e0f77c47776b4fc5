-- After i blocks each partial sum has i terms; after the join, r terms of the remainder are added.
use mathlib.Core.Path.{◌≡◌, refl, ap₂, ◌∙◌}
use Prim.Native.Nat.{◌+◌, ◌*◌, ◌/◌, ◌%◌}
use Rattle.phonon.specs.Number.{fold}
use Rattle.phonon.specs.Common.{czero, cadd}
use Rattle.planes.specs.Split.{split}
use Rattle.reciprocal_to_normal.specs.Places.{number_in}
use Rattle.reciprocal_to_normal.proofs.DotLaws.{turn, lane_done, first_lane_done, dot_done}
use native.Mathlib.Omega.{arith}
use Rattle.reciprocal_to_normal.proofs.dot.cmplx_dot_partial4.Goals as goal

pub loop-i-init : goal.loop-i-init
unfolding fold
loop-i-init c = (omega arith, refl, refl, refl, refl)

pub loop-i-preserved : goal.loop-i-preserved
loop-i-preserved c =
    let a = c.args in
    let i = c.loop-i.i in
    let inv = c.loop-i.invariant in (
      omega arith,
      c.add_term-s0.ensures ∙ turn (split a.w.now a.x.at a.x.apart) (number_in a.w.now a.y) czero (λ k. 4 * k) i inv.1 refl refl,
      c.add_term-s1.ensures ∙ turn (split a.w.now a.x.at a.x.apart) (number_in a.w.now a.y) czero (λ k. 4 * k + 1) i inv.2 refl refl,
      c.add_term-s2.ensures ∙ turn (split a.w.now a.x.at a.x.apart) (number_in a.w.now a.y) czero (λ k. 4 * k + 2) i inv.3 refl refl,
      c.add_term-s3.ensures ∙ turn (split a.w.now a.x.at a.x.apart) (number_in a.w.now a.y) czero (λ k. 4 * k + 3) i inv.4 refl refl,
    )

pub loop-r-init : goal.loop-r-init
unfolding fold
loop-r-init c =
    let a = c.args in
    let e : c.loop-i.i ≡ a.n / 4 = omega arith in
    let inv = rw e at c.loop-i.invariant in (
      omega arith,
      c.cmplx_add-s.ensures ∙ ap₂ cadd
          (c.cmplx_add.ensures ∙ ap₂ cadd (inv.1 ∙ first_lane_done (split a.w.now a.x.at a.x.apart) (number_in a.w.now a.y) a.n) (inv.2 ∙ lane_done (split a.w.now a.x.at a.x.apart) (number_in a.w.now a.y) a.n 1))
          (c.cmplx_add-2.ensures ∙ ap₂ cadd (inv.3 ∙ lane_done (split a.w.now a.x.at a.x.apart) (number_in a.w.now a.y) a.n 2) (inv.4 ∙ lane_done (split a.w.now a.x.at a.x.apart) (number_in a.w.now a.y) a.n 3)),
    )

pub loop-r-preserved : goal.loop-r-preserved
loop-r-preserved c =
    let a = c.args in
    (omega arith, c.add_term-s.ensures ∙ turn (split a.w.now a.x.at a.x.apart) (number_in a.w.now a.y) _ (λ k. 4 * (a.n / 4) + k) c.loop-r.r c.loop-r.invariant.1 refl refl)

pub returns : goal.returns
returns c =
    let a = c.args in
    let e : c.loop-r.r ≡ a.n % 4 = omega arith in
    (rw e at c.loop-r.invariant.1) ∙ dot_done (split a.w.now a.x.at a.x.apart) (number_in a.w.now a.y) a.n
