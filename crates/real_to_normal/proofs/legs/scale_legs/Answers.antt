-- One leg behind another, at the places that the layout has.
use Prim.Native.Nat.{◌≤◌}
use lib.ListN.{length}
use native.Mathlib.Omega.{arith}
use Rattle.real_to_normal.proofs.LegLaws.{legs_scaled, legs_outside}
use Rattle.real_to_normal.proofs.legs.scale_legs.Goals as goal

pub returns : goal.returns
returns c =
    let a = c.args in
    let room : a.np ≤ length a.w.now = omega arith in
    let e = c.requires.1 in
    let s = rw e at c.scale_eigenvectors.ensures in
    let t = rw e at c.scale_eigenvectors-2.ensures in
    let u = rw e at c.scale_eigenvectors-3.ensures in
    (legs_scaled a.np a.eigenvectors.now a.g room s.0 s.1 t.0 t.1 u.0 u.1, legs_outside a.np a.eigenvectors.now a.g room s.0 s.1 t.0 t.1 u.0 u.1)
