-- After i blocks each partial sum has i terms; after the join, r terms of the remainder are added.
use mathlib.Core.Path.{◌≡◌}
use Prim.Native.Nat.{◌*◌, ◌≤◌}
use Rattle.phonon.specs.Number.{fold}
use Rattle.phonon.specs.Common.{czero}
use Rattle.planes.specs.Split.{split}
use Rattle.reciprocal_to_normal.specs.Places.{number_in}
use Rattle.reciprocal_to_normal.proofs.DotLaws.{term, lane_to, rest_to}
use Rattle.reciprocal_to_normal.proofs.dot.cmplx_dot_partial4.Given as goal

abbrev pub invariant-loop-i : goal.invariant-loop-i
invariant-loop-i l = (l.i ≤ l.q) × (l.s0 ≡ fold l.i czero (λ c. term (split l.w l.x.at l.x.apart) (number_in l.w l.y) (4 * c))) × (l.s1 ≡ lane_to l.i (split l.w l.x.at l.x.apart) (number_in l.w l.y) 1) × (l.s2 ≡ lane_to l.i (split l.w l.x.at l.x.apart) (number_in l.w l.y) 2) × (l.s3 ≡ lane_to l.i (split l.w l.x.at l.x.apart) (number_in l.w l.y) 3)

abbrev pub invariant-loop-r : goal.invariant-loop-r
invariant-loop-r l = (l.r ≤ l.rest) × (l.s ≡ rest_to l.r l.n (split l.w l.x.at l.x.apart) (number_in l.w l.y))
