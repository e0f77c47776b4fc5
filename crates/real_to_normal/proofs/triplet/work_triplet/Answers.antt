-- An accepted set gives each stage what it needs; the slots are then the definition's, and the work buffer is cleared.
use Prim.Native.Nat.{ℕ, ◌≤◌}
use mathlib.Core.Path.{◌≡◌, sym, ap, ◌∙◌}
use mathlib.Core.List.{◌++◌}
use native.Mathlib.Omega.{arith}
use borrow.Author.Rules.{rules}
use lib.IntN.{ℤ}
use lib.ListN.{length, drop, replicate}
use lib.Seq.{length-take-le}
use mir.ValLaws.{to_z-of_z}
use mir.Val.{SFits, of_z, to_z}
use mir.Syntax.{w64}
use Rattle.phonon.specs.Number.{f0, index, int}
use Rattle.real_to_normal.proofs.AcceptedLaws.{facts, ranged, shapes, slots, masses_fit, room, address_fits, frequencies_fit, eigenvectors_fit}
use Rattle.real_to_normal.proofs.TripletLaws.{strengths_from, cleared_is}
use Rattle.real_to_normal.proofs.triplet.work_triplet.Goals as goal
use Rattle.real_to_normal.proofs.triplet.work_triplet.Goals.{After-slots_of}

-- a grid point as a number
point_is : {r : ℕ} {z : ℤ} → SFits w64 z → r ≡ index (to_z w64 (of_z w64 z)) → r ≡ index z
point_is {z = z} f e = rw (to_z-of_z w64 z f) at e

pub work_length-n-requires : goal.work_length-n-requires
work_length-n-requires c =
    let h = (facts _ c.requires).measured in
    (omega (arith, h.atoms_most), omega (arith, h.supercell_most))

pub compute_q_vec-requires : goal.compute_q_vec-requires
compute_q_vec-requires c =
    rw (point_is {z = int c.args.triplet 0} (search rules) c.index_of.ensures) (address_fits _ c.requires 0)

pub compute_q_vec-requires-2 : goal.compute_q_vec-requires-2
compute_q_vec-requires-2 c =
    rw (point_is {z = int c.args.triplet 1} (search rules) c.index_of-2.ensures) (address_fits _ c.requires 1)

pub compute_q_vec-requires-3 : goal.compute_q_vec-requires-3
compute_q_vec-requires-3 c =
    rw (point_is {z = int c.args.triplet 2} (search rules) c.index_of-3.ensures) (address_fits _ c.requires 2)

pub slots_of-requires-clause-sizes : goal.slots_of-requires-clause-sizes
slots_of-requires-clause-sizes c =
    let e = c.requires in
    ((facts _ e).measured.atoms, shapes _ e, room _ e, masses_fit _ e, ranged _ e)

pub slots_of-requires-clause-points : goal.slots_of-requires-clause-points
slots_of-requires-clause-points c =
    let e = c.requires in
    let p0 = point_is {z = int c.args.triplet 0} (search rules) c.index_of.ensures in
    let p1 = point_is {z = int c.args.triplet 1} (search rules) c.index_of-2.ensures in
    let p2 = point_is {z = int c.args.triplet 2} (search rules) c.index_of-3.ensures in
    (frequencies_fit _ e p0 p1 p2, eigenvectors_fit _ e p0 p1 p2)

pub slots_of-requires-clause-slots : goal.slots_of-requires-clause-slots
slots_of-requires-clause-slots c = slots _ c.requires

fits : (c : After-slots_of) → c.work_length-n.result ≤ length c.slots_of.new.work
fits c = omega (arith, (facts _ c.requires).work, c.slots_of.ensures.1.size, c.work_length-n.ensures)

pub slice_bounds-fill-end : goal.slice_bounds-fill-end
slice_bounds-fill-end c = fits (goal.at.slice_bounds-fill-end c).After-slots_of

pub slice_bounds-fill-end-2 : goal.slice_bounds-fill-end-2
slice_bounds-fill-end-2 c = sym (length-take-le _ _ (fits (goal.at.slice_bounds-fill-end-2 c).After-slots_of))

pub returns : goal.returns
returns c =
    let e = c.requires in
    let f = facts _ e in
    let r = c.slots_of.ensures in
    let n = length-take-le _ _ (fits (goal.at.returns c).After-slots_of) in (
      strengths_from _ c.args.strengths.now (point_is {z = int c.args.triplet 0} (search rules) c.index_of.ensures) (point_is {z = int c.args.triplet 1} (search rules) c.index_of-2.ensures)
          (point_is {z = int c.args.triplet 2} (search rules) c.index_of-3.ensures) c.compute_q_vec.ensures c.compute_q_vec-2.ensures c.compute_q_vec-3.ensures f.sized.bands r.0,
      cleared_is c.args.tables.now.measures f.measured.atoms r.1 c.work_length-n.ensures (ap (λ l. l ++ drop c.work_length-n.result c.slots_of.new.work) (c.fill.ensures.after (λ y h. h) ∙ ap (λ k. replicate k f0) n)),
    )
