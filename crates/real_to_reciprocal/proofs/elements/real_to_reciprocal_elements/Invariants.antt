-- The sums over pairs: the outer loop has the turns of all j that it came past, the inner one also those of k, from copy to copy.
use Prim.Native.Nat.{◌-◌}
use Rattle.phonon.specs.Number.{index, int}
use Rattle.planes.specs.Split.{split}
use Rattle.real_to_reciprocal.specs.Copies.{place}
use Rattle.real_to_reciprocal.specs.Pair.{Settled}
use Rattle.real_to_reciprocal.proofs.CopyLaws.{At}
use Rattle.real_to_reciprocal.proofs.ElementLaws.{j_turns, turns}
use Rattle.real_to_reciprocal.proofs.elements.real_to_reciprocal_elements.Given as goal

abbrev pub invariant-loop-third : goal.invariant-loop-third
invariant-loop-third g l =
    let f = l.pairs.forces in
    At f.s2p.now l.cell.ns (index (int f.p2s.now l.atoms.leg2)) l.third
    × Settled f.constants.now l.s l.held (turns f.shortest.now f.nonzero.now f.constants.now l.pairs.leg (split l.pairs.w.now l.pairs.f1 l.pairs.d) (split l.pairs.w.now l.pairs.f2 l.pairs.d) l.pairs.ns l.pairs.i l.pairs.row f.s2p.now (index (int f.p2s.now l.atoms.leg1)) (index (int f.p2s.now l.atoms.leg2)) l.j (place l.cell.ns l.third))

abbrev pub decreases-loop-third : goal.decreases-loop-third
decreases-loop-third g l = l.cell.ns - place l.cell.ns l.third

abbrev pub invariant-loop-second : goal.invariant-loop-second
invariant-loop-second g l =
    let f = l.pairs.forces in
    At f.s2p.now l.cell.ns (index (int f.p2s.now l.atoms.leg1)) l.second
    × Settled f.constants.now l.s l.held (j_turns f.shortest.now f.nonzero.now f.constants.now l.pairs.leg (split l.pairs.w.now l.pairs.f1 l.pairs.d) (split l.pairs.w.now l.pairs.f2 l.pairs.d) l.pairs.ns l.pairs.i l.pairs.row f.s2p.now (index (int f.p2s.now l.atoms.leg1)) (index (int f.p2s.now l.atoms.leg2)) (place l.cell.ns l.second))

abbrev pub decreases-loop-second : goal.decreases-loop-second
decreases-loop-second g l = l.cell.ns - place l.cell.ns l.second
