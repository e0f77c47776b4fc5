-- The plane of one first band, from what the strengths of a leg order are worked from.
use Rattle.std.specs.Prelude.{◌≡◌, ℕ, ◌+◌, ◌*◌}
use Rattle.phonon.specs.Number.{at}
use Rattle.reciprocal_to_normal.specs.declared.operands.Operands.{Operands}
use Rattle.reciprocal_to_normal.specs.declared.plane.Plane.{Plane}

-- p is the plane of band n of leg 0
pub record PlaneOf (o : Operands) (n : ℕ) (p : Plane) : Type 0 where
  pub atoms : p.atoms ≡ o.atoms
  pub matrix : p.matrix ≡ o.scratch
  pub leg1 : p.leg1 ≡ o.legs.leg1
  pub leg2 : p.leg2 ≡ o.legs.leg2
  pub row : p.row ≡ o.scratch + 2 * (3 * o.atoms * (3 * o.atoms))
  pub x : p.x ≡ at o.freqs.leg0.now n
  pub freqs1 : p.freqs1.now ≡ o.freqs.leg1.now
  pub freqs2 : p.freqs2.now ≡ o.freqs.leg2.now
  pub cutoff : p.cutoff ≡ o.cutoff
