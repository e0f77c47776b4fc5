-- The last grid point, as a signed number, is the one of the definition.
use Prim.Native.Nat.{◌-◌}
use native.Mathlib.Omega.{arith}
use mir.ValLaws.{to_z_pos}
use mir.Syntax.{w64}
use Rattle.phonon.specs.Refusal.{points_ok}
use Rattle.checks.proofs.values.points_ok.Goals as goal

pub returns : goal.returns
unfolding points_ok
returns c = rw (to_z_pos w64 (c.args.grid - 1) (omega arith)) at c.all_within.ensures
