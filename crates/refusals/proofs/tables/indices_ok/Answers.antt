-- The last atom and the last band, as signed numbers, are those of the definition, and each call told one of the tests.
use Rattle.std.specs.Prelude.{◌-◌, ◌*◌, ◌/◌, length}
use native.Mathlib.Omega.{arith}
use mathlib.Core.Path.{◌≡◌, refl}
use mir.ValLaws.{to_z_pos}
use mir.Syntax.{w64}
use Rattle.phonon.specs.Tests.{all_true, all_true_after}
use Rattle.phonon.proofs.Accepted.{measured_facts}
use Rattle.phonon.specs.Refusal.{indices_ok, ranges_ok}
use Rattle.checks.proofs.Laws.{none_failing}
use Rattle.refusals.proofs.tables.indices_ok.Goals as goal

pub returns : goal.returns
unfolding indices_ok ranges_ok all_true all_true_after
returns c =
    let h = measured_facts _ c.requires.0 in
    let atom = to_z_pos w64 (c.args.m.supercell - 1) (omega arith) in
    let band = to_z_pos w64 (3 * c.args.m.atoms - 1) (omega arith) in
    let entries : length c.args.crystal.now.multiplicity.now / 2 ≡ c.args.m.supercell * c.args.m.atoms = omega (arith, c.requires.1) in
    rw (
      rw atom at c.all_within.ensures,
      rw atom at c.all_within-2.ensures,
      rw band at c.all_within-3.ensures,
      none_failing _ _ (rw entries at c.first_bad_entry.ensures) c.is_none.ensures,
    )
    refl
