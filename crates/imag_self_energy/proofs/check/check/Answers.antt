-- The groups of tests each gave an answer; that of the lowest number is the refusal.
use native.Mathlib.Omega.{arith}
use mathlib.Core.Path.{◌≡◌, refl}
use mathlib.Core.Bool.{Bool}
use Rattle.std.specs.Prelude.{Result, Ok}
use Rattle.phonon.specs.declared.Measures.{Measures}
use Rattle.phonon.specs.declared.Refusal.{Refusal}
use Rattle.phonon.specs.declared.Refusal.TheVariants.{Measure}
use Rattle.phonon.specs.declared.TotalsMeasures.{TotalsMeasures}
use Rattle.phonon.specs.Sets.{measures_of}
use Rattle.phonon.specs.Refusal.{measures_ok, totals_refusal}
use Rattle.phonon.proofs.Lowest.{join3}
use Rattle.phonon.proofs.Accepted.{Measured, measured_facts}
use Rattle.checks.proofs.AnswerLaws.{required, passed, turned}
use Rattle.imag_self_energy.proofs.check.check.Goals as goal

-- the measures that passed
facts : (m : TotalsMeasures) {all : Measures} {ok : Bool} {a : Result Unit Refusal} {x : Unit} → all ≡ measures_of m → ok ≡ measures_ok all → a ≡ required ok Measure → a ≡ Ok x → Measured (measures_of m)
facts m e f p q = measured_facts _ (rw (f, e) at (passed _ _ p q))

pub returns-in_err-require : goal.returns-in_err-require
unfolding totals_refusal
returns-in_err-require c =
    let e = rw c.from-all.ensures at c.measures_ok.ensures in turned _ _ _ refl e c.require.ensures c.in_err-require.was c.from_residual.ensures.1

pub overflow_mul-m : goal.overflow_mul-m
overflow_mul-m c = let m = facts c.args.m c.from-all.ensures c.measures_ok.ensures c.require.ensures c.in_ok-require.was in omega (arith, m.atoms_most)

pub entries_of-entries-requires : goal.entries_of-entries-requires
entries_of-entries-requires c =
    let m = facts c.args.m c.from-all.ensures c.measures_ok.ensures c.require.ensures c.in_ok-require.was in
    (omega (arith, m.atoms_most, m.first_most), omega (arith, m.atoms_most))

pub check_points-points-requires : goal.check_points-points-requires
check_points-points-requires c =
    let m = facts c.args.m c.from-all.ensures c.measures_ok.ensures c.require.ensures c.in_ok-require.was in
    (m.grid, omega (arith, m.grid_most))

pub returns : goal.returns
unfolding totals_refusal
returns c =
    let n = c.entries_of-entries.ensures in
    join3 _ _ _ (rw (n, c.from-all.ensures) at c.check_alone-alone.ensures) c.check_points-points.ensures (rw n at c.check_bath-rest.ensures) c.lower_of.ensures c.lower_of-2.ensures
