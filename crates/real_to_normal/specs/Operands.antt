-- What the strengths of one triplet are worked from, with its legs in some order.
use Rattle.std.specs.Prelude.{◌≡◌, ℕ, ◌*◌}
use Rattle.phonon.specs.declared.Legs.{Legs}
use Rattle.phonon.specs.Sets.{Tables, part}
use Rattle.phonon.specs.Interaction.{picked}
use Rattle.reciprocal_to_normal.specs.declared.operands.Operands.{Operands}
use Rattle.real_to_normal.specs.Work.{constants_at, scratch_at, places}

-- o has the legs x0, x1, x2, whose grid points are k
pub record OperandsOf (t : Tables) (k : Legs ℕ) (x0 x1 x2 : ℕ) (o : Operands) : Type 0 where
  pub atoms : o.atoms ≡ t.measures.atoms
  pub constants : o.constants ≡ constants_at t.measures.atoms t.measures.supercell
  pub legs : o.legs ≡ picked (places t.measures.atoms (2 * (3 * t.measures.atoms * (3 * t.measures.atoms)))) x0 x1 x2
  pub scratch : o.scratch ≡ scratch_at t.measures.atoms t.measures.supercell
  pub freqs0 : o.freqs.leg0.now ≡ part (3 * t.measures.atoms) k.leg0 t.phonons.frequencies
  pub freqs1 : o.freqs.leg1.now ≡ part (3 * t.measures.atoms) k.leg1 t.phonons.frequencies
  pub freqs2 : o.freqs.leg2.now ≡ part (3 * t.measures.atoms) k.leg2 t.phonons.frequencies
  pub cutoff : o.cutoff ≡ t.settings.cutoff
