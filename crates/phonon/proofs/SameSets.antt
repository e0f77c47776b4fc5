-- A set whose choices, arrays and weight were read one by one is the set that they were read of.
use mathlib.Core.Path.{◌≡◌, refl}
use mathlib.Core.List.{List}
use lib.IntN.{ℤ}
use Rattle.phonon.specs.declared.Anchoring.{Anchoring}
use Rattle.phonon.specs.declared.Form.{Form}
use Rattle.phonon.specs.declared.Symmetry.{Symmetry}
use Rattle.phonon.specs.Sets.{Tables, JoinedSet}

pub tables_same : (t : Tables) (a : Anchoring) (f : Form) (y : Symmetry) (mesh matrix : List ℤ)
    → a ≡ t.settings.anchoring → f ≡ t.crystal.forces.form → y ≡ t.symmetry → mesh ≡ t.grid.mesh → matrix ≡ t.grid.matrix
    → ◌≡◌ {A = Tables}
    (record {
      measures = t.measures;
      settings = record { anchoring = a; cutoff = t.settings.cutoff };
      symmetry = y;
      crystal = record {
        vectors = t.crystal.vectors;
        multiplicity = t.crystal.multiplicity;
        masses = t.crystal.masses;
        forces = record { form = f; p2s = t.crystal.forces.p2s; s2p = t.crystal.forces.s2p; shortest = t.crystal.forces.shortest; nonzero = t.crystal.forces.nonzero; constants = t.crystal.forces.constants };
      };
      grid = record { mesh = mesh; matrix = matrix; addresses = t.grid.addresses };
      bands = t.bands;
      phonons = t.phonons;
    })
    t
tables_same t a f y mesh matrix p q r u v = rw (p, q, r, u, v) refl

pub joined_same : (s : JoinedSet) (t : Tables) (triplet : List ℤ) (weight : ℤ) → t ≡ s.tables → triplet ≡ s.triplet → weight ≡ s.bath.weight
    → ◌≡◌ {A = JoinedSet}
    (record { tables = t; triplet = triplet; flags = s.flags; bath = record { weight = weight; temperature = s.bath.temperature }; first = s.first; second = s.second; strengths = s.strengths; totals = s.totals; work = s.work })
    s
joined_same s t triplet weight p q r = rw (p, q, r) refl
