-- What a door is handed, as the records of Sets.antt: what stands behind each reference.
use Rattle.phonon.specs.declared.Forces.{Forces}
use Rattle.phonon.specs.declared.Crystal.{Crystal}
use Rattle.phonon.specs.declared.Grid.{Grid}
use Rattle.phonon.specs.declared.Phonons.{Phonons}
use Rattle.phonon.specs.declared.Tables.{Tables}
use Rattle.phonon.specs.Sets as Sets

abbrev pub forces_of : Forces → Sets.Forces
forces_of f = record { form = f.form; p2s = f.p2s.now; s2p = f.s2p.now; shortest = f.shortest.now; nonzero = f.nonzero.now; constants = f.constants.now }

abbrev pub crystal_of : Crystal → Sets.Crystal
crystal_of c = record { vectors = c.vectors.now; multiplicity = c.multiplicity.now; masses = c.masses.now; forces = forces_of c.forces }

abbrev pub grid_of : Grid → Sets.Grid
grid_of g = record { mesh = g.mesh; matrix = g.matrix; addresses = g.addresses.now }

abbrev pub phonons_of : Phonons → Sets.Phonons
phonons_of p = record { frequencies = p.frequencies.now; eigenvectors = p.eigenvectors.now }

abbrev pub tables_of : Tables → Sets.Tables
tables_of t = record {
  measures = t.measures;
  settings = t.settings;
  symmetry = t.symmetry;
  crystal = crystal_of t.crystal;
  grid = grid_of t.grid;
  bands = t.bands.now;
  phonons = phonons_of t.phonons;
}
