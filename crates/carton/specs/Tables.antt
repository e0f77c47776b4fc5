-- Document 01, "Carton file": the set that a carton holds.
use Rattle.std.specs.Prelude.{ℕ, List, ℤ, Float}
use Rattle.phonon.specs.Number.{at, int}
use Rattle.phonon.specs.Sets.{JoinedSet}
use Rattle.carton.specs.declared.heading.Heading.{Heading}
use Rattle.carton.specs.declared.columns.Columns as Lent
use Rattle.carton.specs.Words.{floats_of, ints_of, bytes_of}
use Rattle.carton.specs.Heading.{slice}

-- every word of a file as an f64, as an integer and as a flag byte: each table is a slice of one of the three
pub record Columns : Type 0 where
  pub floats : List Float
  pub ints : List ℤ
  pub bytes : List ℕ

abbrev pub columns_of : List ℕ → Columns
columns_of ws = record { floats = floats_of ws; ints = ints_of ws; bytes = bytes_of ws }

-- as they are lent
abbrev pub lists_of : Lent.Columns → Columns
lists_of c = record { floats = c.floats.now; ints = c.ints.now; bytes = c.bytes.now }

-- the joined door's set, with these strengths, totals and work buffer before the call
unfoldable pub set_in : Columns → Heading → List Float → List Float → List Float → JoinedSet
set_in w h strengths totals work =
    let p = h.places in
    record {
      tables = record {
        measures = h.measures;
        settings = record { anchoring = h.anchoring; cutoff = at w.floats 8 };
        symmetry = h.symmetry;
        crystal = record {
          vectors = slice p.vectors p.multiplicity w.floats;
          multiplicity = slice p.multiplicity p.p2s w.ints;
          masses = slice p.masses p.bands w.floats;
          forces = record {
            form = h.form;
            p2s = slice p.p2s p.s2p w.ints;
            s2p = slice p.s2p p.masses w.ints;
            shortest = slice p.shortest p.nonzero w.bytes;
            nonzero = slice p.nonzero p.flags w.bytes;
            constants = slice p.constants p.first w.floats;
          };
        };
        grid = record {
          mesh = slice 10 13 w.ints;
          matrix = slice 13 22 w.ints;
          addresses = slice 25 p.vectors w.ints;
        };
        bands = slice p.bands p.frequencies w.ints;
        phonons = record {
          frequencies = slice p.frequencies p.eigenvectors w.floats;
          eigenvectors = slice p.eigenvectors p.shortest w.floats;
        };
      };
      triplet = slice 22 25 w.ints;
      flags = slice p.flags p.constants w.bytes;
      bath = record { weight = int w.ints 7; temperature = at w.floats 9 };
      first = slice p.first p.second w.floats;
      second = slice p.second p.end w.floats;
      strengths = strengths;
      totals = totals;
      work = work;
    }
