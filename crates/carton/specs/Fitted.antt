-- What holds of every heading that is read.
use Rattle.std.specs.Prelude.{ℕ, ◌+◌, ◌≤◌, ◌≡◌}
use Rattle.phonon.specs.Sets.{slots}
use Rattle.phonon.specs.Limits.{work_length}
use Rattle.carton.specs.Most.{most_words, most_work}
use Rattle.carton.specs.declared.heading.Places.{Places}
use Rattle.carton.specs.declared.heading.Heading.{Heading}

-- a table of entries a to e - 1 among n words
pub record Table (a e n : ℕ) : Type 0 where
  pub order : a ≤ e
  pub inside : e ≤ n

-- the tables of a file of n words
pub record Placed (p : Places) (n : ℕ) : Type 0 where
  pub addresses : Table 25 p.vectors n
  pub vectors : Table p.vectors p.multiplicity n
  pub multiplicity : Table p.multiplicity p.p2s n
  pub p2s : Table p.p2s p.s2p n
  pub s2p : Table p.s2p p.masses n
  pub masses : Table p.masses p.bands n
  pub bands : Table p.bands p.frequencies n
  pub frequencies : Table p.frequencies p.eigenvectors n
  pub eigenvectors : Table p.eigenvectors p.shortest n
  pub shortest : Table p.shortest p.nonzero n
  pub nonzero : Table p.nonzero p.flags n
  pub flags : Table p.flags p.constants n
  pub constants : Table p.constants p.first n
  pub first : Table p.first p.second n
  pub second : Table p.second p.end n

-- the heading of a file of n words
pub record Fitted (h : Heading) (n : ℕ) : Type 0 where
  pub tables : Placed h.places n
  pub few : n ≤ most_words
  pub first : h.measures.first ≤ most_words
  pub flags : h.places.constants ≡ h.places.flags + slots h.measures
  pub second : h.places.end ≡ h.places.second + slots h.measures
  pub work : work_length h.measures.atoms h.measures.supercell ≤ most_work
