-- Document 01, "Carton file": what the heading says, where each table starts, and refusal 12. The words are true integers: no sum comes round.
use Rattle.std.specs.Prelude.{ℕ, ◌+◌, ◌-◌, ◌*◌, ◌/◌, ◌%◌, Bool, true, false, cond, ◌&&◌, List, length, get_or, take, drop, leb, ltb, eqb, Result, Ok, Err}
use Rattle.phonon.specs.declared.Refusal.{Refusal}
use Rattle.phonon.specs.declared.Refusal.TheVariants as Cause
use Rattle.phonon.specs.declared.Measures.{Measures}
use Rattle.phonon.specs.declared.Sizes.{Sizes}
use Rattle.phonon.specs.declared.Form.{Form}
use Rattle.phonon.specs.declared.Form.TheVariants.{Compact, Full}
use Rattle.phonon.specs.declared.Anchoring.{Anchoring}
use Rattle.phonon.specs.declared.Anchoring.TheVariants.{Plain, Averaged}
use Rattle.phonon.specs.declared.Symmetry.{Symmetry}
use Rattle.phonon.specs.declared.Symmetry.TheVariants.{Off, Symmetrized}
use Rattle.phonon.specs.Limits.{sizes_of, work_length}
use Rattle.carton.specs.Most.{most_work}
use Rattle.carton.specs.Words.{all_below}
use Rattle.carton.specs.declared.heading.Places.{Places}
use Rattle.carton.specs.declared.heading.Heading.{Heading}

-- entries a to e - 1 of a list
abbrev pub slice : {A : Type 0} → ℕ → ℕ → List A → List A
slice a e l = take (e - a) (drop a l)

-- ---- words 0 to 6: edition, P, S, F, G, vectors, flag bits

abbrev pub edition : List ℕ → ℕ
edition ws = get_or ws 0 0

abbrev pub measures_in : List ℕ → Measures
measures_in ws = record { atoms = get_or ws 1 0; supercell = get_or ws 2 0; first = get_or ws 3 0; grid = get_or ws 4 0; vectors = get_or ws 5 0 }

abbrev pub flag_bits : List ℕ → ℕ
flag_bits ws = get_or ws 6 0

-- bit 0, compact
unfoldable pub form_of : ℕ → Form
form_of b = cond (eqb (b % 2) 1) Compact Full

-- bit 1, averaged
unfoldable pub anchoring_of : ℕ → Anchoring
anchoring_of b = cond (eqb (b / 2 % 2) 1) Averaged Plain

-- bit 2, symmetrized
unfoldable pub symmetry_of : ℕ → Symmetry
symmetry_of b = cond (eqb (b / 4 % 2) 1) Symmetrized Off

-- ---- weight, cutoff and temperature are words 7, 8 and 9; the mesh is at 10, the q matrix at 13, the triplet at 22, and from 25 on the
-- tables stand one behind the other: where each starts, and where the last ends

unfoldable pub places_with : Measures → Sizes → Places
places_with m z =
    let vectors = 25 + z.addresses in
    let multiplicity = vectors + z.vectors in
    let p2s = multiplicity + z.multiplicity in
    let s2p = p2s + m.atoms in
    let masses = s2p + m.supercell in
    let bands = masses + m.atoms in
    let frequencies = bands + m.first in
    let eigenvectors = frequencies + z.frequencies in
    let shortest = eigenvectors + z.eigenvectors in
    let nonzero = shortest + z.shortest in
    let flags = nonzero + z.nonzero in
    let constants = flags + z.slots in
    let first = constants + z.constants in
    let second = first + z.slots in
    record {
      vectors = vectors;
      multiplicity = multiplicity;
      p2s = p2s;
      s2p = s2p;
      masses = masses;
      bands = bands;
      frequencies = frequencies;
      eigenvectors = eigenvectors;
      shortest = shortest;
      nonzero = nonzero;
      flags = flags;
      constants = constants;
      first = first;
      second = second;
      end = second + z.slots;
    }

abbrev pub places_of : Measures → Form → Places
places_of m form = places_with m (sizes_of m form)

unfoldable pub heading_in : List ℕ → Heading
heading_in ws =
    let form = form_of (flag_bits ws) in
    record {
      measures = measures_in ws;
      form = form;
      anchoring = anchoring_of (flag_bits ws);
      symmetry = symmetry_of (flag_bits ws);
      places = places_of (measures_in ws) form;
    }

-- ---- 12, heading: edition not 1, other flag bits set, a measure below 0, words not matching the measures, or W over 6,144

-- not below 0, as an integer in two's complement
abbrev pub natural : ℕ → Bool
natural w = ltb w 9223372036854775808

unfoldable pub measures_natural : Measures → Bool
measures_natural m = natural m.atoms && (natural m.supercell && (natural m.first && (natural m.grid && natural m.vectors)))

-- the words of so many blocks as n words need
abbrev pub filled : ℕ → ℕ
filled n = 63 * ((n + 62) / 63)

-- the blocks are just those needed, W is small enough, each word of the flag tables is a byte, and zeros follow the last table
unfoldable pub words_match : List ℕ → Measures → Places → Bool
words_match ws m p =
    eqb (length ws) (filled p.end)
    && (leb (work_length m.atoms m.supercell) most_work
    && (all_below 256 (slice p.shortest p.constants ws) && all_below 1 (drop p.end ws)))

unfoldable pub heading_ok : List ℕ → Bool
heading_ok ws =
    eqb (edition ws) 1
    && (ltb (flag_bits ws) 8
    && (measures_natural (measures_in ws) && words_match ws (measures_in ws) (places_of (measures_in ws) (form_of (flag_bits ws)))))

abbrev pub read_as : Bool → Heading → Result Heading Refusal
read_as true h = Ok h
read_as false h = Err Cause.Heading

-- the heading of a file of these words, unless it is 12
unfoldable pub read_of : List ℕ → Result Heading Refusal
read_of ws = read_as (heading_ok ws) (heading_in ws)
