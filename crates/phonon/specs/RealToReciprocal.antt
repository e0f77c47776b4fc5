-- real_to_reciprocal.rs: the force constants in reciprocal space. Nothing here reads a frequency, an eigenvector, a slot flag or the cutoff.
use Rattle.std.specs.Prelude.{ℕ, ◌+◌, ◌*◌, ◌/◌, ◌%◌, Bool, true, false, not, ◌&&◌, cond, List, ℤ, eqb, Float}
use Rattle.phonon.specs.declared.Complex.{Complex}
use Rattle.phonon.specs.declared.SinCos.{SinCos}
use Rattle.phonon.specs.declared.Anchoring.{Anchoring}
use Rattle.phonon.specs.declared.Anchoring.TheVariants.{Plain, Averaged}
use Rattle.phonon.specs.declared.Form.{Form}
use Rattle.phonon.specs.declared.Form.TheVariants.{Compact, Full}
use Rattle.phonon.specs.declared.Leg.{Leg}
use Rattle.phonon.specs.declared.Leg.TheVariants.{Alone, First, Second, Third}
use Rattle.phonon.specs.Number.{◌⊕◌, ◌⊗◌, ◌⊘◌, bits, f0, f1, f2, f3, float, index, at, int, flagged, fold, table}
use Rattle.phonon.specs.Common.{czero, cadd, cmul, scale, cat, ctable}
use Rattle.phonon.specs.Trig.{sin_cos}
use Rattle.phonon.specs.declared.Legs.{Legs}
use Rattle.phonon.specs.Sets.{Forces, Crystal, Grid}

abbrev pub pi : Float
pi = bits 0x400921FB54442D18

-- ---- compute_q_vecs of interaction.rs: the q matrix times address over mesh, at grid point g

unfoldable pub address_over : Grid → ℕ → ℕ → Float
address_over w g c = float (int w.addresses (3 * g + c)) ⊘ float (int w.mesh c)

unfoldable pub q_entry : Grid → ℕ → ℕ → Float
q_entry w g k =
    float (int w.matrix (3 * k)) ⊗ address_over w g 0
    ⊕ float (int w.matrix (3 * k + 1)) ⊗ address_over w g 1
    ⊕ float (int w.matrix (3 * k + 2)) ⊗ address_over w g 2

unfoldable pub q_at : Grid → ℕ → List Float
q_at w g = table 3 (q_entry w g)

-- ---- get_phase_factor

-- the phase of vector v
unfoldable pub phase : List Float → List Float → ℕ → Float
phase q vectors v =
    (at q 0 ⊗ at vectors (3 * v) ⊕ at q 1 ⊗ at vectors (3 * v + 1) ⊕ at q 2 ⊗ at vectors (3 * v + 2)) ⊗ f2 ⊗ pi

abbrev pub as_complex : SinCos → Complex
as_complex p = record { re = p.cos; im = p.sin }

-- the cosine and the sine, as a complex number
unfoldable pub cis : Float → Complex
cis x = as_complex (sin_cos x)

-- the paper's exp(i q · [r(lκ) - r(0κ)]): the mean over the shortest vectors of one entry of the multiplicities, which is their sum times the rounded 1.0 / count
unfoldable pub phase_factor : List Float → List Float → ℤ → ℤ → Complex
phase_factor q vectors count start =
    scale (fold (index count) czero (λ i s. cadd s (cis (phase q vectors (index start + i))))) (f1 ⊘ float count)

-- entry i * S + j, for atom i and supercell atom j, which reads entry j * P + i of the multiplicities
unfoldable pub phase_factor_entry : ℕ → ℕ → List Float → List ℤ → List Float → ℕ → Complex
phase_factor_entry P S vectors multiplicity q n =
    phase_factor q vectors (int multiplicity (2 * (n % S * P + n / S))) (int multiplicity (2 * (n % S * P + n / S) + 1))

unfoldable pub phase_factors : ℕ → ℕ → List Float → List ℤ → List Float → List Float
phase_factors P S vectors multiplicity q = ctable (P * S) (phase_factor_entry P S vectors multiplicity q)

-- ---- get_pre_phase_factor

-- vector v, dotted with the sum of the three q
unfoldable pub pre_phase : List Float → Legs (List Float) → ℕ → Float
pre_phase vectors q v =
    fold 3 f0 (λ j s. s ⊕ at vectors (3 * v + j) ⊗ (at q.leg0 j ⊕ at q.leg1 j ⊕ at q.leg2 j)) ⊗ (f2 ⊗ pi)

-- the first vector of entry p2s[i] * P of the multiplicities
unfoldable pub anchor_vector : ℕ → List ℤ → List ℤ → ℕ → ℕ
anchor_vector P multiplicity p2s i = index (int multiplicity (2 * (index (int p2s i) * P) + 1))

-- the paper's exp(i (q + q' + q'') · r(0κ)), with r(0κ) counted from atom 0
unfoldable pub pre_factor_entry : ℕ → List Float → List ℤ → List ℤ → Legs (List Float) → ℕ → Complex
pre_factor_entry P vectors multiplicity p2s q i = cis (pre_phase vectors q (anchor_vector P multiplicity p2s i))

unfoldable pub pre_factors : ℕ → List Float → List ℤ → List ℤ → Legs (List Float) → List Float
pre_factors P vectors multiplicity p2s q = ctable P (pre_factor_entry P vectors multiplicity p2s q)

-- ---- real_to_reciprocal_elements

-- legs 2 and 3 pass all-shortest pairs
abbrev pub passes : Leg → Bool → Bool
passes Alone s = false
passes First s = false
passes Second s = s
passes Third s = s

-- leg 1 takes them times 3.0
abbrev pub factor : Leg → Bool → Float
factor Alone s = f1
factor First true = f3
factor First false = f1
factor Second s = f1
factor Third s = f1

-- the row of the force constants for atom i
abbrev pub row_of : Form → List ℤ → ℕ → ℕ
row_of Compact p2s i = i
row_of Full p2s i = index (int p2s i)

-- row i, supercell atoms j and k, of a table with S * S entries a row
abbrev pub entry : ℕ → ℕ → ℕ → ℕ → ℕ
entry S i j k = (i * S + j) * S + k

-- p is the product of two phase factors, x a force constant
unfoldable pub term : Leg → Bool → Complex → Float → Complex
term g s p x = scale (scale p (factor g s)) x

-- The sum for atoms i, a, b. p and r are the phase factors of the legs of the second and the third atom.
module _ (S : ℕ) (c : Forces) (g : Leg) (p r : ℕ → Complex) (i a b : ℕ) where
  -- the pair of supercell atoms (j, k) has a part in the sum
  unfoldable pub pair_taken : ℕ → ℕ → Bool
  pair_taken j k =
      eqb (index (int c.s2p j)) (index (int c.p2s a)) && eqb (index (int c.s2p k)) (index (int c.p2s b))
      && not (passes g (flagged c.shortest (entry S i j k)))
      && flagged c.nonzero (entry S (row_of c.form c.p2s i) j k)

  unfoldable pub pair_term : ℕ → ℕ → ℕ → Complex
  pair_term e j k =
      term g (flagged c.shortest (entry S i j k)) (cmul (p (i * S + j)) (r (i * S + k)))
      (at c.constants (entry S (row_of c.form c.p2s i) j k * 27 + e))

  -- element e, from 0 to 26
  unfoldable pub element : ℕ → Complex
  element e = fold S czero (λ j s. fold S s (λ k t. cond (pair_taken j k) (cadd t (pair_term e j k)) t))

-- ---- legacy_block and r0_average_block: element (l, m, n) of the block of atoms i, j, k

-- the pre-factors, and the phase factors of the three legs
pub record Factors : Type 0 where
  pub pre : ℕ → Complex
  pub legs : Legs (ℕ → Complex)

unfoldable pub over3 : Complex → Complex
over3 a = record { re = a.re ⊘ f3; im = a.im ⊘ f3 }

module _ (S : ℕ) (c : Forces) (w : Factors) (i j k l m n : ℕ) where
  -- the paper's sum over l' and l'' of Φ(0κ, l'κ', l''κ'') exp(i q' · [..]) exp(i q'' · [..]), times exp(i (q + q' + q'') · r(0κ)); its 1/√N, 1/3! and Δ(q + q' + q'') are not here
  unfoldable pub plain_element : Complex
  plain_element = cmul (element S c Alone w.legs.leg1 w.legs.leg2 i j k (l * 9 + m * 3 + n)) (w.pre i)

  unfoldable pub averaged_element : Complex
  averaged_element =
      over3 (cadd (cadd (cadd czero
      (cmul (element S c First w.legs.leg1 w.legs.leg2 i j k (l * 9 + m * 3 + n)) (w.pre i)))
      (cmul (element S c Second w.legs.leg0 w.legs.leg2 j i k (m * 9 + l * 3 + n)) (w.pre j)))
      (cmul (element S c Third w.legs.leg1 w.legs.leg0 k j i (n * 9 + m * 3 + l)) (w.pre k)))

  unfoldable pub anchored : Anchoring → Complex
  anchored Plain = plain_element
  anchored Averaged = averaged_element

-- ---- real_to_reciprocal

-- entry ((i * P + j) * P + k) * 27 + (l * 9 + m * 3 + n)
unfoldable pub reciprocal_entry : ℕ → ℕ → Anchoring → Forces → Factors → ℕ → Complex
reciprocal_entry P S a c w t =
    anchored S c w (t / 27 / P / P) (t / 27 / P % P) (t / 27 % P) (t % 27 / 9) (t % 27 % 9 / 3) (t % 27 % 3) a

-- from the tables of pre-factors and of the three legs' phase factors
unfoldable pub reciprocal_from : ℕ → ℕ → Anchoring → Forces → List Float → Legs (List Float) → List Float
reciprocal_from P S a c pre legs =
    ctable (P * P * P * 27)
    (reciprocal_entry P S a c (record { pre = cat pre; legs = record { leg0 = cat legs.leg0; leg1 = cat legs.leg1; leg2 = cat legs.leg2 } }))

-- from the three legs' q
unfoldable pub reciprocal : ℕ → ℕ → Anchoring → Crystal → Legs (List Float) → List Float
reciprocal P S a c q =
    reciprocal_from P S a c.forces (pre_factors P c.vectors c.multiplicity c.forces.p2s q)
    (record {
      leg0 = phase_factors P S c.vectors c.multiplicity q.leg0;
      leg1 = phase_factors P S c.vectors c.multiplicity q.leg1;
      leg2 = phase_factors P S c.vectors c.multiplicity q.leg2;
    })
