-- Writing the region of the force constants: a run of three numbers along the second leg, and sets joined side by side.
use mathlib.Core.Path.{◌≡◌, refl, sym, ap, ◌∙◌}
use mathlib.Core.Logic.{◌⊎◌, inl, inr, ⊎_elim}
use mathlib.Core.List.{List}
use Prim.Native.Nat.{ℕ, ◌+◌, ◌-◌, ◌*◌, ◌<◌, ◌≤◌}
use native.Mathlib.Nat.{mul_comm, mul_left_comm, le-mul_of_pos_right}
use native.Mathlib.Decide.{dec_lt}
use native.Mathlib.Omega.{arith}
use lib.Ieee.{Float}
use Rattle.phonon.specs.declared.Complex.{Complex}
use Rattle.phonon.specs.Number.{at}
use Rattle.planes.specs.Split.{split, WroteSplit}
use Rattle.planes.specs.Layout.{constant_at}
use Rattle.planes.proofs.SplitLaws.{complex_eq, split_at}
use Rattle.planes.proofs.RegionLaws.{outside_none, outside_then}
use Rattle.planes.proofs.Products.{row_le, row_same, place_same}
use Rattle.real_to_reciprocal.specs.Stored.{Span, Box, Stored}

-- ---- sets of entries

module _ {l : List Float} {fo P : ℕ} {f : ℕ → ℕ → ℕ → Complex} where
  pub stored_none : (In : ℕ → ℕ → ℕ → Type 0) → ((al bm cn : ℕ) → In al bm cn → ⊥) → Stored l l fo P In f
  stored_none In h = record { kept = outside_none l _ _; inside = λ al bm cn p q r e. absurd (h al bm cn e); other = λ al bm cn p q r n. refl }

  pub stored_then : {l₁ l₂ : List Float} {D E : ℕ → ℕ → ℕ → Type 0} (G : ℕ → ℕ → ℕ → Type 0) → Stored l l₁ fo P D f → Stored l₁ l₂ fo P E f
      → ((al bm cn : ℕ) → G al bm cn → E al bm cn ⊎ (D al bm cn × (E al bm cn → ⊥))) → ((al bm cn : ℕ) → D al bm cn → G al bm cn) → ((al bm cn : ℕ) → E al bm cn → G al bm cn) → Stored l l₂ fo P G f
  stored_then G w v s d e =
      record {
        kept = outside_then w.kept v.kept;
        inside = λ al bm cn p q r g. ⊎_elim
            (λ h. v.inside al bm cn p q r h)
            (λ h. v.other al bm cn p q r h.1 ∙ w.inside al bm cn p q r h.0)
            (s al bm cn g);
        other = λ al bm cn p q r n. v.other al bm cn p q r (λ h. n (e al bm cn h)) ∙ w.other al bm cn p q r (λ h. n (d al bm cn h));
      }

  pub stored_ext : {l₁ : List Float} {In : ℕ → ℕ → ℕ → Type 0} (g : ℕ → ℕ → ℕ → Complex) → Stored l l₁ fo P In f → ((al bm cn : ℕ) → In al bm cn → f al bm cn ≡ g al bm cn) → Stored l l₁ fo P In g
  stored_ext g w e = record { kept = w.kept; inside = λ al bm cn p q r h. w.inside al bm cn p q r h ∙ e al bm cn h; other = w.other }

-- two spans, side by side
module _ {a a' m x : ℕ} where
  span_first : m ≤ a' → Span a m x → Span a a' x
  span_first h s = record { low = s.low; high = omega arith }

  span_second : a ≤ m → Span m a' x → Span a a' x
  span_second h s = record { low = omega arith; high = s.high }

  -- which of the two
  span_cut : Span a a' x → Span m a' x ⊎ (Span a m x × (Span m a' x → ⊥))
  span_cut s = go (dec_lt x m)
    where
      go : Dec (x < m) → Span m a' x ⊎ (Span a m x × (Span m a' x → ⊥))
      go (yes h) = inr (record { low = s.low; high = h }, λ t. omega (arith, t.low))
      go (no h) = inl (record { low = omega arith; high = s.high })

-- two boxes, side by side along one leg
module _ {l l₁ l₂ : List Float} {fo P : ℕ} {f : ℕ → ℕ → ℕ → Complex} {a a' b b' c c' : ℕ} where
  pub join0 : {m : ℕ} → a ≤ m → m ≤ a' → Stored l l₁ fo P (Box a m b b' c c') f → Stored l₁ l₂ fo P (Box m a' b b' c c') f → Stored l l₂ fo P (Box a a' b b' c c') f
  join0 p q w v =
      stored_then (Box a a' b b' c c') w v
      (λ al bm cn g. ⊎_elim (λ s. inl (record { leg0 = s; leg1 = g.leg1; leg2 = g.leg2 })) (λ s. inr (record { leg0 = s.0; leg1 = g.leg1; leg2 = g.leg2 }, λ k. s.1 k.leg0)) (span_cut g.leg0))
      (λ al bm cn g. record { leg0 = span_first q g.leg0; leg1 = g.leg1; leg2 = g.leg2 })
      (λ al bm cn g. record { leg0 = span_second p g.leg0; leg1 = g.leg1; leg2 = g.leg2 })

  pub join1 : {m : ℕ} → b ≤ m → m ≤ b' → Stored l l₁ fo P (Box a a' b m c c') f → Stored l₁ l₂ fo P (Box a a' m b' c c') f → Stored l l₂ fo P (Box a a' b b' c c') f
  join1 p q w v =
      stored_then (Box a a' b b' c c') w v
      (λ al bm cn g. ⊎_elim (λ s. inl (record { leg0 = g.leg0; leg1 = s; leg2 = g.leg2 })) (λ s. inr (record { leg0 = g.leg0; leg1 = s.0; leg2 = g.leg2 }, λ k. s.1 k.leg1)) (span_cut g.leg1))
      (λ al bm cn g. record { leg0 = g.leg0; leg1 = span_first q g.leg1; leg2 = g.leg2 })
      (λ al bm cn g. record { leg0 = g.leg0; leg1 = span_second p g.leg1; leg2 = g.leg2 })

  pub join2 : {m : ℕ} → c ≤ m → m ≤ c' → Stored l l₁ fo P (Box a a' b b' c m) f → Stored l₁ l₂ fo P (Box a a' b b' m c') f → Stored l l₂ fo P (Box a a' b b' c c') f
  join2 p q w v =
      stored_then (Box a a' b b' c c') w v
      (λ al bm cn g. ⊎_elim (λ s. inl (record { leg0 = g.leg0; leg1 = g.leg1; leg2 = s })) (λ s. inr (record { leg0 = g.leg0; leg1 = g.leg1; leg2 = s.0 }, λ k. s.1 k.leg2)) (span_cut g.leg2))
      (λ al bm cn g. record { leg0 = g.leg0; leg1 = g.leg1; leg2 = span_first q g.leg2 })
      (λ al bm cn g. record { leg0 = g.leg0; leg1 = g.leg1; leg2 = span_second p g.leg2 })

-- ---- places

-- with B = 3 * P components: the numbers of row cn, and the two planes of component al
pub record PlaceIn (P al cn : ℕ) : Type 0 where
  pub row : cn * (3 * P) + 3 * P ≤ 3 * P * (3 * P)
  pub planes : 2 * (al * (3 * P * (3 * P))) + 2 * (3 * P * (3 * P)) ≤ 2 * (3 * P * (3 * P) * (3 * P))
  pub square : 3 * P ≤ 3 * P * (3 * P)

pub place_in : {P al cn : ℕ} → al < 3 * P → cn < 3 * P → PlaceIn P al cn
place_in {P} {al} {cn} p q =
    let D = 3 * P * (3 * P) in
    record {
      row = row_le (3 * P) q;
      planes = omega (arith, row_le D p, mul_comm (3 * P) D);
      square = le-mul_of_pos_right (3 * P) (omega arith);
    }

-- the component of the first leg, and the place in its two planes
plane_same : (D al al' : ℕ) {u v : ℕ} → u < 2 * D → v < 2 * D → 2 * (al * D) + u ≡ 2 * (al' * D) + v → (al ≡ al') × (u ≡ v)
plane_same D al al' {u} {v} p q e =
    let a : al * (2 * D) ≡ 2 * (al * D) = mul_left_comm al 2 D in
    let b : al' * (2 * D) ≡ 2 * (al' * D) = mul_left_comm al' 2 D in
    let h : al * (2 * D) + u ≡ al' * (2 * D) + v = omega arith in
    (row_same (2 * D) al al' p q h, place_same (2 * D) al al' p q h)

-- a place outside of what was written
split_other : {l l₁ : List Float} {off d n : ℕ} {f : ℕ → Complex} → WroteSplit l l₁ off d n f → (x : ℕ) → ((m : ℕ) → m < n → x ≡ off + m → ⊥) → ((m : ℕ) → m < n → x ≡ off + d + m → ⊥) → at l₁ x ≡ at l x
split_other {l} {l₁} {off} {d} {n} {f} w x p q = go (dec_lt x off) (dec_lt x (off + n)) (dec_lt x (off + d)) (dec_lt x (off + d + n))
  where
    go : Dec (x < off) → Dec (x < off + n) → Dec (x < off + d) → Dec (x < off + d + n) → at l₁ x ≡ at l x
    go (yes a) b c e = w.before x a
    go (no a) (yes b) c e = absurd (p (x - off) (omega arith) (omega arith))
    go (no a) (no b) (yes c) e = w.between x (omega arith) c
    go (no a) (no b) (no c) (yes e) = absurd (q (x - (off + d)) (omega arith) (omega arith))
    go (no a) (no b) (no c) (no e) = w.after x (omega arith)

-- two planes of D numbers for each component, with rows of B numbers: entries (x, y, z) and (al, bm, cn), and in which plane
module _ (B D x y z al bm cn : ℕ) (py : y < B) (pb : bm < B) (rz : z * B + B ≤ D) (rc : cn * B + B ≤ D) where
  same_plane : 2 * (x * D) + (z * B + y) ≡ 2 * (al * D) + (cn * B + bm) → (x ≡ al) × (y ≡ bm) × (z ≡ cn)
  same_plane e =
      let h = plane_same D x al {u = z * B + y} {v = cn * B + bm} (omega arith) (omega arith) e in
      (h.0, place_same B z cn py pb h.1, row_same B z cn py pb h.1)

  other_plane : 2 * (x * D) + (z * B + y) ≡ 2 * (al * D) + (D + (cn * B + bm)) → ⊥
  other_plane e =
      let h = plane_same D x al {u = z * B + y} {v = D + (cn * B + bm)} (omega arith) (omega arith) e in
      omega (arith, h.1)

-- three numbers of row cn in the planes of component al: those of atom j on the second leg
module _ (fo P al j cn : ℕ) (pa : al < 3 * P) (pj : j < P) (pc : cn < 3 * P) where
  -- entry (x, y, z) is not at number m of the run
  module _ (x y z m : ℕ) (py : y < 3 * P) (pz : z < 3 * P) (pm : m < 3) where
    at_run : 2 * (x * (3 * P * (3 * P))) + (z * (3 * P) + y) ≡ 2 * (al * (3 * P * (3 * P))) + (cn * (3 * P) + (3 * j + m)) → Box al (al + 1) (3 * j) (3 * j + 3) cn (cn + 1) x y z
    at_run e =
        let h = same_plane (3 * P) (3 * P * (3 * P)) x y z al (3 * j + m) cn py (omega arith) (row_le (3 * P) pz) (row_le (3 * P) pc) e in
        let h0 = h.0 in let h1 = h.1 in let h2 = h.2 in
        record { leg0 = record { low = omega arith; high = omega arith }; leg1 = record { low = omega arith; high = omega arith }; leg2 = record { low = omega arith; high = omega arith } }

    real_imag : 2 * (x * (3 * P * (3 * P))) + (z * (3 * P) + y) ≡ 2 * (al * (3 * P * (3 * P))) + (3 * P * (3 * P) + (cn * (3 * P) + (3 * j + m))) → ⊥
    real_imag e = other_plane (3 * P) (3 * P * (3 * P)) x y z al (3 * j + m) cn py (omega arith) (row_le (3 * P) pz) (row_le (3 * P) pc) e

    imag_real : 2 * (x * (3 * P * (3 * P))) + (3 * P * (3 * P) + (z * (3 * P) + y)) ≡ 2 * (al * (3 * P * (3 * P))) + (cn * (3 * P) + (3 * j + m)) → ⊥
    imag_real e = other_plane (3 * P) (3 * P * (3 * P)) al (3 * j + m) cn x y z (omega arith) py (row_le (3 * P) pc) (row_le (3 * P) pz) (sym e)

  pub run_stored : {l l₁ : List Float} {o d : ℕ} {g : ℕ → Complex} (f : ℕ → ℕ → ℕ → Complex) → WroteSplit l l₁ o d 3 g
      → d ≡ 3 * P * (3 * P) → o ≡ fo + 2 * (al * (3 * P * (3 * P))) + (cn * (3 * P) + 3 * j) → ((m : ℕ) → m < 3 → g m ≡ f al (3 * j + m) cn)
      → Stored l l₁ fo P (Box al (al + 1) (3 * j) (3 * j + 3) cn (cn + 1)) f
  run_stored {l} {l₁} {o} {d} {g} f w ed eo e =
      let n = place_in {P = P} {al = al} {cn = cn} pa pc in
      record {
        kept = record { size = w.size; before = λ x h. w.before x (omega arith); after = λ x h. w.after x (omega (arith, n.row, n.planes)) };
        inside = λ x y z p q r b. within x y z b;
        other = λ x y z p q r b. complex_eq
            (split_other w (fo + 2 * (x * (3 * P * (3 * P))) + (z * (3 * P) + y)) (λ m h k. b (at_run x y z m q r h (omega arith))) (λ m h k. real_imag x y z m q r h (omega arith)))
            (split_other w (fo + 2 * (x * (3 * P * (3 * P))) + 3 * P * (3 * P) + (z * (3 * P) + y)) (λ m h k. imag_real x y z m q r h (omega arith)) (λ m h k. b (at_run x y z m q r h (omega arith))));
      }
    where
      within : (x y z : ℕ) → Box al (al + 1) (3 * j) (3 * j + 3) cn (cn + 1) x y z → constant_at l₁ fo P x y z ≡ f x y z
      within x y z b =
          let ex : x ≡ al = omega (arith, b.leg0.low, b.leg0.high) in
          let ez : z ≡ cn = omega (arith, b.leg2.low, b.leg2.high) in
          let m : y - 3 * j < 3 = omega (arith, b.leg1.low, b.leg1.high) in
          let ey : 3 * j + (y - 3 * j) ≡ y = omega (arith, b.leg1.low) in
          rw (ex, ez)
          (ap (λ (k : ℕ). split l₁ (fo + 2 * (al * (3 * P * (3 * P)))) k (cn * (3 * P) + y)) (sym ed)
          ∙ split_at l₁ (fo + 2 * (al * (3 * P * (3 * P)))) o d (cn * (3 * P) + y) (y - 3 * j) (omega arith)
          ∙ w.inside (y - 3 * j) m ∙ e (y - 3 * j) m ∙ ap (λ (k : ℕ). f al k cn) ey)
