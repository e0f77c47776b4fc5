-- The six orders: after o of them a slot that is not flagged holds the sum of o sixths, and a flagged one 0.0.
use mathlib.Core.Path.{◌≡◌, refl, sym, ap, ◌∙◌}
use mathlib.Core.Bool.{Bool, true, false, cond}
use mathlib.Core.List.{List, []}
use Prim.Native.Nat.{ℕ, zero, suc, ◌+◌, ◌-◌, ◌*◌, ◌<◌, ◌≤◌}
use native.Mathlib.Omega.{arith}
use lib.IntN.{ℤ, pos}
use lib.ListN.{get_or, replicate, length-replicate, get_or-replicate}
use lib.Seq.{ext_get_or}
use lib.Ieee.{Float, nan}
use Rattle.phonon.specs.Number.{◌⊕◌, ◌⊘◌, f0, f6, at, flagged, fold, table}
use Rattle.phonon.specs.declared.Legs.{Legs}
use Rattle.phonon.specs.Sets.{Tables}
use Rattle.phonon.specs.Tests.{all_within}
use Rattle.phonon.specs.Interaction.{orders, leg, exchanged, picked}
use Rattle.phonon.specs.ReciprocalToNormal.{strength}
use Rattle.phonon.proofs.Laws.{fold_step, table_ext, table_at, table_length}
use Rattle.planes.specs.Region.{SameOutside}
use Rattle.planes.proofs.LegOrders.{orders_lt}
use Rattle.real_to_normal.specs.Work.{legs_end, work_end, slot_count, reciprocal_of, leg_in, bands_of_slot, slot_in, sixth_of}
use Rattle.real_to_normal.proofs.SlotLaws.{slot_bands, leg_is}

-- leg x of the slot's phonons
leg_of_lem : (l : List Float) (P : ℕ) (frequencies : List Float) (g : Legs ℕ) (bands : List ℤ) (m x : ℕ) → x < 3
    → leg_in l P frequencies g x (leg (bands_of_slot P bands m) x) ≡ leg (slot_in l P frequencies g bands 0 1 2 m) x
leg_of_lem l P frequencies g bands m zero h = refl
leg_of_lem l P frequencies g bands m (suc zero) h = refl
leg_of_lem l P frequencies g bands m (suc (suc zero)) h = refl
leg_of_lem l P frequencies g bands m (suc (suc (suc x))) h = absurd (omega arith)

pick_turn : (b : Bool) (x y : Float) (f : Float → Float) → x ≡ cond b f0 y → cond b x (f x) ≡ cond b f0 (f y)
pick_turn true x y f e = e
pick_turn false x y f e = ap f e

module _ (t : Tables) (q : Legs (List Float)) (l : List Float) (g : Legs ℕ) (flags : List ℕ) (p : 1 ≤ t.measures.atoms) (w : all_within (pos 0) (pos (3 * t.measures.atoms - 1)) t.bands ≡ true) where
  abbrev P : ℕ
  P = t.measures.atoms

  abbrev N : ℕ
  N = slot_count t

  abbrev summed : ℕ → ℕ → Float
  summed o m = cond (flagged flags m) f0 (fold o f0 (sixth_of t q l g m))

  pub six_turn : (o : ℕ) {l₁ out out' : List Float} {order : List ℕ} → o < 6 → SameOutside l l₁ (legs_end t.measures) (work_end t.measures) → order ≡ get_or orders o []
      → out ≡ table N (summed o)
      → out' ≡ table N (λ m. cond (flagged flags m) (at out m) (at out m ⊕ strength P (reciprocal_of t (picked q (get_or order 0 0) (get_or order 1 0) (get_or order 2 0)))
      (slot_in l₁ P t.phonons.frequencies g t.bands (get_or order 0 0) (get_or order 1 0) (get_or order 2 0) m) t.settings.cutoff ⊘ f6))
      → out' ≡ table N (summed (o + 1))
  unfolding sixth_of exchanged
  six_turn o {l₁} {out} {out'} {order} h k eo e r =
      r ∙ table_ext N _ _ (λ m n.
      let i0 = orders_lt o 0 h (omega arith) in
      let i1 = orders_lt o 1 h (omega arith) in
      let i2 = orders_lt o 2 h (omega arith) in
      let b = slot_bands P t.bands m p w n in
      let u = leg_is P t.measures.supercell t.phonons.frequencies g k (omega arith) (get_or (get_or orders o []) 0 0) _ _ _ i0 (b (get_or (get_or orders o []) 0 0)) refl refl ∙ leg_of_lem l P t.phonons.frequencies g t.bands m (get_or (get_or orders o []) 0 0) i0 in
      let v = leg_is P t.measures.supercell t.phonons.frequencies g k (omega arith) (get_or (get_or orders o []) 1 0) _ _ _ i1 (b (get_or (get_or orders o []) 1 0)) refl refl ∙ leg_of_lem l P t.phonons.frequencies g t.bands m (get_or (get_or orders o []) 1 0) i1 in
      let z = leg_is P t.measures.supercell t.phonons.frequencies g k (omega arith) (get_or (get_or orders o []) 2 0) _ _ _ i2 (b (get_or (get_or orders o []) 2 0)) refl refl ∙ leg_of_lem l P t.phonons.frequencies g t.bands m (get_or (get_or orders o []) 2 0) i2 in
      ap (λ d. cond (flagged flags m) (at out m) (at out m ⊕ strength P (reciprocal_of t (picked q (get_or d 0 0) (get_or d 1 0) (get_or d 2 0))) (slot_in l₁ P t.phonons.frequencies g t.bands (get_or d 0 0) (get_or d 1 0) (get_or d 2 0) m) t.settings.cutoff ⊘ f6)) eo
      ∙ (λ i. cond (flagged flags m) (at out m) (at out m ⊕ strength P (reciprocal_of t (exchanged o q)) (record { leg0 = u i; leg1 = v i; leg2 = z i }) t.settings.cutoff ⊘ f6))
      ∙ pick_turn (flagged flags m) (at out m) (fold o f0 (sixth_of t q l g m)) (sixth_of t q l g m o) (ap (λ t. at t m) e ∙ table_at N m (summed o) nan n)
      ∙ ap (cond (flagged flags m) f0) (sym (fold_step o f0 (sixth_of t q l g m))))

  pub six_none : {n : ℕ} → n ≡ N → replicate n f0 ≡ table N (summed 0)
  unfolding fold
  six_none e = rw e (ext_get_or nan (replicate N f0) (table N (summed 0)) (omega (arith, length-replicate N f0, table_length N (summed 0)))
      (λ m p. let h : m < N = omega (arith, length-replicate N f0) in get_or-replicate N m f0 nan h ∙ both (flagged flags m) ∙ sym (table_at N m (summed 0) nan h)))
    where
      both : (b : Bool) → f0 ≡ cond b f0 f0
      both true = refl
      both false = refl
