-- The sums over pairs of supercell atoms: the turns of k and of j, from copy to copy, and that together they are the definition's sum.
use mathlib.Core.Path.{◌≡◌, refl, sym, ap, ◌∙◌}
use mathlib.Core.Bool.{Bool, true, false, not, ◌&&◌, cond}
use mathlib.Core.List.{List}
use Prim.Native.Nat.{ℕ, ◌+◌}
use lib.Dec.{eqb}
use lib.IntN.{ℤ}
use lib.ListN.{replicate}
use lib.Ieee.{Float}
use Rattle.phonon.specs.declared.Complex.{Complex}
use Rattle.phonon.specs.declared.Leg.{Leg}
use Rattle.phonon.specs.Number.{f0, index, int, flagged, fold}
use Rattle.phonon.specs.Common.{czero}
use Rattle.phonon.specs.Sets.{Forces}
use Rattle.phonon.specs.RealToReciprocal.{passes, row_of, entry, pair_taken, pair_term, element}
use Rattle.phonon.proofs.Laws.{fold_ext}
use Rattle.planes.specs.Split.{split}
use Rattle.planes.proofs.ColsLaws.{cols_zero}
use Rattle.std.specs.Prelude.{Option, None}
use Rattle.real_to_reciprocal.specs.declared.elements.Block.{Block}
use Rattle.real_to_reciprocal.specs.Copies.{FirstCopy}
use Rattle.real_to_reciprocal.specs.Pair.{pair_step, with_held, Settled}
use Rattle.real_to_reciprocal.proofs.CopyLaws.{fold_idle, at_copies, walk_start, walk_turn}
use Rattle.real_to_reciprocal.proofs.HeldLaws.{settled_none, settled_ext}

module _ (shortest nonzero : List ℕ) (constants : List Float) (g : Leg) (p r : ℕ → Complex) (S i row : ℕ) (s2p : List ℤ) (x y : ℕ) where
  abbrev pair_at : ℕ → ℕ → ℕ → Complex → Complex
  pair_at j e k = pair_step shortest nonzero constants g p r S i row j k e

  -- the turns of k below n, of element e in row j
  abbrev k_turns : ℕ → ℕ → ℕ → Complex → Complex
  k_turns j e n s = fold n s (at_copies s2p y (pair_at j e))

  -- the turns of j below n, of element e
  abbrev pub j_turns : ℕ → ℕ → Complex
  j_turns n e = fold n czero (at_copies s2p x (λ j s. k_turns j e S s))

  -- the turns of the rows below j and, in row j, those of k below n
  abbrev pub turns : ℕ → ℕ → ℕ → Complex
  turns j n e = k_turns j e n (j_turns j e)

  pub j_start : {j : ℕ} → FirstCopy s2p S x 0 j → Settled constants (replicate 54 f0) None (j_turns j)
  j_start c = settled_none (cols_zero 27 _ (λ e l. walk_start s2p S x czero (λ j s. k_turns j e S s) c))

  pub k_start : {t : List Float} {h : Option Block} (j : ℕ) {k : ℕ} → Settled constants t h (j_turns j) → FirstCopy s2p S y 0 k → Settled constants t h (turns j k)
  k_start j s c = settled_ext s (λ e l. walk_start s2p S y (j_turns j e) (pair_at j e) c)

  pub k_turn : {t t' : List Float} {h h' : Option Block} (j k : ℕ) {n : ℕ} → Settled constants t h (turns j k) → Settled constants t' h' (λ e. pair_at j e k (with_held constants h e (split t 0 27 e)))
      → index (int s2p k) ≡ y → FirstCopy s2p S (index (int s2p k)) (k + 1) n → Settled constants t' h' (turns j n)
  k_turn j k s v q c = settled_ext v (λ e l. ap (pair_at j e k) (s.sum e l) ∙ walk_turn s2p S y (j_turns j e) (pair_at j e) k q c)

  pub j_turn : {t : List Float} {h : Option Block} (j : ℕ) {n : ℕ} → Settled constants t h (turns j S) → index (int s2p j) ≡ x → FirstCopy s2p S (index (int s2p j)) (j + 1) n → Settled constants t h (j_turns n)
  j_turn j s q c = settled_ext s (λ e l. walk_turn s2p S x czero (λ j s. k_turns j e S s) j q c)

-- tests in turn, as one
four : (a b n z : Bool) (u v : Complex) → cond a (cond b (cond (n && z) u v) v) v ≡ cond (a && b && n && z) u v
four true true n z u v = refl
four true false n z u v = refl
four false b n z u v = refl

-- a test that no turn changes
fold_cond : (n : ℕ) (s : Complex) (b : Bool) (f : ℕ → Complex → Complex) → cond b (fold n s f) s ≡ fold n s (λ k u. cond b (f k u) u)
fold_cond n s true f = refl
fold_cond n s false f = sym (fold_idle n s (λ k u. u) (λ k l u. refl))

-- the turns of all j are the definition's sum
pub element_by : (S : ℕ) (c : Forces) (g : Leg) (p r : ℕ → Complex) (i a b e row : ℕ) → row ≡ row_of c.form c.p2s i
    → j_turns c.shortest c.nonzero c.constants g p r S i row c.s2p (index (int c.p2s a)) (index (int c.p2s b)) S e ≡ element S c g p r i a b e
unfolding element pair_taken pair_term pair_step
element_by S c g p r i a b e row h =
    fold_ext S czero _ _ (λ j l s. fold_cond S s (eqb (index (int c.s2p j)) (index (int c.p2s a))) (at_copies c.s2p (index (int c.p2s b)) (pair_at c.shortest c.nonzero c.constants g p r S i row c.s2p (index (int c.p2s a)) (index (int c.p2s b)) j e))
    ∙ fold_ext S s _ _ (λ k m u. rw h (four (eqb (index (int c.s2p j)) (index (int c.p2s a))) (eqb (index (int c.s2p k)) (index (int c.p2s b))) (not (passes g (flagged c.shortest (entry S i j k)))) (flagged c.nonzero (entry S (row_of c.form c.p2s i) j k)) _ _)))
