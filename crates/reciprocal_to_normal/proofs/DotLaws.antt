-- The dot product and its partial sums: turns, the join, and arrays that agree.
use mathlib.Core.Path.{◌≡◌, refl, ap}
use Prim.Native.Nat.{ℕ, ◌+◌, ◌*◌, ◌/◌, ◌%◌, ◌<◌}
use native.Mathlib.Nat.{div-add-mod}
use native.Mathlib.Omega.{arith}
use Rattle.phonon.specs.declared.Complex.{Complex}
use Rattle.phonon.specs.Number.{fold}
use Rattle.phonon.specs.Common.{czero, cadd, cmul}
use Rattle.phonon.specs.ReciprocalToNormal.{lane, dot}
use Rattle.phonon.proofs.Laws.{fold_ext, fold_step}
use Rattle.planes.proofs.FloatLaws.{cmul_commutes}

-- term k of the dot product
abbrev pub term : (ℕ → Complex) → (ℕ → Complex) → ℕ → Complex → Complex
term a b k s = cadd s (cmul (a k) (b k))

-- i turns of partial sum t
abbrev pub lane_to : ℕ → (ℕ → Complex) → (ℕ → Complex) → ℕ → Complex
lane_to i a b t = fold i czero (λ c. term a b (4 * c + t))

-- the four partial sums of n terms
abbrev pub joined : ℕ → (ℕ → Complex) → (ℕ → Complex) → Complex
joined n a b = cadd (cadd (lane n a b 0) (lane n a b 1)) (cadd (lane n a b 2) (lane n a b 3))

-- and i terms of the remainder
abbrev pub rest_to : ℕ → ℕ → (ℕ → Complex) → (ℕ → Complex) → Complex
rest_to i n a b = fold i (joined n a b) (λ r. term a b (4 * (n / 4) + r))

module _ (a b : ℕ → Complex) where
  -- one term more
  pub turn : (z : Complex) (k : ℕ → ℕ) (i : ℕ) {s x y : Complex} → s ≡ fold i z (λ c. term a b (k c)) → x ≡ a (k i) → y ≡ b (k i)
      → cadd s (cmul x y) ≡ fold (i + 1) z (λ c. term a b (k c))
  turn z k i es ex ey = rw (es, ex, ey, fold_step i z (λ c. term a b (k c)))

  pub lane_done : (n t : ℕ) → lane_to (n / 4) a b t ≡ lane n a b t
  unfolding lane
  lane_done n t = refl

  pub first_lane_done : (n : ℕ) → fold (n / 4) czero (λ c. term a b (4 * c)) ≡ lane n a b 0
  unfolding lane
  first_lane_done n = fold_ext (n / 4) _ _ _ (λ c p s. ap (λ k. term a b k s) (omega arith))

  pub dot_done : (n : ℕ) → rest_to (n % 4) n a b ≡ dot n a b
  unfolding dot
  dot_done n = refl

four_lt : (n c t : ℕ) → c < n / 4 → t < 4 → 4 * c + t < n
four_lt n c t p q = let e = div-add-mod n 4 in omega arith

module _ (n : ℕ) (a a' b b' : ℕ → Complex) (same : (i : ℕ) → i < n → (s : Complex) → term a b i s ≡ term a' b' i s) where
  lane_same : (t : ℕ) → t < 4 → lane n a b t ≡ lane n a' b' t
  unfolding lane
  lane_same t q = fold_ext (n / 4) _ _ _ (λ c p s. same (4 * c + t) (four_lt n c t p q) s)

  -- a dot product is made of its terms
  dot_same : dot n a b ≡ dot n a' b'
  unfolding dot
  dot_same =
      rw (lane_same 0 (omega arith), lane_same 1 (omega arith), lane_same 2 (omega arith), lane_same 3 (omega arith))
      (fold_ext (n % 4) _ _ _ (λ r p s. same (4 * (n / 4) + r) (let e = div-add-mod n 4 in omega arith) s))

pub dot_ext : (n : ℕ) (a a' b b' : ℕ → Complex) → ((i : ℕ) → i < n → a i ≡ a' i) → ((i : ℕ) → i < n → b i ≡ b' i) → dot n a b ≡ dot n a' b'
dot_ext n a a' b b' ea eb = dot_same n a a' b b' (λ i p s. rw (ea i p, eb i p))

pub dot_commutes : (n : ℕ) (a b : ℕ → Complex) → dot n a b ≡ dot n b a
dot_commutes n a b = dot_same n a b b a (λ i p s. ap (cadd s) (cmul_commutes (a i) (b i)))
