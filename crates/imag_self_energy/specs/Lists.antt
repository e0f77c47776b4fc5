-- Lists of places, and the sum over one: pair (j, k) of n bands has place j * n + k, and a block has area = n * n places.
use Rattle.std.specs.Prelude.{ℕ, ◌+◌, ◌*◌, ◌<◌, ◌≤◌, ◌≡◌, ◌&&◌, cond, List, eqb, Float, get_or, length}
use Rattle.std.specs.Float.Ieee.{lt}
use Rattle.std.specs.Float.{nan}
use Rattle.phonon.specs.declared.Band.{Band}
use Rattle.phonon.specs.Number.{◌⊕◌, ◌⊖◌, ◌⊗◌, f0, f1, at, fold}
use Rattle.phonon.specs.Sets.{part}
use Rattle.imag_self_energy.specs.declared.Shared.{Shared}
use Rattle.imag_self_energy.specs.declared.listed.Factor.{Factor}
use Rattle.imag_self_energy.specs.Bands.{band_at}

-- the first m numbers of a list are places
pub record Places (area : ℕ) (l : List ℕ) (m : ℕ) : Type 0 where
  pub size : m ≤ length l
  pub below : (i : ℕ) → i < m → get_or l i 0 < area

-- they are the places that a walk comes by, in its order: a walk works g at each of its places in turn, from z on
pub record Listed (area : ℕ) (walk : Float → (ℕ → Float → Float) → Float) (l : List ℕ) (m : ℕ) : Type 0 where
  pub places : Places area l m
  pub walked : (z : Float) (g : ℕ → Float → Float) → fold m z (λ i. g (get_or l i 0)) ≡ walk z g

-- the pairs of later bands that both exceed the cutoff, k and then j; q is band k of the third leg
unfoldable pub pair_step : Float → ℕ → List Band → (ℕ → Float → Float) → ℕ → Band → ℕ → Float → Float
pair_step cutoff n seconds g k q j sum = cond (lt cutoff (band_at seconds j).frequency && lt cutoff q.frequency) (g (j * n + k) sum) sum

unfoldable pub pair_column : Float → ℕ → List Band → List Band → (ℕ → Float → Float) → ℕ → Float → Float
pair_column cutoff n seconds thirds g k sum = fold n sum (pair_step cutoff n seconds g k (band_at thirds k))

unfoldable pub pair_walk : Float → ℕ → List Band → List Band → Float → (ℕ → Float → Float) → Float
pair_walk cutoff n seconds thirds z g = fold n z (pair_column cutoff n seconds thirds g)

-- of the pairs listed, those whose slot in block c is unflagged
unfoldable pub unflagged_step : ℕ → ℕ → List ℕ → List ℕ → (ℕ → Float → Float) → ℕ → Float → Float
unflagged_step area c flags pairs g i sum =
    cond (eqb (get_or flags (c * area + get_or pairs i 0) 0) 0) (g (get_or pairs i 0) sum) sum

unfoldable pub unflagged_walk : ℕ → ℕ → List ℕ → List ℕ → ℕ → Float → (ℕ → Float → Float) → Float
unflagged_walk area c flags pairs count z g = fold count z (unflagged_step area c flags pairs g)

-- the factors of the two weights of a pair, and entry i of an array of them
abbrev pub factor_of : List Band → List Band → ℕ → ℕ → Factor
factor_of seconds thirds j k = record {
  sum = (band_at seconds j).occupation ⊕ (band_at thirds k).occupation ⊕ f1;
  difference = (band_at seconds j).occupation ⊖ (band_at thirds k).occupation;
}

abbrev pub factor_at : List Factor → ℕ → Factor
factor_at l i = get_or l i (record { sum = nan; difference = nan })

pub record Factors (n : ℕ) (seconds thirds : List Band) (factors : List Factor) : Type 0 where
  pub factor : (j k : ℕ) → j < n → k < n → factor_at factors (j * n + k) ≡ factor_of seconds thirds j k

-- what the slot at place o of a block adds: x and y are the block's weights, v its strengths
unfoldable pub warm_term : Float → List Factor → List Float → List Float → List Float → ℕ → Float
warm_term weight factors x y v o = ((factor_at factors o).sum ⊗ at x o ⊕ (factor_at factors o).difference ⊗ at y o) ⊗ at v o ⊗ weight

unfoldable pub cold_term : Float → List Float → List Float → ℕ → Float
cold_term weight x v o = at x o ⊗ at v o ⊗ weight

-- with block c of the weights, and block b of the strengths
unfoldable pub place_term : Shared → List Factor → ℕ → ℕ → List Float → List Float → ℕ → List Float → ℕ → Float
place_term h factors area c x y b v o =
    cond (lt f0 h.temperature)
    (warm_term h.weight factors (part area c x) (part area c y) (part area b v) o)
    (cold_term h.weight (part area c x) (part area b v) o)

-- the total of position b, from the pairs listed and block c of the flags
unfoldable pub pair_total : Shared → ℕ → ℕ → List ℕ → List ℕ → List Float → List Float → List Float → List Factor → ℕ → ℕ → Float
pair_total h area count pairs flags x y v factors c b =
    unflagged_walk area c flags pairs count f0 (λ o t. t ⊕ place_term h factors area c x y b v o)
