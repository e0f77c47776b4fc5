-- What the lists of the layout have at each place.
use mathlib.Core.Path.{◌≡◌, ap, ap₂, ◌∙◌}
use mathlib.Core.List.{List}
use Prim.Native.Nat.{ℕ, ◌+◌, ◌*◌, ◌/◌, ◌%◌, ◌<◌}
use native.Mathlib.Nat.{div-add-mod, mod-lt}
use native.Mathlib.Omega.{arith}
use lib.Ieee.{Float}
use Rattle.phonon.specs.Common.{cat}
use Rattle.phonon.specs.ReciprocalToNormal.{place}
use Rattle.phonon.proofs.Laws.{ctable_at, div_of, mod_of, pair_lt}
use Rattle.planes.specs.Split.{split}
use Rattle.planes.specs.Layout.{constant_at, constant_entry, constants_in, column_in}

-- component m of band n
pub column_at : (l : List Float) (eo B n m : ℕ) → m < B → cat (column_in l eo B n) m ≡ split l eo (B * B) (m * B + n)
unfolding column_in
column_at l eo B n m h = ctable_at B m _ h

-- ---- the place of atoms a, b, c and components i, j, k

module _ (P a b c i j k : ℕ) (pa : a < P) (pb : b < P) (pc : c < P) (pi : i < 3) (pj : j < 3) (pk : k < 3) where
  abbrev number : ℕ
  number = ((a * P + b) * P + c) * 27 + i * 9 + j * 3 + k

  grouped : number ≡ ((a * P + b) * P + c) * 27 + (i * 9 + (j * 3 + k))
  grouped = omega arith

  pub number_lt : number < P * P * P * 27
  number_lt =
      let t = pair_lt {n = P * P * P} {B = 27} (pair_lt {n = P * P} (pair_lt pa pb) pc) (pair_lt {n = 3} {B = 9} pi (pair_lt {n = 3} {B = 3} pj pk)) in
      omega (arith, grouped)

  atoms : number / 27 ≡ (a * P + b) * P + c
  atoms = ap (λ x. x / 27) grouped ∙ div_of 27 (pair_lt {n = 3} {B = 9} pi (pair_lt {n = 3} {B = 3} pj pk)) ((a * P + b) * P + c)

  element : number % 27 ≡ i * 9 + (j * 3 + k)
  element = ap (λ x. x % 27) grouped ∙ mod_of 27 (pair_lt {n = 3} {B = 9} pi (pair_lt {n = 3} {B = 3} pj pk)) ((a * P + b) * P + c)

  pub first_atom : number / 27 / P / P ≡ a
  first_atom = ap (λ x. x / P / P) atoms ∙ ap (λ x. x / P) (div_of P pc (a * P + b)) ∙ div_of P pb a

  pub second_atom : number / 27 / P % P ≡ b
  second_atom = ap (λ x. x / P % P) atoms ∙ ap (λ x. x % P) (div_of P pc (a * P + b)) ∙ mod_of P pb a

  pub third_atom : number / 27 % P ≡ c
  third_atom = ap (λ x. x % P) atoms ∙ mod_of P pc (a * P + b)

  pub first_component : number % 27 / 9 ≡ i
  first_component = ap (λ x. x / 9) element ∙ div_of 9 (pair_lt {n = 3} {B = 3} pj pk) i

  pub second_component : number % 27 % 9 / 3 ≡ j
  second_component = ap (λ x. x % 9 / 3) element ∙ ap (λ x. x / 3) (mod_of 9 (pair_lt {n = 3} {B = 3} pj pk) i) ∙ div_of 3 pk j

  pub third_component : number % 27 % 3 ≡ k
  third_component = ap (λ x. x % 3) (element ∙ regroup) ∙ mod_of 3 pk (i * 3 + j)
    where
      regroup : i * 9 + (j * 3 + k) ≡ (i * 3 + j) * 3 + k
      regroup = omega arith

third : (x P : ℕ) → x < 3 * P → x / 3 < P
third x P h = let e = div-add-mod x 3 in omega arith

-- entry (al, bm, cn)
module _ (P al bm cn : ℕ) (pa : al < 3 * P) (pb : bm < 3 * P) (pc : cn < 3 * P) where
  abbrev of : {T : ℕ → ℕ → ℕ → ℕ → ℕ → ℕ → Type 0} → ((a b c i j k : ℕ) → a < P → b < P → c < P → i < 3 → j < 3 → k < 3 → T a b c i j k)
      → T (al / 3) (bm / 3) (cn / 3) (al % 3) (bm % 3) (cn % 3)
  of f =
      f (al / 3) (bm / 3) (cn / 3) (al % 3) (bm % 3) (cn % 3) (third al P pa) (third bm P pb) (third cn P pc) (mod-lt al (omega arith)) (mod-lt bm (omega arith)) (mod-lt cn (omega arith))

  pub place_lt : place P al bm cn < P * P * P * 27
  place_lt = of (number_lt P)

  first_of : 3 * (place P al bm cn / 27 / P / P) + place P al bm cn % 27 / 9 ≡ al
  first_of = ap₂ (λ x y. 3 * x + y) (of (first_atom P)) (of (first_component P)) ∙ div-add-mod al 3

  second_of : 3 * (place P al bm cn / 27 / P % P) + place P al bm cn % 27 % 9 / 3 ≡ bm
  second_of = ap₂ (λ x y. 3 * x + y) (of (second_atom P)) (of (second_component P)) ∙ div-add-mod bm 3

  third_of : 3 * (place P al bm cn / 27 % P) + place P al bm cn % 27 % 3 ≡ cn
  third_of = ap₂ (λ x y. 3 * x + y) (of (third_atom P)) (of (third_component P)) ∙ div-add-mod cn 3

  pub constants_at_lem : (l : List Float) (fo : ℕ) → cat (constants_in l fo P) (place P al bm cn) ≡ constant_at l fo P al bm cn
  unfolding constants_in constant_entry
  constants_at_lem l fo = ctable_at (P * P * P * 27) (place P al bm cn) _ place_lt ∙ rw (first_of, second_of, third_of)
