-- Where all three numbers are in the domain, each sine and cosine comes from its parts; elsewhere each is worked alone.
use mathlib.Core.Path.{◌≡◌, refl, sym, ◌∙◌}
use mathlib.Core.List.{List, [], ◌∷◌}
use mathlib.Core.Bool.{Bool, true, ◌&&◌}
use lib.Ieee.{Float, of_bits, of_int}
use Rattle.phonon.specs.Number.{at}
use Rattle.phonon.specs.Trig.{in_domain}
use Rattle.phonon.proofs.Accepted.{and_both}
use Rattle.funcs.proofs.Series.{sine_fold, cosine_fold}
use Rattle.funcs.proofs.Quarters.{inside}
use Rattle.funcs.proofs.sin_cos_three.Goals as goal

-- the three tests
all_three : (x y z : Float) {a b c : Bool} → a ≡ in_domain x → b ≡ in_domain y → c ≡ in_domain z → ((a && b) && c) ≡ true → (in_domain x ≡ true) × (in_domain y ≡ true) × (in_domain z ≡ true)
all_three x y z p q r e =
    let t = and_both (in_domain x && in_domain y) (in_domain z) (rw (p, q, r) at e) in
    let u = and_both (in_domain x) (in_domain y) t.0 in
    (u.0, u.1, t.1)

-- the six series, one by one
six : {l : List Float} {a b c d e f : Float} → l ≡ a ∷ b ∷ c ∷ d ∷ e ∷ f ∷ [] → (at l 0 ≡ a) × (at l 1 ≡ b) × (at l 2 ≡ c) × (at l 3 ≡ d) × (at l 4 ≡ e) × (at l 5 ≡ f)
six h = rw h (refl, refl, refl, refl, refl, refl)

pub returns-then-in_domain : goal.returns-then-in_domain
unfolding of_bits of_int
returns-then-in_domain c =
    let p = six c.three_series-p.ensures in
    let h = all_three _ _ _ c.in_domain.ensures c.in_domain-2.ensures c.in_domain-3.ensures c.if-in_domain.true in
    let a = c.quartered-a.ensures in
    let b = c.quartered-b.ensures in
    let d = c.quartered-c.ensures in (
      inside _ _ _ _ _ _ h.0 a.0 a.1 (p.0 ∙ sym (sine_fold _)) (p.1 ∙ sym (cosine_fold _)) c.turned.ensures,
      inside _ _ _ _ _ _ h.1 b.0 b.1 (p.2 ∙ sym (sine_fold _)) (p.3 ∙ sym (cosine_fold _)) c.turned-then-in_domain.ensures,
      inside _ _ _ _ _ _ h.2 d.0 d.1 (p.4 ∙ sym (sine_fold _)) (p.5 ∙ sym (cosine_fold _)) c.turned-then-in_domain-2.ensures,
    )
