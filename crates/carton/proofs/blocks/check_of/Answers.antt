-- The words below 2^32 sum up to less than 2^64, and to the definition's sum.
use Rattle.std.proofs.Common.{ℕ, zero, suc, ◌≡◌, ◌+◌, ◌*◌, ◌%◌, ◌<◌, List, ◌∙◌, refl, ap, map, arith, rules, add-one, zero-add, get_or}
use Rattle.std.specs.List.{range_with_len, sum}
use Rattle.std.proofs.lemmas.Iterator.{YieldsList-from_range, YieldsList-from_map}
use Rattle.std.proofs.lemmas.Iterator.Adapters.{fits_from_length, at_most_from_yields_List}
use Rattle.std.proofs.lemmas.Iterator.Consumers.{sum_from_yields_List}
use Rattle.std.proofs.lemmas.List.FromFn.{sum_by-map-range_with_len_more}
use Rattle.phonon.specs.Number.{fold}
use Rattle.carton.specs.Blocks.{four_at, check_of}
use Rattle.carton.proofs.blocks.check_of.Goals as goal

-- a sum over a range is the definition's
summed : (f : ℕ → ℕ) (n : ℕ) → sum (map f (range_with_len 0 n)) ≡ fold n 0 (λ k t. t + f k)
unfolding fold
summed f zero = refl
summed f (suc n) = (rw add-one at (sum_by-map-range_with_len_more (λ (x : ℕ). x) f 0 n n (zero-add n))) ∙ ap (λ (t : ℕ). t + f n) (summed f n)

four_less : (s : List ℕ) (i : ℕ) → ((n : ℕ) → get_or s n 0 < 256) → four_at s i < 4294967296
unfolding four_at
four_less s i h = omega (arith, h i, h (i + 1), h (i + 2), h (i + 3))

pub sum-sum-requires-clause-fits : goal.sum-sum-requires-clause-fits
sum-sum-requires-clause-fits c =
    fits_from_length _ _ 127 _ (at_most_from_yields_List (YieldsList-from_range _ _ _ c.map.ensures.source refl) (omega arith)) c.map.ensures.closure (omega arith) (λ x r q k.
    let e : r ≡ four_at c.args.s.now (c.args.i + 4 * x) = search rules in
    (search rules, omega (arith, e, four_less c.args.s.now (c.args.i + 4 * x) (λ n. (c.type_inv.s n).fits))))

pub returns : goal.returns
unfolding check_of
returns c =
    let a = c.args in
    let word = λ (k : ℕ). four_at a.s.now (a.i + 4 * k) in
    let whole = sum_from_yields_List c.map.result _ c.sum-sum.ensures.ran (YieldsList-from_map _ word (YieldsList-from_range 0 127 127 c.map.ensures.source (omega arith)) c.map.ensures.closure (λ x r q k. search rules)) in
    ap (λ (x : ℕ). x % 4294967296) (whole ∙ summed word 127)
