-- Number by number: bits that differ are of numbers that differ.
use Rattle.std.proofs.Common.{◌≡◌, ℕ, ◌∙◌, ap, sym, rules, tests}
use lib.Ieee.{Float}
use Rattle.std.proofs.lemmas.Iterator.{YieldsList-from_slice, YieldsList-from_zip, same_from_all}
use Rattle.phonon.specs.Number.{bits}
use Rattle.key_cases.proofs.same.Goals as goal

same_bits : (x y : Float) (m n : ℕ) → x ≡ bits m → y ≡ bits n → m ≡ n → x ≡ y
same_bits x y m n p q e = p ∙ ap bits e ∙ sym q

pub returns-then-found-expected : goal.returns-then-found-expected
returns-then-found-expected c =
    same_from_all c.all.new.self _ _ _ _ c.all.ensures.ran (YieldsList-from_zip (YieldsList-from_slice c.args.found.now cc) (YieldsList-from_slice c.args.expected.now cc)) (search rules)
    (λ x q k. (search rules, search (rules, tests, same_bits)))
    (λ x q k. search (rules, tests))
