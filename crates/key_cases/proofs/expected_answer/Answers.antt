-- By the four doors.
use Rattle.std.proofs.Common.{◌≡◌, ◌∙◌, ap, refl, arith, ne_eqb, ◌<◌, cond, Result, Ok, Err, eqb}
use Rattle.std.specs.Result.{result_and}
use Rattle.phonon.specs.declared.Refusal.{Refusal}
use Rattle.phonon.specs.Answers.{number, number_of}
use Rattle.phonon.proofs.Answers.{number_positive}
use Rattle.key_cases.specs.Cells.{number_at, joined_number}
use Rattle.key_cases.proofs.expected_answer.Goals as goal

-- of two answers in turn, the number
number_and : (a b : Result Unit Refusal) → number_of (result_and a b) ≡ cond (eqb (number_of a) 0) (number_of b) (number_of a)
number_and (Ok x) b = refl
number_and (Err r) b = let p : 0 < number r = number_positive r in rw (ne_eqb (number r) 0 (λ e. omega (arith, p, e))) refl

pub returns-in-Triplet : goal.returns-in-Triplet
unfolding number_at
returns-in-Triplet c = rw c.in-Triplet.is refl

pub returns-in-List : goal.returns-in-List
unfolding number_at
returns-in-List c = rw c.in-List.is refl

pub returns-in-Totals : goal.returns-in-Totals
unfolding number_at
returns-in-Totals c = rw c.in-Totals.is refl

pub returns-in-Joined : goal.returns-in-Joined
unfolding number_at joined_number
returns-in-Joined c = rw c.in-Joined.is (ap number_of c.and.ensures ∙ number_and c.args.c.now.strengths_answer c.args.c.now.totals_answer)
