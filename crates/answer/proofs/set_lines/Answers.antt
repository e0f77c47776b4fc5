-- The door tells what is left; an accepted set has at most three atoms, so that its lines have room.
use Rattle.std.proofs.Common.{ℕ, ◌≡◌, ◌∙◌, List, length, ap, arith, rules, Result, Err}
use Rattle.phonon.specs.Answers.{number_of}
use Rattle.phonon.specs.declared.Refusal.{Refusal}
use Rattle.carton.specs.Tables.{lists_of}
use Rattle.answer.specs.Printed.{printed}
use Rattle.answer.proofs.PlaceLaws.{zeros_length}
use Rattle.answer.proofs.AcceptedLaws.{three_atoms, few}
use Rattle.answer.proofs.TextLaws.{alone, text_accepted, text_refused}
use Rattle.answer.proofs.set_lines.Goals as goal

pub returns-in_err-run_door : goal.returns-in_err-run_door
returns-in_err-run_door c =
    let a = c.args in
    let q = c.requires in
    let x = c.in_err-run_door.field-0.0 in
    let e : ◌≡◌ {A = Result Unit Refusal} c.from_residual.result (Err x) = search rules in
    ap (λ r. printed r a.text.now) e ∙ text_refused (lists_of a.columns.now) a.h.now _ _ _ q.1 q.2 q.3 _ c.run_door.ensures x (ap number_of c.in_err-run_door.was)

pub overflow_mul-slots : goal.overflow_mul-slots
overflow_mul-slots c = record { fits = omega (arith, three_atoms _ _ c.requires.0.work) }

pub put_accepted-requires : goal.put_accepted-requires
put_accepted-requires c =
    let a = c.args in
    let q = c.requires in
    let r = c.run_door in
    let f = few (lists_of a.columns.now) a.h.now _ _ _ _ _ q.0 r.ensures (ap number_of c.in_ok-run_door.was) in
    (omega arith, (f.first, f.bands, r.auto.totals ∙ zeros_length a.h.now.measures.first a.totals.now q.2, omega (arith, ap {A = List ℕ} {B = ℕ} length q.4)))

pub returns : goal.returns
returns c =
    let a = c.args in
    let q = c.requires in
    alone _ _ _ c.put_accepted.ensures q.4
    ∙ text_accepted (lists_of a.columns.now) a.h.now _ _ _ q.1 q.2 q.3 _ c.run_door.ensures (ap number_of c.in_ok-run_door.was)
