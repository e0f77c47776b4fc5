-- Each door's copies, one behind the other; a refused call writes nothing.
use Rattle.std.proofs.Common.{◌*◌, List, refl, ap, ◌∙◌, arith}
use lib.Ieee.{Float}
use lib.Seq.{paste, length-take-le}
use Rattle.key_cases.specs.declared.Door.TheVariants.{Triplet, Totals, Joined}
use Rattle.key_cases.specs.declared.Door.TheVariants as Doors
use Rattle.key_cases.specs.Cells.{number_at}
use Rattle.key_cases.specs.Left.{accepted_of}
use Rattle.key_cases.proofs.LeftLaws.{refused_is, accepted_is, cleared_by, refused_left, accepted_left, left_same}
use Rattle.key_cases.proofs.expect.Goals as goal

pub returns-then-is_err : goal.returns-then-is_err
returns-then-is_err c =
    let a = c.args in
    refused_left (number_at a.door a.c.now) _ a.door a.c.now a.strengths.now a.totals.now a.work.now c.expected_answer.ensures (refused_is _ _ c.is_err.ensures.value c.if-is_err.true)

pub returns-in-Triplet : goal.returns-in-Triplet
unfolding accepted_of
returns-in-Triplet c =
    let a = c.args in
    accepted_left (number_at a.door a.c.now) _ a.door a.c.now a.strengths.now a.totals.now a.work.now c.expected_answer.ensures Triplet (accepted_is _ _ c.is_err.ensures.value c.if-is_err.false) c.in-Triplet.is
    (left_same c.copy.ensures refl (cleared_by a.work.now _ _ (length-take-le 203 a.work.now (omega arith)) c.fill.ensures.after))

pub returns-in-List : goal.returns-in-List
unfolding accepted_of
returns-in-List c =
    let a = c.args in
    accepted_left (number_at a.door a.c.now) _ a.door a.c.now a.strengths.now a.totals.now a.work.now c.expected_answer.ensures Doors.List (accepted_is _ _ c.is_err.ensures.value c.if-is_err.false) c.in-List.is
    (left_same (c.copy-in-List-2.ensures ∙ ap (λ (l : List Float). paste l (9 * a.c.now.first) a.c.now.strengths (9 * a.c.now.first)) c.copy-in-List.ensures) refl (cleared_by a.work.now _ _ (length-take-le 203 a.work.now (omega arith)) c.fill-in-List.ensures.after))

pub returns-in-Totals : goal.returns-in-Totals
unfolding accepted_of
returns-in-Totals c =
    let a = c.args in
    accepted_left (number_at a.door a.c.now) _ a.door a.c.now a.strengths.now a.totals.now a.work.now c.expected_answer.ensures Totals (accepted_is _ _ c.is_err.ensures.value c.if-is_err.false) c.in-Totals.is
    (left_same refl c.copy-in-Totals.ensures refl)

pub returns-in-Joined : goal.returns-in-Joined
unfolding accepted_of
returns-in-Joined c =
    let a = c.args in
    accepted_left (number_at a.door a.c.now) _ a.door a.c.now a.strengths.now a.totals.now a.work.now c.expected_answer.ensures Joined (accepted_is _ _ c.is_err.ensures.value c.if-is_err.false) c.in-Joined.is
    (left_same c.copy-in-Joined.ensures c.copy-in-Joined-2.ensures (cleared_by a.work.now _ _ (length-take-le 203 a.work.now (omega arith)) c.fill-in-Joined.ensures.after))
