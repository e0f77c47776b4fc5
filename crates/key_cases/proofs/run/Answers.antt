-- Each part that is lent lies within its array: F is at most 3. What a door leaves of it stands before the rest.
use Rattle.std.proofs.Common.{◌*◌, drop, sym, ap, ◌∙◌}
use Rattle.key_cases.specs.declared.Door.{Door}
use Rattle.key_cases.specs.Left.{run_of}
use Rattle.key_cases.proofs.LeftLaws.{strengths_left_lem, totals_left_lem, joined_left_lem}
use Rattle.key_cases.proofs.run.Goals as goal

pub returns-in-Triplet : goal.returns-in-Triplet
unfolding run_of
returns-in-Triplet c =
    let a = c.args in
    strengths_left_lem _ (drop (9 * a.c.now.first) a.strengths.now) a.totals.now c.run_triplet.ensures
    ∙ ap (λ (d : Door). run_of d a.c.now a.strengths.now a.totals.now a.work.now) (sym c.in-Triplet.is)

pub returns-in-List : goal.returns-in-List
unfolding run_of
returns-in-List c =
    let a = c.args in
    strengths_left_lem _ (drop (18 * a.c.now.first) a.strengths.now) a.totals.now c.run_list.ensures
    ∙ ap (λ (d : Door). run_of d a.c.now a.strengths.now a.totals.now a.work.now) (sym c.in-List.is)

pub returns-in-Totals : goal.returns-in-Totals
unfolding run_of
returns-in-Totals c =
    let a = c.args in
    totals_left_lem _ a.strengths.now (drop a.c.now.first a.totals.now) a.work.now c.run_totals.ensures
    ∙ ap (λ (d : Door). run_of d a.c.now a.strengths.now a.totals.now a.work.now) (sym c.in-Totals.is)

pub returns-in-Joined : goal.returns-in-Joined
unfolding run_of
returns-in-Joined c =
    let a = c.args in
    joined_left_lem _ (drop (9 * a.c.now.first) a.strengths.now) (drop a.c.now.first a.totals.now) c.run_joined.ensures
    ∙ ap (λ (d : Door). run_of d a.c.now a.strengths.now a.totals.now a.work.now) (sym c.in-Joined.is)
