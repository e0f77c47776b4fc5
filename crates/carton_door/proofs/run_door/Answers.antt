-- Each slice lies between two places, which are in order and within the words; the check sees to that. The set is that of the carton.
use mathlib.Core.Path.{refl, ap, ◌∙◌}
use mir.Syntax.{w64}
use mir.ValLaws.{to_z-of_z}
use Rattle.phonon.specs.Doors.{joined_outcome}
use Rattle.phonon.proofs.SameSets.{tables_same, joined_same}
use borrow.Author.Rules.{rules}
use Rattle.carton.specs.Tables.{lists_of, set_in}
use Rattle.carton_door.proofs.run_door.Goals as goal

pub returns : goal.returns
unfolding set_in
returns c =
    let a = c.args in
    let set = set_in (lists_of a.columns.now) a.h.now a.strengths.now a.totals.now a.work.now in
    let tables = tables_same set.tables _ _ _ _ _ refl refl refl c.array_at-mesh.ensures c.array_at-matrix.ensures in
    c.joined_at_triplet.ensures ∙ ap joined_outcome (joined_same set _ _ _ tables c.array_at-triplet.ensures (to_z-of_z w64 _ (search rules)))
