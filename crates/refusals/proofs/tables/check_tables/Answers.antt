-- The first of the tests that fails: each line told one of them.
use mathlib.Core.Path.{refl, sym, ◌∙◌}
use borrow.Author.Tests.{eqb-true}
use Rattle.phonon.specs.Limits.{sizes_of}
use Rattle.phonon.specs.Refusal.{table_lengths}
use Rattle.phonon.proofs.Lowest.{pass}
use Rattle.phonon.proofs.Accepted.{holds}
use Rattle.checks.proofs.AnswerLaws.{passed, walked, turned, of_one}
use Rattle.refusals.proofs.tables.check_tables.Goals as goal

pub returns-in_err-require : goal.returns-in_err-require
returns-in_err-require c =
    turned _ _ _ refl c.lengths_ok.ensures c.require.ensures c.in_err-require.was c.from_residual.ensures.1
    ∙ sym (pass _ _ c.requires)

pub indices_ok-requires : goal.indices_ok-requires
unfolding table_lengths sizes_of
indices_ok-requires c = (c.requires, eqb-true _ _ (holds _ (sym c.lengths_ok.ensures ∙ passed _ _ c.require.ensures c.in_ok-require.was)).1.1.0)

pub returns-in_err-require-2 : goal.returns-in_err-require-2
returns-in_err-require-2 c =
    turned _ _ _ refl c.indices_ok.ensures c.require-2.ensures c.in_err-require-2.was c.from_residual-in_err-require-2.ensures.1
    ∙ sym (pass _ _ c.requires ∙ walked _ _ c.lengths_ok.ensures c.require.ensures c.in_ok-require.was)

pub returns-in_err-require-3 : goal.returns-in_err-require-3
returns-in_err-require-3 c =
    turned _ _ _ refl c.tables_finite.ensures c.require-3.ensures c.in_err-require-3.was c.from_residual-in_err-require-3.ensures.1
    ∙ sym (pass _ _ c.requires
    ∙ walked _ _ c.lengths_ok.ensures c.require.ensures c.in_ok-require.was
    ∙ walked _ _ c.indices_ok.ensures c.require-2.ensures c.in_ok-require-2.was)

pub returns-in_err-require-4 : goal.returns-in_err-require-4
returns-in_err-require-4 c =
    turned _ _ _ refl c.mesh_ok.ensures c.require-4.ensures c.in_err-require-4.was c.from_residual-in_err-require-4.ensures.1
    ∙ sym (pass _ _ c.requires
    ∙ walked _ _ c.lengths_ok.ensures c.require.ensures c.in_ok-require.was
    ∙ walked _ _ c.indices_ok.ensures c.require-2.ensures c.in_ok-require-2.was
    ∙ walked _ _ c.tables_finite.ensures c.require-3.ensures c.in_ok-require-3.was)

pub returns-in_err-require-5 : goal.returns-in_err-require-5
returns-in_err-require-5 c =
    turned _ _ _ refl c.all_positive.ensures c.require-5.ensures c.in_err-require-5.was c.from_residual-in_err-require-5.ensures.1
    ∙ sym (pass _ _ c.requires
    ∙ walked _ _ c.lengths_ok.ensures c.require.ensures c.in_ok-require.was
    ∙ walked _ _ c.indices_ok.ensures c.require-2.ensures c.in_ok-require-2.was
    ∙ walked _ _ c.tables_finite.ensures c.require-3.ensures c.in_ok-require-3.was
    ∙ walked _ _ c.mesh_ok.ensures c.require-4.ensures c.in_ok-require-4.was)

pub returns : goal.returns
returns c =
    of_one _ c.cutoff_ok.ensures c.require-6.ensures
    ∙ sym (pass _ _ c.requires
    ∙ walked _ _ c.lengths_ok.ensures c.require.ensures c.in_ok-require.was
    ∙ walked _ _ c.indices_ok.ensures c.require-2.ensures c.in_ok-require-2.was
    ∙ walked _ _ c.tables_finite.ensures c.require-3.ensures c.in_ok-require-3.was
    ∙ walked _ _ c.mesh_ok.ensures c.require-4.ensures c.in_ok-require-4.was
    ∙ walked _ _ c.all_positive.ensures c.require-5.ensures c.in_ok-require-5.was)
