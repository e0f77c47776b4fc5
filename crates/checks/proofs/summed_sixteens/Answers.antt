-- The sixteens whose sums are finite are the first entries.
use mathlib.Core.Path.{sym, ◌∙◌}
use Rattle.checks.proofs.Laws.{rows_passed}
use Rattle.checks.proofs.summed_sixteens.Goals as goal

pub returns-then-is_finite : goal.returns-then-is_finite
returns-then-is_finite c =
    rows_passed c.args.s.now _ _ _ _ c.as_chunks.ensures.front c.as_chunks.ensures.front_len c.column_sums-sums.ensures
    c.as_chunks-2.ensures.front c.as_chunks-2.ensures.front_len c.column_sums-last.ensures
    (sym c.is_finite.ensures ∙ c.if-is_finite.true)
