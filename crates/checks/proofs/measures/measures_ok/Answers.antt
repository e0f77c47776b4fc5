-- Too many atoms fail the first of the five tests; otherwise each range told one of them.
use borrow.Author.Tests.{lt-leb}
use lib.Dec.{leb}
use mathlib.Core.Bool.{false, and-false}
use mathlib.Core.Path.{◌≡◌, refl}
use Rattle.phonon.specs.Tests.{all_true, all_true_after}
use Rattle.phonon.specs.Limits.{atoms_ok}
use Rattle.phonon.specs.Refusal.{measures_ok}
use Rattle.checks.proofs.RangeLaws.{held}
use Rattle.checks.proofs.measures.measures_ok.Goals as goal

pub returns-then-m-gt-MOST_ATOMS : goal.returns-then-m-gt-MOST_ATOMS
unfolding measures_ok all_true all_true_after
returns-then-m-gt-MOST_ATOMS c =
    let e : atoms_ok c.args.m.atoms ≡ false = rw (lt-leb _ _ c.if-m-gt-MOST_ATOMS.true) (and-false (leb 1 c.args.m.atoms)) in
    rw e refl

pub returns : goal.returns
unfolding measures_ok all_true all_true_after
returns c =
    rw (
      held _ c.new.ensures.start c.new.ensures.end c.new.ensures.exhausted c.contains.ensures.value,
      held _ c.new-2.ensures.start c.new-2.ensures.end c.new-2.ensures.exhausted c.contains-2.ensures.value,
      held _ c.new-3.ensures.start c.new-3.ensures.end c.new-3.ensures.exhausted c.contains-3.ensures.value,
      held _ c.new-4.ensures.start c.new-4.ensures.end c.new-4.ensures.exhausted c.contains-4.ensures.value,
      held _ c.new-5.ensures.start c.new-5.ensures.end c.new-5.ensures.exhausted c.contains-5.ensures.value,
    )
    refl
