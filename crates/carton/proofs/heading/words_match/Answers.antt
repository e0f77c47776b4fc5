-- Each test in turn; the tables stand in order, so the slices lie within the words.
use Rattle.std.proofs.Common.{arith, length, refl, eq-eqb, ne_eqb}
use Rattle.std.proofs.Math.Bool.{and_assoc}
use Rattle.carton.specs.Heading.{words_match}
use Rattle.carton.specs.Fitted.{Placed}
use Rattle.carton.proofs.MeasureLaws.{small_sizes, placed, end_most, filled_is}
use Rattle.carton.proofs.HeadingLaws.{rest}
use Rattle.carton.proofs.heading.words_match.Goals as goal
use Rattle.carton.proofs.heading.words_match.Goals.{Else-words-div_ceil}

-- the tables, from where they are lent
tables : (c : Else-words-div_ceil) → Placed c.args.p (length c.args.words.now)
tables c = placed _ _ _ _ c.requires.2 (omega (arith, c.if-words-div_ceil.false, c.div_ceil.ensures))

pub overflow_mul-div_ceil : goal.overflow_mul-div_ceil
overflow_mul-div_ceil c = record { fits = omega (arith, end_most _ _ _ c.requires.1 c.requires.2, c.div_ceil.ensures) }

pub returns-then-words-div_ceil : goal.returns-then-words-div_ceil
unfolding words_match
returns-then-words-div_ceil c = rw (filled_is _ _ c.div_ceil.ensures, ne_eqb _ _ c.if-words-div_ceil.true) refl

pub work_length-requires : goal.work_length-requires
work_length-requires c = let h = small_sizes _ c.requires.1 in (h.atoms, h.supercell)

pub offset_bounds-words-p : goal.offset_bounds-words-p
offset_bounds-words-p c = let t = (tables (goal.at.offset_bounds-words-p c).Else-words-div_ceil).shortest in record { fits = omega arith }

pub slice_bounds-all_below-count : goal.slice_bounds-all_below-count
slice_bounds-all_below-count c = omega (arith, tables (goal.at.slice_bounds-all_below-count c).Else-words-div_ceil)

pub slice_bounds-all_below-start : goal.slice_bounds-all_below-start
slice_bounds-all_below-start c = omega (arith, tables (goal.at.slice_bounds-all_below-start c).Else-words-div_ceil)

pub slice_bounds-all_below-end : goal.slice_bounds-all_below-end
slice_bounds-all_below-end c = omega (arith, tables (goal.at.slice_bounds-all_below-end c).Else-words-div_ceil)

pub returns : goal.returns
unfolding words_match
returns c =
    let a = c.args in
    rw (
      filled_is _ _ c.div_ceil.ensures,
      eq-eqb _ _ c.if-words-div_ceil.false,
      c.work_length.ensures,
      c.all_below.ensures,
      c.all_below-2.ensures,
      rest a.words.now a.p.end,
      and_assoc,
    )
    refl
