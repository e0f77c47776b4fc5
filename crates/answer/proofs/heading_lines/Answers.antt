-- The columns are the words' own; the prefixes of the arrays have the lengths of the words, the slots and the first bands.
use Rattle.std.proofs.Common.{refl, sym, ◌∙◌, arith}
use lib.Seq.{length-take-le}
use Rattle.carton.specs.Most.{most_words}
use Rattle.carton.specs.Words.{floats_of, ints_of, bytes_of}
use Rattle.answer.proofs.PlaceLaws.{fitted_same, lent_back, lent_length, zeros_before, slot_count, few_slots, repeated}
use Rattle.answer.proofs.TextLaws.{columns_same}
use Rattle.answer.proofs.heading_lines.Goals as goal

pub invariant_of-columns : goal.invariant_of-columns
invariant_of-columns c =
    let long = lent_length _ _ _ _ c.read_column.ensures in
    record { ints_alike = lent_length _ _ _ _ c.read_column-2.ensures ∙ sym long; bytes_alike = lent_length _ _ _ _ c.read_column-3.ensures ∙ sym long }

pub slice_bounds-set_lines-end : goal.slice_bounds-set_lines-end
slice_bounds-set_lines-end c = sym (length-take-le _ _ (omega (arith, few_slots _ _ c.requires.0, c.repeat-strengths.ensures.items.long)))

pub slice_bounds-set_lines-end-2 : goal.slice_bounds-set_lines-end-2
slice_bounds-set_lines-end-2 c = sym (length-take-le _ _ (omega (arith, c.requires.0.first, c.repeat-totals.ensures.items.long)))

pub set_lines-requires : goal.set_lines-requires
set_lines-requires c =
    let f = c.requires.0 in
    let slots = slot_count _ _ f in (
      fitted_same _ _ _ (lent_length _ _ _ _ c.read_column.ensures) f,
      zeros_before _ most_words _ _ (repeated _ _ c.repeat-strengths.ensures.items) slots (omega (arith, slots, few_slots _ _ f)),
      zeros_before _ most_words _ _ (repeated _ _ c.repeat-totals.ensures.items) refl f.first,
      repeated _ _ c.repeat-work.ensures.items,
      c.requires.1,
    )

pub returns : goal.returns
unfolding floats_of ints_of bytes_of
returns c =
    c.set_lines.ensures
    ∙ columns_same c.args.h.now c.args.words.now _ _ _ (lent_back _ _ _ _ c.read_column.ensures) (lent_back _ _ _ _ c.read_column-2.ensures) (lent_back _ _ _ _ c.read_column-3.ensures)
