-- Document 01's print: `key` on cell U with every slot flagged but (0, 1, 2), from the definitions alone.
use Prim.Native.Nat.{ℕ}
use mathlib.Core.Bool.{true}
use mathlib.Core.Path.{◌≡◌, refl}
use mathlib.Core.List.{List}
use lib.Ieee.{to_bits}
use lib.IntN.{pos}
use lib.ListN.{replicate}
use Rattle.phonon.specs.declared.Anchoring.TheVariants.{Plain}
use Rattle.phonon.specs.declared.Symmetry.TheVariants.{Off}
use Rattle.phonon.specs.Number.{f0, fold, table, table_from}
use Rattle.phonon.specs.Tests.{every_below}
use Rattle.phonon.specs.Limits.{rows_of, sizes_of, work_length}
use Rattle.phonon.specs.KeyCases.{cell_u, minus1, half, f16, all3}
use Rattle.phonon.proofs.Evaluate.{evaluate}
use Rattle.carton.specs.Blocks.{four_at, eight_at, size_ok, check_of, block_ok, blocks_ok}
use Rattle.carton.specs.Words.{word_at, words_of, int_of, byte_of, floats_of, ints_of, bytes_of, all_below}
use Rattle.carton.specs.Heading.{form_of, anchoring_of, symmetry_of, places_with, heading_in, measures_natural, words_match, heading_ok}
use Rattle.carton.specs.Tables.{columns_of, set_in}
use Rattle.key.proofs.Seal.{eights, seal, words_u, file_u, flags_u}
use Rattle.carton.proofs.FileLaws.{file_read}
use Rattle.text.specs.Lines.{ascii, lines_below, decimal_of, number_then, bits_of, bits_line, bands_line, slot_line, total_line, slot_lines, column_lines, first_band_lines, slots_text, totals_text, accepted_text, answered_text, set_text}
use Rattle.answer.specs.Text.{start_of, file_text, answer_text}

-- ---- the file is read

size_u : size_ok (file_u flags_u) ≡ true
unfolding words_u seal eights size_ok check_of four_at fold
size_u = refl

blocks_u : blocks_ok (file_u flags_u) ≡ true
unfolding words_u seal eights blocks_ok block_ok check_of four_at fold every_below
blocks_u = refl

words_u_lem : words_of (file_u flags_u) ≡ words_u flags_u
unfolding words_u seal eights words_of word_at eight_at four_at check_of fold table table_from
words_u_lem = refl

heading_u : heading_ok (words_u flags_u) ≡ true
unfolding words_u heading_ok words_match measures_natural places_with form_of sizes_of rows_of work_length all_below every_below
heading_u = refl

-- the file's set is that of the key cases' cell U with these flags and the same buffers
pub cell_u_lem : set_in (columns_of (words_u flags_u)) (heading_in (words_u flags_u)) (replicate 27 minus1) (replicate 3 minus1) (replicate 205 minus1) ≡ cell_u half Plain Off 0 1 f16 (pos 1) all3 flags_u f0
unfolding words_u heading_in places_with form_of anchoring_of symmetry_of sizes_of rows_of work_length floats_of ints_of bytes_of int_of byte_of table table_from set_in cell_u
cell_u_lem = refl

-- ---- its text

abbrev print_u : List ℕ
print_u = ascii "bands 3\nslot 0 1 2 3fe0000000000000\ntotal 0 4008000000000000\ntotal 1 0000000000000000\ntotal 2 0000000000000000\n"

text_u : set_text (start_of (columns_of (words_u flags_u)) (heading_in (words_u flags_u))) ≡ print_u
unfolding evaluate words_u heading_in places_with form_of anchoring_of symmetry_of floats_of ints_of bytes_of int_of byte_of set_in start_of answered_text set_text lines_below decimal_of number_then bits_of bits_line bands_line slot_line total_line slot_lines column_lines first_band_lines slots_text totals_text accepted_text to_bits
text_u = refl

pub key_u : answer_text (file_u flags_u) ≡ print_u
unfolding answer_text file_text
key_u = rw (file_read (file_u flags_u) size_u blocks_u (rw words_u_lem heading_u), words_u_lem) text_u
