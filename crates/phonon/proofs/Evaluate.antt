-- One name that opens every definition, for the theorems that compute closed cases.
use Prim.Native.Nat.{ℕ}
use lib.Ieee.{add, sub, mul, div, neg, lt, le, eq, of_int, to_unsigned, of_bits}
use Rattle.phonon.specs.Number.{fold, table_from, table, countdown}
use Rattle.phonon.specs.Common.{cadd, cmul, scale, is_zero, cat, pairs, ctable}
use Rattle.phonon.specs.Root.{root}
use Rattle.phonon.specs.Exp.{exp}
use Rattle.phonon.specs.Trig.{in_domain, sin_cos}
use Rattle.phonon.specs.Funcs.{excess, bose_einstein}
use Rattle.phonon.specs.Tests.{all_true, every_below, finite, sign_bit, all_finite, within, all_within, vector_range}
use Rattle.phonon.specs.RealToReciprocal.{address_over, q_entry, q_at, phase, cis, phase_factor, phase_factor_entry, phase_factors, pre_phase, anchor_vector, pre_factor_entry, pre_factors, term, pair_taken, pair_term, element, over3, plain_element, averaged_element, anchored, reciprocal_entry, reciprocal_from, reciprocal}
use Rattle.phonon.specs.ReciprocalToNormal.{inverse_root, inverse_roots, column_entry, column, phonon_at, add_unless_zero, contract_turn, contract_entry, contract, lane, dot, row_entry, rows, amplitude, squared, any_cut, strength_from, strength}
use Rattle.phonon.specs.Interaction.{orders, exchanged, reciprocals, sixth, value, phonons_at, strength_with, strength_at, slot_with, strengths_with, strengths, list_strengths}
use Rattle.phonon.specs.ImagSelfEnergy.{block, counted, contribution, slot_term, total, totals}
use Rattle.phonon.specs.Limits.{work_length, rows_of, sizes_of, entries_of}
use Rattle.phonon.specs.Refusal.{lower, lowest, measures_ok, table_lengths, buffer_lengths, bath_lengths, alone_lengths, points_ok, ranges_ok, indices_ok, tables_finite, bath_finite, alone_finite, mesh_ok, masses_ok, cutoff_ok, bath_ok, leg_phases_ok, pre_phases_ok, orders_ok, phases_ok, triplet_refusal, list_refusal, totals_refusal, joined_refusal}
use Rattle.phonon.specs.Doors.{cleared, triplet_leaves, triplet_outcome, list_leaves, list_outcome, totals_leaves, totals_outcome, joined_with, joined_leaves, joined_outcome}
use Rattle.phonon.specs.KeyCases.{cell_u, holding, worked, untouched}

unfoldable pub evaluate : ℕ
unfolding add sub mul div neg lt le eq of_int to_unsigned of_bits fold table_from table countdown cadd cmul scale is_zero cat pairs ctable root exp in_domain sin_cos excess bose_einstein all_true every_below finite sign_bit all_finite within all_within vector_range address_over q_entry q_at phase cis phase_factor phase_factor_entry phase_factors pre_phase anchor_vector pre_factor_entry pre_factors term pair_taken pair_term element over3 plain_element averaged_element anchored reciprocal_entry reciprocal_from reciprocal inverse_root inverse_roots column_entry column phonon_at add_unless_zero contract_turn contract_entry contract lane dot row_entry rows amplitude squared any_cut strength_from strength orders exchanged reciprocals sixth value phonons_at strength_with strength_at slot_with strengths_with strengths list_strengths block counted contribution slot_term total totals work_length rows_of sizes_of entries_of lower lowest measures_ok table_lengths buffer_lengths bath_lengths alone_lengths points_ok ranges_ok indices_ok tables_finite bath_finite alone_finite mesh_ok masses_ok cutoff_ok bath_ok leg_phases_ok pre_phases_ok orders_ok phases_ok triplet_refusal list_refusal totals_refusal joined_refusal cleared triplet_leaves triplet_outcome list_leaves list_outcome totals_leaves totals_outcome joined_with joined_leaves joined_outcome cell_u holding worked untouched
evaluate = 0
