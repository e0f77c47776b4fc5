-- How long the print can be. Document 01 lets `key` take a W of at most 6,144, and so at most 3 atoms: 9 bands, and as many first bands.
-- A number below 1,000 takes at most 4 bytes with the byte behind it; the bits take 17 with the line feed.
use Rattle.std.specs.Prelude.{ℕ, ◌+◌, ◌*◌}

abbrev pub most_key_bands : ℕ
most_key_bands = 9

abbrev pub refused_room : ℕ
refused_room = 12

abbrev pub bands_room : ℕ
bands_room = 10

abbrev pub slot_room : ℕ
slot_room = 34

abbrev pub total_room : ℕ
total_room = 27

abbrev pub accepted_room : ℕ
accepted_room = bands_room + most_key_bands * (most_key_bands * (most_key_bands * slot_room)) + most_key_bands * total_room
