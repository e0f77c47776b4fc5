-- Document 01's numbers of the answers.
use Rattle.std.specs.Prelude.{ℕ, Result, Ok, Err}
use Rattle.phonon.specs.declared.Refusal.{Refusal}
use Rattle.phonon.specs.declared.Refusal.TheVariants.{Measure, Length, Index, NotFinite, Mesh, Mass, Cutoff, Bath, Phase, File, Block, Heading, Width}

abbrev pub number : Refusal → ℕ
number Measure = 1
number Length = 2
number Index = 3
number NotFinite = 4
number Mesh = 5
number Mass = 6
number Cutoff = 7
number Bath = 8
number Phase = 9
number File = 10
number Block = 11
number Heading = 12
number Width = 13

-- of an answer: 0 where the set is worked through. No two answers have one number (`same_answer` in proofs/Answers.antt).
abbrev pub number_of : Result Unit Refusal → ℕ
number_of (Ok x) = 0
number_of (Err r) = number r
