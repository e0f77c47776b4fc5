-- The lines that are made, or the line of a refusal.
use Rattle.std.specs.Prelude.{ℕ, List, Result, Ok, Err}
use Rattle.arrayvec.specs.ArrayVec.{ArrayVec}
use Rattle.phonon.specs.Answers.{number}
use Rattle.phonon.specs.declared.Refusal.{Refusal}
use Rattle.text.specs.Lines.{refused_line}

abbrev pub printed : Result Unit Refusal → ArrayVec ℕ → List ℕ
printed (Ok x) lines = lines.items
printed (Err r) lines = refused_line (number r)
