-- What `key` prints for the bytes of any file.
use Rattle.std.specs.Prelude.{ℕ, zero, suc, List, Float, replicate}
use Rattle.phonon.specs.Number.{f0}
use Rattle.phonon.specs.Sets.{slots, JoinedSet}
use Rattle.carton.specs.declared.heading.Heading.{Heading}
use Rattle.carton.specs.Most.{most_work}
use Rattle.carton.specs.Words.{words_of}
use Rattle.carton.specs.Heading.{heading_in}
use Rattle.carton.specs.Tables.{Columns, columns_of, set_in}
use Rattle.carton.specs.File.{file_refusal}
use Rattle.text.specs.Lines.{refused_line, set_text}

abbrev pub zeros : ℕ → List Float
zeros n = replicate n f0

-- a carton's set: strengths and totals start at 0.0, and so does the work buffer
unfoldable pub start_of : Columns → Heading → JoinedSet
start_of w h = set_in w h (zeros (slots h.measures)) (zeros h.measures.first) (zeros most_work)

-- the text of a file that is refused with n, or read
unfoldable pub file_text : ℕ → List ℕ → List ℕ
file_text zero s = set_text (start_of (columns_of (words_of s)) (heading_in (words_of s)))
file_text (suc n) s = refused_line (suc n)

-- the text of any file: 10, 11 and 12 come before the door
unfoldable pub answer_text : List ℕ → List ℕ
answer_text s = file_text (file_refusal s) s
