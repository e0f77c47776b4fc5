-- An answer is known by its number.
use Rattle.std.proofs.Common.{◌≡◌, ◌<◌, refl, ap, sym, ◌∙◌, arith, List, [], ◌∷◌, get_or, Result, Ok, Err}
use Rattle.phonon.specs.declared.Refusal.{Refusal}
use Rattle.phonon.specs.declared.Refusal.TheVariants.{Measure, Length, Index, NotFinite, Mesh, Mass, Cutoff, Bath, Phase, File, Block, Heading, Width}
use Rattle.phonon.specs.Answers.{number, number_of}

answers : List (Result Unit Refusal)
answers =
    Ok tt
    ∷ Err Measure
    ∷ Err Length
    ∷ Err Index
    ∷ Err NotFinite
    ∷ Err Mesh
    ∷ Err Mass
    ∷ Err Cutoff
    ∷ Err Bath
    ∷ Err Phase
    ∷ Err File
    ∷ Err Block
    ∷ Err Heading
    ∷ Err Width
    ∷ []

-- the answer of that number
back : (a : Result Unit Refusal) → get_or answers (number_of a) (Ok tt) ≡ a
unfolding answers
back (Ok x) = refl
back (Err Measure) = refl
back (Err Length) = refl
back (Err Index) = refl
back (Err NotFinite) = refl
back (Err Mesh) = refl
back (Err Mass) = refl
back (Err Cutoff) = refl
back (Err Bath) = refl
back (Err Phase) = refl
back (Err File) = refl
back (Err Block) = refl
back (Err Heading) = refl
back (Err Width) = refl

-- no two answers have one number
pub same_answer : (a b : Result Unit Refusal) → number_of a ≡ number_of b → a ≡ b
same_answer a b e = sym (back a) ∙ ap (λ n. get_or answers n (Ok tt)) e ∙ back b

-- a refusal has a number
pub number_positive : (r : Refusal) → 0 < number r
number_positive Measure = omega arith
number_positive Length = omega arith
number_positive Index = omega arith
number_positive NotFinite = omega arith
number_positive Mesh = omega arith
number_positive Mass = omega arith
number_positive Cutoff = omega arith
number_positive Bath = omega arith
number_positive Phase = omega arith
number_positive File = omega arith
number_positive Block = omega arith
number_positive Heading = omega arith
number_positive Width = omega arith

-- only what is worked through has the number 0
pub worked_through : (a : Result Unit Refusal) → number_of a ≡ 0 → a ≡ Ok tt
worked_through a e = same_answer a (Ok tt) e
