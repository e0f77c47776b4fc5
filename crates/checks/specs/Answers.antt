-- What the check of the measures answers.
use Rattle.std.specs.Prelude.{Bool, true, false, Result, Ok, Err}
use Rattle.phonon.specs.declared.Measures.{Measures}
use Rattle.phonon.specs.declared.Form.{Form}
use Rattle.phonon.specs.declared.Sizes.{Sizes}
use Rattle.phonon.specs.declared.Refusal.{Refusal}
use Rattle.phonon.specs.declared.Refusal.TheVariants.{Measure}
use Rattle.phonon.specs.Limits.{sizes_of}
use Rattle.phonon.specs.Refusal.{measures_ok}

abbrev pub with_sizes : Bool → Sizes → Result Sizes Refusal
with_sizes true z = Ok z
with_sizes false z = Err Measure

-- the sizes that the measures fix, where they are within their limits
unfoldable pub measured_of : Measures → Form → Result Sizes Refusal
measured_of m form = with_sizes (measures_ok m) (sizes_of m form)
