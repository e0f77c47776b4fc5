-- What the code asks of the measures before it works out the places.
use Rattle.std.specs.Prelude.{Bool, ◌&&◌, leb}
use Rattle.phonon.specs.declared.Measures.{Measures}
use Rattle.carton.specs.Most.{most_words}

-- no measure is above the words of 96 blocks
unfoldable pub small_ok : Measures → Bool
small_ok m =
    (((leb m.atoms most_words && leb m.supercell most_words) && leb m.first most_words) && leb m.grid most_words) && leb m.vectors most_words
