-- What the code asks of the measures before it works out sizes and places from them: with none above 65,536 no product in a size wraps.
use Rattle.std.specs.Prelude.{ℕ, ◌≤◌}
use Rattle.phonon.specs.declared.Measures.{Measures}

-- no measure is above n
pub record Small (n : ℕ) (m : Measures) : Type 0 where
  pub atoms : m.atoms ≤ n
  pub supercell : m.supercell ≤ n
  pub first : m.first ≤ n
  pub grid : m.grid ≤ n
  pub vectors : m.vectors ≤ n
