-- The sizes are bounded, so no sum wraps.
use mathlib.Core.Path.{refl}
use Rattle.carton.specs.Heading.{places_with}
use Rattle.carton.proofs.MeasureLaws.{small_sizes, Sized, sized}
use native.Mathlib.Omega.{arith}
use Rattle.carton.proofs.heading.places_of.Goals as goal
use Rattle.carton.proofs.heading.places_of.Goals.{After-sizes_of-z}

bounded : (c : After-sizes_of-z) → Sized c.args.m c.sizes_of-z.result
bounded c = sized c.args.m c.args.form c.sizes_of-z.result c.requires c.sizes_of-z.ensures

pub sizes_of-z-requires : goal.sizes_of-z-requires
sizes_of-z-requires c = small_sizes _ c.requires

pub overflow_add-vectors : goal.overflow_add-vectors
overflow_add-vectors c = omega (arith, bounded (goal.at.overflow_add-vectors c).After-sizes_of-z)

pub overflow_add-multiplicity : goal.overflow_add-multiplicity
overflow_add-multiplicity c = omega (arith, bounded (goal.at.overflow_add-multiplicity c).After-sizes_of-z)

pub overflow_add-p2s : goal.overflow_add-p2s
overflow_add-p2s c = omega (arith, bounded (goal.at.overflow_add-p2s c).After-sizes_of-z)

pub overflow_add-s2p : goal.overflow_add-s2p
overflow_add-s2p c = omega (arith, bounded (goal.at.overflow_add-s2p c).After-sizes_of-z)

pub overflow_add-masses : goal.overflow_add-masses
overflow_add-masses c = omega (arith, bounded (goal.at.overflow_add-masses c).After-sizes_of-z)

pub overflow_add-bands : goal.overflow_add-bands
overflow_add-bands c = omega (arith, bounded (goal.at.overflow_add-bands c).After-sizes_of-z)

pub overflow_add-frequencies : goal.overflow_add-frequencies
overflow_add-frequencies c = omega (arith, bounded (goal.at.overflow_add-frequencies c).After-sizes_of-z)

pub overflow_add-eigenvectors : goal.overflow_add-eigenvectors
overflow_add-eigenvectors c = omega (arith, bounded (goal.at.overflow_add-eigenvectors c).After-sizes_of-z)

pub overflow_add-shortest : goal.overflow_add-shortest
overflow_add-shortest c = omega (arith, bounded (goal.at.overflow_add-shortest c).After-sizes_of-z)

pub overflow_add-nonzero : goal.overflow_add-nonzero
overflow_add-nonzero c = omega (arith, bounded (goal.at.overflow_add-nonzero c).After-sizes_of-z)

pub overflow_add-flags : goal.overflow_add-flags
overflow_add-flags c = omega (arith, bounded (goal.at.overflow_add-flags c).After-sizes_of-z)

pub overflow_add-constants : goal.overflow_add-constants
overflow_add-constants c = omega (arith, bounded (goal.at.overflow_add-constants c).After-sizes_of-z)

pub overflow_add-first : goal.overflow_add-first
overflow_add-first c = omega (arith, bounded (goal.at.overflow_add-first c).After-sizes_of-z)

pub overflow_add-second : goal.overflow_add-second
overflow_add-second c = omega (arith, bounded (goal.at.overflow_add-second c).After-sizes_of-z)

pub overflow_add-result : goal.overflow_add-result
overflow_add-result c = omega (arith, bounded (goal.at.overflow_add-result c).After-sizes_of-z)

pub returns : goal.returns
unfolding places_with
returns c = rw c.sizes_of-z.ensures refl
