-- The real parts and then the imaginary parts are written.
use mathlib.Core.Path.{ap}
use Prim.Native.Nat.{◌+◌}
use Rattle.phonon.specs.Number.{at}
use Rattle.planes.proofs.SplitLaws.{complex_eq, split_ext}
use Rattle.reciprocal_to_normal.proofs.PartLaws.{part_wrote, two_parts}
use native.Mathlib.Omega.{arith}
use Rattle.reciprocal_to_normal.proofs.columns.Sums.put.Goals as goal

pub returns : goal.returns
returns g c =
    let a = c.args in
    let re = c.copy_from_slice.ensures in
    let im = c.copy_from_slice-2.ensures in
    let w = part_wrote a.w.now c.copy_from_slice.new.self a.to g.row.N re.len (omega arith) in
    let v = part_wrote _ c.copy_from_slice-2.new.self (a.to + a.apart) g.row.N im.len (omega (arith, w.size)) in
    split_ext (two_parts c.requires.0 w v) (λ k p. complex_eq (ap (λ l. at l k) re.after) (ap (λ l. at l k) im.after))
