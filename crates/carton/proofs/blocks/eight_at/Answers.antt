-- Both sum up the bytes by their worth.
use Rattle.std.proofs.Common.{ℕ, ◌≡◌, ◌+◌, ◌<◌, ◌∙◌, List, get_or, ap, arith}
use Rattle.std.specs.List.{between}
use Rattle.std.proofs.lemmas.List.Edits.{get_or-between}
use Rattle.carton.specs.Blocks.{four_at, eight_at}
use Rattle.carton.proofs.blocks.eight_at.Goals as goal

byte : (s l : List ℕ) (i k j : ℕ) → l ≡ between i (i + 8) s → i + k ≡ j → k < 8 → get_or l k 0 ≡ get_or s j 0
byte s l i k j e q h =
    ap (λ (t : List ℕ). get_or t k 0) e ∙ get_or-between s i (i + 8) k 0 (omega arith) ∙ ap (λ (n : ℕ). get_or s n 0) q

pub returns : goal.returns
unfolding four_at eight_at
returns c =
    let s = c.args.s.now in
    let i = c.args.i in
    let whole = rw c.unwrap.ensures at c.try_from.ensures.1 in
    let at = λ (k j : ℕ) (q : i + k ≡ j) (h : k < 8). byte s c.unwrap.result i k j whole.same q h in
    omega (
      arith,
      c.from_le_bytes.ensures,
      at 0 i (omega arith) (omega arith),
      at 1 (i + 1) (omega arith) (omega arith),
      at 2 (i + 2) (omega arith) (omega arith),
      at 3 (i + 3) (omega arith) (omega arith),
      at 4 (i + 4) (omega arith) (omega arith),
      at 5 (i + 4 + 1) (omega arith) (omega arith),
      at 6 (i + 4 + 2) (omega arith) (omega arith),
      at 7 (i + 4 + 3) (omega arith) (omega arith),
    )
