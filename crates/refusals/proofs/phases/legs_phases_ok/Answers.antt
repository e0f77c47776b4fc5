-- So far all is good if every entry before number n is fine, and of entry n every vector before number i.
use Prim.Native.Nat.{ℕ, ◌+◌, ◌*◌, ◌<◌, ◌≤◌}
use native.Mathlib.Omega.{arith}
use mathlib.Core.Path.{◌≡◌, sym, ◌∙◌}
use mathlib.Core.Bool.{and-true}
use mathlib.Core.List.{List}
use lib.ListN.{length}
use lib.IntN.{ℤ}
use lib.Ieee.{Float}
use Rattle.phonon.specs.Number.{index, int}
use Rattle.real_to_reciprocal.specs.Shape.{Ranged}
use Rattle.real_to_reciprocal.proofs.TestLaws.{ranged_at}
use Rattle.checks.proofs.Laws.{every_step}
use Rattle.phonon.proofs.Accepted.{every_none}
use Rattle.refusals.proofs.PhaseLaws.{vectors_fine, entry_fine, every_behind, vector_told, entry_is, legs_are}
use Rattle.refusals.proofs.phases.legs_phases_ok.Goals as goal

-- vector i of entry n is one of the table
vector_in :
    {vectors : List Float} {multiplicity : List ℤ} {entries count start : ℕ} (r : Ranged vectors multiplicity entries) (n i : ℕ)
    → n < entries
    → count ≡ index (int multiplicity (2 * n))
    → start ≡ index (int multiplicity (2 * n + 1))
    → i < count
    → 3 * (start + i) + 3 ≤ length vectors
vector_in r n i h p q l = let a = ranged_at r n h in omega (arith, a.ends, r.room, p, q, l)

pub loop-n-init : goal.loop-n-init
loop-n-init c =
    let a = c.args in
    (omega arith, sym (every_none (entry_fine a.vectors.now a.q.now.leg0 a.q.now.leg1 a.q.now.leg2 a.multiplicity.now)))

pub loop-i-init : goal.loop-i-init
loop-i-init c =
    let a = c.args in
    (omega arith, sym (rw (every_none (vectors_fine a.vectors.now a.q.now.leg0 a.q.now.leg1 a.q.now.leg2 c.index_at-start.result)) (and-true _)))

pub overflow_add-v : goal.overflow_add-v
overflow_add-v c =
    omega (arith, vector_in c.requires c.loop-n.n c.loop-i.i c.loop-n-test.true c.index_at-count.ensures c.index_at-start.ensures c.loop-i-test.true)

pub phase-requires : goal.phase-requires
phase-requires c = vector_in c.requires c.loop-n.n c.loop-i.i c.loop-n-test.true c.index_at-count.ensures c.index_at-start.ensures c.loop-i-test.true

pub phase-requires-in-loop-i : goal.phase-requires-in-loop-i
phase-requires-in-loop-i c = vector_in c.requires c.loop-n.n c.loop-i.i c.loop-n-test.true c.index_at-count.ensures c.index_at-start.ensures c.loop-i-test.true

pub phase-requires-in-loop-i-2 : goal.phase-requires-in-loop-i-2
phase-requires-in-loop-i-2 c = vector_in c.requires c.loop-n.n c.loop-i.i c.loop-n-test.true c.index_at-count.ensures c.index_at-start.ensures c.loop-i-test.true

pub loop-i-preserved : goal.loop-i-preserved
loop-i-preserved c =
    let a = c.args in
    let l = c.loop-i in (
      omega (arith, c.loop-i-test.true),
      every_behind (vectors_fine a.vectors.now a.q.now.leg0 a.q.now.leg1 a.q.now.leg2 c.index_at-start.result) l.i c.loop-n.good l.invariant.1
          (vector_told a.vectors.now a.q.now.leg0 a.q.now.leg1 a.q.now.leg2 c.index_at-start.result l.i
          c.phase.ensures c.phase-in-loop-i.ensures c.phase-in-loop-i-2.ensures
          c.in_domain-x.ensures c.in_domain-y.ensures c.in_domain-z.ensures),
    )

pub loop-n-preserved : goal.loop-n-preserved
loop-n-preserved c =
    let a = c.args in
    let l = c.loop-n in
    let all : c.loop-i.i ≡ c.index_at-count.result = omega arith in
    let told = entry_is a.vectors.now a.q.now.leg0 a.q.now.leg1 a.q.now.leg2 a.multiplicity.now l.n c.index_at-count.ensures c.index_at-start.ensures in (
      omega (arith, c.loop-n-test.true),
      rw all at c.loop-i.invariant.1 ∙ every_step (entry_fine a.vectors.now a.q.now.leg0 a.q.now.leg1 a.q.now.leg2 a.multiplicity.now) l.n l.invariant.1 told,
    )

pub returns : goal.returns
returns c =
    let a = c.args in
    let all : c.loop-n.n ≡ a.entries = omega arith in
    rw all at c.loop-n.invariant.1 ∙ legs_are a.vectors.now a.q.now.leg0 a.q.now.leg1 a.q.now.leg2 a.multiplicity.now a.entries
