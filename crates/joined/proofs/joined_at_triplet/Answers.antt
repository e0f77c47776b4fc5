-- The set that is handed in is accepted where the worker and the sum are called.
use native.Mathlib.Omega.{arith}
use mathlib.Core.Path.{◌≡◌}
use borrow.Author.Rules.{rules}
use Rattle.phonon.specs.Handed.{tables_of}
use Rattle.phonon.specs.Sets.{JoinedSet, triplet_of}
use Rattle.phonon.specs.Refusal.{joined_refusal}
use Rattle.real_to_normal.proofs.AcceptedLaws.{frequency_fits}
use Rattle.joined.proofs.JoinedLaws.{lengths, share, few, sized}
use Rattle.joined.proofs.joined_at_triplet.Goals as goal
use Rattle.joined.proofs.joined_at_triplet.Goals.{Start}

-- the set that is handed in
abbrev handed : Start → JoinedSet
handed c =
    let a = c.args in
    record {
      tables = tables_of a.tables.now;
      triplet = a.triplet;
      flags = a.flags.now;
      bath = a.bath;
      first = a.integration.first.now;
      second = a.integration.second.now;
      strengths = a.strengths.now;
      totals = a.totals.now;
      work = a.work.now;
    }

pub work_triplet-requires : goal.work_triplet-requires
work_triplet-requires c = share (handed (goal.at.work_triplet-requires c).Start) (search rules)

pub overflow_mul-sum : goal.overflow_mul-sum
overflow_mul-sum c = omega (arith, few (handed (goal.at.overflow_mul-sum c).Start) (search rules))

pub write_totals-requires : goal.write_totals-requires
write_totals-requires c =
    let s = handed (goal.at.write_totals-requires c).Start in
    let e : joined_refusal s ≡ 0 = search rules in
    let n = lengths s e in
    let fits = frequency_fits (triplet_of s) (share s e) in
    (sized s e _ _ _ (search rules) (search rules) (search rules), fits 1, fits 2)
