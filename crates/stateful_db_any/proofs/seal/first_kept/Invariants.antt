use Rattle.std.proofs.Common.{◌≡◌, ◌≤◌, ◌+◌, ◌-◌, ◌++◌, max, drop}
use Rattle.stateful_db_overlay.specs.Chains.{Leads}
use Rattle.stateful_db_any.specs.Live.{passed}
use Rattle.stateful_db_any.specs.Any.{State, IsWhole, size_of}
use Rattle.stateful_db_any.specs.Shown.{After}
use Rattle.stateful_db_any.specs.Stored.{standing_of}
use Rattle.stateful_db_any.specs.Through.{IsIndexed}
use Rattle.stateful_db_any.proofs.seal.first_kept.Given as goal

-- every operation so far is passed
abbrev pub invariant-loop-at : goal.invariant-loop-at
invariant-loop-at g l =
    let cmp = g.K.Ord.cmp in
    record {
      low : l.start ≤ l.at;
      high : l.at ≤ max l.start l.last;
      same : (t : State g.row.K.Denot g.row.V.Denot)
          → Leads (After cmp g.K.Field.fields.spelling g.V.Field.fields.spelling) l.layers (standing_of l.db).disk.newest t
          → IsWhole (standing_of l.db).disk.newest
          → l.own.from ≡ size_of t
          → IsIndexed cmp l.own
          → l.start ≡ t.target.start.0
          → l.start + passed cmp (t.kept ++ l.own.ops) ≡ l.at + passed cmp (drop (l.at - l.start) (t.kept ++ l.own.ops));
    }

abbrev pub decreases-loop-at : goal.decreases-loop-at
decreases-loop-at g l = l.last - l.at
