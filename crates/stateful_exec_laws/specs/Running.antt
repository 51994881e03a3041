-- The live candidate runs stand for a past.
use Rattle.std.specs.Prelude.{◌≡◌, ◌≢◌, ℕ, Option, IsSome, List, [], ◌∷◌, All, AllPairs}
use Rattle.std.specs.List.Sorted.{IsStrictlySortedBy}
use Rattle.std.specs.Map.{keys_of}
use Rattle.std.specs.Ordering.{nat_cmp}
use Rattle.stateful_base.specs.Names.{Named}
use Rattle.stateful_base.specs.declared.anchor.Anchor.{Anchor}
use Rattle.stateful_base.specs.declared.digest.Digest.{Digest}
use Rattle.stateful_base.specs.declared.outcome.Finality.TheVariants as finality
use Rattle.stateful_db.specs.Chain.{IsPoint}
use Rattle.stateful_db.specs.Works.{RunOf, run_of}
use Rattle.stateful_history.specs.Setting.{parent_of}
use Rattle.stateful_history.specs.Past.{Past}
use Rattle.stateful_history.specs.Met.{Met}
use Rattle.stateful_history.specs.Jobs.{IsLiveJob, turns}
use Rattle.stateful_history.specs.declared.mark.JobKind.TheVariants.{Candidate}
use Rattle.stateful_exec_cache.specs.Cache.{IsAtHand}
use Rattle.stateful_exec_cache.specs.declared.cache.Cached.{Cached}
use Rattle.stateful_table.specs.Table.{at}
use Rattle.stateful_exec_model.specs.Workings.{Workings, Point}
use Rattle.stateful_exec_tables.specs.declared.tables.LiveRun.{LiveRun}
use Rattle.stateful_exec_laws.specs.Setting.{setting}
use Rattle.stateful_exec_laws.specs.Chains.{Chain}

-- No read of the run's next turn is stale: the run of this job is of these and has had the job's
-- turns, and the point, which is where the databases are, is one of its chain.
pub record ReadsNothingStale {B C I P R D H G U : Type 0} (w : Workings B C I P R D H G U)
    (p : Past B C I) (point : Point w) (j : ℕ) (run : R) : Type 0 where
  pub of : RunOf B C w.Ids w.States
  pub runs : w.works.runs run of (turns j p)
  pub in_chain : IsPoint point (of.at ∷ of.below)

module _ {B C I P R D H G U : Type 0} (w : Workings B C I P R D H G U)
    (stored : ℕ → Option (Named B)) (p : Past B C I) (points : Digest → Point w) (next : w.Ids)
    (anchor : Anchor) (cache : List (Cached U)) where
  -- the run of this job is of a block, another one than the anchor, in the block's context, behind
  -- its parent, which is at hand, on the parent's chain; and it has had the job's turns
  pub record IsRunning (j : ℕ) (run : LiveRun B R) : Type 0 where
    pub job : IsLiveJob j Candidate run.block.digest p
    pub met : Met (setting w stored) p run.block
    pub other : run.block.digest ≢ anchor.digest
    pub parent : Named B
    pub parent_met : Met (setting w stored) p parent
    pub parent_is : parent.digest ≡ parent_of (setting w stored) run.block
    pub at_hand : IsAtHand anchor cache parent.digest
    pub below : List (Point w)
    pub chain : Chain w stored p points anchor.digest parent.digest (points parent.digest ∷ below)
    pub own : w.Ids
    pub drawn : (s : w.States) → w.kind.issued next ((own, s) ∷ points parent.digest ∷ below)
    pub round : w.round_of (w.context_of run.block.block) ≡ w.header.round run.block.block
    pub runs : w.works.runs run.run
        (run_of finality.Candidate (w.context_of run.block.block)
        (record { first = run.block; rest = parent ∷ [] }) own (points parent.digest) below)
        (turns j p)

  -- each live run stands so, by ascending numbers; no block has two, and each live job of a
  -- candidate is one of them
  pub record RunsStand (runs : List (ℕ × LiveRun B R)) : Type 0 where
    pub ascending : IsStrictlySortedBy nat_cmp (keys_of runs)
    pub each : All (λ e. IsRunning e.0 e.1) runs
    pub apart : AllPairs (λ e f. e.1.block.digest ≢ f.1.block.digest) runs
    pub complete : (j : ℕ) (d : Digest) → IsLiveJob j Candidate d p → IsSome (at runs j)
