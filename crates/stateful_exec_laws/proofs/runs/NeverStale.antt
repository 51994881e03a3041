-- No turn of a live candidate run is stale.
use Rattle.std.proofs.Common.{◌≡◌, ℕ, [], ◌∷◌, Option, Some, subst}
use Rattle.stateful_base.specs.Names.{Named}
use Rattle.stateful_base.specs.declared.digest.Digest.{Digest}
use Rattle.stateful_base.specs.declared.outcome.Finality.TheVariants as finality
use Rattle.stateful_db.specs.Chain.{IsPoint}
use Rattle.stateful_db.specs.Works.{run_of}
use Rattle.stateful_history.specs.Past.{Past}
use Rattle.stateful_table.specs.Table.{at}
use Rattle.stateful_exec_model.specs.Workings.{Workings, Point}
use Rattle.stateful_exec_tables.specs.declared.state.Tables.{Tables}
use Rattle.stateful_exec_tables.specs.declared.tables.LiveRun.{LiveRun}
use Rattle.stateful_exec_laws.specs.Running.{IsRunning, ReadsNothingStale}
use Rattle.stateful_exec_laws.specs.Standing.{TablesStand}
use Rattle.stateful_exec_laws.proofs.ended.Points.{Stacked-point}
use Rattle.stateful_exec_laws.proofs.ended.Stands.{running}

module _ {B C I P R D H G U : Type 0} (w : Workings B C I P R D H G U) (stored : ℕ → Option (Named B)) (p : Past B C I) (points : Digest → Point w) (point : Point w) (next : w.Ids) (v : Tables B C I R U) (s : TablesStand w stored p points point next v) (j : ℕ) where
  -- the databases are at a point of the chain of each live run
  pub run-IsPoint : (live : LiveRun B R) (r : IsRunning w stored p points next v.anchor v.cache j live) → IsPoint point (points r.parent.digest ∷ r.below)
  run-IsPoint live r = subst (λ (x : Point w). IsPoint x (points r.parent.digest ∷ r.below)) s.at_anchor (Stacked-point w r.chain)

  -- so no turn of a live run is stale
  pub no-turn-is-stale : (live : LiveRun B R) → at v.runs j ≡ Some live → ReadsNothingStale w p point j live.run
  no-turn-is-stale live live_is =
      let r = running w stored p points point next v s j live live_is in
      record {
        of = run_of finality.Candidate (w.context_of live.block.block) (record { first = live.block; rest = r.parent ∷ [] }) r.own (points r.parent.digest) r.below;
        runs = r.runs;
        in_chain = run-IsPoint live r;
      }
