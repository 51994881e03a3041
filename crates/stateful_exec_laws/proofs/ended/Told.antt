-- The tables stand after the end of a run as it is told, where no finalization goes on.
use Rattle.std.proofs.Common.{◌≡◌, ◌+◌, ◌↔◌, inr, ℕ, List, [], ◌∷◌, Any, Option, Some, refl, ap}
use Rattle.stateful_base.specs.Names.{Named}
use Rattle.stateful_base.specs.declared.anchor.Anchor.{Anchor}
use Rattle.stateful_base.specs.declared.digest.Digest.{Digest}
use Rattle.stateful_base.specs.declared.outcome.Finality.TheVariants.{Candidate}
use Rattle.stateful_base.specs.declared.outcome.Moved.TheVariants.{Done}
use Rattle.stateful_db.specs.Meaning.{outcome, Ends}
use Rattle.stateful_db.specs.Works.{run_of}
use Rattle.stateful_history.specs.Anchors.{tip_of}
use Rattle.stateful_history.specs.Jobs.{turns}
use Rattle.stateful_history.specs.Past.{Past}
use Rattle.stateful_history.specs.Known.{Known}
use Rattle.stateful_history.specs.Met.{TrueNames}
use Rattle.stateful_history.specs.declared.mark.How.{How}
use Rattle.stateful_history.specs.declared.mark.How.TheVariants.{Kept, Rejected, Mismatched, Missed}
use Rattle.stateful_exec_cache.specs.Cache.{IsIn, IsAtHand}
use Rattle.stateful_exec_cache.specs.declared.cache.Cached.{Cached}
use Rattle.stateful_table.specs.Table.{at}
use Rattle.stateful_exec_pause.specs.Boundary.{step_by}
use Rattle.stateful_exec_tables.specs.Keeping.{step_in, there, added, missed}
use Rattle.stateful_exec_model.specs.Ending.{Turns, IsTold, rejected, mismatched, agreed}
use Rattle.stateful_exec_model.specs.Workings.{Workings, Point}
use Rattle.stateful_exec_pause.specs.declared.pause.Pause.{Pause}
use Rattle.stateful_exec_pause.specs.declared.pause.Pause.TheVariants.{Free, Finalizing, Pruning}
use Rattle.stateful_exec_tables.specs.declared.state.Tables.{Tables}
use Rattle.stateful_exec_tables.specs.declared.tables.LiveRun.{LiveRun}
use Rattle.stateful_exec_laws.specs.Setting.{setting}
use Rattle.stateful_exec_laws.specs.Caching.{IsKnownBy}
use Rattle.stateful_exec_laws.specs.Running.{IsRunning}
use Rattle.stateful_exec_laws.specs.Standing.{TablesStand}
use Rattle.stateful_exec_laws.proofs.ended.Known.{outcome-some, ends-some}
use Rattle.stateful_exec_laws.proofs.runs.NeverStale.{run-IsPoint}
use Rattle.stateful_exec_laws.proofs.ended.Stands.{ended, IsLeftBy, running, IsLeftBy-gone, IsLeftBy-known}
use Rattle.stateful_exec_laws.proofs.ended.Kept.{IsRoundOf, IsLeftBy-added, knows-added}

-- no finalization goes on
abbrev pub IsPlain : Pause → Type 0
IsPlain (Finalizing boundary) = ⊥
IsPlain pause = Unit {0}

module _ {U : Type 0} (anchor : Anchor) (K : Digest → Type 0) where
  -- where no finalization goes on, what is at hand is known
  pub known_at_hand : (pause : Pause) → IsPlain pause → (cache : List (Cached U)) → ((d : Digest) → K d ↔ IsKnownBy pause anchor cache d) → (d : Digest) → K d ↔ IsAtHand anchor cache d
  known_at_hand Free plain cache knows = knows
  known_at_hand Pruning plain cache knows = knows
  known_at_hand (Finalizing boundary) plain cache knows = absurd plain

  pub known_by_pause : (pause : Pause) → IsPlain pause → (cache : List (Cached U)) → ((d : Digest) → K d ↔ IsAtHand anchor cache d) → (d : Digest) → K d ↔ IsKnownBy pause anchor cache d
  known_by_pause Free plain cache knows = knows
  known_by_pause Pruning plain cache knows = knows
  known_by_pause (Finalizing boundary) plain cache knows = absurd plain

module _ {B C I P R D H G U : Type 0} (w : Workings B C I P R D H G U) (stored : ℕ → Option (Named B)) (p : Past B C I) (points : Digest → Point w) (point : Point w) (next : w.Ids) (old : Tables B C I R U) (s : TablesStand w stored p points point next old)
    (j : ℕ) (live : LiveRun B R) (live_is : at old.runs j ≡ Some live) (m : w.kind.Members) (here : w.kind.point m ≡ Some point) (turned : R) where
  abbrev run : IsRunning w stored p points next old.anchor old.cache j live
  run = running w stored p points point next old s j live live_is

  -- what the last turn says of the run
  pub turned-at : (o : Option U) → Turns w m live.run turned (Done o)
      → Ends (Done o) (outcome w.works.meaning Candidate (points run.parent.digest).1 live.block.block) (λ batch u. w.shows batch ((run.own, u) ∷ points run.parent.digest ∷ run.below))
      (w.works.runs turned (run_of Candidate (w.context_of live.block.block) (record { first = live.block; rest = run.parent ∷ [] }) run.own (points run.parent.digest) run.below) (turns j p + 1))
  turned-at o t =
      t.ends (run_of Candidate (w.context_of live.block.block) (record { first = live.block; rest = run.parent ∷ [] }) run.own (points run.parent.digest) run.below) (turns j p) point run.runs here
      (run-IsPoint w stored p points point next old s j live run)

  pub cached_step : Any (λ e. step_in e ≡ step_by w.header live.block) old.cache → IsIn old.cache live.block.digest
  cached_step a = (a.0, a.1, a.2, a.3, ap (λ x. x.digest) a.4)

  module _ (names : TrueNames (setting w stored) p) (round : IsRoundOf w stored p old.anchor) (plain : IsPlain old.pause) (tip : tip_of w.header p ≡ Some old.anchor) where
    knows : (d : Digest) → Known (setting w stored) p d ↔ IsAtHand old.anchor old.cache d
    knows = known_at_hand old.anchor (λ d. Known (setting w stored) p d) old.pause plain old.cache s.cache.knows

    -- after the end of a run, however it is told, where no finalization goes on
    pub IsLeftBy-told : {o : Option U} {how : How} (cache : List (Cached U)) → Turns w m live.run turned (Done o) → IsTold w old.anchor live.block old.cache cache o how → IsLeftBy w stored p point next old j live how points cache old.pause
    IsLeftBy-told cache t (rejected is) = rw is (IsLeftBy-gone w stored p points point next old s j live live_is Rejected refl)
    IsLeftBy-told cache t (mismatched differs is) = rw is (IsLeftBy-gone w stored p points point next old s j live live_is Mismatched refl)
    IsLeftBy-told cache t (agreed agrees (missed new away is)) = rw is (IsLeftBy-gone w stored p points point next old s j live live_is Missed refl)
    IsLeftBy-told cache t (agreed agrees (there a is)) =
        rw is (IsLeftBy-known w stored p points point next old s j live live_is ((knows live.block.digest).1 (inr (cached_step a))))
    IsLeftBy-told cache t (agreed {batch = batch} agrees (added new later at_hand is)) =
        let e = ends-some batch _ _ _ (turned-at (Some batch) t) in
        let leads = outcome-some w.works.meaning (points run.parent.digest).1 live.block.block e.0 e.1 in
        let targets = agrees (run.own, e.0) (points run.parent.digest ∷ run.below) e.2 in
        rw is (IsLeftBy-added w stored p points point next old s names round j live live_is batch e.0 leads.0 leads.1 targets e.2 new later old.pause
        (known_by_pause old.anchor (λ d. Known (setting w stored) (ended w stored p point next old j live Kept) d) old.pause plain _ (knows-added w stored p points point next old s names round j live live_is batch e.0 leads.0 leads.1 targets e.2 new later tip knows)))
