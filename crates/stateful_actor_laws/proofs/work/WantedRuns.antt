-- Behind each step live candidate runs and builds have requests that want them.
use Rattle.std.proofs.Common.{◌≡◌, ℕ, Bool, true, false, Option, refl, sym, ◌∙◌, true≢false}
use Rattle.stateful_base.specs.Names.{Named}
use Rattle.stateful_base.specs.declared.digest.Digest.{Digest}
use Rattle.stateful_history.specs.Jobs.{IsLiveJob}
use Rattle.stateful_history.specs.Past.{Past}
use Rattle.stateful_history.specs.Runs.{RunsAreWanted}
use Rattle.stateful_history.specs.declared.mark.JobKind.{JobKind}
use Rattle.stateful_exec_model.specs.Workings.{Workings}
use Rattle.stateful_exec_laws.specs.Setting.{setting}
use Rattle.stateful_exec_laws.proofs.builds.Marks.{builds-wanted}
use Rattle.stateful_exec_laws.proofs.runs.Wanted.{candidates-wanted}
use Rattle.stateful_loop_laws.specs.Execution.{Executes}
use Rattle.stateful_loop_model.specs.Moments.{Moment}
use Rattle.stateful_actor_laws.specs.Stands.{StandsAt}

module _ {B C I P R D H G U : Type 0} (w : Workings B C I P R D H G U) (stored : ℕ → Option (Named B)) (base : w.States) (p : Past B C I)
    (m : Moment w) (s : StandsAt w stored base p m) where
  none_live : m.loop.up ≡ false → (j : ℕ) (kind : JobKind) (d : Digest) → IsLiveJob j kind d p → ⊥
  none_live down j kind d job = true≢false (sym job.live ∙ (s.down down).jobs j)

  wanted_up : m.loop.up ≡ true → RunsAreWanted (setting w stored) p
  wanted_up up =
      let e : Executes w stored base p m = (s.up up).0.executes in
      record {
        candidates = candidates-wanted w stored p e.points e.point m.next m.execution.state e.tables s.past.past.orderly.apart;
        builds = builds-wanted w stored base p e.points e.point m.next m.execution.state e.tables m.execution.build e.builds;
      }

  -- Whatever runs or builds has a live request that wants it.
  pub runs-wanted : RunsAreWanted (setting w stored) p
  runs-wanted = go m.loop.up refl
    where
      go : (b : Bool) → m.loop.up ≡ b → RunsAreWanted (setting w stored) p
      go true up = wanted_up up
      go false down = record {
        candidates = λ j d job. absurd (none_live down j _ d job);
        builds = λ j d job. absurd (none_live down j _ d job);
      }
