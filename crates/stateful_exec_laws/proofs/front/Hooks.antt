-- The tables and the finalization stand behind the hook of its block: its start, its turns and its end.
use Rattle.std.proofs.Common.{◌≡◌, ◌+◌, ◌<◌, ◌==◌, ℕ, Bool, true, false, ◌∷◌, Option, Some, None, Ok, refl, sym, arith}
use Rattle.std.proofs.lemmas.Bool.{eqb-true, eq-eqb}
use Rattle.stateful_base.specs.Names.{Named}
use Rattle.stateful_base.specs.declared.digest.Digest.{Digest}
use Rattle.stateful_base.specs.declared.outcome.Moved.TheVariants.{Pending}
use Rattle.stateful_db.specs.Works.{hook_of}
use Rattle.stateful_db.specs.declared.application.Hooked.TheVariants as hooked
use Rattle.stateful_history.specs.Past.{Past, Came, Made}
use Rattle.stateful_history.specs.Jobs.{IsLiveJob, turns}
use Rattle.stateful_history.specs.declared.event.Event.TheVariants.{Turn}
use Rattle.stateful_history.specs.declared.mark.How.TheVariants.{Hooked}
use Rattle.stateful_history.specs.declared.mark.JobKind.TheVariants.{Finalized, Hook}
use Rattle.stateful_history.specs.declared.mark.Mark.TheVariants.{Started, Ended}
use Rattle.stateful_exec_model.specs.Finalizing.{front_at, IsLeftBehind, HasHooked}
use Rattle.stateful_exec_model.specs.Workings.{Workings, Point}
use Rattle.stateful_exec_model.specs.declared.front.Stage.TheVariants.{Advanced, Hooking}
use Rattle.stateful_exec_tables.specs.declared.state.Tables.{Tables}
use Rattle.stateful_exec_laws.specs.Fronting.{IsHooking, FrontStands}
use Rattle.stateful_exec_laws.specs.Standing.{TablesStand}
use Rattle.stateful_exec_laws.proofs.runs.Drawn.{TablesStand-numbered}
use Rattle.stateful_exec_laws.proofs.runs.Spared.{knows-calm, TablesStand-spared}
use Rattle.stateful_exec_laws.proofs.runs.Sparing.{live-started_other, live-ended_other, started-Spares, ended-Spares, runs_below}
use Rattle.stateful_exec_laws.proofs.builds.Turns.{no_candidate, TablesStand-turn_other}

module _ {B C I P R D H G U : Type 0} (w : Workings B C I P R D H G U) (stored : ℕ → Option (Named B)) (p : Past B C I) (points : Digest → Point w) (point : Point w) (next : w.Ids) (old : Tables B C I R U) (s : TablesStand w stored p points point next old) (b : Named B) where
  -- nothing of a finalization is live once its block is the anchor and its hook has ended
  pub FrontStands-drops : FrontStands w stored p point next old.anchor (front_at b Advanced) → FrontStands w stored p point next old.anchor None
  FrontStands-drops f = record { at_stage = tt; runs = λ j d live. f.runs j d live; hooks = λ j d live. f.hooks j d live }

  module _ (f : FrontStands w stored p point next old.anchor (front_at b Advanced)) where
    -- the tables stand behind the start of a hook
    pub TablesStand-hooks : TablesStand w stored (Made (Started old.next_job Hook b.digest) ∷ p) points point next (record old { next_job = old.next_job + 1 })
    TablesStand-hooks =
        TablesStand-spared w stored p (Made (Started old.next_job Hook b.digest)) points point next (record old { next_job = old.next_job + 1 })
        (started-Spares w stored p old.next_job Hook b.digest (λ is. cc) (record old { next_job = old.next_job + 1 }) (runs_below w stored p points point next old s) (omega arith))
        (TablesStand-numbered w stored p points point next old (old.next_job + 1) (omega arith) s)

    -- the finalization stands with the hook, which costs some turn
    pub FrontStands-hooks : (members : w.kind.Members) → w.kind.point members ≡ Some point → (captured : G) (hook : H) (left : IsLeftBehind w b captured members (hooked.Pending hook)) (before : w.States) → w.works.captures captured (w.context_of b.block) b.block before
        → FrontStands w stored (Made (Started old.next_job Hook b.digest) ∷ p) point next old.anchor (front_at b (Hooking old.next_job hook))
    FrontStands-hooks members located captured hook left before read = record {
      at_stage = (
        f.at_stage,
        record {
          job = record { live = rw (eq-eqb old.next_job old.next_job refl) refl; is = rw (eq-eqb old.next_job old.next_job refl) refl };
          round = left.round;
          before = before;
          hooks = rw (s.numbers.unturned old.next_job (omega arith)) (left.hooks before point read located);
          unfinished = λ n is. rw (s.numbers.unturned old.next_job (omega arith)) (costs n is);
        },
      );
      runs = λ j d live. f.runs j d (live-started_other p old.next_job Hook b.digest Finalized (λ is. cc) j d live);
      hooks = λ j d live. own j d live (j == old.next_job) refl;
    }
      where
        costs : (n : ℕ) → w.works.hook_cost b.block point.1 ≡ Some n → 0 < n
        costs n is = rw is at (left.costs point located)

        own : (j : ℕ) (d : Digest) → IsLiveJob j Hook d (Made (Started old.next_job Hook b.digest) ∷ p) → (v : Bool) → (j == old.next_job) ≡ v → old.next_job ≡ j
        own j d live true is = sym (eqb-true j old.next_job is)
        own j d live false is = absurd (f.hooks j d (record { live = rw is at live.live; is = rw is at live.is }))

  module _ (j : ℕ) (hook turned : H) (f : FrontStands w stored p point next old.anchor (front_at b (Hooking j hook))) where
    abbrev hooking : IsHooking w stored p point next b j hook
    hooking = f.at_stage.1

    -- the tables stand after a turn of the hook
    pub TablesStand-turns_hook : TablesStand w stored (Came (Turn j) ∷ p) points point next old
    TablesStand-turns_hook = TablesStand-turn_other w stored p points point next old s j Hook b.digest hooking.job.is (λ is. cc)

    -- the finalization stands after a turn with which its hook goes on
    pub FrontStands-hook_goes_on : (count : H → ℕ) (m : w.kind.Members) → w.kind.point m ≡ Some point → HasHooked w count m hook turned (Ok Pending) → FrontStands w stored (Came (Turn j) ∷ p) point next old.anchor (front_at b (Hooking j turned))
    FrontStands-hook_goes_on count m located had = record {
      at_stage = (
        f.at_stage.0,
        record {
          job = record { live = hooking.job.live; is = hooking.job.is };
          round = hooking.round;
          before = hooking.before;
          hooks = rw (eq-eqb j j refl) (had.goes_on (hook_of (w.context_of b.block) b.block hooking.before point.1) (turns j p) point hooking.hooks located refl);
          unfinished = λ n is. rw (eq-eqb j j refl) (costs n is);
        },
      );
      runs = λ k d live. f.runs k d (record { live = live.live; is = live.is });
      hooks = λ k d live. f.hooks k d (record { live = live.live; is = live.is });
    }
      where
        costs : (n : ℕ) → w.works.hook_cost b.block point.1 ≡ Some n → turns j p + 1 < n
        costs n is = rw is at (had.costs (hook_of (w.context_of b.block) b.block hooking.before point.1) (turns j p) point hooking.hooks located refl)

    -- the tables stand after the end of the hook
    pub TablesStand-hooked : TablesStand w stored (Made (Ended j Hooked) ∷ Came (Turn j) ∷ p) points point next old
    TablesStand-hooked = TablesStand-spared w stored (Came (Turn j) ∷ p) (Made (Ended j Hooked)) points point next old
        (ended-Spares w stored (Came (Turn j) ∷ p) j Hooked (knows-calm w stored (Came (Turn j) ∷ p) (Made (Ended j Hooked)) (record { tip = refl; starts_none = tt; built = λ d was. was; kept = refl })) old
        (no_candidate w stored p points point next old s j Hook b.digest hooking.job.is (λ is. cc))) TablesStand-turns_hook

    -- and the finalization, without the hook
    pub FrontStands-hooked : FrontStands w stored (Made (Ended j Hooked) ∷ Came (Turn j) ∷ p) point next old.anchor (front_at b Advanced)
    FrontStands-hooked = record {
      at_stage = f.at_stage.0;
      runs = λ k d live. let other = live-ended_other (Came (Turn j) ∷ p) j Hooked Finalized k d live in f.runs k d (record { live = other.1.live; is = other.1.is });
      hooks = λ k d live. let other = live-ended_other (Came (Turn j) ∷ p) j Hooked Hook k d live in other.0 (sym (f.hooks k d (record { live = other.1.live; is = other.1.is })));
    }
