-- The tables and the finalization stand behind its begin, the start of its run, and the run's turns.
use Rattle.std.proofs.Common.{◌<◌, ◌≡◌, ◌+◌, ◌==◌, inl, inr, ℕ, Bool, true, false, List, [], ◌∷◌, Option, Some, None, refl, sym, ◌∙◌, subst, arith}
use Rattle.std.proofs.lemmas.Bool.{eqb-true, eq-eqb}
use Rattle.stateful_base.specs.Names.{Named}
use Rattle.stateful_base.specs.declared.digest.Digest.{Digest}
use Rattle.stateful_base.specs.declared.outcome.Finality.TheVariants as finality
use Rattle.stateful_base.specs.declared.outcome.Moved.TheVariants.{Pending, Done}
use Rattle.stateful_db.specs.Works.{run_of}
use Rattle.stateful_history.specs.Setting.{parent_of}
use Rattle.stateful_history.specs.Past.{Past, Came, Made}
use Rattle.stateful_history.specs.Asked.{started}
use Rattle.stateful_history.specs.Jobs.{IsLiveJob, turns}
use Rattle.stateful_history.specs.Known.{Known, is_tip}
use Rattle.stateful_history.specs.declared.event.Event.TheVariants.{Turn}
use Rattle.stateful_history.specs.declared.mark.How.TheVariants.{Kept}
use Rattle.stateful_history.specs.declared.mark.JobKind.TheVariants.{Finalized, Hook}
use Rattle.stateful_history.specs.declared.mark.Mark.TheVariants.{Started, Ended, Began}
use Rattle.stateful_exec_model.specs.Ending.{Turns}
use Rattle.stateful_exec_model.specs.Finalizing.{front_at, RunsFinal, IsFinalBatch}
use Rattle.stateful_exec_model.specs.Workings.{Workings, Point}
use Rattle.stateful_exec_model.specs.declared.front.Front.{Front}
use Rattle.stateful_exec_model.specs.declared.front.Stage.TheVariants.{Begun, Running, Ran}
use Rattle.stateful_exec_tables.specs.declared.state.Tables.{Tables}
use Rattle.stateful_exec_laws.specs.Setting.{setting}
use Rattle.stateful_exec_laws.specs.Fronting.{RunsTakeTurns, IsRunFinal, FrontStands}
use Rattle.stateful_exec_laws.specs.Standing.{TablesStand}
use Rattle.stateful_exec_laws.proofs.requests.Calm.{Known-calm, Known-before}
use Rattle.stateful_exec_laws.proofs.ended.Known.{ends-some, started-by, turn-IsCalm, Known-turned, Known-turned_before}
use Rattle.stateful_exec_laws.proofs.runs.Drawn.{TablesStand-next, TablesStand-numbered}
use Rattle.stateful_exec_laws.proofs.runs.Spared.{KnowsSame, TablesStand-spared}
use Rattle.stateful_exec_laws.proofs.runs.Sparing.{live-started_other, live-ended_other, started-Spares, ended-Spares, runs_below}
use Rattle.stateful_exec_laws.proofs.builds.Turns.{no_candidate, TablesStand-turn_other}
use Rattle.stateful_exec_laws.proofs.front.Left.{begun-tip}

module _ {B C I P R D H G U : Type 0} (w : Workings B C I P R D H G U) (stored : ℕ → Option (Named B)) (p : Past B C I) (points : Digest → Point w) (point : Point w) (next : w.Ids) (old : Tables B C I R U) (s : TablesStand w stored p points point next old) (b : Named B) where
  -- a finalization stands that has begun, where none went on
  pub FrontStands-begins : (t : ℕ) → parent_of (setting w stored) b ≡ old.anchor.digest → FrontStands w stored p point next old.anchor None → FrontStands w stored (Made (Began t b) ∷ p) point next old.anchor (front_at b Begun)
  FrontStands-begins t child f = record {
    at_stage = record { begun_is = refl; parent_is = child };
    runs = λ j d live. f.runs j d (record { live = live.live; is = live.is });
    hooks = λ j d live. f.hooks j d (record { live = live.live; is = live.is });
  }

  module _ (other_states : (n i : w.Ids) (x y : w.States) (c : List (Point w)) → w.kind.issued n ((i, x) ∷ c) → w.kind.issued n ((i, y) ∷ c))
      (members : w.kind.Members) (located : w.kind.point members ≡ Some point) (drawn : w.kind.issued next (point ∷ [])) (now : w.Ids) (new : Tables B C I R U) (front : Option (Front B R U H)) (starts : RunsFinal w b members next now old new front) where
    abbrev given : Past B C I
    given = Made (Started old.next_job Finalized b.digest) ∷ p

    -- the tables stand behind the start of a run of the finalized block
    pub TablesStand-runs_final : TablesStand w stored (Made (Started old.next_job Finalized b.digest) ∷ p) points point now new
    TablesStand-runs_final = rw starts.state
        (TablesStand-spared w stored p (Made (Started old.next_job Finalized b.digest)) points point now (record old { next_job = old.next_job + 1 })
        (started-Spares w stored p old.next_job Finalized b.digest (λ is. cc) (record old { next_job = old.next_job + 1 }) (runs_below w stored p points point next old s) (omega arith))
        (TablesStand-next w stored p points point next (record old { next_job = old.next_job + 1 }) now starts.keeps (TablesStand-numbered w stored p points point next old (old.next_job + 1) (omega arith) s)))

    -- the finalization stands with this run
    pub FrontStands-runs : RunsTakeTurns w → FrontStands w stored p point next old.anchor (front_at b Begun) → FrontStands w stored (Made (Started old.next_job Finalized b.digest) ∷ p) point now old.anchor front
    FrontStands-runs costs f =
        let got = starts.over point located drawn in
        rw starts.front_is (record {
          at_stage = (
            record { begun_is = f.at_stage.begun_is; parent_is = f.at_stage.parent_is },
            record {
              job = record { live = rw (eq-eqb old.next_job old.next_job refl) refl; is = rw (eq-eqb old.next_job old.next_job refl) refl };
              own = next;
              drawn = λ x. other_states now next (w.kind.begun point.1) x (point ∷ []) got.1;
              round = got.0.round;
              runs = rw (s.numbers.unturned old.next_job (omega arith)) got.0.runs;
              unfinished = λ n cost. rw (s.numbers.unturned old.next_job (omega arith)) (costs finality.Finalized point.1 b.block n cost);
            },
          );
          runs = λ j d live. own j d live (j == old.next_job) refl;
          hooks = λ j d live. f.hooks j d (live-started_other p old.next_job Finalized b.digest Hook (λ is. cc) j d live);
        })
      where
        own : (j : ℕ) (d : Digest) → IsLiveJob j Finalized d given → (v : Bool) → (j == old.next_job) ≡ v → old.next_job ≡ j
        own j d live true is = sym (eqb-true j old.next_job is)
        own j d live false is = absurd (f.runs j d (record { live = rw is at live.live; is = rw is at live.is }))

  module _ (j : ℕ) (run turned : R) (f : FrontStands w stored p point next old.anchor (front_at b (Running j run))) (m : w.kind.Members) (located : w.kind.point m ≡ Some point) where
    abbrev final : IsRunFinal w stored p point next b j run
    final = f.at_stage.1

    -- the tables stand after a turn of the finalized block's run
    pub TablesStand-turns_final : TablesStand w stored (Came (Turn j) ∷ p) points point next old
    TablesStand-turns_final = TablesStand-turn_other w stored p points point next old s j Finalized b.digest final.job.is (λ is. cc)

    -- the finalization stands after a turn with which its run goes on
    pub FrontStands-goes_on : Turns w m run turned Pending → FrontStands w stored (Came (Turn j) ∷ p) point next old.anchor (front_at b (Running j turned))
    FrontStands-goes_on had = record {
      at_stage = (
        record { begun_is = f.at_stage.0.begun_is; parent_is = f.at_stage.0.parent_is },
        record {
          job = record { live = final.job.live; is = final.job.is };
          own = final.own;
          drawn = final.drawn;
          round = final.round;
          runs = rw (eq-eqb j j refl) (had.ends (run_of finality.Finalized (w.context_of b.block) (record { first = b; rest = [] }) final.own point []) (turns j p) point final.runs located (inl refl));
          unfinished = λ n is. rw (eq-eqb j j refl) (costs had n is);
        },
      );
      runs = λ k d live. f.runs k d (record { live = live.live; is = live.is });
      hooks = λ k d live. f.hooks k d (record { live = live.live; is = live.is });
    }
      where
        -- the turn wasn't the last one
        costs : Turns w m run turned Pending → (n : ℕ) → w.works.run_cost finality.Finalized point.1 b.block ≡ Some n → turns j p + 1 < n
        costs had n is = rw is at (had.costs (run_of finality.Finalized (w.context_of b.block) (record { first = b; rest = [] }) final.own point []) (turns j p) point final.runs located (inl refl))

    -- the same blocks are known after the end of the run, since its block is the tip
    knows_same : KnowsSame w stored (Came (Turn j) ∷ p) (Made (Ended j Kept))
    knows_same d = (to, λ k. Known-turned (setting w stored) p d j Kept (Known-before (setting w stored) k (turn-IsCalm (setting w stored) p j)))
      where
        started_own : started j p ≡ Some b.digest
        started_own = started-by j p ∙ rw final.job.is refl

        tip : Known (setting w stored) (Came (Turn j) ∷ p) b.digest
        tip = is_tip (begun-tip w.header p b f.at_stage.0.begun_is)

        to : Known (setting w stored) (Made (Ended j Kept) ∷ Came (Turn j) ∷ p) d → Known (setting w stored) (Came (Turn j) ∷ p) d
        to k = elim (Known-turned_before (setting w stored) p d b.digest j started_own k) [
          | inl is ↦ subst (λ (x : Digest). Known (setting w stored) (Came (Turn j) ∷ p) x) (sym is) tip
          | inr before ↦ Known-calm (setting w stored) before (Came (Turn j)) (turn-IsCalm (setting w stored) p j)
        ]

    -- the tables stand after the end of the finalized block's run
    pub TablesStand-ran : TablesStand w stored (Made (Ended j Kept) ∷ Came (Turn j) ∷ p) points point next old
    TablesStand-ran = TablesStand-spared w stored (Came (Turn j) ∷ p) (Made (Ended j Kept)) points point next old
        (ended-Spares w stored (Came (Turn j) ∷ p) j Kept knows_same old (no_candidate w stored p points point next old s j Finalized b.digest final.job.is (λ is. cc))) TablesStand-turns_final

    -- the finalization stands with the batch to which its run has led
    pub FrontStands-ran : (ended : Option U) (batch : U) → Turns w m run turned (Done ended) → IsFinalBatch w b ended batch → FrontStands w stored (Made (Ended j Kept) ∷ Came (Turn j) ∷ p) point next old.anchor (front_at b (Ran batch))
    FrontStands-ran None batch had is = absurd is
    FrontStands-ran (Some u) batch had is =
        let e = ends-some u _ _ _ (had.ends (run_of finality.Finalized (w.context_of b.block) (record { first = b; rest = [] }) final.own point []) (turns j p) point final.runs located (inl refl)) in
        record {
          at_stage = (
            record { begun_is = f.at_stage.0.begun_is; parent_is = f.at_stage.0.parent_is },
            record {
              own = final.own;
              states = e.0;
              drawn = final.drawn e.0;
              matches = record { step = e.1; targets = is.1 (final.own, e.0) (point ∷ []) e.2 };
              shows = subst (λ (x : U). w.shows x ((final.own, e.0) ∷ point ∷ [])) (sym is.0) e.2;
            },
          );
          runs = λ k d live. let other = live-ended_other (Came (Turn j) ∷ p) j Kept Finalized k d live in other.0 (sym (f.runs k d (record { live = other.1.live; is = other.1.is })));
          hooks = λ k d live. let other = live-ended_other (Came (Turn j) ∷ p) j Kept Hook k d live in f.hooks k d (record { live = other.1.live; is = other.1.is });
        }
