-- The tables and the live build stand after a turn of a job, where the build goes on or isn't turned, and after its end without
-- a block.
use Rattle.std.proofs.Common.{◌+◌, ◌<◌, ◌≡◌, ◌≢◌, ◌⊎◌, inl, inr, ℕ, [], ◌∷◌, Option, Some, None, IfSome, Ok, refl, sym, ◌∙◌, subst}
use Rattle.std.proofs.lemmas.Bool.{eq-eqb}
use Rattle.stateful_base.specs.Names.{Named}
use Rattle.stateful_base.specs.declared.digest.Digest.{Digest}
use Rattle.stateful_base.specs.declared.outcome.Moved.TheVariants.{Pending}
use Rattle.stateful_db.specs.Chain.{IsPoint}
use Rattle.stateful_db.specs.Works.{build_of}
use Rattle.stateful_history.specs.Past.{Past, Item, Came, Made, after}
use Rattle.stateful_history.specs.Asked.{kept_by}
use Rattle.stateful_history.specs.Jobs.{job_of, IsLiveJob, started_for, turns}
use Rattle.stateful_history.specs.declared.event.Event.TheVariants.{Cancel, Turn}
use Rattle.stateful_history.specs.declared.mark.How.{How}
use Rattle.stateful_history.specs.declared.mark.How.TheVariants.{Cancelled, Nothing}
use Rattle.stateful_history.specs.declared.mark.JobKind.{JobKind}
use Rattle.stateful_history.specs.declared.mark.JobKind.TheVariants.{Candidate, Build}
use Rattle.stateful_history.specs.declared.mark.Mark.TheVariants.{Ended, Declined}
use Rattle.stateful_table.specs.Table.{at}
use Rattle.stateful_exec_model.specs.Built.{HasTurn}
use Rattle.stateful_exec_model.specs.Workings.{Workings, Point}
use Rattle.stateful_exec_model.specs.declared.building.Building.{Building}
use Rattle.stateful_exec_tables.specs.declared.state.Tables.{Tables}
use Rattle.stateful_exec_tables.specs.declared.tables.LiveRun.{LiveRun}
use Rattle.stateful_exec_laws.specs.Setting.{setting}
use Rattle.stateful_exec_laws.specs.Building.{IsBuilding, BuildStands}
use Rattle.stateful_exec_laws.specs.Running.{IsRunning}
use Rattle.stateful_exec_laws.specs.Standing.{TablesStand}
use Rattle.stateful_exec_laws.proofs.runs.Removing.{All-at}
use Rattle.stateful_exec_laws.proofs.ended.Points.{Stacked-point}
use Rattle.stateful_exec_laws.proofs.ended.ConcludeStands.{declined-TellsOf, TablesStand-told}
use Rattle.stateful_exec_laws.proofs.runs.TurnedStands.{turn-LeavesJob, TablesStand-turn}
use Rattle.stateful_exec_laws.proofs.runs.Drawn.{started_below}
use Rattle.stateful_exec_laws.proofs.runs.Spared.{knows-calm, Moves-longer, TablesStand-spared}
use Rattle.stateful_exec_laws.proofs.runs.Sparing.{one_kind, live-ended_other, ended-Spares, cancel-TellsOf}
use Rattle.stateful_exec_laws.proofs.builds.Left.{BuildStands-spared}

module _ {B C I P R D H G U : Type 0} (w : Workings B C I P R D H G U) (stored : ℕ → Option (Named B)) (p : Past B C I) (points : Digest → Point w) (point : Point w) (next : w.Ids) (v : Tables B C I R U) (s : TablesStand w stored p points point next v) where
  -- a job that was started for something else than a candidate has no run in the table
  pub no_candidate : (j : ℕ) (kind : JobKind) (d : Digest) → started_for j p ≡ Some (job_of kind d) → kind ≢ Candidate → at v.runs j ≡ None
  no_candidate j kind d is other = go (at v.runs j) refl
    where
      go : (o : Option (LiveRun B R)) → at v.runs j ≡ o → o ≡ None
      go None none = refl
      go (Some run) there =
          let runs = All-at (λ (e : ℕ × LiveRun B R). IsRunning w stored p points next v.anchor v.cache e.0 e.1) v.runs j run there s.runs.each in
          absurd (other (one_kind kind Candidate d run.block.digest (sym is ∙ runs.job.is)))

  -- the tables stand after the turn of a job that was started for something else than a candidate
  pub TablesStand-turn_other : (j : ℕ) (kind : JobKind) (d : Digest) → started_for j p ≡ Some (job_of kind d) → kind ≢ Candidate → TablesStand w stored (Came (Turn j) ∷ p) points point next v
  TablesStand-turn_other j kind d is other = TablesStand-turn w stored p points point next v s j (no_candidate j kind d is other) (started_below p v.next_job v.next_fetch j (job_of kind d) s.numbers is)

  -- a turn of another job leaves the live build
  pub BuildStands-turn : (j : ℕ) (build : Option (Building B C D)) → IfSome build (λ b. b.job ≢ j) → BuildStands w stored p points next v build → BuildStands w stored (Came (Turn j) ∷ p) points next v build
  BuildStands-turn j None other h = record { each = tt; elsewhere = tt; complete = λ k d live. h.complete k d (record { live = live.live; is = live.is }) }
  BuildStands-turn j (Some b) other h = BuildStands-spared w stored p points next v (Came (Turn j)) (Some b) (record {
    built = λ d was. was;
    job = turn-LeavesJob p j b.job other;
    ticket = record { live = refl; verified = refl; proposed = refl };
    builds = λ k d live. record { live = live.live; is = live.is };
  }) h

  module _ (b : Building B C D) (h : BuildStands w stored p points next v (Some b)) where
    abbrev building : IsBuilding w stored p points next v.anchor v.cache b
    building = h.each

    -- the databases are in the chain of the build
    pub build-IsPoint : IsPoint point (points b.parent.digest ∷ building.below)
    build-IsPoint = subst (λ (x : Point w). IsPoint x (points b.parent.digest ∷ building.below)) s.at_anchor (Stacked-point w building.chain)

    -- the live build stands after a turn with which it goes on
    pub BuildStands-goes_on : (count : D → ℕ) (m : w.kind.Members) → w.kind.point m ≡ Some point → (turned : D) → HasTurn w count m b.build turned (Ok Pending) → BuildStands w stored (Came (Turn b.job) ∷ p) points next v (Some (record b { build = turned }))
    BuildStands-goes_on count m located turned had = record {
      each = record {
        input = building.input;
        proposal = record { live = building.proposal.live; proposes = building.proposal.proposes };
        job = record { live = building.job.live; is = building.job.is };
        met = inr building.met;
        at_hand = building.at_hand;
        below = building.below;
        chain = (Moves-longer w stored p (Came (Turn b.job)) (λ d was. was) points v.anchor v.cache).chain b.parent.digest _ building.at_hand building.chain;
        own = building.own;
        drawn = building.drawn;
        provider = building.provider;
        builds = rw (eq-eqb b.job b.job refl) (had.ends
            (build_of (record { kind = b.kind; context = b.context; parent = b.parent.block; input = building.input }) building.provider building.own (points b.parent.digest) building.below) (turns b.job p) point building.builds located build-IsPoint);
        unfinished = λ n is. rw (eq-eqb b.job b.job refl) (costs count m located turned had n is);
      };
      elsewhere = h.elsewhere;
      complete = λ j d live. h.complete j d (record { live = live.live; is = live.is });
    }
      where
        -- the turn wasn't the last one
        costs : (count : D → ℕ) (m : w.kind.Members) → w.kind.point m ≡ Some point → (turned : D) → HasTurn w count m b.build turned (Ok Pending) → (n : ℕ) → w.works.build_cost (record { kind = b.kind; context = b.context; parent = b.parent.block; input = building.input }) (points b.parent.digest).1 ≡ Some n → turns b.job p + 1 < n
        costs count m located turned had n is = rw is at (had.costs
            (build_of (record { kind = b.kind; context = b.context; parent = b.parent.block; input = building.input }) building.provider building.own (points b.parent.digest) building.below) (turns b.job p) point building.builds located build-IsPoint)

    -- no build is live after the end of this one
    pub BuildStands-over : (x : Item B C I) (how : How) → ((j : ℕ) (d : Digest) → IsLiveJob j Build d (x ∷ p) → IsLiveJob j Build d p) → BuildStands w stored (Made (Ended b.job how) ∷ x ∷ p) points next v None
    BuildStands-over x how before = record {
      each = tt;
      elsewhere = tt;
      complete = λ j d live. let other = live-ended_other (x ∷ p) b.job how Build j d live in other.0 (sym (h.complete j d (before j d other.1)));
    }

    -- the tables stand after the end of the build, in whatever way but with a block
    pub TablesStand-over : (x : Item B C I) (how : How) → at v.runs b.job ≡ None → (how ≡ Nothing) ⊎ (how ≡ Cancelled) → TablesStand w stored (x ∷ p) points point next v → TablesStand w stored (Made (Ended b.job how) ∷ x ∷ p) points point next v
    TablesStand-over x how none is stands =
        TablesStand-spared w stored (x ∷ p) (Made (Ended b.job how)) points point next v
        (ended-Spares w stored (x ∷ p) b.job how (knows-calm w stored (x ∷ p) (Made (Ended b.job how)) (record { tip = refl; starts_none = tt; built = λ d was. was; kept = kept_none is })) v none) stands
      where
        kept_none : (how ≡ Nothing) ⊎ (how ≡ Cancelled) → kept_by (x ∷ p) (Made (Ended b.job how)) ≡ None
        kept_none (inl nothing) = rw nothing refl
        kept_none (inr cancelled) = rw cancelled refl

    -- the tables stand after a build that has ended without a block, and behind the decline of its request
    pub TablesStand-nothing : TablesStand w stored (after (Came (Turn b.job) ∷ p) (Ended b.job Nothing ∷ Declined b.ticket ∷ [])) points point next v
    TablesStand-nothing =
        TablesStand-told w stored (Made (Ended b.job Nothing) ∷ Came (Turn b.job) ∷ p) points point next v b.ticket
        (TablesStand-over (Came (Turn b.job)) Nothing (no_candidate b.job Build b.parent.digest building.job.is (λ is. cc)) (inl refl)
        (TablesStand-turn_other b.job Build b.parent.digest building.job.is (λ is. cc)))
        (Made (Declined b.ticket)) (declined-TellsOf (setting w stored) (Made (Ended b.job Nothing) ∷ Came (Turn b.job) ∷ p) b.ticket) h.elsewhere.absent h.elsewhere.not_queued

    pub BuildStands-nothing : BuildStands w stored (after (Came (Turn b.job) ∷ p) (Ended b.job Nothing ∷ Declined b.ticket ∷ [])) points next v None
    BuildStands-nothing =
        let over = BuildStands-over (Came (Turn b.job)) Nothing (λ j d live. record { live = live.live; is = live.is }) in
        record { each = tt; elsewhere = tt; complete = λ j d live. over.complete j d (record { live = live.live; is = live.is }) }

    -- the tables stand after the cancel of the build's request
    pub TablesStand-given_up : TablesStand w stored (after (Came (Cancel b.ticket) ∷ p) (Ended b.job Cancelled ∷ [])) points point next v
    TablesStand-given_up =
        TablesStand-over (Came (Cancel b.ticket)) Cancelled (no_candidate b.job Build b.parent.digest building.job.is (λ is. cc)) (inr refl)
        (TablesStand-told w stored p points point next v b.ticket s (Came (Cancel b.ticket)) (cancel-TellsOf (setting w stored) p b.ticket) h.elsewhere.absent h.elsewhere.not_queued)

    pub BuildStands-given_up : BuildStands w stored (after (Came (Cancel b.ticket) ∷ p) (Ended b.job Cancelled ∷ [])) points next v None
    BuildStands-given_up = BuildStands-over (Came (Cancel b.ticket)) Cancelled (λ j d live. record { live = live.live; is = live.is })
