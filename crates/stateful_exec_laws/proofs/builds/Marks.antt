-- The marks of builds keep their rules.
use Rattle.std.proofs.Common.{◌≡◌, inl, inr, ℕ, [], ◌∷◌, Option, Some, None, Ok, refl, sym, ap, ◌∙◌, subst}
use Rattle.stateful_base.specs.Names.{Named}
use Rattle.stateful_base.specs.declared.digest.Digest.{Digest}
use Rattle.stateful_base.specs.declared.outcome.Handoff.{Handoff}
use Rattle.stateful_base.specs.declared.outcome.Handoff.TheVariants as handed
use Rattle.stateful_base.specs.declared.outcome.Moved.TheVariants.{Done}
use Rattle.stateful_db.specs.declared.application.ProposalKind.{ProposalKind}
use Rattle.stateful_db.specs.declared.application.ProposalKind.TheVariants as kinds
use Rattle.stateful_history.specs.Answers.{EndsLive, IsGiven, AnsweredIsBuilt}
use Rattle.stateful_history.specs.Declines.{DeclinedHasReason}
use Rattle.stateful_history.specs.Jobs.{IsLiveJob, job_of, started_for}
use Rattle.stateful_history.specs.Known.{Known}
use Rattle.stateful_history.specs.Past.{Past, Came, EachMark, EachNext}
use Rattle.stateful_history.specs.Requests.{Proposal as Asks, IsLiveProposal}
use Rattle.stateful_history.specs.Runs.{StartsWell, EndsAsItsKind, CancelledHasCause, BuildIsAnswered}
use Rattle.stateful_history.specs.States.{HasState}
use Rattle.stateful_history.specs.Telling.{telling_of}
use Rattle.stateful_history.specs.declared.event.Event.TheVariants.{Cancel, Turn}
use Rattle.stateful_history.specs.declared.mark.Decision.{Decision}
use Rattle.stateful_history.specs.declared.mark.Decision.TheVariants as decision
use Rattle.stateful_history.specs.declared.mark.How.TheVariants.{Cancelled, Nothing}
use Rattle.stateful_history.specs.declared.mark.JobKind.TheVariants.{Build}
use Rattle.stateful_history.specs.declared.mark.Mark.TheVariants.{Started, Ended, Built, Answered, Declined}
use Rattle.stateful_exec_model.specs.Building.{StartsBuild}
use Rattle.stateful_exec_model.specs.Built.{decided, HasTurn}
use Rattle.stateful_exec_model.specs.Workings.{Workings, Point}
use Rattle.stateful_exec_model.specs.declared.building.Building.{Building}
use Rattle.stateful_exec_tables.specs.declared.state.Tables.{Tables}
use Rattle.stateful_exec_laws.specs.Setting.{setting}
use Rattle.stateful_exec_laws.specs.Building.{IsBuilding, BuildStands}
use Rattle.stateful_exec_laws.specs.Standing.{TablesStand}
use Rattle.stateful_exec_laws.proofs.ended.Told.{IsPlain, known_at_hand}
use Rattle.stateful_exec_laws.proofs.runs.Removing.{All-at}
use Rattle.stateful_exec_laws.proofs.builds.Turns.{build-IsPoint}

-- how a block is answered that was handed over so
abbrev pub IsHandedAs : {B : Type 0} → Handoff B → Decision → B → Type 0
IsHandedAs handed.Wait d b = ⊥
IsHandedAs (handed.Vote x) d b = (d ≡ decision.Vote) × (x ≡ b)
IsHandedAs (handed.Stage x) d b = (d ≡ decision.Stage) × (x ≡ b)

module _ {B C I P R D H G U : Type 0} (w : Workings B C I P R D H G U) (stored : ℕ → Option (Named B)) (base : w.States) (p : Past B C I) (points : Digest → Point w) (point : Point w) (next : w.Ids) (v : Tables B C I R U) (s : TablesStand w stored p points point next v) where
  -- a build starts well: on a known parent, where no other one is live, for a live request
  pub started-StartsWell : (t : ℕ) (provider : P) (members : w.kind.Members) (now : w.Ids) (new : Tables B C I R U) (build : Option (Building B C D)) (starts : StartsBuild w t provider members next now v new build) → IsPlain v.pause → BuildStands w stored p points next v None
      → StartsWell (setting w stored) p (Started v.next_job Build starts.proposal.ancestry.first.digest)
  started-StartsWell t provider members now new build starts plain none =
      let asked = All-at (λ (e : ℕ × _). IsLiveProposal e.0 p (record { kind = e.1.kind; context = e.1.context; parent = e.1.ancestry.first; input = e.1.input })) v.queued t starts.proposal starts.ready.queued s.queue.each in (
        (known_at_hand v.anchor (λ d. Known (setting w stored) p d) v.pause plain v.cache s.cache.knows starts.proposal.ancestry.first.digest).1 starts.ready.known,
        λ k e live. none.complete k e live,
        (t, record { kind = starts.proposal.kind; context = starts.proposal.context; parent = starts.proposal.ancestry.first; input = starts.proposal.input }, asked, refl),
      )

  -- at the end of an entry the live build has a live request for a block on its parent
  pub builds-wanted : (build : Option (Building B C D)) → BuildStands w stored p points next v build → (j : ℕ) (d : Digest) → IsLiveJob j Build d p → (t : ℕ) × (r : Asks B C I) × IsLiveProposal t p r × (r.parent.digest ≡ d)
  builds-wanted None h j d live = absurd (h.complete j d live)
  builds-wanted (Some b) h j d live =
      let own : started_for j p ≡ Some (job_of Build b.parent.digest) = ap (λ k. started_for k p) (sym (h.complete j d live)) ∙ h.each.job.is in
      let same : Some (job_of Build b.parent.digest) ≡ Some (job_of Build d) = sym own ∙ live.is in
      let jobs : job_of Build b.parent.digest ≡ job_of Build d = search in
      (b.ticket, record { kind = b.kind; context = b.context; parent = b.parent; input = h.each.input }, h.each.proposal, ap (λ o. o.digest) jobs)

  module _ (b : Building B C D) (h : BuildStands w stored p points next v (Some b)) where
    abbrev building : IsBuilding w stored p points next v.anchor v.cache b
    building = h.each

    abbrev asks : Asks B C I
    asks = record { kind = b.kind; context = b.context; parent = b.parent; input = building.input }

    abbrev q : Past B C I
    q = Came (Turn b.job) ∷ p

    -- the build is cancelled with its request
    pub given_up-EndsAsItsKind : EachMark (EndsAsItsKind (Cancel b.ticket)) (Came (Cancel b.ticket) ∷ p) (Ended b.job Cancelled ∷ [])
    given_up-EndsAsItsKind = ((building.job.live, rw building.job.is refl, inl refl), tt)

    pub given_up-CancelledHasCause : EachMark (CancelledHasCause (setting w stored) (Cancel b.ticket) (Ended b.job Cancelled ∷ [])) (Came (Cancel b.ticket) ∷ p) (Ended b.job Cancelled ∷ [])
    given_up-CancelledHasCause = (inl (b.ticket, refl, rw building.job.is (inr (refl, rw building.proposal.proposes refl))), tt)

    -- it ends without a block in its own turn, and its request is declined, for which no block is given on its parent's states
    pub nothing-EndsAsItsKind : EachMark (EndsAsItsKind (Turn b.job)) (Came (Turn b.job) ∷ p) (Ended b.job Nothing ∷ Declined b.ticket ∷ [])
    nothing-EndsAsItsKind = ((building.job.live, rw building.job.is refl, inr refl), (tt, tt))

    pub nothing-BuildIsAnswered : EachNext BuildIsAnswered (Came (Turn b.job) ∷ p) (Ended b.job Nothing ∷ Declined b.ticket ∷ [])
    nothing-BuildIsAnswered = ((b.ticket, asks, record { live = building.proposal.live; proposes = building.proposal.proposes }, building.job.is, refl), tt)

    pub nothing-EndsLive : EachMark (EndsLive (setting w stored)) (Came (Turn b.job) ∷ p) (Ended b.job Nothing ∷ Declined b.ticket ∷ [])
    nothing-EndsLive = (tt, ((asks, record { live = building.proposal.live; proposes = building.proposal.proposes }), tt))

    module _ (has_state : HasState (setting w stored) base (Came (Turn b.job) ∷ p) b.parent.digest (points b.parent.digest).1) where
      pub nothing-DeclinedHasReason : (count : D → ℕ) (m : w.kind.Members) → w.kind.point m ≡ Some point → (turned : D) → HasTurn w count m b.build turned (Ok (Done handed.Wait))
          → EachMark (DeclinedHasReason (setting w stored) (telling_of w.works) base (Turn b.job) (Ended b.job Nothing ∷ Declined b.ticket ∷ [])) (Came (Turn b.job) ∷ p) (Ended b.job Nothing ∷ Declined b.ticket ∷ [])
      nothing-DeclinedHasReason count m located turned had = (
        tt,
        (
          rw building.proposal.proposes (inr (inr (inr (inr (record {
            job = b.job;
            before = q;
            ended = refl;
            started = building.job.is;
            state = (points b.parent.digest).1;
            has_state = has_state;
            declines = had.ends _ _ point building.builds located (build-IsPoint w stored p points point next v s b h);
          }))))),
          tt,
        ),
      )

      -- a block that was built answers the request as it was handed over
      pub built-AnsweredIsBuilt : (block : Named B) (given : Handoff B) (d : Decision) → IsHandedAs given d block.block → w.works.gives (record { kind = b.kind; context = b.context; parent = b.parent.block; input = building.input }) (points b.parent.digest).1 given
          → EachMark (AnsweredIsBuilt (setting w stored) (telling_of w.works) base) (Came (Turn b.job) ∷ p) (Built b.job b.ticket block ∷ Answered b.ticket (decided b.kind d) block ∷ [])
      built-AnsweredIsBuilt block given d handed_as gives = (
        tt,
        (
          record {
            job = b.job;
            before = q;
            built = refl;
            request = asks;
            asked = building.proposal.proposes;
            state = (points b.parent.digest).1;
            has_state = has_state;
            given = by b.kind given d handed_as gives;
          },
          tt,
        ),
      )
        where
          by : (kind : ProposalKind) (x : Handoff B) (e : Decision) → IsHandedAs x e block.block → w.works.gives (record { kind = kind; context = b.context; parent = b.parent.block; input = building.input }) (points b.parent.digest).1 x
              → IsGiven (setting w stored) (telling_of w.works) (record { kind = kind; context = b.context; parent = b.parent; input = building.input }) (points b.parent.digest).1 (decided kind e) block
          by kind handed.Wait e so g = absurd so
          by kinds.Prepare (handed.Vote x) e so g = rw so.0 (subst (λ y. w.works.gives (record { kind = kinds.Prepare; context = b.context; parent = b.parent.block; input = building.input }) (points b.parent.digest).1 (handed.Vote y)) so.1 g)
          by kinds.Prepare (handed.Stage x) e so g = rw so.0 (subst (λ y. w.works.gives (record { kind = kinds.Prepare; context = b.context; parent = b.parent.block; input = building.input }) (points b.parent.digest).1 (handed.Stage y)) so.1 g)
          by kinds.Propose (handed.Vote x) e so g = inl (subst (λ y. w.works.gives (record { kind = kinds.Propose; context = b.context; parent = b.parent.block; input = building.input }) (points b.parent.digest).1 (handed.Vote y)) so.1 g)
          by kinds.Propose (handed.Stage x) e so g = inr (subst (λ y. w.works.gives (record { kind = kinds.Propose; context = b.context; parent = b.parent.block; input = building.input }) (points b.parent.digest).1 (handed.Stage y)) so.1 g)

    pub built-EndsAsItsKind : (block : Named B) (d : Decision) → EachMark (EndsAsItsKind (Turn b.job)) (Came (Turn b.job) ∷ p) (Built b.job b.ticket block ∷ Answered b.ticket d block ∷ [])
    built-EndsAsItsKind block d = ((building.job.live, rw building.job.is refl, refl), (tt, tt))

    pub built-BuildIsAnswered : (block : Named B) (d : Decision) → EachNext BuildIsAnswered (Came (Turn b.job) ∷ p) (Built b.job b.ticket block ∷ Answered b.ticket d block ∷ [])
    built-BuildIsAnswered block d = ((asks, record { live = building.proposal.live; proposes = building.proposal.proposes }, building.job.is, (refl, refl)), tt)

    pub built-EndsLive : (block : Named B) (d : Decision) → EachMark (EndsLive (setting w stored)) (Came (Turn b.job) ∷ p) (Built b.job b.ticket block ∷ Answered b.ticket d block ∷ [])
    built-EndsLive block d = (tt, ((asks, record { live = building.proposal.live; proposes = building.proposal.proposes }), tt))
