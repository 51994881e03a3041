-- Declines have their reasons: that of a build that ended without a block.
use Rattle.std.proofs.Common.{◌≡◌, inl, inr, ℕ, List, ◌∷◌, Option, Some, Ok, MatchOption, refl, sym, subst}
use Rattle.stateful_base.specs.Names.{Named}
use Rattle.stateful_base.specs.declared.anchor.Anchor.{Anchor}
use Rattle.stateful_base.specs.declared.digest.Digest.{Digest}
use Rattle.stateful_base.specs.declared.outcome.Handoff.TheVariants as handed
use Rattle.stateful_base.specs.declared.outcome.Moved.TheVariants.{Done}
use Rattle.stateful_db.specs.Chain.{IsPoint}
use Rattle.stateful_db.specs.Works.{build_of}
use Rattle.stateful_history.specs.Declines.{MayDecline, DeclinedHasReason}
use Rattle.stateful_history.specs.Jobs.{IsLiveJob}
use Rattle.stateful_history.specs.Past.{Past, Came, Made}
use Rattle.stateful_history.specs.Requests.{Proposal, asked_by, IsLiveProposal}
use Rattle.stateful_history.specs.Runs.{BuildIsAnswered, EndsAsItsKind}
use Rattle.stateful_history.specs.States.{HasState}
use Rattle.stateful_history.specs.Telling.{telling_of}
use Rattle.stateful_history.specs.declared.event.Event.{Event}
use Rattle.stateful_history.specs.declared.event.Event.TheVariants.{Turn}
use Rattle.stateful_history.specs.declared.mark.How.TheVariants.{Nothing}
use Rattle.stateful_history.specs.declared.mark.JobKind.TheVariants.{Build}
use Rattle.stateful_history.specs.declared.mark.Mark.{Mark}
use Rattle.stateful_history.specs.declared.mark.Mark.TheVariants.{Ended, Declined}
use Rattle.stateful_exec_model.specs.Built.{HasTurn, EndsBuild}
use Rattle.stateful_exec_model.specs.Moments.{Moment}
use Rattle.stateful_exec_model.specs.Workings.{Workings, Point}
use Rattle.stateful_exec_model.specs.declared.building.Building.{Building}
use Rattle.stateful_exec_laws.specs.Setting.{setting}
use Rattle.stateful_exec_laws.specs.Chains.{Chain}
use Rattle.stateful_exec_laws.proofs.ended.Points.{Stacked-point}
use Rattle.stateful_exec_laws.proofs.requests.KeptMarks.{KeepsBehind}
use Rattle.stateful_exec_laws.proofs.reasons.Ground.{IsGround, HasState-on}
use Rattle.stateful_exec_laws.proofs.reasons.Marks.{HasItsReason}
use Rattle.stateful_exec_laws.proofs.requests.SamePast.{HasState-same}

module _ {B C I P R D H G U : Type 0} (w : Workings B C I P R D H G U) (stored : ℕ → Option (Named B)) (base : w.States) (p : Past B C I) (points : Digest → Point w) (point : Point w) (tip : Anchor) (m : Moment w)
    (g : IsGround w stored base p points point m.next tip m.state.pause m.state.anchor m.state.cache) (b : Building B C D) (r : Proposal B C I)
    (below : List (Point w)) (chain : Chain w stored p points m.state.anchor.digest r.parent.digest (points r.parent.digest ∷ below)) where
  -- the databases are in the build's chain
  pub in_chain : IsPoint point (points r.parent.digest ∷ below)
  in_chain = subst (λ (x : Point w). IsPoint x (points r.parent.digest ∷ below)) g.at_anchor (Stacked-point w chain)

  -- the states of its parent are those before the build, in its turn too
  pub HasState-given : HasState (setting w stored) base (Came (Turn b.job) ∷ p) r.parent.digest (points r.parent.digest).1
  HasState-given =
      HasState-same (setting w stored) p (Came (Turn b.job) ∷ p) (record { met = λ x. (λ h. elim h [ inl none ↦ absurd none | inr old ↦ old ], λ h. inr h); anchor = refl; tip = refl; blocks = refl; pruned = refl }) base r.parent.digest (points r.parent.digest).1
      (HasState-on w stored base p points point m.next tip m.state.pause m.state.anchor m.state.cache g chain)

module _ {B C I P R D H G U : Type 0} (w : Workings B C I P R D H G U) (stored : ℕ → Option (Named B)) (base : w.States) (p : Past B C I) (points : Digest → Point w) (point : Point w) (tip : Anchor) (m : Moment w)
    (g : IsGround w stored base p points point m.next tip m.state.pause m.state.anchor m.state.cache) (located : w.kind.point m.members ≡ Some point)
    (b : Building B C D) (r : Proposal B C I) (proposal : IsLiveProposal b.ticket p r) (job : IsLiveJob b.job Build r.parent.digest p)
    (below : List (Point w)) (chain : Chain w stored p points m.state.anchor.digest r.parent.digest (points r.parent.digest ∷ below))
    (own : w.Ids) (provider : P) (n : ℕ) (builds : w.works.building b.build (build_of (asked_by r) provider own (points r.parent.digest) below) n) where
  abbrev given : Past B C I
  given = Came (Turn b.job) ∷ p

  -- the build of a live proposal ended without a block: that it is declined has its reason
  module _ (event : Event B C I) (all : List (Mark B)) where
    nothing-built : w.works.gives (asked_by r) (points r.parent.digest).1 handed.Wait → DeclinedHasReason (setting w stored) (telling_of w.works) base event all (Made (Ended b.job Nothing) ∷ given) (Declined b.ticket)
    nothing-built none =
        subst (λ (o : Option (Proposal B C I)). MatchOption o ⊥ (λ x. MayDecline (setting w stored) (telling_of w.works) base event all (Made (Ended b.job Nothing) ∷ given) b.ticket x)) (sym proposal.proposes)
        (inr (inr (inr (inr (record {
          job = b.job;
          before = given;
          ended = refl;
          started = job.is;
          state = (points r.parent.digest).1;
          has_state = HasState-given w stored base p points point tip m g b r below chain;
          declines = none;
        })))))

    -- Each mark after the last turn of a build that gave no block keeps the rule on reasons.
    pub built-reason : (count : D → ℕ) (turned : D) → HasTurn w count m.members b.build turned (Ok (Done handed.Wait)) → (now : Moment w) → EndsBuild w (record b { build = turned }) m handed.Wait now → KeepsBehind w (HasItsReason w stored base event all) given m now
    built-reason count turned turn now ends =
        rw ends (record { more = _; marks_are = refl; each = ((tt, tt), ((tt, nothing-built (turn.ends (build_of (asked_by r) provider own (points r.parent.digest) below) n point builds located (in_chain w stored base p points point tip m g b r below chain))), tt)) })

  -- and the build ends as one, and is followed at once by the decline of its request
  pub ended-nothing : EndsAsItsKind (Turn b.job) given (Ended b.job Nothing) × BuildIsAnswered given (Ended b.job Nothing) (Some (Declined b.ticket))
  ended-nothing = ((job.live, rw job.is refl, inr refl), (b.ticket, r, record { live = proposal.live; proposes = proposal.proposes }, job.is, refl))
