-- Marks after the last turn of a build that gave a block: it was a live build, and its live proposal is answered with what it gave.
use Rattle.std.proofs.Common.{◌≡◌, inl, inr, ℕ, List, [], ◌∷◌, Option, Some, Ok, MatchOption, refl, sym, subst}
use Rattle.stateful_base.specs.Names.{Named}
use Rattle.stateful_base.specs.declared.anchor.Anchor.{Anchor}
use Rattle.stateful_base.specs.declared.digest.Digest.{Digest}
use Rattle.stateful_base.specs.declared.outcome.Handoff.{Handoff}
use Rattle.stateful_base.specs.declared.outcome.Handoff.TheVariants as handed
use Rattle.stateful_base.specs.declared.outcome.Moved.TheVariants.{Done}
use Rattle.stateful_db.specs.Works.{build_of}
use Rattle.stateful_db.specs.declared.application.ProposalKind.{ProposalKind}
use Rattle.stateful_db.specs.declared.application.ProposalKind.TheVariants as kinds
use Rattle.stateful_db.specs.declared.application.ProposedBlock.{ProposedBlock}
use Rattle.stateful_history.specs.Answers.{EndsLive, AnsweredIsBuilt, IsGiven}
use Rattle.stateful_history.specs.Jobs.{JobOf, IsLiveJob}
use Rattle.stateful_history.specs.Past.{Past, Came, EachMark}
use Rattle.stateful_history.specs.Requests.{Proposal, asked_by, IsLiveProposal}
use Rattle.stateful_history.specs.Runs.{BuildIsAnswered, EndsAsItsKind}
use Rattle.stateful_history.specs.Telling.{telling_of}
use Rattle.stateful_history.specs.declared.event.Event.TheVariants.{Turn}
use Rattle.stateful_history.specs.declared.mark.Decision.{Decision}
use Rattle.stateful_history.specs.declared.mark.Decision.TheVariants as decision
use Rattle.stateful_history.specs.declared.mark.JobKind.TheVariants.{Build}
use Rattle.stateful_history.specs.declared.mark.Mark.{Mark}
use Rattle.stateful_history.specs.declared.mark.Mark.TheVariants.{Built, Answered}
use Rattle.stateful_exec_model.specs.Built.{HasTurn, Gives, decided}
use Rattle.stateful_exec_model.specs.Moments.{Moment}
use Rattle.stateful_exec_model.specs.Workings.{Workings, Point}
use Rattle.stateful_exec_model.specs.declared.building.Building.{Building}
use Rattle.stateful_exec_laws.specs.Setting.{setting}
use Rattle.stateful_exec_laws.specs.Chains.{Chain}
use Rattle.stateful_exec_laws.proofs.requests.KeptMarks.{KeepsBehind}
use Rattle.stateful_exec_laws.proofs.reasons.Built.{HasState-given, in_chain}
use Rattle.stateful_exec_laws.proofs.reasons.Ground.{IsGround}

module _ {B C I P R D H G U : Type 0} (w : Workings B C I P R D H G U) (stored : ℕ → Option (Named B)) (base : w.States) (p : Past B C I) (points : Digest → Point w) (point : Point w) (tip : Anchor) (m : Moment w)
    (g : IsGround w stored base p points point m.next tip m.state.pause m.state.anchor m.state.cache) (located : w.kind.point m.members ≡ Some point)
    (b : Building B C D) (r : Proposal B C I) (kind_is : r.kind ≡ b.kind) (proposal : IsLiveProposal b.ticket p r) (job : IsLiveJob b.job Build r.parent.digest p)
    (below : List (Point w)) (chain : Chain w stored p points m.state.anchor.digest r.parent.digest (points r.parent.digest ∷ below))
    (own : w.Ids) (provider : P) (n : ℕ) (builds : w.works.building b.build (build_of (asked_by r) provider own (points r.parent.digest) below) n) where
  abbrev given : Past B C I
  given = Came (Turn b.job) ∷ p

  abbrev Before : w.States
  Before = (points r.parent.digest).1

  -- what a turn that gave the block hands over, for what it was asked
  abbrev Gave : Handoff B → Type 0
  Gave h = w.works.gives (asked_by r) Before h

  -- the mark ends or answers a live request, and a live job as its kind
  abbrev pub IsAnswer : Past B C I → Mark B → Type 0
  IsAnswer q mark = EndsLive (setting w stored) q mark × AnsweredIsBuilt (setting w stored) (telling_of w.works) base q mark × EndsAsItsKind (Turn b.job) q mark

  given_for : (handed : Decision) (block : Named B) → ((kind : ProposalKind) → r.kind ≡ kind → IsGiven (setting w stored) (telling_of w.works) (record r { kind = kind }) Before (decided kind handed) block)
      → IsGiven (setting w stored) (telling_of w.works) r Before (decided b.kind handed) block
  given_for handed block f = subst (λ (k : ProposalKind). IsGiven (setting w stored) (telling_of w.works) r Before (decided k handed) block) kind_is (f r.kind refl)

  voted : (block : Named B) → Gave (handed.Vote block.block) → IsGiven (setting w stored) (telling_of w.works) r Before (decided b.kind decision.Vote) block
  voted block gave = given_for decision.Vote block go
    where
      go : (kind : ProposalKind) → r.kind ≡ kind → IsGiven (setting w stored) (telling_of w.works) (record r { kind = kind }) Before (decided kind decision.Vote) block
      go kinds.Prepare is = subst (λ (k : ProposalKind). w.works.gives (asked_by (record r { kind = k })) Before (handed.Vote block.block)) is gave
      go kinds.Propose is = inl (subst (λ (k : ProposalKind). w.works.gives (asked_by (record r { kind = k })) Before (handed.Vote block.block)) is gave)

  staged : (block : Named B) → Gave (handed.Stage block.block) → IsGiven (setting w stored) (telling_of w.works) r Before (decided b.kind decision.Stage) block
  staged block gave = given_for decision.Stage block go
    where
      go : (kind : ProposalKind) → r.kind ≡ kind → IsGiven (setting w stored) (telling_of w.works) (record r { kind = kind }) Before (decided kind decision.Stage) block
      go kinds.Prepare is = subst (λ (k : ProposalKind). w.works.gives (asked_by (record r { kind = k })) Before (handed.Stage block.block)) is gave
      go kinds.Propose is = inr (subst (λ (k : ProposalKind). w.works.gives (asked_by (record r { kind = k })) Before (handed.Stage block.block)) is gave)

  -- the marks that a block was built and answered
  answers : (block : Named B) (says : Decision) → IsGiven (setting w stored) (telling_of w.works) r Before says block → EachMark IsAnswer given (Built b.job b.ticket block ∷ Answered b.ticket says block ∷ [])
  answers block says is = (
    (tt, tt, (job.live, subst (λ (o : Option JobOf). MatchOption o ⊥ (λ k. k.kind ≡ Build)) (sym job.is) refl, refl)),
    (
      ((
        (r, record { live = proposal.live; proposes = proposal.proposes }),
        record {
          job = b.job;
          before = given;
          built = refl;
          request = r;
          asked = proposal.proposes;
          state = Before;
          has_state = HasState-given w stored base p points point tip m g b r below chain;
          given = is;
        },
        tt,
      )),
      tt,
    ),
  )

  module _ (count : D → ℕ) (turned : D) (block : ProposedBlock B U) (now : Moment w) where
    -- Each mark after the last turn of a build that gave a block to vote on, or to stage, is such.
    pub voted-answer : HasTurn w count m.members b.build turned (Ok (Done (handed.Vote block))) → Gives w (record b { build = turned }) m block decision.Vote now → KeepsBehind w IsAnswer given m now
    voted-answer turn gives =
        let hands = turn.ends (build_of (asked_by r) provider own (points r.parent.digest) below) n point builds located (in_chain w stored base p points point tip m g b r below chain) in
        rw gives.becomes (record { more = _; marks_are = refl; each = answers gives.block (decided b.kind decision.Vote) (voted gives.block (subst (λ (x : B). Gave (handed.Vote x)) (sym gives.built.named.same) hands.gives)) })

    pub staged-answer : HasTurn w count m.members b.build turned (Ok (Done (handed.Stage block))) → Gives w (record b { build = turned }) m block decision.Stage now → KeepsBehind w IsAnswer given m now
    staged-answer turn gives =
        let hands = turn.ends (build_of (asked_by r) provider own (points r.parent.digest) below) n point builds located (in_chain w stored base p points point tip m g b r below chain) in
        rw gives.becomes (record { more = _; marks_are = refl; each = answers gives.block (decided b.kind decision.Stage) (staged gives.block (subst (λ (x : B). Gave (handed.Stage x)) (sym gives.built.named.same) hands.gives)) })

    -- and the block is answered at once
    pub built-answered : (built : Named B) (says : Decision) → BuildIsAnswered given (Built b.job b.ticket built) (Some (Answered b.ticket says built))
    built-answered built says = (r, record { live = proposal.live; proposes = proposal.proposes }, job.is, (refl, refl))
