-- Marks that end requests and receipts, and what a build is answered with.
use Rattle.std.specs.Prelude.{◌≡◌, ◌≢◌, ◌⊎◌, ℕ, ◌==◌, Bool, false, ◌||◌, Option, Some, None, []}
use Rattle.std.specs.Prelude.{◌∷◌, MatchOption}
use Rattle.stateful_base.specs.Names.{Named}
use Rattle.stateful_base.specs.declared.outcome.Handoff.TheVariants as handed
use Rattle.stateful_db.specs.declared.application.ProposalKind.{ProposalKind}
use Rattle.stateful_db.specs.declared.application.ProposalKind.TheVariants as kinds
use Rattle.stateful_history.specs.Setting.{Setting, height_of}
use Rattle.stateful_history.specs.Telling.{Telling}
use Rattle.stateful_history.specs.Past.{Past, Came, Made}
use Rattle.stateful_history.specs.Asked.{finalized}
use Rattle.stateful_history.specs.Opening.{opening, is_handing_over}
use Rattle.stateful_history.specs.Live.{live_ticket}
use Rattle.stateful_history.specs.States.{HasState}
use Rattle.stateful_history.specs.Requests.{Proposal, asked_by, proposed, IsLiveReceipt}
use Rattle.stateful_history.specs.Requests.{IsLiveVerification, IsLiveProposal, IsLiveSubscription}
use Rattle.stateful_history.specs.declared.event.Event.TheVariants.{Cancel}
use Rattle.stateful_history.specs.declared.mark.Decision.{Decision}
use Rattle.stateful_history.specs.declared.mark.Decision.TheVariants.{Block, Vote, Stage}
use Rattle.stateful_history.specs.declared.mark.Mark.{Mark}
use Rattle.stateful_history.specs.declared.mark.Mark.TheVariants.{Asked, Built, Verdict, Answered}
use Rattle.stateful_history.specs.declared.mark.Mark.TheVariants.{Declined, Databases, Began}
use Rattle.stateful_history.specs.declared.mark.Mark.TheVariants.{Acknowledged, Dropped}

-- the ticket that the mark names
abbrev pub ticket_of : {B : Type 0} → Mark B → Option ℕ
ticket_of (Asked f ticket digest) = ticket
ticket_of (Built j t b) = Some t
ticket_of (Verdict t valid) = Some t
ticket_of (Answered t decision b) = Some t
ticket_of (Declined t) = Some t
ticket_of (Databases t) = Some t
ticket_of (Began t b) = Some t
ticket_of (Acknowledged t height) = Some t
ticket_of (Dropped t) = Some t
ticket_of mark = None

module _ {B C I : Type 0} where
  abbrev pub was_cancelled : ℕ → Past B C I → Bool
  was_cancelled t [] = false
  was_cancelled t (Came (Cancel u) ∷ p) = (t == u) || was_cancelled t p
  was_cancelled t (item ∷ p) = was_cancelled t p

  -- no mark names a request that was cancelled
  abbrev pub NamesNoCancelled : Past B C I → Mark B → Type 0
  NamesNoCancelled p mark = MatchOption (ticket_of mark) (Unit {0}) (λ t. was_cancelled t p ≡ false)

module _ {B C I S T : Type 0} (s : Setting B S T) where
  -- A mark that ends a request or receipt names a live one of the kind that it answers. A receipt
  -- is acknowledged at its block's height, and a subscription is answered where the databases are
  -- there.
  abbrev pub EndsLive : Past B C I → Mark B → Type 0
  EndsLive p (Verdict t valid) = (b : Named B) × IsLiveVerification t p b
  EndsLive p (Answered t decision b) = (r : Proposal B C I) × IsLiveProposal t p r
  EndsLive p (Declined t) = (r : Proposal B C I) × IsLiveProposal t p r
  EndsLive p (Databases t) =
      IsLiveSubscription t p × (opening p ≢ None) × (is_handing_over p ≡ false)
  EndsLive p (Acknowledged t height) =
      IsLiveReceipt t p × MatchOption (finalized t p) ⊥ (λ b. height.0 ≡ height_of s b)
  EndsLive p (Dropped t) = live_ticket t p ≢ None
  EndsLive p mark = Unit {0}

  module _ (a : Telling B C I S) where
    -- how the application handed the block over: a proposed block is meant alike by both words
    abbrev pub IsGiven : Proposal B C I → S → Decision → Named B → Type 0
    IsGiven r t decision b = GivenFor r.kind decision
      where
        GivenFor : ProposalKind → Decision → Type 0
        GivenFor kinds.Prepare Vote = a.gives (asked_by r) t (handed.Vote b.block)
        GivenFor kinds.Prepare Stage = a.gives (asked_by r) t (handed.Stage b.block)
        GivenFor kinds.Prepare Block = ⊥
        GivenFor kinds.Propose Block =
            a.gives (asked_by r) t (handed.Vote b.block)
            ⊎ a.gives (asked_by r) t (handed.Stage b.block)
        GivenFor kinds.Propose decision = ⊥

    -- a block that was just built for this request, on its parent's states, and handed over so
    pub record IsBuiltFor (base : S) (p : Past B C I) (t : ℕ) (decision : Decision)
        (b : Named B) : Type 0 where
      pub job : ℕ
      pub before : Past B C I
      pub built : p ≡ Made (Built job t b) ∷ before
      pub request : Proposal B C I
      pub asked : proposed t before ≡ Some request
      pub state : S
      pub has_state : HasState s base before request.parent.digest state
      pub given : IsGiven request state decision b

    -- a request to build is answered with the block that was just built for it
    abbrev pub AnsweredIsBuilt : S → Past B C I → Mark B → Type 0
    AnsweredIsBuilt base p (Answered t decision b) = IsBuiltFor base p t decision b
    AnsweredIsBuilt base p mark = Unit {0}
