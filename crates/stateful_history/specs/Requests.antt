-- What requests ask for, and which of them are live.
use Rattle.std.specs.Prelude.{◌≡◌, ℕ, ◌==◌, Bool, true, false, ◌||◌, if◌then◌else◌, Option, Some}
use Rattle.std.specs.Prelude.{None, [], ◌∷◌, option_map, MatchOption}
use Rattle.stateful_base.specs.Names.{Named}
use Rattle.stateful_base.specs.declared.digest.Digest.{Digest}
use Rattle.stateful_db.specs.Works as works
use Rattle.stateful_db.specs.declared.application.ProposalKind.{ProposalKind}
use Rattle.stateful_db.specs.declared.application.ProposalKind.TheVariants as kinds
use Rattle.stateful_history.specs.Setting.{Setting}
use Rattle.stateful_history.specs.Past.{Past, Came}
use Rattle.stateful_history.specs.Asked.{verified}
use Rattle.stateful_history.specs.Live.{live_ticket}
use Rattle.stateful_history.specs.Ancestors.{IsOnPath}
use Rattle.stateful_history.specs.declared.ticket.Ticket.TheVariants.{Request, Receipt}
use Rattle.stateful_history.specs.declared.event.Event.TheVariants.{Prepare, Propose, Subscribe}

-- a request to build a block on this parent
pub record Proposal (B C I : Type 0) : Type 0 where
  pub kind : ProposalKind
  pub context : C
  pub parent : Named B
  pub input : I

module _ {B C I : Type 0} where
  -- what an application is asked for by it
  abbrev pub asked_by : Proposal B C I → works.Asked B C I
  asked_by r =
      record { kind = r.kind; context = r.context; parent = r.parent.block; input = r.input }

  -- what the request of this ticket asks to build
  abbrev pub proposed : ℕ → Past B C I → Option (Proposal B C I)
  proposed t [] = None
  proposed t (Came (Prepare u context ancestry input) ∷ p) =
      if t == u then Some
      (record
      { kind = kinds.Prepare; context = context; parent = ancestry.first; input = input })
      else proposed t p
  proposed t (Came (Propose u context ancestry input) ∷ p) =
      if t == u then Some
      (record
      { kind = kinds.Propose; context = context; parent = ancestry.first; input = input })
      else proposed t p
  proposed t (item ∷ p) = proposed t p

  -- the ticket is that of a subscription
  abbrev pub subscribed : ℕ → Past B C I → Bool
  subscribed t [] = false
  subscribed t (Came (Subscribe u) ∷ p) = (t == u) || subscribed t p
  subscribed t (item ∷ p) = subscribed t p

  -- the parent of the block that a request asks to build
  abbrev pub parent_by : Option (Proposal B C I) → Option (Named B)
  parent_by proposal = option_map (λ r. r.parent) proposal

  -- the block that has to be known before the request is answered: the one that it asks to judge,
  -- or the parent of the one that it asks to build
  abbrev pub subject : ℕ → Past B C I → Option (Named B)
  subject t p = MatchSubject (verified t p) (proposed t p)
    where
      MatchSubject : Option (Named B) → Option (Proposal B C I) → Option (Named B)
      MatchSubject (Some b) proposal = Some b
      MatchSubject None proposal = parent_by proposal

  abbrev pub IsLiveRequest : ℕ → Past B C I → Type 0
  IsLiveRequest t p = live_ticket t p ≡ Some Request

  abbrev pub IsLiveReceipt : ℕ → Past B C I → Type 0
  IsLiveReceipt t p = live_ticket t p ≡ Some Receipt

  -- a live request to judge this block
  pub record IsLiveVerification (t : ℕ) (p : Past B C I) (b : Named B) : Type 0 where
    pub live : IsLiveRequest t p
    pub verifies : verified t p ≡ Some b

  -- a live request to build
  pub record IsLiveProposal (t : ℕ) (p : Past B C I) (r : Proposal B C I) : Type 0 where
    pub live : IsLiveRequest t p
    pub proposes : proposed t p ≡ Some r

  -- a live request to be told when the databases are there
  pub record IsLiveSubscription (t : ℕ) (p : Past B C I) : Type 0 where
    pub live : IsLiveRequest t p
    pub subscribes : subscribed t p ≡ true

  module _ {S T : Type 0} (s : Setting B S T) where
    -- the block of this digest is the request's subject, or an ancestor of it
    abbrev pub StandsOn : Past B C I → ℕ → Digest → Type 0
    StandsOn p t d = MatchOption (subject t p) ⊥ (λ b. IsOnPath s p b d)
