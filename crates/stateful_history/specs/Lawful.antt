-- Lawful events: what consensus, the block store and the application are trusted with.
use Rattle.std.specs.Prelude.{◌≡◌, ◌≤◌, ◌⊎◌, ℕ, nat_lt, true, if◌then◌else◌, Option, Some, None, []}
use Rattle.std.specs.Prelude.{◌∷◌}
use Rattle.stateful_base.specs.Names.{Header, Named}
use Rattle.stateful_base.specs.Anchor.{anchor_by}
use Rattle.stateful_base.specs.Round.{IsLater}
use Rattle.stateful_base.specs.declared.round.Round.{Round}
use Rattle.stateful_base.specs.declared.anchor.Anchor.{Anchor}
use Rattle.stateful_base.specs.declared.outcome.Handoff.{Handoff}
use Rattle.stateful_base.specs.declared.outcome.Handoff.TheVariants.{Wait, Vote, Stage}
use Rattle.stateful_history.specs.Setting.{Setting, round_of}
use Rattle.stateful_history.specs.Telling.{Telling}
use Rattle.stateful_history.specs.Past.{Past, Came, Made}
use Rattle.stateful_history.specs.Opening.{opening}
use Rattle.stateful_history.specs.Met.{Met}
use Rattle.stateful_history.specs.Live.{may_come}
use Rattle.stateful_history.specs.States.{HasState}
use Rattle.stateful_history.specs.Joined.{Matches}
use Rattle.stateful_history.specs.Honest.{IsHonest}
use Rattle.stateful_history.specs.Ancestors.{IsOnPath}
use Rattle.stateful_history.specs.Finalizations.{IsChildOf}
use Rattle.stateful_history.specs.Refusals.{WasFinalized}
use Rattle.stateful_history.specs.declared.event.Event.{Event}
use Rattle.stateful_history.specs.declared.event.Event.TheVariants.{Prepare, Propose, Finalized}
use Rattle.stateful_history.specs.declared.event.Event.TheVariants.{Fetched, Turn, Restart}
use Rattle.stateful_history.specs.declared.mark.Mark.TheVariants.{Opened}
use Rattle.stateful_history.specs.Asked.{asked_digest}
use Rattle.stateful_history.specs.Requests.{Proposal, asked_by, IsLiveProposal}
use Rattle.stateful_history.specs.Jobs.{IsLiveJob}
use Rattle.stateful_history.specs.declared.mark.JobKind.TheVariants.{Build}

-- the anchor of the block, where it is higher
abbrev pub higher : {B : Type 0} → Header B → Option Anchor → Named B → Option Anchor
higher header None b = None
higher header (Some last) b =
    if nat_lt last.height.0 (header.height b.block) then Some (anchor_by header b) else Some last

-- the block that a handoff hands over
abbrev pub handed_block : {B : Type 0} → Handoff B → Option B
handed_block Wait = None
handed_block (Vote b) = Some b
handed_block (Stage b) = Some b

module _ {B C I : Type 0} where
  -- the highest of the opening's block and of the blocks that were finalized since the last restart
  abbrev pub highest : Header B → Past B C I → Option Anchor
  highest header [] = None
  highest header (Came (Restart floor keep) ∷ p) = None
  highest header (Made (Opened anchor) ∷ p) = Some anchor
  highest header (Came (Finalized t b) ∷ p) = higher header (highest header p) b
  highest header (item ∷ p) = highest header p

module _ {B C I S T : Type 0} (s : Setting B S T) (a : Telling B C I S) (round_by : C → Round)
    (base : S) (p : Past B C I) where
  -- the block is one above the highest final one, its child, and matches its states
  pub record IsNextFinal (b : Named B) : Type 0 where
    pub last : Anchor
    pub is_last : highest s.header p ≡ Some last
    pub child : IsChildOf s.header last b
    pub before : S
    pub has_state : HasState s base p last.digest before
    pub after : S
    pub matches : Matches s before b after

  -- the block is the opening's, or an ancestor of it, which isn't higher, and at its height is the
  -- opening's
  pub record IsBehindStart (b : Named B) : Type 0 where
    pub start : Anchor
    pub is_start : opening p ≡ Some start
    pub block : Named B
    pub met : Met s p block
    pub is : block.digest ≡ start.digest
    pub on_path : IsOnPath s p block b.digest
    pub low : s.header.height b.block ≤ start.height.0
    pub same : s.header.height b.block ≡ start.height.0 → b.digest ≡ start.digest

  -- a block may be finalized: it is the next one, or was finalized before, or lies behind the start
  abbrev pub MayFinalize : Named B → Type 0
  MayFinalize b = IsNextFinal b ⊎ (WasFinalized p b ⊎ IsBehindStart b)

  -- the block is a child of the parent that the request names, of the round that it names, and
  -- matches the parent's states
  pub record FitsRequest (r : Proposal B C I) (before : S) (b : B) : Type 0 where
    pub parent : s.header.parent b ≡ r.parent.digest
    pub round : s.header.round b ≡ round_by r.context
    pub after : S
    pub step : s.meaning.step before b ≡ Some after
    pub targets : s.target_of after ≡ s.meaning.targets b

  -- whatever block a build for a live request gives fits it
  abbrev pub BuildsFit : ℕ → Type 0
  BuildsFit j = (t : ℕ) (r : Proposal B C I) (before : S) (given : Handoff B) (b : B)
      → IsLiveProposal t p r
      → IsLiveJob j Build r.parent.digest p
      → HasState s base p r.parent.digest before
      → a.gives (asked_by r) before given
      → handed_block given ≡ Some b
      → FitsRequest r before b

  -- what the event brings is true: finalized blocks follow one another, a proposal's round is later
  -- than its parent's, a fetch is answered with the asked block, a build gives what it was asked
  -- for, and at a restart some receipt may wait
  abbrev pub BringsTruth : Event B C I → Type 0
  BringsTruth (Finalized t b) = MayFinalize b
  BringsTruth (Prepare t context ancestry input) =
      IsLater (round_of s ancestry.first) (round_by context)
  BringsTruth (Propose t context ancestry input) =
      IsLater (round_of s ancestry.first) (round_by context)
  BringsTruth (Fetched f (Some b)) = asked_digest f p ≡ Some b.digest
  BringsTruth (Turn j) = BuildsFit j
  BringsTruth (Restart floor keep) = 1 ≤ floor.max_pending_acks
  BringsTruth event = Unit {0}

  -- the event may come, its ancestry is one of parents, and what it brings is true
  pub record IsLawful (count : ℕ) (event : Event B C I) : Type 0 where
    pub may_come : may_come count p event ≡ true
    pub linked : IsHonest s (Came event ∷ [])
    pub true_of : BringsTruth event

module _ {B C I S T : Type 0} (s : Setting B S T) (a : Telling B C I S) (round_by : C → Round)
    (base : S) (count : ℕ) where
  -- each event since the last restart was lawful when it came
  abbrev pub LawfulSince : Past B C I → Type 0
  LawfulSince [] = Unit {0}
  LawfulSince (Came (Restart floor keep) ∷ p) = Unit {0}
  LawfulSince (Came event ∷ p) = IsLawful s a round_by base p count event × LawfulSince p
  LawfulSince (item ∷ p) = LawfulSince p
