-- Fetches: which are outstanding, and the rules on them.
use Rattle.std.specs.Prelude.{◌≡◌, ◌<◌, ℕ, ◌⊎◌, true, Option, Some, None, List, [], ◌∷◌, Any}
use Rattle.std.specs.Prelude.{MatchOption}
use Rattle.stateful_base.specs.Names.{Named}
use Rattle.stateful_base.specs.declared.digest.Digest.{Digest}
use Rattle.stateful_history.specs.Setting.{Setting, parent_of, height_of}
use Rattle.stateful_history.specs.Past.{Past, Came, Made}
use Rattle.stateful_history.specs.Anchors.{tip_of}
use Rattle.stateful_history.specs.Asked.{asked_for}
use Rattle.stateful_history.specs.Canonical.{canonical}
use Rattle.stateful_history.specs.Live.{live_fetch}
use Rattle.stateful_history.specs.Ancestors.{IsCircular}
use Rattle.stateful_history.specs.Reasons.{Missing}
use Rattle.stateful_history.specs.Requests.{IsLiveRequest, subject}
use Rattle.stateful_history.specs.Prunes.{PruneRule, HasPending}
use Rattle.stateful_history.specs.Stops.{IsStopped}
use Rattle.stateful_history.specs.declared.event.Event.{Event}
use Rattle.stateful_history.specs.declared.event.Event.TheVariants.{Cancel, Fetched}
use Rattle.stateful_history.specs.declared.mark.Mark.{Mark}
use Rattle.stateful_history.specs.declared.mark.Mark.TheVariants.{Asked, Withdrawn, Applied, Pruned}
use Rattle.stateful_history.specs.declared.mark.Mark.TheVariants.{Began}

abbrev pub IsBegan : {B : Type 0} → Mark B → Type 0
IsBegan (Began t b) = Unit {0}
IsBegan mark = ⊥

module _ {B C I : Type 0} where
  -- the ticket has a live fetch
  pub record HasFetch (t : ℕ) (p : Past B C I) : Type 0 where
    pub fetch : ℕ
    pub live : live_fetch fetch p ≡ true
    pub own : asked_for fetch p ≡ Some (Some t)

  -- a fetch of the ticket was answered none, and nothing was applied or pruned since
  abbrev pub WasAnsweredNone : ℕ → Past B C I → Type 0
  WasAnsweredNone t [] = ⊥
  WasAnsweredNone t (Made (Applied b) ∷ p) = ⊥
  WasAnsweredNone t (Made (Pruned marshal target) ∷ p) = ⊥
  WasAnsweredNone t (Came (Fetched f None) ∷ p) =
      (asked_for f p ≡ Some (Some t)) ⊎ WasAnsweredNone t p
  WasAnsweredNone t (item ∷ p) = WasAnsweredNone t p

  -- this digest was asked for the ticket, and nothing was applied or pruned since
  abbrev pub WasAsked : ℕ → Digest → Past B C I → Type 0
  WasAsked t d [] = ⊥
  WasAsked t d (Made (Applied b) ∷ p) = ⊥
  WasAsked t d (Made (Pruned marshal target) ∷ p) = ⊥
  WasAsked t d (Made (Asked f (Some u) digest) ∷ p) = ((t ≡ u) × (d ≡ digest)) ⊎ WasAsked t d p
  WasAsked t d (item ∷ p) = WasAsked t d p

module _ {B C I S T : Type 0} (s : Setting B S T) where
  -- a block below the tip's height, where no finalized block of its height is at hand
  abbrev pub IsUndecided : Past B C I → Named B → Type 0
  IsUndecided p b =
      MatchOption (tip_of s.header p) ⊥
      (λ tip. (height_of s b < tip.height.0) × (canonical s p (height_of s b) ≡ None))

  -- the verification waits for nothing that was begun: its fetch was answered none, or its block's
  -- height is undecided
  abbrev pub Abstains : ℕ → Past B C I → Named B → Type 0
  Abstains t p b = WasAnsweredNone t p ⊎ IsUndecided p b

  -- A fetch is asked for a live request, and for the parent of a block that its subject is missing.
  -- It isn't asked again before something is applied or pruned, but where its block is a proper
  -- ancestor of itself.
  abbrev pub AskedIsNeeded : S → Past B C I → Mark B → Type 0
  AskedIsNeeded base p (Asked f (Some t) d) =
      IsLiveRequest t p
      × MatchOption (subject t p) ⊥
      (λ b. (x : Named B) × Missing s base p b x × (d ≡ parent_of s x))
      × (WasAsked t d p → IsCircular s p d)
  AskedIsNeeded base p mark = Unit {0}

module _ {B C I S T : Type 0} (s : Setting B S T) (rule : Option (PruneRule T))
    (event : Event B C I) (marks : List (Mark B)) where
  -- why a fetch is withdrawn in this entry: its request is cancelled, the machine stops or starts,
  -- a finalization begins, or a prune is due
  abbrev pub MayWithdraw : Past B C I → ℕ → Type 0
  MayWithdraw p f =
      ((t : ℕ) × (event ≡ Cancel t) × (asked_for f p ≡ Some (Some t)))
      ⊎ (IsStopped event marks
      ⊎ (Any IsBegan marks
      ⊎ HasPending s rule p))

  abbrev pub WithdrawnHasCause : Past B C I → Mark B → Type 0
  WithdrawnHasCause p (Withdrawn f) = (live_fetch f p ≡ true) × MayWithdraw p f
  WithdrawnHasCause p mark = Unit {0}
