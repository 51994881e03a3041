-- Finalized blocks that wait in the loop: they follow one another from the anchor on.
use Rattle.std.specs.Prelude.{◌≡◌, ◌≤◌, ◌++◌, ◌∷◌, [], ℕ, true, Option, Some, None, List}
use Rattle.stateful_base.specs.Names.{Header, Named}
use Rattle.stateful_base.specs.Anchor.{anchor_by}
use Rattle.stateful_base.specs.Round.{IsLater}
use Rattle.stateful_base.specs.declared.anchor.Anchor.{Anchor}
use Rattle.stateful_base.specs.declared.round.Round.{Round}
use Rattle.stateful_history.specs.Anchors.{applied, anchor_of}
use Rattle.stateful_history.specs.Finalizations.{IsChildOf}
use Rattle.stateful_history.specs.Joined.{Matches}
use Rattle.stateful_history.specs.Lawful.{highest, LawfulSince}
use Rattle.stateful_history.specs.Opening.{opening}
use Rattle.stateful_history.specs.Past.{Past}
use Rattle.stateful_history.specs.Refusals.{WasFinalized}
use Rattle.stateful_history.specs.Requests.{Proposal, IsLiveProposal}
use Rattle.stateful_history.specs.Setting.{Setting}
use Rattle.stateful_history.specs.States.{fold}
use Rattle.stateful_history.specs.Telling.{telling_of}
use Rattle.stateful_exec_model.specs.Finalizing.{IsRedelivered}
use Rattle.stateful_exec_model.specs.Workings.{Workings}
use Rattle.stateful_exec_model.specs.declared.front.Front.{Front}
use Rattle.stateful_exec_model.specs.declared.front.Stage.{Stage}
use Rattle.stateful_exec_model.specs.declared.front.Stage.TheVariants.{Begun, Running, Ran, Advanced}
use Rattle.stateful_exec_model.specs.declared.front.Stage.TheVariants.{Hooking}
use Rattle.stateful_exec_laws.specs.Setting.{setting}
use Rattle.stateful_loop_model.specs.Moments.{Moment}
use Rattle.stateful_loop_model.specs.declared.message.Action.{Action}
use Rattle.stateful_loop_model.specs.declared.message.Action.TheVariants as action
use Rattle.stateful_loop_model.specs.declared.message.Message.{Message}
use Rattle.stateful_loop_model.specs.declared.message.Message.TheVariants as message
use Rattle.stateful_actor_laws.specs.Machine.{numbered}

module _ {B C I : Type 0} where
  -- the finalized block that a message hands over, if it does
  abbrev pub final_in : Message B C I → List (Named B)
  final_in (message.Finalized t b) = b ∷ []
  final_in x = []

  abbrev pub final_under : Action B C I → List (Named B)
  final_under (action.Message x) = final_in x
  final_under (action.Build t) = []

  -- the finalized blocks that these messages hand over, in their order
  abbrev pub finals_in : List (Message B C I) → List (Named B)
  finals_in [] = []
  finals_in (x ∷ xs) = final_in x ++ finals_in xs

  abbrev pub finals_under : List (Action B C I) → List (Named B)
  finals_under [] = []
  finals_under (x ∷ xs) = final_under x ++ finals_under xs

module _ {B S T : Type 0} (s : Setting B S T) (top : Anchor) (last : S) where
  -- These blocks follow one another from a block with its states on: each is the next child and
  -- matches the states, or isn't higher, and at the block's height is the block itself. So they
  -- lead up to the top, with its states.
  pub data LeadsUp : Anchor → S → List (Named B) → Type 0 where
    there : LeadsUp top last []
    next : {head : Anchor} {before after : S} {b : Named B} {bs : List (Named B)}
        → IsChildOf s.header head b
        → Matches s before b after
        → LeadsUp (anchor_by s.header b) after bs
        → LeadsUp head before (b ∷ bs)
    again : {head : Anchor} {before : S} {b : Named B} {bs : List (Named B)}
        → IsRedelivered s.header head b
        → LeadsUp head before bs → LeadsUp head before (b ∷ bs)

module _ {B S T : Type 0} (s : Setting B S T) (anchor : Anchor) (now : S) where
  -- the head is the anchor, with its states
  pub record IsAtAnchor (head : Anchor) (before : S) : Type 0 where
    pub head_is : head ≡ anchor
    pub before_is : before ≡ now

  -- the head is the block whose finalization goes on: a child of the anchor, which matches its
  -- states
  pub record IsAbove (b : Named B) (head : Anchor) (before : S) : Type 0 where
    pub head_is : head ≡ anchor_by s.header b
    pub child : IsChildOf s.header anchor b
    pub matches : Matches s now b before

module _ {B S T R U H : Type 0} (s : Setting B S T) (anchor : Anchor) (now : S) where
  abbrev pub HeadAt : Named B → Stage R U H → Anchor → S → Type 0
  HeadAt b Begun = IsAbove s anchor now b
  HeadAt b (Running j run) = IsAbove s anchor now b
  HeadAt b (Ran batch) = IsAbove s anchor now b
  HeadAt b Advanced = IsAtAnchor s anchor now
  HeadAt b (Hooking j hook) = IsAtAnchor s anchor now

  -- where the finalized blocks that wait begin: above the block in front, or above the anchor
  abbrev pub HeadIs : Option (Front B R U H) → Anchor → S → Type 0
  HeadIs None = IsAtAnchor s anchor now
  HeadIs (Some front) = HeadAt front.block front.stage

-- each live request to build is for a later round than that of its parent
abbrev pub RoundsAscend : {B C I : Type 0} → Header B → (C → Round) → Past B C I → Type 0
RoundsAscend {B} {C} {I} header round_by p = (t : ℕ) (r : Proposal B C I) → IsLiveProposal t p r
    → IsLater (header.round r.parent.block) (round_by r.context)

-- the finalized blocks that wait at a moment, in the order in which they will be taken
abbrev pub finals_at : {B C I P R D H G U : Type 0} (w : Workings B C I P R D H G U)
    → Moment w
    → List (Named B)
finals_at w m = finals_under m.loop.actions ++ finals_in m.loop.queue

module _ {B C I P R D H G U : Type 0} (w : Workings B C I P R D H G U)
    (stored : ℕ → Option (Named B)) where
  -- from the block in front or the anchor on, the finalized blocks that wait lead up to the top
  pub record LeadsAt (anchor : Anchor) (now : w.States) (top : Anchor) (last : w.States)
      (m : Moment w) : Type 0 where
    pub head : Anchor
    pub before : w.States
    pub front : HeadIs (setting w stored) anchor now m.execution.front head before
    pub leads : LeadsUp (setting w stored) top last head before (finals_at w m)

  module _ (base : w.States) (p : Past B C I) where
    -- The finalized blocks that wait lead up to the highest one. Each block that was finalized
    -- since the last restart isn't higher than the highest one, and nor is the opening's; and at
    -- its height it is the highest one. Each live request to build is for a later round than that
    -- of its parent.
    pub record IsAhead (m : Moment w) : Type 0 where
      pub anchor : Anchor
      pub now : w.States
      pub anchored : anchor_of w.header p ≡ Some anchor
      pub folded : fold (setting w stored) (Some base) (applied p) ≡ Some now
      pub top : Anchor
      pub last : w.States
      pub top_is : highest w.header p ≡ Some top
      pub waits : LeadsAt anchor now top last m
      pub finalized : (b : Named B) → WasFinalized p b → IsRedelivered w.header top b
      pub opened : (start : Anchor) → opening p ≡ Some start
          → (start.height.0 ≤ top.height.0)
          × (start.height.0 ≡ top.height.0 → start.digest ≡ top.digest)
      pub rounds : RoundsAscend w.header w.round_of p

    -- so it is where each event since the last restart was lawful, as long as the machine is up
    abbrev pub IsAheadLawfully : Moment w → Type 0
    IsAheadLawfully m = m.loop.up ≡ true
        → LawfulSince (setting w stored) (telling_of w.works) w.round_of base
        (numbered w.kind.count) p
        → IsAhead m
