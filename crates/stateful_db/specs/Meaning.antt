-- What an application means.
use Rattle.std.specs.Prelude.{◌≡◌, Bool, true, false, Option, Some, None}
use Rattle.stateful_base.specs.declared.outcome.Finality.{Finality}
use Rattle.stateful_base.specs.declared.outcome.Finality.TheVariants.{Candidate, Finalized}
use Rattle.stateful_base.specs.declared.outcome.Moved.{Moved}
use Rattle.stateful_base.specs.declared.outcome.Moved.TheVariants.{Pending, Done}

pub record Meaning (Block States Targets : Type 0) : Type 0 where
  -- the states after a block, where it leads from the states before to any
  pub step : States → Block → Option States
  -- whether the block is acceptable on the states before it
  pub accept : States → Block → Bool
  -- what the block commits to
  pub targets : Block → Targets

module _ {Block States Targets : Type 0} (m : Meaning Block States Targets) where
  -- the states that a run of the block ends with: a candidate has to be acceptable too
  abbrev pub outcome : Finality → States → Block → Option States
  outcome Candidate s b = accepted (m.accept s b)
    where
      accepted : Bool → Option States
      accepted true = m.step s b
      accepted false = None
  outcome Finalized s b = m.step s b

-- a turn goes on, or ends without a batch where there are no states, or with a batch that shows the
-- states
abbrev pub Ends : {M S : Type 0} → Moved (Option M) → Option S → (M → S → Type 0) → Type 0 → Type 0
Ends Pending o Shows GoesOn = GoesOn
Ends (Done None) o Shows GoesOn = o ≡ None
Ends (Done (Some batch)) None Shows GoesOn = ⊥
Ends (Done (Some batch)) (Some s) Shows GoesOn = Shows batch s
