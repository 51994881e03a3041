-- What the queue keeps beside: the parent of each proposal is known, or can't be made known.
use Rattle.std.specs.Prelude.{◌⊎◌, ℕ, Option, List, All}
use Rattle.stateful_base.specs.Names.{Named}
use Rattle.stateful_history.specs.Known.{Known, IsPastTip}
use Rattle.stateful_history.specs.Met.{Met}
use Rattle.stateful_history.specs.Past.{Past}
use Rattle.stateful_history.specs.Reasons.{Missing, IsCovered}
use Rattle.stateful_history.specs.Setting.{parent_of}
use Rattle.stateful_exec_model.specs.Workings.{Workings}
use Rattle.stateful_exec_walk.specs.declared.request.Proposal.{Proposal}
use Rattle.stateful_exec_laws.specs.Setting.{setting}

module _ {B C I P R D H G U : Type 0} (w : Workings B C I P R D H G U)
    (stored : ℕ → Option (Named B)) (base : w.States) (p : Past B C I) where
  -- a missing block of it isn't later than the tip, and stands on a known one, or is no higher than
  -- the tip
  pub record IsLost (b : Named B) : Type 0 where
    pub first : Named B
    pub missing : Missing (setting w stored) base p b first
    pub met : Met (setting w stored) p first
    pub late : IsPastTip (setting w stored) p first → ⊥
    pub because : Known (setting w stored) p (parent_of (setting w stored) first)
        ⊎ IsCovered (setting w stored) base p first

  -- the parent of each queued proposal is known or lost
  abbrev pub QueueReaches : List (ℕ × Proposal B C I) → Type 0
  QueueReaches queued =
      All
      (λ e. Known (setting w stored) p e.1.ancestry.first.digest ⊎ IsLost e.1.ancestry.first) queued
