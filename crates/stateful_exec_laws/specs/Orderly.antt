-- What tickets and runs of a past keep, whatever the tables are.
use Rattle.std.specs.Prelude.{◌≡◌, ℕ, false, Option}
use Rattle.stateful_base.specs.Names.{Named}
use Rattle.stateful_base.specs.declared.digest.Digest.{Digest}
use Rattle.stateful_history.specs.Answers.{was_cancelled}
use Rattle.stateful_history.specs.Past.{Past}
use Rattle.stateful_history.specs.Requests.{IsLiveRequest}
use Rattle.stateful_history.specs.Runs.{MayRunAgain}
use Rattle.stateful_exec_model.specs.Workings.{Workings}
use Rattle.stateful_exec_laws.specs.Outstanding.{TicketsApart}
use Rattle.stateful_exec_laws.specs.Setting.{setting}

module _ {B C I : Type 0} where
  -- no live request was cancelled
  abbrev pub IsUncancelled : Past B C I → Type 0
  IsUncancelled p = (t : ℕ) → IsLiveRequest t p → was_cancelled t p ≡ false

module _ {B C I P R D H G U : Type 0} (w : Workings B C I P R D H G U)
    (stored : ℕ → Option (Named B)) where
  -- A ticket is that of one event, no live request was cancelled, and a run that ended in vain is
  -- started again only for another request.
  pub record IsOrderly (p : Past B C I) : Type 0 where
    pub apart : TicketsApart p
    pub live : IsUncancelled p
    pub again : (d : Digest) → MayRunAgain (setting w stored) p d
