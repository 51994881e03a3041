-- What the tables keep beside, for all that is unanswered to wait for outstanding work.
use Rattle.std.specs.Prelude.{◌≡◌, ◌≢◌, ◌<◌, ℕ, Option, None, Some, List, All}
use Rattle.stateful_base.specs.Names.{Named}
use Rattle.stateful_base.specs.declared.outcome.Finality.TheVariants as finality
use Rattle.stateful_history.specs.Asked.{verified}
use Rattle.stateful_history.specs.Jobs.{turns}
use Rattle.stateful_history.specs.Past.{Past}
use Rattle.stateful_history.specs.Requests.{proposed}
use Rattle.stateful_history.specs.Setting.{parent_of}
use Rattle.stateful_history.specs.States.{HasState}
use Rattle.stateful_exec_model.specs.Workings.{Workings}
use Rattle.stateful_exec_tables.specs.declared.tables.LiveRun.{LiveRun}
use Rattle.stateful_exec_laws.specs.Setting.{setting}

-- a ticket is that of one event: a request to build is none to judge
abbrev pub TicketsApart : {B C I : Type 0} → Past B C I → Type 0
TicketsApart p = (t : ℕ) → proposed t p ≢ None → verified t p ≡ None

module _ {B C I P R D H G U : Type 0} (w : Workings B C I P R D H G U)
    (stored : ℕ → Option (Named B)) (base : w.States) (p : Past B C I) where
  -- the run was turned less often than it takes turns on its parent's states, where that is told
  abbrev pub GoesOnTurning : ℕ → LiveRun B R → Type 0
  GoesOnTurning j run =
      (t : w.States)
      → HasState (setting w stored) base p (parent_of (setting w stored) run.block) t
      → (n : ℕ)
      → w.works.run_cost finality.Candidate t run.block.block ≡ Some n
      → turns j p < n

  -- so it is for each live run
  abbrev pub RunsGoOn : List (ℕ × LiveRun B R) → Type 0
  RunsGoOn runs = All (λ e. GoesOnTurning e.0 e.1) runs
