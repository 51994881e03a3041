-- What a play takes of a world.
use Rattle.std.specs.Prelude.{ℕ, List}
use Rattle.stateful_base.specs.declared.round.Round.{Round}
use Rattle.stateful_db.specs.Databases.{Databases}
use Rattle.stateful_bank.specs.BankBlock.{block_header}
use Rattle.stateful_bank.specs.declared.ask.Ask.{Ask}
use Rattle.stateful_bank.specs.declared.block.BankBlock.{BankBlock}
use Rattle.stateful_bank_app.specs.Rules.{Rules}
use Rattle.stateful_bank_app.specs.Works.{bank_works}
use Rattle.stateful_bank_app.specs.declared.build.BankBuild.{BankBuild}
use Rattle.stateful_bank_app.specs.declared.hook.BankHook.{BankHook}
use Rattle.stateful_bank_app.specs.declared.run.BankRun.{BankRun}
use Rattle.stateful_exec_model.specs.Workings.{Workings, workings}
use Rattle.stateful_loop_model.specs.Intake.{Counts}

pub record Grounds (Drafts Sealed Sets : Type 0) : Type 1 where
  pub Ids : Type 0
  pub States : Type 0
  pub Targets : Type 0
  -- what blocks do to the states
  pub rules : Rules States Targets
  -- a batch of these ids changes this, over a chain whose first point is its parent
  pub holds : Drafts → rules.Changes → Ids → Ids × States → List (Ids × States) → Type 0
  -- what the databases mean
  pub kind : Databases Ids States Targets
  -- the sealed batch stands on this chain
  pub shows : Sealed → List (Ids × States) → Type 0
  -- all that is known of the databases, but for the next ids; these; and how often the database of a
  -- number has failed
  pub members : Sets → kind.Members
  pub next : Sets → Ids
  pub counted : Sets → ℕ → ℕ
  -- the databases are closed on empty media, on which no call was made and none is to fail
  pub Blank : Sets → Type 0

module _ {Drafts Sealed Sets : Type 0} (g : Grounds Drafts Sealed Sets) where
  -- the bank over these databases, as the definitions of the machine take it
  abbrev pub bank : Workings BankBlock Round Ask (Unit {0}) (BankRun Drafts) (BankBuild Drafts)
      BankHook (Unit {0}) Sealed
  bank = workings block_header (λ b. b.round) (λ round. round)
      (bank_works g.rules g.holds g.kind.target_of) g.kind g.shows

-- how often the bank's runs, builds and hooks have failed
abbrev pub bank_counts : {Drafts : Type 0} → Counts (BankRun Drafts) (BankBuild Drafts) BankHook
bank_counts =
    record { run = λ run. run.faults; build = λ build. build.faults; hook = λ hook. 0 }
