-- What the bank does to the states of a world.
use Rattle.std.specs.Prelude.{ℕ, List, Option, Some}
use Rattle.std.specs.Option.{option_map}
use Rattle.stateful_base.specs.declared.target.Target.{Target}
use Rattle.stateful_db.specs.Meaning.{Meaning}
use Rattle.stateful_bank.specs.declared.op.Op.{Op}
use Rattle.stateful_bank.specs.declared.block.BankBlock.{BankBlock}
use Rattle.stateful_bank.specs.Op.{accept}
use Rattle.stateful_bank.specs.Accounts as accounts

pub record Rules (States Targets : Type 0) : Type 1 where
  -- what operations change
  pub Changes : Type 0
  -- what is changed on these states before the first operation
  pub none : States → Changes
  -- what an account has on these states, with these changes
  pub balance : States → Changes → ℕ → ℕ
  -- the changes, with this balance of the account
  pub with_balance : Changes → ℕ → ℕ → Changes
  -- the states behind a block of these operations at this height, which change this
  pub sealed : States → Changes → List Op → ℕ → States
  -- the targets of the databases, one behind the other
  pub listed : Targets → List Target
  -- what a block commits to that has these targets
  pub committed : List Target → Targets

module _ {States Targets : Type 0} (w : Rules States Targets) where
  -- changes on these states, as states of accounts, each of which can be read
  abbrev pub book_on : States → accounts.Book
  book_on s = record {
    State = w.Changes;
    balance = λ changes account. Some (w.balance s changes account);
    with_balance = w.with_balance;
  }

  -- what these operations change, where each is allowed
  abbrev pub changes_of : States → List Op → Option w.Changes
  changes_of s ops = accounts.do_ops (book_on s) (w.none s) ops

  -- the turns of a run or a build of these operations
  abbrev pub turns_of : States → List Op → ℕ
  turns_of s ops = accounts.run_turns (book_on s) (w.none s) ops

  -- the states behind a block of these operations at this height, where each is allowed
  abbrev pub stepped : States → List Op → ℕ → Option States
  stepped s ops height = option_map (λ changes. w.sealed s changes ops height) (changes_of s ops)

  -- blocks of the bank
  abbrev pub bank_meaning : Meaning BankBlock States Targets
  bank_meaning = record {
    step = λ s b. stepped s b.ops b.height.0;
    accept = λ s b. accept b.ops;
    targets = λ b. w.committed b.targets;
  }
