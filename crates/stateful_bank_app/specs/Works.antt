-- How the bank works in a world.
use Rattle.std.proofs.Common.{◌≡◌, ◌<◌, ℕ, max, List, Some, subst}
use Rattle.std.proofs.Math.Nat.{le-max_left}
use Rattle.std.proofs.lemmas.Option.{same_Some}
use Rattle.stateful_base.specs.declared.round.Round.{Round}
use Rattle.stateful_db.specs.Works.{Works, TakesTurns}
use Rattle.stateful_bank.specs.declared.ask.Ask.{Ask}
use Rattle.stateful_bank.specs.declared.block.BankBlock.{BankBlock}
use Rattle.stateful_bank_app.specs.Rules.{Rules, bank_meaning, turns_of}
use Rattle.stateful_bank_app.specs.Runs.{IsRun}
use Rattle.stateful_bank_app.specs.Builds.{bank_gives, IsBuild}
use Rattle.stateful_bank_app.specs.Hooks.{IsLeft}
use Rattle.stateful_bank_app.specs.declared.run.BankRun.{BankRun}
use Rattle.stateful_bank_app.specs.declared.build.BankBuild.{BankBuild}
use Rattle.stateful_bank_app.specs.declared.hook.BankHook.{BankHook}

at_least_one : (x n : ℕ) → Some (max 1 x) ≡ Some n → 0 < n
at_least_one x n is = subst (λ (m : ℕ). 0 < m) (same_Some (max 1 x) n is) (le-max_left 1 x)

module _ {U Ids States Targets : Type 0} (w : Rules States Targets)
    (Holds : U → w.Changes → Ids → Ids × States → List (Ids × States) → Type 0)
    (target_of : States → Targets) where
  -- It reads nothing before a block is applied, and keeps nothing of the blocks that were
  -- finalized. A build takes as many turns as a run of its operations, also where it is declined. A
  -- hook takes as many as its block says.
  abbrev pub bank_works : Works BankBlock Round Ask
      (Unit {0}) Ids States Targets (BankRun U) (BankBuild U) BankHook (Unit {0})
  bank_works = record {
    meaning = bank_meaning w;
    gives = bank_gives w target_of;
    run_cost = λ finality s block. Some (turns_of w s block.ops);
    build_cost = λ asked s. Some (turns_of w s asked.input.ops);
    hook_cost = λ block s. Some block.slow;
    runs = IsRun w Holds;
    building = IsBuild w Holds;
    captures = λ captured context block s. Unit {0};
    hooks = λ hooked h turns. IsLeft hooked h.block.slow turns;
    Notes = Unit {0};
    noted = λ notes block. notes;
  }

  -- runs and builds take a turn at least
  pub bank_takes_turns : TakesTurns bank_works
  bank_takes_turns = record {
    runs = λ f s b n is. at_least_one _ n is;
    builds = λ asked s n is. at_least_one _ n is;
  }
