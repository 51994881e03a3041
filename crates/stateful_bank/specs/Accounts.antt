-- Accounts, seen as states of any type, and what operations make of such a state.
use Rattle.std.specs.Prelude.{◌≡◌, ℕ, ◌+◌, ◌-◌, ◌^◌, nat_le, nat_lt, if◌then◌else◌, List, [], ◌∷◌}
use Rattle.std.specs.Prelude.{Option, Some, None, MatchOption, option_and_then, max}
use Rattle.std.specs.Option.{option_map_or}
use Rattle.stateful_bank.specs.declared.op.Op.{Op}
use Rattle.stateful_bank.specs.declared.op.Op.TheVariants.{Mint, Move}

pub record Book : Type 1 where
  pub State : Type 0
  -- what an account has, where it can be read
  pub balance : State → ℕ → Option ℕ
  -- the state with this balance of the account
  pub with_balance : State → ℕ → ℕ → State

-- accounts that show this state, or none where there is none
abbrev pub Becomes : {A S : Type 0} → (A → S → Type 0) → Option A → Option S → Type 0
Becomes Shows None after = after ≡ None
Becomes Shows (Some accounts) after = MatchOption after ⊥ (Shows accounts)

module _ (book : Book) where
  -- the state with so much less at the account, where it has that much
  abbrev pub withdrawn : book.State → ℕ → ℕ → Option book.State
  withdrawn s account amount =
      option_and_then
      (λ had. if nat_le amount had then Some (book.with_balance s account (had - amount))
      else None)
      (book.balance s account)

  -- the state with so much more at the account, where the sum is at most the last number
  abbrev pub deposited : book.State → ℕ → ℕ → Option book.State
  deposited s account amount =
      option_and_then
      (λ had. if nat_lt (had + amount) (2 ^ 64) then Some
      (book.with_balance s account (had + amount))
      else None)
      (book.balance s account)

  -- the state after an operation, where it is allowed
  abbrev pub do_op : book.State → Op → Option book.State
  do_op s (Mint account amount) = deposited s account amount
  do_op s (Move from to amount) =
      option_and_then (λ left. deposited left to amount) (withdrawn s from amount)

  -- the state after these operations in order, where each is allowed
  abbrev pub do_ops : book.State → List Op → Option book.State
  do_ops s [] = Some s
  do_ops s (op ∷ ops) = option_and_then (λ after. do_ops after ops) (do_op s op)

  -- how many of these operations are begun: all up to the first that isn't allowed, and that one
  abbrev pub begun_ops : book.State → List Op → ℕ
  begun_ops s [] = 0
  begun_ops s (op ∷ ops) = 1 + option_map_or (λ after. begun_ops after ops) (do_op s op) 0

  -- the turns of a run or a build of these operations: one for each that is begun, and at least one
  abbrev pub run_turns : book.State → List Op → ℕ
  run_turns s ops = max 1 (begun_ops s ops)
