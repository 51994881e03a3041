-- States of accounts that are seen as those of another book.
use Rattle.std.proofs.Common.{◌≡◌, ℕ, ◌+◌, ◌-◌, ◌^◌, Bool, true, false, nat_le, nat_lt, Some, None, option_map, option_and_then, refl, ap}
use Rattle.std.specs.Bool.{if◌then◌else◌}
use Rattle.stateful_bank.specs.declared.op.Op.{Op}
use Rattle.stateful_bank.specs.declared.op.Op.TheVariants.{Mint, Move}
use Rattle.stateful_bank.specs.Accounts.{Book, withdrawn, deposited, do_op}

-- what is seen tells the same of accounts, and follows each change of a balance
pub record Follows (book other : Book) (seen : book.State → other.State) : Type 0 where
  pub balance : (s : book.State) (account : ℕ) → other.balance (seen s) account ≡ book.balance s account
  pub with_balance : (s : book.State) (account balance : ℕ) → other.with_balance (seen s) account balance ≡ seen (book.with_balance s account balance)

module _ (book other : Book) (seen : book.State → other.State) (follows : Follows book other seen) where
  chosen : (b : Bool) (to : other.State) (s : book.State) → to ≡ seen s → (if b then Some to else None) ≡ option_map seen (if b then Some s else None)
  chosen true to s same = ap (λ t. Some t) same
  chosen false to s same = refl

  withdrawn-seen : (s : book.State) (account amount : ℕ) → withdrawn other (seen s) account amount ≡ option_map seen (withdrawn book s account amount)
  withdrawn-seen s account amount =
      rw (follows.balance s account) (
      elim (book.balance s account) as (λ o. option_and_then (λ had. if nat_le amount had then Some (other.with_balance (seen s) account (had - amount)) else None) o ≡ option_map seen (option_and_then (λ had. if nat_le amount had then Some (book.with_balance s account (had - amount)) else None) o)) [
        | None ↦ refl
        | Some had ↦ chosen (nat_le amount had) _ _ (follows.with_balance s account (had - amount))
      ]
      )

  deposited-seen : (s : book.State) (account amount : ℕ) → deposited other (seen s) account amount ≡ option_map seen (deposited book s account amount)
  deposited-seen s account amount =
      rw (follows.balance s account) (
      elim (book.balance s account) as (λ o. option_and_then (λ had. if nat_lt (had + amount) (2 ^ 64) then Some (other.with_balance (seen s) account (had + amount)) else None) o ≡ option_map seen (option_and_then (λ had. if nat_lt (had + amount) (2 ^ 64) then Some (book.with_balance s account (had + amount)) else None) o)) [
        | None ↦ refl
        | Some had ↦ chosen (nat_lt (had + amount) (2 ^ 64)) _ _ (follows.with_balance s account (had + amount))
      ]
      )

  -- an operation does to what is seen what it does to the state
  pub do_op-seen : (s : book.State) (op : Op) → do_op other (seen s) op ≡ option_map seen (do_op book s op)
  do_op-seen s (Mint account amount) = deposited-seen s account amount
  do_op-seen s (Move from to amount) =
      rw (withdrawn-seen s from amount) (
      elim (withdrawn book s from amount) as (λ o. option_and_then (λ left. deposited other left to amount) (option_map seen o) ≡ option_map seen (option_and_then (λ left. deposited book left to amount) o)) [
        | None ↦ refl
        | Some left ↦ deposited-seen left to amount
      ]
      )
