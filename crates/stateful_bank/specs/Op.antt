-- Operations on accounts.
use Rattle.std.specs.Prelude.{ℕ, Bool, List, ◌∷◌, ◌++◌, nat_lt}
use Rattle.std.specs.List.{list_all}
use Rattle.std.specs.Int.{w16, to_be_bytes}
use Rattle.stateful_base.specs.Number.{u64_format}
use Rattle.stateful_bank.specs.declared.op.Op.{Op}
use Rattle.stateful_bank.specs.declared.op.Op.TheVariants.{Mint, Move}

-- what it adds or moves
abbrev pub amount_of : Op → ℕ
amount_of (Mint account amount) = amount
amount_of (Move from to amount) = amount

-- every amount is at least 1
abbrev pub accept : List Op → Bool
accept ops = list_all (λ op. nat_lt 0 (amount_of op)) ops

-- two bytes, the high one first
unfoldable pub account_bytes : ℕ → List ℕ
account_bytes account = to_be_bytes w16 account

-- its byte, then its accounts and its amount
unfoldable pub op_bytes : Op → List ℕ
op_bytes (Mint account amount) = 0 ∷ account_bytes account ++ u64_format.spelling amount
op_bytes (Move from to amount) =
    1 ∷ account_bytes from ++ account_bytes to ++ u64_format.spelling amount
