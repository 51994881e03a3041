-- Barriers, as a list of tokens with their answers.
use Rattle.std.specs.Prelude.{◌≡◌, ℕ, zero, suc, List, [], ◌∷◌, Option, Some, None, All, Any}
use Rattle.std.specs.Prelude.{slice_get, option_and_then}
use Rattle.stateful_db.specs.declared.database.FlushToken.{FlushToken}
use Rattle.stateful_db.specs.declared.barrier.Handle.{Handle}
use Rattle.stateful_db.specs.declared.barrier.Flushed.{Flushed}
use Rattle.stateful_db.specs.declared.barrier.Flushed.TheVariants.{Good, Interrupted}
use Rattle.stateful_db.specs.declared.barrier.BarrierPoll.{BarrierPoll}
use Rattle.stateful_db.specs.declared.barrier.BarrierPoll.TheVariants as poll

-- a token without an answer
abbrev pub unanswered : FlushToken → Handle
unanswered token = record { token = token; answer = None }

-- the token, where it has no answer
abbrev pub still_open : Handle → Option FlushToken
still_open handle = elim handle.answer [ None ↦ Some handle.token | Some answer ↦ None ]

-- the token of this number, where it has no answer
abbrev pub open_at : List Handle → ℕ → Option FlushToken
open_at handles i = option_and_then still_open (slice_get handles i)

-- the token of this number has this answer
abbrev pub answered : List Handle → ℕ → Flushed → List Handle
answered [] i answer = []
answered (handle ∷ handles) zero answer = record handle { answer = Some answer } ∷ handles
answered (handle ∷ handles) (suc i) answer = handle ∷ answered handles i answer

abbrev pub IsGood : Handle → Type 0
IsGood handle = handle.answer ≡ Some Good

abbrev pub IsBroken : Handle → Type 0
IsBroken handle = handle.answer ≡ Some Interrupted

abbrev pub IsOpen : Handle → Type 0
IsOpen handle = handle.answer ≡ None

-- durable where every flush was good, interrupted where one was, and pending where one is open and
-- none was interrupted
abbrev pub Polled : List Handle → BarrierPoll → Type 0
Polled handles poll.Durable = All IsGood handles
Polled handles poll.Interrupted = Any IsBroken handles
Polled handles poll.Pending = Any IsOpen handles × (Any IsBroken handles → ⊥)
