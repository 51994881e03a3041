-- What waits to be taken.
use Rattle.std.specs.Prelude.{ℕ, ◌==◌, Bool, true, false}
use Rattle.stateful_exec_walk.specs.Request.{ticket_by}
use Rattle.stateful_exec_walk.specs.declared.request.Request.TheVariants.{Verify, Recover}
use Rattle.stateful_loop_model.specs.declared.message.Action.{Action}
use Rattle.stateful_loop_model.specs.declared.message.Action.TheVariants as action
use Rattle.stateful_loop_model.specs.declared.message.Message.{Message}
use Rattle.stateful_loop_model.specs.declared.message.Message.TheVariants.{Request, Finalized}
use Rattle.stateful_loop_model.specs.declared.message.Message.TheVariants.{Subscribe}

-- the message is the request of this ticket
abbrev pub asks_of : {B C I : Type 0} → Message B C I → ℕ → Bool
asks_of (Request request) t = ticket_by request == t
asks_of (Subscribe u) t = u == t
asks_of (Finalized u b) t = false

-- the action is of the request of this ticket
abbrev pub asks_for : {B C I : Type 0} → Action B C I → ℕ → Bool
asks_for (action.Message message) t = asks_of message t
asks_for (action.Build u) t = u == t

-- the message is a request to judge a block
abbrev pub is_verification : {B C I : Type 0} → Message B C I → Bool
is_verification (Request (Verify t ancestry)) = true
is_verification (Request (Recover t context ancestry input kind)) = false
is_verification message = false
