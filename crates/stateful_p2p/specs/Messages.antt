-- How messages wait behind a full mailbox.
use Rattle.std.specs.Prelude.{ℕ, ◌==◌, Bool, true, false, not, Option, Some, None, List, [], ◌∷◌}
use Rattle.std.specs.Prelude.{◌++◌, map, filter}
use Rattle.stateful_p2p.specs.declared.message.Message.{Message}
use Rattle.stateful_p2p.specs.declared.message.Message.TheVariants.{AttachDatabase, GetOperations}
use Rattle.stateful_p2p.specs.declared.message.Ask.{Ask}

module _ {D : Type 0} where
  -- whether it asks for something
  abbrev pub is_request : Message D → Bool
  is_request (AttachDatabase db) = false
  is_request (GetOperations t request) = true

  -- whether it is anything but the request of this ticket
  abbrev pub is_not_of : ℕ → Message D → Bool
  is_not_of t (AttachDatabase db) = true
  is_not_of t (GetOperations u request) = not (u == t)

  -- what waits once one more message has come: the newest database, and behind it the requests in
  -- their order
  abbrev pub kept : List (Message D) → Message D → List (Message D)
  kept waiting (AttachDatabase db) = AttachDatabase db ∷ filter is_request waiting
  kept waiting (GetOperations t request) = waiting ++ GetOperations t request ∷ []

  -- a database that waits, if there is one, and behind it requests
  abbrev pub attached : Option D → List (Message D)
  attached None = []
  attached (Some db) = AttachDatabase db ∷ []

  abbrev pub asked : Ask → Message D
  asked ask = GetOperations ask.ticket ask.request

  abbrev pub pending : Option D → List Ask → List (Message D)
  pending database requests = attached database ++ map asked requests
