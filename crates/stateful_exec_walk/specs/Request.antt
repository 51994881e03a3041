-- What a request is known by.
use Rattle.std.specs.Prelude.{ℕ}
use Rattle.stateful_exec_walk.specs.declared.request.Request.{Request}
use Rattle.stateful_exec_walk.specs.declared.request.Request.TheVariants.{Verify, Recover}

abbrev pub ticket_by : {B C I : Type 0} → Request B C I → ℕ
ticket_by (Verify ticket ancestry) = ticket
ticket_by (Recover ticket context ancestry input kind) = ticket
