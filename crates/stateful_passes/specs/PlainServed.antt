-- What a plain database answers to others that sync.
use Rattle.std.specs.Prelude.{◌≡◌, ℕ, List}
use Rattle.stateful_types.specs.declared.request.Request.{Request}
use Rattle.stateful_types.specs.declared.response.Response.{Response}
use Rattle.stateful_db.specs.Disk.{Disk}
use Rattle.stateful_db_plain.specs.Whole.{Whole}
use Rattle.stateful_db_plain.specs.Serving.{AsksFor, response_of}

-- the last location of a kept state is asked for
abbrev pub Holds : Disk Whole → Request → Type 0
Holds d request = (w : Whole) × AsksFor d request w

-- the response has the entries of this state
abbrev pub Answers : Disk Whole → Request → Response (List (ℕ × ℕ)) → Type 0
Answers d request response =
    (w : Whole) × AsksFor d request w × (response ≡ response_of w)
