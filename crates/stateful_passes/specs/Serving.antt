-- What a server over a database answers, whose listed calls fail.
use Rattle.std.specs.Prelude.{◌≡◌, ℕ, Bool, true, false, List, Result, Ok, Err}
use Rattle.stateful_base.specs.Causes.{risen, risen_if, is_listed}
use Rattle.stateful_types.specs.declared.response.Response.{Response}
use Rattle.stateful_db_source.specs.declared.source.ServeFault.{ServeFault}
use Rattle.stateful_db_source.specs.declared.source.ServeFault.TheVariants as fault
use Rattle.stateful_passes.specs.declared.server.MemoryServer.{MemoryServer}

-- What a database answers to a request: a response where what it asks for is held, and a refusal
-- where it isn't; or memory is wanting.
abbrev pub IsAnswered : {Op : Type 0} → Type 0 → (Response Op → Type 0) → Result (Response Op) ServeFault → Type 0
IsAnswered Held Answer (Ok response) = Held × Answer response
IsAnswered Held Answer (Err fault.NotServed) = Held → ⊥
IsAnswered Held Answer (Err fault.Failed) = ⊥
IsAnswered Held Answer (Err fault.OutOfMemory) = Unit {0}

module _ {D : Type 0} where
  abbrev pub db_of : MemoryServer D → D
  db_of s = s.db

  -- the numbers of the calls that fail
  abbrev pub failing_of : MemoryServer D → List ℕ
  failing_of s = s.failing.items

  -- the number of the next call
  abbrev pub call_of : MemoryServer D → ℕ
  call_of s = s.calls

  abbrev pub faults_of : MemoryServer D → ℕ
  faults_of s = s.faults

  -- the next call fails
  abbrev pub fails : MemoryServer D → Bool
  fails s = is_listed (failing_of s) (call_of s)

-- One call: it fails exactly where it is listed, which is counted, and else the database answers.
-- The database and the list stay.
pub record Serves {D Op : Type 0} (Held : Type 0) (Answer : Response Op → Type 0)
    (s : MemoryServer D) (result : Result (Response Op) ServeFault) (t : MemoryServer D)
    : Type 0 where
  pub db : db_of t ≡ db_of s
  pub failing : failing_of t ≡ failing_of s
  pub call : call_of t ≡ risen (call_of s)
  pub count : faults_of t ≡ risen_if (fails s) (faults_of s)
  pub listed : fails s ≡ true → result ≡ Err fault.Failed
  pub unlisted : fails s ≡ false → IsAnswered Held Answer result
