-- Execution stands after every event that is taken in, but for a restart.
use Rattle.std.proofs.Common.{◌≡◌, ◌∷◌, ℕ, true, Option, Some}
use Rattle.stateful_base.specs.Names.{Named}
use Rattle.stateful_db.specs.Laws.{Laws}
use Rattle.stateful_history.specs.Live.{names_live}
use Rattle.stateful_history.specs.Past.{Past, Came}
use Rattle.stateful_history.specs.Stops.{IsRestart}
use Rattle.stateful_history.specs.declared.event.Event.{Event}
use Rattle.stateful_history.specs.declared.event.Event.TheVariants as event
use Rattle.stateful_exec_model.specs.Workings.{Workings}
use Rattle.stateful_exec_laws.specs.Storing.{IsStoredNow}
use Rattle.stateful_loop_model.specs.Intake.{Counts, message_by, TakesIn, enters, cancels, fetched, turns, flushes, stops, progresses, restarts}
use Rattle.stateful_loop_model.specs.Moments.{Moment}
use Rattle.stateful_loop_model.specs.declared.message.Message.{Message}
use Rattle.stateful_loop_laws.specs.Execution.{Executes, NamesBehind, ExecutesBehind}
use Rattle.stateful_loop_laws.specs.RuleMarks.{MarksBehind}
use Rattle.stateful_loop_laws.specs.Ways.{WaysKept}
use Rattle.stateful_loop_laws.proofs.execution.Beside.{Executes-takes_in}
use Rattle.stateful_loop_laws.proofs.execution.Came.{IsBesides}
use Rattle.stateful_loop_laws.proofs.execution.Cancels.{Executes-cancels}
use Rattle.stateful_loop_laws.proofs.execution.Fetched.{Executes-fetched}
use Rattle.stateful_loop_laws.proofs.duly.MarksOfRules.{taken_in_marks}
use Rattle.stateful_loop_laws.proofs.events.NamesBehind.{NamesBehind-before}
use Rattle.stateful_loop_laws.proofs.execution.TurnsKept.{Executes-turns}

-- execution has no part in what enters the mailbox
message_besides : {B C I : Type 0} (e : Event B C I) (x : Message B C I) → message_by e ≡ Some x → IsBesides e
message_besides (event.Cancel t) x is = absurd (cc)
message_besides (event.Fetched f answer) x is = absurd (cc)
message_besides (event.Turn j) x is = absurd (cc)
message_besides (event.Restart floor keep) x is = absurd (cc)
message_besides e x is = tt

module _ {B C I P R D H G U : Type 0} (w : Workings B C I P R D H G U) (laws : Laws w.kind) (stored : ℕ → Option (Named B)) (base : w.States)
    (p : Past B C I) (stored_now : ℕ → Option (Named B)) (stored_is : IsStoredNow stored p stored_now) (count : ℕ) (counts : Counts R D H)
    (m now : Moment w) (h : Executes w stored base p m) (kept : WaysKept w stored p m.execution.state) where
  -- after an event that names what is live, where names are true with the marks that it makes
  pub Executes-taken : (e : Event B C I) → (IsRestart e → ⊥) → names_live count p e ≡ true → NamesBehind w stored base (Came e ∷ p) m now
      → TakesIn w stored_now counts m now e → ExecutesBehind w stored base (Came e ∷ p) m now
  Executes-taken e on live names (enters {x = x} is becomes) =
      let made : MarksBehind w m now = taken_in_marks w stored_now counts m now e (enters is becomes) in
      Executes-takes_in w laws stored base p count stored_now counts m now e (message_besides e x is) live
      (NamesBehind-before w stored base (Came e ∷ p) m now made.more made.marks_are names) h (enters is becomes)
  Executes-taken _ on live names (cancels {t = t} c) = Executes-cancels w stored base p t m now h c
  Executes-taken _ on live names (fetched {f = f} {answer = answer} {then = then} is becomes) =
      let made : MarksBehind w m now = taken_in_marks w stored_now counts m now (event.Fetched f answer) (fetched is becomes) in
      Executes-fetched w laws stored base p f answer
      (NamesBehind-before w stored base (Came (event.Fetched f answer) ∷ p) m now made.more made.marks_are names)
      stored_now stored_is m now then h is becomes
  Executes-taken _ on live names (turns {j = j} t) = Executes-turns w laws stored base p m h kept counts j now live t names
  Executes-taken _ on live names (flushes {k = k} {i = i} {answer = answer} f) =
      let made : MarksBehind w m now = taken_in_marks w stored_now counts m now (event.Flushed k i answer) (flushes f) in
      Executes-takes_in w laws stored base p count stored_now counts m now (event.Flushed k i answer) tt live
      (NamesBehind-before w stored base (Came (event.Flushed k i answer) ∷ p) m now made.more made.marks_are names) h (flushes f)
  Executes-taken _ on live names (stops becomes) =
      let made : MarksBehind w m now = taken_in_marks w stored_now counts m now event.Stop (stops becomes) in
      Executes-takes_in w laws stored base p count stored_now counts m now event.Stop tt live
      (NamesBehind-before w stored base (Came event.Stop ∷ p) m now made.more made.marks_are names) h (stops becomes)
  Executes-taken _ on live names (progresses {i = i} becomes) =
      let made : MarksBehind w m now = taken_in_marks w stored_now counts m now (event.Progress i) (progresses becomes) in
      Executes-takes_in w laws stored base p count stored_now counts m now (event.Progress i) tt live
      (NamesBehind-before w stored base (Came (event.Progress i) ∷ p) m now made.more made.marks_are names) h (progresses becomes)
  Executes-taken _ on live names (restarts becomes) = absurd (on tt)
