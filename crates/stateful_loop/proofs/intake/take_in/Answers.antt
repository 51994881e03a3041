use Rattle.std.proofs.Common.{Contains, sym, ◌∙◌, refl, subst, arith}
use Rattle.stateful_loop_model.specs.Intake.{enters, cancels, fetched, turns, flushes, stops, memory, fetching, flushing}
use Rattle.stateful_loop_model.specs.Moments.{executing}
use Rattle.stateful_loop_model.proofs.Intakes.{on_ok, on_err, ok_none, err_to, within_awaited, token_awaited, idles}
use Rattle.stateful_loop_model.proofs.Handing.{err_holds}
use Rattle.stateful_loop_model.proofs.Leaving.{keeps_same}
use Rattle.stateful_loop_model.proofs.NotesFollowing.{not_by_memory}
use Rattle.stateful_loop.proofs.intake.take_in.Goals as goal

pub returns-in_err-answer-in-Fetched-clause-fault : goal.returns-in_err-answer-in-Fetched-clause-fault
returns-in_err-answer-in-Fetched-clause-fault g c =
    err_to c.from_residual.result _ _ c.from_residual.ensures.1 (λ e is. memory is)

pub returns-in_err-fetched-in-Fetched-clause-fault : goal.returns-in_err-fetched-in-Fetched-clause-fault
returns-in_err-fetched-in-Fetched-clause-fault g c =
    err_to c.from_residual-in_err-fetched-in-Fetched.result _ _ c.from_residual-in_err-fetched-in-Fetched.ensures.1 (λ e is.
    rw (c.in-Fetched.is, ← c.in_ok-answer-in-Fetched.ensures)
    (fetching (c.in_err-fetched-in-Fetched.field-0.0, c.in_err-fetched-in-Fetched.ensures.fault, is)))

pub flushed-requires-clause-within : goal.flushed-requires-clause-within
flushed-requires-clause-within g c =
    λ there. within_awaited c.in-Flushed.barrier c.in-Flushed.database _ c.args.processing.now.barriers c.requires.up.counts there

pub flushed-requires-clause-out : goal.flushed-requires-clause-out
flushed-requires-clause-out g c =
    λ t e.
    let barriers = c.args.processing.now.barriers in
    let (there, has) = token_awaited c.in-Flushed.barrier c.in-Flushed.database barriers t e in
    let within = within_awaited c.in-Flushed.barrier c.in-Flushed.database _ barriers c.requires.up.counts there in
    subst (λ tokens. Contains tokens t.place) (sym (c.requires.up.tokens c.in-Flushed.database within)) has

pub returns-in_err-message-in_default : goal.returns-in_err-message-in_default
returns-in_err-message-in_default g c =
    record {
      ok = ok_none c.from_residual-in_err-message-in_default.result _ c.from_residual-in_err-message-in_default.ensures.0;
      fault = err_to c.from_residual-in_err-message-in_default.result _ _ c.from_residual-in_err-message-in_default.ensures.1 (λ e is. memory is);
      left = err_holds c.from_residual-in_err-message-in_default.result (keeps_same _ _ _ refl);
      none_away = λ h. h;
      later = λ n. omega arith;
      numbers = (omega arith, omega arith);
      application = omega arith;
      notes = λ other. refl;
      barrier = omega arith;
    }

pub returns-in_err-push-in_default : goal.returns-in_err-push-in_default
returns-in_err-push-in_default g c =
    record {
      ok = ok_none c.from_residual-in_err-push-in_default.result _ c.from_residual-in_err-push-in_default.ensures.0;
      fault = err_to c.from_residual-in_err-push-in_default.result _ _ c.from_residual-in_err-push-in_default.ensures.1 (λ e is. memory is);
      left = err_holds c.from_residual-in_err-push-in_default.result (keeps_same _ _ _ refl);
      none_away = λ h. h;
      later = λ n. omega arith;
      numbers = (omega arith, omega arith);
      application = omega arith;
      notes = λ other. refl;
      barrier = omega arith;
    }

pub returns-in-Cancel-clause-ok : goal.returns-in-Cancel-clause-ok
returns-in-Cancel-clause-ok g c =
    on_ok c.cancel.result c.cancel.ensures.ok (λ given_up. rw c.in-Cancel.is (cancels given_up))

pub returns-in-Cancel-clause-fault : goal.returns-in-Cancel-clause-fault
returns-in-Cancel-clause-fault g c =
    on_err c.cancel.result _ _ c.cancel.ensures.memory (λ e is. memory is)

pub returns-in_ok-fetched-in-Fetched-clause-ok : goal.returns-in_ok-fetched-in-Fetched-clause-ok
returns-in_ok-fetched-in-Fetched-clause-ok g c =
    rw (c.in-Fetched.is, ← c.in_ok-answer-in-Fetched.ensures)
    (fetched c.in_ok-fetched-in-Fetched.ensures.ok (rw (c.in_ok-fetched-in-Fetched.ensures.works.0, c.in_ok-fetched-in-Fetched.ensures.works.1) refl))

pub returns-in-Turn-clause-ok : goal.returns-in-Turn-clause-ok
returns-in-Turn-clause-ok g c =
    on_ok c.turn.result c.turn.ensures.ok (λ turned. rw c.in-Turn.is (turns (turned c.args.processing.now)))

pub returns-in-Flushed-clause-ok : goal.returns-in-Flushed-clause-ok
returns-in-Flushed-clause-ok g c =
    on_ok c.flushed.result c.flushed.ensures.ok (λ answered. rw c.in-Flushed.is (flushes (answered (executing c.args.handler.now))))

pub returns-in-Flushed-clause-fault : goal.returns-in-Flushed-clause-fault
returns-in-Flushed-clause-fault g c =
    on_err c.flushed.result _ _ c.flushed.ensures.fault (λ e refused. rw c.in-Flushed.is (flushing refused))

pub returns-in-Stop-clause-ok : goal.returns-in-Stop-clause-ok
returns-in-Stop-clause-ok g c =
    rw c.in-Stop.is (stops refl)

pub returns-in_ok-push-in_default : goal.returns-in_ok-push-in_default
returns-in_ok-push-in_default g c =
    record {
      ok = enters (sym c.in_ok-message-in_default.ensures ∙ c.in-Some.is) (rw c.in_ok-push-in_default.ensures.ok refl);
      fault = tt;
      left = tt;
      none_away = λ h. h;
      later = λ n. omega arith;
      numbers = (omega arith, omega arith);
      application = omega arith;
      notes = λ other. refl;
      barrier = omega arith;
    }

pub returns-in_default-2 : goal.returns-in_default-2
returns-in_default-2 g c =
    record {
      ok = idles _ _ _ _ c.args.event.now (sym c.in_ok-message-in_default.ensures ∙ c.in_default-2.is)
          c.in_default.not-Cancel c.in_default.not-Fetched c.in_default.not-Turn c.in_default.not-Flushed c.in_default.not-Stop;
      fault = tt;
      left = tt;
      none_away = λ h. h;
      later = λ n. omega arith;
      numbers = (omega arith, omega arith);
      application = omega arith;
      notes = λ other. refl;
      barrier = omega arith;
    }

pub returns-in_err-fetched-in-Fetched-clause-notes : goal.returns-in_err-fetched-in-Fetched-clause-notes
returns-in_err-fetched-in-Fetched-clause-notes g c =
    λ other. c.in_err-fetched-in-Fetched.ensures.notes (not_by_memory c.from_residual-in_err-fetched-in-Fetched.result other c.in_err-fetched-in-Fetched.field-0.0 c.from_residual-in_err-fetched-in-Fetched.ensures.1)
