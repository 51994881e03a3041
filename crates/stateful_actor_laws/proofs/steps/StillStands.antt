-- A machine that refused an event stands for the past as it was: it may be restarted, and where nothing has changed it stands as before.
use Rattle.std.proofs.Common.{◌≡◌, ◌≢◌, ◌≤◌, ◌<◌, [], ℕ, Bool, true, false, Option, None, arith, sym, ◌∙◌, true≢false}
use Rattle.stateful_base.specs.Names.{Named}
use Rattle.stateful_history.specs.Past.{Past}
use Rattle.stateful_exec_tables.specs.Tables.{Rises}
use Rattle.stateful_exec_model.specs.Workings.{Workings}
use Rattle.stateful_actor_register.specs.Register.{RegisterStands}
use Rattle.stateful_actor_register.specs.declared.register.Register.{Register}
use Rattle.stateful_loop_laws.specs.Down.{IsCounted}
use Rattle.stateful_loop_model.specs.Moments.{Moment}
use Rattle.stateful_actor_laws.specs.Machine.{numbered}
use Rattle.stateful_actor_laws.specs.Stands.{CanRestartAt, Stands}

module _ {B C I P R D H G U : Type 0} (w : Workings B C I P R D H G U) (p : Past B C I) (m now : Moment w)
    (rises : Rises m.execution.state now.execution.state) (barrier : m.loop.next_barrier ≤ now.loop.next_barrier)
    (away : w.kind.NoneAway now.members) where
  -- numbers that have risen are above those that were drawn
  counted-later : IsCounted w p m → IsCounted w p now
  counted-later c = record {
    numbers = record {
      jobs = λ j some. let low = c.numbers.jobs j some in let up = rises.0 in omega (arith, low, up);
      unturned = λ j le. c.numbers.unturned j (let up = rises.0 in omega (arith, le, up));
      fetches = λ f some. let low = c.numbers.fetches f some in let up = rises.1 in omega (arith, low, up);
    };
    barriers = λ k some. let low = c.barriers k some in omega (arith, low, barrier);
    none_away = away;
  }

  -- The machine has failed, and its register stands for the past.
  pub still-stands : (stored : ℕ → Option (Named B)) (base : w.States) (failed now_failed : Bool) (register now_register : Register)
      → now.marks ≡ [] → now_failed ≡ true → RegisterStands (numbered w.kind.count) p now_register
      → Stands w stored base p failed register m → Stands w stored base p now_failed now_register now
  still-stands stored base failed now_failed register now_register unmarked fails registered s = record {
    registered = registered;
    restart = record { unmarked = unmarked; counted = counted-later s.restart.counted; apart = s.restart.apart };
    past = s.past;
    at = λ works. absurd (true≢false (sym fails ∙ works));
  }
