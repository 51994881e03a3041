-- A machine that has failed stands for its past with a restart that was tried.
use Rattle.std.proofs.Common.{◌≡◌, ◌∷◌, ℕ, Bool, true, Option, sym, ◌∙◌, true≢false}
use Rattle.stateful_base.specs.Names.{Named}
use Rattle.stateful_base.specs.declared.number.Height.{Height}
use Rattle.stateful_history.specs.Past.{Past, Tried}
use Rattle.stateful_history.specs.declared.event.Event.{Event}
use Rattle.stateful_history.specs.declared.event.Event.TheVariants.{Restart}
use Rattle.stateful_exec_model.specs.Workings.{Workings}
use Rattle.stateful_actor_register.specs.Register.{RegisterStands}
use Rattle.stateful_actor_register.specs.declared.register.Register.{Register}
use Rattle.stateful_exec_laws.proofs.runs.SpentRuns.{MayRunAgain-item}
use Rattle.stateful_exec_laws.specs.Setting.{setting}
use Rattle.stateful_loop_laws.specs.Places.{PastKept}
use Rattle.stateful_loop_model.specs.Moments.{Moment}
use Rattle.stateful_actor_laws.specs.Machine.{numbered}
use Rattle.stateful_actor_laws.specs.Media.{behind_refusal}
use Rattle.stateful_actor_laws.specs.Stands.{CanRestartAt, Stands}

module _ {B C I P R D H G U : Type 0} (w : Workings B C I P R D H G U) (stored : ℕ → Option (Named B)) (base : w.States) (p : Past B C I)
    (h : Height) where
  tried_registered : (count : ℕ) (register : Register) → RegisterStands count p register → RegisterStands count (Tried h ∷ p) register
  tried_registered count register s = record {
    tickets = s.tickets;
    proposals = s.proposals;
    jobs = s.jobs;
    fetches = s.fetches;
    flushes = s.flushes;
    bound = s.bound;
    down = s.down;
    syncs_none = s.syncs_none;
  }

  tried_restart : (m : Moment w) → CanRestartAt w p m → CanRestartAt w (Tried h ∷ p) m
  tried_restart m s = record {
    unmarked = s.unmarked;
    counted = record {
      numbers = record { jobs = s.counted.numbers.jobs; unturned = s.counted.numbers.unturned; fetches = s.counted.numbers.fetches };
      barriers = s.counted.barriers;
      none_away = s.counted.none_away;
    };
    apart = record { unproposed = s.apart.unproposed; unsubscribed = s.apart.unsubscribed; unfinalized = s.apart.unfinalized };
  }

  tried_past : PastKept w stored p → PastKept w stored (Tried h ∷ p)
  tried_past s = record {
    past = record {
      orderly = record {
        apart = s.past.orderly.apart;
        live = s.past.orderly.live;
        again = λ d. MayRunAgain-item (setting w stored) p (Tried h) (λ t b is. is) (λ j how e. cc) d (s.past.orderly.again d);
      };
      gone = s.past.gone;
      whole = s.past.whole;
    };
    earlier = s.earlier;
  }

  -- a restart was tried
  pub Stands-tried : (failed : Bool) (register : Register) (m : Moment w) → failed ≡ true → Stands w stored base p failed register m
      → Stands w stored base (Tried h ∷ p) failed register m
  Stands-tried failed register m fails s = record {
    registered = tried_registered (numbered w.kind.count) register s.registered;
    restart = tried_restart m s.restart;
    past = tried_past s.past;
    at = λ works. absurd (true≢false (sym fails ∙ works));
  }

-- what stands for the past stands for it after a refusal
pub Stands-refused : {B C I P R D H G U : Type 0} (w : Workings B C I P R D H G U) (stored : ℕ → Option (Named B)) (base : w.States) (p : Past B C I)
    (event : Event B C I) (failed : Bool) (register : Register) (m : Moment w) → failed ≡ true → Stands w stored base p failed register m
    → Stands w stored base (behind_refusal event p) failed register m
Stands-refused w stored base p (Restart floor keep) failed register m fails s = Stands-tried w stored base p _ failed register m fails s
Stands-refused w stored base p event failed register m fails s = s
