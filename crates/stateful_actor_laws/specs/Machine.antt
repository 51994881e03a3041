-- Which machines may take an event in.
use Rattle.std.specs.Prelude.{◌≡◌, ◌-◌, ◌^◌, ℕ, Bool, true, false, min, [], None}
use Rattle.stateful_history.specs.declared.event.Event.{Event}
use Rattle.stateful_history.specs.declared.event.Event.TheVariants.{Restart}
use Rattle.stateful_exec_model.specs.Workings.{Workings}
use Rattle.stateful_actor_register.specs.Register.{IsBlank}
use Rattle.stateful_actor_register.specs.declared.register.Register.{Register}
use Rattle.stateful_loop_model.specs.Moments.{Moment}
use Rattle.stateful_loop_model.specs.Sound.{Sound}

-- databases have numbers below the last number: those beyond it are never asked for
abbrev pub numbered : ℕ → ℕ
numbered count = min count (2 ^ 64 - 1)

abbrev pub is_restart : {B C I : Type 0} → Event B C I → Bool
is_restart (Restart floor keep) = true
is_restart event = false

module _ {B C I P R D H G U : Type 0} (w : Workings B C I P R D H G U) where
  -- no database is away, and as long as the machine hasn't failed, what the rules of the loop need
  -- holds
  pub record IsSafe (failed : Bool) (m : Moment w) : Type 0 where
    pub none_away : w.kind.NoneAway m.members
    pub sound : failed ≡ false → Sound w m

  -- a machine that has taken nothing in: it is down, nothing is live, and its numbers begin at 0
  pub record IsNew (failed : Bool) (register : Register) (m : Moment w) : Type 0 where
    pub working : failed ≡ false
    pub blank : IsBlank register
    pub down : m.loop.up ≡ false
    pub nothing : (m.loop.queue ≡ [])
        × (m.loop.actions ≡ [])
        × (m.loop.front ≡ None)
        × (m.loop.barriers ≡ [])
    pub jobs : m.execution.state.next_job ≡ 0
    pub fetches : m.execution.state.next_fetch ≡ 0
    pub barriers : m.loop.next_barrier ≡ 0
