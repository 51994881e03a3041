-- What the machine stands for between two events.
use Rattle.std.specs.Prelude.{◌≡◌, ℕ, Bool, true, false, not, Option, []}
use Rattle.stateful_base.specs.Names.{Named}
use Rattle.stateful_history.specs.Opening.{is_down}
use Rattle.stateful_history.specs.Past.{Past}
use Rattle.stateful_history.specs.Stops.{NothingLive}
use Rattle.stateful_exec_model.specs.Workings.{Workings}
use Rattle.stateful_actor_register.specs.Register.{RegisterStands}
use Rattle.stateful_actor_register.specs.declared.register.Register.{Register}
use Rattle.stateful_loop_laws.specs.Open.{is_open}
use Rattle.stateful_loop_laws.specs.Down.{IsCounted}
use Rattle.stateful_loop_laws.specs.Reasons.{IsTrusted, ReasonsStand}
use Rattle.stateful_loop_laws.specs.Places.{PastKept, PlacesKept}
use Rattle.stateful_loop_laws.specs.InHand.{VerifiedApart, AllInHand, GoesOnAt}
use Rattle.stateful_loop_laws.specs.Stands.{IsUpAt}
use Rattle.stateful_loop_model.specs.Moments.{Moment}
use Rattle.stateful_loop_model.specs.Rules.{Quiet}
use Rattle.stateful_actor_laws.specs.Machine.{numbered}

module _ {B C I P R D H G U : Type 0} (w : Workings B C I P R D H G U) (p : Past B C I) where
  -- What a restart needs, and what stands of a machine that has failed too: no mark waits to be
  -- answered, the numbers so far are below the next ones, no database is away, and the ticket of a
  -- verification is that of no other event.
  pub record CanRestartAt (m : Moment w) : Type 0 where
    pub unmarked : m.marks ≡ []
    pub counted : IsCounted w p m
    pub apart : VerifiedApart p

module _ {B C I P R D H G U : Type 0} (w : Workings B C I P R D H G U)
    (stored : ℕ → Option (Named B)) (base : w.States) (p : Past B C I) where
  -- The machine is up where the databases are open, and else it is down, since it doesn't sync.
  -- Where it is up it stands for the past, nothing can go on without another event, and all that is live is in hand, and goes on; and where the world is trusted,
  -- what is kept for reasons of false verdicts and declines is kept. Where it is down nothing is
  -- live. What is kept for marks to be in their places is kept.
  pub record StandsAt (m : Moment w) : Type 0 where
    pub restart : CanRestartAt w p m
    pub up_is : m.loop.up ≡ is_open p
    pub open_is : is_open p ≡ not (is_down p)
    pub up : m.loop.up ≡ true → IsUpAt w stored base p m × Quiet w m
    pub reasons : m.loop.up ≡ true → IsTrusted w stored p → ReasonsStand w stored p base m
    pub hands : m.loop.up ≡ true → AllInHand w p m × GoesOnAt w stored base p m
    pub down : m.loop.up ≡ false → NothingLive p
    pub past : PastKept w stored p
    pub places : m.loop.up ≡ true → PlacesKept w stored p m

  -- The register stands for the past, and the machine may be restarted behind it, which keeps what
  -- a past keeps. As long as it hasn't failed it stands for the past.
  pub record Stands (failed : Bool) (register : Register) (m : Moment w) : Type 0 where
    pub registered : RegisterStands (numbered w.kind.count) p register
    pub restart : CanRestartAt w p m
    pub past : PastKept w stored p
    pub at : failed ≡ false → StandsAt m

-- Whatever past the one machine stands for, the other one stands for too.
abbrev pub StandsAsWell : {B C I P R D H G U : Type 0} (w : Workings B C I P R D H G U)
    → (failed : Bool) → Register → Moment w → (now_failed : Bool) → Register → Moment w → Type 0
StandsAsWell {B} {C} {I} w failed register m now_failed now_register now =
    (stored : ℕ → Option (Named B)) (base : w.States) (p : Past B C I)
    → Stands w stored base p failed register m
    → Stands w stored base p now_failed now_register now
