-- What a machine that is up stands for.
use Rattle.std.specs.Prelude.{◌≡◌, ℕ, Option, IfSome}
use Rattle.stateful_base.specs.Names.{Named}
use Rattle.stateful_base.specs.declared.anchor.Anchor.{Anchor}
use Rattle.stateful_durability.specs.Durability.{IsInOrder}
use Rattle.stateful_history.specs.Durable.{durable}
use Rattle.stateful_history.specs.Past.{Past}
use Rattle.stateful_exec_model.specs.Workings.{Workings}
use Rattle.stateful_exec_laws.specs.Setting.{setting}
use Rattle.stateful_loop_laws.specs.Checkpoints.{Keeping}
use Rattle.stateful_loop_laws.specs.Execution.{Executes}
use Rattle.stateful_loop_laws.specs.OpenBarriers.{BarriersStand, AwaitsEach, AwaitsLive}
use Rattle.stateful_loop_laws.specs.Tickets.{TicketsStand}
use Rattle.stateful_loop_laws.specs.Ways.{WaysKept}
use Rattle.stateful_loop_model.specs.Moments.{Moment}
use Rattle.stateful_loop_model.specs.Sound.{Sound}
use Rattle.stateful_loop_model.specs.declared.tables.Finalizing.{Finalizing}

module _ {B C I P R D H G U : Type 0} (w : Workings B C I P R D H G U) where
  -- this was read for the block, in what consensus knows of it, of some states
  pub record IsCaptured (b : Named B) (captured : G) : Type 0 where
    pub before : w.States
    pub read : w.works.captures captured (w.context_of b.block) b.block before

  -- what was captured for the block that is finalized was read for it
  abbrev pub CapturedStands : Option (Finalizing B G) → Type 0
  CapturedStands front =
      IfSome front (λ f. IfSome f.captured (λ captured. IsCaptured f.block captured))

module _ {B C I P R D H G U : Type 0} (w : Workings B C I P R D H G U)
    (stored : ℕ → Option (Named B)) (base : w.States) (p : Past B C I) where
  -- The databases keep what was applied since the opening, and are durable as far as the loop has
  -- it; the open barriers stand, and what they await are the live flushes.
  pub record LoopStands (m : Moment w) : Type 0 where
    pub first : Anchor
    pub origin : ℕ → ℕ
    pub keeping : Keeping
        (setting w stored) w.kind base p m.members m.execution.state.anchor first origin
    pub durable_is : m.loop.durability.durable ≡ durable p
    pub barriers : BarriersStand w.kind w.header p m.members first origin m.loop.barriers
        m.loop.next_barrier
    pub awaits : AwaitsEach w.kind.count p m.loop.barriers
    pub lives : AwaitsLive w.kind.count p m.loop.barriers

  -- A machine that is up stands for a past: it is sound, its heights and receipts are in order, and
  -- so on.
  pub record IsUpAt (m : Moment w) : Type 0 where
    pub sound : Sound w m
    pub in_order : IsInOrder m.loop.durability
    pub executes : Executes w stored base p m
    pub loop : LoopStands m
    pub captured : CapturedStands w m.loop.front
    pub tickets : TicketsStand w stored p m
    pub ways : WaysKept w stored p m.execution.state
