-- A moment that has what a sound one has of the anchor, the databases, the front and the barriers is sound.
use Rattle.std.proofs.Common.{◌≡◌, ℕ, Option, refl, sym, subst}
use Rattle.stateful_base.specs.Names.{Named}
use Rattle.stateful_exec_model.specs.Moments as exec
use Rattle.stateful_exec_walk.specs.Request.{ticket_by}
use Rattle.stateful_exec_tables.specs.Tables.{requested}
use Rattle.stateful_exec_model.specs.Workings.{Workings}
use Rattle.stateful_exec_model.specs.declared.front.Front.{Front}
use Rattle.stateful_exec_walk.specs.declared.request.Request.{Request}
use Rattle.stateful_loop_model.proofs.SoundingFront.{turned_sound}
use Rattle.stateful_loop_model.proofs.Staying.{Stays, Acquires-stays}
use Rattle.stateful_loop_model.specs.Moments.{Moment, inner, with_inner}
use Rattle.stateful_loop_model.specs.Rules.{Schedules}
use Rattle.stateful_loop_model.specs.Sound.{Sound, FrontAgrees, AreHeld}
use Rattle.stateful_loop_model.specs.declared.tables.Finalizing.{Finalizing}

module _ {B C I P R D H G U : Type 0} (w : Workings B C I P R D H G U) where
  -- all that soundness speaks of is as it was
  pub record IsKept (m now : Moment w) : Type 0 where
    pub anchor : now.execution.state.anchor ≡ m.execution.state.anchor
    pub reached : now.execution.front ≡ m.execution.front
    pub members : now.members ≡ m.members
    pub up : now.loop.up ≡ m.loop.up
    pub front : now.loop.front ≡ m.loop.front
    pub durability : now.loop.durability ≡ m.loop.durability
    pub barriers : now.loop.barriers ≡ m.loop.barriers

  pub Sound-kept : (m now : Moment w) → IsKept m now → Sound w m → Sound w now
  Sound-kept m now k s =
      turned_sound w m now k.anchor k.members k.up k.durability k.barriers
      (λ u. subst (λ (f : Option (Finalizing B G)). FrontAgrees w m.loop.durability f now.execution.front) (sym k.front)
      (subst (λ (f : Option (Front B R U H)). FrontAgrees w m.loop.durability m.loop.front f) (sym k.reached) u.front))
      (λ u. subst (λ (f : Option (Finalizing B G)). AreHeld w m.loop.durability f) (sym k.front) u.held) s

  -- an equation of moments, read
  pub Sound-is : (now mid : Moment w) → now ≡ mid → Sound w mid → Sound w now
  Sound-is now mid e s = subst (λ n. Sound w n) (sym e) s

  -- another moment of the tables, where the anchor and the databases stay
  pub kept_inner : (m : Moment w) (then : exec.Moment w) → Stays w (inner w m) then → IsKept m (with_inner w m then)
  kept_inner m then s = record {
    anchor = s.anchor;
    reached = refl;
    members = s.members;
    up = refl;
    front = refl;
    durability = refl;
    barriers = refl;
  }

  -- a request acquires what it needs
  pub schedules_kept : (stored : ℕ → Option (Named B)) (request : Request B C I) (m now : Moment w) → Schedules w stored request m now → Sound w m → Sound w now
  schedules_kept stored request m now r s =
      Sound-is now (with_inner w m r.then) r.becomes (Sound-kept m (with_inner w m r.then)
      (kept_inner m r.then (Acquires-stays w stored (inner w m) (ticket_by request) (requested request) r.then r.acquires)) s)
