-- A machine that is down is up after an opening, and all stands.
use Rattle.std.proofs.Common.{◌∷◌, ℕ, List, Option, ap}
use Rattle.stateful_base.specs.Anchor.{anchor_by}
use Rattle.stateful_base.specs.Names.{Named}
use Rattle.stateful_base.specs.declared.floor.Floor.{Floor}
use Rattle.stateful_db.specs.Laws.{Laws}
use Rattle.stateful_history.specs.Met.{TrueNames}
use Rattle.stateful_history.specs.Past.{Past, Made}
use Rattle.stateful_history.specs.Honest.{StoresHeights}
use Rattle.stateful_history.specs.declared.mark.Mark.TheVariants.{Opened}
use Rattle.stateful_exec_model.specs.Workings.{Workings}
use Rattle.stateful_exec_laws.specs.Setting.{setting}
use Rattle.stateful_exec_laws.specs.Storing.{IsStoredNow}
use Rattle.stateful_loop_laws.specs.Down.{IsDownAt}
use Rattle.stateful_loop_laws.specs.OpenedBehind.{OpenedBehind}
use Rattle.stateful_loop_laws.specs.Stands.{IsUpAt}
use Rattle.stateful_loop_laws.proofs.execution.CapturedKept.{opens-captured}
use Rattle.stateful_loop_laws.proofs.barriers.Down.{NoneLive}
use Rattle.stateful_loop_laws.proofs.execution.Opens.{Executes-opens}
use Rattle.stateful_loop_laws.proofs.loop.Opens.{LoopStands-opens}
use Rattle.stateful_loop_laws.proofs.loop.OrderTaken.{opens_order}
use Rattle.stateful_loop_laws.proofs.tickets.Opened.{opens-tickets}
use Rattle.stateful_loop_laws.proofs.ways.Finalized.{WaysKept-opens}
use Rattle.stateful_loop_model.proofs.SoundingOpenings.{opens_sound}
use Rattle.stateful_loop_model.specs.Moments.{Moment}
use Rattle.stateful_loop_model.specs.Opening.{Opens}

module _ {B C I P R D H G U : Type 0} (w : Workings B C I P R D H G U) (laws : Laws w.kind) (stored stored_now : ℕ → Option (Named B))
    (floor : Floor) (keep : List ℕ) (p : Past B C I) (m now : Moment w) (heights : StoresHeights w.header stored)
    (stored_is : IsStoredNow stored p stored_now) (names : TrueNames (setting w stored) p) (h : IsDownAt w p m)
    (o : Opens w stored_now floor keep m now) where
  -- no barrier is live, and the numbers so far are below the next one
  none_live : NoneLive p m.loop.next_barrier
  none_live = record { dead = h.nothing.barriers; below = h.counted.barriers }

  stands : IsUpAt w stored o.opening.at.1 (Made (Opened (anchor_by w.header o.block)) ∷ p) now
  stands = record {
    sound = opens_sound w laws stored_now floor keep m now o h.empty.barriers h.empty.front.0;
    in_order = opens_order w stored_now floor keep m now o;
    executes = Executes-opens w stored stored_now floor keep p m now h.nothing h.counted.numbers names stored_is o;
    loop = LoopStands-opens w stored stored_now floor keep p m now o h.empty.barriers none_live;
    captured = opens-captured w stored_now floor keep m now h.empty.front.0 o;
    tickets = opens-tickets w stored (Made (Opened (anchor_by w.header o.block)) ∷ p) stored_now floor keep m now h.empty.queue h.empty.actions
        h.empty.front.0 o;
    ways = WaysKept-opens w stored stored_now floor keep p m now heights stored_is o;
  }

  -- A machine that is down is opened, over the states that the databases hold, where each block of the store is one of its height.
  pub opens-up : OpenedBehind w stored o.opening.at.1 p m now (anchor_by w.header o.block)
  opens-up = record {
    marks_are = o.marks;
    up = ap (λ l. l.up) o.loop;
    stands = stands;
    earned = (tt, tt);
    said = ((tt, tt, tt, tt, tt), tt);
  }
