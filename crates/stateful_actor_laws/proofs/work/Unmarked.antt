-- What a machine stands for doesn't depend on the marks that it has made.
use Rattle.std.proofs.Common.{ℕ, List, Option}
use Rattle.stateful_base.specs.Names.{Named}
use Rattle.stateful_history.specs.Past.{Past}
use Rattle.stateful_history.specs.declared.mark.Mark.{Mark}
use Rattle.stateful_exec_model.specs.Workings.{Workings}
use Rattle.stateful_loop_laws.specs.Down.{IsCounted}
use Rattle.stateful_loop_laws.specs.Execution.{Executes}
use Rattle.stateful_loop_laws.specs.InHand.{IsFound, requested, recovered, built, waiting, AllInHand, GoesOnAt}
use Rattle.stateful_loop_laws.specs.Stands.{LoopStands, IsUpAt}
use Rattle.stateful_loop_laws.specs.Tickets.{TicketsStand}
use Rattle.stateful_loop_model.specs.Moments.{Moment}
use Rattle.stateful_loop_model.specs.Rules.{Can, Quiet, collect, drain, run_or_apply, apply, go_on, break_or_complete, begin, take}
use Rattle.stateful_loop_model.specs.Sound.{IsUp, Sound}

module _ {B C I P R D H G U : Type 0} (w : Workings B C I P R D H G U) (m : Moment w) (marks : List (Mark B)) where
  up_marks : IsUp w m → IsUp w (record m { marks = marks })
  up_marks u = record {
    point = u.point;
    here = u.here;
    applied = u.applied;
    heights = u.heights;
    few = u.few;
    counts = u.counts;
    tokens = u.tokens;
    front = u.front;
    held = u.held;
  }

  -- it is as sound
  pub Sound-marks : Sound w m → Sound w (record m { marks = marks })
  Sound-marks s = record { none_away = s.none_away; up = λ up. up_marks (s.up up) }

  can_marks : Can w (record m { marks = marks }) → Can w m
  can_marks (collect up some) = collect up some
  can_marks (drain collected build left) = drain collected build left
  can_marks (run_or_apply fin begun awaits) = run_or_apply fin begun awaits
  can_marks (apply fin ran) = apply fin ran
  can_marks (go_on fin advanced) = go_on fin advanced
  can_marks (break_or_complete idle some) = break_or_complete idle some
  can_marks (begin idle needed) = begin idle needed
  can_marks (take idle some) = take idle some

  -- as little can go on
  pub Quiet-marks : Quiet w m → Quiet w (record m { marks = marks })
  Quiet-marks quiet can = quiet (can_marks can)

  -- the numbers so far are as far below the next ones
  pub IsCounted-marks : (p : Past B C I) → IsCounted w p m → IsCounted w p (record m { marks = marks })
  IsCounted-marks p c = record { numbers = c.numbers; barriers = c.barriers; none_away = c.none_away }

  found_marks : (t : ℕ) → IsFound w m t → IsFound w (record m { marks = marks }) t
  found_marks t (requested some) = requested some
  found_marks t (recovered some) = recovered some
  found_marks t (built own) = built own
  found_marks t (waiting some) = waiting some

  -- as much is in hand
  pub AllInHand-marks : (p : Past B C I) → AllInHand w p m → AllInHand w p (record m { marks = marks })
  AllInHand-marks p h =
      record { hand = λ t live. found_marks t (h.hand t live); put_off = h.put_off; above = h.above; finalizing = h.finalizing }

  -- and it goes on
  pub GoesOnAt-marks : (stored : ℕ → Option (Named B)) (base : w.States) (p : Past B C I) → GoesOnAt w stored base p m
      → GoesOnAt w stored base p (record m { marks = marks })
  GoesOnAt-marks stored base p g = record { runs = g.runs; settled = g.settled; abstain = g.abstain }

  module _ (stored : ℕ → Option (Named B)) (base : w.States) (p : Past B C I) where
    executes_marks : Executes w stored base p m → Executes w stored base p (record m { marks = marks })
    executes_marks e = record {
      points = e.points;
      point = e.point;
      located = e.located;
      drawn = e.drawn;
      tables = e.tables;
      builds = e.builds;
      fronts = e.fronts;
      placed = e.placed;
      alone = e.alone;
    }

    loop_marks : LoopStands w stored base p m → LoopStands w stored base p (record m { marks = marks })
    loop_marks l = record {
      first = l.first;
      origin = l.origin;
      keeping = l.keeping;
      durable_is = l.durable_is;
      barriers = l.barriers;
      awaits = l.awaits;
      lives = l.lives;
    }

    tickets_marks : TicketsStand w stored p m → TicketsStand w stored p (record m { marks = marks })
    tickets_marks t = record { queue = t.queue; actions = t.actions; front = t.front; held = t.held; apart = t.apart; once = t.once }

    -- and where it is up it stands for the same past
    pub IsUpAt-marks : IsUpAt w stored base p m → IsUpAt w stored base p (record m { marks = marks })
    IsUpAt-marks h = record {
      sound = Sound-marks h.sound;
      in_order = h.in_order;
      executes = executes_marks h.executes;
      loop = loop_marks h.loop;
      captured = h.captured;
      tickets = tickets_marks h.tickets;
      ways = h.ways;
    }
