-- A new machine is down, and so is one at which all live work was ended and all that went on is dropped.
use Rattle.std.proofs.Common.{◌≤◌, ◌∷◌, [], ℕ, List, All, refl, sym, ◌∙◌, true≢false}
use Rattle.stateful_base.specs.declared.floor.Floor.{Floor}
use Rattle.stateful_history.specs.Past.{Past, Came, after}
use Rattle.stateful_history.specs.Stops.{NothingLive}
use Rattle.stateful_history.specs.declared.event.Event.TheVariants.{Restart}
use Rattle.stateful_history.specs.declared.mark.Mark.{Mark}
use Rattle.stateful_exec_tables.specs.Tables.{Rises}
use Rattle.stateful_exec_model.specs.Workings.{Workings}
use Rattle.stateful_loop_laws.specs.Down.{IsEnding, IsEmpty, IsCounted, IsDownAt}
use Rattle.stateful_loop_laws.proofs.events.Counting.{IsCounted-rises, IsCounted-restart, IsCounted-ends}
use Rattle.stateful_loop_model.specs.Clearing.{IsCleared}
use Rattle.stateful_loop_model.specs.Moments.{Moment}
use Rattle.stateful_loop_model.specs.Sound.{Sound}

module _ {B C I P R D H G U : Type 0} (w : Workings B C I P R D H G U) where
  -- before all events a machine at which nothing goes on stands, whatever its numbers are
  pub IsDownAt-new : (m : Moment w) → IsEmpty w m → w.kind.NoneAway m.members → IsDownAt w [] m
  IsDownAt-new m empty away = record {
    empty = empty;
    counted = record {
      numbers = record { jobs = λ j some. absurd (some refl); unturned = λ j le. refl; fetches = λ f some. absurd (some refl) };
      barriers = λ k some. absurd (some refl);
      none_away = away;
    };
    nothing = record { tickets = λ t. refl; fetches = λ f. refl; jobs = λ j. refl; barriers = λ k. refl };
  }

  -- where all that went on is dropped nothing goes on
  pub IsEmpty-cleared : (m now : Moment w) → IsCleared w m now → IsEmpty w now
  IsEmpty-cleared m now c = record {
    up = c.up;
    queue = c.queue;
    actions = c.actions;
    front = c.front;
    build = c.build;
    barriers = c.barriers;
    cache = c.cache;
    runs = c.runs;
    requests = c.requests;
    free = c.free;
  }

  -- and the numbers are as they were
  pub IsCounted-cleared : (p : Past B C I) (m now : Moment w) → IsCleared w m now → IsCounted w p m → IsCounted w p now
  IsCounted-cleared p m now c old = record {
    numbers = rw (c.numbers.0, c.numbers.1) old.numbers;
    barriers = rw c.numbers.2 old.barriers;
    none_away = rw c.rest.0 old.none_away;
  }

  -- The machine is down where nothing is live any more, and all that went on is dropped.
  pub IsDownAt-cleared : (q : Past B C I) (m now : Moment w) → IsCounted w q m → NothingLive q → IsCleared w m now → IsDownAt w q now
  IsDownAt-cleared q m now counted nothing c = record {
    empty = IsEmpty-cleared m now c;
    counted = IsCounted-cleared q m now c counted;
    nothing = nothing;
  }

  -- it is sound
  pub IsDownAt-sound : (q : Past B C I) (m : Moment w) → IsDownAt w q m → Sound w m
  IsDownAt-sound q m h = record { none_away = h.counted.none_away; up = λ up. absurd (true≢false (sym up ∙ h.empty.up)) }

  -- Where no number falls and nothing goes on at a later moment, as after an opening that failed, it is down there too.
  pub IsDownAt-rises : (q : Past B C I) (m now : Moment w) → Rises m.execution.state now.execution.state
      → m.loop.next_barrier ≤ now.loop.next_barrier → w.kind.NoneAway now.members → IsEmpty w now → IsDownAt w q m → IsDownAt w q now
  IsDownAt-rises q m now rises barriers away empty h = record {
    empty = empty;
    counted = IsCounted-rises w q m now rises barriers away h.counted;
    nothing = h.nothing;
  }

  module _ (p : Past B C I) (m now : Moment w) (counted : IsCounted w p m) (marks more : List (Mark B)) (ending : All IsEnding more)
      (cleared : IsCleared w (record m { marks = marks }) now) where
    -- It is so after a stop, whose marks end what was live.
    pub IsDownAt-stopped : NothingLive (after p more) → IsDownAt w (after p more) now
    IsDownAt-stopped nothing =
        let behind : IsCounted w (after p more) m = IsCounted-ends w m p more ending counted in
        IsDownAt-cleared (after p more) (record m { marks = marks }) now
        (record { numbers = behind.numbers; barriers = behind.barriers; none_away = behind.none_away }) nothing cleared

    -- And so it is after a restart, before the databases are opened.
    pub IsDownAt-restarts : (floor : Floor) (keep : List ℕ) → NothingLive (after (Came (Restart floor keep) ∷ p) more)
        → IsDownAt w (after (Came (Restart floor keep) ∷ p) more) now
    IsDownAt-restarts floor keep nothing =
        let behind : IsCounted w (after (Came (Restart floor keep) ∷ p) more) m =
        IsCounted-ends w m (Came (Restart floor keep) ∷ p) more ending (IsCounted-restart w m p floor keep counted) in
        IsDownAt-cleared (after (Came (Restart floor keep) ∷ p) more) (record m { marks = marks }) now
        (record { numbers = behind.numbers; barriers = behind.barriers; none_away = behind.none_away }) nothing cleared
