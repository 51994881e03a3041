-- The numbers so far are below the next ones where the machine is up, where live work ends or a barrier breaks, and after a restart.
use Rattle.std.proofs.Common.{◌≡◌, ◌≤◌, ◌++◌, ◌∷◌, [], ℕ, false, List, All, Option, map, sym, subst, arith}
use Rattle.std.proofs.lemmas.List.Elements.{All-nil, All-cons, All-head, All-tail, All-append}
use Rattle.stateful_base.specs.Names.{Named}
use Rattle.stateful_base.specs.declared.floor.Floor.{Floor}
use Rattle.stateful_history.specs.Past.{Past, Came, Made, after}
use Rattle.stateful_history.specs.declared.event.Event.TheVariants.{Restart}
use Rattle.stateful_history.specs.declared.mark.How.TheVariants.{Cancelled}
use Rattle.stateful_history.specs.declared.mark.Mark.{Mark}
use Rattle.stateful_history.specs.declared.mark.Mark.TheVariants.{Withdrawn, Ended, Declined, Dropped, Stopped, BarrierDone}
use Rattle.stateful_exec_tables.specs.Tables.{Rises}
use Rattle.stateful_exec_model.specs.Workings.{Workings}
use Rattle.stateful_loop_laws.specs.Down.{IsEnding, IsCounted}
use Rattle.stateful_loop_laws.specs.Stands.{IsUpAt}
use Rattle.stateful_loop_model.specs.Moments.{Moment}
use Rattle.stateful_loop_model.specs.declared.barriers.Active.{Active}

module _ {B : Type 0} where
  marks_of : (make : ℕ → Mark B) → ((n : ℕ) → IsEnding (make n)) → (numbers : List ℕ) → All IsEnding (map make numbers)
  marks_of make ending [] = All-nil IsEnding
  marks_of make ending (n ∷ numbers) = All-cons IsEnding (make n) (map make numbers) (ending n) (marks_of make ending numbers)

  -- the marks by which all that was live ends
  pub ends_all : (fetches jobs proposals others : List ℕ) → All (IsEnding {B = B}) (map (λ (f : ℕ). Withdrawn f) fetches
      ++ map (λ (j : ℕ). Ended j Cancelled) jobs ++ map (λ (t : ℕ). Declined t) proposals ++ map (λ (t : ℕ). Dropped t) others)
  ends_all fetches jobs proposals others =
      All-append IsEnding _ (map (λ (t : ℕ). Dropped t) others)
      (All-append IsEnding _ (map (λ (t : ℕ). Declined t) proposals)
      (All-append IsEnding (map (λ (f : ℕ). Withdrawn f) fetches) (map (λ (j : ℕ). Ended j Cancelled) jobs)
      (marks_of (λ f. Withdrawn f) (λ n. tt) fetches)
      (marks_of (λ j. Ended j Cancelled) (λ n. tt) jobs))
      (marks_of (λ t. Declined t) (λ n. tt) proposals))
      (marks_of (λ t. Dropped t) (λ n. tt) others)

  -- and that of a stop behind them
  pub ends_stopped : (marks : List (Mark B)) → All IsEnding marks → All IsEnding (marks ++ Stopped ∷ [])
  ends_stopped marks ending = All-append IsEnding marks (Stopped ∷ []) ending (All-cons IsEnding Stopped [] tt (All-nil IsEnding))

module _ {B C I P R D H G U : Type 0} (w : Workings B C I P R D H G U) where
  -- numbers are below the next ones where the machine is up
  pub IsCounted-up : (stored : ℕ → Option (Named B)) (base : w.States) (p : Past B C I) (m : Moment w) → IsUpAt w stored base p m
      → IsCounted w p m
  IsCounted-up stored base p m h = record {
    numbers = h.executes.tables.numbers;
    barriers = h.loop.barriers.numbers;
    none_away = h.sound.none_away;
  }

  -- at a later moment, where none of the numbers that are drawn next falls
  pub IsCounted-rises : (p : Past B C I) (m now : Moment w) → Rises m.execution.state now.execution.state
      → m.loop.next_barrier ≤ now.loop.next_barrier → w.kind.NoneAway now.members → IsCounted w p m → IsCounted w p now
  IsCounted-rises p m now rises barriers away c = record {
    numbers = record {
      jobs = λ j some. let low = c.numbers.jobs j some in omega (arith, low, rises.0);
      unturned = λ j le. c.numbers.unturned j (omega (arith, le, rises.0));
      fetches = λ f some. let low = c.numbers.fetches f some in omega (arith, low, rises.1);
    };
    barriers = λ k some. let low = c.barriers k some in omega (arith, low, barriers);
    none_away = away;
  }

  module _ (m : Moment w) where
    -- after a restart
    pub IsCounted-restart : (p : Past B C I) (floor : Floor) (keep : List ℕ) → IsCounted w p m → IsCounted w (Came (Restart floor keep) ∷ p) m
    IsCounted-restart p floor keep c = record {
      numbers = record { jobs = c.numbers.jobs; unturned = c.numbers.unturned; fetches = c.numbers.fetches };
      barriers = c.barriers;
      none_away = c.none_away;
    }

    -- after a mark by which live work ends
    pub IsCounted-ending : (p : Past B C I) (mark : Mark B) → IsEnding mark → IsCounted w p m → IsCounted w (Made mark ∷ p) m
    IsCounted-ending p (Withdrawn f) is c = record {
      numbers = record { jobs = c.numbers.jobs; unturned = c.numbers.unturned; fetches = c.numbers.fetches };
      barriers = c.barriers;
      none_away = c.none_away;
    }
    IsCounted-ending p (Ended j how) is c = record {
      numbers = record { jobs = c.numbers.jobs; unturned = c.numbers.unturned; fetches = c.numbers.fetches };
      barriers = c.barriers;
      none_away = c.none_away;
    }
    IsCounted-ending p (Declined t) is c = record {
      numbers = record { jobs = c.numbers.jobs; unturned = c.numbers.unturned; fetches = c.numbers.fetches };
      barriers = c.barriers;
      none_away = c.none_away;
    }
    IsCounted-ending p (Dropped t) is c = record {
      numbers = record { jobs = c.numbers.jobs; unturned = c.numbers.unturned; fetches = c.numbers.fetches };
      barriers = c.barriers;
      none_away = c.none_away;
    }
    IsCounted-ending p Stopped is c = record {
      numbers = record { jobs = c.numbers.jobs; unturned = c.numbers.unturned; fetches = c.numbers.fetches };
      barriers = c.barriers;
      none_away = c.none_away;
    }
    IsCounted-ending p mark is c = absurd is

    -- behind such marks
    pub IsCounted-ends : (p : Past B C I) (marks : List (Mark B)) → All IsEnding marks → IsCounted w p m → IsCounted w (after p marks) m
    IsCounted-ends p [] ending c = c
    IsCounted-ends p (mark ∷ marks) ending c =
        IsCounted-ends (Made mark ∷ p) marks (All-tail IsEnding mark marks ending)
        (IsCounted-ending p mark (All-head IsEnding mark marks ending) c)

  -- where a barrier breaks, which takes the machine down
  pub IsCounted-breaks : (p : Past B C I) (m now : Moment w) (active : Active)
      → now ≡ record m { loop = record m.loop { up = false }; marks = m.marks ++ BarrierDone active.number active.height false ∷ [] }
      → IsCounted w p m → IsCounted w (Made (BarrierDone active.number active.height false) ∷ p) now
  IsCounted-breaks p m now active is c = subst (λ (n : Moment w). IsCounted w (Made (BarrierDone active.number active.height false) ∷ p) n) (sym is)
      (record {
        numbers = record { jobs = c.numbers.jobs; unturned = c.numbers.unturned; fetches = c.numbers.fetches };
        barriers = c.barriers;
        none_away = c.none_away;
      })
