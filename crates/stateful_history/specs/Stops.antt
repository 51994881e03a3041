-- Stops and starts: what they end, and which marks stand in their entries alone.
use Rattle.std.specs.Prelude.{◌≡◌, ◌⊎◌, ◌++◌, ℕ, false, None, List, [], ◌∷◌, Contains, Any}
use Rattle.stateful_history.specs.Past.{Past, Made}
use Rattle.stateful_history.specs.Live.{live_ticket, live_job, live_fetch}
use Rattle.stateful_history.specs.Barriers.{live_barrier}
use Rattle.stateful_history.specs.declared.event.Event.{Event}
use Rattle.stateful_history.specs.declared.event.Event.TheVariants.{Stop, Restart}
use Rattle.stateful_history.specs.declared.mark.Mark.{Mark}
use Rattle.stateful_history.specs.declared.mark.Mark.TheVariants.{Opened, BarrierDone, Dropped}
use Rattle.stateful_history.specs.declared.mark.Mark.TheVariants.{Stopped}

abbrev pub IsBroken : {B : Type 0} → Mark B → Type 0
IsBroken (BarrierDone k height false) = Unit {0}
IsBroken mark = ⊥

module _ {B C I : Type 0} where
  abbrev pub IsRestart : Event B C I → Type 0
  IsRestart (Restart floor keep) = Unit {0}
  IsRestart event = ⊥

  -- the event is a stop or a restart, or the machine stops in its entry
  abbrev pub IsStopped : Event B C I → List (Mark B) → Type 0
  IsStopped event marks = (event ≡ Stop) ⊎ (IsRestart event ⊎ Contains marks Stopped)

  -- no request, receipt, fetch, job or barrier is live
  pub record NothingLive (p : Past B C I) : Type 0 where
    pub tickets : (t : ℕ) → live_ticket t p ≡ None
    pub fetches : (f : ℕ) → live_fetch f p ≡ false
    pub jobs : (j : ℕ) → live_job j p ≡ false
    pub barriers : (k : ℕ) → live_barrier k p ≡ false

  -- a barrier of the entry at this place broke before
  abbrev pub BrokeBefore : Past B C I → Type 0
  BrokeBefore (Made mark ∷ p) = IsBroken mark ⊎ BrokeBefore p
  BrokeBefore p = ⊥

  -- A stop is marked where the event is a stop or behind a barrier that broke, and nothing is live
  -- behind it. A request or receipt is dropped by a stop or a restart alone.
  abbrev pub StopsClean : Event B C I → List (Mark B) → Past B C I → Mark B → Type 0
  StopsClean event marks p Stopped =
      ((event ≡ Stop) ⊎ BrokeBefore p) × NothingLive (Made Stopped ∷ p)
  StopsClean event marks p (Dropped t) = IsStopped event marks
  StopsClean event marks p mark = Unit {0}

  -- a restart opens where nothing is live any more
  abbrev pub StartsClean : Past B C I → Mark B → Type 0
  StartsClean p (Opened anchor) = NothingLive p
  StartsClean p mark = Unit {0}

  -- the entry of a stop, and each in which a barrier broke, ends with the mark that the machine has
  -- stopped
  abbrev pub EndsStopped : Event B C I → List (Mark B) → Type 0
  EndsStopped event marks =
      ((event ≡ Stop) ⊎ Any IsBroken marks)
      → (before : List (Mark B)) × (marks ≡ before ++ Stopped ∷ [])
