-- The open barriers stand for a past, and agree with the databases.
use Rattle.std.specs.Prelude.{◌≡◌, ◌≢◌, ◌≤◌, ◌<◌, ◌+◌, ◌-◌, ◌⊎◌, ℕ, true, Some, None, IsSome, List}
use Rattle.std.specs.Prelude.{All, AllPairs, Any, slice_get}
use Rattle.stateful_base.specs.Names.{Header}
use Rattle.stateful_base.specs.declared.anchor.Anchor.{Anchor}
use Rattle.stateful_db.specs.Databases.{Databases}
use Rattle.stateful_db.specs.declared.barrier.Handle.{Handle}
use Rattle.stateful_db.specs.declared.barrier.Flushed.TheVariants.{Good, Interrupted}
use Rattle.stateful_history.specs.Barriers.{live_barrier, begun_over, WasInterrupted, BeganSince}
use Rattle.stateful_history.specs.Barriers.{BeganBefore, WasDone}
use Rattle.stateful_history.specs.Durable.{BeganOver, WasFlushed}
use Rattle.stateful_history.specs.Live.{live_flush}
use Rattle.stateful_history.specs.Past.{Past}
use Rattle.stateful_loop_model.specs.Barriers.{awaiting}
use Rattle.stateful_loop_model.specs.declared.barriers.Active.{Active}

module _ {B C I Ids S T : Type 0} (d : Databases Ids S T) (header : Header B) (p : Past B C I)
    (m : d.Members) (first : Anchor) (origin : ℕ → ℕ) where
  -- a handle of a barrier stands for the checkpoint of its height; it has the answer that came, and
  -- is durable where that was good
  pub record HandleStands (number offset i : ℕ) (handle : Handle) : Type 0 where
    pub place : handle.token.place ≡ origin i + offset
    pub flushed : handle.answer ≡ Some Good
        → WasFlushed number i p × (origin i + offset ≤ d.durable m i)
    pub interrupted : handle.answer ≡ Some Interrupted → WasInterrupted number p

  -- an open barrier is live and began over its height, and its handles stand
  pub record ActiveStands (active : Active) : Type 0 where
    pub live : live_barrier active.number p ≡ true
    pub over : begun_over active.number p ≡ Some active.height
    pub began : BeganOver header active.number active.height.0 p
    pub since : BeganSince active.number p
    pub handles : (i : ℕ) (handle : Handle) → i < d.count → slice_get active.barrier i ≡ Some handle
        → HandleStands active.number (active.height.0 - first.height.0) i handle

  -- Each open barrier stands so, by ascending numbers; each live one is open; and each that began
  -- since the opening was done and is good, or is live. What began before one of these began since
  -- the opening too, under a lower number, and the next number is above them all.
  pub record BarriersStand (barriers : List Active) (next_barrier : ℕ) : Type 0 where
    pub each : All ActiveStands barriers
    pub ascending : AllPairs (λ a b. a.number < b.number) barriers
    pub complete : (k : ℕ) → live_barrier k p ≡ true → Any (λ a. a.number ≡ k) barriers
    pub done : (k : ℕ) → BeganSince k p → WasDone k p ⊎ (live_barrier k p ≡ true)
    pub later : (k n : ℕ) → BeganSince n p → BeganBefore k n p → BeganSince k p × (k < n)
    pub numbers : (k : ℕ) → begun_over k p ≢ None → k < next_barrier

-- each live flush is awaited, of a barrier that is open
abbrev pub AwaitsEach : {B C I : Type 0} → ℕ → Past B C I → List Active → Type 0
AwaitsEach count p barriers =
    (k i : ℕ) → live_flush count k i p ≡ true → IsSome (awaiting k i barriers)

-- and each flush that an open barrier awaits is live
abbrev pub AwaitsLive : {B C I : Type 0} → ℕ → Past B C I → List Active → Type 0
AwaitsLive count p barriers =
    (k i : ℕ) → IsSome (awaiting k i barriers) → live_flush count k i p ≡ true
