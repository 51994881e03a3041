-- Which events may come to a machine that is down.
use Rattle.std.proofs.Common.{◌≡◌, ℕ, true, false, refl}
use Rattle.stateful_history.specs.Live.{may_come}
use Rattle.stateful_history.specs.Opening.{is_down}
use Rattle.stateful_history.specs.Past.{Past}
use Rattle.stateful_history.specs.declared.event.Event.{Event}
use Rattle.stateful_history.specs.declared.event.Event.TheVariants.{Verify, Prepare, Propose, Finalized, Subscribe, Cancel, Fetched, Turn, Flushed, Progress, Stop, Restart}
use Rattle.stateful_actor_laws.specs.Machine.{is_restart}

module _ {B C I : Type 0} (count : ℕ) (p : Past B C I) where
  -- to a machine that is down none may come but a restart
  pub none_down : (event : Event B C I) → is_restart event ≡ false → is_down p ≡ true → may_come count p event ≡ false
  none_down (Verify t ancestry) other down = rw down refl
  none_down (Prepare t context ancestry input) other down = rw down refl
  none_down (Propose t context ancestry input) other down = rw down refl
  none_down (Finalized t b) other down = rw down refl
  none_down (Subscribe t) other down = rw down refl
  none_down (Cancel t) other down = rw down refl
  none_down (Fetched f answer) other down = rw down refl
  none_down (Turn j) other down = rw down refl
  none_down (Flushed k i answer) other down = rw down refl
  none_down (Progress i) other down = rw down refl
  none_down Stop other down = rw down refl
  none_down (Restart floor keep) other down = cc
