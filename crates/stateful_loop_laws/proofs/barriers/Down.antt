-- From a stop or a restart on no barrier is live until one begins, and the numbers so far stay below the next one.
use Rattle.std.proofs.Common.{◌≡◌, ◌≢◌, ◌<◌, ◌∷◌, [], ℕ, false, List, All, None, ◌∙◌, refl}
use Rattle.std.proofs.lemmas.List.Elements.{All-head, All-tail}
use Rattle.stateful_base.specs.Names.{Header}
use Rattle.stateful_history.specs.Barriers.{live_barrier, begun_over}
use Rattle.stateful_history.specs.Past.{Past, Item, Came, Made, after}
use Rattle.stateful_history.specs.declared.event.Event.TheVariants.{Restart}
use Rattle.stateful_history.specs.declared.mark.Mark.{Mark}
use Rattle.stateful_history.specs.declared.mark.Mark.TheVariants.{BarrierDone, Stopped}
use Rattle.stateful_base.specs.declared.floor.Floor.{Floor}
use Rattle.stateful_base.specs.declared.number.Height.{Height}
use Rattle.stateful_loop_laws.proofs.loop.CalmItems.{IsCalmItem, IsCalmMark, IsCalmItem-mark, LeavesLoop-calm}

-- each barrier so far has a number below this one
abbrev pub AreBelow : {B C I : Type 0} → Past B C I → ℕ → Type 0
AreBelow p next = (k : ℕ) → begun_over k p ≢ None → k < next

-- and none of them is live
pub record NoneLive {B C I : Type 0} (p : Past B C I) (next : ℕ) : Type 0 where
  pub dead : (k : ℕ) → live_barrier k p ≡ false
  pub below : AreBelow p next

module _ {B C I : Type 0} (header : Header B) (p : Past B C I) (next : ℕ) where
  -- a restart ends every barrier
  pub NoneLive-restart : (floor : Floor) (keep : List ℕ) → AreBelow p next → NoneLive (Came (Restart floor keep) ∷ p) next
  NoneLive-restart floor keep below = record { dead = λ k. refl; below = below }

  -- and so does a stop
  pub NoneLive-stopped : AreBelow p next → NoneLive (Made Stopped ∷ p) next
  NoneLive-stopped below = record { dead = λ k. refl; below = below }

  -- a barrier that ends has no other number
  pub AreBelow-done : (k : ℕ) (height : Height) → AreBelow p next → AreBelow (Made (BarrierDone k height false) ∷ p) next
  AreBelow-done k height below = below

  -- calm items begin none
  pub AreBelow-calm : (x : Item B C I) → IsCalmItem x → AreBelow p next → AreBelow (x ∷ p) next
  AreBelow-calm x calm below k begun = below k (λ none. begun ((LeavesLoop-calm header p x calm).barriers.over k ∙ none))

  -- and let none live again
  pub NoneLive-calm : (x : Item B C I) → IsCalmItem x → NoneLive p next → NoneLive (x ∷ p) next
  NoneLive-calm x calm h = record { dead = λ k. (LeavesLoop-calm header p x calm).barriers.live k ∙ h.dead k; below = AreBelow-calm x calm h.below }

module _ {B C I : Type 0} (header : Header B) (next : ℕ) where
  -- the marks that end what was live say nothing of it
  pub NoneLive-marks : (p : Past B C I) (marks : List (Mark B)) → All (λ x. IsCalmMark x) marks → NoneLive p next → NoneLive (after p marks) next
  NoneLive-marks p [] calm h = h
  NoneLive-marks p (mark ∷ marks) calm h =
      NoneLive-marks (Made mark ∷ p) marks (All-tail (λ x. IsCalmMark x) mark marks calm)
      (NoneLive-calm header p next (Made mark) (IsCalmItem-mark header p mark (All-head (λ x. IsCalmMark x) mark marks calm)) h)
