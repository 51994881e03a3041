-- What is live where there are few databases is live where there are more.
use Rattle.std.proofs.Common.{◌≡◌, ◌≤◌, ◌∷◌, [], ℕ, Bool, true, false, not, ◌&&◌, ◌||◌, ◌==◌, nat_lt, refl, arith}
use Rattle.std.proofs.lemmas.Bool.{false≢true}
use Rattle.std.proofs.lemmas.Grind.{common_steps}
use Rattle.stateful_history.specs.Live.{live_flush, names_live}
use Rattle.stateful_history.specs.Past.{Past, Came, Made}
use Rattle.stateful_history.specs.declared.event.Event.{Event}
use Rattle.stateful_history.specs.declared.event.Event.TheVariants.{Flushed, Restart}
use Rattle.stateful_history.specs.declared.mark.Mark.TheVariants.{BarrierBegun, BarrierDone, Stopped}
use Rattle.stateful_actor_laws.specs.Machine.{numbered}

lower : (i few many : ℕ) → few ≤ many → nat_lt i few ≡ true → nat_lt i many ≡ true
lower i few many le lt = grind (arith, common_steps)

and_more : (b x y : Bool) → (x ≡ true → y ≡ true) → (b && x) ≡ true → (b && y) ≡ true
and_more true x y more e = more e
and_more false x y more e = e

or_more : (a b x y : Bool) → (a ≡ true → b ≡ true) → (x ≡ true → y ≡ true) → (a || x) ≡ true → (b || y) ≡ true
or_more true true x y one two e = refl
or_more true false x y one two e = absurd (false≢true (one refl))
or_more false true x y one two e = refl
or_more false false x y one two e = two e

-- the number of databases that have a number is not above that of all
pub numbered_le : (count : ℕ) → numbered count ≤ count
numbered_le count = omega arith

module _ {B C I : Type 0} (few many : ℕ) (le : few ≤ many) where
  -- a barrier waits for a database
  pub live_flush-more : (k i : ℕ) (p : Past B C I) → live_flush few k i p ≡ true → live_flush many k i p ≡ true
  live_flush-more k i [] live = live
  live_flush-more k i (Made (BarrierBegun m height) ∷ p) live =
      or_more ((k == m) && nat_lt i few) ((k == m) && nat_lt i many) (live_flush few k i p) (live_flush many k i p)
      (and_more (k == m) (nat_lt i few) (nat_lt i many) (lower i few many le)) (live_flush-more k i p) live
  live_flush-more k i (Came (Flushed m n answer) ∷ p) live =
      and_more (not ((k == m) && (i == n))) (live_flush few k i p) (live_flush many k i p) (live_flush-more k i p) live
  live_flush-more k i (Made (BarrierDone m height good) ∷ p) live =
      and_more (not (k == m)) (live_flush few k i p) (live_flush many k i p) (live_flush-more k i p) live
  live_flush-more k i (Made Stopped ∷ p) live = live
  live_flush-more k i (Came (Restart floor keep) ∷ p) live = live
  live_flush-more k i (item ∷ p) live = live_flush-more k i p live

  -- an event names what is live
  pub names_live-more : (p : Past B C I) (e : Event B C I) → names_live few p e ≡ true → names_live many p e ≡ true
  names_live-more p (Flushed k i answer) live = live_flush-more k i p live
  names_live-more p e live = live
