-- What was cancelled isn't live, and doesn't come again: so what is live wasn't cancelled.
use Rattle.std.proofs.Common.{◌≡◌, ◌≤◌, ◌<◌, ◌+◌, ◌==◌, max, if◌then◌else◌, ℕ, Bool, true, false, [], ◌∷◌, Option, Some, None, refl, sym, ◌∙◌, subst, arith}
use Rattle.std.proofs.lemmas.Bool.{eqb-true}
use Rattle.std.proofs.lemmas.Bool.Decides.{nat_tests}
use Rattle.stateful_history.specs.Answers.{was_cancelled}
use Rattle.stateful_history.specs.Live.{live_ticket, bound_of, is_new, names_live}
use Rattle.stateful_history.specs.Past.{Past, Item, Came, Made, Unmarked, Cut, Tried, Seeking}
use Rattle.stateful_history.specs.declared.event.Event.{Event}
use Rattle.stateful_history.specs.declared.event.Event.TheVariants.{Verify, Prepare, Propose, Finalized, Subscribe, Cancel}
use Rattle.stateful_history.specs.declared.mark.Mark.{Mark}
use Rattle.stateful_history.specs.declared.mark.Mark.TheVariants.{Verdict, Answered, Declined, Databases, Acknowledged, Dropped}
use Rattle.stateful_history.specs.declared.ticket.Ticket.{Ticket}
use Rattle.stateful_exec_laws.proofs.requests.Arrivals.{live_below}
use Rattle.stateful_exec_laws.proofs.runs.Removing.{differ}
use Rattle.stateful_loop_laws.specs.Places.{CancelledIsGone}
use Rattle.stateful_loop_laws.proofs.tickets.Cancelled.{request_live}

ended : (t u : ℕ) (o : Option Ticket) → o ≡ None → (if t == u then None else o) ≡ None
ended t u o off = go (t == u)
  where
    go : (b : Bool) → (if b then None else o) ≡ None
    go true = refl
    go false = off

module _ {B C I : Type 0} where
  -- what is live wasn't cancelled
  pub live-uncancelled : (p : Past B C I) → CancelledIsGone p → (t : ℕ) (x : Ticket) → live_ticket t p ≡ Some x → was_cancelled t p ≡ false
  live-uncancelled p gone t x live = go (was_cancelled t p) refl
    where
      go : (b : Bool) → was_cancelled t p ≡ b → b ≡ false
      go true is = let no : None ≡ Some x = sym (gone t is).0 ∙ live in let never : ⊥ = cc in absurd never
      go false is = refl

  -- after a mark
  pub gone-mark : (p : Past B C I) (mark : Mark B) → CancelledIsGone p → CancelledIsGone (Made mark ∷ p)
  gone-mark p (Verdict u answer) gone t is = let h = gone t is in (ended t u _ h.0, h.1)
  gone-mark p (Answered u decision b) gone t is = let h = gone t is in (ended t u _ h.0, h.1)
  gone-mark p (Declined u) gone t is = let h = gone t is in (ended t u _ h.0, h.1)
  gone-mark p (Databases u) gone t is = let h = gone t is in (ended t u _ h.0, h.1)
  gone-mark p (Acknowledged u height) gone t is = let h = gone t is in (ended t u _ h.0, h.1)
  gone-mark p (Dropped u) gone t is = let h = gone t is in (ended t u _ h.0, h.1)
  gone-mark p mark gone t is = gone t is

  came : (p : Past B C I) (u t : ℕ) (x : Ticket) → is_new u p ≡ true → (live_ticket t p ≡ None) × (t < bound_of p)
      → ((if t == u then Some x else live_ticket t p) ≡ None) × (t < max (u + 1) (bound_of p))
  came p u t x fresh h =
      let above : bound_of p ≤ u = grind (arith, nat_tests, fresh) in
      let below = h.1 in
      (rw (differ t u (λ same. omega (arith, above, below, same))) h.0, omega (arith, below))

  -- before all else
  pub gone-first : (p : Past B C I) → p ≡ [] → CancelledIsGone p
  gone-first p is t cancelled = let no : was_cancelled {B = B} {C = C} {I = I} t [] ≡ true = subst (λ q. was_cancelled t q ≡ true) is cancelled in
      let never : ⊥ = cc in absurd never

  -- after an event that names what is live
  pub gone-event : (count : ℕ) (p : Past B C I) (e : Event B C I) → names_live count p e ≡ true → CancelledIsGone p → CancelledIsGone (Came e ∷ p)
  gone-event count p (Verify u ancestry) names gone t is = came p u t _ names (gone t is)
  gone-event count p (Prepare u context ancestry input) names gone t is = came p u t _ names (gone t is)
  gone-event count p (Propose u context ancestry input) names gone t is = came p u t _ names (gone t is)
  gone-event count p (Finalized u b) names gone t is = came p u t _ names (gone t is)
  gone-event count p (Subscribe u) names gone t is = came p u t _ names (gone t is)
  gone-event count p (Cancel u) names gone t is = go (t == u) refl
    where
      go : (b : Bool) → (t == u) ≡ b → ((if t == u then None else live_ticket t p) ≡ None) × (t < bound_of p)
      go true same = (rw same refl, subst (λ n. n < bound_of p) (sym (eqb-true t u same)) (live_below u p _ (request_live count u p names)))
      go false other = let h = gone t (rw other at is) in (rw other h.0, h.1)
  gone-event count p e names gone t is = gone t is

  -- behind what no entry tells
  pub gone-untold : (p : Past B C I) (x : Item B C I) → ((e : Event B C I) → x ≡ Came e → ⊥) → ((mark : Mark B) → x ≡ Made mark → ⊥)
      → CancelledIsGone p → CancelledIsGone (x ∷ p)
  gone-untold p (Came e) no_event no_mark gone = absurd (no_event e refl)
  gone-untold p (Made mark) no_event no_mark gone = absurd (no_mark mark refl)
  gone-untold p (Unmarked height) no_event no_mark gone = gone
  gone-untold p (Cut height) no_event no_mark gone = gone
  gone-untold p (Tried height) no_event no_mark gone = gone
  gone-untold p (Seeking databases) no_event no_mark gone = gone
