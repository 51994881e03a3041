-- What a past keeps for marks to be in their places is kept after events that name what is live.
use Rattle.std.proofs.Common.{◌≡◌, ◌≢◌, ◌<◌, ◌≤◌, ◌+◌, ◌==◌, if◌then◌else◌, max, ℕ, Bool, true, false, [], ◌∷◌, Option, None, Some, refl, sym, ◌∙◌, subst, arith}
use Rattle.std.proofs.lemmas.Bool.{eqb-true}
use Rattle.std.proofs.lemmas.Bool.Decides.{nat_tests}
use Rattle.stateful_base.specs.Names.{Named}
use Rattle.stateful_base.specs.declared.digest.Digest.{Digest}
use Rattle.stateful_history.specs.Asked.{verified}
use Rattle.stateful_history.specs.Fetches.{WasAsked}
use Rattle.stateful_history.specs.Finalizations.{begun}
use Rattle.stateful_history.specs.Live.{live_ticket, bound_of, is_new, names_live}
use Rattle.stateful_history.specs.Opening.{is_handing_over}
use Rattle.stateful_history.specs.Past.{Past, Came}
use Rattle.stateful_history.specs.Requests.{Proposal, proposed, subject}
use Rattle.stateful_history.specs.Runs.{unhooked}
use Rattle.stateful_history.specs.Stops.{IsRestart}
use Rattle.stateful_history.specs.declared.event.Event.{Event}
use Rattle.stateful_history.specs.declared.event.Event.TheVariants as event
use Rattle.stateful_history.specs.declared.ticket.Ticket.{Ticket}
use Rattle.stateful_exec_model.specs.Workings.{Workings}
use Rattle.stateful_exec_laws.specs.Outstanding.{TicketsApart}
use Rattle.stateful_exec_laws.specs.Setting.{setting}
use Rattle.stateful_exec_laws.proofs.runs.Removing.{differ}
use Rattle.stateful_exec_laws.proofs.runs.SpentRuns.{MayRunAgain-item}
use Rattle.stateful_loop_laws.specs.Places.{IsOrderlyPast, PastKept}
use Rattle.stateful_loop_laws.proofs.places.Past.{orderly-gone, live_off}
use Rattle.stateful_loop_laws.proofs.tickets.Uncancelled.{gone-event}

came_below : {T : Type 0} (t u bound : ℕ) (y x : T) (o : Option T) → (o ≡ Some x → t < bound) → (if t == u then Some y else o) ≡ Some x → t < max
    (u + 1) bound
came_below t u bound y x o before is = go (t == u) refl
  where
    go : (b : Bool) → (t == u) ≡ b → t < max (u + 1) bound
    go true same = let e = eqb-true t u same in omega (arith, e)
    go false other = let l = before (rw other at is) in omega (arith, l)

above : (t u bound : ℕ) → t < bound → t < max (u + 1) bound
above t u bound l = omega (arith, l)

module _ {B C I : Type 0} where
  verified_below : (t : ℕ) (p : Past B C I) (b : Named B) → verified t p ≡ Some b → t < bound_of p
  verified_below t [] b is = let never : ⊥ = cc in absurd never
  verified_below t (Came (event.Verify u ancestry) ∷ p) b is = came_below t u (bound_of p) _ b (verified t p) (verified_below t p b) is
  verified_below t (Came (event.Prepare u context ancestry input) ∷ p) b is = above t u (bound_of p) (verified_below t p b is)
  verified_below t (Came (event.Propose u context ancestry input) ∷ p) b is = above t u (bound_of p) (verified_below t p b is)
  verified_below t (Came (event.Subscribe u) ∷ p) b is = above t u (bound_of p) (verified_below t p b is)
  verified_below t (Came (event.Finalized u c) ∷ p) b is = above t u (bound_of p) (verified_below t p b is)
  verified_below t (item ∷ p) b is = verified_below t p b is

  proposed_below : (t : ℕ) (p : Past B C I) (b : Proposal B C I) → proposed t p ≡ Some b → t < bound_of p
  proposed_below t [] b is = let never : ⊥ = cc in absurd never
  proposed_below t (Came (event.Verify u ancestry) ∷ p) b is = above t u (bound_of p) (proposed_below t p b is)
  proposed_below t (Came (event.Prepare u context ancestry input) ∷ p) b is = came_below t u (bound_of p) _ b (proposed t p) (proposed_below t p b) is
  proposed_below t (Came (event.Propose u context ancestry input) ∷ p) b is = came_below t u (bound_of p) _ b (proposed t p) (proposed_below t p b) is
  proposed_below t (Came (event.Subscribe u) ∷ p) b is = above t u (bound_of p) (proposed_below t p b is)
  proposed_below t (Came (event.Finalized u c) ∷ p) b is = above t u (bound_of p) (proposed_below t p b is)
  proposed_below t (item ∷ p) b is = proposed_below t p b is

  subject_below : (t : ℕ) (p : Past B C I) (b : Named B) → subject t p ≡ Some b → t < bound_of p
  subject_below t p b is = go (verified t p) (proposed t p) refl refl
    where
      go : (o : Option (Named B)) (x : Option (Proposal B C I)) → verified t p ≡ o → proposed t p ≡ x → t < bound_of p
      go (Some c) x v y = verified_below t p c v
      go None (Some c) v y = proposed_below t p c y
      go None None v y = let no = rw (v, y) at is in let never : ⊥ = cc in absurd never

  module _ (p : Past B C I) (u : ℕ) (fresh : is_new u p ≡ true) where
    pub fresh-other : (t : ℕ) → t < bound_of p → (t == u) ≡ false
    fresh-other t below =
        let over : bound_of p ≤ u = grind (arith, nat_tests, fresh) in
        differ t u (λ same. omega (arith, over, below, same))

    unverified : (o : Option (Named B)) → verified u p ≡ o → verified u p ≡ None
    unverified None is = is
    unverified (Some b) is =
        let over : bound_of p ≤ u = grind (arith, nat_tests, fresh) in
        let below = verified_below u p b is in
        let never : ⊥ = omega (arith, over, below) in absurd never

    -- for a new ticket nothing is to be judged yet
    new-unverified : verified u p ≡ None
    new-unverified = unverified (verified u p) refl

    judged_below : (t : ℕ) → proposed t p ≢ None → t < bound_of p
    judged_below t some = go (proposed t p) refl
      where
        go : (o : Option (Proposal B C I)) → proposed t p ≡ o → t < bound_of p
        go None is = absurd (some is)
        go (Some b) is = proposed_below t p b is

    apart_judged : (t : ℕ) (y : Named B) → TicketsApart p → proposed t p ≢ None → (if t == u then Some y else verified t p) ≡ None
    apart_judged t y apart some = rw (fresh-other t (judged_below t some)) (apart t some)

    apart_asked : (t : ℕ) (y : Proposal B C I) → TicketsApart p → (if t == u then Some y else proposed t p) ≢ None → verified t p ≡ None
    apart_asked t y apart some = go (t == u) refl
      where
        go : (b : Bool) → (t == u) ≡ b → verified t p ≡ None
        go true same = subst (λ (n : ℕ). verified n p ≡ None) (sym (eqb-true t u same)) new-unverified
        go false other = apart t (λ none. some (rw other none))

  -- tickets are those of one event each after an event that names what is live
  pub apart-came : (count : ℕ) (p : Past B C I) (e : Event B C I) → names_live count p e ≡ true → TicketsApart p → TicketsApart (Came e ∷ p)
  apart-came count p (event.Verify u ancestry) live apart t some = apart_judged p u live t ancestry.first apart some
  apart-came count p (event.Prepare u context ancestry input) live apart t some = apart_asked p u live t _ apart some
  apart-came count p (event.Propose u context ancestry input) live apart t some = apart_asked p u live t _ apart some
  apart-came count p e live apart t some = apart t some

  -- and requests are about what they were about
  pub subject-came : (count : ℕ) (p : Past B C I) (e : Event B C I) → names_live count p e ≡ true → (t : ℕ) (b : Named B) → subject t p ≡ Some b
      → subject t (Came e ∷ p) ≡ Some b
  subject-came count p (event.Verify u ancestry) live t b is = rw (fresh-other p u live t (subject_below t p b is)) is
  subject-came count p (event.Prepare u context ancestry input) live t b is = rw (fresh-other p u live t (subject_below t p b is)) is
  subject-came count p (event.Propose u context ancestry input) live t b is = rw (fresh-other p u live t (subject_below t p b is)) is
  subject-came count p e live t b is = is

  -- an earlier ticket that is live after an event was so before
  pub live-came : (count : ℕ) (p : Past B C I) (e : Event B C I) → (IsRestart e → ⊥) → names_live count p e ≡ true → (t : ℕ) (x : Ticket)
      → t < bound_of p
      → live_ticket t (Came e ∷ p) ≡ Some x → live_ticket t p ≡ Some x
  live-came count p (event.Verify u ancestry) on live t x below is = rw (fresh-other p u live t below) at is
  live-came count p (event.Prepare u context ancestry input) on live t x below is = rw (fresh-other p u live t below) at is
  live-came count p (event.Propose u context ancestry input) on live t x below is = rw (fresh-other p u live t below) at is
  live-came count p (event.Finalized u b) on live t x below is = rw (fresh-other p u live t below) at is
  live-came count p (event.Subscribe u) on live t x below is = rw (fresh-other p u live t below) at is
  live-came count p (event.Cancel u) on live t x below is = live_off t u x (live_ticket t p) is
  live-came count p e on live t x below is = is

  pub bound-came : (p : Past B C I) (e : Event B C I) (t : ℕ) → t < bound_of p → t < bound_of (Came e ∷ p)
  bound-came p (event.Verify u ancestry) t l = above t u (bound_of p) l
  bound-came p (event.Prepare u context ancestry input) t l = above t u (bound_of p) l
  bound-came p (event.Propose u context ancestry input) t l = above t u (bound_of p) l
  bound-came p (event.Finalized u b) t l = above t u (bound_of p) l
  bound-came p (event.Subscribe u) t l = above t u (bound_of p) l
  bound-came p e t l = l

  -- what was asked after an event was asked before
  pub asked-came : (p : Past B C I) (e : Event B C I) (t : ℕ) (d : Digest) → WasAsked t d (Came e ∷ p) → WasAsked t d p
  asked-came p e t d was = was

  -- after an event no handover goes on, where none did
  pub whole-came : (p : Past B C I) (e : Event B C I) → is_handing_over p ≡ false → is_handing_over (Came e ∷ p) ≡ false
  whole-came p (event.Restart floor keep) whole = refl
  whole-came p e whole = whole

  pub begun-came : (p : Past B C I) (e : Event B C I) → (IsRestart e → ⊥) → begun (Came e ∷ p) ≡ begun p
  begun-came p (event.Restart floor keep) on = absurd (on tt)
  begun-came p e on = refl

  pub unhooked-came : (p : Past B C I) (e : Event B C I) → (IsRestart e → ⊥) → unhooked (Came e ∷ p) ≡ unhooked p
  unhooked-came p (event.Restart floor keep) on = absurd (on tt)
  unhooked-came p e on = refl

module _ {B C I P R D H G U : Type 0} (w : Workings B C I P R D H G U) (stored : ℕ → Option (Named B)) where
  -- A past stays in order after an event that names what is live.
  pub past-came : (count : ℕ) (p : Past B C I) (e : Event B C I) → names_live count p e ≡ true → IsOrderlyPast w stored p
      → IsOrderlyPast w stored (Came e ∷ p)
  past-came count p e live h =
      let gone = gone-event count p e live h.gone in
      record {
        orderly = orderly-gone w stored (Came e ∷ p) gone (apart-came count p e live h.orderly.apart)
            (λ d. MayRunAgain-item (setting w stored) p (Came e) (λ t b is. subject-came count p e live t b is) (λ j how is. cc) d
            (h.orderly.again d));
        gone = gone;
        whole = whole-came p e h.whole;
      }

  -- And what was asked for a ticket was so for an earlier one.
  pub past-kept-came : (count : ℕ) (p : Past B C I) (e : Event B C I) → names_live count p e ≡ true → PastKept w stored p
      → PastKept w stored (Came e ∷ p)
  past-kept-came count p e live h = record {
    past = past-came count p e live h.past;
    earlier = λ t d was. bound-came p e t (h.earlier t d (asked-came p e t d was));
  }
