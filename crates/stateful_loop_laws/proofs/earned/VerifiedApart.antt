-- The ticket of a verification is that of no other event, where each new ticket is above every earlier one.
use Rattle.std.proofs.Common.{◌≡◌, ◌≢◌, ◌<◌, ◌≤◌, ◌+◌, ◌==◌, ◌||◌, max, if◌then◌else◌, ℕ, Bool, true, false, [], ◌∷◌, Option, Some, None, refl, sym, subst, arith}
use Rattle.std.proofs.lemmas.Bool.{eqb-true}
use Rattle.std.proofs.lemmas.Bool.Decides.{nat_tests}
use Rattle.stateful_base.specs.Names.{Named}
use Rattle.stateful_history.specs.Asked.{verified}
use Rattle.stateful_history.specs.Finalizations.{finalized_since}
use Rattle.stateful_history.specs.Live.{bound_of, is_new, names_live}
use Rattle.stateful_history.specs.Past.{Past, Came}
use Rattle.stateful_history.specs.Requests.{proposed, subscribed}
use Rattle.stateful_history.specs.declared.event.Event.{Event}
use Rattle.stateful_history.specs.declared.event.Event.TheVariants.{Verify, Prepare, Propose, Subscribe, Finalized, Restart}
use Rattle.stateful_loop_laws.specs.InHand.{VerifiedApart}

own_below : {X : Type 0} (t u bound : ℕ) (x none : X) (o : X) → (o ≢ none → t < bound) → (if t == u then x else o) ≢ none → t < max (u + 1) bound
own_below t u bound x none o before some = go (t == u) refl
  where
    go : (b : Bool) → (t == u) ≡ b → t < max (u + 1) bound
    go true same = let e = eqb-true t u same in omega (arith, e)
    go false other = let l = before (rw other at some) in omega (arith, l)

later_below : {X : Type 0} (t u bound : ℕ) (none : X) (o : X) → (o ≢ none → t < bound) → o ≢ none → t < max (u + 1) bound
later_below t u bound none o before some = let l = before some in omega (arith, l)

or_other : (b o : Bool) → (b || o) ≢ false → (if b then true else o) ≢ false
or_other true o some = some
or_other false o some = some

nothing : {X : Type 0} (o : Option X) → (o ≢ None → ⊥) → o ≡ None
nothing None not = refl
nothing (Some x) not = absurd (not (λ e. cc))

module _ {B C I : Type 0} where
  -- the ticket of a verification is an earlier one
  verified_below : (t : ℕ) (p : Past B C I) → verified t p ≢ None → t < bound_of p
  verified_below t [] some = absurd (some refl)
  verified_below t (Came (Verify u ancestry) ∷ p) some =
      own_below t u (bound_of p) (Some ancestry.first) None (verified t p) (verified_below t p) some
  verified_below t (Came (Prepare u context ancestry input) ∷ p) some =
      later_below t u (bound_of p) None (verified t p) (verified_below t p) some
  verified_below t (Came (Propose u context ancestry input) ∷ p) some =
      later_below t u (bound_of p) None (verified t p) (verified_below t p) some
  verified_below t (Came (Subscribe u) ∷ p) some = later_below t u (bound_of p) None (verified t p) (verified_below t p) some
  verified_below t (Came (Finalized u b) ∷ p) some = later_below t u (bound_of p) None (verified t p) (verified_below t p) some
  verified_below t (item ∷ p) some = verified_below t p some

  -- so is that of a request to build
  pub proposed_below : (t : ℕ) (p : Past B C I) → proposed t p ≢ None → t < bound_of p
  proposed_below t [] some = absurd (some refl)
  proposed_below t (Came (Verify u ancestry) ∷ p) some = later_below t u (bound_of p) None (proposed t p) (proposed_below t p) some
  proposed_below t (Came (Prepare u context ancestry input) ∷ p) some =
      own_below t u (bound_of p) _ None (proposed t p) (proposed_below t p) some
  proposed_below t (Came (Propose u context ancestry input) ∷ p) some =
      own_below t u (bound_of p) _ None (proposed t p) (proposed_below t p) some
  proposed_below t (Came (Subscribe u) ∷ p) some = later_below t u (bound_of p) None (proposed t p) (proposed_below t p) some
  proposed_below t (Came (Finalized u b) ∷ p) some = later_below t u (bound_of p) None (proposed t p) (proposed_below t p) some
  proposed_below t (item ∷ p) some = proposed_below t p some

  -- that of a subscription
  subscribed_below : (t : ℕ) (p : Past B C I) → subscribed t p ≢ false → t < bound_of p
  subscribed_below t [] some = absurd (some refl)
  subscribed_below t (Came (Verify u ancestry) ∷ p) some = later_below t u (bound_of p) false (subscribed t p) (subscribed_below t p) some
  subscribed_below t (Came (Prepare u context ancestry input) ∷ p) some =
      later_below t u (bound_of p) false (subscribed t p) (subscribed_below t p) some
  subscribed_below t (Came (Propose u context ancestry input) ∷ p) some =
      later_below t u (bound_of p) false (subscribed t p) (subscribed_below t p) some
  subscribed_below t (Came (Subscribe u) ∷ p) some =
      own_below t u (bound_of p) true false (subscribed t p) (subscribed_below t p) (or_other (t == u) (subscribed t p) some)
  subscribed_below t (Came (Finalized u b) ∷ p) some = later_below t u (bound_of p) false (subscribed t p) (subscribed_below t p) some
  subscribed_below t (item ∷ p) some = subscribed_below t p some

  -- and that of a finalization
  finalized_below : (t : ℕ) (p : Past B C I) → finalized_since t p ≢ None → t < bound_of p
  finalized_below t [] some = absurd (some refl)
  finalized_below t (Came (Restart floor keep) ∷ p) some = absurd (some refl)
  finalized_below t (Came (Verify u ancestry) ∷ p) some = later_below t u (bound_of p) None (finalized_since t p) (finalized_below t p) some
  finalized_below t (Came (Prepare u context ancestry input) ∷ p) some =
      later_below t u (bound_of p) None (finalized_since t p) (finalized_below t p) some
  finalized_below t (Came (Propose u context ancestry input) ∷ p) some =
      later_below t u (bound_of p) None (finalized_since t p) (finalized_below t p) some
  finalized_below t (Came (Subscribe u) ∷ p) some = later_below t u (bound_of p) None (finalized_since t p) (finalized_below t p) some
  finalized_below t (Came (Finalized u b) ∷ p) some =
      own_below t u (bound_of p) (Some b) None (finalized_since t p) (finalized_below t p) some
  finalized_below t (item ∷ p) some = finalized_below t p some

  module _ (p : Past B C I) (u : ℕ) (fresh : is_new u p ≡ true) where
    above : bound_of p ≤ u
    above = grind (arith, nat_tests, fresh)

    unverified : verified u p ≡ None
    unverified = nothing (verified u p) (λ some. let low = verified_below u p some in omega (arith, low, above))

    -- what is said of a new ticket, or of one of before, isn't that of a verification
    of_new : {X : Type 0} (t : ℕ) (x none o : X) → (o ≢ none → verified t p ≡ None) → (if t == u then x else o) ≢ none → verified t p ≡ None
    of_new t x none o before some = go (t == u) refl
      where
        go : (b : Bool) → (t == u) ≡ b → verified t p ≡ None
        go true same = subst (λ v. verified v p ≡ None) (sym (eqb-true t u same)) unverified
        go false other = before (rw other at some)

    -- behind a new verification
    apart_verify : {X : Type 0} (t : ℕ) (b : Named B) (none o : X) → (o ≢ none → t < bound_of p) → (o ≢ none → verified t p ≡ None) → o ≢ none
        → (if t == u then Some b else verified t p) ≡ None
    apart_verify t b none o low before some = go (t == u) refl
      where
        go : (c : Bool) → (t == u) ≡ c → (if t == u then Some b else verified t p) ≡ None
        go true same = let e = eqb-true t u same in let l = low some in absurd (omega (arith, e, l, above))
        go false other = rw other (before some)

  -- Tickets are apart after an event whose ticket, if it has one, is new.
  pub VerifiedApart-came : (count : ℕ) (p : Past B C I) (e : Event B C I) → names_live count p e ≡ true → VerifiedApart p → VerifiedApart (Came e ∷ p)
  VerifiedApart-came count p (Verify u ancestry) fresh h = record {
    unproposed = λ t some. apart_verify p u fresh t ancestry.first None (proposed t p) (proposed_below t p) (h.unproposed t) some;
    unsubscribed = λ t some. apart_verify p u fresh t ancestry.first false (subscribed t p) (subscribed_below t p) (h.unsubscribed t) some;
    unfinalized = λ t some. apart_verify p u fresh t ancestry.first None (finalized_since t p) (finalized_below t p) (h.unfinalized t) some;
  }
  VerifiedApart-came count p (Prepare u context ancestry input) fresh h = record {
    unproposed = λ t some. of_new p u fresh t _ None (proposed t p) (h.unproposed t) some;
    unsubscribed = h.unsubscribed;
    unfinalized = h.unfinalized;
  }
  VerifiedApart-came count p (Propose u context ancestry input) fresh h = record {
    unproposed = λ t some. of_new p u fresh t _ None (proposed t p) (h.unproposed t) some;
    unsubscribed = h.unsubscribed;
    unfinalized = h.unfinalized;
  }
  VerifiedApart-came count p (Subscribe u) fresh h = record {
    unproposed = h.unproposed;
    unsubscribed = λ t some. of_new p u fresh t true false (subscribed t p) (h.unsubscribed t) (or_other (t == u) (subscribed t p) some);
    unfinalized = h.unfinalized;
  }
  VerifiedApart-came count p (Finalized u b) fresh h = record {
    unproposed = h.unproposed;
    unsubscribed = h.unsubscribed;
    unfinalized = λ t some. of_new p u fresh t (Some b) None (finalized_since t p) (h.unfinalized t) some;
  }
  VerifiedApart-came count p (Restart floor keep) fresh h =
      record { unproposed = h.unproposed; unsubscribed = h.unsubscribed; unfinalized = λ t some. absurd (some refl) }
  VerifiedApart-came count p e fresh h = record { unproposed = h.unproposed; unsubscribed = h.unsubscribed; unfinalized = h.unfinalized }
