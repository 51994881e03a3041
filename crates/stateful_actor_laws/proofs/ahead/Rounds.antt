-- Live requests to build are for later rounds than those of their parents, where the events were lawful.
use Rattle.std.proofs.Common.{◌≡◌, ◌≤◌, ◌<◌, ◌==◌, ◌∷◌, [], ℕ, nat_lt, not, if◌then◌else◌, Bool, true, false, Option, Some, None, List, refl, sym, ap, ◌∙◌, subst, arith}
use Rattle.std.proofs.lemmas.Bool.{eqb-true}
use Rattle.std.proofs.lemmas.Bool.Decides.{nat_tests}
use Rattle.stateful_base.specs.Names.{Header, Named}
use Rattle.stateful_base.specs.Round.{IsLater}
use Rattle.stateful_base.specs.declared.round.Round.{Round}
use Rattle.stateful_history.specs.Live.{bound_of, is_new, live_ticket, names_live}
use Rattle.stateful_history.specs.Past.{Past, Came, Made, after}
use Rattle.stateful_history.specs.Requests.{Proposal, proposed, IsLiveProposal}
use Rattle.stateful_history.specs.Stops.{IsRestart}
use Rattle.stateful_history.specs.declared.event.Event.{Event}
use Rattle.stateful_history.specs.declared.event.Event.TheVariants.{Verify, Prepare, Propose, Finalized, Subscribe, Cancel, Restart}
use Rattle.stateful_history.specs.declared.mark.Mark.{Mark}
use Rattle.stateful_history.specs.declared.mark.Mark.TheVariants.{Verdict, Answered, Declined, Databases, Acknowledged, Dropped}
use Rattle.stateful_history.specs.declared.ticket.Ticket.{Ticket}
use Rattle.stateful_history.specs.declared.ticket.Ticket.TheVariants.{Request, Receipt}
use Rattle.stateful_loop_laws.proofs.earned.VerifiedApart.{proposed_below}
use Rattle.stateful_actor_laws.specs.Ahead.{RoundsAscend}

-- what is live was so before a mark that ends another ticket, or none
unended : {X : Type 0} (b : Bool) (o : Option X) (x : X) → (if b then None else o) ≡ Some x → o ≡ Some x
unended true o x is = cc
unended false o x is = is

-- a request to build is for a later round than its parent's
abbrev pub IsLaterAsked : {B C I : Type 0} → Header B → (C → Round) → Event B C I → Type 0
IsLaterAsked header round_by (Prepare u context ancestry input) = IsLater (header.round ancestry.first.block) (round_by context)
IsLaterAsked header round_by (Propose u context ancestry input) = IsLater (header.round ancestry.first.block) (round_by context)
IsLaterAsked header round_by e = Unit {0}

module _ {B C I : Type 0} where
  live_before : (t : ℕ) (mark : Mark B) (p : Past B C I) (x : Ticket) → live_ticket t (Made mark ∷ p) ≡ Some x → live_ticket t p ≡ Some x
  live_before t (Verdict u valid) p x is = unended (t == u) (live_ticket t p) x is
  live_before t (Answered u decision b) p x is = unended (t == u) (live_ticket t p) x is
  live_before t (Declined u) p x is = unended (t == u) (live_ticket t p) x is
  live_before t (Databases u) p x is = unended (t == u) (live_ticket t p) x is
  live_before t (Acknowledged u height) p x is = unended (t == u) (live_ticket t p) x is
  live_before t (Dropped u) p x is = unended (t == u) (live_ticket t p) x is
  live_before t mark p x is = is

  module _ (header : Header B) (round_by : C → Round) where
    rounds_one : (p : Past B C I) (mark : Mark B) → RoundsAscend header round_by p → RoundsAscend header round_by (Made mark ∷ p)
    rounds_one p mark h t r live = h t r (record { live = live_before t mark p Request live.live; proposes = live.proposes })

    -- marks ask for nothing
    pub rounds-marked : (p : Past B C I) (marks : List (Mark B)) → RoundsAscend header round_by p → RoundsAscend header round_by (after p marks)
    rounds-marked p [] h = h
    rounds-marked p (mark ∷ marks) h = rounds-marked (Made mark ∷ p) marks (rounds_one p mark h)

    -- a proposal of a ticket that is new
    new_none : (p : Past B C I) (u : ℕ) → is_new u p ≡ true → (t : ℕ) → (t == u) ≡ true → (r : Proposal B C I) → proposed t p ≡ Some r → ⊥
    new_none p u new t same r is =
        let below : t < bound_of p = proposed_below t p (λ none. let never : None ≡ Some r = sym none ∙ is in cc) in
        let equal : t ≡ u = eqb-true t u same in
        let above : bound_of p ≤ u = at_least u (bound_of p) new in
        absurd (omega (arith, below, equal, above))
      where
        at_least : (a b : ℕ) → not (nat_lt a b) ≡ true → b ≤ a
        at_least a b h = grind (arith, nat_tests)

    module _ (p : Past B C I) (h : RoundsAscend header round_by p) where
      -- a request to build comes
      asked : (u : ℕ) (own : Proposal B C I) → IsLater (header.round own.parent.block) (round_by own.context) → (t : ℕ) (r : Proposal B C I)
          → (if t == u then Some Request else live_ticket t p) ≡ Some Request → (if t == u then Some own else proposed t p) ≡ Some r
          → IsLater (header.round r.parent.block) (round_by r.context)
      asked u own later t r live is = go (t == u) refl
        where
          go : (b : Bool) → (t == u) ≡ b → IsLater (header.round r.parent.block) (round_by r.context)
          go true same =
              let found : Some own ≡ Some r = rw same at is in
              let one : own ≡ r = cc in
              subst (λ (x : Proposal B C I). IsLater (header.round x.parent.block) (round_by x.context)) one later
          go false other = h t r (record { live = rw other at live; proposes = rw other at is })

      -- another ticket comes
      unasked : (u : ℕ) (x : Ticket) → is_new u p ≡ true → (t : ℕ) (r : Proposal B C I)
          → (if t == u then Some x else live_ticket t p) ≡ Some Request → proposed t p ≡ Some r → IsLater (header.round r.parent.block) (round_by r.context)
      unasked u x new t r live is = go (t == u) refl
        where
          go : (b : Bool) → (t == u) ≡ b → IsLater (header.round r.parent.block) (round_by r.context)
          go true same = absurd (new_none p u new t same r is)
          go false other = h t r (record { live = rw other at live; proposes = is })

      -- an event that is no restart comes, and one that asks for a block asks for a later round than its parent's
      pub rounds-came : (count : ℕ) (e : Event B C I) → (IsRestart e → ⊥) → names_live count p e ≡ true → IsLaterAsked header round_by e
          → RoundsAscend header round_by (Came e ∷ p)
      rounds-came count (Restart floor keep) on names later t r live = absurd (on tt)
      rounds-came count (Prepare u context ancestry input) on names later t r live = asked u _ later t r live.live live.proposes
      rounds-came count (Propose u context ancestry input) on names later t r live = asked u _ later t r live.live live.proposes
      rounds-came count (Verify u ancestry) on names later t r live = unasked u Request names t r live.live live.proposes
      rounds-came count (Subscribe u) on names later t r live = unasked u Request names t r live.live live.proposes
      rounds-came count (Finalized u b) on names later t r live = unasked u Receipt names t r live.live live.proposes
      rounds-came count (Cancel u) on names later t r live =
          h t r (record { live = unended (t == u) (live_ticket t p) Request live.live; proposes = live.proposes })
      rounds-came count e on names later t r live = h t r (record { live = live.live; proposes = live.proposes })
