-- A new ticket is in no table, and a request that comes is in hand.
use Rattle.std.proofs.Common.{◌≡◌, ◌+◌, ◌<◌, ◌≤◌, ◌==◌, max, if◌then◌else◌, ◌⊎◌, Contains, inl, inr, ℕ, Bool, true, false, [], ◌∷◌, All, Option, Some, None, refl, arith}
use Rattle.std.proofs.lemmas.Bool.{eqb-true, eq-eqb}
use Rattle.std.proofs.lemmas.Bool.Decides.{nat_tests}
use Rattle.std.proofs.lemmas.List.Elements.{All-cons, All-weaker, All-contains_itself}
use Rattle.stateful_base.specs.Names.{Named}
use Rattle.stateful_base.specs.declared.block.Ancestry.{Ancestry}
use Rattle.stateful_base.specs.declared.digest.Digest.{Digest}
use Rattle.stateful_db.specs.declared.application.ProposalKind.TheVariants as kinds
use Rattle.stateful_history.specs.Past.{Past, Item, Came, Made}
use Rattle.stateful_history.specs.Live.{live_ticket, bound_of, is_new}
use Rattle.stateful_history.specs.Met.{Brings, Met}
use Rattle.stateful_history.specs.Requests.{IsLiveProposal}
use Rattle.stateful_history.specs.declared.event.Event.TheVariants.{Verify, Prepare, Propose, Subscribe, Finalized, Cancel}
use Rattle.stateful_history.specs.declared.mark.Mark.TheVariants.{Acknowledged, Databases, Verdict, Answered, Declined, Dropped}
use Rattle.stateful_history.specs.declared.ticket.Ticket.{Ticket}
use Rattle.stateful_table.specs.Table.{at}
use Rattle.stateful_exec_model.specs.Workings.{Workings, Point}
use Rattle.stateful_exec_walk.specs.declared.request.Proposal.{Proposal}
use Rattle.stateful_exec_walk.specs.declared.request.Request.{Request}
use Rattle.stateful_exec_walk.specs.declared.request.Request.TheVariants as request
use Rattle.stateful_exec_tables.specs.declared.state.Tables.{Tables}
use Rattle.stateful_exec_tables.specs.declared.tables.Requested.{Requested}
use Rattle.stateful_exec_laws.specs.Setting.{setting}
use Rattle.stateful_exec_laws.specs.Building.{IsElsewhere}
use Rattle.stateful_exec_laws.specs.Requesting.{IsRequestOf, IsStanding}
use Rattle.stateful_exec_laws.specs.Standing.{TablesStand, IsInHand}
use Rattle.stateful_exec_laws.proofs.runs.Removing.{All-at}

came_below : (t u bound : ℕ) (ticket x : Ticket) (o : Option Ticket) → (o ≡ Some x → t < bound) → (if t == u then Some ticket else o) ≡ Some x → t < max (u + 1) bound
came_below t u bound ticket x o before is = go (t == u) refl
  where
    go : (b : Bool) → (t == u) ≡ b → t < max (u + 1) bound
    go true same = let e = eqb-true t u same in omega (arith, e)
    go false other = let l = before (rw other at is) in omega (arith, l)

gone_below : (t u bound : ℕ) (x : Ticket) (o : Option Ticket) → (o ≡ Some x → t < bound) → (if t == u then None else o) ≡ Some x → t < bound
gone_below t u bound x o before is = go (t == u) refl
  where
    go : (b : Bool) → (t == u) ≡ b → t < bound
    go true same = let none : None ≡ Some x = rw same at is in absurd (cc)
    go false other = before (rw other at is)

module _ {B C I : Type 0} where
  -- a live ticket is an earlier one
  pub live_below : (t : ℕ) (p : Past B C I) (x : Ticket) → live_ticket t p ≡ Some x → t < bound_of p
  live_below t [] x is = let no : None ≡ Some x = is in absurd (cc)
  live_below t (Came (Verify u ancestry) ∷ p) x is = came_below t u (bound_of p) _ x (live_ticket t p) (live_below t p x) is
  live_below t (Came (Prepare u context ancestry input) ∷ p) x is = came_below t u (bound_of p) _ x (live_ticket t p) (live_below t p x) is
  live_below t (Came (Propose u context ancestry input) ∷ p) x is = came_below t u (bound_of p) _ x (live_ticket t p) (live_below t p x) is
  live_below t (Came (Subscribe u) ∷ p) x is = came_below t u (bound_of p) _ x (live_ticket t p) (live_below t p x) is
  live_below t (Came (Finalized u b) ∷ p) x is = came_below t u (bound_of p) _ x (live_ticket t p) (live_below t p x) is
  live_below t (Came (Cancel u) ∷ p) x is = gone_below t u (bound_of p) x (live_ticket t p) (live_below t p x) is
  live_below t (Made (Verdict u answer) ∷ p) x is = gone_below t u (bound_of p) x (live_ticket t p) (live_below t p x) is
  live_below t (Made (Answered u decision b) ∷ p) x is = gone_below t u (bound_of p) x (live_ticket t p) (live_below t p x) is
  live_below t (Made (Declined u) ∷ p) x is = gone_below t u (bound_of p) x (live_ticket t p) (live_below t p x) is
  live_below t (Made (Databases u) ∷ p) x is = gone_below t u (bound_of p) x (live_ticket t p) (live_below t p x) is
  live_below t (Made (Acknowledged u height) ∷ p) x is = gone_below t u (bound_of p) x (live_ticket t p) (live_below t p x) is
  live_below t (Made (Dropped u) ∷ p) x is = gone_below t u (bound_of p) x (live_ticket t p) (live_below t p x) is
  live_below t (item ∷ p) x is = live_below t p x is

module _ {B C I P R D H G U : Type 0} (w : Workings B C I P R D H G U) (stored : ℕ → Option (Named B)) (p : Past B C I) where
  module _ (points : Digest → Point w) (point : Point w) (next : w.Ids) (v : Tables B C I R U) (s : TablesStand w stored p points point next v) (t : ℕ) where
    -- a new ticket is in no table
    pub new_elsewhere : is_new t p ≡ true → IsElsewhere v t
    new_elsewhere fresh = record { absent = requested (at v.requests t) refl; not_queued = queued (at v.queued t) refl }
      where
        above : bound_of p ≤ t
        above = grind (arith, nat_tests, fresh)

        asked_live : (q : Request B C I) → IsRequestOf w stored p t q → ⊥
        asked_live (request.Verify u ancestry) a = let l = live_below t p _ a.live in omega (arith, l, above)
        asked_live (request.Recover u context ancestry input kind) a = let l = live_below t p _ a.live in omega (arith, l, above)

        requested : (o : Option (Requested B C I)) → at v.requests t ≡ o → o ≡ None
        requested None is = refl
        requested (Some r) is = let st = All-at (λ (e : ℕ × Requested B C I). IsStanding w stored p v.runs e.0 e.1) v.requests t r is s.requests.each in absurd (asked_live r.request st.asked)

        queued : (o : Option (Proposal B C I)) → at v.queued t ≡ o → o ≡ None
        queued None is = refl
        queued (Some q) is =
            let live = All-at (λ (e : ℕ × Proposal B C I). IsLiveProposal e.0 p (record { kind = e.1.kind; context = e.1.context; parent = e.1.ancestry.first; input = e.1.input })) v.queued t q is s.queue.each in
            let l = live_below t p _ live.live in let no : ⊥ = omega (arith, l, above) in absurd no

  -- a request that comes is in hand
  module _ (v : Tables B C I R U) (t : ℕ) (out : IsElsewhere v t) (ancestry : Ancestry B) where
    came_with : (x : Item B C I) → ((b : Named B) → (b ≡ ancestry.first) ⊎ Contains ancestry.rest b → Brings x b) → All (Met (setting w stored) (x ∷ p)) (ancestry.first ∷ ancestry.rest)
    came_with x brings = All-cons (Met (setting w stored) (x ∷ p)) ancestry.first ancestry.rest (inl (brings ancestry.first (inl refl)))
        (All-weaker (λ b. Contains ancestry.rest b) (Met (setting w stored) (x ∷ p)) (λ b c. inl (brings b (inr c))) ancestry.rest (All-contains_itself ancestry.rest))

    pub verify-IsInHand : IsInHand w stored (Came (Verify t ancestry) ∷ p) t (request.Verify t ancestry) v
    verify-IsInHand = record {
      absent = out.absent;
      not_queued = out.not_queued;
      own = refl;
      asked = record { live = rw (eq-eqb t t refl) refl; verifies = rw (eq-eqb t t refl) refl };
      brought = came_with (Came (Verify t ancestry)) (λ b is. is);
    }

    pub prepare-IsInHand : (context : C) (input : I) → IsInHand w stored (Came (Prepare t context ancestry input) ∷ p) t (request.Recover t context ancestry input kinds.Prepare) v
    prepare-IsInHand context input = record {
      absent = out.absent;
      not_queued = out.not_queued;
      own = refl;
      asked = record { live = rw (eq-eqb t t refl) refl; proposes = rw (eq-eqb t t refl) refl };
      brought = came_with (Came (Prepare t context ancestry input)) (λ b is. is);
    }

    pub propose-IsInHand : (context : C) (input : I) → IsInHand w stored (Came (Propose t context ancestry input) ∷ p) t (request.Recover t context ancestry input kinds.Propose) v
    propose-IsInHand context input = record {
      absent = out.absent;
      not_queued = out.not_queued;
      own = refl;
      asked = record { live = rw (eq-eqb t t refl) refl; proposes = rw (eq-eqb t t refl) refl };
      brought = came_with (Came (Propose t context ancestry input)) (λ b is. is);
    }
