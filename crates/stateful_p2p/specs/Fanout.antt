-- Who takes a delivery, and what is put out for it.
use Rattle.std.specs.Prelude.{◌≢◌, ℕ, ◌+◌, false, List, [], ◌∷◌, map}
use Rattle.stateful_base.specs.Format.{Format}
use Rattle.stateful_types.specs.declared.request.Request.{Request}
use Rattle.stateful_types.specs.declared.response.Response.{Response}
use Rattle.stateful_p2p_codec.specs.Reading.{IsResponse}
use Rattle.stateful_p2p_tables.specs.Subscribing.{AreSubscribers}
use Rattle.stateful_p2p_tables.specs.Deliveries.{Takes, awaiting}
use Rattle.stateful_p2p_tables.specs.declared.state.State.{State}
use Rattle.stateful_p2p_tables.specs.declared.out.ActorOut.{ActorOut}
use Rattle.stateful_p2p_tables.specs.declared.out.ActorOut.TheVariants.{Candidate, Feedback}
use Rattle.stateful_p2p_tables.specs.declared.out.ActorOut.TheVariants.{Unjudged}
use Rattle.stateful_p2p.specs.Inbox.{Inbox, offered_each}

module _ {D : Type 0} where
  -- a delivery of this number came
  abbrev pub delivered : State D → ℕ → State D
  delivered s d = record s { next_delivery = d + 1 }

  -- A delivery. Without a subscriber it stays unjudged whatever its bytes are. It is bad where they
  -- aren't a response to its key. Else each subscriber without a candidate to judge takes this one,
  -- and where none takes it, it stays unjudged.
  pub data Delivers {Op : Type 0} (operations : Format Op) (s : State D) (m : Inbox D Op) (d : ℕ)
      (key : Request) (bytes : List ℕ) : List ActorOut
      → State D
      → Inbox D Op
      → Type 0 where
    unheard : AreSubscribers s.subscriptions key []
        → Delivers operations s m d key bytes (Unjudged d ∷ []) (delivered s d) m
    malformed : {takers : List ℕ}
        → Takes s key takers
        → ((response : Response Op) → IsResponse operations key bytes response → ⊥)
        → Delivers operations s m d key bytes (Feedback d false ∷ []) (delivered s d) m
    untaken : {response : Response Op}
        → Takes s key []
        → IsResponse operations key bytes response
        → Delivers operations s m d key bytes (Unjudged d ∷ []) (delivered s d) m
    taken : {takers : List ℕ} {response : Response Op}
        → Takes s key takers
        → takers ≢ []
        → IsResponse operations key bytes response
        → Delivers operations s m d key bytes (map (λ t. Candidate t) takers)
        (awaiting (delivered s d) d takers) (offered_each m takers response)
