-- What a resolver keeps of deliveries: who judges one, and what becomes of it.
use Rattle.std.specs.Prelude.{◌≡◌, ◌≢◌, ℕ, ◌-◌, ◌≤◌, ◌==◌, Bool, not, if◌then◌else◌, Option, Some}
use Rattle.std.specs.Prelude.{None, is_some, List, [], ◌∷◌, ◌++◌, filter, length, option_to_list}
use Rattle.stateful_types.specs.declared.request.Request.{Request}
use Rattle.stateful_table.specs.Table.{at, put, without, put_each, total}
use Rattle.stateful_p2p_tables.specs.Subscribing.{AreSubscribers}
use Rattle.stateful_p2p_tables.specs.declared.state.State.{State}
use Rattle.stateful_p2p_tables.specs.declared.state.Verdicts.{Verdicts}
use Rattle.stateful_p2p_tables.specs.declared.out.ActorOut.{ActorOut}
use Rattle.stateful_p2p_tables.specs.declared.out.ActorOut.TheVariants.{Forget, Feedback, Unjudged}

-- ---- verdicts

-- the verdicts once a ticket gave its own, or left without one
abbrev pub heard : Verdicts → ℕ → Option Bool → Verdicts
heard v t None = record v { awaited = v.awaited - 1 }
heard v t (Some valid) = record { awaited = v.awaited - 1; given = put v.given t valid }

-- what becomes of a delivery with these verdicts, by ascending tickets: the first is the delivery's
abbrev pub outcome : ℕ → List (ℕ × Bool) → ActorOut
outcome d [] = Unjudged d
outcome d (first ∷ given) = Feedback d first.1

-- that becomes of it once no verdict is awaited
abbrev pub settled_by : ℕ → Verdicts → Option ActorOut
settled_by d v = if v.awaited == 0 then Some (outcome d v.given) else None

-- the other deliveries, and this one while a verdict is awaited
abbrev pub kept : ℕ → Verdicts → List (ℕ × Verdicts) → List (ℕ × Verdicts)
kept d v others = if v.awaited == 0 then others else put others d v

-- so many tickets haven't judged the candidate of this delivery
abbrev pub waiting_on : ℕ → List (ℕ × ℕ) → ℕ
waiting_on d unjudged = total (λ e. if e == d then 1 else 0) unjudged

abbrev pub awaited_of : Option Verdicts → ℕ
awaited_of None = 0
awaited_of (Some v) = v.awaited

-- whether the ticket has no candidate to judge
abbrev pub is_free : List (ℕ × ℕ) → ℕ → Bool
is_free unjudged t = not (is_some (at unjudged t))

module _ {D : Type 0} where
  -- As many verdicts on each delivery are awaited as tickets have its candidate to judge, and a
  -- delivery that is yet to come has none.
  pub record IsSound (s : State D) : Type 0 where
    pub counted : (d : ℕ) → waiting_on d s.unjudged ≡ awaited_of (at s.deliveries d)
    pub fresh : (d : ℕ) → s.next_delivery ≤ d → at s.deliveries d ≡ None

  -- ---- a ticket judges, leaves, or is forgotten

  -- A ticket gives its verdict on the candidate that it hasn't judged, or none as it leaves. The
  -- delivery is settled once no further verdict is awaited.
  pub data Releases (s : State D) (t : ℕ) (verdict : Option Bool) : Option ActorOut
      → State D
      → Type 0 where
    has_none : at s.unjudged t ≡ None → Releases s t verdict None s
    releases : {d : ℕ} {v : Verdicts} → at s.unjudged t ≡ Some d → at s.deliveries d ≡ Some v
        → Releases s t verdict (settled_by d (heard v t verdict))
        (record s {
          unjudged =
              without s.unjudged t;
          deliveries =
              kept d (heard v t verdict) (without s.deliveries d);
        })

  -- nothing is fetched for a ticket any more, and it leaves the delivery that it hasn't judged
  pub data Forgets (s : State D) (t : ℕ) : Option (Option ActorOut) → State D → Type 0 where
    stranger : at s.subscriptions t ≡ None → Forgets s t None s
    forgets : {key : Request} {settled : Option ActorOut} {next : State D}
        → at s.subscriptions t ≡ Some key
        → Releases (record s { subscriptions = without s.subscriptions t }) t None settled next
        → Forgets s t (Some settled) next

  -- Tickets are forgotten, one behind the other. Beside the outputs for those that were fetched
  -- stand those of the deliveries that were settled by it.
  pub data Retires : State D → List ℕ → List ActorOut → List ActorOut → State D → Type 0 where
    nobody : {s : State D} → Retires s [] [] [] s
    unfetched : {s : State D} {t : ℕ} {ts : List ℕ} {forgotten settled : List ActorOut}
        {next last : State D}
        → Forgets s t None next
        → Retires next ts forgotten settled last → Retires s (t ∷ ts) forgotten settled last
    fetched : {s : State D} {t : ℕ} {ts : List ℕ} {one : Option ActorOut}
        {forgotten settled : List ActorOut} {next last : State D}
        → Forgets s t (Some one) next
        → Retires next ts forgotten settled last
        → Retires s (t ∷ ts) (Forget t ∷ forgotten) (option_to_list one ++ settled) last

  -- ---- a delivery

  -- the tickets that take a candidate for this key: its subscribers, of which there are some, that
  -- have none to judge
  pub record Takes (s : State D) (key : Request) (takers : List ℕ) : Type 0 where
    pub subscribers : List ℕ
    pub are : AreSubscribers s.subscriptions key subscribers
    pub some : subscribers ≢ []
    pub free : takers ≡ filter (is_free s.unjudged) subscribers

  -- the verdicts of these tickets on a delivery are awaited
  abbrev pub awaiting : State D → ℕ → List ℕ → State D
  awaiting s d takers =
      record s {
        unjudged =
            put_each s.unjudged takers d;
        deliveries =
            put s.deliveries d (record { awaited = length takers; given = [] });
      }
