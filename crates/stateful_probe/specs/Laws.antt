-- What holds of a probe whatever events come, and whatever peers send.
use Rattle.std.specs.Prelude.{◌≡◌, ◌≢◌, ℕ, ◌+◌, ◌≤◌, ◌==◌, true, false, if◌then◌else◌, Option, Some}
use Rattle.std.specs.Prelude.{None, List, [], ◌∷◌, ◌++◌, All, Any, Contains, count_by, sum_by}
use Rattle.std.specs.Prelude.{length}
use Rattle.std.specs.Map.{values_of}
use Rattle.stateful_base.specs.Round.{IsLater}
use Rattle.stateful_base.specs.Scheme.{max_faults}
use Rattle.stateful_base.specs.declared.finalization.Finalization.{Finalization}
use Rattle.stateful_probe.specs.Setup.{Setup, committee, tolerated, is_one_of, Counts}
use Rattle.stateful_probe_sample.specs.Sample.{has_replied, still_counts}
use Rattle.stateful_probe.specs.Reply.{IsRequest, IsTagged, IsGood, IsIgnored}
use Rattle.stateful_probe.specs.Probe.{Steps, is_serving, may_come}
use Rattle.stateful_probe.specs.declared.state.State.{State}
use Rattle.stateful_probe.specs.declared.event.Event.{Event}
use Rattle.stateful_probe.specs.declared.event.Event.TheVariants.{Subscribe, Cancel, Received, Stop}
use Rattle.stateful_probe.specs.declared.event.Out.{Out}
use Rattle.stateful_probe.specs.declared.event.Out.TheVariants.{Floor, Closed, Request, Block}

-- one event that was taken in, with what the probe kept and the node's latest finalization before
-- it, and what was put out
pub record Turn (K C : Type 0) : Type 0 where
  pub before : State K C
  pub event : Event K
  pub latest : Option (Finalization C)
  pub outs : List (Out K C)

-- whether the event asks for a floor under this ticket
abbrev pub asks : {K : Type 0} → ℕ → Event K → ℕ
asks t (Subscribe u) = if u == t then 1 else 0
asks t event = 0

-- whether the event takes this ticket back
abbrev pub takes_back : {K : Type 0} → ℕ → Event K → ℕ
takes_back t (Cancel u) = if u == t then 1 else 0
takes_back t event = 0

-- whether this ends the ticket: with a floor, or without one
abbrev pub ends : {K C : Type 0} → ℕ → Out K C → ℕ
ends t (Floor u f) = if u == t then 1 else 0
ends t (Closed u) = if u == t then 1 else 0
ends t out = 0

-- how often a ticket is asked under, taken back and answered in these turns
module _ {K C : Type 0} (t : ℕ) (turns : List (Turn K C)) where
  abbrev pub asked_count : ℕ
  asked_count = sum_by (λ turn. asks t turn.event) turns

  abbrev pub cancelled_count : ℕ
  cancelled_count = sum_by (λ turn. takes_back t turn.event) turns

  abbrev pub answered_count : ℕ
  answered_count = sum_by (λ turn. sum_by (ends t) turn.outs) turns

-- a request was put out in this turn
abbrev pub Requests : {K C : Type 0} → Turn K C → Type 0
Requests {K = K} turn = (peers : List K) × Contains turn.outs (Request peers)

-- where the last request was put out in these turns, and what came since
pub record LastRequest {K C : Type 0} (turns : List (Turn K C)) : Type 0 where
  pub earlier : List (Turn K C)
  pub turn : Turn K C
  pub since : List (Turn K C)
  pub place : turns ≡ earlier ++ turn ∷ since
  pub requests : Requests turn
  pub last : All (λ later. Requests later → ⊥) since

-- a subscription is closed by a stop, or where it is made while the probe serves and has no floor
pub data IsClosing {K C : Type 0} (before : State K C) (event : Event K) (t : ℕ) : Type 0 where
  by_stop : event ≡ Stop → IsClosing before event t
  while_serving : event ≡ Subscribe t
      → is_serving before ≡ true
      → before.sample.floor ≡ None
      → IsClosing before event t

module _ {S K C : Type 0} (u : Setup S K C) where
  -- events that may come, one after another, from one state to another
  abbrev pub Runs : State K C → List (Turn K C) → State K C → Type 0
  Runs s [] last = last ≡ s
  Runs s (turn ∷ turns) last = (turn.before ≡ s)
      × (may_come s turn.event ≡ true)
      × (next : State K C)
      × Steps u turn.latest s turn.event turn.outs next
      × Runs next turns last

  -- A floor that may be trusted as far as no more participants lie than may be faulty: its
  -- certificate holds under the scheme of its epoch, which counts; it is a recorded reply, and none
  -- is later; and whichever participants lie, if they are no more than may be faulty, another
  -- participant's reply is recorded.
  pub record IsTrusted (s : State K C) (f : Finalization C) : Type 0 where
    pub scheme : S
    pub counts : Counts u f.round.epoch scheme
    pub certified : u.certifies scheme f
    pub among : Contains (values_of s.sample.replies) f
    pub latest : All (λ reply. IsLater f.round reply.1.round → ⊥) s.sample.replies
    pub keys : List K
    pub committee_is : committee u ≡ Some keys
    pub honest : (liars : List K) → length liars ≤ max_faults (length keys)
        → (peer : K) × (reply : Finalization C)
        × Contains s.sample.replies (peer, reply)
        × (is_one_of u.eq keys peer ≡ true)
        × (is_one_of u.eq liars peer ≡ false)

  -- A peer is blocked for bytes that it has just sent. While the probe discovers: its reply still
  -- counted, and the bytes are nothing to be ignored and no good reply. While it serves: they have
  -- no tag.
  pub data IsToBlame (before : State K C) (event : Event K) (peer : K) : Type 0 where
    while_discovering : (bytes : List ℕ)
        → event ≡ Received peer bytes
        → is_serving before ≡ false
        → still_counts u.cmp before.sample peer ≡ true
        → (IsIgnored u bytes → ⊥)
        → ((f : Finalization C) → IsGood u peer bytes f → ⊥)
        → IsToBlame before event peer
    without_tag : (bytes : List ℕ)
        → event ≡ Received peer bytes
        → is_serving before ≡ true
        → (IsRequest bytes → ⊥)
        → (IsTagged bytes → ⊥)
        → IsToBlame before event peer

  -- this event brought that reply, a good one, from its peer
  abbrev pub Brought : K × Finalization C → Turn K C → Type 0
  Brought reply turn = (bytes : List ℕ)
      × (turn.event ≡ Received reply.0 bytes)
      × IsGood u reply.0 bytes reply.1

  -- Whatever events came since the probe was made:
  pub record Lawful (turns : List (Turn K C)) (last : State K C) : Type 0 where
    -- each floor that was handed out is the one that the probe has, which may be trusted
    pub handed : All (λ turn. (t : ℕ) (f : Finalization C)
        → Contains turn.outs (Floor t f)
        → last.sample.floor ≡ Some f) turns
    pub trusted : (f : Finalization C) → last.sample.floor ≡ Some f → IsTrusted last f
    -- each recorded reply is one that its peer sent since the last request
    pub sent : All (λ reply. (request : LastRequest turns) × Any (Brought reply) request.since)
        last.sample.replies
    -- without a floor no more replies are recorded than participants may be faulty
    pub few : last.sample.floor ≡ None → length last.sample.replies ≤ tolerated u
    -- as long as someone waits, whoever has sent a good reply since the last request has one
    -- recorded
    pub heard : (request : LastRequest turns)
        → last.subscribers ≢ []
        → All (λ turn. (peer : K) (f : Finalization C)
        → Brought (peer, f) turn
        → has_replied u.cmp last.sample.replies peer ≡ true) request.since
    -- nobody was asked but the participants of the lowest epoch
    pub asked : All (λ turn. (peers : List K)
        → Contains turn.outs (Request peers)
        → committee u ≡ Some peers) turns
    -- no peer was blocked but for what it had just sent
    pub blocked : All (λ turn. (peer : K)
        → Contains turn.outs (Block peer)
        → IsToBlame turn.before turn.event peer) turns
    -- a ticket was given once at most, and was answered, was taken back, or waits
    pub once : (t : ℕ) → asked_count t turns ≤ 1
    pub none_forgotten : (t : ℕ)
        → answered_count t turns + cancelled_count t turns + count_by (λ w. w == t) last.subscribers
        ≡ asked_count t turns
    -- none was closed but by a stop, or while the probe served without a floor
    pub closed : All (λ turn. (t : ℕ)
        → Contains turn.outs (Closed t)
        → IsClosing turn.before turn.event t) turns
    -- where there is a floor nobody waits
    pub idle : (f : Finalization C) → last.sample.floor ≡ Some f → last.subscribers ≡ []
    -- after a stop nobody waits, and no event may come
    pub stopped : Any (λ turn. turn.event ≡ Stop) turns
        → (last.subscribers ≡ []) × ((event : Event K) → may_come last event ≡ false)

  abbrev pub KeepsLaws : State K C → Type 0
  KeepsLaws first = (turns : List (Turn K C)) (last : State K C)
      → Runs first turns last
      → Lawful turns last
