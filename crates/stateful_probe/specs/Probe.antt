-- What a probe does: it discovers a floor, and then serves the node's latest finalization.
use Rattle.std.specs.Prelude.{◌≡◌, ◌≢◌, ◌⊎◌, ℕ, ◌+◌, ◌-◌, ◌^◌, ◌==◌, nat_le, Bool, true, false, not}
use Rattle.std.specs.Prelude.{◌&&◌, Option, Some, None, List, [], ◌∷◌, ◌++◌, map, filter, length}
use Rattle.std.specs.List.{list_any}
use Rattle.stateful_base.specs.Format.{Format}
use Rattle.stateful_base.specs.declared.number.Epoch.{Epoch}
use Rattle.stateful_base.specs.declared.finalization.Finalization.{Finalization}
use Rattle.stateful_probe.specs.Wire.{message_format}
use Rattle.stateful_probe_sample.specs.Sample.{still_counts, with_reply, with_floor, cleared, Selects}
use Rattle.stateful_probe.specs.Setup.{Setup, committee, is_judgeable}
use Rattle.stateful_probe.specs.Reply.{IsRequest, IsTagged, IsGood, IsAtFault, IsIgnored}
use Rattle.stateful_probe.specs.declared.probe.Config.{Config}
use Rattle.stateful_probe.specs.declared.state.State.{State}
use Rattle.stateful_probe.specs.declared.event.Event.{Event}
use Rattle.stateful_probe.specs.declared.event.Event.TheVariants.{Subscribe, Cancel, Attach}
use Rattle.stateful_probe.specs.declared.event.Event.TheVariants.{Received, Retry, Stop}
use Rattle.stateful_probe.specs.declared.event.Out.{Out}
use Rattle.stateful_probe.specs.declared.event.Out.TheVariants.{Floor, Closed, Request, Response}
use Rattle.stateful_probe.specs.declared.event.Out.TheVariants.{Block}
use Rattle.stateful_probe.specs.declared.wire.Message.TheVariants as messages

abbrev pub is_empty : {A : Type 0} → List A → Bool
is_empty [] = true
is_empty (x ∷ xs) = false

-- who still waits, where a floor was selected and where none was
abbrev pub left_waiting : {C : Type 0} → List ℕ → Option (Finalization C) → List ℕ
left_waiting waiting None = waiting
left_waiting waiting (Some f) = []

-- a subscription under the last number that there is
abbrev pub IsExhausting : {K : Type 0} → Event K → Type 0
IsExhausting (Subscribe t) = t ≡ 2 ^ 64 - 1
IsExhausting event = ⊥

-- a probe: what it was set up with, what it keeps, and whether it has failed
pub record Probed (S K C : Type 0) : Type 0 where
  pub config : Config S
  pub state : State K C
  pub failed : Bool

module _ {K C : Type 0} where
  -- the probe serves: it is attached, and nobody waits for a floor
  abbrev pub is_serving : State K C → Bool
  is_serving s = s.attached && is_empty s.subscribers

  -- someone waits under this ticket
  abbrev pub is_waiting : State K C → ℕ → Bool
  is_waiting s t = list_any (λ u. u == t) s.subscribers

  -- An event may come until the probe is stopped, where the ticket of a subscription is above every
  -- earlier one, and a cancel names one that waits.
  abbrev pub names_live : State K C → Event K → Bool
  names_live s (Subscribe t) = nat_le s.next_ticket t
  names_live s (Cancel t) = is_waiting s t
  names_live s event = true

  abbrev pub may_come : State K C → Event K → Bool
  may_come s event = not s.stopped && names_live s event

  -- what a new probe keeps
  pub record IsNew (minimum : Epoch) (s : State K C) : Type 0 where
    pub minimum_is : s.sample.minimum_epoch ≡ minimum
    pub no_replies : s.sample.replies ≡ []
    pub no_floor : s.sample.floor ≡ None
    pub nobody : s.subscribers ≡ []
    pub alone : s.attached ≡ false
    pub first : s.next_ticket ≡ 0
    pub goes_on : s.stopped ≡ false

  -- the ticket was given out
  abbrev pub numbered : State K C → ℕ → State K C
  numbered s t = record s { next_ticket = t + 1 }

  -- the round is begun anew
  abbrev pub restarted : State K C → State K C
  restarted s = record s { sample = cleared s.sample }

  -- a floor is handed to all who wait
  abbrev pub handed_out : List ℕ → Option (Finalization C) → List (Out K C)
  handed_out waiting None = []
  handed_out waiting (Some f) = map (λ t. Floor t f) waiting

  -- the participants are asked for their latest finalizations, where they are known
  abbrev pub asked : Option (List K) → List (Out K C)
  asked None = []
  asked (Some keys) = Request keys ∷ []

-- the latest finalization is sent to a peer, where there is one
abbrev pub Sends : {K C : Type 0} → Format C → Option (Finalization C) → K → List (Out K C) → Type 0
Sends certificates None peer outs = outs ≡ []
Sends certificates (Some f) peer outs = (message_format certificates).fits (messages.Response f)
    × (outs ≡ Response peer ((message_format certificates).spelling (messages.Response f)) ∷ [])

module _ {S K C : Type 0} (u : Setup S K C) (latest : Option (Finalization C)) where
  -- one event, with what is put out and the state behind it
  pub data Steps (s : State K C) : Event K → List (Out K C) → State K C → Type 0 where
    -- a subscription is answered with the floor; without one it is closed while the probe serves,
    -- and else it waits, and the first that waits begins a round
    answered : {t : ℕ} {f : Finalization C}
        → s.sample.floor ≡ Some f
        → Steps s (Subscribe t) (Floor t f ∷ []) (numbered s t)
    closed : {t : ℕ}
        → s.sample.floor ≡ None
        → is_serving s ≡ true
        → Steps s (Subscribe t) (Closed t ∷ []) (numbered s t)
    begins_round : {t : ℕ}
        → s.sample.floor ≡ None
        → is_serving s ≡ false
        → s.subscribers ≡ []
        → Steps s (Subscribe t) (asked (committee u))
        (record (restarted (numbered s t)) { subscribers = t ∷ [] })
    waits : {t : ℕ}
        → s.sample.floor ≡ None
        → s.subscribers ≢ []
        → Steps s (Subscribe t) [] (record (numbered s t) { subscribers = s.subscribers ++ t ∷ [] })
    -- a ticket is taken back
    leaves : {t : ℕ}
        → Steps s (Cancel t) []
        (record s { subscribers = filter (λ w. not (w == t)) s.subscribers })
    -- the node's own finalizations can be served
    attaches : Steps s Attach [] (record s { attached = true })
    -- the round is begun again where someone waits for a floor
    asks_again : s.sample.floor ≡ None
        → s.subscribers ≢ []
        → Steps s Retry (asked (committee u)) (restarted s)
    rests : (s.sample.floor ≢ None) ⊎ (s.subscribers ≡ []) → Steps s Retry [] s
    -- a message while the probe discovers
    unawaited : {peer : K} {bytes : List ℕ}
        → is_serving s ≡ false
        → still_counts u.cmp s.sample peer ≡ false
        → Steps s (Received peer bytes) [] s
    ignored : {peer : K} {bytes : List ℕ}
        → is_serving s ≡ false
        → still_counts u.cmp s.sample peer ≡ true
        → IsIgnored u bytes
        → Steps s (Received peer bytes) [] s
    blocked : {peer : K} {bytes : List ℕ}
        → is_serving s ≡ false
        → still_counts u.cmp s.sample peer ≡ true
        → IsAtFault u peer bytes
        → Steps s (Received peer bytes) (Block peer ∷ []) s
    not_needed : {peer : K} {bytes : List ℕ} {f : Finalization C}
        → is_serving s ≡ false
        → still_counts u.cmp s.sample peer ≡ true
        → IsGood u peer bytes f
        → s.subscribers ≡ []
        → Steps s (Received peer bytes) [] (restarted s)
    recorded : {peer : K} {bytes : List ℕ} {f : Finalization C} {keys : List K}
        {chosen : Option (Finalization C)}
        → is_serving s ≡ false
        → still_counts u.cmp s.sample peer ≡ true
        → IsGood u peer bytes f
        → s.subscribers ≢ []
        → committee u ≡ Some keys
        → Selects (length keys) (is_judgeable u) (with_reply u.cmp s.sample peer f) chosen
        → Steps s (Received peer bytes) (handed_out s.subscribers chosen)
        (record s {
          sample = with_floor (with_reply u.cmp s.sample peer f) chosen;
          subscribers = left_waiting s.subscribers chosen;
        })
    -- a message while it serves
    served : {peer : K} {bytes : List ℕ} {outs : List (Out K C)}
        → is_serving s ≡ true
        → IsRequest bytes
        → Sends u.certificates latest peer outs
        → Steps s (Received peer bytes) outs s
    passed_over : {peer : K} {bytes : List ℕ}
        → is_serving s ≡ true
        → IsTagged bytes
        → Steps s (Received peer bytes) [] s
    untagged : {peer : K} {bytes : List ℕ}
        → is_serving s ≡ true
        → (IsRequest bytes → ⊥)
        → (IsTagged bytes → ⊥)
        → Steps s (Received peer bytes) (Block peer ∷ []) s
    -- all that wait are closed
    stops : Steps s Stop
        (map (λ t. Closed t) s.subscribers)
        (record s { subscribers = []; stopped = true })
