-- That a peer is blocked for nothing but a bad message, and a subscription closed by nothing but a stop or in service.
use Rattle.std.proofs.Common.{◌≡◌, ℕ, true, false, Option, Some, None, List, ◌∷◌, All, Contains, refl, sym, ap, subst, ◌∙◌}
use Rattle.std.proofs.lemmas.List.Elements.{All-nil, All-map, All-contains}
use Rattle.stateful_base.specs.declared.round.Round.{Round}
use Rattle.stateful_base.specs.declared.finalization.Finalization.{Finalization}
use Rattle.stateful_probe.specs.Setup.{Setup, committee, is_one_of, scheme_at, Counts}
use Rattle.stateful_probe.specs.Reply.{IsRequest, IsTagged, IsHeader, HasHeader, IsForeign, IsCounted, IsMalformed, IsGood, IsAtFault, malformed, outsider, uncertified, IsIgnored}
use Rattle.stateful_probe.specs.Reply as replies
use Rattle.stateful_probe.specs.Probe.{Steps, asked, answered, closed, begins_round, asks_again, blocked, recorded, served, untagged, stops}
use Rattle.stateful_probe.specs.Laws.{Turn, Runs, IsToBlame, while_discovering, without_tag, IsClosing, by_stop, while_serving}
use Rattle.stateful_probe.specs.declared.state.State.{State}
use Rattle.stateful_probe.specs.declared.event.Event.{Event}
use Rattle.stateful_probe.specs.declared.event.Out.{Out}
use Rattle.stateful_probe.specs.declared.event.Out.TheVariants.{Floor, Closed, Request, Response, Block}
use Rattle.stateful_probe.proofs.Known.{one_value}
use Rattle.stateful_probe.proofs.Outs.{one_out, handed_all, sent_all}
use Rattle.stateful_probe.proofs.Reading.{whole_header, one_header}
use Rattle.stateful_probe.proofs.Runs.{each}

-- a request is no response
untagged_request : (bytes rest : List ℕ) → bytes ≡ 1 ∷ rest → IsRequest bytes → ⊥
untagged_request bytes rest e request = zero_one request.0 rest (sym request.1 ∙ e)
  where
    zero_one : (xs ys : List ℕ) → ◌≡◌ {A = List ℕ} (0 ∷ xs) (1 ∷ ys) → ⊥
    zero_one xs ys e = cc

-- bytes begin as a response of one round at most
pub same_header : (bytes : List ℕ) (a b : Round) → HasHeader bytes a → HasHeader bytes b → a ≡ b
same_header bytes a b one other =
    let i : IsHeader a one.parent one.payload one.behind one.rest = one.header in
    (one_header one.behind one.rest a one.parent one.payload i b (subst (λ w. HasHeader w b) one.tagged other)).0

module _ {S K C : Type 0} (u : Setup S K C) where
  foreign_tagged : (bytes : List ℕ) → IsForeign u bytes → IsTagged bytes
  foreign_tagged bytes foreign = (_, foreign.header.tagged)

  -- a response of an epoch that counts is not foreign
  not_foreign : (bytes : List ℕ) (scheme : S) → IsCounted u bytes scheme → IsForeign u bytes → ⊥
  not_foreign bytes scheme counted foreign =
      foreign.foreign scheme (subst (λ (r : Round). Counts u r.epoch scheme) (same_header bytes counted.round foreign.round counted.header foreign.header) counted.counts)

  -- nor is it ignored where it is known who takes part
  not_ignored : (bytes : List ℕ) (scheme : S) (keys : List K) → IsCounted u bytes scheme → committee u ≡ Some keys → IsIgnored u bytes → ⊥
  not_ignored bytes scheme keys counted known (replies.IsIgnored.request r) = untagged_request bytes _ counted.header.tagged r
  not_ignored bytes scheme keys counted known (replies.IsIgnored.foreign f) = not_foreign bytes scheme counted f
  not_ignored bytes scheme keys counted known (replies.IsIgnored.unjudged f whole none) = cc

  -- what is at fault is neither ignored nor good
  malformed_not_ignored : (bytes : List ℕ) → IsMalformed u bytes → IsIgnored u bytes → ⊥
  malformed_not_ignored bytes bad (replies.IsIgnored.request r) = bad.no_request r
  malformed_not_ignored bytes bad (replies.IsIgnored.foreign f) = bad.no_foreign f
  malformed_not_ignored bytes bad (replies.IsIgnored.unjudged f whole none) = bad.no_whole f whole

  pub fault_not_ignored : (peer : K) (bytes : List ℕ) → IsAtFault u peer bytes → IsIgnored u bytes → ⊥
  fault_not_ignored peer bytes (malformed bad) = malformed_not_ignored bytes bad
  fault_not_ignored peer bytes (outsider scheme keys counted known none) = not_ignored bytes scheme keys counted known
  fault_not_ignored peer bytes (uncertified scheme keys counted known none) = not_ignored bytes scheme keys counted known

  outsider_not_good : (peer : K) (bytes : List ℕ) (keys : List K) → committee u ≡ Some keys → is_one_of u.eq keys peer ≡ false → (g : Finalization C) → IsGood u peer bytes g → ⊥
  outsider_not_good peer bytes keys known none g good =
      let same : good.keys ≡ keys = one_value (committee u) good.keys keys good.takes_part.committee_is known in
      let member = good.takes_part.member in
      let e : is_one_of u.eq keys peer ≡ true = ap (λ (ks : List K). is_one_of u.eq ks peer) (sym same) ∙ member in
      cc

  -- the scheme of a good reply is that of its epoch
  good_scheme : (peer : K) (bytes : List ℕ) (scheme : S) → IsCounted u bytes scheme → (g : Finalization C) → (good : IsGood u peer bytes g) → good.scheme ≡ scheme
  good_scheme peer bytes scheme counted g good =
      let same : counted.round ≡ g.round = same_header bytes counted.round g.round counted.header (whole_header u bytes g good.whole) in
      let there : Counts u g.round.epoch scheme = subst (λ (r : Round). Counts u r.epoch scheme) same counted.counts in
      one_value (scheme_at u g.round.epoch) good.scheme scheme good.counts.known there.known

  pub fault_not_good : (peer : K) (bytes : List ℕ) → IsAtFault u peer bytes → (g : Finalization C) → IsGood u peer bytes g → ⊥
  fault_not_good peer bytes (malformed bad) g good = bad.no_whole g good.whole
  fault_not_good peer bytes (outsider scheme keys counted known none) g good = outsider_not_good peer bytes keys known none g good
  fault_not_good peer bytes (uncertified scheme keys counted known none) g good =
      none g good.whole (subst (λ (s : S). u.certifies s g) (good_scheme peer bytes scheme counted g good) good.certified)

  -- nor is a good reply ignored
  pub good_not_ignored : (peer : K) (bytes : List ℕ) (g : Finalization C) → IsGood u peer bytes g → IsIgnored u bytes → ⊥
  good_not_ignored peer bytes g good =
      not_ignored bytes good.scheme good.keys
      (record { round = g.round; header = whole_header u bytes g good.whole; counts = good.counts }) good.takes_part.committee_is

  -- ---- one event

  -- a peer that is blocked sent something bad, and a subscription that is closed has its reason
  abbrev pub IsDue : State K C → Event K → Out K C → Type 0
  IsDue s e (Floor t f) = Unit {0}
  IsDue s e (Closed t) = IsClosing s e t
  IsDue s e (Request peers) = committee u ≡ Some peers
  IsDue s e (Response peer bytes) = Unit {0}
  IsDue s e (Block peer) = IsToBlame u s e peer

  asked_due : (s : State K C) (e : Event K) (known : Option (List K)) → committee u ≡ known → All (IsDue s e) (asked known)
  asked_due s e None is = All-nil (IsDue s e)
  asked_due s e (Some keys) is = one_out (IsDue s e) (Request keys) is

  step_due : (latest : Option (Finalization C)) (s : State K C) (e : Event K) (outs : List (Out K C)) (next : State K C) → Steps u latest s e outs next → All (IsDue s e) outs
  step_due latest s e outs next (answered is) = one_out (IsDue s e) _ tt
  step_due latest s e outs next (closed {t = t} unset serves) = one_out (IsDue s e) (Closed t) (while_serving refl serves unset)
  step_due latest s e outs next (begins_round unset idle nobody) = asked_due s e (committee u) refl
  step_due latest s e outs next (asks_again unset others) = asked_due s e (committee u) refl
  step_due latest s e outs next (blocked {peer = peer} {bytes = bytes} idle waited fault) =
      one_out (IsDue s e) (Block peer) (while_discovering bytes refl idle waited (fault_not_ignored peer bytes fault) (fault_not_good peer bytes fault))
  step_due latest s e outs next (recorded {chosen = chosen} idle waited good others known selects) = handed_all (IsDue s e) chosen s.subscribers (λ t f is. tt)
  step_due latest s e outs next (served {peer = peer} serves request sends) = sent_all (IsDue s e) u (λ peer bytes. tt) latest peer outs sends
  step_due latest s e outs next (untagged {peer = peer} {bytes = bytes} serves request tagged) = one_out (IsDue s e) (Block peer) (without_tag bytes refl serves request tagged)
  step_due latest s e outs next stops = All-map (IsDue s e) (λ t. Closed t) s.subscribers (λ k d lt. by_stop refl)
  step_due latest s e outs next _ = All-nil (IsDue s e)

  -- ---- many events

  module _ (turns : List (Turn K C)) (s last : State K C) (runs : Runs u s turns last) where
    -- no peer was blocked but for what it had just sent
    pub blocked_bad : All (λ turn. (peer : K) → Contains turn.outs (Block peer) → IsToBlame u turn.before turn.event peer) turns
    blocked_bad = each u (λ turn. (peer : K) → Contains turn.outs (Block peer) → IsToBlame u turn.before turn.event peer)
        (λ turn next step peer at. All-contains (IsDue turn.before turn.event) turn.outs (Block peer) (step_due turn.latest turn.before turn.event turn.outs next step) at) turns s last runs

    -- no subscription was closed but by a stop or in service
    pub closed_due : All (λ turn. (t : ℕ) → Contains turn.outs (Closed t) → IsClosing turn.before turn.event t) turns
    closed_due = each u (λ turn. (t : ℕ) → Contains turn.outs (Closed t) → IsClosing turn.before turn.event t)
        (λ turn next step t at. All-contains (IsDue turn.before turn.event) turn.outs (Closed t) (step_due turn.latest turn.before turn.event turn.outs next step) at) turns s last runs

    -- nobody was asked but the participants
    pub asked_due_all : All (λ turn. (peers : List K) → Contains turn.outs (Request peers) → committee u ≡ Some peers) turns
    asked_due_all = each u (λ turn. (peers : List K) → Contains turn.outs (Request peers) → committee u ≡ Some peers)
        (λ turn next step peers at. All-contains (IsDue turn.before turn.event) turn.outs (Request peers) (step_due turn.latest turn.before turn.event turn.outs next step) at) turns s last runs
