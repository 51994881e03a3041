-- That the recorded replies are those that came since the last request.
use Rattle.std.proofs.Common.{◌≡◌, ◌≢◌, ℕ, Bool, true, false, not, ◌&&◌, ◌==◌, cond, is_eq, is_some, is_none, Option, Some, None, List, [], ◌∷◌, ◌++◌, filter, All, Any, Contains, ◌⊎◌, inl, inr, refl, sym, ap, subst, ◌∙◌, append_assoc, append-nil, arith}
use Rattle.std.specs.Map.{lookup}
use Rattle.std.specs.BTreeMap.{is_at, insert_entry}
use Rattle.std.proofs.lemmas.Bool.{and_parts}
use Rattle.std.proofs.lemmas.List.Elements.{All-nil, All-same, All-map, All-push, All-weaker, All-contains, All-contains_itself, Contains-append_left}
use Rattle.std.proofs.lemmas.List.Quantifiers.{Any-push}
use Rattle.stateful_base.specs.declared.finalization.Finalization.{Finalization}
use Rattle.stateful_probe_sample.specs.Sample.{Sampled, has_replied, still_counts, with_reply, with_floor}
use Rattle.stateful_probe.specs.Setup.{Setup, committee}
use Rattle.stateful_probe.specs.Reply.{IsGood}
use Rattle.stateful_probe.specs.Probe.{Steps, asked, is_serving, left_waiting, handed_out, answered, closed, begins_round, waits, leaves, attaches, asks_again, rests, unawaited, ignored, blocked, not_needed, recorded, served, passed_over, untagged, stops}
use Rattle.stateful_probe.specs.Laws.{Turn, Runs, Requests, LastRequest, Brought}
use Rattle.stateful_probe.specs.declared.state.State.{State}
use Rattle.stateful_probe.specs.declared.event.Event.{Event}
use Rattle.stateful_probe.specs.declared.event.Event.TheVariants.{Received}
use Rattle.stateful_probe.specs.declared.event.Out.{Out}
use Rattle.stateful_probe.specs.declared.event.Out.TheVariants.{Floor, Closed, Request, Response, Block}
use Rattle.stateful_probe.proofs.Known.{AreKeys}
use Rattle.stateful_probe.proofs.Outs.{one_out, handed_all, sent_all}
use Rattle.stateful_probe.proofs.Tallies.{Gains, gains_from_insert, All-gains}
use Rattle.stateful_probe.proofs.Trust.{with_reply_is, counting_parts}
use Rattle.stateful_probe.proofs.Blame.{fault_not_good, good_not_ignored}
use Rattle.stateful_probe.proofs.Enough.{IsIdle, step_idle}
use Rattle.stateful_probe.proofs.Stepping.{nobody}
use Rattle.stateful_probe.proofs.Requests.{anew, behind, Since, nothing, more, since}

-- ---- look-ups where one entry is gained

found_amid : {K X : Type 0} (test : K → Bool) (front back : List (K × X)) (e : K × X) → (test e.0 ≡ true) ⊎ (is_some (lookup test (front ++ back)) ≡ true) → is_some (lookup test (front ++ e ∷ back)) ≡ true
found_amid test [] back e found = go (test e.0) found
  where
    go : (b : Bool) → (b ≡ true) ⊎ (is_some (lookup test back) ≡ true) → is_some (cond b (Some e.1) (lookup test back)) ≡ true
    go true found = refl
    go false (inl is) = cc
    go false (inr is) = is
found_amid test (y ∷ front) back e found = go (test y.0) found (found_amid test front back e)
  where
    go : (b : Bool) → (test e.0 ≡ true) ⊎ (is_some (cond b (Some y.1) (lookup test (front ++ back))) ≡ true)
        → ((test e.0 ≡ true) ⊎ (is_some (lookup test (front ++ back)) ≡ true) → is_some (lookup test (front ++ e ∷ back)) ≡ true)
        → is_some (cond b (Some y.1) (lookup test (front ++ e ∷ back))) ≡ true
    go true found rest = refl
    go false found rest = rest found

found_gained : {K X : Type 0} (test : K → Bool) (es ds : List (K × X)) (e : K × X) → Gains es ds e → (test e.0 ≡ true) ⊎ (is_some (lookup test es) ≡ true) → is_some (lookup test ds) ≡ true
found_gained test es ds e gains found =
    subst (λ ws. is_some (lookup test ws) ≡ true) (sym gains.is)
    (found_amid test gains.front gains.back e (subst (λ ws. (test e.0 ≡ true) ⊎ (is_some (lookup test ws) ≡ true)) gains.was found))

replies_with_floor : {K C : Type 0} (s : Sampled K C) (chosen : Option (Finalization C)) → (with_floor s chosen).replies ≡ s.replies
replies_with_floor s None = refl
replies_with_floor s (Some f) = refl

module _ {S K C : Type 0} (u : Setup S K C) where
  -- the replies behind a good one
  replies_more : (s : Sampled K C) (peer : K) (f : Finalization C) (chosen : Option (Finalization C)) → has_replied u.cmp s.replies peer ≡ false
      → (with_floor (with_reply u.cmp s peer f) chosen).replies ≡ insert_entry u.cmp s.replies peer f
  replies_more s peer f chosen new = replies_with_floor (with_reply u.cmp s peer f) chosen ∙ ap (λ w. w.replies) (with_reply_is u s peer f new)

  -- ---- one event

  -- no request
  abbrev pub IsNoRequest : Out K C → Type 0
  IsNoRequest (Floor t f) = Unit {0}
  IsNoRequest (Closed t) = Unit {0}
  IsNoRequest (Request peers) = ⊥
  IsNoRequest (Response peer bytes) = Unit {0}
  IsNoRequest (Block peer) = Unit {0}

  -- the event brought that reply
  abbrev Brings : Event K → K × Finalization C → Type 0
  Brings e reply = (bytes : List ℕ) × (e ≡ Received reply.0 bytes) × IsGood u reply.0 bytes reply.1

  -- an event that puts out a request begins anew; any other keeps what was recorded, and records what it brings
  record Fresh (outs : List (Out K C)) (next : State K C) : Type 0 where
    peers : List K
    requests : Contains outs (Request peers)
    none : next.sample.replies ≡ []

  record Quiet (s : State K C) (e : Event K) (outs : List (Out K C)) (next : State K C) : Type 0 where
    silent : All IsNoRequest outs
    waited : next.subscribers ≢ [] → (keys : List K) → committee u ≡ Some keys → s.subscribers ≢ []
    sent : All (λ reply. Contains s.sample.replies reply ⊎ (Brings e reply × (s.subscribers ≢ []))) next.sample.replies
    kept : next.subscribers ≢ [] → (keys : List K) → committee u ≡ Some keys → (peer : K) → has_replied u.cmp s.sample.replies peer ≡ true → has_replied u.cmp next.sample.replies peer ≡ true
    heard : next.subscribers ≢ [] → (peer : K) (f : Finalization C) → Brings e (peer, f) → has_replied u.cmp next.sample.replies peer ≡ true

  -- an event that leaves the replies as they are
  same : (s : State K C) (e : Event K) (outs : List (Out K C)) (next : State K C) → next.sample.replies ≡ s.sample.replies → All IsNoRequest outs
      → (next.subscribers ≢ [] → s.subscribers ≢ [])
      → (next.subscribers ≢ [] → (peer : K) (f : Finalization C) → Brings e (peer, f) → has_replied u.cmp s.sample.replies peer ≡ true)
      → Quiet s e outs next
  same s e outs next is silent waited heard =
      let P : K × Finalization C → Type 0 = λ reply. Contains s.sample.replies reply ⊎ (Brings e reply × (s.subscribers ≢ [])) in
      record {
        silent = silent;
        waited = λ some keys known. waited some;
        sent = All-same P next.sample.replies s.sample.replies is (All-weaker (Contains s.sample.replies) P (λ reply at. inl at) s.sample.replies (All-contains_itself s.sample.replies));
        kept = λ some keys known peer had. ap (λ ws. has_replied u.cmp ws peer) is ∙ had;
        heard = λ some peer f brought. ap (λ ws. has_replied u.cmp ws peer) is ∙ heard some peer f brought;
      }

  -- who is asked, if anybody
  asks : (s : State K C) (e : Event K) (next : State K C) (known : Option (List K)) → committee u ≡ known → next.sample.replies ≡ [] → Fresh (asked known) next ⊎ Quiet s e (asked known) next
  asks s e next (Some keys) is none = inl (record { peers = keys; requests = (0, omega arith, refl); none = none })
  asks s e next None is none =
      let P : K × Finalization C → Type 0 = λ reply. Contains s.sample.replies reply ⊎ (Brings e reply × (s.subscribers ≢ [])) in
      inr (record {
        silent = All-nil IsNoRequest;
        waited = λ some keys known. absurd (unknown keys known);
        sent = All-same P next.sample.replies [] none (All-nil P);
        kept = λ some keys known. absurd (unknown keys known);
        heard = λ some peer f brought. absurd (unknown brought.2.keys brought.2.takes_part.committee_is);
      })
    where
      unknown : (keys : List K) → committee u ≡ Some keys → ⊥
      unknown keys known = let e = sym is ∙ known in absurd cc

  -- the bytes that a peer sent were a good reply of it
  brought_here : (peer other : K) (bytes : List ℕ) (f : Finalization C) → Brings (Received peer bytes) (other, f) → (peer ≡ other) × IsGood u peer bytes f
  brought_here peer other bytes f brought =
      let is : Received peer bytes ≡ Received other brought.0 = brought.1 in
      let same_peer : peer ≡ other = cc in
      let same_bytes : bytes ≡ brought.0 = cc in
      (same_peer, subst (λ k. IsGood u k bytes f) (sym same_peer) (subst (λ w. IsGood u other w f) (sym same_bytes) brought.2))

  nobody_served : (s : State K C) → is_serving s ≡ true → s.subscribers ≡ []
  nobody_served s serving = nobody s.subscribers (and_parts s.attached _ serving).1

  -- while someone waits a peer's reply doesn't count only where one is recorded
  replied : (s : State K C) (peer : K) → IsIdle u s → s.subscribers ≢ [] → still_counts u.cmp s.sample peer ≡ false → has_replied u.cmp s.sample.replies peer ≡ true
  replied s peer rest some counts = go s.sample.floor refl (has_replied u.cmp s.sample.replies peer) counts
    where
      go : (floor : Option (Finalization C)) → s.sample.floor ≡ floor → (b : Bool) → (is_none floor && not b) ≡ false → b ≡ true
      go (Some f) is b e = absurd (some (rest f is))
      go None is true e = refl
      go None is false e = cc

  module _ (laws : AreKeys u.eq u.cmp) where
    records : (s : State K C) (peer : K) (bytes : List ℕ) (f : Finalization C) (chosen : Option (Finalization C)) → still_counts u.cmp s.sample peer ≡ true → IsGood u peer bytes f → s.subscribers ≢ []
        → Quiet s (Received peer bytes) (handed_out s.subscribers chosen) (record s { sample = with_floor (with_reply u.cmp s.sample peer f) chosen; subscribers = left_waiting s.subscribers chosen })
    records s peer bytes f chosen waited good others =
        let new = (counting_parts u s.sample peer waited).1 in
        let is = replies_more s.sample peer f chosen new in
        let gains = gains_from_insert u.cmp s.sample.replies peer f new in
        let P : K × Finalization C → Type 0 = λ reply. Contains s.sample.replies reply ⊎ (Brings (Received peer bytes) reply × (s.subscribers ≢ [])) in
        record {
          silent = handed_all IsNoRequest chosen s.subscribers (λ t f is. tt);
          waited = λ some keys known. others;
          sent = All-same P _ (insert_entry u.cmp s.sample.replies peer f) is
              (All-gains gains P (inr ((bytes, refl, good), others)) (All-weaker (Contains s.sample.replies) P (λ reply at. inl at) s.sample.replies (All-contains_itself s.sample.replies)));
          kept = λ some keys known other had. ap (λ ws. has_replied u.cmp ws other) is ∙ found_gained (is_at (u.cmp other)) s.sample.replies _ (peer, f) gains (inr had);
          heard = λ some other g brought.
              let same_peer = (brought_here peer other bytes g brought).0 in
              let itself : is_eq (u.cmp other peer) ≡ true = sym (laws.agrees other peer) ∙ ap (λ k. u.eq other k) same_peer ∙ laws.same.refl other in
              ap (λ ws. has_replied u.cmp ws other) is ∙ found_gained (is_at (u.cmp other)) s.sample.replies _ (peer, f) gains (inl itself);
        }

    step_sent : (latest : Option (Finalization C)) (s : State K C) (e : Event K) (outs : List (Out K C)) (next : State K C) → Steps u latest s e outs next
        → IsIdle u s → Fresh outs next ⊎ Quiet s e outs next
    step_sent latest s e outs next (answered is) rest = inr (same s e outs next refl (one_out IsNoRequest _ tt) (λ some. some) (λ some peer f brought. let other = brought.1 in absurd cc))
    step_sent latest s e outs next (closed unset serves) rest = inr (same s e outs next refl (one_out IsNoRequest _ tt) (λ some. some) (λ some peer f brought. let other = brought.1 in absurd cc))
    step_sent latest s e outs next (begins_round unset idle alone) rest = asks s e next (committee u) refl refl
    step_sent latest s e outs next (waits unset others) rest = inr (same s e outs next refl (All-nil IsNoRequest) (λ some. others) (λ some peer f brought. let other = brought.1 in absurd cc))
    step_sent latest s e outs next (leaves {t = t}) rest =
        inr (same s e outs next refl (All-nil IsNoRequest) (λ some none. some (ap (filter (λ w. not (w == t))) none)) (λ some peer f brought. let other = brought.1 in absurd cc))
    step_sent latest s e outs next attaches rest = inr (same s e outs next refl (All-nil IsNoRequest) (λ some. some) (λ some peer f brought. let other = brought.1 in absurd cc))
    step_sent latest s e outs next (asks_again unset others) rest = asks s e next (committee u) refl refl
    step_sent latest s e outs next (rests why) rest = inr (same s e outs next refl (All-nil IsNoRequest) (λ some. some) (λ some peer f brought. let other = brought.1 in absurd cc))
    step_sent latest s e outs next (unawaited {peer = peer} {bytes = bytes} idle unwanted) rest =
        inr (same s e outs next refl (All-nil IsNoRequest) (λ some. some)
        (λ some other f brought. subst (λ k. has_replied u.cmp s.sample.replies k ≡ true) (brought_here peer other bytes f brought).0 (replied s peer rest some unwanted)))
    step_sent latest s e outs next (ignored {peer = peer} {bytes = bytes} idle waited why) rest =
        inr (same s e outs next refl (All-nil IsNoRequest) (λ some. some)
        (λ some other f brought. absurd (good_not_ignored u peer bytes f (brought_here peer other bytes f brought).1 why)))
    step_sent latest s e outs next (blocked {peer = peer} {bytes = bytes} idle waited fault) rest =
        inr (same s e outs next refl (one_out IsNoRequest (Block peer) tt) (λ some. some)
        (λ some other f brought. absurd (fault_not_good u peer bytes fault f (brought_here peer other bytes f brought).1)))
    step_sent latest s e outs next (not_needed idle waited good alone) rest = inr (record {
      silent = All-nil IsNoRequest;
      waited = λ some. absurd (some alone);
      sent = All-nil (λ reply. Contains s.sample.replies reply ⊎ (Brings e reply × (s.subscribers ≢ [])));
      kept = λ some. absurd (some alone);
      heard = λ some. absurd (some alone);
    })
    step_sent latest s e outs next (recorded {peer = peer} {bytes = bytes} {f = f} {chosen = chosen} idle waited good others known selects) rest = inr (records s peer bytes f chosen waited good others)
    step_sent latest s e outs next (served {peer = peer} serves request sends) rest =
        inr (same s e outs next refl (sent_all IsNoRequest u (λ peer bytes. tt) latest peer outs sends) (λ some. some) (λ some. absurd (some (nobody_served s serves))))
    step_sent latest s e outs next (passed_over serves tagged) rest = inr (same s e outs next refl (All-nil IsNoRequest) (λ some. some) (λ some. absurd (some (nobody_served s serves))))
    step_sent latest s e outs next (untagged {peer = peer} serves request tagged) rest =
        inr (same s e outs next refl (one_out IsNoRequest (Block peer) tt) (λ some. some) (λ some. absurd (some (nobody_served s serves))))
    step_sent latest s e outs next stops rest =
        inr (same s e outs next refl (All-map IsNoRequest (λ t. Closed t) s.subscribers (λ k d lt. tt)) (λ some. absurd (some refl)) (λ some. absurd (some refl)))

    -- ---- many events

    -- as long as someone waits, whoever sent a good reply in this turn has one recorded
    abbrev pub IsHeard : State K C → Turn K C → Type 0
    IsHeard s turn = (peer : K) (f : Finalization C) → Brought u (peer, f) turn → s.subscribers ≢ [] → has_replied u.cmp s.sample.replies peer ≡ true

    -- behind these events: who waits has asked, and what is recorded came since
    pub record Told (turns : List (Turn K C)) (s : State K C) : Type 0 where
      pub idle : IsIdle u s
      pub asked : s.subscribers ≢ [] → (keys : List K) → committee u ≡ Some keys → LastRequest turns
      pub sent : All (λ reply. (request : LastRequest turns) × Any (Brought u reply) request.since) s.sample.replies
      pub heard : (request : LastRequest turns) → All (IsHeard s) request.since

    any_before : (P : Turn K C → Type 0) (xs : List (Turn K C)) (y : Turn K C) → Any P xs → Any P (xs ++ y ∷ [])
    any_before P xs y any = let at = Contains-append_left xs (y ∷ []) any.1 (any.0, any.2, any.3) in (at.0, any.1, at.1, at.2, any.4)

    told_fresh : (turns : List (Turn K C)) (turn : Turn K C) (next : State K C) → Fresh turn.outs next → IsIdle u next → Told (turns ++ turn ∷ []) next
    told_fresh turns turn next fresh rest =
        let P : K × Finalization C → Type 0 = λ reply. (request : LastRequest (turns ++ turn ∷ [])) × Any (Brought u reply) request.since in
        let requests : Requests turn = (fresh.peers, fresh.requests) in
        record {
          idle = rest;
          asked = λ some keys known. anew turns turn requests;
          sent = All-same P next.sample.replies [] fresh.none (All-nil P);
          heard = λ r. go r (since turns turn r);
        }
      where
        go : (r : LastRequest (turns ++ turn ∷ [])) → Since turns turn r → All (IsHeard next) r.since
        go r (nothing requests none) = All-same (IsHeard next) r.since [] none (All-nil (IsHeard next))
        go r (more q silent is) = absurd (silent (fresh.peers, fresh.requests))

    told_quiet : (turns : List (Turn K C)) (turn : Turn K C) (s next : State K C) → Told turns s → Quiet s turn.event turn.outs next → IsIdle u next → Told (turns ++ turn ∷ []) next
    told_quiet turns turn s next told quiet rest = record {
      idle = rest;
      asked = λ some keys known. behind turns turn (told.asked (quiet.waited some keys known) keys known) silent;
      sent = All-weaker
          (λ reply. Contains s.sample.replies reply ⊎ (Brings turn.event reply × (s.subscribers ≢ [])))
          (λ reply. (request : LastRequest (turns ++ turn ∷ [])) × Any (Brought u reply) request.since)
          came next.sample.replies quiet.sent;
      heard = λ r. go r (since turns turn r);
    }
      where
        silent : Requests turn → ⊥
        silent r = All-contains IsNoRequest turn.outs (Request r.0) quiet.silent r.1

        came : (reply : K × Finalization C) → Contains s.sample.replies reply ⊎ (Brings turn.event reply × (s.subscribers ≢ [])) → (request : LastRequest (turns ++ turn ∷ [])) × Any (Brought u reply) request.since
        came reply (inl at) =
            let before = All-contains (λ reply. (request : LastRequest turns) × Any (Brought u reply) request.since) s.sample.replies reply told.sent at in
            (behind turns turn before.0 silent, any_before (Brought u reply) before.0.since turn before.1)
        came reply (inr here) =
            let request = told.asked here.1 here.0.2.keys here.0.2.takes_part.committee_is in
            (behind turns turn request silent, Any-push (Brought u reply) request.since turn here.0)

        earlier : (late : Turn K C) → IsHeard s late → IsHeard next late
        earlier late had peer f brought some =
            let known = brought.2.takes_part.committee_is in
            quiet.kept some brought.2.keys known peer (had peer f brought (quiet.waited some brought.2.keys known))

        go : (r : LastRequest (turns ++ turn ∷ [])) → Since turns turn r → All (IsHeard next) r.since
        go r (nothing requests none) = absurd (silent requests)
        go r (more q quietly is) =
            All-same (IsHeard next) r.since (q.since ++ turn ∷ []) is
            (All-push (IsHeard next) q.since turn (All-weaker (IsHeard s) (IsHeard next) earlier q.since (told.heard q)) (λ peer f brought some. quiet.heard some peer f brought))

    told : (turns later : List (Turn K C)) (s last : State K C) → Told turns s → Runs u s later last → Told (turns ++ later) last
    told turns [] s last here runs = subst (Told (turns ++ [])) (sym runs) (subst (λ ws. Told ws s) (sym (append-nil turns)) here)
    told turns (turn ∷ later) s last here runs =
        subst (λ ws. Told ws last) (simp append_assoc) (told (turns ++ turn ∷ []) later runs.2 last (go (step_sent turn.latest s turn.event turn.outs runs.2 runs.3 here.idle)) runs.4)
      where
        rest : IsIdle u runs.2
        rest = step_idle u turn.latest s turn.event turn.outs runs.2 runs.3 here.idle

        go : Fresh turn.outs runs.2 ⊎ Quiet s turn.event turn.outs runs.2 → Told (turns ++ turn ∷ []) runs.2
        go (inl fresh) = told_fresh turns turn runs.2 fresh rest
        go (inr quiet) = told_quiet turns turn s runs.2 here quiet rest

    -- from where nothing is recorded and nobody waits
    pub told_all : (turns : List (Turn K C)) (s last : State K C) → s.sample.replies ≡ [] → s.sample.floor ≡ None → s.subscribers ≡ [] → Runs u s turns last → Told turns last
    told_all turns s last none unset alone runs = told [] turns s last start runs
      where
        start : Told [] s
        start = record {
          idle = λ f is. alone;
          asked = λ some. absurd (some alone);
          sent = All-same (λ reply. (request : LastRequest []) × Any (Brought u reply) request.since) s.sample.replies [] none (All-nil (λ reply. (request : LastRequest []) × Any (Brought u reply) request.since));
          heard = λ r. λ k d lt peer f brought some. absurd (some alone);
        }
