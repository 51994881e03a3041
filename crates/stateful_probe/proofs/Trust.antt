-- That a floor may be trusted: what holds of the recorded replies, and that no event drops a floor.
use Rattle.std.proofs.Common.{◌≡◌, ℕ, ◌+◌, ◌≤◌, Bool, true, false, not, cond, is_some, is_none, Option, Some, None, List, [], ◌∷◌, ◌++◌, length, All, Contains, count_by, is_eq, refl, sym, ap, subst, ◌∙◌, inl, inr, arith}
use Rattle.std.specs.Map.{values_of}
use Rattle.std.specs.BTreeMap.{insert_entry}
use Rattle.std.proofs.lemmas.Bool.{and_parts, not-true}
use Rattle.std.proofs.lemmas.List.{length-map}
use Rattle.std.proofs.lemmas.List.Elements.{All-nil, All-cons, All-append, All-weaker, All-map, All-same, All-contains, Contains-append_right}
use Rattle.stateful_base.specs.Round.{IsLater}
use Rattle.stateful_base.specs.Scheme.{max_faults}
use Rattle.stateful_base.specs.declared.round.Round.{Round}
use Rattle.stateful_base.specs.declared.finalization.Finalization.{Finalization}
use Rattle.stateful_probe_sample.specs.Sample.{Sampled, has_replied, still_counts, with_reply, with_floor, cleared, IsHighest, judged, Selects}
use Rattle.stateful_probe.specs.Setup.{Setup, committee, is_one_of, is_judgeable, Counts, TakesPart}
use Rattle.stateful_probe.specs.Reply.{IsGood}
use Rattle.stateful_probe.specs.Probe.{Steps, answered, closed, begins_round, waits, leaves, attaches, asks_again, rests, unawaited, ignored, blocked, not_needed, recorded, served, passed_over, untagged, stops}
use Rattle.stateful_probe.specs.Laws.{Turn, Runs, IsTrusted}
use Rattle.stateful_probe.specs.declared.state.State.{State}
use Rattle.stateful_probe.specs.declared.event.Event.{Event}
use Rattle.stateful_probe.specs.declared.event.Out.{Out}
use Rattle.stateful_probe.specs.declared.event.Out.TheVariants.{Floor, Closed, Request, Response, Block}
use Rattle.stateful_probe.proofs.Known.{AreKeys, one_value}
use Rattle.stateful_probe.proofs.Outs.{one_out, asked_all, handed_all, sent_all}
use Rattle.stateful_probe.proofs.Tallies.{filter_all, All-from_map, count_none, gains_from_insert, All-gains, count_by_gains, no_liar}

-- of two rounds at most one is the later one
not_both : (a b : Round) → IsLater a b → IsLater b a → ⊥
not_both a b (inl x) (inl y) = absurd (omega arith)
not_both a b (inl x) (inr y) = absurd (omega arith)
not_both a b (inr x) (inl y) = absurd (omega arith)
not_both a b (inr x) (inr y) = absurd (omega arith)

not_itself : (a : Round) → IsLater a a → ⊥
not_itself a later = not_both a a later later

-- no finalization that it was chosen among is later than the highest
none_later : {C : Type 0} (among : List (Finalization C)) (f : Finalization C) → IsHighest among f → All (λ g. IsLater f.round g.round → ⊥) among
none_later {C} among f h =
    let P : Finalization C → Type 0 = λ g. IsLater f.round g.round → ⊥ in
    let front : All P h.front = All-weaker (λ g. IsLater g.round f.round) P (λ g later. not_both g.round f.round later) h.front h.first in
    All-same P among (h.front ++ f ∷ h.back) h.place (All-append P h.front (f ∷ h.back) front (All-cons P f h.back (not_itself f.round) h.highest))

among_highest : {C : Type 0} (among : List (Finalization C)) (f : Finalization C) → IsHighest among f → Contains among f
among_highest among f h = subst (λ fs. Contains fs f) (sym h.place) (Contains-append_right h.front (f ∷ h.back) f (0, omega arith, refl))

module _ {S K C : Type 0} (u : Setup S K C) where
  -- a reply that was good: its peer takes part, its epoch counts, and its certificate holds
  pub record IsReply (entry : K × Finalization C) : Type 0 where
    pub scheme : S
    pub counts : Counts u entry.1.round.epoch scheme
    pub certified : u.certifies scheme entry.1
    pub keys : List K
    pub takes_part : TakesPart u entry.0 keys

  -- a floor that was chosen from enough replies, none of which is later
  pub record IsChosen (replies : List (K × Finalization C)) (f : Finalization C) : Type 0 where
    pub keys : List K
    pub committee_is : committee u ≡ Some keys
    pub enough : max_faults (length keys) + 1 ≤ length replies
    pub among : Contains (values_of replies) f
    pub highest : All (λ e. IsLater f.round e.1.round → ⊥) replies

  abbrev pub IsFloorOf : List (K × Finalization C) → Option (Finalization C) → Type 0
  IsFloorOf replies None = Unit {0}
  IsFloorOf replies (Some f) = IsChosen replies f

  -- What holds of each sample: the replies were good, of each peer there is one at most, and the floor was chosen from them.
  pub record IsSound (s : Sampled K C) : Type 0 where
    pub good : All IsReply s.replies
    pub apart : (l : K) → count_by (λ e. u.eq l e.0) s.replies ≤ 1
    pub floor : IsFloorOf s.replies s.floor

  pub sound_empty : (s : Sampled K C) → s.replies ≡ [] → s.floor ≡ None → IsSound s
  sound_empty s none unset = record {
    good = All-same IsReply s.replies [] none (All-nil IsReply);
    apart = λ l. rw none (omega arith);
    floor = rw unset tt;
  }

  module _ (replies : List (K × Finalization C)) (f : Finalization C) (good : All IsReply replies) (chosen : IsChosen replies f) where
    -- a recorded reply is a participant's
    vouched : (liars : List K) (peer : K) (reply : Finalization C) → Contains replies (peer, reply) → is_one_of u.eq liars peer ≡ false
        → (peer : K) × (reply : Finalization C) × Contains replies (peer, reply) × (is_one_of u.eq chosen.keys peer ≡ true) × (is_one_of u.eq liars peer ≡ false)
    vouched liars peer reply at other =
        let by : IsReply (peer, reply) = All-contains IsReply replies (peer, reply) good at in
        let same : by.keys ≡ chosen.keys = one_value (committee u) by.keys chosen.keys by.takes_part.committee_is chosen.committee_is in
        (peer, reply, at, ap (λ keys. is_one_of u.eq keys peer) (sym same) ∙ by.takes_part.member, other)

    -- the floor's epoch counts, and its certificate holds
    certified_in : (scheme : S) × Counts u f.round.epoch scheme × u.certifies scheme f
    certified_in =
        let Stands : Finalization C → Type 0 = λ g. (scheme : S) × Counts u g.round.epoch scheme × u.certifies scheme g in
        let stand : All Stands (values_of replies) = All-map Stands (λ e. e.1) replies (All-weaker IsReply (λ e. Stands e.1) (λ e reply. (reply.scheme, reply.counts, reply.certified)) replies good) in
        All-contains Stands (values_of replies) f stand chosen.among

  -- the floor of a sound sample may be trusted
  trusted : (s : State K C) (f : Finalization C) → IsSound s.sample → s.sample.floor ≡ Some f → IsTrusted u s f
  trusted s f sound e =
      let chosen : IsChosen s.sample.replies f = subst (IsFloorOf s.sample.replies) e sound.floor in
      let here = certified_in s.sample.replies f sound.good chosen in
      record {
        scheme = here.0;
        counts = here.1;
        certified = here.2;
        among = chosen.among;
        latest = chosen.highest;
        keys = chosen.keys;
        committee_is = chosen.committee_is;
        honest = λ liars few.
            let found = no_liar u.eq liars s.sample.replies sound.apart (omega (arith, chosen.enough)) in
            vouched s.sample.replies f sound.good chosen liars found.0 found.1 found.2 found.3;
      }

  -- ---- one reply more

  pub reply_of : (peer : K) (bytes : List ℕ) (f : Finalization C) → IsGood u peer bytes f → IsReply (peer, f)
  reply_of peer bytes f good = record { scheme = good.scheme; counts = good.counts; certified = good.certified; keys = good.keys; takes_part = good.takes_part }

  -- the replies with the first one of a peer
  pub with_reply_is : (s : Sampled K C) (peer : K) (f : Finalization C) → has_replied u.cmp s.replies peer ≡ false
      → with_reply u.cmp s peer f ≡ record s { replies = insert_entry u.cmp s.replies peer f }
  with_reply_is s peer f new = rw new refl

  -- a peer whose reply is awaited hasn't replied, and there is no floor
  pub counting_parts : (s : Sampled K C) (peer : K) → still_counts u.cmp s peer ≡ true → (s.floor ≡ None) × (has_replied u.cmp s.replies peer ≡ false)
  counting_parts s peer counts =
      let parts = and_parts (is_none s.floor) (not (has_replied u.cmp s.replies peer)) counts in
      (none_from s.floor parts.0, not-true _ parts.1)
    where
      none_from : (o : Option (Finalization C)) → is_none o ≡ true → o ≡ None
      none_from None e = refl
      none_from (Some f) e = cc

  module _ (laws : AreKeys u.eq u.cmp) where
    -- where no reply of the peer is recorded, one of it is all that there is of its key
    apart_more : (es : List (K × Finalization C)) (peer : K) (f : Finalization C) → has_replied u.cmp es peer ≡ false → ((l : K) → count_by (λ e. u.eq l e.0) es ≤ 1)
        → (l : K) → count_by (λ e. u.eq l e.0) (insert_entry u.cmp es peer f) ≤ 1
    apart_more es peer f new apart l = go (u.eq l peer) refl
      where
        gained : count_by (λ e. u.eq l e.0) (insert_entry u.cmp es peer f) ≡ cond (u.eq l peer) 1 0 + count_by (λ e. u.eq l e.0) es
        gained = count_by_gains (gains_from_insert u.cmp es peer f new) (λ e. u.eq l e.0)

        agree : u.eq l peer ≡ true → (k : K) → u.eq l k ≡ is_eq (u.cmp peer k)
        agree same k = laws.same.congr l peer k same ∙ laws.agrees peer k

        go : (b : Bool) → u.eq l peer ≡ b → count_by (λ e. u.eq l e.0) (insert_entry u.cmp es peer f) ≤ 1
        go false other = let few = apart l in let e = gained ∙ ap (λ b. cond b 1 0 + count_by (λ e. u.eq l e.0) es) other in omega arith
        go true same =
            let e = gained ∙ ap (λ b. cond b 1 0 + count_by (λ e. u.eq l e.0) es) same in
            let none : count_by (λ e. u.eq l e.0) es ≡ 0 = (λ i. count_by (λ (e : K × Finalization C). agree same e.0 i) es) ∙ count_none (λ k. is_eq (u.cmp peer k)) es new in
            omega arith

    pub sound_more : (s : Sampled K C) (peer : K) (f : Finalization C) → IsSound s → s.floor ≡ None → has_replied u.cmp s.replies peer ≡ false
        → IsReply (peer, f) → IsSound (with_reply u.cmp s peer f)
    sound_more s peer f sound unset new reply =
        subst IsSound (sym (with_reply_is s peer f new)) (record {
          good = All-gains (gains_from_insert u.cmp s.replies peer f new) IsReply reply sound.good;
          apart = apart_more s.replies peer f new sound.apart;
          floor = rw unset tt;
        })

  -- ---- the floor that is chosen

  pub all_judged : (n : ℕ) (s : Sampled K C) → All IsReply s.replies → judged n (is_judgeable u) s ≡ values_of s.replies
  all_judged n s good =
      let P : Finalization C → Type 0 = λ g. is_judgeable u g ≡ true in
      filter_all (is_judgeable u) (values_of s.replies) (All-map P (λ e. e.1) s.replies (All-weaker IsReply (λ e. P e.1) (λ e reply. ap is_some reply.counts.known) s.replies good))

  chosen_from : (s : Sampled K C) (keys : List K) (f : Finalization C) → All IsReply s.replies → committee u ≡ Some keys
      → Selects (length keys) (is_judgeable u) s (Some f) → IsChosen s.replies f
  chosen_from s keys f good known selects =
      let all = all_judged (length keys) s good in
      let highest : IsHighest (values_of s.replies) f = subst (λ fs. IsHighest fs f) all selects.highest in
      record {
        keys = keys;
        committee_is = known;
        enough = omega (arith, (selects.exactly.0 refl).1, ap length all, length-map s.replies (λ e. e.1));
        among = among_highest (values_of s.replies) f highest;
        highest = All-from_map (λ g. IsLater f.round g.round → ⊥) (λ e. e.1) s.replies (none_later (values_of s.replies) f highest);
      }

  sound_chosen : (s : Sampled K C) (keys : List K) (chosen : Option (Finalization C)) → IsSound s → committee u ≡ Some keys
      → Selects (length keys) (is_judgeable u) s chosen → IsSound (with_floor s chosen)
  sound_chosen s keys None sound known selects = sound
  sound_chosen s keys (Some f) sound known selects = record { good = sound.good; apart = sound.apart; floor = chosen_from s keys f sound.good known selects }

  -- ---- one event

  -- a floor that is put out is this one
  abbrev pub IsOf : Option (Finalization C) → Out K C → Type 0
  IsOf floor (Floor t f) = floor ≡ Some f
  IsOf floor (Closed t) = Unit {0}
  IsOf floor (Request peers) = Unit {0}
  IsOf floor (Response peer bytes) = Unit {0}
  IsOf floor (Block peer) = Unit {0}

  floor_chosen : (s : Sampled K C) (chosen : Option (Finalization C)) (f : Finalization C) → chosen ≡ Some f → (with_floor s chosen).floor ≡ Some f
  floor_chosen s None f e = cc
  floor_chosen s (Some g) f e = e

  -- each floor that an event puts out is the one that the state behind it has
  step_floors : (latest : Option (Finalization C)) (s : State K C) (e : Event K) (outs : List (Out K C)) (next : State K C) → Steps u latest s e outs next
      → All (IsOf next.sample.floor) outs
  step_floors latest s e outs next (answered {f = f} is) = one_out (IsOf s.sample.floor) (Floor _ f) is
  step_floors latest s e outs next (closed unset serving) = one_out (IsOf s.sample.floor) _ tt
  step_floors latest s e outs next (begins_round unset idle nobody) = asked_all (IsOf None) (λ keys. tt) (committee u)
  step_floors latest s e outs next (waits unset others) = All-nil (IsOf s.sample.floor)
  step_floors latest s e outs next leaves = All-nil (IsOf s.sample.floor)
  step_floors latest s e outs next attaches = All-nil (IsOf s.sample.floor)
  step_floors latest s e outs next (asks_again unset others) = asked_all (IsOf None) (λ keys. tt) (committee u)
  step_floors latest s e outs next (rests why) = All-nil (IsOf s.sample.floor)
  step_floors latest s e outs next (unawaited idle unwanted) = All-nil (IsOf s.sample.floor)
  step_floors latest s e outs next (ignored idle waited why) = All-nil (IsOf s.sample.floor)
  step_floors latest s e outs next (blocked idle waited fault) = one_out (IsOf s.sample.floor) _ tt
  step_floors latest s e outs next (not_needed idle waited good nobody) = All-nil (IsOf None)
  step_floors latest s e outs next (recorded {peer = peer} {f = f} {chosen = chosen} idle waited good others known selects) =
      let sample = with_reply u.cmp s.sample peer f in
      handed_all (IsOf (with_floor sample chosen).floor) chosen s.subscribers (λ t f. floor_chosen sample chosen f)
  step_floors latest s e outs next (served {peer = peer} serving request sends) = sent_all (IsOf s.sample.floor) u (λ peer bytes. tt) latest peer outs sends
  step_floors latest s e outs next (passed_over serving tagged) = All-nil (IsOf s.sample.floor)
  step_floors latest s e outs next (untagged serving request tagged) = one_out (IsOf s.sample.floor) _ tt
  step_floors latest s e outs next stops = All-map (IsOf s.sample.floor) (λ t. Closed t) s.subscribers (λ k d lt. tt)

  module _ (laws : AreKeys u.eq u.cmp) where
    -- no event drops a floor
    pub step_keeps : (latest : Option (Finalization C)) (s : State K C) (e : Event K) (outs : List (Out K C)) (next : State K C) → Steps u latest s e outs next
        → (f : Finalization C) → s.sample.floor ≡ Some f → next.sample.floor ≡ Some f
    step_keeps latest s e outs next (begins_round unset idle nobody) f is = cc
    step_keeps latest s e outs next (asks_again unset others) f is = cc
    step_keeps latest s e outs next (not_needed {peer = peer} idle waited good nobody) f is = let unset = (counting_parts s.sample peer waited).0 in cc
    step_keeps latest s e outs next (recorded {peer = peer} idle waited good others known selects) f is = let unset = (counting_parts s.sample peer waited).0 in cc
    step_keeps latest s e outs next _ f is = is

    pub step_sound : (latest : Option (Finalization C)) (s : State K C) (e : Event K) (outs : List (Out K C)) (next : State K C) → Steps u latest s e outs next
        → IsSound s.sample → IsSound next.sample
    step_sound latest s e outs next (begins_round unset idle nobody) sound = sound_empty (cleared s.sample) refl refl
    step_sound latest s e outs next (asks_again unset others) sound = sound_empty (cleared s.sample) refl refl
    step_sound latest s e outs next (not_needed idle waited good nobody) sound = sound_empty (cleared s.sample) refl refl
    step_sound latest s e outs next (recorded {peer = peer} {bytes = bytes} {f = f} {keys = keys} {chosen = chosen} idle waited good others known selects) sound =
        let parts = counting_parts s.sample peer waited in
        sound_chosen (with_reply u.cmp s.sample peer f) keys chosen (sound_more laws s.sample peer f sound parts.0 parts.1 (reply_of peer bytes f good)) known selects
    step_sound latest s e outs next _ sound = sound

    -- ---- many events

    pub record Trusting (turns : List (Turn K C)) (s last : State K C) : Type 0 where
      pub sound : IsSound last.sample
      pub kept : (f : Finalization C) → s.sample.floor ≡ Some f → last.sample.floor ≡ Some f
      pub of_last : All (λ turn. All (IsOf last.sample.floor) turn.outs) turns

    pub trusting : (turns : List (Turn K C)) (s last : State K C) → IsSound s.sample → Runs u s turns last → Trusting turns s last
    trusting [] s last sound runs = record {
      sound = subst (λ w. IsSound w.sample) (sym runs) sound;
      kept = λ f is. ap (λ w. w.sample.floor) runs ∙ is;
      of_last = All-nil (λ turn. All (IsOf last.sample.floor) turn.outs);
    }
    trusting (turn ∷ turns) s last sound runs =
        let next = runs.2 in
        let rest = trusting turns next last (step_sound turn.latest s turn.event turn.outs next runs.3 sound) runs.4 in
        record {
          sound = rest.sound;
          kept = λ f is. rest.kept f (step_keeps turn.latest s turn.event turn.outs next runs.3 f is);
          of_last = All-cons (λ turn. All (IsOf last.sample.floor) turn.outs) turn turns
              (All-weaker (IsOf next.sample.floor) (IsOf last.sample.floor) (carried next rest.kept) turn.outs (step_floors turn.latest s turn.event turn.outs next runs.3)) rest.of_last;
        }
      where
        carried : (next : State K C) → ((f : Finalization C) → next.sample.floor ≡ Some f → last.sample.floor ≡ Some f)
            → (out : Out K C) → IsOf next.sample.floor out → IsOf last.sample.floor out
        carried next kept (Floor t f) is = kept f is
        carried next kept (Closed t) is = tt
        carried next kept (Request peers) is = tt
        carried next kept (Response peer bytes) is = tt
        carried next kept (Block peer) is = tt

    -- the floor that the probe has may be trusted
    pub floor_trusted : (turns : List (Turn K C)) (s last : State K C) → IsSound s.sample → Runs u s turns last
        → (f : Finalization C) → last.sample.floor ≡ Some f → IsTrusted u last f
    floor_trusted turns s last sound runs f is = trusted last f (trusting turns s last sound runs).sound is

    -- each floor that was handed out is the one that the probe has
    pub floors_handed : (turns : List (Turn K C)) (s last : State K C) → IsSound s.sample → Runs u s turns last
        → All (λ turn. (t : ℕ) (f : Finalization C) → Contains turn.outs (Floor t f) → last.sample.floor ≡ Some f) turns
    floors_handed turns s last sound runs =
        All-weaker (λ turn. All (IsOf last.sample.floor) turn.outs) (λ turn. (t : ℕ) (f : Finalization C) → Contains turn.outs (Floor t f) → last.sample.floor ≡ Some f)
        (λ turn outs t f at. All-contains (IsOf last.sample.floor) turn.outs (Floor t f) outs at) turns (trusting turns s last sound runs).of_last
