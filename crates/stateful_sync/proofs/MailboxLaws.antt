-- That a new mailbox keeps the laws, whatever calls come.
use Rattle.std.proofs.Common.{◌≡◌, ◌≢◌, ℕ, ◌<◌, ◌≤◌, suc, max, Bool, false, ◌⊎◌, ⊎_elim, inl, inr, Option, Some, None, List, [], ◌∷◌, ◌++◌, length, All, refl, sym, ap, subst, ◌∙◌, arith, length-set}
use Rattle.std.specs.Prelude.{slice_get, unwrap_or}
use Rattle.std.specs.Option.{option_map}
use Rattle.std.specs.List.{Any}
use Rattle.std.proofs.lemmas.Bool.{cases_eq}
use Rattle.std.proofs.lemmas.List.{length-map, length_push}
use Rattle.std.proofs.lemmas.List.Elements.{All-nil, All-head, All-tail}
use Rattle.std.proofs.lemmas.Option.{none-some, same_Some, slice_get-map, slice_get_within, some_pair_parts}
use Rattle.stateful_base.specs.declared.anchor.Anchor.{Anchor}
use Rattle.stateful_sync.specs.Mailbox.{Mail, numbered, made, once_answered, once_recorded, HandsOut, nothing, newest, Responds, goes_on, ends, Observes, records, drops, Call, retarget, next, observed, poll, Steps, drawn, handed, responded, seen, polled}
use Rattle.stateful_sync.specs.MailboxLaws.{Runs, Gives, IsToBeSent, when_made, when_dropped, Takes, takes, KeepsLaws}
use Rattle.stateful_sync.specs.declared.tip.TipUpdate.{TipUpdate}
use Rattle.stateful_sync.specs.declared.mailbox.Update.{Update}
use Rattle.stateful_sync.proofs.Marks.{Marks}
use Rattle.stateful_sync.proofs.MailboxTold.{Told, told_step, gives_by, run_split, kept}

-- the call is the one that a drop of this number makes
any_here : {X : Type 0} (P : X → Type 0) (x : X) (xs : List X) → P x → Any P (x ∷ xs)
any_here P x xs p = (0, x, omega arith, refl, p)

any_there : {X : Type 0} (P : X → Type 0) (x : X) (xs : List X) → Any P xs → Any P (x ∷ xs)
any_there P x xs (k, y, lt, is, p) = (suc k, y, omega arith, is, p)

other_newest : (o : Option ℕ) (m n : ℕ) → o ≢ Some n → m ≢ n → Some (max (unwrap_or o m) m) ≢ Some n
other_newest None m n apart other e = let same = same_Some (max m m) n e in other (omega arith)
other_newest (Some k) m n apart other e =
    let same = same_Some (max k m) n e in
    let other' : k ≢ n = λ is. apart (ap Some is) in
    absurd (omega arith)

no_older : (o : Option ℕ) (m n : ℕ) → ((w : ℕ) × (o ≡ Some w) × (n ≤ w)) → n ≤ max (unwrap_or o m) m
no_older None m n (w, e, le) = absurd (none-some w e)
no_older (Some k) m n (w, e, le) = let same = same_Some k w e in omega arith

module _ {T : Type 0} where
  -- this update or a newer one waits
  abbrev WaitsFrom : Mail T → ℕ → Type 0
  WaitsFrom s n = (w : ℕ) × (s.waiting ≡ Some w) × (n ≤ w)

  same_waits : (s after : Mail T) (n : ℕ) → after.waiting ≡ s.waiting → WaitsFrom s n → WaitsFrom after n
  same_waits s after n same (w, e, le) = (w, same ∙ e, le)

  responds_waits : (s after : Mail T) (n : ℕ) (answer : Option Anchor) → Responds s n answer after → after.waiting ≡ s.waiting
  responds_waits s after n answer (goes_on at) = ap (λ (m : Mail T). m.waiting) at.is
  responds_waits s after n answer ends = refl

  -- until one is taken, it or a newer one waits
  still_waits : (past : List (Call T)) (s : Mail T) (call : Call T) (after : Mail T) (n : ℕ) → Told past s → Steps s call after → (Takes call → ⊥) → WaitsFrom s n → WaitsFrom after n
  still_waits past s call after n told (drawn {ticket = ticket} draws) untaken (w, e, le) =
      let lt = told.within w e in
      let number = draws.number in
      (ticket, ap (λ (m : Mail T). m.waiting) draws.is, omega arith)
  still_waits past s call after n told (handed hands) untaken waits = absurd (untaken takes)
  still_waits past s call after n told (responded {n = m} {answer = answer} lt responds) untaken waits = same_waits s after n (responds_waits s after m answer responds) waits
  still_waits past s call after n told (seen {n = m} {was_recorded = r} lt observes) untaken waits = go observes
    where
      go : {r : Bool} {after : Mail T} → Observes s m r after → WaitsFrom after n
      go {after = after} (records at) = same_waits s after n (ap (λ (m : Mail T). m.waiting) at.is) waits
      go drops = (max (unwrap_or s.waiting m) m, refl, no_older s.waiting m n waits)
  still_waits past s call after n told (polled lt polls) untaken waits = waits

  waits_through : (calls past : List (Call T)) (s last : Mail T) (n : ℕ) → Told past s → Runs s calls last → All (λ call. Takes call → ⊥) calls → WaitsFrom s n → WaitsFrom last n
  waits_through [] past s last n told runs untaken waits = subst (λ m. WaitsFrom m n) (sym runs) waits
  waits_through (call ∷ calls) past s last n told runs untaken waits =
      waits_through calls (past ++ call ∷ []) runs.0 last n (told_step past s call runs.0 runs.1 told) runs.2
      (All-tail (λ call. Takes call → ⊥) call calls untaken)
      (still_waits past s call runs.0 n told runs.1 (All-head (λ call. Takes call → ⊥) call calls untaken) waits)

  -- from what is to be sent on, it or a newer one waits
  to_be_sent : (s : Mail T) (call : Call T) (after : Mail T) (n : ℕ) → Steps s call after → IsToBeSent n call → WaitsFrom after n
  to_be_sent s call after n (drawn {ticket = ticket} draws) when_made = (ticket, ap (λ (m : Mail T). m.waiting) draws.is, omega arith)
  to_be_sent s call after n (handed hands) sends = elim sends [ ]
  to_be_sent s call after n (responded lt responds) sends = elim sends [ ]
  to_be_sent s call after n (polled lt polls) sends = elim sends [ ]
  to_be_sent s call after n (seen lt (records at)) sends = elim sends [ ]
  to_be_sent s call after n (seen lt drops) when_dropped = (max (unwrap_or s.waiting n) n, refl, omega arith)

  -- what waits is handed out
  pub hands_newest : (s after : Mail T) (n : ℕ) (found : Option (ℕ × TipUpdate T)) → HandsOut s found after → WaitsFrom s n
      → (m : ℕ) × (update : TipUpdate T) × (found ≡ Some (m, update)) × (n ≤ m)
  hands_newest s after n found (nothing none) (w, e, le) = absurd (none-some w (sym none ∙ e))
  hands_newest s after n found (newest {n = m} {update = u} some at) (w, e, le) =
      let same = same_Some m w (sym some ∙ e) in
      (m, numbered m u.tip, refl, omega arith)

  observes_grows : (s : Mail T) (n : ℕ) (was_recorded : Bool) (after : Mail T) → Observes s n was_recorded after → length s.updates ≤ length after.updates
  observes_grows s n was_recorded after (records at) =
      let long = ap (λ (m : Mail T). length m.updates) at.is ∙ length-set s.updates n (once_recorded at.before) in
      omega arith
  observes_grows s n was_recorded after drops = omega arith

  -- there are no fewer updates behind a call
  grows : (s after : Mail T) (call : Call T) → Steps s call after → length s.updates ≤ length after.updates
  grows s after call (drawn {anchor = anchor} {targets = targets} draws) =
      let long = ap (λ (m : Mail T). length m.updates) draws.is ∙ length_push s.updates (made anchor targets) in
      omega arith
  grows s after call (handed (nothing none)) = omega arith
  grows s after call (handed (newest some at)) = omega arith
  grows s after call (responded {n = n} lt (goes_on at)) =
      let long = ap (λ (m : Mail T). length m.updates) at.is ∙ length-set s.updates n (once_answered at.before) in
      omega arith
  grows s after call (responded lt ends) = omega arith
  grows s after call (seen {n = n} {was_recorded = r} lt observes) = observes_grows s n r after observes
  grows s after call (polled lt polls) = omega arith

  observes_apart : (s : Mail T) (n m : ℕ) (was_recorded : Bool) (after : Mail T) → Observes s m was_recorded after → s.waiting ≢ Some n
      → (◌≡◌ {A = Call T} (observed m was_recorded) (observed n false)) ⊎ (after.waiting ≢ Some n)
  observes_apart s n m was_recorded after (records at) apart = inr (λ e. apart (sym (ap (λ (m : Mail T). m.waiting) at.is) ∙ e))
  observes_apart s n m was_recorded after drops apart = ⊎_elim
      (λ (same : m ≡ n). inl (ap (λ k. observed k false) same))
      (λ (other : m ≢ n). inr (other_newest s.waiting m n apart other))
      (cases_eq m n)

  -- an update that doesn't wait doesn't behind a call either, unless it's dropped by it
  still_apart : (s after : Mail T) (call : Call T) (n : ℕ) → n < length s.updates → Steps s call after → s.waiting ≢ Some n
      → (call ≡ observed n false) ⊎ (after.waiting ≢ Some n)
  still_apart s after call n within (drawn {ticket = ticket} draws) apart =
      inr (λ e. let same = same_Some ticket n (sym (ap (λ (m : Mail T). m.waiting) draws.is) ∙ e) in let number = draws.number in absurd (omega arith))
  still_apart s after call n within (handed (nothing none)) apart = inr apart
  still_apart s after call n within (handed (newest some at)) apart = inr (λ e. absurd (none-some n e))
  still_apart s after call n within (responded {n = m} {answer = answer} lt responds) apart = inr (λ e. apart (sym (responds_waits s after m answer responds) ∙ e))
  still_apart s after call n within (seen {n = m} {was_recorded = r} lt observes) apart = observes_apart s n m r after observes apart
  still_apart s after call n within (polled lt polls) apart = inr apart

  -- where it waits behind some calls and didn't before, one of them drops it
  dropped_between : (calls : List (Call T)) (s last : Mail T) (n : ℕ) → n < length s.updates → Runs s calls last → s.waiting ≢ Some n → last.waiting ≡ Some n
      → Any (λ call. call ≡ observed n false) calls
  dropped_between [] s last n within runs apart waits = absurd (apart (ap (λ (m : Mail T). m.waiting) (sym runs) ∙ waits))
  dropped_between (call ∷ calls) s last n within runs apart waits =
      let more = grows s runs.0 call runs.1 in
      ⊎_elim
      (λ (here : call ≡ observed n false). any_here (λ call. call ≡ observed n false) call calls here)
      (λ (still : runs.0.waiting ≢ Some n). any_there (λ call. call ≡ observed n false) call calls (dropped_between calls runs.0 last n (omega arith) runs.2 still waits))
      (still_apart s runs.0 call n within runs.1 apart)

  -- what a hand-out tells of the state before and behind it
  pub record Handed (s after : Mail T) (n : ℕ) (update : TipUpdate T) : Type 0 where
    pub waited : s.waiting ≡ Some n
    pub of : Update T
    pub at : slice_get s.updates n ≡ Some of
    pub is : update ≡ numbered n of.tip
    pub left : after.waiting ≡ None
    pub same : after.updates ≡ s.updates

  handed_by : (s after : Mail T) (found : Option (ℕ × TipUpdate T)) (n : ℕ) (update : TipUpdate T) → HandsOut s found after → found ≡ Some (n, update) → Handed s after n update
  handed_by s after found n update (nothing none) e = absurd (none-some (n, update) e)
  handed_by s after found n update (newest {n = m} {update = u} some at) e =
      let parts = some_pair_parts m n (numbered m u.tip) update e in
      record {
        waited = some ∙ ap Some parts.0;
        of = u;
        at = ap (slice_get s.updates) (sym parts.0) ∙ at;
        is = sym parts.1 ∙ ap (λ k. numbered k u.tip) parts.0;
        left = refl;
        same = refl;
      }

  handed_step : (s after : Mail T) (found : Option (ℕ × TipUpdate T)) → Steps s (next found) after → HandsOut s found after
  handed_step s after found (handed hands) = hands

  drawn_waits : (s after : Mail T) (anchor : Anchor) (targets : T) (ticket : ℕ) → Steps s (retarget anchor targets ticket) after
      → (after.waiting ≡ Some ticket) × (ticket < length after.updates)
  drawn_waits s after anchor targets ticket (drawn draws) =
      let long = ap (λ (m : Mail T). length m.updates) draws.is ∙ length_push s.updates (made anchor targets) in
      let number = draws.number in
      (ap (λ (m : Mail T). m.waiting) draws.is, omega arith)

  drawn_step : (s after : Mail T) (anchor : Anchor) (targets : T) (ticket : ℕ) → Steps s (retarget anchor targets ticket) after → ticket ≡ length s.updates
  drawn_step s after anchor targets ticket (drawn draws) = draws.number

  polled_step : (past : List (Call T)) (s after : Mail T) (n : ℕ) (answer : _) → Told past s → Steps s (poll n answer) after → Gives past n answer
  polled_step past s after n answer told (polled lt polls) = gives_by past s told n answer polls

  told_first : Told {T = T} [] (record { updates = []; waiting = None; artifact = None })
  told_first = record {
    within = λ n e. absurd (none-some n e);
    tips = refl;
    answers = nothing_marked;
    recordings = nothing_marked;
    artifact = refl;
  }
    where
      nothing_marked : {flag : Update T → Bool} → Marks flag [] []
      nothing_marked = record {
        within = All-nil (λ n. n < 0);
        named = λ n x at. absurd (none-some x at);
        set_to = λ n x at. absurd (none-some x at);
      }

  pub KeepsLaws-new : KeepsLaws {T = T} (record { updates = []; waiting = None; artifact = None })
  KeepsLaws-new calls last runs =
      let first : Mail T = record { updates = []; waiting = None; artifact = None } in
      let told_at : (before : List (Call T)) (mid : Mail T) → Runs first before mid → Told before mid =
      λ before mid r. kept Told told_step before [] first mid r told_first in
      let at : (before behind : List (Call T)) → calls ≡ before ++ behind → (mid : Mail T) × Runs first before mid × Runs mid behind last =
      λ before behind place. run_split before behind first last (subst (λ w. Runs first w last) place runs) in
      record {
        numbers = λ before behind anchor targets ticket place.
            let r = at before (retarget anchor targets ticket ∷ behind) place in
            let told = told_at before r.0 r.1 in
            drawn_step r.0 r.2.0 anchor targets ticket r.2.1 ∙ sym (length-map r.0.updates (λ (u : Update T). u.tip)) ∙ ap length told.tips;
        gives = λ before behind n answer place.
            let r = at before (poll n answer ∷ behind) place in
            polled_step before r.0 r.2.0 n answer (told_at before r.0 r.1) r.2.1;
        same = λ before behind n update place.
            let r = at before (next (Some (n, update)) ∷ behind) place in
            let told = told_at before r.0 r.1 in
            let h = handed_by r.0 r.2.0 (Some (n, update)) n update (handed_step r.0 r.2.0 (Some (n, update)) r.2.1) refl in
            (h.of.tip, ap (λ w. slice_get w n) (sym told.tips) ∙ slice_get-map (λ (u : Update T). u.tip) r.0.updates n ∙ ap (option_map (λ (u : Update T). u.tip)) h.at, h.is);
        sent = λ before between behind call n found place sends untaken.
            let r = at before (call ∷ (between ++ next found ∷ behind)) place in
            let told = told_step before r.0 call r.2.0 r.2.1 (told_at before r.0 r.1) in
            let q = run_split between (next found ∷ behind) r.2.0 last r.2.2 in
            let waits = waits_through between (before ++ call ∷ []) r.2.0 q.0 n told q.1 untaken (to_be_sent r.0 call r.2.0 n r.2.1 sends) in
            hands_newest q.0 q.2.0 n found (handed_step q.0 q.2.0 found q.2.1) waits;
        replaced = λ before between behind anchor targets m n update place older.
            let r = at before (retarget anchor targets m ∷ (between ++ next (Some (n, update)) ∷ behind)) place in
            let newer = drawn_waits r.0 r.2.0 anchor targets m r.2.1 in
            let q = run_split between (next (Some (n, update)) ∷ behind) r.2.0 last r.2.2 in
            let k = handed_by q.0 q.2.0 (Some (n, update)) n update (handed_step q.0 q.2.0 (Some (n, update)) q.2.1) refl in
            let within : n < length r.2.0.updates = omega (arith, newer.1) in
            dropped_between between r.2.0 q.0 n within q.1
            (λ e. let same = same_Some m n (sym newer.0 ∙ e) in absurd (omega arith)) k.waited;
        again = λ before between behind n one two place.
            let r = at before (next (Some (n, one)) ∷ (between ++ next (Some (n, two)) ∷ behind)) place in
            let h = handed_by r.0 r.2.0 (Some (n, one)) n one (handed_step r.0 r.2.0 (Some (n, one)) r.2.1) refl in
            let q = run_split between (next (Some (n, two)) ∷ behind) r.2.0 last r.2.2 in
            let k = handed_by q.0 q.2.0 (Some (n, two)) n two (handed_step q.0 q.2.0 (Some (n, two)) q.2.1) refl in
            dropped_between between r.2.0 q.0 n (rw h.same (slice_get_within r.0.updates n h.of h.at)) q.1
            (λ e. absurd (none-some n (sym h.left ∙ e))) k.waited;
      }
