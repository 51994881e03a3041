-- What a mailbox's state tells of the calls before.
use Rattle.std.proofs.Common.{◌≡◌, ℕ, ◌<◌, zero, suc, max, Bool, true, false, ◌&&◌, Option, Some, None, List, [], ◌∷◌, ◌++◌, length, map, set, refl, sym, ap, subst, ◌∙◌, arith, append_assoc, length-set}
use Rattle.std.specs.Prelude.{slice_get, unwrap_or}
use Rattle.std.specs.Option.{option_map}
use Rattle.std.specs.List.{flat_map}
use Rattle.std.proofs.lemmas.Bool.{and_parts}
use Rattle.std.proofs.lemmas.List.{append-nil, map_push, map-set, length_push}
use Rattle.std.proofs.lemmas.List.Concat.{flat_map-append}
use Rattle.std.proofs.lemmas.Option.{none-some, same_Some, slice_get-map}
use Rattle.stateful_base.specs.declared.anchor.Anchor.{Anchor}
use Rattle.stateful_base.specs.declared.outcome.Moved.{Moved}
use Rattle.stateful_sync.specs.Mailbox.{Mail, WaitsWithin, made, once_answered, once_recorded, Draws, HandsOut, nothing, newest, Responds, goes_on, ends, Observes, records, drops, Polls, recorded, ended, waits, Call, retarget, next, respond, observed, poll, Steps, drawn, handed, responded, seen, polled}
use Rattle.stateful_sync.specs.MailboxLaws as laws
use Rattle.stateful_sync.specs.MailboxLaws.{Runs, IsRecorded, Gives}
use Rattle.stateful_sync.specs.declared.mailbox.Update.{Update}
use Rattle.stateful_sync.proofs.Marks.{Marks, marks_more, marks_kept, marks_named, first_pushed, none_first}

both_not : (a b : Bool) → a ≡ true → b ≡ true → (a && b) ≡ false → ⊥
both_not true true e f g = cc
both_not true false e f g = cc
both_not false b e f g = cc

-- a list with what stands at a place put there
set_itself : {X : Type 0} (xs : List X) (n : ℕ) (x : X) → slice_get xs n ≡ Some x → set xs n x ≡ xs
set_itself [] n x at = refl
set_itself (y ∷ xs) zero x at = ap (λ z. z ∷ xs) (sym (same_Some y x at))
set_itself (y ∷ xs) (suc n) x at = ap (λ z. y ∷ z) (set_itself xs n x at)

newest_within : (o : Option ℕ) (n bound : ℕ) → ((m : ℕ) → o ≡ Some m → m < bound) → n < bound → max (unwrap_or o n) n < bound
newest_within None n bound within lt = omega arith
newest_within (Some m) n bound within lt = let w = within m refl in omega arith

module _ {T : Type 0} where
  -- calls in two parts
  pub run_split : (calls more : List (Call T)) (s last : Mail T) → Runs s (calls ++ more) last
      → (mid : Mail T) × Runs s calls mid × Runs mid more last
  run_split [] more s last runs = (s, refl, runs)
  run_split (call ∷ calls) more s last runs =
      let rest = run_split calls more runs.0 last runs.2 in
      (rest.0, (runs.0, runs.1, rest.1), rest.2)

  -- what each call keeps is kept, also where it speaks of the calls before
  pub kept : (I : List (Call T) → Mail T → Type 0)
      → ((past : List (Call T)) (s : Mail T) (call : Call T) (after : Mail T) → Steps s call after → I past s → I (past ++ call ∷ []) after)
      → (calls past : List (Call T)) (s last : Mail T) → Runs s calls last → I past s → I (past ++ calls) last
  kept I step [] past s last runs here = subst (λ w. I w last) (sym (append-nil past)) (subst (I past) (sym runs) here)
  kept I step (call ∷ calls) past s last runs here =
      subst (λ w. I w last) (append_assoc past (call ∷ []) calls)
      (kept I step calls (past ++ call ∷ []) runs.0 last runs.2 (step past s call runs.0 runs.1 here))

  -- what one call more names
  pub pushed : {A : Type 0} (f : Call T → List A) (past : List (Call T)) (call : Call T) → flat_map f (past ++ call ∷ []) ≡ flat_map f past ++ f call
  pushed f past call = flat_map-append f past (call ∷ []) ∙ ap (λ w. flat_map f past ++ w) (append-nil (f call))

  pub record Told (past : List (Call T)) (s : Mail T) : Type 0 where
    pub within : WaitsWithin s
    pub tips : map (λ u. u.tip) s.updates ≡ flat_map laws.drawn past
    pub answers : Marks (λ u. u.answered) s.updates (flat_map laws.answered past)
    pub recordings : Marks (λ u. u.recorded) s.updates (flat_map laws.recorded past)
    pub artifact : s.artifact ≡ slice_get (flat_map laws.converged past) 0

  module _ (past : List (Call T)) (s : Mail T) (told : Told past s) where
    -- the same of one call more, from what it names
    told_by : (call : Call T) (after : Mail T) → WaitsWithin after
        → map (λ u. u.tip) after.updates ≡ flat_map laws.drawn past ++ laws.drawn call
        → Marks (λ u. u.answered) after.updates (flat_map laws.answered past ++ laws.answered call)
        → Marks (λ u. u.recorded) after.updates (flat_map laws.recorded past ++ laws.recorded call)
        → after.artifact ≡ slice_get (flat_map laws.converged past ++ laws.converged call) 0
        → Told (past ++ call ∷ []) after
    told_by call after within tips answers recordings artifact = record {
      within = within;
      tips = tips ∙ sym (pushed laws.drawn past call);
      answers = rw pushed answers;
      recordings = rw pushed recordings;
      artifact = rw pushed artifact;
    }

    same_tips : map (λ u. u.tip) s.updates ≡ flat_map laws.drawn past ++ []
    same_tips = told.tips ∙ sym (append-nil (flat_map laws.drawn past))

    same_answers : Marks (λ u. u.answered) s.updates (flat_map laws.answered past ++ [])
    same_answers = rw append-nil told.answers

    same_recordings : Marks (λ u. u.recorded) s.updates (flat_map laws.recorded past ++ [])
    same_recordings = rw append-nil told.recordings

    same_artifact : s.artifact ≡ slice_get (flat_map laws.converged past ++ []) 0
    same_artifact = rw append-nil told.artifact

    told_drawn : (anchor : Anchor) (targets : T) (ticket : ℕ) (after : Mail T) → Draws s anchor targets ticket after → Told (past ++ retarget anchor targets ticket ∷ []) after
    told_drawn anchor targets ticket after draws =
        let u = made anchor targets in
        subst (Told (past ++ retarget anchor targets ticket ∷ [])) (sym draws.is)
        (told_by (retarget anchor targets ticket) (record s { updates = s.updates ++ u ∷ []; waiting = Some ticket })
        (λ n e. let same = same_Some ticket n e in let long = length_push s.updates u in let number = draws.number in omega arith)
        (map_push (λ (u : Update T). u.tip) s.updates u ∙ ap (λ w. w ++ u.tip ∷ []) told.tips)
        (rw append-nil (marks_more (λ u. u.answered) s.updates (flat_map laws.answered past) u refl told.answers))
        (rw append-nil (marks_more (λ u. u.recorded) s.updates (flat_map laws.recorded past) u refl told.recordings))
        same_artifact)

    told_handed : (found : _) (after : Mail T) → HandsOut s found after → Told (past ++ next found ∷ []) after
    told_handed found after (nothing none) = told_by (next found) s told.within same_tips same_answers same_recordings same_artifact
    told_handed found after (newest {n = n} {update = update} some at) =
        told_by (next found) (record s { waiting = None }) (λ n e. absurd (none-some n e)) same_tips same_answers same_recordings same_artifact

    -- an update changes and keeps its tip
    tips_kept : (n : ℕ) (a b : Update T) → slice_get s.updates n ≡ Some b → a.tip ≡ b.tip → map (λ u. u.tip) (set s.updates n a) ≡ flat_map laws.drawn past ++ []
    tips_kept n a b was same =
        map-set (λ (u : Update T). u.tip) s.updates n a
        ∙ set_itself (map (λ u. u.tip) s.updates) n a.tip (slice_get-map (λ (u : Update T). u.tip) s.updates n ∙ ap (option_map (λ (u : Update T). u.tip)) was ∙ ap Some (sym same))
        ∙ same_tips

    told_responded : (n : ℕ) (answer : Option Anchor) (after : Mail T) → n < length s.updates → Responds s n answer after → Told (past ++ respond n answer ∷ []) after
    told_responded n answer after lt (goes_on at) =
        let a = once_answered at.before in
        subst (Told (past ++ respond n None ∷ [])) (sym at.is)
        (told_by (respond n None) (record s { updates = set s.updates n a }) (λ m e. rw length-set (told.within m e))
        (tips_kept n a at.before at.was refl)
        (marks_named (λ u. u.answered) s.updates (flat_map laws.answered past) n a at.before at.was told.answers refl)
        (rw append-nil (marks_kept (λ u. u.recorded) s.updates (flat_map laws.recorded past) n a at.before at.was told.recordings refl))
        same_artifact)
    told_responded n answer after lt (ends {anchor = anchor}) =
        told_by (respond n (Some anchor)) (record s { artifact = Some (unwrap_or s.artifact anchor) }) told.within same_tips same_answers same_recordings
        (ap (λ o. Some (unwrap_or o anchor)) told.artifact ∙ sym (first_pushed (flat_map laws.converged past) anchor))

    told_seen : (n : ℕ) (was_recorded : Bool) (after : Mail T) → n < length s.updates → Observes s n was_recorded after → Told (past ++ observed n was_recorded ∷ []) after
    told_seen n was_recorded after lt (records at) =
        let a = once_recorded at.before in
        subst (Told (past ++ observed n true ∷ [])) (sym at.is)
        (told_by (observed n true) (record s { updates = set s.updates n a }) (λ m e. rw length-set (told.within m e))
        (tips_kept n a at.before at.was refl)
        (rw append-nil (marks_kept (λ u. u.answered) s.updates (flat_map laws.answered past) n a at.before at.was told.answers refl))
        (marks_named (λ u. u.recorded) s.updates (flat_map laws.recorded past) n a at.before at.was told.recordings refl)
        same_artifact)
    told_seen n was_recorded after lt drops =
        told_by (observed n false) (record s { waiting = Some (max (unwrap_or s.waiting n) n) })
        (λ m e. subst (λ k. k < length s.updates) (same_Some (max (unwrap_or s.waiting n) n) m e) (newest_within s.waiting n (length s.updates) told.within lt))
        same_tips same_answers same_recordings same_artifact

    told_polled : (n : ℕ) (answer : Moved (Option Anchor)) → Told (past ++ poll n answer ∷ []) s
    told_polled n answer = told_by (poll n answer) s told.within same_tips same_answers same_recordings same_artifact

    unsettled_by : (n : ℕ) (u : Update T) → slice_get s.updates n ≡ Some u → (u.answered && u.recorded) ≡ false → IsRecorded past n → ⊥
    unsettled_by n u at unsettled is =
        both_not u.answered u.recorded (told.answers.set_to n u at is.was_answered) (told.recordings.set_to n u at is.was_recorded) unsettled

    -- what a ticket gives is what was said of its update
    pub gives_by : (n : ℕ) (answer : Moved (Option Anchor)) → Polls s n answer → Gives past n answer
    gives_by n answer (recorded {update = u} at settled) =
        let both = and_parts u.answered u.recorded settled in
        laws.none (record { was_answered = told.answers.named n u at both.0; was_recorded = told.recordings.named n u at both.1 })
    gives_by n answer (ended {update = u} at unsettled is) = laws.artifact (unsettled_by n u at unsettled) (sym told.artifact ∙ is)
    gives_by n answer (waits {update = u} at unsettled is) = laws.pending (unsettled_by n u at unsettled) (none_first (flat_map laws.converged past) (sym told.artifact ∙ is))

  pub told_step : (past : List (Call T)) (s : Mail T) (call : Call T) (after : Mail T) → Steps s call after → Told past s → Told (past ++ call ∷ []) after
  told_step past s call after (drawn {anchor = anchor} {targets = targets} {ticket = ticket} draws) told = told_drawn past s told anchor targets ticket after draws
  told_step past s call after (handed {found = found} hands) told = told_handed past s told found after hands
  told_step past s call after (responded {n = n} {answer = answer} lt responds) told = told_responded past s told n answer after lt responds
  told_step past s call after (seen {n = n} {was_recorded = was_recorded} lt observes) told = told_seen past s told n was_recorded after lt observes
  told_step past s call after (polled {n = n} {answer = answer} lt polls) told = told_polled past s told n answer
