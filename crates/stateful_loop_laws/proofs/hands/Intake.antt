-- After each event that is taken in, but a restart, all that is live is in hand.
use Rattle.std.proofs.Common.{◌≡◌, ◌≢◌, ◌<◌, ◌+◌, ◌==◌, ◌++◌, ◌⊎◌, inl, inr, not, ℕ, Bool, true, false, cond, List, [], ◌∷◌, map, filter, Option, Some, None, IsSome, MatchOption, Result, Ok, Err, refl, sym, ap, ◌∙◌, subst, arith, ⊎_elim}
use Rattle.std.proofs.lemmas.Bool.{eqb-true, eq-eqb}
use Rattle.std.proofs.lemmas.List.{append-nil}
use Rattle.std.proofs.lemmas.List.Elements.{All-filter}
use Rattle.stateful_base.specs.Names.{Named}
use Rattle.stateful_base.specs.declared.outcome.Handoff.{Handoff}
use Rattle.stateful_base.specs.declared.outcome.Handoff.TheVariants.{Wait, Vote, Stage}
use Rattle.stateful_base.specs.declared.outcome.Moved.{Moved}
use Rattle.stateful_base.specs.declared.outcome.Moved.TheVariants.{Pending, Done}
use Rattle.stateful_db.specs.declared.application.AppFault.{AppFault}
use Rattle.stateful_db.specs.declared.application.ProposedBlock.{ProposedBlock}
use Rattle.stateful_history.specs.Live.{live_ticket}
use Rattle.stateful_history.specs.Past.{Past, Came, after}
use Rattle.stateful_history.specs.Stops.{IsRestart}
use Rattle.stateful_history.specs.declared.event.Event.{Event}
use Rattle.stateful_history.specs.declared.event.Event.TheVariants as event
use Rattle.stateful_history.specs.declared.mark.Decision.{Decision}
use Rattle.stateful_history.specs.declared.mark.How.TheVariants.{Nothing}
use Rattle.stateful_history.specs.declared.mark.Mark.{Mark}
use Rattle.stateful_history.specs.declared.mark.Mark.TheVariants as mark
use Rattle.stateful_history.specs.declared.ticket.Ticket.{Ticket}
use Rattle.stateful_history.specs.declared.ticket.Ticket.TheVariants as ticket
use Rattle.stateful_table.specs.Table.{at}
use Rattle.stateful_table.proofs.Tables.{at-without}
use Rattle.stateful_exec_model.specs.Built.{decided, TurnsBuild, other, goes_on, ends, EndsBuild, Gives, GivesUp, building, asking}
use Rattle.stateful_exec_model.specs.Fetching.{IsFetched}
use Rattle.stateful_exec_tables.specs.Cancelling.{Cancels}
use Rattle.stateful_exec_tables.specs.Cancelling.{idle, withdraws, leaves, ends as ends_run, unqueued}
use Rattle.stateful_exec_model.specs.Finalizing.{SettlesHook, TurnsHook, hook_turned, unhooked, SettlesFinal, turned, not_live, candidate, finalized}
use Rattle.stateful_exec_model.specs.Finalizing.{Completes}
use Rattle.stateful_exec_model.specs.Moments as exec
use Rattle.stateful_db.specs.declared.barrier.Flushed.{Flushed}
use Rattle.stateful_exec_model.specs.Workings.{Workings}
use Rattle.stateful_exec_model.specs.declared.building.Building.{Building}
use Rattle.stateful_exec_model.specs.declared.front.Front.{Front}
use Rattle.stateful_exec_tables.specs.declared.state.Tables.{Tables}
use Rattle.stateful_loop_model.specs.Intake as intake
use Rattle.stateful_loop_model.specs.Intake.{Counts, Flushes, TurnsJob, TakesIn, message_by}
use Rattle.stateful_loop_model.specs.Message.{asks_of, asks_for}
use Rattle.stateful_loop_model.specs.Moments.{Moment, inner, with_inner, with_loop}
use Rattle.stateful_loop_model.specs.declared.message.Action.{Action}
use Rattle.stateful_loop_model.specs.declared.message.Action.TheVariants as action
use Rattle.stateful_loop_model.specs.declared.message.Message.{Message}
use Rattle.stateful_loop_model.specs.declared.message.Message.TheVariants as message
use Rattle.stateful_exec_walk.specs.declared.request.Request.TheVariants as request
use Rattle.stateful_loop_laws.specs.InHand.{IsPutOff, IsFound, requested, recovered, built, waiting as found_waiting, waiting_in, AllInHand, InHandBehind}
use Rattle.stateful_loop_laws.specs.Tickets.{ticket_in, ticket_under}
use Rattle.stateful_loop_laws.proofs.hands.HandKept.{IsTabled, HandsOn, live_before, unless_ended, hands_fetched, hands_steps}
use Rattle.stateful_loop_laws.proofs.hands.Rules.{IsInHandBut, but_none, waiting_parts, tabled_found, behind_by, in_hand-still}
use Rattle.stateful_loop_laws.proofs.tickets.Cancelled.{cancel_recovered}
use Rattle.stateful_loop_laws.proofs.tickets.Times.{times}
use Rattle.stateful_loop_laws.proofs.tickets.Waiting.{times-pushed}

module _ {B C I P R D H G U : Type 0} (w : Workings B C I P R D H G U) (q : Past B C I) (m : Moment w) (h : AllInHand w q m) where
  -- what stood in the tables does, and the build of this moment is another
  still : (now : Moment w) (more : List (Mark B)) → now.marks ≡ m.marks ++ more → now.execution.state ≡ m.execution.state
      → now.execution.build ≡ m.execution.build → now.loop ≡ m.loop → InHandBehind w q m now
  still now more is state build loop = in_hand-still w q m now more is h (ap (λ (v : Tables B C I R U). v.requests) state)
      (ap (λ (v : Tables B C I R U). v.recovered) state) build (ap (λ l. waiting_in l) loop) (rw loop h.put_off) (rw loop h.above)
      (rw loop h.finalizing)

  -- what is served of the tables
  handed : (then : exec.Moment w) (front : Option (Front B R U H)) → HandsOn w [] (inner w m) then
      → InHandBehind w q m (record (with_inner w m then) { execution = record m.execution { state = then.state; front = front } })
  handed then front on = behind_by w q m now on.more [] on.marks_are (but_none w q m h)
      (λ t live had. tabled_found w q now t (on.kept q t live had)) (λ t live own. built own)
      (λ t live some. found_waiting some) h.put_off h.above h.finalizing
    where
      now : Moment w
      now = record (with_inner w m then) { execution = record m.execution { state = then.state; front = front } }

  module _ (b : Building B C D) (live_is : m.execution.build ≡ Some b) where
    own_build : (t : ℕ) → MatchOption m.execution.build ⊥ (λ b. b.ticket ≡ t) → b.ticket ≡ t
    own_build t own = subst (λ (o : Option (Building B C D)). MatchOption o ⊥ (λ b. b.ticket ≡ t)) live_is own

    -- a build ends with an answer to its own request
    ended_by : (then : exec.Moment w) (more : List (Mark B)) → then.marks ≡ m.marks ++ more → then.state.requests ≡ m.execution.state.requests
        → then.state.recovered ≡ m.execution.state.recovered → live_ticket b.ticket (after q more) ≡ None
        → InHandBehind w q m (record (with_inner w m then) { execution = record m.execution { state = then.state; build = None } })
    ended_by then more is requests handed_out gone = behind_by w q m now more [] is (but_none w q m h) (λ t live had. tables t had)
        (λ t live own. absurd (live (subst (λ x. live_ticket x (after q more) ≡ None) (own_build t own) gone)))
        (λ t live some. found_waiting some) h.put_off h.above h.finalizing
      where
        now : Moment w
        now = record (with_inner w m then) { execution = record m.execution { state = then.state; build = None } }

        tables : (t : ℕ) → IsTabled t m.execution.state ⊎ (0 < times t []) → IsFound w now t
        tables t (inl (inl some)) = requested (rw requests some)
        tables t (inl (inr some)) = recovered (rw handed_out some)
        tables t (inr none) = absurd (omega (arith, none))

    answered : (turned_to : D) (then : exec.Moment w) (x : ProposedBlock B U) (handed_over : Decision)
        → Gives w (record b { build = turned_to }) (inner w m) x handed_over then
        → InHandBehind w q m (record (with_inner w m then) { execution = record m.execution { state = then.state; build = None } })
    answered turned_to then x handed_over g = ended_by then
        (mark.Built b.job b.ticket g.block ∷ mark.Answered b.ticket (decided b.kind handed_over) g.block ∷ [])
        (ap (λ (n : exec.Moment w). n.marks) g.becomes) (ap (λ (n : exec.Moment w). n.state.requests) g.becomes)
        (ap (λ (n : exec.Moment w). n.state.recovered) g.becomes) (rw (eq-eqb b.ticket b.ticket refl) refl)

    ended : (turned_to : D) (given : Handoff (ProposedBlock B U)) (then : exec.Moment w)
        → EndsBuild w (record b { build = turned_to }) (inner w m) given then
        → InHandBehind w q m (record (with_inner w m then) { execution = record m.execution { state = then.state; build = None } })
    ended turned_to Wait then is = ended_by then (mark.Ended b.job Nothing ∷ mark.Declined b.ticket ∷ [])
        (ap (λ (n : exec.Moment w). n.marks) is) (ap (λ (n : exec.Moment w). n.state.requests) is) (ap (λ (n : exec.Moment w). n.state.recovered) is)
        (rw (eq-eqb b.ticket b.ticket refl) refl)
    ended turned_to (Vote x) then is = answered turned_to then x _ is
    ended turned_to (Stage x) then is = answered turned_to then x _ is

    -- or it goes on
    goes_on_so : (now : Moment w) (c : Building B C D) → now ≡ record m { execution = record m.execution { build = Some c } } → c.ticket ≡ b.ticket
        → InHandBehind w q m now
    goes_on_so now c is same = subst (λ (n : Moment w). InHandBehind w q m n) (sym is)
        (behind_by w q m then [] [] (sym (append-nil m.marks)) (but_none w q m h) (λ t live had. tables t had)
        (λ t live own. built (same ∙ own_build t own)) (λ t live some. found_waiting some) h.put_off h.above h.finalizing)
      where
        then : Moment w
        then = record m { execution = record m.execution { build = Some c } }

        tables : (t : ℕ) → IsTabled t m.execution.state ⊎ (0 < times t []) → IsFound w then t
        tables t (inl (inl some)) = requested some
        tables t (inl (inr some)) = recovered some
        tables t (inr none) = absurd (omega (arith, none))

  turned_build : (count : D → ℕ) (j : ℕ) (then : exec.Moment w) (after_build : Option (Building B C D))
      → TurnsBuild w count (inner w m) m.execution.build j then after_build
      → InHandBehind w q m (record (with_inner w m then) { execution = record m.execution { state = then.state; build = after_build } })
  turned_build count j then after_build (other none_live same stays) =
      still (record (with_inner w m then) { execution = record m.execution { state = then.state; build = after_build } }) []
      (ap (λ (n : exec.Moment w). n.marks) same ∙ sym (append-nil m.marks)) (ap (λ (n : exec.Moment w). n.state) same) stays refl
  turned_build count j then after_build (goes_on {b = b} {turned = turned_to} live had same becomes) =
      goes_on_so b live.live _ (record b { build = turned_to }) (rw (same, becomes) refl) refl
  turned_build count j then after_build (ends {b = b} {turned = turned_to} {given = given} live had is gone) =
      subst (λ (o : Option (Building B C D)). InHandBehind w q m
      (record (with_inner w m then) { execution = record m.execution { state = then.state; build = o } })) (sym gone)
      (ended b live.live turned_to given then is)

  abbrev hooked_at : List (Mark B) → Option (Front B R U H) → Moment w
  hooked_at marks front = record m { execution = record m.execution { front = front }; marks = marks }

  settled_hook : (j : ℕ) (b : Named B) (now : H) (answer : Result (Moved Unit) AppFault) (marks : List (Mark B)) (front : Option (Front B R U H))
      → SettlesHook w j b now answer m.marks marks front → InHandBehind w q m (hooked_at marks front)
  settled_hook j b now (Ok Pending) marks front on = still (hooked_at marks front) [] (on.0 ∙ sym (append-nil m.marks)) refl refl refl
  settled_hook j b now (Ok (Done over)) marks front on = still (hooked_at marks front) _ on.0 refl refl refl
  settled_hook j b now (Err fault) marks front on = absurd on

  turned_hook : (count : H → ℕ) (j : ℕ) (marks : List (Mark B)) (front : Option (Front B R U H))
      → TurnsHook w count m.members m.execution.front j m.marks marks front → InHandBehind w q m (hooked_at marks front)
  turned_hook count j marks front (hook_turned {b = b} {hook = was} {now = now} {answer = answer} live had settles) =
      settled_hook j b now answer marks front settles
  turned_hook count j marks front (unhooked dead same is) = still (hooked_at marks front) [] (same ∙ sym (append-nil m.marks)) refl refl refl

  abbrev run_at : exec.Moment w → Option (Front B R U H) → Moment w
  run_at then front = record (with_inner w m then) { execution = record m.execution { state = then.state; front = front } }

  settled_run : (j : ℕ) (b : Named B) (now : R) (answer : Result (Moved (Option U)) AppFault) (then : exec.Moment w)
      (front : Option (Front B R U H)) → then ≡ record (inner w m) { marks = then.marks }
      → SettlesFinal w j b now answer m.marks then.marks front → InHandBehind w q m (run_at then front)
  settled_run j b now (Ok Pending) then front is on =
      still (run_at then front) [] (on.0 ∙ sym (append-nil m.marks)) (ap (λ (n : exec.Moment w). n.state) is) refl refl
  settled_run j b now (Ok (Done over)) then front is on = still (run_at then front) _ on.2 (ap (λ (n : exec.Moment w). n.state) is) refl refl
  settled_run j b now (Err fault) then front is on = absurd on

  turned_run : (count : R → ℕ) (j : ℕ) (then : exec.Moment w) (front : Option (Front B R U H))
      → Completes w count (inner w m) m.execution.front j then front → InHandBehind w q m (run_at then front)
  turned_run count j then front (candidate steps is) = handed then front (hands_steps w count (inner w m) then j steps)
  turned_run count j then front (finalized absent (turned {b = b} {run = was} {turned = now} {answer = answer} live had settles) is) =
      settled_run j b now answer then front is settles
  turned_run count j then front (finalized absent (not_live dead same gone) is) =
      still (run_at then front) [] (same ∙ sym (append-nil m.marks)) (ap (λ (n : exec.Moment w). n.state) is) refl refl

  -- a job has a turn
  pub in_hand-turns : (counts : Counts R D H) (j : ℕ) (now : Moment w) → TurnsJob w counts j m now → InHandBehind w q m now
  in_hand-turns counts j now (intake.build {then = then} {after = after_build} live t is) = subst (λ (n : Moment w). InHandBehind w q m n)
      (sym is) (turned_build counts.build j then after_build t)
  in_hand-turns counts j now (intake.hook {marks = marks} {after = front} dead live on is) = subst (λ (n : Moment w). InHandBehind w q m n)
      (sym is) (turned_hook counts.hook j marks front on)
  in_hand-turns counts j now (intake.run {then = then} {after = front} unbuilt dead c is) = subst (λ (n : Moment w). InHandBehind w q m n)
      (sym is) (turned_run counts.run j then front c)

  -- a fetch is answered
  pub in_hand-fetched : (stored_now : ℕ → Option (Named B)) (f : ℕ) (answer : Option (Named B)) (then : exec.Moment w)
      → IsFetched w stored_now (inner w m) f answer then → InHandBehind w q m (with_inner w m then)
  in_hand-fetched stored_now f answer then is = handed then m.execution.front (hands_fetched w stored_now (inner w m) then f answer is)

  -- a database has answered
  pub in_hand-flushes : (k i : ℕ) (answer : Flushed) (now : Moment w) → Flushes w k i answer m now → InHandBehind w q m now
  in_hand-flushes k i answer now r = subst (λ (n : Moment w). InHandBehind w q m n) (sym r.becomes)
      (in_hand-still w q m _ [] (sym (append-nil m.marks)) h refl refl refl refl h.put_off h.above h.finalizing)

  -- the machine is to stop
  pub in_hand-stops : (now : Moment w) → now ≡ with_loop w m (record m.loop { up = false }) → InHandBehind w q m now
  in_hand-stops now is = subst (λ (n : Moment w). InHandBehind w q m n) (sym is)
      (in_hand-still w q m _ [] (sym (append-nil m.marks)) h refl refl refl refl h.put_off h.above h.finalizing)

  -- nothing happens
  pub in_hand-same : (now : Moment w) → now ≡ m → InHandBehind w q m now
  in_hand-same now is = subst (λ (n : Moment w). InHandBehind w q m n) (sym is) (still m [] (sym (append-nil m.marks)) refl refl refl)

-- numbers that are no equal ones
unequal : (a b : ℕ) → (a ≡ b → ⊥) → (a == b) ≡ false
unequal a b off = by (a == b) refl
  where
    by : (c : Bool) → (a == b) ≡ c → (a == b) ≡ false
    by true is = absurd (off (eqb-true a b is))
    by false is = is

some_same : {X : Type 0} (x y : X) → Some x ≡ Some y → x ≡ y
some_same x y is = cc

-- a ticket is new, or was live before
new_or : (t u : ℕ) (o : Option Ticket) (k : Ticket) → cond (u == t) (Some k) o ≢ None → (o ≢ None) ⊎ (0 < times u (t ∷ []))
new_or t u o k live = by (u == t) refl live
  where
    by : (b : Bool) → (u == t) ≡ b → cond b (Some k) o ≢ None → (o ≢ None) ⊎ (0 < times u (t ∷ []))
    by true is new = inr (let same : (t == u) ≡ true = eq-eqb t u (sym (eqb-true u t is)) in rw same (omega arith))
    by false is old = inl old

module _ {X : Type 0} (f : X → ℕ) (keep : X → Bool) (t : ℕ) (own : (x : X) → keep x ≡ false → f x ≡ t) where
  -- where those of a ticket are left out, all others stay
  times_spared : (u : ℕ) → u ≢ t → (xs : List X) → times u (map f (filter keep xs)) ≡ times u (map f xs)
  times_spared u off [] = refl
  times_spared u off (x ∷ xs) = by (keep x) refl (times_spared u off xs)
    where
      by : (b : Bool) → keep x ≡ b → times u (map f (filter keep xs)) ≡ times u (map f xs)
          → times u (map f (filter keep (x ∷ xs))) ≡ times u (map f (x ∷ xs))
      by true is rest = rw is (ap (λ n. cond (f x == u) 1 0 + n) rest)
      by false is rest =
          let other : (f x == u) ≡ false = unequal (f x) u (λ same. off (sym same ∙ own x is)) in
          rw (is, other) (omega (arith, rest))

times_numbers : (u : ℕ) (us : List ℕ) → times u (map (λ x. x) us) ≡ times u us
times_numbers u [] = refl
times_numbers u (x ∷ us) = ap (λ n. cond (x == u) 1 0 + n) (times_numbers u us)

not_false : (b : Bool) → not b ≡ false → b ≡ true
not_false true is = refl
not_false false is = cc

module _ {B C I R U : Type 0} (old new : Tables B C I R U) (t : ℕ) (marks : List (Mark B)) where
  -- a cancel leaves other requests where they are
  cancel_requests : Cancels old new t marks → (u : ℕ) → u ≢ t → IsSome (at old.requests u) → IsSome (at new.requests u)
  cancel_requests (idle r there is new_is marks_is) u off some =
      let other : (t == u) ≡ false = unequal t u (λ same. off (sym same)) in rw (new_is, at-without old.requests t u, other) some
  cancel_requests (withdraws r f fetches new_is marks_is) u off some =
      let other : (t == u) ≡ false = unequal t u (λ same. off (sym same)) in rw (new_is, at-without old.requests t u, other) some
  cancel_requests (leaves r j path there executing others new_is marks_is) u off some =
      let other : (t == u) ≡ false = unequal t u (λ same. off (sym same)) in rw (new_is, at-without old.requests t u, other) some
  cancel_requests (ends_run r j path there executing last new_is marks_is) u off some =
      let other : (t == u) ≡ false = unequal t u (λ same. off (sym same)) in rw (new_is, at-without old.requests t u, other) some
  cancel_requests (unqueued gone new_is marks_is) u off some =
      let other : (t == u) ≡ false = unequal t u (λ same. off (sym same)) in rw (new_is, at-without old.requests t u, other) some

  -- and other recovered proposals
  cancel_handed : Cancels old new t marks → (u : ℕ) → u ≢ t → 0 < times u old.recovered → 0 < times u new.recovered
  cancel_handed c u off some = by (cancel_recovered old new t marks c)
    where
      by : (new.recovered ≡ old.recovered) ⊎ (new.recovered ≡ filter (λ u. not (u == t)) old.recovered) → 0 < times u new.recovered
      by (inl is) = rw is some
      by (inr is) =
          let a = times_spared (λ (x : ℕ). x) (λ x. not (x == t)) t (λ x no. eqb-true x t (not_false (x == t) no)) u off old.recovered in
          let b = times_numbers u old.recovered in
          let c = times_numbers u (filter (λ x. not (x == t)) old.recovered) in
          rw is (omega (arith, a, b, c, some))

module _ {B C I P R D H G U : Type 0} (w : Workings B C I P R D H G U) (p : Past B C I) (m : Moment w) (h : AllInHand w p m) where
  entered : (e : Event B C I) (x : Message B C I) → message_by e ≡ Some x → (u : ℕ) → live_ticket u (Came e ∷ p) ≢ None
      → (live_ticket u p ≢ None) ⊎ (0 < times u (ticket_in x ∷ []))
  entered (event.Verify t ancestry) x is u live = subst (λ (y : Message B C I). (live_ticket u p ≢ None) ⊎ (0 < times u (ticket_in y ∷ [])))
      (some_same _ x is) (new_or t u (live_ticket u p) ticket.Request live)
  entered (event.Prepare t context ancestry input) x is u live =
      subst (λ (y : Message B C I). (live_ticket u p ≢ None) ⊎ (0 < times u (ticket_in y ∷ [])))
      (some_same _ x is) (new_or t u (live_ticket u p) ticket.Request live)
  entered (event.Propose t context ancestry input) x is u live =
      subst (λ (y : Message B C I). (live_ticket u p ≢ None) ⊎ (0 < times u (ticket_in y ∷ [])))
      (some_same _ x is) (new_or t u (live_ticket u p) ticket.Request live)
  entered (event.Finalized t b) x is u live = subst (λ (y : Message B C I). (live_ticket u p ≢ None) ⊎ (0 < times u (ticket_in y ∷ [])))
      (some_same _ x is) (new_or t u (live_ticket u p) ticket.Receipt live)
  entered (event.Subscribe t) x is u live = subst (λ (y : Message B C I). (live_ticket u p ≢ None) ⊎ (0 < times u (ticket_in y ∷ [])))
      (some_same _ x is) (new_or t u (live_ticket u p) ticket.Request live)
  entered e x is u live = let no : None ≡ Some x = is in absurd (cc)

  -- a request or a finalization enters the mailbox
  in_hand-enters : (e : Event B C I) (x : Message B C I) (now : Moment w) → message_by e ≡ Some x
      → now ≡ with_loop w m (record m.loop { queue = m.loop.queue ++ x ∷ [] }) → InHandBehind w (Came e ∷ p) m now
  in_hand-enters e x now is become = subst (λ (n : Moment w). InHandBehind w (Came e ∷ p) m n) (sym become)
      (behind_by w (Came e ∷ p) m then [] (ticket_in x ∷ []) (sym (append-nil m.marks)) but (λ u live had. tables u had) (λ u live own. built own)
      (λ u live some. waits u some) h.put_off h.above h.finalizing)
    where
      then : Moment w
      then = with_loop w m (record m.loop { queue = m.loop.queue ++ x ∷ [] })

      but : IsInHandBut w (Came e ∷ p) (ticket_in x ∷ []) m
      but = record {
        hand = λ u live. ⊎_elim (λ before. inl (h.hand u before)) (λ own. inr own) (entered e x is u live);
        put_off = h.put_off;
        above = h.above;
        finalizing = h.finalizing;
      }

      waits : (u : ℕ) → 0 < times u (waiting_in m.loop) → IsFound w then u
      waits u some =
          let before = waiting_parts w p u m.loop in
          let behind = waiting_parts w p u then.loop in
          let pushed = times-pushed ticket_in u m.loop.queue x in
          found_waiting (omega (arith, before, behind, pushed, some))

      tables : (u : ℕ) → IsTabled u m.execution.state ⊎ (0 < times u (ticket_in x ∷ [])) → IsFound w then u
      tables u (inl (inl some)) = requested some
      tables u (inl (inr some)) = recovered some
      tables u (inr own) =
          let behind = waiting_parts w p u then.loop in
          let pushed = times-pushed ticket_in u m.loop.queue x in
          found_waiting (omega (arith, behind, pushed, own))

  message_own : (t : ℕ) (x : Message B C I) → not (asks_of x t) ≡ false → ticket_in x ≡ t
  message_own t (message.Request (request.Verify u ancestry)) is = eqb-true u t (not_false (u == t) is)
  message_own t (message.Request (request.Recover u context ancestry input kind)) is = eqb-true u t (not_false (u == t) is)
  message_own t (message.Subscribe u) is = eqb-true u t (not_false (u == t) is)
  message_own t (message.Finalized u b) is = let no : true ≡ false = is in absurd (cc)

  action_own : (t : ℕ) (a : Action B C I) → not (asks_for a t) ≡ false → ticket_under a ≡ t
  action_own t (action.Message x) is = message_own t x is
  action_own t (action.Build u) is = eqb-true u t (not_false (u == t) is)

  -- a request is given up
  in_hand-cancels : (t : ℕ) (now : Moment w) → intake.Cancels w t m now → InHandBehind w (Came (event.Cancel t) ∷ p) m now
  in_hand-cancels t now c = subst (λ (n : Moment w). InHandBehind w came m n) (sym c.becomes)
      (behind_by w came m then c.marks [] refl but
      (λ u live had. tables c.gives_up u (other_one u (live_before u came c.marks live)) had)
      (λ u live own. build c.gives_up u (other_one u (live_before u came c.marks live)) own)
      (λ u live some. waits u (other_one u (live_before u came c.marks live)) some)
      (All-filter (λ a. not (asks_for a t)) IsPutOff m.loop.actions h.put_off) h.above h.finalizing)
    where
      came : Past B C I
      came = Came (event.Cancel t) ∷ p

      then : Moment w
      then = record m {
        execution = record m.execution { state = c.state; build = c.build };
        loop = record m.loop {
          queue = filter (λ x. not (asks_of x t)) m.loop.queue;
          actions = filter (λ x. not (asks_for x t)) m.loop.actions;
        };
        marks = m.marks ++ c.marks;
      }

      other_one : (u : ℕ) → live_ticket u came ≢ None → u ≢ t
      other_one u live same = live (rw (eq-eqb u t same) refl)

      but : IsInHandBut w came [] m
      but = record {
        hand = λ u live. inl (h.hand u (unless_ended (u == t) (live_ticket u p) live));
        put_off = h.put_off;
        above = h.above;
        finalizing = h.finalizing;
      }

      waits : (u : ℕ) → u ≢ t → 0 < times u (waiting_in m.loop) → IsFound w then u
      waits u off some =
          let before = waiting_parts w p u m.loop in
          let behind = waiting_parts w p u then.loop in
          let queue = times_spared ticket_in (λ (x : Message B C I). not (asks_of x t)) t (message_own t) u off m.loop.queue in
          let actions = times_spared ticket_under (λ (x : Action B C I). not (asks_for x t)) t (action_own t) u off m.loop.actions in
          found_waiting (omega (arith, before, behind, queue, actions, some))

      tables : GivesUp m.execution.state c.state m.execution.build c.build t c.marks → (u : ℕ) → u ≢ t
          → IsTabled u m.execution.state ⊎ (0 < times u []) → IsFound w then u
      tables (building own same gone marks) u off (inl (inl some)) = requested (rw same some)
      tables (building own same gone marks) u off (inl (inr some)) = recovered (rw same some)
      tables (asking none cancels same) u off (inl (inl some)) = requested (cancel_requests m.execution.state c.state t c.marks cancels u off some)
      tables (asking none cancels same) u off (inl (inr some)) = recovered (cancel_handed m.execution.state c.state t c.marks cancels u off some)
      tables given u off (inr none) = absurd (omega (arith, none))

      build : GivesUp m.execution.state c.state m.execution.build c.build t c.marks → (u : ℕ) → u ≢ t
          → MatchOption m.execution.build ⊥ (λ b. b.ticket ≡ u) → IsFound w then u
      build (building {b = b} own same gone marks) u off is =
          let ticket_is : b.ticket ≡ u = subst (λ (o : Option (Building B C D)). MatchOption o ⊥ (λ b. b.ticket ≡ u)) own.live is in
          absurd (off (sym ticket_is ∙ own.ticket))
      build (asking none cancels same) u off is = built (rw same is)

  -- After each event that is taken in, but a restart, all that is live is in hand.
  pub in_hand-takes_in : (stored_now : ℕ → Option (Named B)) (counts : Counts R D H) (e : Event B C I) (now : Moment w)
      → (IsRestart e → ⊥) → TakesIn w stored_now counts m now e → InHandBehind w (Came e ∷ p) m now
  in_hand-takes_in stored_now counts e now no_restart (intake.enters {x = x} is become) = in_hand-enters e x now is become
  in_hand-takes_in stored_now counts e now no_restart (intake.cancels {t = t} c) = in_hand-cancels t now c
  in_hand-takes_in stored_now counts e now no_restart (intake.fetched {f = f} {answer = answer} {then = then} is become) =
      subst (λ (n : Moment w). InHandBehind w (Came e ∷ p) m n) (sym become)
      (in_hand-fetched w (Came (event.Fetched f answer) ∷ p) m
      (record { hand = h.hand; put_off = h.put_off; above = h.above; finalizing = h.finalizing }) stored_now f answer then is)
  in_hand-takes_in stored_now counts e now no_restart (intake.turns {j = j} t) = in_hand-turns w (Came (event.Turn j) ∷ p) m
      (record { hand = h.hand; put_off = h.put_off; above = h.above; finalizing = h.finalizing }) counts j now t
  in_hand-takes_in stored_now counts e now no_restart (intake.flushes {k = k} {i = i} {answer = answer} f) =
      in_hand-flushes w (Came (event.Flushed k i answer) ∷ p) m
      (record { hand = h.hand; put_off = h.put_off; above = h.above; finalizing = h.finalizing }) k i answer now f
  in_hand-takes_in stored_now counts e now no_restart (intake.stops become) = in_hand-stops w (Came event.Stop ∷ p) m
      (record { hand = h.hand; put_off = h.put_off; above = h.above; finalizing = h.finalizing }) now become
  in_hand-takes_in stored_now counts e now no_restart (intake.progresses {i = i} same) = in_hand-same w (Came (event.Progress i) ∷ p) m
      (record { hand = h.hand; put_off = h.put_off; above = h.above; finalizing = h.finalizing }) now same
  in_hand-takes_in stored_now counts e now no_restart (intake.restarts same) = absurd (no_restart tt)
