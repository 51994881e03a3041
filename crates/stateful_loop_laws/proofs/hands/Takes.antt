-- Behind what becomes of a message, and of a build, all that is live is in hand; and so it is after each rule.
use Rattle.std.proofs.Common.{◌≡◌, ◌≢◌, ◌<◌, ◌≤◌, ◌+◌, ◌==◌, ◌++◌, ◌⊎◌, inl, inr, ℕ, Bool, true, false, cond, List, [], ◌∷◌, map, Option, Some, None, IsSome, MatchOption, nat_le, nat_lt, refl, sym, ap, ◌∙◌, subst, arith}
use Rattle.std.proofs.lemmas.Bool.{eqb-true, eq-eqb}
use Rattle.std.proofs.lemmas.Bool.Decides.{nat_tests}
use Rattle.std.proofs.lemmas.List.{append-nil, map-append}
use Rattle.std.proofs.lemmas.List.Elements.{All-cons, All-append, All-filter}
use Rattle.stateful_base.specs.Names.{Named}
use Rattle.stateful_durability.specs.Durability.{IsInOrder, with_duplicate, receipts_up_to, receipts_above}
use Rattle.stateful_history.specs.Live.{live_ticket}
use Rattle.stateful_history.specs.Past.{Past, Made}
use Rattle.stateful_history.specs.declared.mark.JobKind.TheVariants as job
use Rattle.stateful_history.specs.declared.mark.Mark.{Mark}
use Rattle.stateful_history.specs.declared.mark.Mark.TheVariants as mark
use Rattle.stateful_table.specs.Table.{at}
use Rattle.stateful_table.proofs.Tables.{is_at_number}
use Rattle.stateful_exec_tables.specs.Queueing.{unqueued}
use Rattle.stateful_exec_model.specs.Finalizing.{front_at}
use Rattle.stateful_exec_tables.specs.Phase.{dropped}
use Rattle.stateful_exec_model.specs.Workings.{Workings}
use Rattle.stateful_exec_model.specs.declared.building.Building.{Building}
use Rattle.stateful_exec_model.specs.declared.front.Stage.TheVariants.{Begun}
use Rattle.stateful_exec_tables.specs.declared.state.Tables.{Tables}
use Rattle.stateful_exec_tables.specs.declared.tables.Requested.{Requested}
use Rattle.stateful_loop_model.specs.Moments.{Moment, with_loop}
use Rattle.stateful_loop_model.specs.Rules as rules
use Rattle.stateful_loop_model.specs.Rules.{IsCalm, Takes, of_action, of_message, Builds, BeginsFinalization, DoesMessage, Rule, acknowledged, finalizing}
use Rattle.stateful_loop_model.specs.Sound.{Sound}
use Rattle.stateful_loop_model.specs.declared.message.Action.TheVariants as action
use Rattle.stateful_loop_model.specs.declared.message.Message.{Message}
use Rattle.stateful_loop_model.specs.declared.message.Message.TheVariants as message
use Rattle.stateful_loop_laws.specs.InHand.{IsFound, requested, recovered, built, waiting as found_waiting, waiting_in, AllInHand, InHandBehind}
use Rattle.stateful_loop_laws.specs.Tickets.{ticket_in, ticket_in_front}
use Rattle.stateful_loop_laws.proofs.hands.HandKept.{IsTabled}
use Rattle.stateful_loop_laws.proofs.hands.Rules.{IsInHandBut, but_action, but_message, waiting_parts, behind_by, in_hand_before, in_hand-collects, in_hand-puts_off, in_hand-schedules, in_hand-runs, in_hand-applies, in_hand-begins_barrier, in_hand-breaks, in_hand-ends, in_hand-completes, in_hand-observes}
use Rattle.stateful_loop_laws.proofs.duly.MarksOfRules.{takes-marks}
use Rattle.stateful_loop_laws.proofs.tickets.Times.{times, times-append, times-parts}

-- it is the one number of the list
pub the_one : (t u : ℕ) → 0 < times u (t ∷ []) → t ≡ u
the_one t u some = by (t == u) refl
  where
    by : (b : Bool) → (t == u) ≡ b → t ≡ u
    by true is = eqb-true t u is
    by false is = let no : 0 < 0 + 0 = rw is at some in absurd (omega (arith, no))

module _ {B C I : Type 0} where
  -- requests whose fetches are dropped stay in their table
  pub some_dropped : (es : List (ℕ × Requested B C I)) (t : ℕ) → IsSome (at es t) → IsSome (at (map dropped es) t)
  some_dropped [] t some = some
  some_dropped (e ∷ es) t some = by (e.0 == t) refl (some_dropped es t)
    where
      first : (f : ℕ × Requested B C I) (fs : List (ℕ × Requested B C I)) → at (f ∷ fs) t ≡ cond (f.0 == t) (Some f.1) (at fs t)
      first f fs = rw (is_at_number t f.0) refl

      by : (b : Bool) → (e.0 == t) ≡ b → (IsSome (at es t) → IsSome (at (map dropped es) t)) → IsSome (at (map dropped (e ∷ es)) t)
      by true is rest = rw (first (dropped e) (map dropped es)) (rw is refl)
      by false is rest =
          let there : IsSome (at es t) = rw is at (rw (first e es) at some) in
          rw (first (dropped e) (map dropped es)) (rw is (rest there))

module _ {B C I P R D H G U : Type 0} (w : Workings B C I P R D H G U) (p : Past B C I) where
  -- what was taken is answered
  pub in_hand-answered : (mark : Mark B) (t : ℕ) (m : Moment w) → live_ticket t (Made mark ∷ p) ≡ None → IsInHandBut w p (t ∷ []) m
      → InHandBehind w p m (record m { marks = m.marks ++ mark ∷ [] })
  in_hand-answered mark t m ends h = behind_by w p m then (mark ∷ []) (t ∷ []) refl h (λ u live had. tables u live had) (λ u live own. built own)
      (λ u live some. found_waiting some) h.put_off h.above h.finalizing
    where
      then : Moment w
      then = record m { marks = m.marks ++ mark ∷ [] }

      tables : (u : ℕ) → live_ticket u (Made mark ∷ p) ≢ None → IsTabled u m.execution.state ⊎ (0 < times u (t ∷ [])) → IsFound w then u
      tables u live (inl (inl some)) = requested some
      tables u live (inl (inr some)) = recovered some
      tables u live (inr own) = absurd (live (subst (λ x. live_ticket x (Made mark ∷ p) ≡ None) (the_one t u own) ends))

  -- the receipt of a block that was applied is held
  in_hand-holds : (t : ℕ) (b : Named B) (m now : Moment w) → m.loop.durability.durable < w.header.height b.block → IsInHandBut w p (t ∷ []) m
      → now ≡ with_loop w m
      (record m.loop { durability = record m.loop.durability { held = with_duplicate m.loop.durability.held (w.header.height b.block) t } })
      → InHandBehind w p m now
  in_hand-holds t b m now later h is = subst (λ (n : Moment w). InHandBehind w p m n) (sym is)
      (behind_by w p m then [] (t ∷ []) (sym (append-nil m.marks)) h (λ u live had. tables u had) (λ u live own. built own)
      (λ u live some. waits u some)
      h.put_off
      (All-append Above (receipts_up_to height held) ((height, t) ∷ receipts_above height held)
      (All-filter (λ (r : ℕ × ℕ). nat_le r.0 height) Above held h.above)
      (All-cons Above (height, t) (receipts_above height held) later (All-filter (λ (r : ℕ × ℕ). nat_lt height r.0) Above held h.above)))
      h.finalizing)
    where
      height : ℕ
      height = w.header.height b.block

      held : List (ℕ × ℕ)
      held = m.loop.durability.held

      Above : ℕ × ℕ → Type 0
      Above r = m.loop.durability.durable < r.0

      receipts : List (ℕ × ℕ)
      receipts = with_duplicate held height t

      then : Moment w
      then = with_loop w m (record m.loop { durability = record m.loop.durability { held = receipts } })

      ticket : ℕ × ℕ → ℕ
      ticket r = r.1

      counted : (u : ℕ) → times u (map ticket receipts) ≡ times u (t ∷ []) + times u (map ticket held)
      counted u =
          let parts = times-parts ticket (λ r. nat_le r.0 height) (λ r. nat_lt height r.0) (λ r. grind (arith, nat_tests)) held u in
          let split = times-append u (map ticket (receipts_up_to height held)) (map ticket ((height, t) ∷ receipts_above height held)) in
          rw (map-append ticket (receipts_up_to height held) ((height, t) ∷ receipts_above height held)) (omega (arith, parts, split))

      waits : (u : ℕ) → 0 < times u (waiting_in m.loop) → IsFound w then u
      waits u some =
          let before = waiting_parts w p u m.loop in
          let behind = waiting_parts w p u then.loop in
          let more = counted u in
          found_waiting (omega (arith, before, behind, more, some))

      tables : (u : ℕ) → IsTabled u m.execution.state ⊎ (0 < times u (t ∷ [])) → IsFound w then u
      tables u (inl (inl some)) = requested some
      tables u (inl (inr some)) = recovered some
      tables u (inr own) =
          let behind = waiting_parts w p u then.loop in
          let more = counted u in
          found_waiting (omega (arith, behind, more, own))

  -- a finalization begins
  in_hand-begins : (t : ℕ) (b : Named B) (m now : Moment w) → m.loop.front ≡ None → m.loop.durability.durable < w.header.height b.block
      → IsInHandBut w p (t ∷ []) m → BeginsFinalization w t b m now → InHandBehind w p m now
  in_hand-begins t b m now front above h r = subst (λ (n : Moment w). InHandBehind w p m n) (sym r.becomes)
      (behind_by w p m then (mark.Began t b ∷ r.withdrawn) (t ∷ []) refl h (λ u live had. tables u had) (λ u live own. built own)
      (λ u live some. waits u some)
      h.put_off h.above above)
    where
      then : Moment w
      then = record m {
        execution = record m.execution { state = r.state; front = front_at b Begun };
        loop = record m.loop { front = Some (finalizing t b) };
        marks = m.marks ++ mark.Began t b ∷ r.withdrawn;
      }

      waits : (u : ℕ) → 0 < times u (waiting_in m.loop) → IsFound w then u
      waits u some =
          let before = waiting_parts w p u m.loop in
          let behind = waiting_parts w p u then.loop in
          let none : times u (ticket_in_front m.loop.front) ≡ 0 = rw front refl in
          found_waiting (omega (arith, before, behind, none, some))

      tables : (u : ℕ) → IsTabled u m.execution.state ⊎ (0 < times u (t ∷ [])) → IsFound w then u
      tables u (inl (inl some)) =
          requested (rw (ap (λ (v : Tables B C I R U). v.requests) r.pauses.state) (some_dropped m.execution.state.requests u some))
      tables u (inl (inr some)) = recovered (rw (ap (λ (v : Tables B C I R U). v.recovered) r.pauses.state) some)
      tables u (inr own) = let behind = waiting_parts w p u then.loop in found_waiting (omega (arith, behind, own))

  -- a build is started, or its proposal declined
  in_hand-builds : (provider : P) (t : ℕ) (m now : Moment w) → m.execution.build ≡ None → IsInHandBut w p (t ∷ []) m → Builds w provider t m now
      → InHandBehind w p m now
  in_hand-builds provider t m now unbuilt h (rules.starts {state = state} {build = build} {next = next} s is) =
      subst (λ (n : Moment w). InHandBehind w p m n) (sym is)
      (behind_by w p m then _ (t ∷ []) refl h (λ u live had. tables u had)
      (λ u live own. absurd (subst (λ (o : Option (Building B C D)). MatchOption o ⊥ (λ b. b.ticket ≡ u)) unbuilt own))
      (λ u live some. found_waiting some) h.put_off h.above h.finalizing)
    where
      then : Moment w
      then = record m {
        execution = record m.execution { state = state; build = build };
        next = next;
        marks = m.marks ++ mark.Started m.execution.state.next_job job.Build s.proposal.ancestry.first.digest ∷ [];
      }

      tables : (u : ℕ) → IsTabled u m.execution.state ⊎ (0 < times u (t ∷ [])) → IsFound w then u
      tables u (inl (inl some)) = requested (rw (ap (λ (v : Tables B C I R U). v.requests) s.state) some)
      tables u (inl (inr some)) = recovered (rw (ap (λ (v : Tables B C I R U). v.recovered) s.state) some)
      tables u (inr own) = built (rw s.build_is (the_one t u own))
  in_hand-builds provider t m now unbuilt h (rules.declines off is) = subst (λ (n : Moment w). InHandBehind w p m n) (sym is)
      (behind_by w p m then (mark.Declined t ∷ []) (t ∷ []) refl h (λ u live had. tables u live had) (λ u live own. built own)
      (λ u live some. found_waiting some) h.put_off h.above h.finalizing)
    where
      then : Moment w
      then = record m {
        execution = record m.execution { state = unqueued m.execution.state t };
        marks = m.marks ++ mark.Declined t ∷ [];
      }

      tables : (u : ℕ) → live_ticket u (Made (mark.Declined t) ∷ p) ≢ None → IsTabled u m.execution.state ⊎ (0 < times u (t ∷ [])) → IsFound w then u
      tables u live (inl (inl some)) = requested some
      tables u live (inl (inr some)) = recovered some
      tables u live (inr own) =
          absurd (live (subst (λ x. live_ticket x (Made (mark.Declined t) ∷ p) ≡ None) (the_one t u own) (rw (eq-eqb t t refl) refl)))

  -- what becomes of a message that was taken
  in_hand-does : (stored_now : ℕ → Option (Named B)) (m now : Moment w) (x : Message B C I) → m.loop.front ≡ None
      → m.loop.durability.durable ≤ m.execution.state.anchor.height.0 → IsInHandBut w p (ticket_in x ∷ []) m → DoesMessage w stored_now m now x
      → InHandBehind w p m now
  in_hand-does stored_now m now x front low h (rules.schedules {request = request} r) = in_hand-schedules w p stored_now request m now h r
  in_hand-does stored_now m now x front low h (rules.answers {t = t} is) = subst (λ (n : Moment w). InHandBehind w p m n) (sym is)
      (in_hand-answered (mark.Databases t) t m (rw (eq-eqb t t refl) refl) h)
  in_hand-does stored_now m now x front low h (rules.acknowledges {t = t} {b = b} again durable is) =
      subst (λ (n : Moment w). InHandBehind w p m n) (sym is)
      (in_hand-answered (acknowledged (w.header.height b.block, t)) t m (rw (eq-eqb t t refl) refl) h)
  in_hand-does stored_now m now x front low h (rules.holds {t = t} {b = b} again later is) = in_hand-holds t b m now later h is
  in_hand-does stored_now m now x front low h (rules.begins {t = t} {b = b} high r) = in_hand-begins t b m now front (omega (arith, low, high)) h r

  -- After each rule of a machine that is up all that is live is in hand.
  pub in_hand-rule : (stored_now : ℕ → Option (Named B)) (provider : P) (m now : Moment w) → Sound w m → IsInOrder m.loop.durability → AllInHand w p m
      → Rule w stored_now provider m now → InHandBehind w p m now
  in_hand-rule stored_now provider m now sound order h (rules.collects {t = t} up c) = in_hand-collects w p t m now h c
  in_hand-rule stored_now provider m now sound order h (rules.schedules {request = request} {rest = rest} collected some is verification r) =
      in_hand_before w p m (with_loop w m (record m.loop { queue = rest })) now refl
      (in_hand-schedules w p stored_now request (with_loop w m (record m.loop { queue = rest })) now
      (but_message w p m (message.Request request) rest is h) r)
  in_hand-rule stored_now provider m now sound order h (rules.puts_off {x = x} {rest = rest} collected some is other become) =
      subst (λ (n : Moment w). InHandBehind w p m n) (sym become) (in_hand-puts_off w p m x rest is other h)
  in_hand-rule stored_now provider m now sound order h (rules.runs {f = f} fronts begun awaits uncached r) = in_hand-runs w p f.block m now h r
  in_hand-rule stored_now provider m now sound order h (rules.applies {f = f} fronts captured states r) = in_hand-applies w p f m now fronts.2 h r
  in_hand-rule stored_now provider m now sound order h (rules.covers fronts advanced captured needed r) = in_hand-begins_barrier w p m now h r
  in_hand-rule stored_now provider m now sound order h (rules.observes {f = f} {captured = captured} fronts advanced is covered r) =
      in_hand-observes w p f captured m now fronts.2 h r
  in_hand-rule stored_now provider m now sound order h (rules.ends {f = f} fronts advanced captured r) =
      in_hand-ends w p stored_now f m now fronts.2 h r
  in_hand-rule stored_now provider m now sound order h (rules.breaks {active = active} idle is become) = in_hand-breaks w p active m now h become
  in_hand-rule stored_now provider m now sound order h (rules.completes {active = active} idle whole is r) =
      in_hand-completes w p active m now idle.2 h r
  in_hand-rule stored_now provider m now sound order h (rules.begins idle whole unflushed needed r) = in_hand-begins_barrier w p m now h r
  in_hand-rule stored_now provider m now sound order h (rules.builds {t = t} {rest = rest} calm is r) =
      in_hand_before w p m (with_loop w m (record m.loop { actions = rest })) now refl
      (in_hand-builds provider t (with_loop w m (record m.loop { actions = rest })) now calm.0.1 (but_action w p m (action.Build t) rest is h) r)
  in_hand-rule stored_now provider m now sound order h (rules.takes {x = x} {mid = mid} calm takes does) =
      in_hand_before w p m mid now (takes-marks w x m mid takes) (taken takes)
    where
      low : m.loop.durability.durable ≤ m.execution.state.anchor.height.0
      low = let a = order.durable in let u = (sound.up calm.0.0.0).applied in omega (arith, a, u)

      taken : Takes w x m mid → InHandBehind w p mid now
      taken (of_action {rest = rest} is become) = in_hand-does stored_now mid now x (ap (λ (n : Moment w). n.loop.front) become ∙ calm.0.2)
          (rw become low) (subst (λ (n : Moment w). IsInHandBut w p (ticket_in x ∷ []) n) (sym become)
          (but_action w p m (action.Message x) rest is h)) does
      taken (of_message {rest = rest} none is become) = in_hand-does stored_now mid now x (ap (λ (n : Moment w). n.loop.front) become ∙ calm.0.2)
          (rw become low) (subst (λ (n : Moment w). IsInHandBut w p (ticket_in x ∷ []) n) (sym become) (but_message w p m x rest is h)) does
