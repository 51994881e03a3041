-- After each rule of the loop all that is live is in hand.
use Rattle.std.proofs.Common.{drop, zero, suc, ◌≡◌, ◌≢◌, ◌<◌, ◌+◌, ◌==◌, ◌++◌, ◌⊎◌, inl, inr, ℕ, Bool, true, false, List, [], ◌∷◌, map, All, Option, Some, None, IfSome, MatchOption, nat_le, nat_lt, refl, sym, ap, ◌∙◌, subst, arith}
use Rattle.std.proofs.lemmas.Bool.{eqb-true, eq-eqb}
use Rattle.std.proofs.lemmas.Bool.Decides.{nat_tests}
use Rattle.std.proofs.lemmas.List.{append-nil}
use Rattle.std.proofs.lemmas.List.Elements.{All-nil, All-cons, All-append, All-tail, All-weaker, filter_passes}
use Rattle.stateful_base.specs.Names.{Named}
use Rattle.stateful_durability.specs.Durability.{after_completion, receipts_up_to, receipts_above}
use Rattle.stateful_history.specs.Live.{live_ticket}
use Rattle.stateful_history.specs.Past.{Past, Made, after}
use Rattle.stateful_history.specs.declared.mark.Mark.{Mark}
use Rattle.stateful_history.specs.declared.mark.Mark.TheVariants as mark
use Rattle.stateful_exec_model.specs.Finalizing.{HooksOn}
use Rattle.stateful_exec_walk.specs.Request.{ticket_by}
use Rattle.stateful_exec_tables.specs.Tables.{requested as fresh}
use Rattle.stateful_exec_model.specs.Workings.{Workings}
use Rattle.stateful_exec_walk.specs.declared.request.Request.{Request}
use Rattle.stateful_exec_tables.specs.declared.state.Tables.{Tables}
use Rattle.stateful_db.specs.declared.application.Hooked.{Hooked}
use Rattle.stateful_db.specs.declared.application.Hooked.TheVariants as hooked
use Rattle.stateful_loop_model.specs.Message.{is_verification}
use Rattle.stateful_loop_model.specs.Moments.{Moment, inner, with_inner, with_loop}
use Rattle.stateful_loop_model.specs.Rules.{Collects, Schedules, BeginsBarrier, CompletesBarrier, RunsFinalized, AppliesBlock, ObservesBlock, EndsFinalization, acknowledged, finalizing}
use Rattle.stateful_loop_model.specs.declared.barriers.Active.{Active}
use Rattle.stateful_loop_model.specs.declared.message.Action.{Action}
use Rattle.stateful_loop_model.specs.declared.message.Action.TheVariants as action
use Rattle.stateful_loop_model.specs.declared.message.Message.{Message}
use Rattle.stateful_loop_model.specs.declared.tables.Finalizing.{Finalizing}
use Rattle.stateful_loop_model.specs.declared.tables.Processing.{Processing}
use Rattle.stateful_loop_laws.specs.InHand.{IsPutOff, IsFound, requested, recovered, built, waiting as found_waiting, waiting_in, AllInHand, InHandBehind}
use Rattle.stateful_loop_laws.specs.Tickets.{ticket_in, ticket_under, ticket_in_front}
use Rattle.stateful_loop_laws.proofs.hands.HandKept.{IsTabled, HandsOn, live_before, hands_acquires, hands_resumes}
use Rattle.stateful_loop_laws.proofs.tickets.Times.{times, times-parts}
use Rattle.stateful_loop_laws.proofs.tickets.Waiting.{times-pushed, times-waiting}

module _ {B C I P R D H G U : Type 0} (w : Workings B C I P R D H G U) (p : Past B C I) where
  -- what was taken out of the loop is of these tickets, and all else is in hand
  pub record IsInHandBut (own : List ℕ) (m : Moment w) : Type 0 where
    pub hand : (t : ℕ) → live_ticket t p ≢ None → IsFound w m t ⊎ (0 < times t own)
    pub put_off : All IsPutOff m.loop.actions
    pub above : All (λ receipt. m.loop.durability.durable < receipt.0) m.loop.durability.held
    pub finalizing : IfSome m.loop.front (λ f. m.loop.durability.durable < w.header.height f.block.block)

  pub but_none : (m : Moment w) → AllInHand w p m → IsInHandBut [] m
  but_none m h = record { hand = λ t live. inl (h.hand t live); put_off = h.put_off; above = h.above; finalizing = h.finalizing }

  -- the tickets that wait, part by part
  pub waiting_parts : (t : ℕ) (l : Processing B C I G) → times t (waiting_in l) ≡ times t (map ticket_in l.queue) + times t
      (map ticket_under l.actions)
      + times t (ticket_in_front l.front) + times t (map (λ (receipt : ℕ × ℕ). receipt.1) l.durability.held)
  waiting_parts t l = times-waiting t l.queue l.actions l.front l.durability.held

  -- what is in the tables is found
  pub tabled_found : (m : Moment w) (t : ℕ) → IsTabled t m.execution.state → IsFound w m t
  tabled_found m t (inl some) = requested some
  tabled_found m t (inr some) = recovered some

  module _ (m now : Moment w) (more : List (Mark B)) where
    abbrev Stays : (ℕ → Type 0) → Type 0
    Stays Had = (t : ℕ) → live_ticket t (after p more) ≢ None → Had t → IsFound w now t

    -- what stood in the tables, was built and waited is found, and so is all else
    pub behind_by : (own : List ℕ) → now.marks ≡ m.marks ++ more → IsInHandBut own m
        → Stays (λ t. IsTabled t m.execution.state ⊎ (0 < times t own)) → Stays (λ t. MatchOption m.execution.build ⊥ (λ b. b.ticket ≡ t))
        → Stays (λ t. 0 < times t (waiting_in m.loop)) → All IsPutOff now.loop.actions
        → All (λ receipt. now.loop.durability.durable < receipt.0) now.loop.durability.held
        → IfSome now.loop.front (λ f. now.loop.durability.durable < w.header.height f.block.block) → InHandBehind w p m now
    behind_by own is h tables build waits off above front = record {
      more = more;
      marks_are = is;
      hands = record { hand = λ t live. by t live (h.hand t (live_before t p more live)); put_off = off; above = above; finalizing = front };
    }
      where
        by : (t : ℕ) → live_ticket t (after p more) ≢ None → IsFound w m t ⊎ (0 < times t own) → IsFound w now t
        by t live (inl (requested some)) = tables t live (inl (inl some))
        by t live (inl (recovered some)) = tables t live (inl (inr some))
        by t live (inl (built is)) = build t live is
        by t live (inl (found_waiting some)) = waits t live some
        by t live (inr some) = tables t live (inr some)

  -- one of the actions is taken
  pub but_action : (m : Moment w) (a : Action B C I) (rest : List (Action B C I)) → m.loop.actions ≡ a ∷ rest → AllInHand w p m
      → IsInHandBut (ticket_under a ∷ []) (with_loop w m (record m.loop { actions = rest }))
  but_action m a rest is h = record {
    hand = λ t live. by t (h.hand t live);
    put_off = All-tail IsPutOff a rest (subst (λ xs. All IsPutOff xs) is h.put_off);
    above = h.above;
    finalizing = h.finalizing;
  }
    where
      mid : Moment w
      mid = with_loop w m (record m.loop { actions = rest })

      of : (t n : ℕ) → times t (ticket_under a ∷ []) ≡ n → 0 < times t (waiting_in m.loop) → IsFound w mid t ⊎ (0 < times t (ticket_under a ∷ []))
      of t (suc n) own some = inr (omega (arith, own))
      of t zero own some =
          let before = waiting_parts t m.loop in
          let behind = waiting_parts t (record m.loop { actions = rest }) in
          let first : times t (map ticket_under m.loop.actions) ≡ times t (ticket_under a ∷ map ticket_under rest) =
          ap (λ (xs : List (Action B C I)). times t (map ticket_under xs)) is in
          inl (found_waiting (omega (arith, before, behind, first, own, some)))

      by : (t : ℕ) → IsFound w m t → IsFound w mid t ⊎ (0 < times t (ticket_under a ∷ []))
      by t (requested some) = inl (requested some)
      by t (recovered some) = inl (recovered some)
      by t (built is) = inl (built is)
      by t (found_waiting some) = of t (times t (ticket_under a ∷ [])) refl some

  -- one of the messages is taken
  pub but_message : (m : Moment w) (x : Message B C I) (rest : List (Message B C I)) → m.loop.queue ≡ x ∷ rest → AllInHand w p m
      → IsInHandBut (ticket_in x ∷ []) (with_loop w m (record m.loop { queue = rest }))
  but_message m x rest is h = record { hand = λ t live. by t (h.hand t live); put_off = h.put_off; above = h.above; finalizing = h.finalizing }
    where
      mid : Moment w
      mid = with_loop w m (record m.loop { queue = rest })

      of : (t n : ℕ) → times t (ticket_in x ∷ []) ≡ n → 0 < times t (waiting_in m.loop) → IsFound w mid t ⊎ (0 < times t (ticket_in x ∷ []))
      of t (suc n) own some = inr (omega (arith, own))
      of t zero own some =
          let before = waiting_parts t m.loop in
          let behind = waiting_parts t (record m.loop { queue = rest }) in
          let first : times t (map ticket_in m.loop.queue) ≡ times t (ticket_in x ∷ map ticket_in rest) =
          ap (λ (xs : List (Message B C I)). times t (map ticket_in xs)) is in
          inl (found_waiting (omega (arith, before, behind, first, own, some)))

      by : (t : ℕ) → IsFound w m t → IsFound w mid t ⊎ (0 < times t (ticket_in x ∷ []))
      by t (requested some) = inl (requested some)
      by t (recovered some) = inl (recovered some)
      by t (built is) = inl (built is)
      by t (found_waiting some) = of t (times t (ticket_in x ∷ [])) refl some

  -- marks that were made since are those that were made since an earlier moment of the same marks
  pub in_hand_before : (m mid now : Moment w) → mid.marks ≡ m.marks → InHandBehind w p mid now → InHandBehind w p m now
  in_hand_before m mid now same b = record { more = b.more; marks_are = b.marks_are ∙ ap (λ marks. marks ++ b.more) same; hands = b.hands }

  -- all stands as it did, but for the marks
  pub in_hand-still : (m now : Moment w) (more : List (Mark B)) → now.marks ≡ m.marks ++ more → AllInHand w p m
      → now.execution.state.requests ≡ m.execution.state.requests → now.execution.state.recovered ≡ m.execution.state.recovered
      → now.execution.build ≡ m.execution.build → waiting_in now.loop ≡ waiting_in m.loop
      → All IsPutOff now.loop.actions
      → All (λ receipt. now.loop.durability.durable < receipt.0) now.loop.durability.held
      → IfSome now.loop.front (λ f. now.loop.durability.durable < w.header.height f.block.block) → InHandBehind w p m now
  in_hand-still m now more is h requests handed build waits off above front = behind_by m now more [] is (but_none m h)
      (λ t live had. tables t had) (λ t live own. built (rw build own)) (λ t live some. found_waiting (rw waits some)) off above front
    where
      tables : (t : ℕ) → IsTabled t m.execution.state ⊎ (0 < times t []) → IsFound w now t
      tables t (inl (inl some)) = requested (rw requests some)
      tables t (inl (inr some)) = recovered (rw handed some)
      tables t (inr none) = absurd (omega (arith, none))

  -- what is recovered is put among the actions
  pub in_hand-collects : (t : ℕ) (m now : Moment w) → AllInHand w p m → Collects w t m now → InHandBehind w p m now
  in_hand-collects t m now h c = subst (λ (n : Moment w). InHandBehind w p m n) (sym c.becomes)
      (behind_by m then [] [] (sym (append-nil m.marks)) (but_none m h) (λ u live had. tables u had) (λ u live own. built own)
      (λ u live some. more_wait u some)
      (All-append IsPutOff m.loop.actions (action.Build t ∷ []) h.put_off
      (All-cons IsPutOff (action.Build t) [] tt (All-nil IsPutOff))) h.above h.finalizing)
    where
      then : Moment w
      then = record m {
        execution = record m.execution { state = record m.execution.state { recovered = c.more } };
        loop = record m.loop { actions = m.loop.actions ++ action.Build t ∷ [] };
      }

      more_wait : (u : ℕ) → 0 < times u (waiting_in m.loop) → IsFound w then u
      more_wait u some =
          let before = waiting_parts u m.loop in
          let behind = waiting_parts u then.loop in
          let pushed = times-pushed ticket_under u m.loop.actions (action.Build t) in
          found_waiting (omega (arith, before, behind, pushed, some))

      of : (u n : ℕ) → times u c.more ≡ n → 0 < times u m.execution.state.recovered → IsFound w then u
      of u (suc n) is some = recovered (omega (arith, is))
      of u zero is some =
          let behind = waiting_parts u then.loop in
          let pushed = times-pushed ticket_under u m.loop.actions (action.Build t) in
          let first : times u m.execution.state.recovered ≡ times u (t ∷ c.more) = ap (λ (us : List ℕ). times u us) c.first in
          found_waiting (omega (arith, behind, pushed, first, is, some))

      tables : (u : ℕ) → IsTabled u m.execution.state ⊎ (0 < times u []) → IsFound w then u
      tables u (inl (inl some)) = requested some
      tables u (inl (inr some)) = of u (times u c.more) refl some
      tables u (inr none) = absurd (omega (arith, none))

  -- a message is put off
  pub in_hand-puts_off : (m : Moment w) (x : Message B C I) (rest : List (Message B C I)) → m.loop.queue ≡ x ∷ rest → is_verification x ≡ false
      → AllInHand w p m
      → InHandBehind w p m (with_loop w m (record m.loop { queue = rest; actions = m.loop.actions ++ action.Message x ∷ [] }))
  in_hand-puts_off m x rest is off h =
      behind_by m then [] [] (sym (append-nil m.marks)) (but_none m h) (λ u live had. tables u had) (λ u live own. built own)
      (λ u live some. more_wait u some)
      (All-append IsPutOff m.loop.actions (action.Message x ∷ []) h.put_off
      (All-cons IsPutOff (action.Message x) [] off (All-nil IsPutOff))) h.above h.finalizing
    where
      then : Moment w
      then = with_loop w m (record m.loop { queue = rest; actions = m.loop.actions ++ action.Message x ∷ [] })

      more_wait : (u : ℕ) → 0 < times u (waiting_in m.loop) → IsFound w then u
      more_wait u some =
          let before = waiting_parts u m.loop in
          let behind = waiting_parts u then.loop in
          let pushed = times-pushed ticket_under u m.loop.actions (action.Message x) in
          let first : times u (map ticket_in m.loop.queue) ≡ times u (ticket_in x ∷ map ticket_in rest) =
          ap (λ (xs : List (Message B C I)). times u (map ticket_in xs)) is in
          found_waiting (omega (arith, before, behind, pushed, first, some))

      tables : (u : ℕ) → IsTabled u m.execution.state ⊎ (0 < times u []) → IsFound w then u
      tables u (inl (inl some)) = requested some
      tables u (inl (inr some)) = recovered some
      tables u (inr none) = absurd (omega (arith, none))

  -- a request acquires what it needs
  pub in_hand-schedules : (stored_now : ℕ → Option (Named B)) (request : Request B C I) (m now : Moment w) → IsInHandBut (ticket_by request ∷ []) m
      → Schedules w stored_now request m now → InHandBehind w p m now
  in_hand-schedules stored_now request m now h r =
      let on = hands_acquires w stored_now (inner w m) r.then (ticket_by request) (fresh request) r.acquires in
      subst (λ (n : Moment w). InHandBehind w p m n) (sym r.becomes)
      (behind_by m (with_inner w m r.then) on.more (ticket_by request ∷ []) on.marks_are h
      (λ t live had. tabled_found (with_inner w m r.then) t (on.kept p t live had)) (λ t live own. built own) (λ t live some. found_waiting some)
      h.put_off h.above h.finalizing)

  -- a run of the finalized block begins
  pub in_hand-runs : (b : Named B) (m now : Moment w) → AllInHand w p m → RunsFinalized w b m now → InHandBehind w p m now
  in_hand-runs b m now h r = subst (λ (n : Moment w). InHandBehind w p m n) (sym r.becomes)
      (in_hand-still m _ _ refl h (ap (λ (v : Tables B C I R U). v.requests) r.runs.state) (ap (λ (v : Tables B C I R U). v.recovered) r.runs.state)
      refl refl h.put_off h.above h.finalizing)

  -- the finalization that is in front is so with another capture
  front_same : (m : Moment w) (f : Finalizing B G) → m.loop.front ≡ Some f
      → waiting_in (record m.loop { front = Some f }) ≡ waiting_in m.loop
  front_same m f is = sym (ap (λ (o : Option (Finalizing B G)). waiting_in (record m.loop { front = o })) is)

  front_above : (m : Moment w) (f : Finalizing B G) → m.loop.front ≡ Some f → AllInHand w p m
      → m.loop.durability.durable < w.header.height f.block.block
  front_above m f is h =
      subst (λ (o : Option (Finalizing B G)). IfSome o (λ f. m.loop.durability.durable < w.header.height f.block.block)) is h.finalizing

  -- the finalized block is applied
  pub in_hand-applies : (f : Finalizing B G) (m now : Moment w) → m.loop.front ≡ Some f → AllInHand w p m → AppliesBlock w f m now
      → InHandBehind w p m now
  in_hand-applies f m now front h r = subst (λ (n : Moment w). InHandBehind w p m n) (sym r.becomes)
      (in_hand-still m _ _ refl h (ap (λ (v : Tables B C I R U). v.requests) r.moves.state) (ap (λ (v : Tables B C I R U). v.recovered) r.moves.state)
      refl (front_same m f front) h.put_off h.above (front_above m f front h))

  -- a barrier begins
  pub in_hand-begins_barrier : (m now : Moment w) → AllInHand w p m → BeginsBarrier w m now → InHandBehind w p m now
  in_hand-begins_barrier m now h r = subst (λ (n : Moment w). InHandBehind w p m n) (sym r.becomes)
      (in_hand-still m _ _ refl h refl refl refl refl h.put_off h.above h.finalizing)

  -- a barrier breaks
  pub in_hand-breaks : (active : Active) (m now : Moment w) → AllInHand w p m
      → now ≡ record m { loop = record m.loop { up = false }; marks = m.marks ++ mark.BarrierDone active.number active.height false ∷ [] }
      → InHandBehind w p m now
  in_hand-breaks active m now h is = subst (λ (n : Moment w). InHandBehind w p m n) (sym is)
      (in_hand-still m _ _ refl h refl refl refl refl h.put_off h.above h.finalizing)

  -- the finalization ends, and its receipt is held
  pub in_hand-ends : (stored_now : ℕ → Option (Named B)) (f : Finalizing B G) (m now : Moment w) → m.loop.front ≡ Some f → AllInHand w p m
      → EndsFinalization w stored_now f m now → InHandBehind w p m now
  in_hand-ends stored_now f m now front h r =
      subst (λ (n : Moment w). InHandBehind w p m n) (sym r.becomes)
      (behind_by m then on.more [] on.marks_are (but_none m h) (λ t live had. tabled_found then t (on.kept p t live had)) (λ t live own. built own)
      (λ t live some. waits t some) h.put_off
      (All-append (λ (receipt : ℕ × ℕ). m.loop.durability.durable < receipt.0) m.loop.durability.held (receipt ∷ []) h.above
      (All-cons (λ (receipt : ℕ × ℕ). m.loop.durability.durable < receipt.0) receipt [] (front_above m f front h)
      (All-nil (λ (receipt : ℕ × ℕ). m.loop.durability.durable < receipt.0)))) tt)
    where
      receipt : ℕ × ℕ
      receipt = (w.header.height f.block.block, f.ticket)

      on : HandsOn w [] (inner w m) r.then
      on = hands_resumes w stored_now (inner w m) r.then r.resumes

      then : Moment w
      then = record (with_inner w m r.then) {
        execution = record m.execution { state = r.then.state; front = None };
        loop = record m.loop {
          durability = record m.loop.durability { held = m.loop.durability.held ++ receipt ∷ [] };
          front = None;
        };
      }

      waits : (t : ℕ) → 0 < times t (waiting_in m.loop) → IsFound w then t
      waits t some =
          let before = waiting_parts t m.loop in
          let behind = waiting_parts t then.loop in
          let pushed = times-pushed (λ (r : ℕ × ℕ). r.1) t m.loop.durability.held receipt in
          let first : times t (ticket_in_front m.loop.front) ≡ times t (f.ticket ∷ []) =
          ap (λ (o : Option (Finalizing B G)). times t (ticket_in_front o)) front in
          found_waiting (omega (arith, before, behind, pushed, first, some))

  -- what is acknowledged isn't live any more
  acknowledged_ends : (rs : List (ℕ × ℕ)) (t : ℕ) (q : Past B C I) → live_ticket t (after q (map acknowledged rs)) ≢ None
      → 0 < times t (map (λ (r : ℕ × ℕ). r.1) rs) → ⊥
  acknowledged_ends [] t q live some = omega (arith, some)
  acknowledged_ends (r ∷ rs) t q live some = by (r.1 == t) refl (λ left. acknowledged_ends rs t (Made (acknowledged r) ∷ q) live left)
    where
      by : (b : Bool) → (r.1 == t) ≡ b → (0 < times t (map (λ (r : ℕ × ℕ). r.1) rs) → ⊥) → ⊥
      by true is rest = live_before t (Made (acknowledged r) ∷ q) (map acknowledged rs) live
          (let same : (t == r.1) ≡ true = eq-eqb t r.1 (sym (eqb-true r.1 t is)) in rw same refl)
      by false is rest = let left : 0 < 0 + times t (map (λ (r : ℕ × ℕ). r.1) rs) = rw is at some in rest (omega (arith, left))

  -- the oldest barrier is done, and receipts are acknowledged
  pub in_hand-completes : (active : Active) (m now : Moment w) → m.loop.front ≡ None → AllInHand w p m → CompletesBarrier w active m now
      → InHandBehind w p m now
  in_hand-completes active m now front h r =
      subst (λ (n : Moment w). InHandBehind w p m n) (sym r.becomes)
      (behind_by m then marks [] refl (but_none m h) (λ t live had. tables t had) (λ t live own. built own)
      (λ t live some. waits t live some) h.put_off
      (All-cong (filter_passes (λ (r : ℕ × ℕ). nat_lt height r.0) m.loop.durability.held)) (rw front tt))
    where
      height : ℕ
      height = active.height.0

      marks : List (Mark B)
      marks = mark.BarrierDone active.number active.height true ∷ map acknowledged (receipts_up_to height m.loop.durability.held)

      then : Moment w
      then = record m {
        loop = record m.loop {
          durability = record (after_completion m.loop.durability (Some active.height)) { held = receipts_above height m.loop.durability.held };
          barriers = drop 1 m.loop.barriers;
        };
        marks = m.marks ++ marks;
      }

      All-cong : All (λ (r : ℕ × ℕ). nat_lt height r.0 ≡ true) (receipts_above height m.loop.durability.held)
          → All (λ (r : ℕ × ℕ). height < r.0) (receipts_above height m.loop.durability.held)
      All-cong each = All-weaker (λ (r : ℕ × ℕ). nat_lt height r.0 ≡ true) (λ (r : ℕ × ℕ). height < r.0) (λ r is. grind (arith, nat_tests))
          (receipts_above height m.loop.durability.held) each

      tables : (u : ℕ) → IsTabled u m.execution.state ⊎ (0 < times u []) → IsFound w then u
      tables u (inl (inl some)) = requested some
      tables u (inl (inr some)) = recovered some
      tables u (inr none) = absurd (omega (arith, none))

      waits : (t : ℕ) → live_ticket t (after p marks) ≢ None → 0 < times t (waiting_in m.loop) → IsFound w then t
      waits t live some = of (times t (map (λ (r : ℕ × ℕ). r.1) (receipts_up_to height m.loop.durability.held))) refl
        where
          of : (n : ℕ) → times t (map (λ (r : ℕ × ℕ). r.1) (receipts_up_to height m.loop.durability.held)) ≡ n → IsFound w then t
          of (suc n) is = absurd (acknowledged_ends (receipts_up_to height m.loop.durability.held) t
              (Made (mark.BarrierDone active.number active.height true) ∷ p) live (omega (arith, is)))
          of zero is =
              let before = waiting_parts t m.loop in
              let behind = waiting_parts t then.loop in
              let split =
              times-parts (λ (r : ℕ × ℕ). r.1) (λ r. nat_le r.0 height) (λ r. nat_lt height r.0)
              (λ r. grind (arith, nat_tests)) m.loop.durability.held t in
              found_waiting (omega (arith, before, behind, split, is, some))

  -- the application has observed the states behind the block
  pub in_hand-observes : (f : Finalizing B G) (captured : G) (m now : Moment w) → m.loop.front ≡ Some f → AllInHand w p m
      → ObservesBlock w f captured m now
      → InHandBehind w p m now
  in_hand-observes f captured m now front h r = by r.observes.hook r.observes.hooks_on
    where
      then : List (Mark B) → Moment w
      then marks = record m {
        execution = record m.execution { state = r.state; front = r.front };
        loop = record m.loop { front = Some (finalizing f.ticket f.block) };
        marks = marks;
      }

      by : (hook : Hooked H) → HooksOn w f.block hook m.execution.state r.state m.marks r.marks r.front r.live → InHandBehind w p m now
      by hooked.Done on = subst (λ (n : Moment w). InHandBehind w p m n) (sym r.becomes)
          (in_hand-still m (then r.marks) [] (on.1 ∙ sym (append-nil m.marks)) h (ap (λ (v : Tables B C I R U). v.requests) on.0)
          (ap (λ (v : Tables B C I R U). v.recovered) on.0)
          refl (front_same m f front) h.put_off h.above (front_above m f front h))
      by (hooked.Pending hook) on = subst (λ (n : Moment w). InHandBehind w p m n) (sym r.becomes)
          (in_hand-still m (then r.marks) _ on.2 h (ap (λ (v : Tables B C I R U). v.requests) on.0)
          (ap (λ (v : Tables B C I R U). v.recovered) on.0)
          refl (front_same m f front) h.put_off h.above (front_above m f front h))
