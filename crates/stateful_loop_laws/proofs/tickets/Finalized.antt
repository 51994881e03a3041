-- Where a finalization begins its ticket comes to the front, and where it ends its receipt is held.
use Rattle.std.proofs.Common.{◌≡◌, ◌++◌, ℕ, List, [], ◌∷◌, All, Option, Some, None, refl, sym, subst, arith}
use Rattle.std.proofs.lemmas.List.Elements.{All-map, All-push}
use Rattle.stateful_base.specs.Names.{Named}
use Rattle.stateful_history.specs.Finalizations.{finalized_since}
use Rattle.stateful_history.specs.Requests.{IsLiveReceipt}
use Rattle.stateful_history.specs.Past.{Past, Made, after}
use Rattle.stateful_history.specs.declared.mark.Mark.{Mark}
use Rattle.stateful_history.specs.declared.mark.Mark.TheVariants as mark
use Rattle.stateful_exec_model.specs.Finalizing.{front_at}
use Rattle.stateful_exec_model.specs.Workings.{Workings}
use Rattle.stateful_exec_model.specs.declared.front.Stage.TheVariants.{Begun}
use Rattle.stateful_exec_tables.specs.declared.state.Tables.{Tables}
use Rattle.stateful_exec_laws.specs.Setting.{setting}
use Rattle.stateful_exec_laws.proofs.pauses.Passing.{PassesBy}
use Rattle.stateful_exec_laws.proofs.pauses.PassingRules.{PassesBy-pauses, PassesBy-resumes}
use Rattle.stateful_loop_model.specs.Moments.{Moment, inner, with_inner}
use Rattle.stateful_loop_model.specs.Rules.{finalizing, BeginsFinalization, EndsFinalization}
use Rattle.stateful_loop_model.specs.declared.message.Action.TheVariants as action
use Rattle.stateful_loop_model.specs.declared.message.Message.TheVariants as message
use Rattle.stateful_loop_model.specs.declared.tables.Finalizing.{Finalizing}
use Rattle.stateful_loop_laws.specs.Tickets.{ticket_in_front, IsReceiptAt, TicketsStand, TicketsBehind}
use Rattle.stateful_loop_laws.proofs.tickets.Carrying.{NoJob, handed_once, spares_passing}
use Rattle.stateful_loop_laws.proofs.tickets.Grounded.{IsGrounded}
use Rattle.stateful_loop_laws.proofs.tickets.QueueRules.{Grows, grows_resumes}
use Rattle.stateful_loop_laws.proofs.tickets.Saying.{IsAside, SaysSame-same, SaysSame-then, SaysSame-mark, SaysSame-after}
use Rattle.stateful_loop_laws.proofs.tickets.Taken.{IsTaken}
use Rattle.stateful_loop_laws.proofs.tickets.Times.{times, AreApart, apart_fewer}
use Rattle.stateful_loop_laws.proofs.tickets.Waiting.{Other, Spares, WaitsAt, waiting, waiting_at, times-waiting, times-pushed, waits_of, waits_still, message_stays, TicketsStand-by, none_of}

module _ {B C I P R D H G U : Type 0} (w : Workings B C I P R D H G U) (stored : ℕ → Option (Named B)) (p : Past B C I) (m : Moment w)
    (g : IsGrounded w stored p m.execution.state m.execution.build) where
  abbrev Waits_for : ℕ → Type 0
  Waits_for = Other w stored m.execution.state m.execution.build NoJob

  -- a finalization begins
  pub begins-tickets : (t : ℕ) (b : Named B) (now : Moment w) → m.loop.front ≡ None → IsTaken w stored p (action.Message (message.Finalized t b)) m
      → BeginsFinalization w t b m now → TicketsBehind w stored p m now
  begins-tickets t b now idle taken r = subst (λ (n : Moment w). TicketsBehind w stored p m n) (sym r.becomes) (record {
    more = mark.Began t b ∷ r.withdrawn;
    marks_are = refl;
    tickets = TicketsStand-by w stored past begun
        (record {
          queue = still.queue;
          actions = still.actions;
          front = own;
          held = still.held;
        })
        (apart_fewer (t ∷ waiting_at w stored m)
        (waiting m.loop.queue m.loop.actions (Some (finalizing {G = G} t b)) m.loop.durability.held) taken.apart (λ u.
        let before = times-waiting u m.loop.queue m.loop.actions m.loop.front m.loop.durability.held in
        let empty : times u (ticket_in_front m.loop.front) ≡ 0 = rw idle refl in
        let behind = times-waiting u m.loop.queue m.loop.actions (Some (finalizing {G = G} t b)) m.loop.durability.held in
        omega (arith, before, behind, empty)))
        (subst (λ (v : Tables B C I R U). AreApart v.recovered) (sym r.pauses.state) taken.once);
  })
    where
      past : Past B C I
      past = after (Made (mark.Began t b) ∷ p) r.withdrawn

      begun : Moment w
      begun = record m {
        execution = record m.execution { state = r.state; front = front_at b Begun };
        loop = record m.loop { front = Some (finalizing t b) };
        marks = m.marks ++ mark.Began t b ∷ r.withdrawn;
      }

      aside : All (IsAside Waits_for) r.withdrawn
      aside = subst (λ (marks : List (Mark B)). All (IsAside Waits_for) marks) (sym r.pauses.marks_are)
          (All-map (IsAside Waits_for) (λ f. mark.Withdrawn f) r.pauses.fetches (λ k d l. tt))

      f : PassesBy w NoJob Waits_for (inner w m) (record (inner w m) { state = r.state; marks = m.marks ++ r.withdrawn })
      f = PassesBy-pauses w NoJob Waits_for (inner w m) (Some r.boundary) r.state r.withdrawn r.pauses

      spares : Spares w stored NoJob p past m.execution.state r.state m.execution.build m.execution.build
      spares = record {
        says = SaysSame-then (setting w stored) Waits_for p (Made (mark.Began t b) ∷ p) past
            (SaysSame-mark (setting w stored) Waits_for p (mark.Began t b) tt)
            (SaysSame-after (setting w stored) Waits_for (Made (mark.Began t b) ∷ p) r.withdrawn aside);
        elsewhere = λ u o. f.elsewhere u o o.0;
        unbuilt = λ u off h. h;
        queued = λ u off some. rw r.pauses.state some;
        recovered = λ u off some all. rw r.pauses.state all;
        receipts = g.receipts;
      }

      still : WaitsAt w stored past (record m { execution = record m.execution { state = r.state } })
      still = waits_still w stored NoJob p past m.execution.state r.state m.execution.build m.execution.build spares m.loop.queue m.loop.actions
          m.loop.front m.loop.durability.held (none_of (waiting_at w stored m)) taken.waits

      own : IsLiveReceipt t past × (finalized_since t past ≡ Some b)
      own = message_stays w stored NoJob p past m.execution.state r.state m.execution.build m.execution.build spares (message.Finalized t b)
          (λ never. never) taken.stands

  -- a finalization ends
  pub ends-tickets : (stored_now : ℕ → Option (Named B)) → m.execution.state.recovered ≡ [] → (f : Finalizing B G) (now : Moment w)
      → m.loop.front ≡ Some f → TicketsStand w stored p m → EndsFinalization w stored_now f m now → TicketsBehind w stored p m now
  ends-tickets stored_now bare f now there s r = subst (λ (n : Moment w). TicketsBehind w stored p m n) (sym r.becomes) (record {
    more = passes.more;
    marks_are = passes.marks_are;
    tickets = TicketsStand-by w stored past ended
        (record {
          queue = still.queue;
          actions = still.actions;
          front = tt;
          held = All-push
              (λ (receipt : ℕ × ℕ). IsReceiptAt w.header past receipt.1 receipt.0) m.loop.durability.held (height, f.ticket) still.held own;
        })
        (apart_fewer (waiting_at w stored m)
        (waiting {G = G} m.loop.queue m.loop.actions None (m.loop.durability.held ++ (height, f.ticket) ∷ [])) s.apart (λ u.
        let before = times-waiting u m.loop.queue m.loop.actions m.loop.front m.loop.durability.held in
        let in_front : times u (ticket_in_front m.loop.front) ≡ times u (f.ticket ∷ []) = rw there refl in
        let behind = times-waiting {G = G} u m.loop.queue m.loop.actions None (m.loop.durability.held ++ (height, f.ticket) ∷ []) in
        let pushed = times-pushed (λ (receipt : ℕ × ℕ). receipt.1) u m.loop.durability.held (height, f.ticket) in
        omega (arith, before, behind, in_front, pushed)))
        (handed_once (λ u. Unit {0}) m.execution.state r.then.state grows bare);
  })
    where
      height : ℕ
      height = w.header.height f.block.block

      passes : PassesBy w NoJob Waits_for (inner w m) r.then
      passes = PassesBy-resumes w NoJob Waits_for stored_now (inner w m) r.then (λ k never. absurd never) (λ u o. o.0) r.resumes

      grows : Grows w (inner w m) r.then
      grows = grows_resumes w stored_now (inner w m) r.then g.orderly r.resumes

      past : Past B C I
      past = after p passes.more

      ended : Moment w
      ended = record (with_inner w m r.then) {
        execution = record m.execution { state = r.then.state; front = None };
        loop = record m.loop { durability = record m.loop.durability { held = m.loop.durability.held ++ (height, f.ticket) ∷ [] }; front = None };
      }

      still : WaitsAt w stored past (with_inner w m r.then)
      still = waits_still w stored NoJob p past m.execution.state r.then.state m.execution.build m.execution.build
          (spares_passing w stored NoJob p p (inner w m) r.then m.execution.build g (SaysSame-same (setting w stored) Waits_for p) passes grows)
          m.loop.queue m.loop.actions m.loop.front m.loop.durability.held (none_of (waiting_at w stored m)) (waits_of w stored p m s)

      own : IsReceiptAt w.header past f.ticket height
      own = let h = rw there at still.front in record { live = h.0; block = f.block; finalized = h.1; height_is = refl }
