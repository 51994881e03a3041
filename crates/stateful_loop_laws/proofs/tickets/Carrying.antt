-- Rules of execution leave what waits under other tickets than those that they serve.
use Rattle.std.proofs.Common.{◌≡◌, ◌≢◌, ◌++◌, ℕ, option_map, List, [], ◌∷◌, All, Option, Some, None, IfSome, IsSome, refl, sym, ap, ◌∙◌, subst}
use Rattle.std.proofs.lemmas.List.Elements.{All-append, All-weaker}
use Rattle.stateful_base.specs.Names.{Named}
use Rattle.stateful_history.specs.Finalizations.{finalized_since}
use Rattle.stateful_history.specs.Requests.{IsLiveReceipt}
use Rattle.stateful_history.specs.Past.{Past, after}
use Rattle.stateful_history.specs.declared.mark.Mark.{Mark}
use Rattle.stateful_table.specs.Table.{at}
use Rattle.stateful_exec_model.specs.Moments as exec
use Rattle.stateful_exec_model.specs.Workings.{Workings}
use Rattle.stateful_exec_model.specs.declared.building.Building.{Building}
use Rattle.stateful_exec_tables.specs.declared.state.Tables.{Tables}
use Rattle.stateful_exec_laws.specs.Setting.{setting}
use Rattle.stateful_exec_laws.proofs.pauses.Passing.{PassesBy}
use Rattle.stateful_loop_model.specs.Moments.{Moment, inner}
use Rattle.stateful_loop_model.specs.declared.tables.Finalizing.{Finalizing}
use Rattle.stateful_loop_laws.specs.Tickets.{ticket_in_front, TicketsStand, TicketsBehind}
use Rattle.stateful_loop_laws.proofs.tickets.Grounded.{IsGrounded}
use Rattle.stateful_loop_laws.proofs.tickets.Queueing.{QueueGrows, some_none}
use Rattle.stateful_loop_laws.proofs.tickets.QueueRules.{Grows}
use Rattle.stateful_loop_laws.proofs.tickets.Saying.{IsAside, SaysSame, SaysSame-then, SaysSame-after, all_aside}
use Rattle.stateful_loop_laws.proofs.tickets.Times.{AreApart}
use Rattle.stateful_loop_laws.proofs.tickets.Waiting.{Other, Spares, waiting_at, waits_of, waits_still, none_of}

-- no job
abbrev pub NoJob : ℕ → Type 0
NoJob j = ⊥

module _ {B G : Type 0} where
  -- the ticket and the block of a finalization
  abbrev pub named : Option (Finalizing B G) → Option (ℕ × Named B)
  named front = option_map (λ f. (f.ticket, f.block)) front

  -- what holds of the ticket and the block of one holds of another one that has the same
  pub front_named : (Q : ℕ × Named B → Type 0) (a b : Option (Finalizing B G)) → named a ≡ named b → IfSome b (λ f. Q (f.ticket, f.block))
      → IfSome a (λ f. Q (f.ticket, f.block))
  front_named Q None b is h = tt
  front_named Q (Some f) None is h = let never : ⊥ = cc in absurd never
  front_named Q (Some f) (Some g) is h = let same : (f.ticket, f.block) ≡ (g.ticket, g.block) = cc in subst Q (sym same) h

  -- which is then of the same ticket
  pub front_ticket : (a b : Option (Finalizing B G)) → named a ≡ named b → ticket_in_front a ≡ ticket_in_front b
  front_ticket None None is = refl
  front_ticket None (Some g) is = let never : ⊥ = cc in absurd never
  front_ticket (Some f) None is = let never : ⊥ = cc in absurd never
  front_ticket (Some f) (Some g) is = let same : (f.ticket, f.block) ≡ (g.ticket, g.block) = cc in ap (λ (y : ℕ × Named B). y.0 ∷ []) same

module _ {B C I R U : Type 0} where
  -- what is queued and was handed out isn't handed out again
  pub still_handed : (Own : ℕ → Type 0) (old new : Tables B C I R U) → QueueGrows Own old new → (t : ℕ) → IsSome (at old.queued t)
      → All (λ u. u ≢ t) old.recovered → All (λ u. u ≢ t) new.recovered
  still_handed Own old new g t some all =
      subst (λ us. All (λ u. u ≢ t) us) (sym g.recovered) (All-append (λ u. u ≢ t) old.recovered g.added all
      (All-weaker (λ u. at old.queued u ≡ None) (λ u. u ≢ t)
      (λ u off same. some_none (at old.queued u) (subst (λ n. IsSome (at old.queued n)) (sym same) some) off) g.added g.was))

  -- what is handed out behind nothing is of different tickets
  pub handed_once : (Own : ℕ → Type 0) (old new : Tables B C I R U) → QueueGrows Own old new → old.recovered ≡ [] → AreApart new.recovered
  handed_once Own old new g is = subst (λ us. AreApart us) (sym (g.recovered ∙ ap (λ us. us ++ g.added) is)) g.apart

module _ {B C I P R D H G U : Type 0} (w : Workings B C I P R D H G U) (stored : ℕ → Option (Named B)) where
  -- a rule of execution, behind what came before it
  pub spares_passing : (Own : ℕ → Type 0) (p q : Past B C I) (m now : exec.Moment w) (build : Option (Building B C D))
      → IsGrounded w stored p m.state build
      → SaysSame (setting w stored) (Other w stored m.state build Own) p q → (f : PassesBy w NoJob (Other w stored m.state build Own) m now)
      → Grows w m now
      → Spares w stored Own p (after q f.more) m.state now.state build build
  spares_passing Own p q m now build g says f grows = record {
    says = SaysSame-then (setting w stored) (Other w stored m.state build Own) p q (after q f.more) says
        (SaysSame-after (setting w stored) (Other w stored m.state build Own) q f.more
        (all_aside NoJob (Other w stored m.state build Own) f.more f.beside));
    elsewhere = λ t o. f.elsewhere t o o.0;
    unbuilt = λ t off h. h;
    queued = λ t off some. grows.still t some;
    recovered = λ t off some all. still_handed (λ u. Unit {0}) m.state now.state grows t some all;
    receipts = g.receipts;
  }

  -- marks that end none of theirs, where neither requests nor the queue change
  pub spares_marks : (Own : ℕ → Type 0) (p q : Past B C I) (marks : List (Mark B)) (v new : Tables B C I R U)
      (build after_build : Option (Building B C D)) → IsGrounded w stored p v build
      → SaysSame (setting w stored) (Other w stored v build Own) p q → All (IsAside (Other w stored v build Own)) marks
      → new.requests ≡ v.requests → new.queued ≡ v.queued → new.recovered ≡ v.recovered
      → ((t : ℕ) → (Own t → ⊥) → IfSome build (λ b. b.ticket ≢ t) → IfSome after_build (λ b. b.ticket ≢ t))
      → Spares w stored Own p (after q marks) v new build after_build
  spares_marks Own p q marks v new build after_build g says aside requests queued recovered unbuilt = record {
    says = SaysSame-then (setting w stored) (Other w stored v build Own) p q (after q marks) says
        (SaysSame-after (setting w stored) (Other w stored v build Own) q marks aside);
    elsewhere = λ t o. record { absent = rw requests o.0.absent; not_queued = rw queued o.0.not_queued };
    unbuilt = unbuilt;
    queued = λ t off some. rw queued some;
    recovered = λ t off some all. rw recovered all;
    receipts = g.receipts;
  }

  -- the loop has the same messages, actions and receipts, and a finalization of the same ticket and block in front
  pub record KeepsWaiting (m now : Moment w) : Type 0 where
    pub queue : now.loop.queue ≡ m.loop.queue
    pub actions : now.loop.actions ≡ m.loop.actions
    pub front : named now.loop.front ≡ named m.loop.front
    pub held : now.loop.durability.held ≡ m.loop.durability.held

  -- where none of what waits is served, all of it stands still
  pub all_still : (p q : Past B C I) (m now : Moment w)
      → Spares w stored NoJob p q m.execution.state now.execution.state m.execution.build now.execution.build
      → KeepsWaiting m now → AreApart now.execution.state.recovered → TicketsStand w stored p m → TicketsStand w stored q now
  all_still p q m now s k once h =
      let still = waits_still w stored NoJob p q m.execution.state now.execution.state m.execution.build now.execution.build s m.loop.queue
      m.loop.actions m.loop.front m.loop.durability.held
      (none_of (waiting_at w stored m)) (waits_of w stored p m h) in
      record {
        queue = rw k.queue still.queue;
        actions = rw k.actions still.actions;
        front = front_named (λ f. IsLiveReceipt f.0 q × (finalized_since f.0 q ≡ Some f.1)) now.loop.front m.loop.front k.front still.front;
        held = rw k.held still.held;
        apart = rw (k.queue, k.actions, front_ticket now.loop.front m.loop.front k.front, k.held) h.apart;
        once = once;
      }

  -- marks that end none of theirs, where neither requests nor the queue change
  pub still_marked : (p q : Past B C I) (m now : Moment w) (marks : List (Mark B)) → IsGrounded w stored p m.execution.state m.execution.build
      → SaysSame (setting w stored) (Other w stored m.execution.state m.execution.build NoJob) p q → now.marks ≡ m.marks ++ marks
      → All (IsAside (Other w stored m.execution.state m.execution.build NoJob)) marks → now.execution.state.requests ≡ m.execution.state.requests
      → now.execution.state.queued ≡ m.execution.state.queued → now.execution.state.recovered ≡ m.execution.state.recovered
      → ((t : ℕ) → IfSome m.execution.build (λ b. b.ticket ≢ t) → IfSome now.execution.build (λ b. b.ticket ≢ t))
      → KeepsWaiting m now → TicketsStand w stored p m → TicketsBehind w stored q m now
  still_marked p q m now marks g says made aside requests queued recovered unbuilt k h = record {
    more = marks;
    marks_are = made;
    tickets = all_still p (after q marks) m now
        (spares_marks NoJob p q marks m.execution.state now.execution.state m.execution.build now.execution.build g says aside requests queued
        recovered (λ t off. unbuilt t))
        k (rw recovered h.once) h;
  }

  -- a rule of execution that serves none of theirs, where nothing was to be handed out
  pub still_passing : (p q : Past B C I) (m now : Moment w) (then : exec.Moment w) → IsGrounded w stored p m.execution.state m.execution.build
      → SaysSame (setting w stored) (Other w stored m.execution.state m.execution.build NoJob) p q
      → PassesBy w NoJob (Other w stored m.execution.state m.execution.build NoJob) (inner w m) then → Grows w (inner w m) then
      → now.marks ≡ then.marks → now.execution.state ≡ then.state → now.execution.build ≡ m.execution.build
      → m.execution.state.recovered ≡ [] → KeepsWaiting m now → TicketsStand w stored p m → TicketsBehind w stored q m now
  still_passing p q m now then g says f grows made state build bare k h = record {
    more = f.more;
    marks_are = made ∙ f.marks_are;
    tickets = all_still p (after q f.more) m now
        (rw (state, build) (spares_passing NoJob p q (inner w m) then m.execution.build g says f grows))
        k (rw state (handed_once (λ u. Unit {0}) m.execution.state then.state grows bare)) h;
  }
