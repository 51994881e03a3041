-- The action of a proposal is taken where its build starts or is declined, and what waits stands.
use Rattle.std.proofs.Common.{◌≡◌, ◌≢◌, ◌++◌, ℕ, [], ◌∷◌, Option, IfSome, refl, sym, ap, ◌∙◌, subst}
use Rattle.std.proofs.lemmas.List.Elements.{All-nil, All-cons}
use Rattle.stateful_base.specs.Names.{Named}
use Rattle.stateful_history.specs.Past.{Past, after}
use Rattle.stateful_history.specs.declared.mark.JobKind.TheVariants as job
use Rattle.stateful_history.specs.declared.mark.Mark.{Mark}
use Rattle.stateful_history.specs.declared.mark.Mark.TheVariants as mark
use Rattle.stateful_table.specs.Table.{without}
use Rattle.stateful_exec_model.specs.Workings.{Workings}
use Rattle.stateful_exec_model.specs.declared.building.Building.{Building}
use Rattle.stateful_exec_tables.specs.declared.state.Tables.{Tables}
use Rattle.stateful_exec_laws.specs.Setting.{setting}
use Rattle.stateful_exec_laws.proofs.runs.Removing.{at_other}
use Rattle.stateful_loop_model.specs.Moments.{Moment}
use Rattle.stateful_loop_model.specs.Rules.{Builds, starts, declines}
use Rattle.stateful_loop_model.specs.declared.message.Action.TheVariants as action
use Rattle.stateful_loop_laws.specs.Tickets.{TicketsBehind}
use Rattle.stateful_loop_laws.proofs.tickets.Grounded.{IsGrounded}
use Rattle.stateful_loop_laws.proofs.tickets.Saying.{IsAside, SaysSame-after}
use Rattle.stateful_loop_laws.proofs.tickets.Taken.{IsTaken, taken_others}
use Rattle.stateful_loop_laws.proofs.tickets.Times.{apart_rest}
use Rattle.stateful_loop_laws.proofs.tickets.Waiting.{Other, waiting_at, waits_still, TicketsStand-by}

module _ {B C I P R D H G U : Type 0} (w : Workings B C I P R D H G U) (stored : ℕ → Option (Named B)) (p : Past B C I) (m : Moment w)
    (g : IsGrounded w stored p m.execution.state m.execution.build)
    (t : ℕ) (taken : IsTaken w stored p (action.Build t) m) where
  abbrev Own : ℕ → Type 0
  Own u = u ≡ t

  abbrev Waits_for : ℕ → Type 0
  Waits_for = Other w stored m.execution.state m.execution.build Own

  -- its proposal leaves the queue, and one mark is made
  left_queue : (now : Moment w) (mark : Mark B) → IsAside Waits_for mark → now.marks ≡ m.marks ++ mark ∷ [] → now.loop ≡ m.loop
      → now.execution.state.requests ≡ m.execution.state.requests → now.execution.state.queued ≡ without m.execution.state.queued t
      → now.execution.state.recovered ≡ m.execution.state.recovered
      → ((u : ℕ) → (Own u → ⊥) → IfSome m.execution.build (λ b. b.ticket ≢ u) → IfSome now.execution.build (λ b. b.ticket ≢ u))
      → TicketsBehind w stored p m now
  left_queue now mark aside made loop requests queued recovered unbuilt =
      let q : Past B C I = after p (mark ∷ []) in
      let still = waits_still w stored Own p q m.execution.state now.execution.state m.execution.build now.execution.build
      (record {
        says = SaysSame-after (setting w stored) Waits_for p (mark ∷ []) (All-cons (IsAside Waits_for) mark [] aside (All-nil (IsAside Waits_for)));
        elsewhere = λ u o. record {
          absent = rw requests o.0.absent;
          not_queued = rw queued
              (at_other m.execution.state.queued t u o.2 ∙ o.0.not_queued);
        };
        unbuilt = unbuilt;
        queued = λ u off some. rw (queued, at_other m.execution.state.queued t u off) some;
        recovered = λ u off some all. rw recovered all;
        receipts = g.receipts;
      })
      m.loop.queue m.loop.actions m.loop.front m.loop.durability.held (taken_others w stored p (action.Build t) m taken) taken.waits in
      record {
        more = mark ∷ [];
        marks_are = made;
        tickets = TicketsStand-by w stored q now
            (record { queue = rw loop still.queue; actions = rw loop still.actions; front = rw loop still.front; held = rw loop still.held })
            (rw loop (apart_rest t (waiting_at w stored m) taken.apart)) (rw recovered taken.once);
      }

  -- the build of a proposal starts, or is declined
  pub builds-tickets : (provider : P) (now : Moment w) → Builds w provider t m now → TicketsBehind w stored p m now
  builds-tickets provider now (starts {state = state} {build = build} {next = next} s is) = subst (λ (n : Moment w). TicketsBehind w stored p m n)
      (sym is)
      (left_queue
      (record m {
        execution = record m.execution { state = state; build = build };
        next = next;
        marks = m.marks ++ mark.Started m.execution.state.next_job job.Build s.proposal.ancestry.first.digest ∷ [];
      })
      (mark.Started m.execution.state.next_job job.Build s.proposal.ancestry.first.digest) tt refl refl
      (ap (λ (v : Tables B C I R U). v.requests) s.state) (ap (λ (v : Tables B C I R U). v.queued) s.state)
      (ap (λ (v : Tables B C I R U). v.recovered) s.state)
      (λ u off h. subst (λ (o : Option (Building B C D)). IfSome o (λ b. b.ticket ≢ u)) (sym s.build_is) (λ same. off (sym same))))
  builds-tickets provider now (declines off is) = subst (λ (n : Moment w). TicketsBehind w stored p m n) (sym is)
      (left_queue (record m {
        execution = record m.execution { state = record m.execution.state { queued = without m.execution.state.queued t } };
        marks = m.marks ++ mark.Declined t ∷ [];
      })
      (mark.Declined t) (λ o. o.2 refl) refl refl refl refl refl (λ u other h. h))
