-- Steps of a finalization and of barriers that serve nothing of what waits.
use Rattle.std.proofs.Common.{◌≡◌, ◌≢◌, ◌++◌, ℕ, Bool, false, List, [], ◌∷◌, All, Option, Some, IfSome, refl, sym, ap, ◌∙◌, subst}
use Rattle.std.proofs.lemmas.List.{append-nil}
use Rattle.std.proofs.lemmas.List.Elements.{All-nil, All-cons}
use Rattle.stateful_base.specs.Names.{Named}
use Rattle.stateful_db.specs.declared.application.Hooked.{Hooked}
use Rattle.stateful_db.specs.declared.application.Hooked.TheVariants as hooked
use Rattle.stateful_history.specs.Past.{Past}
use Rattle.stateful_history.specs.declared.mark.Mark.{Mark}
use Rattle.stateful_history.specs.declared.mark.Mark.TheVariants as mark
use Rattle.stateful_exec_model.specs.Finalizing.{HooksOn}
use Rattle.stateful_exec_model.specs.Workings.{Workings}
use Rattle.stateful_exec_model.specs.declared.front.Front.{Front}
use Rattle.stateful_exec_tables.specs.declared.state.Tables.{Tables}
use Rattle.stateful_exec_laws.specs.Setting.{setting}
use Rattle.stateful_loop_model.specs.Moments.{Moment}
use Rattle.stateful_loop_model.specs.Rules.{finalizing, BeginsBarrier, RunsFinalized, AppliesBlock, ObservesBlock}
use Rattle.stateful_loop_model.specs.declared.barriers.Active.{Active}
use Rattle.stateful_loop_model.specs.declared.tables.Finalizing.{Finalizing}
use Rattle.stateful_loop_laws.specs.Execution.{Executes}
use Rattle.stateful_loop_laws.specs.Tickets.{TicketsStand, TicketsBehind}
use Rattle.stateful_loop_laws.proofs.tickets.Carrying.{NoJob, named, KeepsWaiting, still_marked}
use Rattle.stateful_loop_laws.proofs.tickets.Grounded.{grounded}
use Rattle.stateful_loop_laws.proofs.tickets.Saying.{IsAside, SaysSame-same}
use Rattle.stateful_loop_laws.proofs.tickets.Waiting.{Other}

module _ {B C I P R D H G U : Type 0} (w : Workings B C I P R D H G U) (stored : ℕ → Option (Named B)) (base : w.States) (p : Past B C I)
    (m : Moment w) (x : Executes w stored base p m) (s : TicketsStand w stored p m) where
  abbrev Waits_for : ℕ → Type 0
  Waits_for = Other w stored m.execution.state m.execution.build NoJob

  one_aside : (mark : Mark B) → IsAside Waits_for mark → All (IsAside Waits_for) (mark ∷ [])
  one_aside mark h = All-cons (IsAside Waits_for) mark [] h (All-nil (IsAside Waits_for))

  -- where neither requests nor the queue nor the build change
  still : (now : Moment w) (marks : List (Mark B)) → now.marks ≡ m.marks ++ marks → All (IsAside Waits_for) marks
      → now.execution.state.requests ≡ m.execution.state.requests
      → now.execution.state.queued ≡ m.execution.state.queued → now.execution.state.recovered ≡ m.execution.state.recovered
      → now.execution.build ≡ m.execution.build
      → KeepsWaiting w stored m now → TicketsBehind w stored p m now
  still now marks made aside requests queued recovered build k =
      still_marked w stored p p m now marks (grounded w stored base p m x)
      (SaysSame-same (setting w stored) Waits_for p) made aside requests queued recovered
      (λ t h. subst (λ (o : Option _). IfSome o (λ b. b.ticket ≢ t)) (sym build) h) k s

  -- a run of the finalized block begins
  pub runs-tickets : (b : Named B) (now : Moment w) → RunsFinalized w b m now → TicketsBehind w stored p m now
  runs-tickets b now r = subst (λ (n : Moment w). TicketsBehind w stored p m n) (sym r.becomes)
      (still _ _ refl (one_aside _ tt) (ap (λ (v : Tables B C I R U). v.requests) r.runs.state)
      (ap (λ (v : Tables B C I R U). v.queued) r.runs.state) (ap (λ (v : Tables B C I R U). v.recovered) r.runs.state) refl
      (record { queue = refl; actions = refl; front = refl; held = refl }))

  -- the finalized block is applied
  pub applies-tickets : (f : Finalizing B G) (now : Moment w) → m.loop.front ≡ Some f → AppliesBlock w f m now → TicketsBehind w stored p m now
  applies-tickets f now front r = subst (λ (n : Moment w). TicketsBehind w stored p m n) (sym r.becomes)
      (still _ _ refl (one_aside _ tt) (ap (λ (v : Tables B C I R U). v.requests) r.moves.state)
      (ap (λ (v : Tables B C I R U). v.queued) r.moves.state) (ap (λ (v : Tables B C I R U). v.recovered) r.moves.state) refl
      (record { queue = refl; actions = refl; front = sym (ap (λ (o : Option (Finalizing B G)). named o) front); held = refl }))

  -- a barrier begins
  pub barrier-tickets : (now : Moment w) → BeginsBarrier w m now → TicketsBehind w stored p m now
  barrier-tickets now r = subst (λ (n : Moment w). TicketsBehind w stored p m n) (sym r.becomes)
      (still _ _ refl (one_aside _ tt) refl refl refl refl (record { queue = refl; actions = refl; front = refl; held = refl }))

  -- a barrier breaks, and the loop ends
  pub breaks-tickets : (active : Active) (now : Moment w)
      → now ≡ record m { loop = record m.loop { up = false }; marks = m.marks ++ mark.BarrierDone active.number active.height false ∷ [] }
      → TicketsBehind w stored p m now
  breaks-tickets active now is = subst (λ (n : Moment w). TicketsBehind w stored p m n) (sym is)
      (still _ _ refl (one_aside _ tt) refl refl refl refl (record { queue = refl; actions = refl; front = refl; held = refl }))

  abbrev observed_at : Finalizing B G → Tables B C I R U → Option (Front B R U H) → List (Mark B) → Moment w
  observed_at f state front marks =
      record m {
        execution = record m.execution { state = state; front = front };
        loop = record m.loop { front = Some (finalizing f.ticket f.block) };
        marks = marks;
      }

  hooks_on : (f : Finalizing B G) (hook : Hooked H) (state : Tables B C I R U) (front : Option (Front B R U H)) (marks : List (Mark B))
      (live : Bool) → m.loop.front ≡ Some f
      → HooksOn w f.block hook m.execution.state state m.marks marks front live → TicketsBehind w stored p m (observed_at f state front marks)
  hooks_on f hooked.Done state front marks live there h =
      still (observed_at f state front marks) [] (h.1 ∙ sym (append-nil m.marks)) (All-nil (IsAside Waits_for))
      (ap (λ (v : Tables B C I R U). v.requests) h.0) (ap (λ (v : Tables B C I R U). v.queued) h.0)
      (ap (λ (v : Tables B C I R U). v.recovered) h.0) refl
      (record { queue = refl; actions = refl; front = sym (ap (λ (o : Option (Finalizing B G)). named o) there); held = refl })
  hooks_on f (hooked.Pending hook) state front marks live there h =
      still (observed_at f state front marks) _ h.2 (one_aside _ tt) (ap (λ (v : Tables B C I R U). v.requests) h.0)
      (ap (λ (v : Tables B C I R U). v.queued) h.0) (ap (λ (v : Tables B C I R U). v.recovered) h.0) refl
      (record { queue = refl; actions = refl; front = sym (ap (λ (o : Option (Finalizing B G)). named o) there); held = refl })

  -- the application observes the block
  pub observes-tickets : (f : Finalizing B G) (captured : G) (now : Moment w) → m.loop.front ≡ Some f → ObservesBlock w f captured m now
      → TicketsBehind w stored p m now
  observes-tickets f captured now there r = subst (λ (n : Moment w). TicketsBehind w stored p m n) (sym r.becomes)
      (hooks_on f r.observes.hook r.state r.front r.marks r.live there r.observes.hooks_on)
