-- Execution stands after the events that it doesn't take in.
use Rattle.std.proofs.Common.{◌≡◌, ◌≢◌, ◌≤◌, ◌<◌, ℕ, true, ◌∷◌, Option, None, Some, IfSome, refl, arith}
use Rattle.std.proofs.lemmas.Bool.Decides.{nat_tests}
use Rattle.stateful_base.specs.Names.{Named}
use Rattle.stateful_base.specs.declared.digest.Digest.{Digest}
use Rattle.stateful_history.specs.Anchors.{applied, anchor_of}
use Rattle.stateful_history.specs.Finalizations.{begun}
use Rattle.stateful_history.specs.Live.{bound_of, is_new, names_live}
use Rattle.stateful_history.specs.Met.{TrueNames}
use Rattle.stateful_history.specs.Past.{Past, Came}
use Rattle.stateful_history.specs.declared.event.Event.{Event}
use Rattle.stateful_history.specs.declared.event.Event.TheVariants.{Verify, Prepare, Propose, Subscribe, Finalized, Cancel, Fetched, Turn, Flushed, Stop, Progress, Restart}
use Rattle.stateful_exec_model.specs.Workings.{Workings, Point}
use Rattle.stateful_exec_model.specs.declared.building.Building.{Building}
use Rattle.stateful_exec_tables.specs.declared.state.Tables.{Tables}
use Rattle.stateful_exec_laws.specs.Setting.{setting}
use Rattle.stateful_exec_laws.specs.Building.{BuildStands}
use Rattle.stateful_exec_laws.proofs.requests.Arrivals.{live_below, new_elsewhere}
use Rattle.stateful_exec_laws.proofs.ended.ConcludeStands.{TellsOf}
use Rattle.stateful_exec_laws.proofs.requests.Tells.{IsSilent, verify-TellsOf, prepare-TellsOf, propose-TellsOf, subscribe-TellsOf, finalized-TellsOf}
use Rattle.stateful_loop_model.specs.Moments.{Moment}
use Rattle.stateful_loop_laws.specs.Execution.{Executes}
use Rattle.stateful_loop_laws.proofs.execution.Kept.{Executes-tells, Executes-silent}

-- execution doesn't take in the event
abbrev pub IsBesides : {B C I : Type 0} → Event B C I → Type 0
IsBesides (Cancel t) = ⊥
IsBesides (Fetched f answer) = ⊥
IsBesides (Turn j) = ⊥
IsBesides (Restart floor keep) = ⊥
IsBesides event = Unit {0}

module _ {B C I P R D H G U : Type 0} (w : Workings B C I P R D H G U) (stored : ℕ → Option (Named B)) (base : w.States) (p : Past B C I) where
  -- nothing is built for a new ticket
  pub new_unbuilt : (points : Digest → Point w) (next : w.Ids) (v : Tables B C I R U) (build : Option (Building B C D)) (t : ℕ) → is_new t p ≡ true
      → BuildStands w stored p points next v build → IfSome build (λ b. b.ticket ≢ t)
  new_unbuilt points next v None t fresh h = tt
  new_unbuilt points next v (Some b) t fresh h =
      let above : bound_of p ≤ t = grind (arith, nat_tests, fresh) in
      let below : b.ticket < bound_of p = live_below b.ticket p _ h.each.proposal.live in
      λ same. omega (arith, same, above, below)

  module _ (m : Moment w) (h : Executes w stored base p m) (e : Event B C I) (anchor_same : anchor_of w.header (Came e ∷ p) ≡ anchor_of w.header p)
      (applied_same : applied (Came e ∷ p) ≡ applied p) (begun_same : begun (Came e ∷ p) ≡ begun p)
      (names : TrueNames (setting w stored) (Came e ∷ p)) where
    -- after an event of a new ticket
    came_under : (t : ℕ) → TellsOf (setting w stored) p (Came e) t → is_new t p ≡ true → Executes w stored base (Came e ∷ p) m
    came_under t tells fresh =
        Executes-tells w stored base p (Came e) anchor_same applied_same begun_same names m h t tells
        (new_elsewhere w stored p h.points h.point m.next m.execution.state h.tables t fresh)
        (new_unbuilt h.points m.next m.execution.state m.execution.build t fresh h.builds)

    came_silently : IsSilent (setting w stored) p (Came e) → Executes w stored base (Came e ∷ p) m
    came_silently silent = Executes-silent w stored base p (Came e) anchor_same applied_same begun_same names m h silent

  -- execution stands after each event that it doesn't take in, where a new ticket is new
  pub Executes-came : (m : Moment w) (e : Event B C I) (count : ℕ) → IsBesides e → names_live count p e ≡ true
      → TrueNames (setting w stored) (Came e ∷ p) → Executes w stored base p m → Executes w stored base (Came e ∷ p) m
  Executes-came m (Verify t ancestry) count is live names h =
      came_under m h (Verify t ancestry) refl refl refl names t (verify-TellsOf (setting w stored) p t ancestry) live
  Executes-came m (Prepare t context ancestry input) count is live names h =
      came_under m h (Prepare t context ancestry input) refl refl refl names t (prepare-TellsOf (setting w stored) p t context ancestry input) live
  Executes-came m (Propose t context ancestry input) count is live names h =
      came_under m h (Propose t context ancestry input) refl refl refl names t (propose-TellsOf (setting w stored) p t context ancestry input) live
  Executes-came m (Subscribe t) count is live names h =
      came_under m h (Subscribe t) refl refl refl names t (subscribe-TellsOf (setting w stored) p t) live
  Executes-came m (Finalized t b) count is live names h =
      came_under m h (Finalized t b) refl refl refl names t (finalized-TellsOf (setting w stored) p t b) live
  Executes-came m (Cancel t) count is live names h = absurd is
  Executes-came m (Fetched f answer) count is live names h = absurd is
  Executes-came m (Turn j) count is live names h = absurd is
  Executes-came m (Restart floor keep) count is live names h = absurd is
  Executes-came m (Flushed k i answer) count is live names h = came_silently m h (Flushed k i answer) refl refl refl names (record {
    calm = record { tip = refl; starts_none = tt; built = λ d was. was; kept = refl };
    jobs = λ j. record { live = refl; started = refl; turns = refl };
    tickets = λ t. record { live = refl; verified = refl; proposed = refl };
    fetches = λ f. record { live = refl; asked = refl };
  })
  Executes-came m Stop count is live names h = came_silently m h Stop refl refl refl names (record {
    calm = record { tip = refl; starts_none = tt; built = λ d was. was; kept = refl };
    jobs = λ j. record { live = refl; started = refl; turns = refl };
    tickets = λ t. record { live = refl; verified = refl; proposed = refl };
    fetches = λ f. record { live = refl; asked = refl };
  })
  Executes-came m (Progress i) count is live names h = came_silently m h (Progress i) refl refl refl names (record {
    calm = record { tip = refl; starts_none = tt; built = λ d was. was; kept = refl };
    jobs = λ j. record { live = refl; started = refl; turns = refl };
    tickets = λ t. record { live = refl; verified = refl; proposed = refl };
    fetches = λ f. record { live = refl; asked = refl };
  })
