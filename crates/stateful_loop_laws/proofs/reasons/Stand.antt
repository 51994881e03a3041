-- What is kept for reasons is kept: by each rule of the loop, by each event that is taken in, and by an opening.
use Rattle.std.proofs.Common.{◌≡◌, ◌++◌, ◌∷◌, [], ℕ, true, List, Option, sym, ap, ◌∙◌, subst, arith}
use Rattle.std.proofs.lemmas.List.Elements.{All-nil}
use Rattle.stateful_base.specs.Names.{Named}
use Rattle.stateful_base.specs.declared.floor.Floor.{Floor}
use Rattle.stateful_db.specs.Laws.{Laws}
use Rattle.stateful_history.specs.Met.{TrueNames}
use Rattle.stateful_history.specs.Past.{Past, Came, after}
use Rattle.stateful_history.specs.Stops.{IsRestart}
use Rattle.stateful_history.specs.declared.event.Event.{Event}
use Rattle.stateful_history.specs.declared.mark.Mark.{Mark}
use Rattle.stateful_exec_model.specs.Workings.{Workings}
use Rattle.stateful_exec_walk.specs.declared.request.Proposal.{Proposal}
use Rattle.stateful_exec_tables.specs.declared.tables.Requested.{Requested}
use Rattle.stateful_exec_laws.specs.Gathering.{IsGathered}
use Rattle.stateful_exec_laws.specs.Reaching.{QueueReaches}
use Rattle.stateful_exec_laws.specs.Setting.{setting}
use Rattle.stateful_exec_laws.specs.Storing.{IsStoredNow}
use Rattle.stateful_exec_laws.proofs.linked.On.{StaysLinked}
use Rattle.stateful_loop_model.specs.Intake.{Counts, TakesIn}
use Rattle.stateful_loop_model.specs.Moments.{Moment}
use Rattle.stateful_loop_model.specs.Opening.{Opens}
use Rattle.stateful_loop_model.specs.Rules.{Rule}
use Rattle.stateful_loop_model.specs.declared.message.Action.{Action}
use Rattle.stateful_loop_model.specs.declared.message.Message.{Message}
use Rattle.stateful_loop_laws.specs.Execution.{NamesBehind}
use Rattle.stateful_loop_laws.specs.Reasons.{MessageIsLinked, ActionIsLinked, IsTrusted, ReasonsStand}
use Rattle.stateful_loop_laws.specs.Stands.{IsUpAt}
use Rattle.stateful_loop_laws.proofs.reasons.LinkedIntake.{tables-takes_in}
use Rattle.stateful_loop_laws.proofs.reasons.LinkedRules.{TablesLinkedBehind, tables-rule}
use Rattle.stateful_loop_laws.proofs.reasons.Linked.{LoopIsLinked, linked-rule, linked-takes_in}

-- From one moment to a later one some marks are made, and what is kept for reasons is kept with them.
pub record ReasonsStandBehind {B C I P R D H G U : Type 0} (w : Workings B C I P R D H G U) (stored : ℕ → Option (Named B)) (base : w.States)
    (p : Past B C I) (m now : Moment w) : Type 0 where
  pub more : List (Mark B)
  pub marks_are : now.marks ≡ m.marks ++ more
  pub stand : ReasonsStand w stored (after p more) base now

module _ {B C I P R D H G U : Type 0} (w : Workings B C I P R D H G U) (stored : ℕ → Option (Named B)) (base : w.States) (p : Past B C I) where
  -- what is kept of the loop, and of the tables of execution
  of_loop : (m : Moment w) → ReasonsStand w stored p base m → LoopIsLinked w stored m
  of_loop m h = record { queue = h.queue; actions = h.actions }

  of_tables : (m : Moment w) → ReasonsStand w stored p base m → StaysLinked w stored base p m.execution.state
  of_tables m h = record { gatherings = h.gatherings; reaches = h.reaches }

  both_behind : (m now : Moment w) → LoopIsLinked w stored now → TablesLinkedBehind w stored base p m now → ReasonsStandBehind w stored base p m now
  both_behind m now loop tables = record {
    more = tables.more;
    marks_are = tables.marks_are;
    stand = record {
      queue = loop.queue;
      actions = loop.actions;
      gatherings = tables.stays.gatherings;
      reaches = tables.stays.reaches;
    };
  }

  -- where nothing waits in the loop, and no request and no proposal in execution, there is nothing to be kept
  pub reasons_stand-empty : (m : Moment w) → m.loop.queue ≡ [] → m.loop.actions ≡ [] → m.execution.state.requests ≡ []
      → m.execution.state.queued ≡ [] → ReasonsStand w stored p base m
  reasons_stand-empty m queue actions requests queued = record {
    queue = rw queue (All-nil (λ (x : Message B C I). MessageIsLinked (setting w stored) x));
    actions = rw actions (All-nil (λ (x : Action B C I). ActionIsLinked (setting w stored) x));
    gatherings = rw requests (All-nil (λ (e : ℕ × Requested B C I). IsGathered (setting w stored) p e.1));
    reaches = subst (λ (es : List (ℕ × Proposal B C I)). QueueReaches w stored base p es) (sym queued) none_queued;
  }
    where
      none_queued : QueueReaches w stored base p []
      none_queued k d l = absurd (omega arith)

module _ {B C I P R D H G U : Type 0} (w : Workings B C I P R D H G U) (laws : Laws w.kind) (stored : ℕ → Option (Named B)) (base : w.States)
    (p : Past B C I) (stored_now : ℕ → Option (Named B)) where
  -- What is kept for reasons is kept by a rule of a machine that is up, where the world is trusted and names are true.
  pub reasons_stand-rule : IsStoredNow stored p stored_now → IsTrusted w stored p → (provider : P) (m now : Moment w) → IsUpAt w stored base p m
      → NamesBehind w stored base p m now → ReasonsStand w stored p base m → Rule w stored_now provider m now
      → ReasonsStandBehind w stored base p m now
  reasons_stand-rule stored_is trust provider m now u names h rule =
      both_behind w stored base p m now (linked-rule w stored m now (of_loop w stored base p m h) stored_now provider rule)
      (tables-rule w laws stored base p stored_now stored_is trust m now u names (of_tables w stored base p m h) (of_loop w stored base p m h)
      provider rule)

  -- And so it is by an event that is taken in, and is no restart.
  pub reasons_stand-takes_in : (counts : Counts R D H) (m now : Moment w) → IsUpAt w stored base p m → m.loop.up ≡ true
      → ReasonsStand w stored p base m → (e : Event B C I) → (IsRestart e → ⊥) → IsTrusted w stored (Came e ∷ p)
      → TrueNames (setting w stored) (Came e ∷ p) → NamesBehind w stored base (Came e ∷ p) m now → TakesIn w stored_now counts m now e
      → ReasonsStandBehind w stored base (Came e ∷ p) m now
  reasons_stand-takes_in counts m now u up h e on trust names behind takes =
      both_behind w stored base (Came e ∷ p) m now
      (linked-takes_in w stored p stored_now counts m now e trust.honest (of_loop w stored base p m h) takes)
      (tables-takes_in w laws stored base p m now u (of_tables w stored base p m h) stored_now counts up e on trust names behind takes)

  -- After an opening nothing waits.
  pub reasons_stand-opens : (floor : Floor) (keep : List ℕ) (m now : Moment w) → m.loop.queue ≡ [] → m.loop.actions ≡ []
      → Opens w stored_now floor keep m now → ReasonsStand w stored p base now
  reasons_stand-opens floor keep m now queue actions o =
      reasons_stand-empty w stored base p now (ap (λ l. l.queue) o.loop ∙ queue) (ap (λ l. l.actions) o.loop ∙ actions) o.requests.0 o.requests.1
