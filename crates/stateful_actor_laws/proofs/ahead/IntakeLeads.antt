-- An event that is taken in: the finalized blocks that wait lead up to the top behind it, too, and one more waits where the
-- event hands it over.
use Rattle.std.proofs.Common.{◌≡◌, ◌++◌, ◌∷◌, [], ℕ, Option, Some, None, Result, Ok, Err, List, not, filter, refl, sym, ap, ◌∙◌, subst, append-nil}
use Rattle.stateful_base.specs.Names.{Named}
use Rattle.stateful_base.specs.Anchor.{anchor_by}
use Rattle.stateful_base.specs.declared.anchor.Anchor.{Anchor}
use Rattle.stateful_base.specs.declared.outcome.Moved.{Moved}
use Rattle.stateful_base.specs.declared.outcome.Moved.TheVariants.{Pending, Done}
use Rattle.stateful_db.specs.declared.application.AppFault.{AppFault}
use Rattle.stateful_history.specs.Finalizations.{IsChildOf}
use Rattle.stateful_history.specs.Joined.{Matches}
use Rattle.stateful_history.specs.declared.event.Event.{Event}
use Rattle.stateful_history.specs.declared.event.Event.TheVariants as event
use Rattle.stateful_history.specs.declared.mark.Mark.{Mark}
use Rattle.stateful_exec_model.specs.Finalizing.{front_at, IsRedelivered, SettlesFinal, StepsFinal, turned, not_live, SettlesHook, TurnsHook, hook_turned, unhooked, candidate, finalized}
use Rattle.stateful_exec_model.specs.Finalizing.{Completes}
use Rattle.stateful_exec_model.specs.Moments as exec
use Rattle.stateful_exec_model.specs.Workings.{Workings}
use Rattle.stateful_exec_model.specs.declared.front.Front.{Front}
use Rattle.stateful_exec_model.specs.declared.front.Stage.TheVariants.{Running, Ran, Advanced, Hooking}
use Rattle.stateful_exec_laws.specs.Setting.{setting}
use Rattle.stateful_loop_model.specs.Intake.{message_by, Counts, TakesIn, enters, cancels, fetched, turns, flushes, stops, progresses, restarts, TurnsJob, build, hook, run}
use Rattle.stateful_loop_model.specs.Message.{asks_of, asks_for}
use Rattle.stateful_loop_model.specs.Moments.{Moment, inner}
use Rattle.stateful_loop_model.specs.declared.message.Action.{Action}
use Rattle.stateful_loop_model.specs.declared.message.Message.{Message}
use Rattle.stateful_actor_laws.specs.Ahead.{final_in, finals_in, finals_under, finals_at, HeadIs, LeadsUp, LeadsAt}
use Rattle.stateful_actor_laws.proofs.ahead.Finals.{finals-entered, finals-given_up, finals-put_off_given_up}
use Rattle.stateful_actor_laws.proofs.ahead.Heads.{LeadsAt-same, LeadsAt-turned}
use Rattle.stateful_actor_laws.proofs.ahead.LeadsUp.{LeadsUp-next, LeadsUp-again}

-- the finalized block that an event hands over, if it does
abbrev pub finals_by : {B C I : Type 0} → Event B C I → List (Named B)
finals_by (event.Finalized t b) = b ∷ []
finals_by e = []

-- of a message, where there is one
abbrev final_by : {B C I : Type 0} → Option (Message B C I) → List (Named B)
final_by None = []
final_by (Some x) = final_in x

-- it waits behind the others
message-finals : {B C I : Type 0} (e : Event B C I) (x : Message B C I) → message_by e ≡ Some x → final_in x ≡ finals_by e
message-finals {B} {C} {I} (event.Verify t ancestry) x is = let same : Some x ≡ message_by (event.Verify t ancestry) = sym is in ap (λ (o : Option (Message B C I)). final_by o) same
message-finals {B} {C} {I} (event.Prepare t context ancestry input) x is = ap (λ (o : Option (Message B C I)). final_by o) (sym is)
message-finals {B} {C} {I} (event.Propose t context ancestry input) x is = ap (λ (o : Option (Message B C I)). final_by o) (sym is)
message-finals {B} {C} {I} (event.Finalized t b) x is = ap (λ (o : Option (Message B C I)). final_by o) (sym is)
message-finals {B} {C} {I} (event.Subscribe t) x is = ap (λ (o : Option (Message B C I)). final_by o) (sym is)
message-finals e x is = cc

module _ {B C I P R D H G U : Type 0} (w : Workings B C I P R D H G U) (stored : ℕ → Option (Named B)) (anchor : Anchor) (at : w.States)
    (top : Anchor) (last : w.States) where
  abbrev Leads : Moment w → Type 0
  Leads m = LeadsAt w stored anchor at top last m

  -- a run of the finalized block has a turn
  final-leads : (count : R → ℕ) (j : ℕ) (m now : Moment w) (old new : List (Mark B)) → StepsFinal w count m.members m.execution.front j old new now.execution.front
      → finals_at w now ≡ finals_at w m → Leads m → Leads now
  final-leads count j m now old new (turned {b = b} {run = r} {turned = t} {answer = Ok Pending} live ran settles) same h =
      LeadsAt-turned w stored anchor at top last m now (front_at b (Running j r)) (front_at b (Running j t)) live.is settles.1 (λ head before k. k) same h
  final-leads count j m now old new (turned {b = b} {run = r} {turned = t} {answer = Ok (Done ended)} live ran settles) same h =
      LeadsAt-turned w stored anchor at top last m now (front_at b (Running j r)) (front_at b (Ran settles.0)) live.is settles.3 (λ head before k. k) same h
  final-leads count j m now old new (turned {answer = Err fault} live ran settles) same h = absurd settles
  final-leads count j m now old new (not_live dead marks front) same h = LeadsAt-same w stored anchor at top last m now front same h

  -- a run has a turn
  completes-leads : (count : R → ℕ) (j : ℕ) (m now : Moment w) (then : exec.Moment w) → Completes w count (inner w m) m.execution.front j then now.execution.front
      → finals_at w now ≡ finals_at w m → Leads m → Leads now
  completes-leads count j m now then (candidate steps front) same h = LeadsAt-same w stored anchor at top last m now front same h
  completes-leads count j m now then (finalized none steps is) same h = final-leads count j m now m.marks then.marks steps same h

  -- a hook has a turn
  hook-leads : (count : H → ℕ) (j : ℕ) (m now : Moment w) (marks : List (Mark B)) → TurnsHook w count m.members m.execution.front j m.marks marks now.execution.front
      → finals_at w now ≡ finals_at w m → Leads m → Leads now
  hook-leads count j m now marks (hook_turned {b = b} {hook = k} {now = t} {answer = Ok Pending} live ran settles) same h =
      LeadsAt-turned w stored anchor at top last m now (front_at b (Hooking j k)) (front_at b (Hooking j t)) live.is settles.1 (λ head before g. g) same h
  hook-leads count j m now marks (hook_turned {b = b} {hook = k} {answer = Ok (Done ended)} live ran settles) same h =
      LeadsAt-turned w stored anchor at top last m now (front_at b (Hooking j k)) (front_at b Advanced) live.is settles.1 (λ head before g. g) same h
  hook-leads count j m now marks (hook_turned {answer = Err fault} live ran settles) same h = absurd settles
  hook-leads count j m now marks (unhooked dead is front) same h = LeadsAt-same w stored anchor at top last m now front same h

  turns-lead : (counts : Counts R D H) (j : ℕ) (m now : Moment w) → TurnsJob w counts j m now → Leads m → Leads now
  turns-lead counts j m now (build live turned_so e) h =
      LeadsAt-same w stored anchor at top last m now (ap (λ (n : Moment w). n.execution.front) e) (ap (λ (n : Moment w). finals_at w n) e) h
  turns-lead counts j m now (hook {marks = marks} {after = after} none live turned_so e) h =
      hook-leads counts.hook j m now marks
      (subst (λ (f : Option (Front B R U H)). TurnsHook w counts.hook m.members m.execution.front j m.marks marks f)
      (sym (ap (λ (n : Moment w). n.execution.front) e)) turned_so)
      (ap (λ (n : Moment w). finals_at w n) e) h
  turns-lead counts j m now (run {then = then} {after = after} none unhung completes e) h =
      completes-leads counts.run j m now then
      (subst (λ (f : Option (Front B R U H)). Completes w counts.run (inner w m) m.execution.front j then f)
      (sym (ap (λ (n : Moment w). n.execution.front) e)) completes)
      (ap (λ (n : Moment w). finals_at w n) e) h

  module _ (stored_now : ℕ → Option (Named B)) (counts : Counts R D H) (m now : Moment w) (h : Leads m) where
    -- an event that hands over no block
    pub intake-leads : (e : Event B C I) → finals_by e ≡ [] → TakesIn w stored_now counts m now e → Leads now
    intake-leads e none (enters {x = x} message is) =
        LeadsAt-same w stored anchor at top last m now (ap (λ (n : Moment w). n.execution.front) is)
        (ap (λ (n : Moment w). finals_at w n) is ∙ finals-entered m.loop.actions m.loop.queue x
        ∙ ap (λ (bs : List (Named B)). finals_at w m ++ bs) (message-finals e x message ∙ none) ∙ append-nil (finals_at w m)) h
    intake-leads _ none (cancels {t = t} c) =
        LeadsAt-same w stored anchor at top last m now (ap (λ (n : Moment w). n.execution.front) c.becomes)
        (ap (λ (n : Moment w). finals_at w n) c.becomes
        ∙ ap (λ (bs : List (Named B)). bs ++ finals_in (filter (λ x. not (asks_of x t)) m.loop.queue)) (finals-put_off_given_up t m.loop.actions)
        ∙ ap (λ (bs : List (Named B)). finals_under m.loop.actions ++ bs) (finals-given_up t m.loop.queue)) h
    intake-leads _ none (fetched f is) =
        LeadsAt-same w stored anchor at top last m now (ap (λ (n : Moment w). n.execution.front) is) (ap (λ (n : Moment w). finals_at w n) is) h
    intake-leads _ none (turns {j = j} t) = turns-lead counts j m now t h
    intake-leads _ none (flushes f) =
        LeadsAt-same w stored anchor at top last m now (ap (λ (n : Moment w). n.execution.front) f.becomes) (ap (λ (n : Moment w). finals_at w n) f.becomes) h
    intake-leads _ none (stops is) =
        LeadsAt-same w stored anchor at top last m now (ap (λ (n : Moment w). n.execution.front) is) (ap (λ (n : Moment w). finals_at w n) is) h
    intake-leads _ none (progresses is) =
        LeadsAt-same w stored anchor at top last m now (ap (λ (n : Moment w). n.execution.front) is) (ap (λ (n : Moment w). finals_at w n) is) h
    intake-leads _ none (restarts is) =
        LeadsAt-same w stored anchor at top last m now (ap (λ (n : Moment w). n.execution.front) is) (ap (λ (n : Moment w). finals_at w n) is) h

    -- one more waits after a finalization
    abbrev IsEntered : ℕ → Named B → Type 0
    IsEntered t b = (now.execution.front ≡ m.execution.front) × (finals_at w now ≡ finals_at w m ++ b ∷ [])

    entered : (t : ℕ) (b : Named B) → TakesIn w stored_now counts m now (event.Finalized t b) → IsEntered t b
    entered t b (enters {x = x} message is) = (
      ap (λ (n : Moment w). n.execution.front) is,
      ap (λ (n : Moment w). finals_at w n) is ∙ finals-entered m.loop.actions m.loop.queue x
          ∙ ap (λ (bs : List (Named B)). finals_at w m ++ bs) (message-finals (event.Finalized t b) x message),
    )

    front-entered : (t : ℕ) (b : Named B) → IsEntered t b → HeadIs (setting w stored) anchor at now.execution.front h.head h.before
    front-entered t b is = subst (λ (f : Option (Front B R U H)). HeadIs (setting w stored) anchor at f h.head h.before) (sym is.0) h.front

    -- a finalization of the next child, which matches the states
    pub next-leads : (t : ℕ) (b : Named B) → TakesIn w stored_now counts m now (event.Finalized t b) → IsChildOf w.header top b → (after : w.States)
        → Matches (setting w stored) last b after → LeadsAt w stored anchor at (anchor_by w.header b) after now
    next-leads t b takes child after matches = let is = entered t b takes in record {
      head = h.head;
      before = h.before;
      front = front-entered t b is;
      leads = subst (λ (bs : List (Named B)). LeadsUp (setting w stored) (anchor_by w.header b) after h.head h.before bs) (sym is.1)
          (LeadsUp-next (setting w stored) top last after b child matches h.head h.before (finals_at w m) h.leads);
    }

    -- a finalization of a block that isn't higher
    pub again-leads : (t : ℕ) (b : Named B) → TakesIn w stored_now counts m now (event.Finalized t b) → IsRedelivered w.header top b
        → LeadsAt w stored anchor at top last now
    again-leads t b takes same = let is = entered t b takes in record {
      head = h.head;
      before = h.before;
      front = front-entered t b is;
      leads = subst (λ (bs : List (Named B)). LeadsUp (setting w stored) top last h.head h.before bs) (sym is.1)
          (LeadsUp-again (setting w stored) top last b same h.head h.before (finals_at w m) h.leads);
    }
