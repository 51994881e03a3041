-- What came with the requests that wait in the loop stays linked, where ancestries are; and marks that keep the rule on reasons.
use Rattle.std.proofs.Common.{◌≡◌, ◌++◌, ◌∷◌, [], ℕ, not, take, List, Option, Some, MatchOption, All, sym, ap, ◌∙◌, subst}
use Rattle.std.proofs.lemmas.List.{append_cancel_left}
use Rattle.std.proofs.lemmas.List.Elements.{All-head, All-tail, All-append, All-filter, All-cons, All-nil}
use Rattle.stateful_base.specs.Names.{Named}
use Rattle.stateful_history.specs.Honest.{IsHonest, Descends}
use Rattle.stateful_history.specs.Past.{Past, Came, EachMark}
use Rattle.stateful_history.specs.declared.event.Event.{Event}
use Rattle.stateful_history.specs.declared.event.Event.TheVariants as event
use Rattle.stateful_history.specs.declared.mark.Mark.{Mark}
use Rattle.stateful_exec_model.specs.Workings.{Workings}
use Rattle.stateful_exec_laws.specs.Setting.{setting}
use Rattle.stateful_loop_model.specs.Intake.{Counts, message_by, TakesIn, enters, cancels, fetched, turns, flushes, stops, progresses, restarts, build, hook, run}
use Rattle.stateful_loop_model.specs.Message.{asks_of, asks_for}
use Rattle.stateful_loop_model.specs.Moments.{Moment}
use Rattle.stateful_loop_model.specs.Rules.{starts, declines, DoesMessage, schedules, answers, acknowledges, holds, begins, Takes, of_action, of_message, Rule}
use Rattle.stateful_loop_model.specs.Rules as rule
use Rattle.stateful_loop_model.specs.declared.message.Action.{Action}
use Rattle.stateful_loop_model.specs.declared.message.Action.TheVariants as action
use Rattle.stateful_loop_model.specs.declared.message.Message.{Message}
use Rattle.stateful_loop_model.specs.declared.message.Message.TheVariants as message
use Rattle.stateful_loop_laws.specs.Reasons.{MessageIsLinked, ActionIsLinked, HasItsReason, ReasonsBehind}

module _ {B C I P R D H G U : Type 0} (w : Workings B C I P R D H G U) (stored : ℕ → Option (Named B)) where
  -- each mark keeps the rule, whatever list of marks was made
  pub reasons_at : (base : w.States) (e : Event B C I) (marks : List (Mark B)) (p : Past B C I) (m now : Moment w) (more : List (Mark B))
      → now.marks ≡ m.marks ++ more → ReasonsBehind w stored base e marks p m now → EachMark (HasItsReason w stored base e marks) p more
  reasons_at base e marks p m now more is b = subst (λ (ms : List (Mark B)). EachMark (HasItsReason w stored base e marks) p ms)
      (append_cancel_left m.marks b.more more (sym b.marks_are ∙ is)) b.each

  abbrev OfMessage : Message B C I → Type 0
  OfMessage x = MessageIsLinked (setting w stored) x

  abbrev OfAction : Action B C I → Type 0
  OfAction x = ActionIsLinked (setting w stored) x

  -- so it is with all that waits in the loop
  pub record LoopIsLinked (m : Moment w) : Type 0 where
    pub queue : All OfMessage m.loop.queue
    pub actions : All OfAction m.loop.actions

  -- what is taken out of the loop is linked
  pub takes-linked : (x : Message B C I) (m mid : Moment w) → Takes w x m mid → LoopIsLinked m → OfMessage x
  takes-linked x m mid (of_action {rest = rest} is become) h =
      All-head OfAction (action.Message x) rest (subst (λ (l : List (Action B C I)). All OfAction l) is h.actions)
  takes-linked x m mid (of_message {rest = rest} none_first is become) h =
      All-head OfMessage x rest (subst (λ (l : List (Message B C I)). All OfMessage l) is h.queue)

  as_was : (m now : Moment w) → now.loop.queue ≡ m.loop.queue → now.loop.actions ≡ m.loop.actions → LoopIsLinked m → LoopIsLinked now
  as_was m now queue actions h = record { queue = rw queue h.queue; actions = rw actions h.actions }

  does : (stored_now : ℕ → Option (Named B)) (m now : Moment w) (x : Message B C I) → LoopIsLinked m → DoesMessage w stored_now m now x
      → LoopIsLinked now
  does stored_now m now x h (schedules r) = as_was m now (ap (λ n. n.loop.queue) r.becomes) (ap (λ n. n.loop.actions) r.becomes) h
  does stored_now m now x h (answers is) = as_was m now (ap (λ n. n.loop.queue) is) (ap (λ n. n.loop.actions) is) h
  does stored_now m now x h (acknowledges again durable is) = as_was m now (ap (λ n. n.loop.queue) is) (ap (λ n. n.loop.actions) is) h
  does stored_now m now x h (holds again above is) = as_was m now (ap (λ n. n.loop.queue) is) (ap (λ n. n.loop.actions) is) h
  does stored_now m now x h (begins above r) = as_was m now (ap (λ n. n.loop.queue) r.becomes) (ap (λ n. n.loop.actions) r.becomes) h

  took : (x : Message B C I) (m mid : Moment w) → Takes w x m mid → LoopIsLinked m → LoopIsLinked mid
  took x m mid (of_action {rest = rest} is become) h = record {
    queue = rw (ap (λ n. n.loop.queue) become) h.queue;
    actions = rw (ap (λ n. n.loop.actions) become)
        (All-tail OfAction (action.Message x) rest (subst (λ (l : List (Action B C I)). All OfAction l) is h.actions));
  }
  took x m mid (of_message {rest = rest} none_first is become) h = record {
    queue = rw (ap (λ n. n.loop.queue) become) (All-tail OfMessage x rest (subst (λ (l : List (Message B C I)). All OfMessage l) is h.queue));
    actions = rw (ap (λ n. n.loop.actions) become) h.actions;
  }

  module _ (m now : Moment w) (h : LoopIsLinked m) where
    stays : now.loop.queue ≡ m.loop.queue → now.loop.actions ≡ m.loop.actions → LoopIsLinked now
    stays queue actions = as_was m now queue actions h

    more_actions : (x : Action B C I) → OfAction x → All OfAction (m.loop.actions ++ x ∷ [])
    more_actions x linked = All-append OfAction m.loop.actions (x ∷ []) h.actions (All-cons OfAction x [] linked (All-nil OfAction))

    rest_of_queue : (x : Message B C I) (rest : List (Message B C I)) → m.loop.queue ≡ x ∷ rest → OfMessage x × All OfMessage rest
    rest_of_queue x rest is =
        let all : All OfMessage (x ∷ rest) = subst (λ (l : List (Message B C I)). All OfMessage l) is h.queue in
        (All-head OfMessage x rest all, All-tail OfMessage x rest all)

    builds_so : (provider : P) (t : ℕ) (rest : List (Action B C I)) → m.loop.actions ≡ action.Build t ∷ rest
        → now.loop.queue ≡ m.loop.queue → now.loop.actions ≡ rest → LoopIsLinked now
    builds_so provider t rest is queue actions = record {
      queue = rw queue h.queue;
      actions = rw actions (All-tail OfAction (action.Build t) rest (subst (λ (l : List (Action B C I)). All OfAction l) is h.actions));
    }

    -- a rule of the loop leaves it so
    pub linked-rule : (stored_now : ℕ → Option (Named B)) (provider : P) → Rule w stored_now provider m now → LoopIsLinked now
    linked-rule stored_now provider (rule.collects {t = t} up r) = record {
      queue = rw (ap (λ n. n.loop.queue) r.becomes) h.queue;
      actions = rw (ap (λ n. n.loop.actions) r.becomes) (more_actions (action.Build t) tt);
    }
    linked-rule stored_now provider (rule.schedules {request = request} {rest = rest} collected building is verifies r) = record {
      queue = rw (ap (λ n. n.loop.queue) r.becomes) (rest_of_queue (message.Request request) rest is).1;
      actions = rw (ap (λ n. n.loop.actions) r.becomes) h.actions;
    }
    linked-rule stored_now provider (rule.puts_off {x = x} {rest = rest} collected building is other becomes) = record {
      queue = rw (ap (λ n. n.loop.queue) becomes) (rest_of_queue x rest is).1;
      actions = rw (ap (λ n. n.loop.actions) becomes) (more_actions (action.Message x) (rest_of_queue x rest is).0);
    }
    linked-rule stored_now provider (rule.runs fin begun awaits unknown r) = stays (ap (λ n. n.loop.queue) r.becomes)
        (ap (λ n. n.loop.actions) r.becomes)
    linked-rule stored_now provider (rule.applies fin captured states r) = stays (ap (λ n. n.loop.queue) r.becomes)
        (ap (λ n. n.loop.actions) r.becomes)
    linked-rule stored_now provider (rule.covers fin advanced captured needed r) = stays (ap (λ n. n.loop.queue) r.becomes)
        (ap (λ n. n.loop.actions) r.becomes)
    linked-rule stored_now provider (rule.observes fin advanced is covered r) = stays (ap (λ n. n.loop.queue) r.becomes)
        (ap (λ n. n.loop.actions) r.becomes)
    linked-rule stored_now provider (rule.ends fin advanced captured r) = stays (ap (λ n. n.loop.queue) r.becomes)
        (ap (λ n. n.loop.actions) r.becomes)
    linked-rule stored_now provider (rule.breaks idle broken is) = stays (ap (λ n. n.loop.queue) is) (ap (λ n. n.loop.actions) is)
    linked-rule stored_now provider (rule.completes idle unbroken done r) = stays (ap (λ n. n.loop.queue) r.becomes)
        (ap (λ n. n.loop.actions) r.becomes)
    linked-rule stored_now provider (rule.begins idle unbroken undone needed r) = stays (ap (λ n. n.loop.queue) r.becomes)
        (ap (λ n. n.loop.actions) r.becomes)
    linked-rule stored_now provider (rule.builds {t = t} {rest = rest} calm is (starts s e)) =
        builds_so provider t rest is (ap (λ n. n.loop.queue) e) (ap (λ n. n.loop.actions) e)
    linked-rule stored_now provider (rule.builds {t = t} {rest = rest} calm is (declines off e)) =
        builds_so provider t rest is (ap (λ n. n.loop.queue) e) (ap (λ n. n.loop.actions) e)
    linked-rule stored_now provider (rule.takes {x = x} {mid = mid} calm take doing) = does stored_now mid now x (took x m mid take h) doing

  -- an ancestry's block with its parent is linked, where the ancestry is
  first_two : (b : Named B) (rest : List (Named B)) → Descends (setting w stored) b rest → Descends (setting w stored) b (take 1 rest ++ [])
  first_two b [] h = tt
  first_two b (x ∷ xs) h = (h.0, tt)

  -- what comes with a request is linked, where ancestries are
  pub entered-linked : (p : Past B C I) (e : Event B C I) (x : Message B C I) → message_by e ≡ Some x → IsHonest (setting w stored) (Came e ∷ p)
      → OfMessage x
  entered-linked p (event.Verify t ancestry) x is honest = subst (λ (o : Option (Message B C I)). MatchOption o ⊥ OfMessage) is
      (first_two ancestry.first ancestry.rest honest.0)
  entered-linked p (event.Prepare t context ancestry input) x is honest = subst (λ (o : Option (Message B C I)). MatchOption o ⊥ OfMessage) is tt
  entered-linked p (event.Propose t context ancestry input) x is honest = subst (λ (o : Option (Message B C I)). MatchOption o ⊥ OfMessage) is tt
  entered-linked p (event.Finalized t b) x is honest = subst (λ (o : Option (Message B C I)). MatchOption o ⊥ OfMessage) is tt
  entered-linked p (event.Subscribe t) x is honest = subst (λ (o : Option (Message B C I)). MatchOption o ⊥ OfMessage) is tt
  entered-linked p e x is honest = cc

  -- an event that is taken in leaves it so
  pub linked-takes_in : (p : Past B C I) (stored_now : ℕ → Option (Named B)) (counts : Counts R D H) (m now : Moment w) (e : Event B C I)
      → IsHonest (setting w stored) (Came e ∷ p) → LoopIsLinked m → TakesIn w stored_now counts m now e → LoopIsLinked now
  linked-takes_in p stored_now counts m now e honest h (enters {x = x} is becomes) = record {
    queue = rw (ap (λ n. n.loop.queue) becomes)
        (All-append OfMessage m.loop.queue (x ∷ []) h.queue (All-cons OfMessage x [] (entered-linked p e x is honest) (All-nil OfMessage)));
    actions = rw (ap (λ n. n.loop.actions) becomes) h.actions;
  }
  linked-takes_in p stored_now counts m now _ honest h (cancels {t = t} r) = record {
    queue = rw (ap (λ n. n.loop.queue) r.becomes) (All-filter (λ x. not (asks_of x t)) OfMessage m.loop.queue h.queue);
    actions = rw (ap (λ n. n.loop.actions) r.becomes) (All-filter (λ x. not (asks_for x t)) OfAction m.loop.actions h.actions);
  }
  linked-takes_in p stored_now counts m now _ honest h (fetched r is) = as_was m now (ap (λ n. n.loop.queue) is) (ap (λ n. n.loop.actions) is) h
  linked-takes_in p stored_now counts m now _ honest h (turns (build builds r is)) = as_was m now (ap (λ n. n.loop.queue) is)
      (ap (λ n. n.loop.actions) is) h
  linked-takes_in p stored_now counts m now _ honest h (turns (hook unbuilt hooks r is)) = as_was m now (ap (λ n. n.loop.queue) is)
      (ap (λ n. n.loop.actions) is) h
  linked-takes_in p stored_now counts m now _ honest h (turns (run unbuilt unhooked r is)) = as_was m now (ap (λ n. n.loop.queue) is)
      (ap (λ n. n.loop.actions) is) h
  linked-takes_in p stored_now counts m now _ honest h (flushes r) = as_was m now (ap (λ n. n.loop.queue) r.becomes)
      (ap (λ n. n.loop.actions) r.becomes) h
  linked-takes_in p stored_now counts m now _ honest h (stops is) = as_was m now (ap (λ n. n.loop.queue) is) (ap (λ n. n.loop.actions) is) h
  linked-takes_in p stored_now counts m now _ honest h (progresses is) = as_was m now (ap (λ n. n.loop.queue) is) (ap (λ n. n.loop.actions) is) h
  linked-takes_in p stored_now counts m now _ honest h (restarts is) = as_was m now (ap (λ n. n.loop.queue) is) (ap (λ n. n.loop.actions) is) h
