-- Where a rule of the loop that could go isn't done the reason lies outside, as long as the finalized blocks that wait are in
-- their order.
use Rattle.std.proofs.Common.{◌≡◌, ◌≢◌, ◌<◌, ◌+◌, ◌^◌, ◌⊎◌, inl, inr, ◌++◌, ◌∷◌, [], ℕ, true, Option, Some, None, List, refl, sym, ap, ◌∙◌, subst, arith}
use Rattle.stateful_base.specs.Names.{Named}
use Rattle.stateful_base.specs.declared.anchor.Anchor.{Anchor}
use Rattle.stateful_history.specs.Finalizations.{IsChildOf}
use Rattle.stateful_history.specs.Past.{Past}
use Rattle.stateful_exec_model.specs.Causes.{FaultsAcquire, FaultsStart}
use Rattle.stateful_exec_model.specs.Building.{FaultsPropose}
use Rattle.stateful_exec_model.specs.Finalizing.{Conflicts, FaultsBegin, IsRedelivered, HasStates as IsCachedOrRun, FaultsMove, no_room, not_read, no_states, FaultsObserve}
use Rattle.stateful_exec_model.specs.Pausing.{FaultsResume}
use Rattle.stateful_exec_tables.specs.Tables.{requested}
use Rattle.stateful_exec_model.specs.Workings.{Workings, Point}
use Rattle.stateful_exec_tables.specs.declared.error.ExecError.{ExecError}
use Rattle.stateful_exec_tables.specs.declared.error.ExecError.TheVariants as exec_error
use Rattle.stateful_exec_model.specs.declared.front.Front.{Front}
use Rattle.stateful_exec_laws.specs.Setting.{setting}
use Rattle.stateful_loop_model.specs.Causes.{FaultsBarrier, FaultsApply, FaultsMessage, FaultsRule, memory, scheduling, running, advancing, applying, covering, observing, ending, beginning, building, taking}
use Rattle.stateful_loop_model.specs.Moments.{Moment, inner}
use Rattle.stateful_loop_model.specs.Rules.{HasStates, Takes, of_action, of_message}
use Rattle.stateful_loop_model.specs.declared.error.StepError.{StepError}
use Rattle.stateful_loop_model.specs.declared.error.StepError.TheVariants as error
use Rattle.stateful_loop_model.specs.declared.message.Message.{Message}
use Rattle.stateful_loop_model.specs.declared.message.Message.TheVariants as message
use Rattle.stateful_loop_laws.specs.Stands.{IsUpAt}
use Rattle.stateful_actor_laws.specs.Ahead.{finals_at, HeadIs, IsAtAnchor, LeadsUp, IsAhead}
use Rattle.stateful_actor_laws.specs.Outside.{IsOutside}
use Rattle.stateful_actor_laws.proofs.ahead.Kept.{idle-front, same-anchor}
use Rattle.stateful_actor_laws.proofs.ahead.LeadsUp.{LeadsUp-first}
use Rattle.stateful_actor_laws.proofs.ahead.RulesLead.{takes-finals, takes-same}
use Rattle.stateful_actor_laws.proofs.ahead.Serving.{IsOutsideOf, outside-is, outside-via, AreHere, start-outside, acquire-outside, resume-outside, propose-outside, observe-outside}

outside_memory : (before now : ℕ → ℕ) (e : StepError) → e ≡ error.OutOfMemory → IsOutside before now e
outside_memory before now e is = subst (λ (x : StepError). IsOutside before now x) (sym is) tt

module _ {B C I P R D H G U : Type 0} (w : Workings B C I P R D H G U) where
  module _ (anchor : Anchor) (b : Named B) (first : IsChildOf w.header anchor b ⊎ IsRedelivered w.header anchor b) where
    -- a block that is a child of the anchor, or isn't higher and at its height the anchor's, conflicts with none
    conflicts-never : (e : ExecError) → Conflicts w.header anchor b e → ⊥
    conflicts-never (exec_error.ConflictAtAnchor expected given) h = of first
      where
        of : IsChildOf w.header anchor b ⊎ IsRedelivered w.header anchor b → ⊥
        of (inl child) = absurd (omega (arith, child.0, h.0))
        of (inr same) = h.3 (h.2 ∙ same.same h.0 ∙ sym h.1)
    conflicts-never e h = h

    -- and where it is higher its finalization begins
    begin-outside : anchor.height.0 < w.header.height b.block → (e : ExecError) → FaultsBegin w.header anchor b e → IsOutsideOf e
    begin-outside high exec_error.OutOfMemory h = tt
    begin-outside high (exec_error.SkippedHeight expected given) h = absurd (of first)
      where
        of : IsChildOf w.header anchor b ⊎ IsRedelivered w.header anchor b → ⊥
        of (inl child) = omega (arith, child.0, h.0, h.1, h.2)
        of (inr same) = omega (arith, same.low, high)
    begin-outside high (exec_error.NotExtending expected given) h = absurd (of first)
      where
        of : IsChildOf w.header anchor b ⊎ IsRedelivered w.header anchor b → ⊥
        of (inl child) = h.3 (h.2 ∙ child.1 ∙ sym h.1)
        of (inr same) = omega (arith, same.low, high)
    begin-outside high e h = absurd h

module _ {B C I P R D H G U : Type 0} (w : Workings B C I P R D H G U) (stored : ℕ → Option (Named B)) (base : w.States) (q : Past B C I)
    (m : Moment w) (h : IsUpAt w stored base q m) (few : w.kind.count < 2 ^ 64) (stored_now : ℕ → Option (Named B)) (rose : Type 0) (before now : ℕ → ℕ) (new : w.kind.Members) where
  here : m.loop.up ≡ true → AreHere w m.members
  here up none = let found : Some h.executes.point ≡ None = sym h.executes.located ∙ none in cc

  barrier-outside : (number : ℕ) (e : StepError) → FaultsBarrier w.kind before now new number e → IsOutside before now e
  barrier-outside number error.OutOfMemory f = tt
  barrier-outside number error.Exhausted f = tt
  barrier-outside number (error.DatabaseFault i call) f = (f.0 few).2
  barrier-outside number e f = absurd f

  apply-outside : m.loop.up ≡ true → (e : StepError) → FaultsApply w.kind before now new m.members e → IsOutside before now e
  apply-outside up error.OutOfMemory f = tt
  apply-outside up error.Failed f = absurd (here up f)
  apply-outside up (error.DatabaseFault i call) f = (f few).2
  apply-outside up e f = absurd f

  move-outside : (b : Named B) → HasStates w m b → (e : ExecError) → FaultsMove w rose b m.execution.state.cache m.execution.front e → IsOutsideOf e
  move-outside b states e (no_room is) = outside-is e exec_error.OutOfMemory is tt
  move-outside b states e (not_read is risen) = outside-is e exec_error.Application is tt
  move-outside b states e (no_states is none) = absurd (none (of states))
    where
      of : HasStates w m b → IsCachedOrRun b m.execution.state.cache m.execution.front
      of (inl cached) = inl cached.2
      of (inr ran) = inr (b, ran.0, ran.1)

  module _ (a : IsAhead w stored base q m) where
    -- a message that is taken
    message-outside : m.loop.up ≡ true → m.loop.front ≡ None → (x : Message B C I) (mid : Moment w) → Takes w x m mid
        → mid.members ≡ m.members → (e : StepError) → FaultsMessage w stored_now rose before now new mid x e → IsOutside before now e
    message-outside up idle (message.Request request) mid takes same e f =
        outside-via before now (FaultsAcquire w rose stored_now (inner w mid) (requested request))
        (λ fault k. acquire-outside w rose (inner w mid) (subst (λ (x : w.kind.Members). AreHere w x) (sym same) (here up)) stored_now (requested request) fault k) e f
    message-outside up idle (message.Subscribe t) mid takes same e f = absurd f
    message-outside up idle (message.Finalized t b) mid takes same e f = of f
      where
        none : m.execution.front ≡ None
        none = idle-front w stored base q m h a up idle

        at_anchor : IsAtAnchor (setting w stored) a.anchor a.now a.waits.head a.waits.before
        at_anchor = subst (λ (x : Option (Front B R U H)). HeadIs (setting w stored) a.anchor a.now x a.waits.head a.waits.before) none a.waits.front

        anchors : a.waits.head ≡ mid.execution.state.anchor
        anchors = at_anchor.head_is ∙ sym (ap (λ x. x.state.anchor) (takes-same w (message.Finalized t b) m mid takes) ∙ same-anchor w stored base q m h a)

        first : IsChildOf w.header mid.execution.state.anchor b ⊎ IsRedelivered w.header mid.execution.state.anchor b
        first = subst (λ (x : Anchor). IsChildOf w.header x b ⊎ IsRedelivered w.header x b) anchors
            (LeadsUp-first (setting w stored) a.top a.last a.waits.head a.waits.before b (finals_at w mid)
            (subst (λ (bs : List (Named B)). LeadsUp (setting w stored) a.top a.last a.waits.head a.waits.before bs)
            (takes-finals w (message.Finalized t b) m mid takes) a.waits.leads))

        of : FaultsMessage w stored_now rose before now new mid (message.Finalized t b) e → IsOutside before now e
        of (inl via) = absurd (conflicts-never w mid.execution.state.anchor b first via.0 via.1)
        of (inr (high, via)) = outside-via before now (FaultsBegin w.header mid.execution.state.anchor b)
            (λ fault k. begin-outside w mid.execution.state.anchor b first high fault k) e via

    takes_members : (x : Message B C I) (mid : Moment w) → Takes w x m mid → mid.members ≡ m.members
    takes_members x mid (of_action is e) = ap (λ (n : Moment w). n.members) e
    takes_members x mid (of_message none is e) = ap (λ (n : Moment w). n.members) e

    -- a rule that could go
    pub rule-outside : (e : StepError) → FaultsRule w stored_now rose before now new m e → IsOutside before now e
    rule-outside e (memory is) = outside_memory before now e is
    rule-outside e (scheduling {request = request} collected alive queue verifies via) =
        outside-via before now _ (λ fault k. acquire-outside w rose _ (here collected.0) stored_now (requested request) fault k) e via
    rule-outside e (running fin begun awaits uncached via) =
        outside-via before now _ (λ fault k. start-outside w rose m.execution.state.next_job m.members m.next (here fin.0.0) fault k) e via
    rule-outside e (advancing {f = f} fin states via) = outside-via before now _ (λ fault k. move-outside f.block states fault k) e via
    rule-outside e (applying fin states f) = apply-outside fin.0.0 e f
    rule-outside e (covering fin front captured needed f) = barrier-outside m.loop.next_barrier e f
    rule-outside e (observing {f = f} {captured = read} fin front captured via) =
        outside-via before now _ (λ fault k. observe-outside w rose f.block read m.members m.execution.state.next_job fault k) e via
    rule-outside e (ending fin front none via) = outside-via before now _ (λ fault k. resume-outside w rose stored_now (inner w m) (here fin.0.0) fault k) e via
    rule-outside e (beginning idle needed f) = barrier-outside m.loop.next_barrier e f
    rule-outside e (building {t = t} calm actions via) =
        outside-via before now _ (λ fault k. propose-outside w rose t m.members m.next m.execution.state (here calm.0.0.0) fault k) e via
    rule-outside e (taking {x = x} {mid = mid} calm takes f) =
        message-outside calm.0.0.0 calm.0.2 x mid takes (takes_members x mid takes) e f
