-- Which block the application is still to observe, from rule to rule.
use Rattle.std.proofs.Common.{◌≡◌, ◌⊎◌, inl, inr, ◌++◌, ◌∷◌, [], ℕ, true, false, List, Option, Some, None, IsSome, refl, sym, ap, ◌∙◌, subst, append-nil, ⊎_elim}
use Rattle.std.proofs.lemmas.Bool.{true≢false, cases_Bool}
use Rattle.stateful_base.specs.Names.{Named}
use Rattle.stateful_durability.specs.Durability.{receipts_up_to}
use Rattle.stateful_history.specs.Finalizations.{applied_in}
use Rattle.stateful_history.specs.declared.mark.Mark.{Mark}
use Rattle.stateful_exec_walk.specs.Request.{ticket_by}
use Rattle.stateful_exec_tables.specs.Tables.{requested}
use Rattle.stateful_exec_model.specs.Workings.{Workings}
use Rattle.stateful_exec_model.specs.declared.front.Stage.{Stage}
use Rattle.stateful_exec_model.specs.declared.front.Stage.TheVariants.{Begun, Running, Ran, Advanced, Hooking}
use Rattle.stateful_exec_walk.specs.declared.request.Request.{Request}
use Rattle.stateful_loop_model.specs.Moments.{Moment, inner, with_loop}
use Rattle.stateful_loop_model.specs.Noted.{unobserved}
use Rattle.stateful_loop_model.specs.Rules.{IsCollected, IsFinalizing, Schedules, Builds, starts, declines, DoesMessage, schedules, answers, acknowledges, holds, begins, Takes, of_action, of_message, Rule, ObservesBlock, Can, collect, go_on, Quiet, Along}
use Rattle.stateful_loop_model.specs.Rules as rule
use Rattle.stateful_loop_model.specs.Sound.{Sound, FrontAgrees, AgreesWith}
use Rattle.stateful_loop_model.specs.declared.message.Message.{Message}
use Rattle.stateful_loop_model.specs.declared.tables.Finalizing.{Finalizing}
use Rattle.stateful_loop_model.proofs.AppliedMarks.{AppliesNone, AppliesNone-made, AppliesNone-same, AppliesNone-then, withdrawn_none, acknowledged_none, acquires_none, resumes_none, hooks_none}

-- nothing was captured for a finalization: its block isn't to be observed
pub unread : {B G : Type 0} (f : Finalizing B G) → f.captured ≡ None → unobserved (Some f) ≡ []
unread {G = G} f is = ap (λ (c : Option G). unobserved (Some (record f { captured = c }))) is

pub read : {B G : Type 0} (f : Finalizing B G) (captured : G) → f.captured ≡ Some captured → unobserved (Some f) ≡ f.block ∷ []
read {G = G} f captured is = ap (λ (c : Option G). unobserved (Some (record f { captured = c }))) is

pub none_isnt : {T : Type 0} (o : Option T) → o ≡ None → IsSome o → ⊥
none_isnt None is some = cc
none_isnt (Some x) is some = cc

module _ {B C I P R D H G U : Type 0} (w : Workings B C I P R D H G U) where
  -- what was applied between two moments is still to be observed at the later one, behind what was at the earlier one
  pub record LeavesUnobserved (m now : Moment w) : Type 0 where
    pub added : List (Mark B)
    pub marks_are : now.marks ≡ m.marks ++ added
    pub fronts : unobserved now.loop.front ≡ unobserved m.loop.front ++ applied_in added

  -- a finalization is in front whose block is to be observed
  pub record CanObserve (m : Moment w) : Type 0 where
    pub finalization : Finalizing B G
    pub captured : G
    pub in_front : IsFinalizing w m finalization
    pub is : finalization.captured ≡ Some captured

  pub leaves_front : (m now : Moment w) → AppliesNone m.marks now.marks → now.loop.front ≡ m.loop.front → LeavesUnobserved m now
  leaves_front m now a same = record {
    added = a.added;
    marks_are = a.marks_are;
    fronts = ap unobserved same ∙ sym (append-nil (unobserved m.loop.front)) ∙ ap (λ (l : List (Named B)). unobserved m.loop.front ++ l) (sym a.none);
  }

  leaves_applied : (m now : Moment w) (added : List (Mark B)) → now.marks ≡ m.marks ++ added → unobserved m.loop.front ≡ []
      → unobserved now.loop.front ≡ applied_in added → LeavesUnobserved m now
  leaves_applied m now added is none new = record {
    added = added;
    marks_are = is;
    fronts = new ∙ ap (λ (l : List (Named B)). l ++ applied_in added) (sym none);
  }

  leaves_none : (m now : Moment w) → AppliesNone m.marks now.marks → unobserved m.loop.front ≡ [] → unobserved now.loop.front ≡ [] → LeavesUnobserved m now
  leaves_none m now a before after = leaves_applied m now a.added a.marks_are before (after ∙ sym a.none)

  -- from an earlier moment with the same marks and the same front
  since : (m mid now : Moment w) → mid.marks ≡ m.marks → mid.loop.front ≡ m.loop.front → LeavesUnobserved mid now → LeavesUnobserved m now
  since m mid now marks front l = record {
    added = l.added;
    marks_are = l.marks_are ∙ ap (λ (x : List (Mark B)). x ++ l.added) marks;
    fronts = l.fronts ∙ ap (λ (f : Option (Finalizing B G)). unobserved f ++ applied_in l.added) front;
  }

  schedules_leaves : (stored : ℕ → Option (Named B)) (request : Request B C I) (m now : Moment w) → Schedules w stored request m now → LeavesUnobserved m now
  schedules_leaves stored request m now r =
      leaves_front m now
      (AppliesNone-then m.marks r.then.marks now.marks (acquires_none w stored (inner w m) (ticket_by request) (requested request) r.then r.acquires)
      (AppliesNone-same r.then.marks now.marks (ap (λ (n : Moment w). n.marks) r.becomes)))
      (ap (λ (n : Moment w). n.loop.front) r.becomes)

  builds_leaves : (provider : P) (t : ℕ) (m now : Moment w) → Builds w provider t m now → LeavesUnobserved m now
  builds_leaves provider t m now (starts s e) =
      leaves_front m now (AppliesNone-made m.marks now.marks _ (ap (λ (n : Moment w). n.marks) e) refl) (ap (λ (n : Moment w). n.loop.front) e)
  builds_leaves provider t m now (declines none e) =
      leaves_front m now (AppliesNone-made m.marks now.marks _ (ap (λ (n : Moment w). n.marks) e) refl) (ap (λ (n : Moment w). n.loop.front) e)

  does_leaves : (stored : ℕ → Option (Named B)) (x : Message B C I) (m now : Moment w) → m.loop.front ≡ None → DoesMessage w stored m now x
      → LeavesUnobserved m now
  does_leaves stored x m now idle (schedules r) = schedules_leaves stored _ m now r
  does_leaves stored x m now idle (answers e) =
      leaves_front m now (AppliesNone-made m.marks now.marks _ (ap (λ (n : Moment w). n.marks) e) refl) (ap (λ (n : Moment w). n.loop.front) e)
  does_leaves stored x m now idle (acknowledges past durable e) =
      leaves_front m now (AppliesNone-made m.marks now.marks _ (ap (λ (n : Moment w). n.marks) e) refl) (ap (λ (n : Moment w). n.loop.front) e)
  does_leaves stored x m now idle (holds past later e) =
      leaves_front m now (AppliesNone-same m.marks now.marks (ap (λ (n : Moment w). n.marks) e)) (ap (λ (n : Moment w). n.loop.front) e)
  does_leaves stored x m now idle (begins higher r) =
      leaves_none m now
      (AppliesNone-made m.marks now.marks _ (ap (λ (n : Moment w). n.marks) r.becomes) (ap applied_in r.pauses.marks_are ∙ withdrawn_none r.pauses.fetches))
      (ap unobserved idle) (ap (λ (n : Moment w). unobserved n.loop.front) r.becomes)

  takes_marks : (x : Message B C I) (m mid : Moment w) → Takes w x m mid → mid.marks ≡ m.marks
  takes_marks x m mid (of_action is e) = ap (λ (n : Moment w). n.marks) e
  takes_marks x m mid (of_message none is e) = ap (λ (n : Moment w). n.marks) e

  takes_front : (x : Message B C I) (m mid : Moment w) → Takes w x m mid → mid.loop.front ≡ m.loop.front
  takes_front x m mid (of_action is e) = ap (λ (n : Moment w). n.loop.front) e
  takes_front x m mid (of_message none is e) = ap (λ (n : Moment w). n.loop.front) e

  -- a barrier begins, whatever is in front
  pub covers_leaves : (m now : Moment w) → rule.BeginsBarrier w m now → LeavesUnobserved m now
  covers_leaves m now r =
      leaves_front m now (AppliesNone-made m.marks now.marks _ (ap (λ (n : Moment w). n.marks) r.becomes) refl)
      (ap (λ (n : Moment w). n.loop.front) r.becomes)

  -- a run of the finalized block begins
  pub runs_leaves : (b : Named B) (m now : Moment w) → rule.RunsFinalized w b m now → LeavesUnobserved m now
  runs_leaves b m now r =
      leaves_front m now (AppliesNone-made m.marks now.marks _ (ap (λ (n : Moment w). n.marks) r.becomes) refl)
      (ap (λ (n : Moment w). n.loop.front) r.becomes)

  -- it is applied
  pub applies_leaves : (f : Finalizing B G) (m now : Moment w) → m.loop.front ≡ Some f → f.captured ≡ None → rule.AppliesBlock w f m now → LeavesUnobserved m now
  applies_leaves f m now front none r =
      leaves_applied m now _ (ap (λ (n : Moment w). n.marks) r.becomes) (ap unobserved front ∙ unread f none)
      (ap (λ (n : Moment w). unobserved n.loop.front) r.becomes)

  -- the finalization ends
  pub ends_leaves : (stored : ℕ → Option (Named B)) (f : Finalizing B G) (m now : Moment w) → m.loop.front ≡ Some f → f.captured ≡ None
      → rule.EndsFinalization w stored f m now → LeavesUnobserved m now
  ends_leaves stored f m now front none r =
      leaves_none m now
      (AppliesNone-then m.marks r.then.marks now.marks (resumes_none w stored (inner w m) r.then r.resumes)
      (AppliesNone-same r.then.marks now.marks (ap (λ (n : Moment w). n.marks) r.becomes)))
      (ap unobserved front ∙ unread f none) (ap (λ (n : Moment w). unobserved n.loop.front) r.becomes)

  -- each rule does so, but that by which the application observes a block
  pub rule_leaves : (stored : ℕ → Option (Named B)) (provider : P) (m now : Moment w) → Rule w stored provider m now
      → LeavesUnobserved m now ⊎ CanObserve m
  rule_leaves stored provider m now (rule.collects up r) =
      inl (leaves_front m now (AppliesNone-same m.marks now.marks (ap (λ (n : Moment w). n.marks) r.becomes)) (ap (λ (n : Moment w). n.loop.front) r.becomes))
  rule_leaves stored provider m now (rule.schedules {rest = rest} calm alive is verifies r) =
      inl (since m (with_loop w m (record m.loop { queue = rest })) now refl refl (schedules_leaves stored _ _ now r))
  rule_leaves stored provider m now (rule.puts_off calm alive is other e) =
      inl (leaves_front m now (AppliesNone-same m.marks now.marks (ap (λ (n : Moment w). n.marks) e)) (ap (λ (n : Moment w). n.loop.front) e))
  rule_leaves stored provider m now (rule.runs fin begun awaits unknown r) = inl (runs_leaves _ m now r)
  rule_leaves stored provider m now (rule.applies {f = f} fin captured states r) = inl (applies_leaves f m now fin.2 captured r)
  rule_leaves stored provider m now (rule.covers fin advanced captured needed r) = inl (covers_leaves m now r)
  rule_leaves stored provider m now (rule.observes {f = f} {captured = captured} fin advanced is covered r) =
      inr (record { finalization = f; captured = captured; in_front = fin; is = is })
  rule_leaves stored provider m now (rule.ends {f = f} fin advanced captured r) = inl (ends_leaves stored f m now fin.2 captured r)
  rule_leaves stored provider m now (rule.breaks idle broken e) =
      inl (leaves_front m now (AppliesNone-made m.marks now.marks _ (ap (λ (n : Moment w). n.marks) e) refl) (ap (λ (n : Moment w). n.loop.front) e))
  rule_leaves stored provider m now (rule.completes {active = active} idle unbroken done r) =
      inl (leaves_front m now (AppliesNone-made m.marks now.marks _ (ap (λ (n : Moment w). n.marks) r.becomes) (acknowledged_none (receipts_up_to active.height.0 m.loop.durability.held)))
      (ap (λ (n : Moment w). n.loop.front) r.becomes))
  rule_leaves stored provider m now (rule.begins idle unbroken undone needed r) = inl (covers_leaves m now r)
  rule_leaves stored provider m now (rule.builds {rest = rest} calm is r) =
      inl (since m (with_loop w m (record m.loop { actions = rest })) now refl refl (builds_leaves provider _ _ now r))
  rule_leaves stored provider m now (rule.takes {x = x} {mid = mid} calm taken does) =
      inl (since m mid now (takes_marks x m mid taken) (takes_front x m mid taken) (does_leaves stored x mid now (takes_front x m mid taken ∙ calm.0.2) does))

  -- the marks by which the application observes a block say of none that it was applied
  pub observes_none : (f : Finalizing B G) (captured : G) (m now : Moment w) → ObservesBlock w f captured m now → AppliesNone m.marks now.marks
  observes_none f captured m now r =
      AppliesNone-then m.marks r.marks now.marks
      (hooks_none w f.block r.observes.hook m.execution.state r.state m.marks r.marks r.front r.live r.observes.hooks_on)
      (AppliesNone-same r.marks now.marks (ap (λ (n : Moment w). n.marks) r.becomes))

  -- No block is to be observed while a build goes on, nor where the machine isn't up.
  pub record IsObserved (m : Moment w) : Type 0 where
    pub building : IsSome m.execution.build → unobserved m.loop.front ≡ []
    pub down : m.loop.up ≡ false → unobserved m.loop.front ≡ []

  pub observed_none : (m : Moment w) → unobserved m.loop.front ≡ [] → IsObserved m
  observed_none m is = record { building = λ built. is; down = λ down. is }

  observed_kept : (m now : Moment w) → now.execution.build ≡ m.execution.build → now.loop.up ≡ m.loop.up → now.loop.front ≡ m.loop.front → IsObserved m
      → IsObserved now
  observed_kept m now build up front o = record {
    building = λ built. ap unobserved front ∙ o.building (subst (λ (x : Option _). IsSome x) build built);
    down = λ is. ap unobserved front ∙ o.down (sym up ∙ is);
  }

  observed_working : (now : Moment w) → now.execution.build ≡ None → now.loop.up ≡ true → IsObserved now
  observed_working now build up = record {
    building = λ built. absurd (none_isnt now.execution.build build built);
    down = λ is. absurd (true≢false (sym up ∙ is));
  }

  does_observed : (stored : ℕ → Option (Named B)) (x : Message B C I) (m now : Moment w) → m.loop.front ≡ None → DoesMessage w stored m now x
      → unobserved now.loop.front ≡ []
  does_observed stored x m now idle (schedules r) = ap (λ (n : Moment w). unobserved n.loop.front) r.becomes ∙ ap unobserved idle
  does_observed stored x m now idle (answers e) = ap (λ (n : Moment w). unobserved n.loop.front) e ∙ ap unobserved idle
  does_observed stored x m now idle (acknowledges past durable e) = ap (λ (n : Moment w). unobserved n.loop.front) e ∙ ap unobserved idle
  does_observed stored x m now idle (holds past later e) = ap (λ (n : Moment w). unobserved n.loop.front) e ∙ ap unobserved idle
  does_observed stored x m now idle (begins higher r) = ap (λ (n : Moment w). unobserved n.loop.front) r.becomes

  builds_front : (provider : P) (t : ℕ) (m now : Moment w) → Builds w provider t m now → now.loop.front ≡ m.loop.front
  builds_front provider t m now (starts s e) = ap (λ (n : Moment w). n.loop.front) e
  builds_front provider t m now (declines none e) = ap (λ (n : Moment w). n.loop.front) e

  rule_observed : (stored : ℕ → Option (Named B)) (provider : P) (m now : Moment w) → Rule w stored provider m now → IsObserved m → IsObserved now
  rule_observed stored provider m now (rule.collects up r) o =
      observed_kept m now (ap (λ (n : Moment w). n.execution.build) r.becomes) (ap (λ (n : Moment w). n.loop.up) r.becomes)
      (ap (λ (n : Moment w). n.loop.front) r.becomes) o
  rule_observed stored provider m now (rule.schedules calm alive is verifies r) o =
      observed_kept m now (ap (λ (n : Moment w). n.execution.build) r.becomes) (ap (λ (n : Moment w). n.loop.up) r.becomes)
      (ap (λ (n : Moment w). n.loop.front) r.becomes) o
  rule_observed stored provider m now (rule.puts_off calm alive is other e) o =
      observed_kept m now (ap (λ (n : Moment w). n.execution.build) e) (ap (λ (n : Moment w). n.loop.up) e) (ap (λ (n : Moment w). n.loop.front) e) o
  rule_observed stored provider m now (rule.runs fin begun awaits unknown r) o =
      observed_kept m now (ap (λ (n : Moment w). n.execution.build) r.becomes) (ap (λ (n : Moment w). n.loop.up) r.becomes)
      (ap (λ (n : Moment w). n.loop.front) r.becomes) o
  rule_observed stored provider m now (rule.applies fin captured states r) o =
      observed_working now (ap (λ (n : Moment w). n.execution.build) r.becomes ∙ fin.1) (ap (λ (n : Moment w). n.loop.up) r.becomes ∙ fin.0.0)
  rule_observed stored provider m now (rule.covers fin advanced captured needed r) o =
      observed_kept m now (ap (λ (n : Moment w). n.execution.build) r.becomes) (ap (λ (n : Moment w). n.loop.up) r.becomes)
      (ap (λ (n : Moment w). n.loop.front) r.becomes) o
  rule_observed stored provider m now (rule.observes fin advanced is covered r) o = observed_none now (ap (λ (n : Moment w). unobserved n.loop.front) r.becomes)
  rule_observed stored provider m now (rule.ends fin advanced captured r) o = observed_none now (ap (λ (n : Moment w). unobserved n.loop.front) r.becomes)
  rule_observed stored provider m now (rule.breaks idle broken e) o =
      observed_none now (ap (λ (n : Moment w). unobserved n.loop.front) e ∙ ap unobserved idle.2)
  rule_observed stored provider m now (rule.completes idle unbroken done r) o =
      observed_none now (ap (λ (n : Moment w). unobserved n.loop.front) r.becomes ∙ ap unobserved idle.2)
  rule_observed stored provider m now (rule.begins idle unbroken undone needed r) o =
      observed_none now (ap (λ (n : Moment w). unobserved n.loop.front) r.becomes ∙ ap unobserved idle.2)
  rule_observed stored provider m now (rule.builds calm is r) o = observed_none now (ap unobserved (builds_front provider _ _ now r ∙ calm.0.2))
  rule_observed stored provider m now (rule.takes {x = x} {mid = mid} calm taken does) o =
      observed_none now (does_observed stored x mid now (takes_front x m mid taken ∙ calm.0.2) does)

  along_observed : (stored : ℕ → Option (Named B)) (provider : P) (m now : Moment w) → Along w stored provider m now → IsObserved m → IsObserved now
  along_observed stored provider m now rule.none o = o
  along_observed stored provider m now (rule.further {mid = mid} a r) o = rule_observed stored provider mid now r (along_observed stored provider m mid a o)

  -- Where nothing can go on the application has observed each block that was applied, if it had before.
  module _ (m : Moment w) (quiet : Quiet w m) (sound : Sound w m) where
    collected : m.loop.up ≡ true → (xs : List ℕ) → m.execution.state.recovered ≡ xs → IsCollected w m
    collected up [] is = (up, is)
    collected up (x ∷ xs) is = absurd (quiet (collect up (λ e. let both : x ∷ xs ≡ [] = sym is ∙ e in cc)))

    at_stage : (f : Finalizing B G) (captured : G) (stage : Stage R U H) → IsFinalizing w m f → f.captured ≡ Some captured
        → m.execution.front ≡ Some (record { block = f.block; stage = stage }) → AgreesWith w m.loop.durability f stage → ⊥
    at_stage f captured Begun fin is at agrees = let both : Some captured ≡ None = sym is ∙ agrees.0 in cc
    at_stage f captured (Running j run) fin is at agrees = let both : Some captured ≡ None = sym is ∙ agrees.0 in cc
    at_stage f captured (Ran batch) fin is at agrees = let both : Some captured ≡ None = sym is ∙ agrees.0 in cc
    at_stage f captured Advanced fin is at agrees = quiet (go_on fin at)
    at_stage f captured (Hooking j hook) fin is at agrees = let both : Some captured ≡ None = sym is ∙ agrees.0 in cc

    in_front_observed : m.loop.up ≡ true → m.execution.build ≡ None → (front : Option (Finalizing B G)) → m.loop.front ≡ front
        → FrontAgrees w m.loop.durability front m.execution.front → unobserved front ≡ []
    in_front_observed up build None is agrees = refl
    in_front_observed up build (Some f) is agrees = captured_none f.captured refl
      where
        captured_none : (c : Option G) → f.captured ≡ c → unobserved (Some f) ≡ []
        captured_none None e = unread f e
        captured_none (Some captured) e =
            absurd (at_stage f captured agrees.0 (collected up m.execution.state.recovered refl, build, is) e agrees.1 agrees.2)

    up_observed : m.loop.up ≡ true → (build : Option _) → m.execution.build ≡ build → IsObserved m → unobserved m.loop.front ≡ []
    up_observed up None is o = in_front_observed up is m.loop.front refl (sound.up up).front
    up_observed up (Some b) is o = o.building (subst (λ (x : Option _). IsSome x) (sym is) refl)

    quiet_observed : IsObserved m → unobserved m.loop.front ≡ []
    quiet_observed o = ⊎_elim (λ up. up_observed up m.execution.build refl o) (λ down. o.down down) (cases_Bool m.loop.up)

  pub settled_observed : (stored : ℕ → Option (Named B)) (provider : P) (m now : Moment w) → Along w stored provider m now → Quiet w now → Sound w now
      → unobserved m.loop.front ≡ [] → unobserved now.loop.front ≡ []
  settled_observed stored provider m now along quiet sound is =
      quiet_observed now quiet sound (along_observed stored provider m now along (observed_none m is))
