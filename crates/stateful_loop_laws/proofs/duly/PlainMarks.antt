-- Every event that is taken in, and every rule of the loop but that by which a block is applied and that by which a barrier breaks,
-- makes plain marks.
use Rattle.std.proofs.Common.{◌≡◌, ◌<◌, ◌∷◌, ◌++◌, [], ℕ, Bool, false, List, Option, Ok, Err, All, map, sym, ap, ◌∙◌, refl, append-nil, subst}
use Rattle.std.specs.Prelude.{Result}
use Rattle.std.proofs.lemmas.List.Elements.{All-nil, All-cons, All-weaker}
use Rattle.stateful_base.specs.Names.{Named}
use Rattle.stateful_base.specs.declared.outcome.Handoff.{Handoff}
use Rattle.stateful_base.specs.declared.outcome.Handoff.TheVariants.{Wait, Vote, Stage}
use Rattle.stateful_base.specs.declared.outcome.Moved.{Moved}
use Rattle.stateful_base.specs.declared.outcome.Moved.TheVariants.{Pending, Done}
use Rattle.stateful_db.specs.declared.application.AppFault.{AppFault}
use Rattle.stateful_db.specs.declared.application.Hooked.{Hooked}
use Rattle.stateful_db.specs.declared.application.Hooked.TheVariants as hooked
use Rattle.stateful_db.specs.declared.application.ProposedBlock.{ProposedBlock}
use Rattle.stateful_history.specs.declared.event.Event.{Event}
use Rattle.stateful_history.specs.declared.mark.JobKind.TheVariants.{Candidate}
use Rattle.stateful_history.specs.declared.mark.Mark.{Mark}
use Rattle.stateful_history.specs.declared.mark.Mark.TheVariants.{Opened, Converged, Recorded, Dispatched, Pruned, Completed, Dropped, Stopped, Asked, Withdrawn, Started, Ended, Verdict, Declined, Applied, BarrierDone}
use Rattle.stateful_exec_model.specs.Workings.{Workings}
use Rattle.stateful_exec_model.specs.Moments as exec
use Rattle.stateful_exec_model.specs.Built.{TurnsBuild, other, goes_on, ends, EndsBuild, GivesUp, building, asking}
use Rattle.stateful_exec_tables.specs.Cancelling.{Cancels}
use Rattle.stateful_exec_tables.specs.Cancelling.{idle, withdraws, leaves, unqueued}
use Rattle.stateful_exec_tables.specs.Cancelling as cancel
use Rattle.stateful_exec_model.specs.Finalizing.{TurnsHook, hook_turned, unhooked, SettlesHook, candidate, finalized, StepsFinal, turned, not_live, SettlesFinal, HooksOn}
use Rattle.stateful_exec_model.specs.Finalizing.{Completes}
use Rattle.stateful_exec_model.specs.declared.building.Building.{Building}
use Rattle.stateful_exec_model.specs.declared.front.Front.{Front}
use Rattle.stateful_exec_tables.specs.declared.state.Tables.{Tables}
use Rattle.stateful_exec_laws.specs.Building.{IsElsewhere}
use Rattle.stateful_exec_laws.proofs.pauses.Passing.{IsBeside, PassesBy, PassesBy-acquires}
use Rattle.stateful_exec_laws.proofs.pauses.PassingRules.{PassesBy-steps, PassesBy-resumes, PassesBy-fetched}
use Rattle.stateful_loop_model.specs.Intake.{Counts, TakesIn, enters, cancels, fetched, turns, flushes, stops, progresses, restarts, TurnsJob, build, hook, run}
use Rattle.stateful_loop_model.specs.Moments.{Moment, inner, with_loop}
use Rattle.stateful_loop_model.specs.Rules.{acknowledged, Schedules, Builds, starts, declines, DoesMessage, schedules, answers, acknowledges, holds, begins, IsFinalizing, HasStates, AppliesBlock, Takes, of_action, of_message, Rule}
use Rattle.stateful_loop_model.specs.Rules as rule
use Rattle.stateful_loop_model.specs.declared.message.Message.{Message}
use Rattle.stateful_loop_model.specs.declared.barriers.Active.{Active}
use Rattle.stateful_loop_model.specs.declared.tables.Finalizing.{Finalizing}

-- not the mark of an applied block, of a barrier that broke, of an opening, a sync, a prune or a stop
abbrev pub IsPlain : {B : Type 0} → Mark B → Type 0
IsPlain (Applied b) = ⊥
IsPlain (BarrierDone k height false) = ⊥
IsPlain (Opened anchor) = ⊥
IsPlain (Converged anchor) = ⊥
IsPlain (Recorded anchor) = ⊥
IsPlain (Dispatched generation height) = ⊥
IsPlain (Pruned marshal target) = ⊥
IsPlain (Completed height) = ⊥
IsPlain (Dropped t) = ⊥
IsPlain Stopped = ⊥
IsPlain mark = Unit {0}

-- from one moment to a later one such marks are made
pub record PlainBehind {B C I P R D H G U : Type 0} (w : Workings B C I P R D H G U) (m now : Moment w) : Type 0 where
  pub more : List (Mark B)
  pub marks_are : now.marks ≡ m.marks ++ more
  pub each : All IsPlain more

-- no job, no ticket
abbrev None_of : ℕ → Type 0
None_of n = ⊥

beside_of : {B : Type 0} (mark : Mark B) → IsBeside None_of None_of mark → IsPlain mark
beside_of (Asked f ticket d) h = tt
beside_of (Withdrawn f) h = tt
beside_of (Started k Candidate d) h = tt
beside_of (Ended k how) h = tt
beside_of (Verdict t answer) h = tt
beside_of (Declined t) h = tt
beside_of mark h = absurd h

one_of : {B : Type 0} (mark : Mark B) → IsPlain mark → All IsPlain (mark ∷ [])
one_of mark h = All-cons IsPlain mark [] h (All-nil IsPlain)

two_of : {B : Type 0} (first second : Mark B) → IsPlain first → IsPlain second → All IsPlain (first ∷ second ∷ [])
two_of first second h k = All-cons IsPlain first (second ∷ []) h (one_of second k)

withdrawn_of : {B : Type 0} (fetches : List ℕ) → All (IsPlain {B = B}) (map (λ f. Withdrawn f) fetches)
withdrawn_of [] = All-nil IsPlain
withdrawn_of (f ∷ fetches) = All-cons IsPlain (Withdrawn f) _ tt (withdrawn_of fetches)

acknowledged_of : {B : Type 0} (receipts : List (ℕ × ℕ)) → All (IsPlain {B = B}) (map acknowledged receipts)
acknowledged_of [] = All-nil IsPlain
acknowledged_of (receipt ∷ receipts) = All-cons IsPlain (acknowledged receipt) _ tt (acknowledged_of receipts)

module _ {B C I P R D H G U : Type 0} (w : Workings B C I P R D H G U) where
  none_made : (m now : Moment w) → now.marks ≡ m.marks → PlainBehind w m now
  none_made m now is = record { more = []; marks_are = is ∙ sym (append-nil m.marks); each = All-nil IsPlain }

  made : (m now : Moment w) (more : List (Mark B)) → now.marks ≡ m.marks ++ more → All IsPlain more → PlainBehind w m now
  made m now more is each = record { more = more; marks_are = is; each = each }

  passed : (m now : Moment w) (mid last : exec.Moment w) → PassesBy w None_of None_of mid last → mid.marks ≡ m.marks → now.marks ≡ last.marks
      → PlainBehind w m now
  passed m now mid last f was is =
      made m now f.more (is ∙ f.marks_are ∙ ap (λ (marks : List (Mark B)). marks ++ f.more) was)
      (All-weaker (IsBeside None_of None_of) IsPlain (λ mark h. beside_of mark h) f.more f.beside)

  none_drawn : (m : exec.Moment w) (k : ℕ) → None_of k → k < m.state.next_job
  none_drawn m k h = absurd h

  none_elsewhere : (m : exec.Moment w) (t : ℕ) → None_of t → IsElsewhere m.state t
  none_elsewhere m t h = absurd h

  schedules_made : (stored : ℕ → Option (Named B)) (request : _) (m now : Moment w) → Schedules w stored request m now → PlainBehind w m now
  schedules_made stored request m now r =
      passed m now (inner w m) r.then
      (PassesBy-acquires w None_of None_of stored (inner w m) r.then _ _ (none_drawn (inner w m)) (λ h. h) r.acquires) refl
      (ap (λ (n : Moment w). n.marks) r.becomes)

  builds_made : (provider : P) (t : ℕ) (m now : Moment w) → Builds w provider t m now → PlainBehind w m now
  builds_made provider t m now (starts s e) = made m now _ (ap (λ (n : Moment w). n.marks) e) (one_of _ tt)
  builds_made provider t m now (declines none e) = made m now _ (ap (λ (n : Moment w). n.marks) e) (one_of _ tt)

  does_made : (stored : ℕ → Option (Named B)) (x : Message B C I) (m now : Moment w) → DoesMessage w stored m now x → PlainBehind w m now
  does_made stored x m now (schedules r) = schedules_made stored _ m now r
  does_made stored x m now (answers e) = made m now _ (ap (λ (n : Moment w). n.marks) e) (one_of _ tt)
  does_made stored x m now (acknowledges past durable e) = made m now _ (ap (λ (n : Moment w). n.marks) e) (one_of _ tt)
  does_made stored x m now (holds past later e) = none_made m now (ap (λ (n : Moment w). n.marks) e)
  does_made stored x m now (begins higher r) =
      made m now _ (ap (λ (n : Moment w). n.marks) r.becomes)
      (All-cons IsPlain _ r.withdrawn tt
      (subst (λ (marks : List (Mark B)). All IsPlain marks) (sym r.pauses.marks_are) (withdrawn_of r.pauses.fetches)))

  -- what is observed after a finalized block makes no mark, or that of the hook's start
  hooks_made : (m now : Moment w) (b : Named B) (hook_left : Hooked H) (old new : Tables B C I R U) (marks : List (Mark B))
      (after : Option (Front B R U H)) (live : Bool)
      → HooksOn w b hook_left old new m.marks marks after live → now.marks ≡ marks → PlainBehind w m now
  hooks_made m now b hooked.Done old new marks after live h is = none_made m now (is ∙ h.1)
  hooks_made m now b (hooked.Pending hook_left) old new marks after live h is = made m now _ (is ∙ h.2) (one_of _ tt)

  -- none is made where a message is taken
  pub takes-marks : (x : Message B C I) (m mid : Moment w) → Takes w x m mid → mid.marks ≡ m.marks
  takes-marks x m mid (of_action is e) = ap (λ (n : Moment w). n.marks) e
  takes-marks x m mid (of_message none is e) = ap (λ (n : Moment w). n.marks) e

  -- from an earlier moment with the same marks
  since : (m mid now : Moment w) → mid.marks ≡ m.marks → PlainBehind w mid now → PlainBehind w m now
  since m mid now same b = made m now b.more (b.marks_are ∙ ap (λ (marks : List (Mark B)). marks ++ b.more) same) b.each

  -- what the marks of a rule are: plain; or that of a block that is applied; or that of a barrier that broke
  pub data RuleMade (m now : Moment w) : Type 0 where
    plain : PlainBehind w m now → RuleMade m now
    applied_one : {f : Finalizing B G} → IsFinalizing w m f → HasStates w m f.block → AppliesBlock w f m now → RuleMade m now
    broke_one : (active : Active)
        → now ≡ record m { loop = record m.loop { up = false }; marks = m.marks ++ BarrierDone active.number active.height false ∷ [] } → RuleMade m now

  -- so it is with each rule
  pub rule_plain : (stored : ℕ → Option (Named B)) (provider : P) (m now : Moment w) → Rule w stored provider m now → RuleMade m now
  rule_plain stored provider m now (rule.collects up r) =
      plain (none_made m now (ap (λ (n : Moment w). n.marks) r.becomes))
  rule_plain stored provider m now (rule.schedules {rest = rest} calm alive is verifies r) =
      plain (since m (with_loop w m (record m.loop { queue = rest })) now refl (schedules_made stored _ _ now r))
  rule_plain stored provider m now (rule.puts_off calm alive is other_message e) =
      plain (none_made m now (ap (λ (n : Moment w). n.marks) e))
  rule_plain stored provider m now (rule.runs fin begun awaits unknown r) =
      plain (made m now _ (ap (λ (n : Moment w). n.marks) r.becomes) (one_of _ tt))
  rule_plain stored provider m now (rule.applies fin captured states r) = applied_one fin states r
  rule_plain stored provider m now (rule.covers fin advanced captured needed r) =
      plain (made m now _ (ap (λ (n : Moment w). n.marks) r.becomes) (one_of _ tt))
  rule_plain stored provider m now (rule.observes {f = f} fin advanced is covered r) =
      plain (hooks_made m now f.block r.observes.hook m.execution.state r.state r.marks r.front r.live r.observes.hooks_on
      (ap (λ (n : Moment w). n.marks) r.becomes))
  rule_plain stored provider m now (rule.ends fin advanced captured r) =
      plain (passed m now (inner w m) r.then
      (PassesBy-resumes w None_of None_of stored (inner w m) r.then (none_drawn (inner w m)) (none_elsewhere (inner w m)) r.resumes) refl
      (ap (λ (n : Moment w). n.marks) r.becomes))
  rule_plain stored provider m now (rule.breaks {active = active} idle_now broken e) = broke_one active e
  rule_plain stored provider m now (rule.completes idle_now unbroken done r) =
      plain (made m now _ (ap (λ (n : Moment w). n.marks) r.becomes) (All-cons IsPlain _ _ tt (acknowledged_of _)))
  rule_plain stored provider m now (rule.begins idle_now unbroken undone needed r) =
      plain (made m now _ (ap (λ (n : Moment w). n.marks) r.becomes) (one_of _ tt))
  rule_plain stored provider m now (rule.builds {rest = rest} calm is r) =
      plain (since m (with_loop w m (record m.loop { actions = rest })) now refl (builds_made provider _ _ now r))
  rule_plain stored provider m now (rule.takes {x = x} {mid = mid} calm taken does) =
      plain (since m mid now (takes-marks x m mid taken) (does_made stored x mid now does))

  cancel_marks : (old new : Tables B C I R U) (t : ℕ) (marks : List (Mark B)) → Cancels old new t marks → All IsPlain marks
  cancel_marks old new t marks (idle r there rest is none) = subst (λ (l : List (Mark B)). All IsPlain l) (sym none) (All-nil IsPlain)
  cancel_marks old new t marks (withdraws r fetch there is one) = subst (λ (l : List (Mark B)). All IsPlain l) (sym one) (one_of _ tt)
  cancel_marks old new t marks (leaves r j path there executing others is none) =
      subst (λ (l : List (Mark B)). All IsPlain l) (sym none) (All-nil IsPlain)
  cancel_marks old new t marks (cancel.ends r j path there executing last is one) =
      subst (λ (l : List (Mark B)). All IsPlain l) (sym one) (one_of _ tt)
  cancel_marks old new t marks (unqueued absent is none) = subst (λ (l : List (Mark B)). All IsPlain l) (sym none) (All-nil IsPlain)

  gives_up_marks : (old new : Tables B C I R U) (before after : Option (Building B C D)) (t : ℕ) (marks : List (Mark B))
      → GivesUp old new before after t marks → All IsPlain marks
  gives_up_marks old new before after t marks (building for_it same none one) = subst (λ (l : List (Mark B)). All IsPlain l) (sym one) (one_of _ tt)
  gives_up_marks old new before after t marks (asking not_built c same) = cancel_marks old new t marks c

  -- the end of a build makes two marks
  ended_made : (m now : Moment w) (b : Building B C D) (given : Handoff (ProposedBlock B U)) (then : exec.Moment w)
      → EndsBuild w b (inner w m) given then → now.marks ≡ then.marks → PlainBehind w m now
  ended_made m now b Wait then e is = made m now _ (is ∙ ap (λ (n : exec.Moment w). n.marks) e) (two_of _ _ tt tt)
  ended_made m now b (Vote p) then e is = made m now _ (is ∙ ap (λ (n : exec.Moment w). n.marks) e.becomes) (two_of _ _ tt tt)
  ended_made m now b (Stage p) then e is = made m now _ (is ∙ ap (λ (n : exec.Moment w). n.marks) e.becomes) (two_of _ _ tt tt)

  build_made : (count : D → ℕ) (j : ℕ) (m now : Moment w) (then : exec.Moment w) (after : Option (Building B C D))
      → TurnsBuild w count (inner w m) m.execution.build j then after → now.marks ≡ then.marks → PlainBehind w m now
  build_made count j m now then after (other none e same) is = none_made m now (is ∙ ap (λ (n : exec.Moment w). n.marks) e)
  build_made count j m now then after (goes_on live had e more) is = none_made m now (is ∙ ap (λ (n : exec.Moment w). n.marks) e)
  build_made count j m now then after (ends live had e over) is = ended_made m now _ _ then e is

  hook_settled : (m now : Moment w) (j : ℕ) (b : Named B) (turned_hook : H) (answer : Result (Moved Unit) AppFault)
      (marks : List (Mark B)) (after : Option (Front B R U H)) → SettlesHook w j b turned_hook answer m.marks marks after → now.marks ≡ marks
      → PlainBehind w m now
  hook_settled m now j b turned_hook (Ok Pending) marks after h is = none_made m now (is ∙ h.0)
  hook_settled m now j b turned_hook (Ok (Done over)) marks after h is = made m now _ (is ∙ h.0) (one_of _ tt)
  hook_settled m now j b turned_hook (Err fault) marks after h is = absurd h

  hook_made : (count : H → ℕ) (j : ℕ) (m now : Moment w) (marks : List (Mark B)) (after : Option (Front B R U H))
      → TurnsHook w count m.members m.execution.front j m.marks marks after → now.marks ≡ marks → PlainBehind w m now
  hook_made count j m now marks after (hook_turned {b = b} {now = turned_hook} {answer = answer} live had settles) is =
      hook_settled m now j b turned_hook answer marks after settles is
  hook_made count j m now marks after (unhooked none same still) is = none_made m now (is ∙ same)

  final_settled : (m now : Moment w) (j : ℕ) (b : Named B) (turned_run : R) (answer : Result (Moved (Option U)) AppFault)
      (marks : List (Mark B)) (after : Option (Front B R U H)) → SettlesFinal w j b turned_run answer m.marks marks after → now.marks ≡ marks
      → PlainBehind w m now
  final_settled m now j b turned_run (Ok Pending) marks after h is = none_made m now (is ∙ h.0)
  final_settled m now j b turned_run (Ok (Done over)) marks after h is = made m now _ (is ∙ h.2) (one_of _ tt)
  final_settled m now j b turned_run (Err fault) marks after h is = absurd h

  final_made : (count : R → ℕ) (j : ℕ) (m now : Moment w) (marks : List (Mark B)) (after : Option (Front B R U H))
      → StepsFinal w count m.members m.execution.front j m.marks marks after → now.marks ≡ marks → PlainBehind w m now
  final_made count j m now marks after (turned {b = b} {turned = turned_run} {answer = answer} live had settles) is =
      final_settled m now j b turned_run answer marks after settles is
  final_made count j m now marks after (not_live none same still) is = none_made m now (is ∙ same)

  run_made : (count : R → ℕ) (j : ℕ) (m now : Moment w) (then : exec.Moment w) (after : Option (Front B R U H))
      → Completes w count (inner w m) m.execution.front j then after → now.marks ≡ then.marks → PlainBehind w m now
  run_made count j m now then after (candidate steps same) is =
      passed m now (inner w m) then (PassesBy-steps w None_of None_of count (inner w m) then j (λ h. h) (none_drawn (inner w m))
      (none_elsewhere (inner w m)) steps) refl is
  run_made count j m now then after (finalized none steps e) is = final_made count j m now then.marks after steps is

  turns_made : (counts : Counts R D H) (j : ℕ) (m now : Moment w) → TurnsJob w counts j m now → PlainBehind w m now
  turns_made counts j m now (build {then = then} {after = after} builds r e) =
      build_made counts.build j m now then after r (ap (λ (n : Moment w). n.marks) e)
  turns_made counts j m now (hook {marks = marks} {after = after} not_built hooks r e) =
      hook_made counts.hook j m now marks after r (ap (λ (n : Moment w). n.marks) e)
  turns_made counts j m now (run {then = then} {after = after} not_built not_hooked r e) =
      run_made counts.run j m now then after r (ap (λ (n : Moment w). n.marks) e)

  -- each event that is taken in makes such marks
  pub taken_in_plain : (stored : ℕ → Option (Named B)) (counts : Counts R D H) (m now : Moment w) (event : Event B C I)
      → TakesIn w stored counts m now event → PlainBehind w m now
  taken_in_plain stored counts m now event (enters x e) = none_made m now (ap (λ (n : Moment w). n.marks) e)
  taken_in_plain stored counts m now event (cancels {t = t} r) =
      made m now r.marks (ap (λ (n : Moment w). n.marks) r.becomes)
      (gives_up_marks m.execution.state r.state m.execution.build r.build t r.marks r.gives_up)
  taken_in_plain stored counts m now event (fetched {f = f} {answer = answer} {then = then} r e) =
      passed m now (inner w m) then (PassesBy-fetched w None_of None_of stored (inner w m) then f answer (none_drawn (inner w m))
      (none_elsewhere (inner w m)) r) refl (ap (λ (n : Moment w). n.marks) e)
  taken_in_plain stored counts m now event (turns {j = j} r) = turns_made counts j m now r
  taken_in_plain stored counts m now event (flushes r) = none_made m now (ap (λ (n : Moment w). n.marks) r.becomes)
  taken_in_plain stored counts m now event (stops e) = none_made m now (ap (λ (n : Moment w). n.marks) e)
  taken_in_plain stored counts m now event (progresses e) = none_made m now (ap (λ (n : Moment w). n.marks) e)
  taken_in_plain stored counts m now event (restarts e) = none_made m now (ap (λ (n : Moment w). n.marks) e)
