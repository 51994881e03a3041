-- What a turn of a job and a cancel are told by: marks that say nothing of what the loop keeps.
use Rattle.std.proofs.Common.{◌≡◌, ◌++◌, ◌∷◌, [], ℕ, List, All, Result, Ok, Err, Option, sym, ap, ◌∙◌}
use Rattle.std.proofs.lemmas.List.{append-nil}
use Rattle.std.proofs.lemmas.List.Elements.{All-nil, All-cons}
use Rattle.stateful_base.specs.Names.{Named}
use Rattle.stateful_base.specs.declared.outcome.Handoff.{Handoff}
use Rattle.stateful_base.specs.declared.outcome.Handoff.TheVariants.{Wait, Vote, Stage}
use Rattle.stateful_base.specs.declared.outcome.Moved.{Moved}
use Rattle.stateful_base.specs.declared.outcome.Moved.TheVariants.{Pending, Done}
use Rattle.stateful_db.specs.declared.application.AppFault.{AppFault}
use Rattle.stateful_db.specs.declared.application.ProposedBlock.{ProposedBlock}
use Rattle.stateful_history.specs.declared.mark.Mark.{Mark}
use Rattle.stateful_exec_model.specs.Built.{EndsBuild, TurnsBuild, other, goes_on, ends, GivesUp, building, asking}
use Rattle.stateful_exec_tables.specs.Cancelling as cancel
use Rattle.stateful_exec_model.specs.Finalizing.{SettlesHook, TurnsHook, hook_turned, unhooked, SettlesFinal, StepsFinal, turned, not_live, candidate, finalized}
use Rattle.stateful_exec_model.specs.Finalizing.{Completes}
use Rattle.stateful_exec_model.specs.Moments as exec
use Rattle.stateful_exec_model.specs.Workings.{Workings}
use Rattle.stateful_exec_model.specs.declared.building.Building.{Building}
use Rattle.stateful_exec_model.specs.declared.front.Front.{Front}
use Rattle.stateful_exec_tables.specs.declared.state.Tables.{Tables}
use Rattle.stateful_exec_laws.proofs.pauses.Passing.{PassesBy}
use Rattle.stateful_exec_laws.proofs.pauses.PassingRules.{PassesBy-steps}
use Rattle.stateful_loop_laws.proofs.loop.CalmItems.{IsCalmMark}
use Rattle.stateful_loop_laws.proofs.loop.Passes.{NoneOf, IsCalmMark-beside}
use Rattle.stateful_loop_model.proofs.SoundingTurns.{steps_stays}
use Rattle.stateful_loop_model.proofs.Staying.{Stays}

-- from some marks to later ones calm marks are made
pub record IsCalmStep {B : Type 0} (before now : List (Mark B)) : Type 0 where
  pub more : List (Mark B)
  pub marks_are : now ≡ before ++ more
  pub calm : All (λ x. IsCalmMark x) more

module _ {B : Type 0} where
  -- where no mark is made
  pub no_mark : (before now : List (Mark B)) → now ≡ before → IsCalmStep before now
  no_mark before now e = record { more = []; marks_are = e ∙ sym (append-nil before); calm = All-nil (λ x. IsCalmMark x) }

  one_mark : (before now : List (Mark B)) (mark : Mark B) → IsCalmMark mark → now ≡ before ++ mark ∷ [] → IsCalmStep before now
  one_mark before now mark calm e = record {
    more = mark ∷ [];
    marks_are = e;
    calm = All-cons (λ x. IsCalmMark x) mark [] calm
        (All-nil (λ x. IsCalmMark x));
  }

  two_marks : (before now : List (Mark B)) (mark next : Mark B) → IsCalmMark mark → IsCalmMark next → now ≡ before ++ mark ∷ next ∷ []
      → IsCalmStep before now
  two_marks before now mark next calm calm_next e = record {
    more = mark ∷ next ∷ [];
    marks_are = e;
    calm = All-cons (λ x. IsCalmMark x) mark (next ∷ []) calm (All-cons (λ x. IsCalmMark x) next [] calm_next (All-nil (λ x. IsCalmMark x)));
  }

-- what a cancel gives up is told by calm marks
cancelled_marks : {B C I R U : Type 0} (old new : Tables B C I R U) (t : ℕ) (marks : List (Mark B)) → cancel.Cancels old new t marks
    → All (λ x. IsCalmMark x) marks
cancelled_marks old new t marks (cancel.idle r there is now e) = rw e (All-nil (λ x. IsCalmMark x))
cancelled_marks old new t marks (cancel.withdraws r fetch is now e) = rw e (All-cons (λ x. IsCalmMark x) _ [] tt (All-nil (λ x. IsCalmMark x)))
cancelled_marks old new t marks (cancel.leaves r j path there is others now e) = rw e (All-nil (λ x. IsCalmMark x))
cancelled_marks old new t marks (cancel.ends r j path there is none now e) = rw e
    (All-cons (λ x. IsCalmMark x) _ [] tt (All-nil (λ x. IsCalmMark x)))
cancelled_marks old new t marks (cancel.unqueued none now e) = rw e (All-nil (λ x. IsCalmMark x))

-- and so is the end of a build that is given up
pub given_up_marks : {B C I R U D : Type 0} (old new : Tables B C I R U) (before after : Option (Building B C D)) (t : ℕ) (marks : List (Mark B))
    → GivesUp old new before after t marks
    → All (λ x. IsCalmMark x) marks
given_up_marks old new before after t marks (building live same none e) = rw e (All-cons (λ x. IsCalmMark x) _ [] tt (All-nil (λ x. IsCalmMark x)))
given_up_marks old new before after t marks (asking none c same) = cancelled_marks old new t marks c

module _ {B C I P R D H G U : Type 0} (w : Workings B C I P R D H G U) where
  -- where requests and candidate runs go on
  pub passed : (m now : exec.Moment w) → PassesBy w NoneOf NoneOf m now → IsCalmStep m.marks now.marks
  passed m now f = record { more = f.more; marks_are = f.marks_are; calm = λ k d l. IsCalmMark-beside NoneOf NoneOf _ (f.beside k d l) }

  -- the marks of a turn of a build, of a hook and of a run
  build_ends : (b : Building B C D) (m : exec.Moment w) (given : Handoff (ProposedBlock B U)) (now : exec.Moment w) → EndsBuild w b m given now
      → IsCalmStep m.marks now.marks
  build_ends b m Wait now e = two_marks m.marks now.marks _ _ tt tt (ap (λ n. n.marks) e)
  build_ends b m (Vote p) now g = two_marks m.marks now.marks _ _ tt tt (ap (λ n. n.marks) g.becomes)
  build_ends b m (Stage p) now g = two_marks m.marks now.marks _ _ tt tt (ap (λ n. n.marks) g.becomes)

  -- of a build
  pub build_marks : (count : D → ℕ) (m : exec.Moment w) (live : Option (Building B C D)) (j : ℕ) (now : exec.Moment w)
      (after : Option (Building B C D)) → TurnsBuild w count m live j now after
      → IsCalmStep m.marks now.marks
  build_marks count m live j now after (other none e is) = no_mark m.marks now.marks (ap (λ n. n.marks) e)
  build_marks count m live j now after (goes_on its done e is) = no_mark m.marks now.marks (ap (λ n. n.marks) e)
  build_marks count m live j now after (ends {b = b} {turned = later} {given = given} its done ended is) = build_ends
      (record b { build = later }) m given now ended

  hook_settles : (j : ℕ) (b : Named B) (later : H) (answer : Result (Moved _) AppFault) (old new : List (Mark B)) (after : Option (Front B R U H))
      → SettlesHook w j b later answer old new after
      → IsCalmStep old new
  hook_settles j b later (Ok Pending) old new after s = no_mark old new s.0
  hook_settles j b later (Ok (Done ended)) old new after s = one_mark old new _ tt s.0
  hook_settles j b later (Err fault) old new after s = absurd s

  -- of a hook
  pub hook_marks : (count : H → ℕ) (d : w.kind.Members) (front : Option (Front B R U H)) (j : ℕ) (old new : List (Mark B))
      (after : Option (Front B R U H)) → TurnsHook w count d front j old new after
      → IsCalmStep old new
  hook_marks count d front j old new after
      (hook_turned {b = b} {now = now} {answer = answer} live done settles) = hook_settles j b now answer old new after settles
  hook_marks count d front j old new after (unhooked none e is) = no_mark old new e

  final_settles : (j : ℕ) (b : Named B) (later : R) (answer : Result (Moved (Option U)) AppFault) (old new : List (Mark B))
      (after : Option (Front B R U H)) → SettlesFinal w j b later answer old new after
      → IsCalmStep old new
  final_settles j b later (Ok Pending) old new after s = no_mark old new s.0
  final_settles j b later (Ok (Done ended)) old new after s = one_mark old new _ tt s.2
  final_settles j b later (Err fault) old new after s = absurd s

  final_marks : (count : R → ℕ) (d : w.kind.Members) (front : Option (Front B R U H)) (j : ℕ) (old new : List (Mark B))
      (after : Option (Front B R U H)) → StepsFinal w count d front j old new after
      → IsCalmStep old new
  final_marks count d front j old new after
      (turned {b = b} {turned = now} {answer = answer} live done settles) = final_settles j b now answer old new after settles
  final_marks count d front j old new after (not_live none e is) = no_mark old new e

  -- of a run, which leaves the anchor and the databases
  pub run_marks : (count : R → ℕ) (m : exec.Moment w) (front : Option (Front B R U H)) (j : ℕ) (now : exec.Moment w) (after : Option (Front B R U H))
      → Completes w count m front j now after
      → IsCalmStep m.marks now.marks × Stays w m now
  run_marks count m front j now after (candidate steps is) = (
    passed m now (PassesBy-steps w NoneOf NoneOf count m now j (λ own. own) (λ k own. absurd own)
        (λ t own. absurd own) steps),
    steps_stays w count m j now steps,
  )
  run_marks count m front j now after (finalized none steps e) = (
    final_marks count m.members front j m.marks now.marks after steps,
    record {
      anchor = ap (λ n. n.state.anchor) e;
      members = ap
          (λ n. n.members) e;
    },
  )
