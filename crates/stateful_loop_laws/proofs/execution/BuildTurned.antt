-- Execution stands after a turn of the live build.
use Rattle.std.proofs.Common.{◌≡◌, ℕ, List, [], ◌∷◌, All, Option, None, Some, IsSome, refl, sym, ap, ◌∙◌, subst}
use Rattle.std.proofs.lemmas.List.{append_cancel_left}
use Rattle.stateful_base.specs.Names.{Named}
use Rattle.stateful_base.specs.declared.digest.Digest.{Digest}
use Rattle.stateful_history.specs.Jobs.{IsLiveJob}
use Rattle.stateful_history.specs.Past.{Past, Came, after}
use Rattle.stateful_history.specs.declared.event.Event.TheVariants.{Turn}
use Rattle.stateful_history.specs.declared.mark.JobKind.{JobKind}
use Rattle.stateful_history.specs.declared.mark.JobKind.TheVariants.{Finalized, Hook}
use Rattle.stateful_history.specs.declared.mark.Mark.{Mark}
use Rattle.stateful_exec_model.specs.Built.{TurnsBuild}
use Rattle.stateful_exec_model.specs.Moments as exec
use Rattle.stateful_exec_model.specs.Workings.{Workings}
use Rattle.stateful_exec_model.specs.declared.building.Building.{Building}
use Rattle.stateful_exec_model.specs.declared.front.Front.{Front}
use Rattle.stateful_exec_pause.specs.declared.pause.Pause.{Pause}
use Rattle.stateful_exec_laws.specs.Building.{BuildStands}
use Rattle.stateful_exec_laws.specs.Fronting.{FrontStands}
use Rattle.stateful_exec_laws.proofs.builds.Rules.{StandsWithBuild, StandsWithBuild-turns}
use Rattle.stateful_exec_laws.proofs.earned.Carried.{IsMild}
use Rattle.stateful_exec_laws.proofs.earned.Together.{IsNoneTrue, AreEarned-none}
use Rattle.stateful_exec_laws.proofs.ended.Told.{IsPlain}
use Rattle.stateful_loop_model.specs.Intake.{Builds}
use Rattle.stateful_loop_model.specs.Moments.{Moment, inner, with_inner}
use Rattle.stateful_loop_laws.specs.Execution.{IsFree, IsPlaced, Executes, NamesBehind, ExecutesBehind}
use Rattle.stateful_loop_laws.proofs.execution.BuildMade.{MakesOfBuild, MakesOfBuild-turns}
use Rattle.stateful_loop_laws.proofs.duly.JobMarks.{IsGrown-turn}
use Rattle.stateful_loop_laws.proofs.places.PlacedBehind.{IsFree-behind}

module _ {B C I P R D H G U : Type 0} (w : Workings B C I P R D H G U) (stored : ℕ → Option (Named B)) (base : w.States) (p : Past B C I)
    (m : Moment w) (e : Executes w stored base p m) where
  module _ (b : Building B C D) (live : m.execution.build ≡ Some b) where
    abbrev q : Past B C I
    q = Came (Turn b.job) ∷ p

    -- no finalization goes on beside the build, and nothing pauses
    no_front : m.execution.front ≡ None
    no_front = e.alone (subst (λ (o : Option (Building B C D)). IsSome o) (sym live) refl)

    free : IsFree w stored base p e.points e.point m.next m.execution.state
    free = subst (λ (o : Option (Front B R U H)). IsPlaced w stored base p e.points e.point m.next m.execution.state o) no_front e.placed

    fronts : FrontStands w stored p e.point m.next m.execution.state.anchor None
    fronts = subst (λ (o : Option (Front B R U H)). FrontStands w stored p e.point m.next m.execution.state.anchor o) no_front e.fronts

    builds : BuildStands w stored p e.points m.next m.execution.state (Some b)
    builds = subst (λ (o : Option (Building B C D)). BuildStands w stored p e.points m.next m.execution.state o) live e.builds

    module _ (then : exec.Moment w) (next : Option (Building B C D)) where
      -- the moment behind such a turn
      abbrev Turned : Moment w
      Turned = record (with_inner w m then) { execution = record m.execution { state = then.state; build = next } }

      turned : (count : D → ℕ) → TurnsBuild w count (inner w m) (Some b) b.job then next → NamesBehind w stored base q m Turned
          → ExecutesBehind w stored base q m Turned
      turned count turns names = record {
        more = s.more;
        marks_are = s.marks_are;
        executes = record {
          points = s.points;
          point = e.point;
          located = ap (λ x. w.kind.point x) s.members_are ∙ e.located;
          drawn = subst (λ (x : w.Ids). w.kind.issued x (e.point ∷ [])) (sym made.next_is) e.drawn;
          tables = s.tables;
          builds = s.builds;
          fronts =
              subst (λ (o : Option (Front B R U H)). FrontStands w stored (after q s.more) e.point then.next then.state.anchor o)
              (sym no_front) fronts_then;
          placed =
              subst (λ (o : Option (Front B R U H)). IsPlaced w stored base (after q s.more) s.points e.point then.next then.state o)
              (sym no_front) free_then;
          alone = λ some. no_front;
        };
        earned = AreEarned-none w stored base q s.more (subst (λ (l : List (Mark B)). All (λ x. IsNoneTrue x) l) same made.none);
      }
        where
          s : StandsWithBuild w stored e.point q (inner w m) then next
          s =
              StandsWithBuild-turns w stored p e.points e.point (inner w m) e.tables
              (subst (λ (x : Pause). IsPlain x)
              (sym free.pause_is) tt) free.ground.folded.tip_is free.ground.top.block free.ground.top.met free.ground.top.is
              e.located b builds then names count next turns

          made : MakesOfBuild w q (inner w m) then
          made = MakesOfBuild-turns w q count (inner w m) (Some b) b.job then next turns

          same : made.more ≡ s.more
          same = append_cancel_left m.marks made.more s.more (sym made.marks_are ∙ s.marks_are)

          before : (kind : JobKind) (k : ℕ) (d : Digest) → IsLiveJob k kind d (after q s.more) → IsLiveJob k kind d p
          before kind k d on =
              let one : IsLiveJob k kind d q = made.jobs kind k d (subst (λ (l : List (Mark B)). IsLiveJob k kind d (after q l)) (sym same) on) in
              record { live = one.live; is = one.is }

          fronts_then : FrontStands w stored (after q s.more) e.point then.next then.state.anchor None
          fronts_then =
              record {
                at_stage = tt;
                runs = λ k d on. fronts.runs k d (before Finalized k d on);
                hooks = λ k d on. fronts.hooks k d
                    (before Hook k d on);
              }

          free_then : IsFree w stored base (after q s.more) s.points e.point then.next then.state
          free_then =
              IsFree-behind w stored base p (after q s.more) e.point
              (IsGrown-turn w stored base p e.point s.more (subst (λ (l : List (Mark B)). All (λ x. IsMild x) l) same made.mild) b.job
              (names s.more s.marks_are))
              e.points s.points m.next then.next m.execution.state then.state s.tables made.anchor (made.pause ∙ free.pause_is) free

  -- Execution stands after a turn of the live build, whatever it leads to.
  pub Executes-turns_build : (count : D → ℕ) (j : ℕ) (now : Moment w) (then : exec.Moment w) (next : Option (Building B C D)) → Builds w j m
      → TurnsBuild w count (inner w m) m.execution.build j then next
      → now ≡ record (with_inner w m then) { execution = record m.execution { state = then.state; build = next } } → NamesBehind w stored base
      (Came (Turn j) ∷ p) m now → ExecutesBehind w stored base (Came (Turn j) ∷ p) m now
  Executes-turns_build count j now then next (b, live) turns is names =
      subst (λ (n : Moment w). ExecutesBehind w stored base (Came (Turn j) ∷ p) m n) (sym is)
      (subst (λ (k : ℕ). ExecutesBehind w stored base (Came (Turn k) ∷ p) m (Turned b live.live then next)) live.job
      (turned b live.live then next count
      (subst (λ (k : ℕ). TurnsBuild w count (inner w m) (Some b) k then next) (sym live.job)
      (subst (λ (o : Option (Building B C D)). TurnsBuild w count (inner w m) o j then next) live.live turns))
      (subst (λ (k : ℕ). NamesBehind w stored base (Came (Turn k) ∷ p) m (Turned b live.live then next)) (sym live.job)
      (subst (λ (n : Moment w). NamesBehind w stored base (Came (Turn j) ∷ p) m n) is names))))
