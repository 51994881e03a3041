-- Where execution stands, its anchor is that of the past, and the databases are where the applied blocks lead to.
use Rattle.std.proofs.Common.{◌≡◌, ℕ, Option, Some, None, ap, subst, ◌++◌, ◌∙◌}
use Rattle.stateful_base.specs.Names.{Named}
use Rattle.stateful_base.specs.declared.digest.Digest.{Digest}
use Rattle.stateful_history.specs.Anchors.{applied, anchor_of}
use Rattle.stateful_history.specs.Past.{Past}
use Rattle.stateful_history.specs.States.{fold}
use Rattle.stateful_exec_model.specs.Workings.{Workings, Point}
use Rattle.stateful_exec_model.specs.declared.front.Front.{Front}
use Rattle.stateful_exec_model.specs.declared.front.Stage.{Stage}
use Rattle.stateful_exec_model.specs.declared.front.Stage.TheVariants.{Begun, Running, Ran, Advanced, Hooking}
use Rattle.stateful_exec_tables.specs.declared.state.Tables.{Tables}
use Rattle.stateful_exec_laws.specs.Setting.{setting}
use Rattle.stateful_loop_model.specs.Moments.{Moment}
use Rattle.stateful_loop_model.specs.Rules.{Takes, of_action, of_message}
use Rattle.stateful_loop_model.specs.Sound.{IsUp, FrontAgrees}
use Rattle.stateful_loop_model.specs.declared.message.Message.{Message}
use Rattle.stateful_loop_model.specs.declared.tables.Finalizing.{Finalizing}
use Rattle.stateful_loop_laws.specs.Execution.{IsPlaced, IsPlacedAt, Executes, ExecutesBehind}
use Rattle.stateful_loop_laws.proofs.execution.Kept.{Executes-same}
use Rattle.stateful_loop_laws.proofs.tickets.Taken.{takes-execution}

module _ {B C I P R D H G U : Type 0} (w : Workings B C I P R D H G U) (stored : ℕ → Option (Named B)) (base : w.States) (p : Past B C I) where
  module _ (points : Digest → Point w) (point : Point w) (next : w.Ids) (v : Tables B C I R U) where
    anchor_at : (b : Named B) (stage : Stage R U H) → IsPlacedAt w stored base p points point next v b stage
        → anchor_of w.header p ≡ Some v.anchor
    anchor_at b Begun h = h.ground.folded.anchor_is
    anchor_at b (Running j run) h = h.paused.ground.folded.anchor_is
    anchor_at b (Ran batch) h = h.paused.ground.folded.anchor_is
    anchor_at b Advanced h = h.ground.folded.anchor_is
    anchor_at b (Hooking j hook) h = h.ground.folded.anchor_is

    folded_at : (b : Named B) (stage : Stage R U H) → IsPlacedAt w stored base p points point next v b stage
        → fold (setting w stored) (Some base) (applied p) ≡ Some point.1
    folded_at b Begun h = h.ground.folded.folded
    folded_at b (Running j run) h = h.paused.ground.folded.folded
    folded_at b (Ran batch) h = h.paused.ground.folded.folded
    folded_at b Advanced h = h.ground.folded.folded
    folded_at b (Hooking j hook) h = h.ground.folded.folded

    -- the anchor is that of the past, whatever goes on
    pub placed-anchor : (front : Option (Front B R U H)) → IsPlaced w stored base p points point next v front
        → anchor_of w.header p ≡ Some v.anchor
    placed-anchor None h = h.ground.folded.anchor_is
    placed-anchor (Some f) h = anchor_at f.block f.stage h

    -- the databases are where the applied blocks lead to, whatever goes on
    pub placed-folded : (front : Option (Front B R U H)) → IsPlaced w stored base p points point next v front
        → fold (setting w stored) (Some base) (applied p) ≡ Some point.1
    placed-folded None h = h.ground.folded.folded
    placed-folded (Some f) h = folded_at f.block f.stage h

  module _ (m : Moment w) (e : Executes w stored base p m) where
    -- the anchor of execution is that of the past
    pub Executes-anchor : anchor_of w.header p ≡ Some m.execution.state.anchor
    Executes-anchor = placed-anchor e.points e.point m.next m.execution.state m.execution.front e.placed

    -- the databases are where the applied blocks lead to
    pub Executes-folded : fold (setting w stored) (Some base) (applied p) ≡ Some e.point.1
    Executes-folded = placed-folded e.points e.point m.next m.execution.state m.execution.front e.placed

  -- marks that were made since are those that were made since an earlier moment of the same marks
  pub executes_before : (m mid now : Moment w) → mid.marks ≡ m.marks → ExecutesBehind w stored base p mid now
      → ExecutesBehind w stored base p m now
  executes_before m mid now same b = record {
    more = b.more;
    marks_are = b.marks_are ∙ ap (λ marks. marks ++ b.more) same;
    executes = b.executes;
    earned = b.earned;
  }

  -- execution stands where a message is taken out
  pub Executes-takes : (x : Message B C I) (m mid : Moment w) → Takes w x m mid → Executes w stored base p m → Executes w stored base p mid
  Executes-takes x m mid takes e =
      Executes-same w stored base p m mid (takes-execution w stored p x m mid takes) (ap w.kind.point (members takes)) (ids takes) e
    where
      members : Takes w x m mid → mid.members ≡ m.members
      members (of_action is become) = ap (λ n. n.members) become
      members (of_message none_first is become) = ap (λ n. n.members) become

      ids : Takes w x m mid → mid.next ≡ m.next
      ids (of_action is become) = ap (λ n. n.next) become
      ids (of_message none_first is become) = ap (λ n. n.next) become

module _ {B C I P R D H G U : Type 0} (w : Workings B C I P R D H G U) where
  -- where nothing is in front, no finalization goes on
  pub idle-front : (m : Moment w) → IsUp w m → m.loop.front ≡ None → m.execution.front ≡ None
  idle-front m u none = subst (λ (x : Option (Finalizing B G)). FrontAgrees w m.loop.durability x m.execution.front) none u.front
