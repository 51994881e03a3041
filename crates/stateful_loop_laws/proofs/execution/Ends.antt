-- Execution stands after the end of a finalization, where it resumes, and the ways of requests stay open.
use Rattle.std.proofs.Common.{◌≡◌, ◌++◌, ℕ, [], ◌∷◌, Option, None, refl, sym, ap, ◌∙◌, subst}
use Rattle.stateful_base.specs.Names.{Named}
use Rattle.stateful_base.specs.declared.anchor.Anchor.{Anchor}
use Rattle.stateful_db.specs.Laws.{Laws}
use Rattle.stateful_history.specs.Past.{Past, after}
use Rattle.stateful_exec_model.specs.Finalizing.{front_at}
use Rattle.stateful_exec_model.specs.Moments as exec
use Rattle.stateful_exec_model.specs.Workings.{Workings}
use Rattle.stateful_exec_model.specs.declared.building.Building.{Building}
use Rattle.stateful_exec_model.specs.declared.front.Front.{Front}
use Rattle.stateful_exec_model.specs.declared.front.Stage.TheVariants.{Advanced}
use Rattle.stateful_exec_pause.specs.declared.pause.Pause.{Pause}
use Rattle.stateful_exec_pause.specs.declared.pause.Pause.TheVariants.{Free}
use Rattle.stateful_exec_tables.specs.declared.state.Tables.{Tables}
use Rattle.stateful_exec_laws.specs.Building.{BuildStands}
use Rattle.stateful_exec_laws.specs.Fronting.{FrontStands}
use Rattle.stateful_exec_laws.specs.Ground.{IsGround}
use Rattle.stateful_exec_laws.specs.Requesting.{AllAbstain}
use Rattle.stateful_exec_laws.specs.Ways.{WaysStand}
use Rattle.stateful_exec_laws.proofs.builds.Passes.{IsItsJob, IsItsTicket, BuildStands-passes}
use Rattle.stateful_exec_laws.specs.Storing.{IsStoredNow}
use Rattle.stateful_exec_laws.proofs.front.Passes.{IsFrontJob, NoTicket, FrontStands-passes}
use Rattle.stateful_exec_laws.proofs.front.MovedStands.{TablesStand-free}
use Rattle.stateful_exec_laws.proofs.pauses.PassingRules.{PassesBy-resumes}
use Rattle.stateful_exec_laws.proofs.reasons.Known.{tip_free}
use Rattle.stateful_loop_model.specs.Moments.{Moment, inner, with_inner}
use Rattle.stateful_loop_model.specs.Rules.{IsFinalizing, EndsFinalization}
use Rattle.stateful_loop_model.specs.declared.tables.Finalizing.{Finalizing}
use Rattle.stateful_loop_laws.specs.Execution.{HasMovedOn, IsPlaced, Executes, ExecutesBehind}
use Rattle.stateful_loop_laws.specs.Ways.{ParksNone}
use Rattle.stateful_loop_laws.proofs.ways.Behind.{WaysStand-free}
use Rattle.stateful_loop_laws.proofs.earned.ResumeEarned.{IsEnded, IsEnded-resumes}

module _ {B C I P R D H G U : Type 0} (w : Workings B C I P R D H G U) (laws : Laws w.kind) (stored stored_now : ℕ → Option (Named B))
    (base : w.States) (p : Past B C I) (m now : Moment w) where
  -- Execution stands, nothing pauses, the ways of requests are open, none is parked, and each that waits abstains. The anchor stays.
  pub record IsResumedBehind : Type 0 where
    pub behind : ExecutesBehind w stored base p m now
    pub free : now.execution.state.pause ≡ Free
    pub ways : WaysStand w stored (after p behind.more) now.execution.state.anchor now.execution.state
    pub unparked : ParksNone now.execution.state.requests
    pub abstain : AllAbstain w stored (after p behind.more) now.execution.state.requests
    pub anchor : now.execution.state.anchor ≡ m.execution.state.anchor

  module _ (f : Finalizing B G) (e : Executes w stored base p m) (moved : HasMovedOn w stored base p e.points e.point m.next m.execution.state)
      (fronts : FrontStands w stored p e.point m.next m.execution.state.anchor (front_at f.block Advanced))
      (builds : BuildStands w stored p e.points m.next m.execution.state None) (no_build : m.execution.build ≡ None)
      (ways : WaysStand w stored p m.execution.state.anchor (record m.execution.state { pause = Free })) (stored_is : IsStoredNow stored p stored_now)
      (r : EndsFinalization w stored_now f m now) where
    abbrev v : Tables B C I R U
    v = m.execution.state

    abbrev then : exec.Moment w
    then = r.then

    ended : IsEnded w stored stored_now base v.anchor e.points e.point p (inner w m) then
    ended = IsEnded-resumes w stored stored_now base v.anchor e.points e.point laws.ids.issued_other p (inner w m)
        (TablesStand-free w stored p e.points e.point m.next v moved.moved.boundary moved.moved.pause_is moved.moved.moved e.tables) moved.ground
        ways e.located e.drawn stored_is then r.resumes

    abbrev last : Past B C I
    last = after p ended.more

    builds_behind : BuildStands w stored last e.points then.next then.state None
    builds_behind = BuildStands-passes w stored e.points None p (inner w m) then ended.more ended.marks_are
        (PassesBy-resumes w (IsItsJob {B = B} {C = C} {D = D} None) (IsItsTicket {B = B} {C = C} {D = D} None) stored_now (inner w m) then
        (λ k own. absurd own) (λ t own. absurd own) r.resumes) builds

    fronts_behind : FrontStands w stored last e.point then.next then.state.anchor None
    fronts_behind = FrontStands-passes w stored e.point None p (inner w m) then ended.more ended.marks_are
        (PassesBy-resumes w (IsFrontJob {B = B} {R = R} {U = U} {H = H} None) NoTicket stored_now (inner w m) then (λ k own. absurd own)
        (λ t own. absurd own) r.resumes)
        (record { at_stage = tt; runs = fronts.runs; hooks = fronts.hooks })

    same_anchor : v.anchor ≡ then.state.anchor
    same_anchor =
        tip_free w stored base last e.points e.point then.next v.anchor then.state.pause then.state.anchor then.state.cache ended.free ended.ground

    ground : IsGround w stored base last e.points e.point then.next then.state.anchor Free then.state.anchor then.state.cache
    ground = subst (λ (x : Pause). IsGround w stored base last e.points e.point then.next then.state.anchor x then.state.anchor then.state.cache)
        ended.free
        (subst (λ (a : Anchor). IsGround w stored base last e.points e.point then.next a then.state.pause then.state.anchor then.state.cache)
        same_anchor ended.ground)

    executes : Executes w stored base last (record (with_inner w m then) {
      execution = record m.execution { state = then.state; front = None };
      loop = record m.loop {
        durability = record m.loop.durability { held = m.loop.durability.held ++ (w.header.height f.block.block, f.ticket) ∷ [] };
        front = None;
      };
    })
    executes = record {
      points = e.points;
      point = e.point;
      located = ended.ready.located;
      drawn = ended.ready.drawn;
      tables = ended.ready.stands;
      builds = subst (λ (o : Option (Building B C D)). BuildStands w stored last e.points then.next then.state o) (sym no_build) builds_behind;
      fronts = fronts_behind;
      placed = record { pause_is = ended.free; ground = ground };
      alone = λ some. refl;
    }

    resumed : IsResumedBehind
    resumed = record {
      behind = record {
        more = ended.more;
        marks_are = ap (λ (n : Moment w). n.marks) r.becomes ∙ ended.marks_are;
        executes = subst (λ (n : Moment w). Executes w stored base last n) (sym r.becomes) executes;
        earned = ended.earned;
      };
      free = subst (λ (n : Moment w). n.execution.state.pause ≡ Free) (sym r.becomes) ended.free;
      ways = subst (λ (n : Moment w). WaysStand w stored last n.execution.state.anchor n.execution.state) (sym r.becomes)
          (subst (λ (a : Anchor). WaysStand w stored last a then.state) same_anchor ended.ways);
      unparked = subst (λ (n : Moment w). ParksNone n.execution.state.requests) (sym r.becomes) ended.unparked;
      abstain = subst (λ (n : Moment w). AllAbstain w stored last n.execution.state.requests) (sym r.becomes) ended.abstain;
      anchor = ap (λ (n : Moment w). n.execution.state.anchor) r.becomes ∙ sym same_anchor;
    }

  -- where the ways are open without the pause
  ends : (f : Finalizing B G) → IsFinalizing w m f → m.execution.front ≡ front_at f.block Advanced
      → WaysStand w stored p m.execution.state.anchor (record m.execution.state { pause = Free })
      → IsStoredNow stored p stored_now → Executes w stored base p m → EndsFinalization w stored_now f m now → IsResumedBehind
  ends f finalizing at ways stored_is e r =
      resumed f e (subst (λ (o : Option (Front B R U H)). IsPlaced w stored base p e.points e.point m.next m.execution.state o) at e.placed)
      (subst (λ (o : Option (Front B R U H)). FrontStands w stored p e.point m.next m.execution.state.anchor o) at e.fronts)
      (subst (λ (o : Option (Building B C D)). BuildStands w stored p e.points m.next m.execution.state o) finalizing.1 e.builds)
      finalizing.1 ways stored_is r

  -- Where the ways are open, execution stands after the end of a finalization whose block is the anchor.
  pub IsResumedBehind-ends : (f : Finalizing B G) → IsFinalizing w m f → m.execution.front ≡ front_at f.block Advanced
      → WaysStand w stored p m.execution.state.anchor m.execution.state
      → IsStoredNow stored p stored_now → Executes w stored base p m → EndsFinalization w stored_now f m now → IsResumedBehind
  IsResumedBehind-ends f finalizing at ways stored_is e r =
      let moved : HasMovedOn w stored base p e.points e.point m.next m.execution.state = subst
      (λ (o : Option (Front B R U H)). IsPlaced w stored base p e.points e.point m.next m.execution.state o) at e.placed in
      ends f finalizing at (WaysStand-free w stored p m.execution.state.anchor m.execution.state moved.moved ways) stored_is e r

  -- Where they are open without the pause, execution stands after the end of a finalization whose block is the anchor.
  pub Executes-ends : (f : Finalizing B G) → IsFinalizing w m f → m.execution.front ≡ front_at f.block Advanced
      → WaysStand w stored p m.execution.state.anchor (record m.execution.state { pause = Free })
      → IsStoredNow stored p stored_now → Executes w stored base p m → EndsFinalization w stored_now f m now → ExecutesBehind w stored base p m now
  Executes-ends f finalizing at ways stored_is e r = (ends f finalizing at ways stored_is e r).behind
