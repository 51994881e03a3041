use Rattle.std.proofs.Common.{[], inr, arith, refl, ap, ◌∙◌}
use Rattle.stateful_exec_model.specs.Workings.{workings}
use Rattle.stateful_loop_model.specs.Moments.{executing, moment}
use Rattle.stateful_loop_model.proofs.Handing.{err_holds}
use Rattle.stateful_loop_model.proofs.SoundingOpenings.{opens_sound}
use Rattle.stateful_actor_step.proofs.NotesOfEvents.{ends_none, NotesAlong-none}
use Rattle.stateful_loop_model.proofs.AppliedMarks.{AppliesNone-made, AppliesNone-then}
use Rattle.stateful_actor_step.proofs.Counts.{HasNotFallen-itself}
use Rattle.stateful_actor_step.proofs.inside.Core.restart.Goals as goal

pub returns-clause-ok : goal.returns-clause-ok
returns-clause-ok g c =
    let D = g.A.Databases.DatabaseSet in
    let w = workings g.A.Block.Block.header g.A.Block.Block.context_of g.A.Context.Rounded.round_of g.A.Application.works D.kind D.shows in
    record {
      cleared = moment w (executing c.clear.new.handler) c.clear.new.processing (D.members c.args.databases.now)
          (D.next c.args.databases.now) c.end_work.new.marks.items;
      work = c.in_ok-end_work.ensures;
      clears = c.clear.ensures.cleared (D.members c.args.databases.now) (D.next c.args.databases.now) c.end_work.new.marks.items;
      opens = c.in_ok-open.ensures.ok;
    }

pub returns-clause-sound : goal.returns-clause-sound
returns-clause-sound g c =
    let D = g.A.Databases.DatabaseSet in
    let w = workings g.A.Block.Block.header g.A.Block.Block.context_of g.A.Context.Rounded.round_of g.A.Application.works D.kind D.shows in
    let cleared = c.clear.ensures.cleared (D.members c.args.databases.now) (D.next c.args.databases.now) [] in
    opens_sound w g.met.A.Databases.DatabaseSet.laws
    (g.S.BlockStore.stored c.args.store.now) c.args.floor.now c.args.keep.now _ _ c.in_ok-open.ensures.ok cleared.barriers cleared.front.0

pub returns-in_err-open-clause-left : goal.returns-in_err-open-clause-left
returns-in_err-open-clause-left g c = err_holds c.from_residual-in_err-open.result (inr c.in_err-open.ensures.left)

pub returns-clause-notes : goal.returns-clause-notes
returns-clause-notes g c =
    λ p stands.
    NotesAlong-none g.A.Application.works.noted _ _ _ _
    (AppliesNone-then _ c.end_work.new.marks.items _
    (ends_none g.A.Databases.DatabaseSet.kind.count c.args.self.now.register c.args.event.now _ _ p stands c.in_ok-end_work.ensures)
    (AppliesNone-made _ _ _ c.in_ok-open.ensures.ok.marks refl))
    (ap g.A.Application.notes (c.in_ok-open.ensures.application ∙ c.clear.ensures.application))

pub returns-in_err-end_work-clause-never_falls : goal.returns-in_err-end_work-clause-never_falls
returns-in_err-end_work-clause-never_falls g c =
    record { faults = HasNotFallen-itself _; numbers = (omega arith, omega arith); barriers = omega arith }

pub returns-in_err-open-clause-never_falls : goal.returns-in_err-open-clause-never_falls
returns-in_err-open-clause-never_falls g c =
    let D = g.A.Databases.DatabaseSet in
    let cleared = (c.clear.ensures.cleared (D.members c.args.databases.now) (D.next c.args.databases.now) []).numbers in
    let b = c.in_err-open.ensures.numbers in
    let d = c.in_err-open.ensures.barrier in
    record {
      faults = record {
        application = rw (c.in_err-open.ensures.application, c.clear.ensures.application) (omega arith);
        databases = c.in_err-open.ensures.later;
      };
      numbers = (omega arith, omega arith);
      barriers = omega arith;
    }

pub returns-clause-never_falls : goal.returns-clause-never_falls
returns-clause-never_falls g c =
    let D = g.A.Databases.DatabaseSet in
    let cleared = (c.clear.ensures.cleared (D.members c.args.databases.now) (D.next c.args.databases.now) []).numbers in
    let b = c.in_ok-open.ensures.numbers in
    let d = c.in_ok-open.ensures.barrier in
    record {
      faults = record {
        application = rw (c.in_ok-open.ensures.application, c.clear.ensures.application) (omega arith);
        databases = c.in_ok-open.ensures.later;
      };
      numbers = (omega arith, omega arith);
      barriers = omega arith;
    }
