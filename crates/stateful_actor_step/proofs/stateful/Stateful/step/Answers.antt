use Rattle.std.proofs.Common.{◌≡◌, [], refl, true, false, sym, ap, ◌∙◌, ⊎_elim, true≢false}
use Rattle.stateful_exec_model.specs.Workings.{workings}
use Rattle.stateful_loop_model.proofs.Handing.{converted}
use Rattle.stateful_loop_model.proofs.SoundingKept.{Sound-kept}
use Rattle.stateful_loop_model.specs.Moments.{executing, moment}
use Rattle.stateful_loop_model.specs.declared.error.StepError.TheVariants.{OutOfMemory}
use Rattle.stateful_actor_laws.specs.Stands.{StandsAsWell}
use Rattle.stateful_actor_laws.specs.Machine.{is_restart}
use Rattle.stateful_actor_laws.proofs.steps.LeftFurther.{step-leaves, leaves-further}
use Rattle.stateful_actor_laws.proofs.complete.MediaRefused.{step-restart, leaves-unchanged, leaves-media}
use Rattle.stateful_actor_laws.proofs.steps.MediaSteps.{step-media}
use Rattle.stateful_actor_laws.proofs.steps.StepStands.{step-stands}
use Rattle.stateful_actor_laws.proofs.steps.StillStands.{still-stands}
use Rattle.stateful_actor_step.specs.Faults.{memory, fault}
use Rattle.stateful_actor_step.proofs.Arms.{refused_at_once}
use Rattle.stateful_actor_step.proofs.Lawfully.{step-ahead, admit-lawful, cause-outside}
use Rattle.stateful_actor_step.proofs.Reopening.{reopens-refused, reopens-done}
use Rattle.stateful_actor_step.proofs.Working.{never, cause-not_failed, restart-memory}
use Rattle.stateful_actor_step.proofs.ResultsOfCalls.{in_ok, in_err, of_err}
use Rattle.stateful_actor_step.proofs.NotesOfEvents.{along_all, play_refused}
use Rattle.stateful_actor_step.specs.Notes.{taking}
use Rattle.stateful_actor_step.proofs.stateful.Stateful.step.Goals as goal

pub returns-clause-ok : goal.returns-clause-ok
returns-clause-ok g c =
    let D = g.A.Databases.DatabaseSet in
    let w = workings g.A.Block.Block.header g.A.Block.Block.context_of g.A.Context.Rounded.round_of g.A.Application.works D.kind D.shows in
    let takes = g.met.A.Application.takes_turns in
    let laws = g.met.A.Databases.DatabaseSet.laws in
    let stored_now = g.S.BlockStore.stored c.args.store.now in
    let step = rw c.new-marks.ensures.items at (in_ok _ _ c.in-Ok.is c.act-acted.ensures.ok) in
    let recorded = rw (c.count.ensures, c.as_slice.ensures.value, c.act-acted.ensures.same.0) at c.in_ok-record.ensures.ok in
    rw (← c.self.view_is) (record {
      does = step;
      works = refl;
      registers = λ p stands. (c.in_ok-admit.ensures.yes p stands, recorded p stands);
      stands = λ stored base p s stored_is world. record {
        continues = step-stands w laws stored stored_now _ _ (λ f states b n is. takes.runs f states b n is)
            (λ asked states n is. takes.builds asked states n is) base p stored_is c.args.event _ _ _ _ _ c.in_ok-admit.ensures.works s
            (c.in_ok-admit.ensures.yes p s.registered) step (recorded p s.registered) world.names world.honest;
        media = λ k rise. step-media w laws stored stored_now base p stored_is _ _ (λ f states b n is. takes.runs f states b n is)
            (λ asked states n is. takes.builds asked states n is) world.honest.heights rise c.args.event c.self.inside.failed c.self.inside.core.register
            _ _ c.in_ok-admit.ensures.works s.registered refl (g.met.A.Databases.DatabaseSet.sound c.args.databases.now)
            (λ other. s.at (c.in_ok-admit.ensures.works other)) (c.in_ok-admit.ensures.yes p s.registered) step world.names world.honest.finalized k;
        ahead = λ ahead. step-ahead w laws stored stored_now _ _ (λ f states b n is. takes.runs f states b n is)
            (λ asked states n is. takes.builds asked states n is) base p stored_is c.args.event _ _ _ _ c.in_ok-admit.ensures.works s
            (c.in_ok-admit.ensures.yes p s.registered) step world.names world.honest ahead;
      };
      reopens = λ stored p floor keep genesis state block r names.
          reopens-done w laws stored stored_now _ _ p floor keep genesis state block c.args.event r.is r.can _ _ r.media r.finds r.is_stored names _ _ step;
      notes = λ p stands observed. along_all g.A.Application.works.noted _ _ _
          ((rw c.new-marks.ensures.items at (in_ok _ _ c.in-Ok.is c.act-acted.ensures.notes)) p stands
          (λ other. observed (c.in_ok-admit.ensures.works other)));
    })

pub returns-in_err-admit-clause-err : goal.returns-in_err-admit-clause-err
returns-in_err-admit-clause-err g c =
    let D = g.A.Databases.DatabaseSet in
    let w = workings g.A.Block.Block.header g.A.Block.Block.context_of g.A.Context.Rounded.round_of g.A.Application.works D.kind D.shows in
    let laws = g.met.A.Databases.DatabaseSet.laws in
    let stored_now = g.S.BlockStore.stored c.args.store.now in
    let was = c.self.inside in
    let old = moment w (executing was.core.handler) was.core.processing (D.members c.args.databases.now) (D.next c.args.databases.now) [] in
    let e = c.in_err-admit.field-0.0 in
    rw (← c.self.view_is) (converted _ c.from_residual.result e c.from_residual.ensures.1 (record {
      cause = refused_at_once w _ _ _ was.failed was.core.register c.args.event _ _ _ _ e c.in_err-admit.ensures.one c.in_err-admit.ensures.failed
          c.in_err-admit.ensures.unlawful;
      register = λ p stands. stands;
      still = λ stored base p s. s;
      rightly = λ working stored base p s. record {
        working = λ is. true≢false (sym (c.in_err-admit.ensures.failed is).0 ∙ working);
        complete = λ other stored_is honest ahead lawful few.
            admit-lawful w stored base p _ _ _ _ _ _ working s lawful.lawful.may_come e
            c.in_err-admit.ensures.one c.in_err-admit.ensures.failed c.in_err-admit.ensures.unlawful;
      };
      behind = λ lawful working other.
          absurd (⊎_elim (λ is. true≢false (sym (c.in_err-admit.ensures.failed is).0 ∙ working)) (λ is. lawful is) c.in_err-admit.ensures.one);
      tried = leaves-unchanged w laws stored_now _ _ c.args.event c.in_err-admit.ensures.other was.failed was.core.register old;
      restarts = λ floor keep is finds well. absurd (true≢false (sym (ap is_restart is) ∙ c.in_err-admit.ensures.other));
      reopens = λ stored p floor keep genesis state block r. absurd (true≢false (sym (ap is_restart r.is) ∙ c.in_err-admit.ensures.other));
      noted = λ other. play_refused w stored_now _ g.A.Application.works.noted _ _ _ c.args.event _ c.in_err-admit.ensures.other (taking refl);
    }))

pub returns-in-Err-clause-err : goal.returns-in-Err-clause-err
returns-in-Err-clause-err g c =
    let D = g.A.Databases.DatabaseSet in
    let w = workings g.A.Block.Block.header g.A.Block.Block.context_of g.A.Context.Rounded.round_of g.A.Application.works D.kind D.shows in
    let takes = g.met.A.Application.takes_turns in
    let laws = g.met.A.Databases.DatabaseSet.laws in
    let stored_now = g.S.BlockStore.stored c.args.store.now in
    let was = c.self.inside in
    let now_core = c.act-acted.new.self in
    let old = moment w (executing was.core.handler) was.core.processing (D.members c.args.databases.now) (D.next c.args.databases.now) [] in
    let now = moment w (executing now_core.handler) now_core.processing (D.members c.act-acted.new.databases) (D.next c.act-acted.new.databases) [] in
    let faulted = rw c.new-marks.ensures.items at (of_err _ _ _ c.in-Err.is c.act-acted.ensures.fault) in
    let left = λ (other : is_restart c.args.event ≡ false). rw c.new-marks.ensures.items at (in_err _ _ c.in-Err.is (c.act-acted.ensures.left other)) in
    let falls = c.act-acted.ensures.never_falls in
    let safe = rw (← c.self.view_is) at c.requires in
    let still : StandsAsWell w was.failed was.core.register old true was.core.register now = λ stored base p s.
    still-stands w p old now falls.numbers falls.barriers c.act-acted.ensures.none_away stored base was.failed true
    was.core.register was.core.register refl refl s.registered s in
    rw (← c.self.view_is, c.act-acted.ensures.same.0) (record {
      cause = fault (λ p stands. c.in_ok-admit.ensures.yes p stands) faulted;
      register = λ p stands. stands;
      still = still;
      rightly = λ working stored base p s. record {
        working = never _ (cause-not_failed w laws stored stored_now _ _ base p c.args.event _ (s.at working) (safe.sound working) _ s.registered _ _ _ _
            (fault (λ q stands. c.in_ok-admit.ensures.yes q stands) faulted));
        complete = λ other stored_is honest ahead lawful few.
            cause-outside w laws stored stored_now _ _ (λ f states b n is. takes.runs f states b n is) (λ asked states n is. takes.builds asked states n is)
            few base p stored_is c.args.event other honest _ (s.at working) ahead lawful _ s.registered _ _ _ _
            (fault (λ q stands. c.in_ok-admit.ensures.yes q stands) faulted);
      };
      behind = λ lawful working other.
          leaves-further w laws stored_now _ _ (λ f states b n is. takes.runs f states b n is) (λ asked states n is. takes.builds asked states n is)
          c.args.event other _ _ (c.in_ok-admit.ensures.up other) refl (λ p stands. c.in_ok-admit.ensures.yes p stands)
          (D.members c.act-acted.new.databases) (left other).0 (left other).1;
      tried = leaves-media w laws stored_now _ _ (λ f states b n is. takes.runs f states b n is) (λ asked states n is. takes.builds asked states n is)
          was.failed was.core.register old refl (g.met.A.Databases.DatabaseSet.sound c.args.databases.now) true was.core.register now refl still c.args.event
          c.in_ok-admit.ensures.works c.in_ok-admit.ensures.up (λ p stands. c.in_ok-admit.ensures.yes p stands) left
          (in_err _ _ c.in-Err.is c.act-acted.ensures.opening);
      restarts = λ floor keep is finds well.
          restart-memory w laws stored_now _ _ c.args.event floor keep _ _ _ _ _ is finds (g.met.A.Databases.DatabaseSet.sound c.args.databases.now)
          well.few well.none faulted;
      reopens = λ stored p floor keep genesis state block r.
          reopens-refused w laws stored stored_now _ _ p floor keep genesis state block c.args.event r.is r.can _ _ r.media r.finds r.is_stored
          (g.met.A.Databases.DatabaseSet.sound c.args.databases.now) r.well.few _ _ _ _ faulted r.well.none;
      noted = rw c.new-marks.ensures.items at (of_err _ _ _ c.in-Err.is c.act-acted.ensures.noted);
    })

pub returns-in_err-record-clause-err : goal.returns-in_err-record-clause-err
returns-in_err-record-clause-err g c =
    let D = g.A.Databases.DatabaseSet in
    let w = workings g.A.Block.Block.header g.A.Block.Block.context_of g.A.Context.Rounded.round_of g.A.Application.works D.kind D.shows in
    let takes = g.met.A.Application.takes_turns in
    let laws = g.met.A.Databases.DatabaseSet.laws in
    let stored_now = g.S.BlockStore.stored c.args.store.now in
    let was = c.self.inside in
    let now_core = c.act-acted.new.self in
    let old = moment w (executing was.core.handler) was.core.processing (D.members c.args.databases.now) (D.next c.args.databases.now) [] in
    let now = moment w (executing now_core.handler) now_core.processing (D.members c.act-acted.new.databases) (D.next c.act-acted.new.databases) [] in
    let falls = c.act-acted.ensures.never_falls in
    let recorded = rw (c.count.ensures, c.act-acted.ensures.same.0) at c.in_err-record.ensures.err in
    let still : StandsAsWell w was.failed was.core.register old true c.record.new.self now = λ stored base p s.
    still-stands w p old now falls.numbers falls.barriers c.act-acted.ensures.none_away stored base was.failed true
    was.core.register c.record.new.self refl refl (recorded p s.registered) s in
    let step = rw c.new-marks.ensures.items at (in_ok _ _ c.in-Ok.is c.act-acted.ensures.ok) in
    let left = λ (other : is_restart c.args.event ≡ false). step-leaves w stored_now _ _ c.args.event _ _ _ other step in
    rw (← c.self.view_is) (converted _ c.from_residual-in_err-record.result OutOfMemory c.from_residual-in_err-record.ensures.1 (record {
      cause = memory refl;
      register = recorded;
      still = still;
      rightly = λ working stored base p s. record { working = λ is. cc; complete = λ other stored_is honest ahead lawful few. tt };
      behind = λ lawful working other.
          leaves-further w laws stored_now _ _ (λ f states b n is. takes.runs f states b n is) (λ asked states n is. takes.builds asked states n is)
          c.args.event other _ _ (c.in_ok-admit.ensures.up other) refl (λ p stands. c.in_ok-admit.ensures.yes p stands)
          (D.members c.act-acted.new.databases) (left other).0 (left other).1;
      tried = leaves-media w laws stored_now _ _ (λ f states b n is. takes.runs f states b n is) (λ asked states n is. takes.builds asked states n is)
          was.failed was.core.register old refl (g.met.A.Databases.DatabaseSet.sound c.args.databases.now) true c.record.new.self now refl still c.args.event
          c.in_ok-admit.ensures.works c.in_ok-admit.ensures.up (λ p stands. c.in_ok-admit.ensures.yes p stands) left
          (step-restart w laws stored_now _ _ _ c.args.event _ _ step);
      restarts = λ floor keep is finds well. refl;
      reopens = λ stored p floor keep genesis state block r. refl;
      noted = λ other. absurd (other refl);
    }))

pub returns-clause-safe : goal.returns-clause-safe
returns-clause-safe g c =
    let D = g.A.Databases.DatabaseSet in
    let w = workings g.A.Block.Block.header g.A.Block.Block.context_of g.A.Context.Rounded.round_of g.A.Application.works D.kind D.shows in
    record {
      none_away = c.act-acted.ensures.none_away;
      sound = λ works. Sound-kept w _ _
          (record { anchor = refl; reached = refl; members = refl; up = refl; front = refl; durability = refl; barriers = refl })
          (in_ok _ _ c.in-Ok.is c.act-acted.ensures.sound);
    }

pub returns-clause-observed : goal.returns-clause-observed
returns-clause-observed g c =
    rw (← c.self.view_is) (λ observed works.
    (in_ok _ _ c.in-Ok.is c.act-acted.ensures.observed) (λ other. observed (c.in_ok-admit.ensures.works other)))

pub act-acted-requires-clause-up : goal.act-acted-requires-clause-up
act-acted-requires-clause-up g c =
    let safe = rw (← c.self.view_is) at c.requires in
    rw c.new-marks.ensures.items (λ other. (safe.sound (c.in_ok-admit.ensures.works other)).up (c.in_ok-admit.ensures.up other))
