use Rattle.std.proofs.Common.{rules, ◌≡◌, [], length, Err, Bool, false, refl, sym, ap, ◌∙◌, subst}
use Rattle.stateful_history.specs.Past.{after_all}
use Rattle.stateful_actor_laws.specs.Media.{MediaStand, StandsOnMedia}
use Rattle.stateful_exec_cache.proofs.Cutting.{one_over, none_over}
use Rattle.stateful_exec_model.specs.Workings.{workings}
use Rattle.stateful_actor_register.proofs.Entries.{RegisterStands-none}
use Rattle.stateful_loop_model.specs.Moments.{moment}
use Rattle.stateful_actor_laws.specs.Stands.{Stands}
use Rattle.stateful_actor_laws.proofs.steps.HistoryStands.{EachStands-constant, history-registered, history-leaves}
use Rattle.stateful_actor_laws.proofs.complete.RefusedBehind.{leaves-behind}
use Rattle.stateful_loop_model.specs.Noted.{unobserved}
use Rattle.stateful_actor_step.specs.Faults.{tally}
use Rattle.stateful_actor_step.specs.Notes.{NotesRefused}
use Rattle.stateful_actor.proofs.Adding.{event_at, taken_before, within_events, events-push, longer-past, Steps-push}
use Rattle.stateful_actor_step.proofs.Lawfully.{refused-outside}
use Rattle.stateful_actor.proofs.MediaLonger.{media-longer, keeps-after}
use Rattle.stateful_actor.proofs.NotesLonger.{notes-longer}
use Rattle.stateful_actor_step.proofs.Working.{never, cause-not_failed}
use Rattle.stateful_actor_step.proofs.Counts.{HasNotFallen-itself, HasNotFallen-further}
use Rattle.stateful_actor.proofs.driving.drive.Goals as goal

pub loop-event-init : goal.loop-event-init
loop-event-init g c = record {
  all = c.into_iter-event-iterator.ensures.into_iter_gives.0;
  events = rw c.new.ensures.items refl;
  steps = rw c.new.ensures.items refl;
  registered = rw c.new.ensures.items (RegisterStands-none _ c.args.stateful.register c.requires.new.blank);
  safe = record {
    none_away = c.requires.none_away;
    sound = λ works. record { none_away = c.requires.none_away; up = λ up. let down = c.requires.new.down in absurd cc };
  };
  media = λ base start world rise. rw c.new.ensures.items start;
  store = refl;
  provider = refl;
  working = c.requires.new.working;
  notes = rw c.new.ensures.items refl;
  observed = λ works. ap (λ front. unobserved front) c.requires.new.nothing.2;
  later = HasNotFallen-itself _;
}

pub loop-event-preserved : goal.loop-event-preserved
loop-event-preserved g c =
    let D = g.A.Databases.DatabaseSet in
    let w = workings g.A.Block.Block.header g.A.Block.Block.context_of g.A.Context.Rounded.round_of g.A.Application.works D.kind D.shows in
    let i = c.loop-event.invariant in
    let was = c.loop-event.driven in
    let now = c.enter.new.driven in
    let marks = c.in-Ok.ensures.ok.0 in
    let adds = c.in-Ok.ensures.ok.1 in
    let took = rw (i.store, i.provider) at c.in-Ok.ensures.ok.2 in
    let before = after_all [] was.history.items in
    let behind = after_all [] now.history.items in
    let registers = took.registers before i.registered in
    let longer = longer-past was.history.items now.history.items c.in-Some.event marks adds in
    record {
      all = one_over c.loop-event.yielded _ _ _ _ i.all c.in-Some.ensures.steps.0;
      events = events-push was.history.items _ c.in-Some.event marks _ adds i.events;
      steps = rw adds
          (Steps-push w (g.S.BlockStore.stored c.args.store.now) c.args.stateful.provider _ [] _
          (moment w was.stateful.execution was.stateful.loop (D.members was.databases)
          (D.next was.databases) []) was.history.items c.in-Some.event was.stateful.register
          (moment w now.stateful.execution now.stateful.loop (D.members now.databases)
          (D.next now.databases) marks) i.steps registers.0 i.registered took.does);
      registered = rw longer registers.1;
      safe = c.in-Ok.ensures.safe;
      media = λ base start world rise.
          let takes = g.met.A.Application.takes_turns in
          let stored = g.S.BlockStore.stored c.args.store.now in
          let old = moment w was.stateful.execution was.stateful.loop (D.members was.databases) (D.next was.databases) [] in
          let new = moment w now.stateful.execution now.stateful.loop (D.members now.databases) (D.next now.databases) [] in
          subst (λ (failed : Bool). MediaStand w stored behind failed new) (sym took.works)
          (media-longer w g.met.A.Databases.DatabaseSet.laws stored _ c.args.stateful.provider
          (λ f states b n is. takes.runs f states b n is) (λ asked states n is. takes.builds asked states n is) rise
          _ _ _ old was.history.items c.requires.new refl c.requires.none_away i.steps was.stateful.register i.registered
          c.in-Some.event marks new behind longer
          (λ names_before honest_before.
          subst (λ (failed : Bool). MediaStand w stored before failed old) i.working
          (i.media base start (record { names = names_before; honest = honest_before }) rise))
          (λ b stands stored_is named honest_now rising.
          let s = subst (λ (failed : Bool). StandsOnMedia w stored b before failed was.stateful.register old) (sym i.working) stands in
          rw longer ((took.stands stored b before s.stands stored_is (record { names = rw longer at named; honest = rw longer at honest_now })).media
          s.media rising))
          base world.names world.honest);
      store = c.in-Ok.ensures.same.0 ∙ i.store;
      provider = c.in-Ok.ensures.same.1 ∙ i.provider;
      working = took.works;
      notes = notes-longer g.A.Application.works.noted (g.A.Application.notes c.args.stateful.application) (g.A.Application.notes was.stateful.application)
          (g.A.Application.notes now.stateful.application) was.history.items now.history.items c.in-Some.event marks adds i.notes
          (took.notes before i.registered i.observed);
      observed = c.in-Ok.ensures.observed i.observed;
      later = HasNotFallen-further _ _ _ i.later c.in-Ok.ensures.never_falls.faults;
    }

pub returns-clause-all : goal.returns-clause-all
returns-clause-all g c = c.loop-event.invariant.events
    ∙ none_over c.loop-event.yielded _ _ _ c.loop-event.invariant.all c.loop-event.event-iterator.rest.ok.0 c.in-None.ensures.steps.0

pub returns-clause-ok : goal.returns-clause-ok
returns-clause-ok g c =
    let D = g.A.Databases.DatabaseSet in
    let w = workings g.A.Block.Block.header g.A.Block.Block.context_of g.A.Context.Rounded.round_of g.A.Application.works D.kind D.shows in
    let takes = g.met.A.Application.takes_turns in
    let i = c.loop-event.invariant in
    record {
      steps = i.steps;
      stands = λ base world. history-registered w g.met.A.Databases.DatabaseSet.laws (g.S.BlockStore.stored c.args.store.now) _ c.args.stateful.provider
          (λ f states b n is. takes.runs f states b n is) (λ asked states n is. takes.builds asked states n is)
          _ _ _ _ c.loop-event.driven.history.items c.requires.new refl c.requires.none_away i.steps world.names world.honest base
          false c.loop-event.driven.stateful.register i.registered;
      media = i.media;
      notes = i.notes;
      works = i.working;
      registered = i.registered;
      safe = i.safe;
    }

pub returns-in-Err-clause-err : goal.returns-in-Err-clause-err
returns-in-Err-clause-err g c =
    let D = g.A.Databases.DatabaseSet in
    let w = workings g.A.Block.Block.header g.A.Block.Block.context_of g.A.Context.Rounded.round_of g.A.Application.works D.kind D.shows in
    let takes = g.met.A.Application.takes_turns in
    let laws = g.met.A.Databases.DatabaseSet.laws in
    let stored = g.S.BlockStore.stored c.args.store.now in
    let i = c.loop-event.invariant in
    let was = c.loop-event.driven in
    let now = c.enter.new.driven in
    let old = moment w was.stateful.execution was.stateful.loop (D.members was.databases) (D.next was.databases) [] in
    let behind = after_all [] was.history.items in
    let r = rw (i.store, i.provider) at c.in-Err.ensures.err in
    let are = event_at c.loop-event.yielded _ _ _ _ _ i.all c.in-Some.ensures.steps.0 i.events in
    let counted : c.len-at.result ≡ length c.enter.new.driven.history.items = search rules in
    let at_is = counted ∙ ap (λ l. length l) c.in-Err.ensures.history in
    rw c.in-Err.ensures.history (record {
      event = c.in-Some.event;
      rest = c.next.new.self.rest.items;
      events_are = are;
      taken = rw at_is (taken_before was.history.items (λ entry. entry.event) _ _ _ are);
      at = at_is;
      within = rw at_is (within_events was.history.items (λ entry. entry.event) _ _ _ are);
      refuses = record {
        refused = record {
          register = was.stateful.register;
          old = old;
          steps = i.steps;
          registered = i.registered;
          before = tally (g.A.Faulty.count was.stateful.application) (D.counted was.databases);
          later = i.later;
          cause = r.cause;
          behind = λ lawful other up.
              leaves-behind w laws stored _ c.args.stateful.provider
              (λ f states b n is. takes.runs f states b n is) (λ asked states n is. takes.builds asked states n is)
              _ _ _ _ was.history.items c.requires.new refl c.requires.none_away i.steps was.stateful.register i.registered c.in-Some.event
              (D.members now.databases) (r.behind lawful other up);
          complete = λ other base few names honest.
              refused-outside w laws stored _ c.args.stateful.provider
              (λ f states b n is. takes.runs f states b n is) (λ asked states n is. takes.builds asked states n is)
              _ _ _ _ was.history.items c.requires.new refl c.requires.none_away i.steps was.stateful.register i.registered c.in-Some.event other
              _ _ _ _ r.cause few base names honest;
          restarts = r.restarts;
          works = λ base names honest failed.
              EachStands-constant w stored _ base [] was.history.items
              (history-leaves w laws stored _ c.args.stateful.provider
              (λ f states b n is. takes.runs f states b n is) (λ asked states n is. takes.builds asked states n is)
              _ _ _ _ was.history.items c.requires.new refl c.requires.none_away i.steps names honest base
              false was.stateful.register i.registered _
              (λ last s. never _ (cause-not_failed w laws stored stored _ c.args.stateful.provider last behind c.in-Some.event _
              (s.stands.at refl) (i.safe.sound i.working) was.stateful.register i.registered _ _ _ _ r.cause) failed));
        };
        stands = λ base world. history-leaves w laws stored _ c.args.stateful.provider
            (λ f states b n is. takes.runs f states b n is) (λ asked states n is. takes.builds asked states n is)
            _ _ _ _ was.history.items c.requires.new refl c.requires.none_away i.steps world.names world.honest base
            false was.stateful.register i.registered _
            (λ last s. record {
              stands = r.still stored last behind
                  (subst (λ (failed : Bool). Stands w stored last behind failed was.stateful.register old) (sym i.working) s.stands);
              holds = λ works. rw (c.in-Err.ensures.calm works) (s.holds refl);
            });
        works = λ bad. c.in-Err.ensures.bad (ap Err bad);
        media = keeps-after w laws stored _ c.args.stateful.provider
            (λ f states b n is. takes.runs f states b n is) (λ asked states n is. takes.builds asked states n is)
            _ _ _ old was.history.items c.requires.new refl c.requires.none_away i.steps was.stateful.register i.registered
            c.in-Some.event was.stateful.failed now.stateful.failed
            (moment w now.stateful.execution now.stateful.loop (D.members now.databases) (D.next now.databases) [])
            i.working r.media (λ base start names honest rise. i.media base start (record { names = names; honest = honest }) rise);
        noted = λ other. record {
          old = old;
          steps = i.steps;
          refused = subst (λ n. NotesRefused w stored c.args.stateful.provider g.A.Application.works.noted n (g.A.Application.notes now.stateful.application)
              (record { run = g.A.Run.Faulty.count; build = g.A.Build.Faulty.count; hook = g.A.Hook.Faulty.count }) c.in-Some.event old) i.notes
              (r.noted other);
        };
        safe = c.in-Err.ensures.safe;
      };
    })
