use Rattle.std.proofs.Common.{◌≡◌, Bool, refl, sym, subst, arith}
use Rattle.stateful_exec_model.specs.Workings.{workings}
use Rattle.stateful_loop_model.specs.Moments.{Moment, executing, moment}
use Rattle.stateful_loop_model.specs.Rules.{none, further, Along, Goes, Quiet}
use Rattle.stateful_loop_model.specs.Sound.{Sound}
use Rattle.stateful_loop_model.proofs.Falling.{falls}
use Rattle.stateful_loop_model.proofs.Handing.{converted, err_holds}
use Rattle.stateful_loop_model.proofs.Sounding.{rule_sound}
use Rattle.stateful_actor_step.specs.Faults.{tally}
use Rattle.stateful_actor_step.proofs.Counts.{NeverFalls-itself, NeverFalls-further}
use Rattle.stateful_loop_model.proofs.NotesFollowing.{NotesFollow-same, NotesFollow-then}
use Rattle.stateful_actor_step.proofs.NotesOfEvents.{follow_reached}
use Rattle.stateful_actor_step.proofs.inside.Core.settle.Goals as goal

pub returns-in_err-go_on-clause-fault : goal.returns-in_err-go_on-clause-fault
returns-in_err-go_on-clause-fault g c =
    let D = g.A.Databases.DatabaseSet in
    let w = workings g.A.Block.Block.header g.A.Block.Block.context_of g.A.Context.Rounded.round_of g.A.Application.works D.kind D.shows in
    let i = c.rules.invariant in
    converted _ c.from_residual.result c.in_err-go_on.field-0.0 c.from_residual.ensures.1
    (record {
      reached = moment w (executing c.rules.self.handler) c.rules.self.processing (D.members c.rules.databases) (D.next c.rules.databases) c.rules.marks.items;
      along = i.along;
      before = tally (g.A.Faulty.count c.rules.self.handler.application) (D.counted c.rules.databases);
      later = i.falls.faults;
      fault = c.in_err-go_on.ensures.fault;
    })

pub rules-smaller : goal.rules-smaller
rules-smaller g c =
    let D = g.A.Databases.DatabaseSet in
    let w = workings g.A.Block.Block.header g.A.Block.Block.context_of g.A.Context.Rounded.round_of g.A.Application.works D.kind D.shows in
    let stored = g.S.BlockStore.stored c.args.store.now in
    let old = moment w (executing c.rules.self.handler) c.rules.self.processing (D.members c.rules.databases) (D.next c.rules.databases) c.rules.marks.items in
    let new = moment w (executing c.go_on.new.handler) c.go_on.new.processing (D.members c.go_on.new.databases)
    (D.next c.go_on.new.databases) c.go_on.new.marks.items in
    falls w stored c.rules.self.provider old new
    (subst (λ (went : Bool). Goes w stored c.rules.self.provider old new went) c.if-branch.true c.in_ok-go_on.ensures.ok) c.rules.invariant.sound

pub rules-preserved : goal.rules-preserved
rules-preserved g c =
    let D = g.A.Databases.DatabaseSet in
    let w = workings g.A.Block.Block.header g.A.Block.Block.context_of g.A.Context.Rounded.round_of g.A.Application.works D.kind D.shows in
    let stored = g.S.BlockStore.stored c.args.store.now in
    let old = moment w (executing c.rules.self.handler) c.rules.self.processing (D.members c.rules.databases) (D.next c.rules.databases) c.rules.marks.items in
    let new = moment w (executing c.go_on.new.handler) c.go_on.new.processing (D.members c.go_on.new.databases)
    (D.next c.go_on.new.databases) c.go_on.new.marks.items in
    let i = c.rules.invariant in
    let rule = subst (λ (went : Bool). Goes w stored c.rules.self.provider old new went) c.if-branch.true c.in_ok-go_on.ensures.ok in
    record {
      along = further i.along (rw i.provider at rule);
      sound = rule_sound w g.met.A.Databases.DatabaseSet.laws stored c.rules.self.provider old new rule i.sound;
      falls = NeverFalls-further _ _ _ _ _ _ i.falls (record {
        faults = record { application = c.in_ok-go_on.ensures.application; databases = c.in_ok-go_on.ensures.later };
        numbers = c.in_ok-go_on.ensures.numbers;
        barriers = c.in_ok-go_on.ensures.barrier;
      });
      follows = NotesFollow-then g.A.Application.works.noted _ _ _ _ _ _ _ _ _ i.follows c.in_ok-go_on.ensures.notes;
      register = i.register;
      provider = i.provider;
      config = i.config;
    }

pub returns-clause-ok : goal.returns-clause-ok
returns-clause-ok g c =
    let D = g.A.Databases.DatabaseSet in
    let w = workings g.A.Block.Block.header g.A.Block.Block.context_of g.A.Context.Rounded.round_of g.A.Application.works D.kind D.shows in
    let stored = g.S.BlockStore.stored c.args.store.now in
    let start = moment w (executing c.args.self.now.handler) c.args.self.now.processing (D.members c.args.databases.now)
    (D.next c.args.databases.now) c.args.marks.now.items in
    let old = moment w (executing c.rules.self.handler) c.rules.self.processing (D.members c.rules.databases) (D.next c.rules.databases) c.rules.marks.items in
    let new = moment w (executing c.go_on.new.handler) c.go_on.new.processing (D.members c.go_on.new.databases)
    (D.next c.go_on.new.databases) c.go_on.new.marks.items in
    let over : Quiet w old × (new ≡ old) = subst
    (λ (went : Bool). Goes w stored c.rules.self.provider old new went) c.if-branch.false c.in_ok-go_on.ensures.ok in
    record {
      along = subst (λ (m : Moment w). Along w stored c.args.self.now.provider start m) (sym over.1) c.rules.invariant.along;
      quiet = subst (λ (m : Moment w). Quiet w m) (sym over.1) over.0;
    }

pub returns-clause-sound : goal.returns-clause-sound
returns-clause-sound g c =
    let D = g.A.Databases.DatabaseSet in
    let w = workings g.A.Block.Block.header g.A.Block.Block.context_of g.A.Context.Rounded.round_of g.A.Application.works D.kind D.shows in
    let stored = g.S.BlockStore.stored c.args.store.now in
    let old = moment w (executing c.rules.self.handler) c.rules.self.processing (D.members c.rules.databases) (D.next c.rules.databases) c.rules.marks.items in
    let new = moment w (executing c.go_on.new.handler) c.go_on.new.processing (D.members c.go_on.new.databases)
    (D.next c.go_on.new.databases) c.go_on.new.marks.items in
    let over : Quiet w old × (new ≡ old) = subst
    (λ (went : Bool). Goes w stored c.rules.self.provider old new went) c.if-branch.false c.in_ok-go_on.ensures.ok in
    subst (λ (m : Moment w). Sound w m) (sym over.1) c.rules.invariant.sound

pub returns-in_err-go_on-clause-left : goal.returns-in_err-go_on-clause-left
returns-in_err-go_on-clause-left g c =
    let D = g.A.Databases.DatabaseSet in
    let w = workings g.A.Block.Block.header g.A.Block.Block.context_of g.A.Context.Rounded.round_of g.A.Application.works D.kind D.shows in
    err_holds c.from_residual.result (record {
      reached = moment w (executing c.rules.self.handler) c.rules.self.processing (D.members c.rules.databases) (D.next c.rules.databases) c.rules.marks.items;
      along = c.rules.invariant.along;
      left = c.in_err-go_on.ensures.left;
    })

pub returns-clause-notes : goal.returns-clause-notes
returns-clause-notes g c =
    NotesFollow-then g.A.Application.works.noted _ _ _ _ _ _ _ _ _ c.rules.invariant.follows c.in_ok-go_on.ensures.notes

pub returns-in_err-go_on-clause-noted : goal.returns-in_err-go_on-clause-noted
returns-in_err-go_on-clause-noted g c =
    let D = g.A.Databases.DatabaseSet in
    let w = workings g.A.Block.Block.header g.A.Block.Block.context_of g.A.Context.Rounded.round_of g.A.Application.works D.kind D.shows in
    let start = moment w (executing c.args.self.now.handler) c.args.self.now.processing (D.members c.args.databases.now)
    (D.next c.args.databases.now) c.args.marks.now.items in
    let reached = moment w (executing c.rules.self.handler) c.rules.self.processing (D.members c.rules.databases) (D.next c.rules.databases) c.rules.marks.items in
    converted _ c.from_residual.result c.in_err-go_on.field-0.0 c.from_residual.ensures.1 (λ other. record {
      reached = reached;
      along = c.rules.invariant.along;
      notes = follow_reached w g.A.Application.works.noted _ _ _ start reached c.rules.invariant.follows (c.in_err-go_on.ensures.noted other);
    })

pub rules-init : goal.rules-init
rules-init g c = record {
  along = none;
  sound = record { none_away = c.requires.none_away; up = c.requires.up };
  falls = NeverFalls-itself _ _;
  follows = NotesFollow-same g.A.Application.works.noted _ _ _ _ _ _ refl refl refl;
  register = refl;
  provider = refl;
  config = refl;
}

pub returns-clause-never_falls : goal.returns-clause-never_falls
returns-clause-never_falls g c = NeverFalls-further _ _ _ _ _ _ c.rules.invariant.falls (record {
  faults = record { application = c.in_ok-go_on.ensures.application; databases = c.in_ok-go_on.ensures.later };
  numbers = c.in_ok-go_on.ensures.numbers;
  barriers = c.in_ok-go_on.ensures.barrier;
})

pub returns-in_err-go_on-clause-never_falls : goal.returns-in_err-go_on-clause-never_falls
returns-in_err-go_on-clause-never_falls g c = NeverFalls-further _ _ _ _ _ _ c.rules.invariant.falls (record {
  faults = record { application = c.in_err-go_on.ensures.application; databases = c.in_err-go_on.ensures.later };
  numbers = c.in_err-go_on.ensures.numbers;
  barriers = c.in_err-go_on.ensures.barrier;
})

pub returns-clause-none_away : goal.returns-clause-none_away
returns-clause-none_away g c = c.in_ok-go_on.ensures.none_away c.rules.invariant.sound.none_away
