use Rattle.std.proofs.Common.{rules, ◌++◌, ◌∷◌, [], true, Some, ap, ◌∙◌}
use Rattle.stateful_base.specs.declared.anchor.Anchor.{Anchor}
use Rattle.stateful_durability.specs.Durability.{Coverage}
use Rattle.stateful_history.specs.declared.mark.Mark.TheVariants as mark
use Rattle.stateful_exec_model.specs.Workings.{workings}
use Rattle.stateful_loop_model.specs.Errors.{error_of_init}
use Rattle.stateful_loop_model.specs.Left.{not_opened, opened}
use Rattle.stateful_loop_model.specs.Opening.{FaultsOpening}
use Rattle.stateful_loop_model.proofs.Handing.{converted, err_holds}
use Rattle.stateful_loop_model.proofs.OpeningCalls.{fault_opening}
use Rattle.stateful_loop_opens.proofs.opening.open.Goals as goal

pub returns-in_err-init-clause-fault : goal.returns-in_err-init-clause-fault
returns-in_err-init-clause-fault g c =
    let w = workings g.A.Block.Block.header g.A.Block.Block.context_of g.A.Context.Rounded.round_of g.A.Application.works g.A.Databases.DatabaseSet.kind g.A.Databases.DatabaseSet.shows in
    let stored = g.S.BlockStore.stored c.args.store.now in
    let before = g.A.Databases.DatabaseSet.counted c.args.databases.now in
    let now = g.A.Databases.DatabaseSet.counted c.init.new.self in
    let old = g.A.Databases.DatabaseSet.members c.args.databases.now in
    let new = g.A.Databases.DatabaseSet.members c.init.new.self in
    let e = c.in_err-init.field-0.0 in
    converted (FaultsOpening w stored c.args.floor.now c.args.keep.now before now old new) c.from_residual-in_err-init.result (error_of_init e) c.from_residual-in_err-init.ensures.1
    (fault_opening w stored c.args.floor.now c.args.keep.now before now old new e.index e.why record {
      crashed = g.A.Databases.DatabaseSet.members c.crash.result;
      is_crashed = (search rules);
      block = c.in-Some.block;
      is_stored = (search rules);
      within = c.in_err-init.ensures.index;
      not_opened = (search rules);
    })

pub returns-clause-ok : goal.returns-clause-ok
returns-clause-ok g c = record {
  crashed = g.A.Databases.DatabaseSet.members c.crash.result;
  is_crashed = (search rules);
  block = c.in-Some.block;
  is_stored = (search rules);
  reopened = (search rules);
  opening = c.in_ok-init.ensures.opening c.crash.ensures.openable (g.A.Application.works.meaning.targets c.in-Some.block.block) (ap Some (search rules));
  next = c.init.ensures.next ∙ c.crash.ensures.next ∙ c.take.ensures.next;
  anchor = (search rules);
  cache = (search rules);
  runs = (search rules);
  requests = (search rules);
  free = (search rules);
  nothing = (search rules);
  numbers = (search rules);
  loop = ap (λ (d : Coverage). record c.args.processing.now { up = true; durability = d })
      (c.new.ensures.start ∙ ap (λ (a : Anchor). record { durable = a.height.0; applied = a.height.0; barriers = []; held = [] }) c.from_block-anchor.ensures);
  marks = c.in_ok-push.ensures.items ∙ ap (λ (a : Anchor). c.args.marks.now.items ++ mark.Opened a ∷ []) c.from_block-anchor.ensures;
}

pub returns-clause-none_away : goal.returns-clause-none_away
returns-clause-none_away g c = c.init.ensures.none_away (g.met.A.Databases.DatabaseSet.laws.places.away_openable _ c.crash.ensures.openable)

pub returns-in_err-init-clause-left : goal.returns-in_err-init-clause-left
returns-in_err-init-clause-left g c =
    let before = g.A.Databases.DatabaseSet.counted c.args.databases.now in
    let now = g.A.Databases.DatabaseSet.counted c.init.new.self in
    let e = c.in_err-init.field-0.0 in
    err_holds c.from_residual-in_err-init.result
    (not_opened {crashed = g.A.Databases.DatabaseSet.members c.crash.result} {block = c.in-Some.block} {i = e.index} {before = before e.index}
    {now = now e.index} {why = e.why} record { is_crashed = (search rules); is_stored = (search rules) } (search rules))

pub returns-in_err-push-clause-left : goal.returns-in_err-push-clause-left
returns-in_err-push-clause-left g c =
    err_holds c.from_residual-in_err-push.result
    (opened {crashed = g.A.Databases.DatabaseSet.members c.crash.result} {block = c.in-Some.block}
    record { is_crashed = (search rules); is_stored = (search rules) } (search rules))
