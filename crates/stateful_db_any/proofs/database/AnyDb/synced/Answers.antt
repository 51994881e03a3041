use Rattle.std.proofs.Common.{◌≡◌, ℕ, ◌-◌, List, take, None, sym, ap, ◌∙◌, arith}
use Rattle.std.proofs.lemmas.List.{take_all}
use Rattle.std.specs.Option.{option_map}
use Rattle.stateful_db.specs.Disk.{Standing}
use Rattle.stateful_db_log.specs.Held.{until}
use Rattle.stateful_db_log.specs.Logs as logs
use Rattle.stateful_db_medium.specs.Ranged.{range_of}
use Rattle.stateful_db_any.specs.declared.op.AnyOp.{AnyOp}
use Rattle.stateful_db_any.specs.Live.{last_write}
use Rattle.stateful_db_any.specs.Any.{State, live_at}
use Rattle.stateful_db_any.proofs.Opening.{opened_alone}
use Rattle.stateful_db_any.proofs.database.AnyDb.synced.Goals as goal

pub invariant_of-result : goal.invariant_of-result
invariant_of-result g c =
    let K = g.row.K.Denot in
    let V = g.row.V.Denot in
    let cmp = g.K.Ord.cmp in
    let only : State K V = record { target = c.args.segment.target; kept = c.args.segment.ops.items } in
    let standing = opened_alone range_of only (logs.disk_of c.replaced.result) (logs.standing_of c.open-log.result) c.replaced.ensures.disk c.open-log.ensures.opens in
    record {
      indexed = λ key.
          c.in-Ok.ensures key
          ∙ ap (λ (ops : List (AnyOp K V)). option_map (λ (x : ℕ × V). x.0) (last_write cmp key only.target.start.0 ops None)) c.as_slice.ensures.value
          ∙ ap (λ (s : Standing (State K V)). option_map (λ (x : ℕ × V). x.0) (live_at cmp s.disk.newest key)) (sym standing);
    }

pub returns-in-Ok-clause-ok : goal.returns-in-Ok-clause-ok
returns-in-Ok-clause-ok g c =
    let only : State g.row.K.Denot g.row.V.Denot = record { target = c.args.segment.target; kept = c.args.segment.ops.items } in
    opened_alone range_of only (logs.disk_of c.replaced.result) (logs.standing_of c.open-log.result) c.replaced.ensures.disk c.open-log.ensures.opens

pub returns-in-Ok-clause-ok_held : goal.returns-in-Ok-clause-ok_held
returns-in-Ok-clause-ok_held g c =
    let S = State g.row.K.Denot g.row.V.Denot in
    let segment = c.args.segment in
    let only : S = record { target = segment.target; kept = segment.ops.items } in
    let standing = opened_alone range_of only (logs.disk_of c.replaced.result) (logs.standing_of c.open-log.result) c.replaced.ensures.disk c.open-log.ensures.opens in
    let end = ap (λ (s : Standing S). s.disk.newest.target.end.0) standing in
    let all : take (segment.target.end.0 - segment.target.start.0) segment.ops.items ≡ segment.ops.items = take_all (segment.target.end.0 - segment.target.start.0) segment.ops.items (omega (arith, c.requires.whole)) in
    c.open-log.ensures.held
    ∙ ap (λ n. until (logs.held_of c.replaced.result) n) end
    ∙ ap (λ h. until h segment.target.end.0) c.replaced.ensures.held
    ∙ ap (λ ops. record { first = segment.target.start.0; before = segment.before; ops = ops }) all
