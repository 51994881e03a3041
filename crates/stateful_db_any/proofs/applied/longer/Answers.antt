use Rattle.std.proofs.Common.{◌≡◌, ◌+◌, ◌++◌, List, false, Result, Ok, Err, OnOk, is_err, sym, ap, ◌∙◌}
use Rattle.std.specs.Option.{option_map}
use Rattle.stateful_db.specs.Disk.{Standing}
use Rattle.stateful_db_log.specs.Logs.{extended}
use Rattle.stateful_db_any.specs.declared.op.AnyOp.{AnyOp}
use Rattle.stateful_db_any.specs.Live.{last_write, passed}
use Rattle.stateful_db_any.specs.Any.{State, live_at}
use Rattle.stateful_db_any.specs.Through.{Change}
use Rattle.stateful_db_any.specs.Stored.{standing_of}
use Rattle.stateful_db_any.proofs.Reading.{extended_live}
use Rattle.stateful_db_any.proofs.applied.longer.Goals as goal

from_ok : {E P : Type 0} (r : Result (Unit {0}) E) → is_err r ≡ false → OnOk r P → P
from_ok (Ok done) good h = h
from_ok (Err refused) good h = cc

pub invariant_of-result : goal.invariant_of-result
invariant_of-result g c =
    let K = g.row.K.Denot in
    let V = g.row.V.Denot in
    let cmp = g.K.Ord.cmp in
    let s = (standing_of c.args.db).disk.newest in
    let old = c.own.inside in
    let view = c.own.view_is in
    let follows = c.follows-follows.ensures in
    let yes = c.if-not-follows.false in
    let noted = from_ok c.note_each.result (sym c.is_err.ensures.value ∙ c.if-is_err.false) c.note_each.ensures in
    let from = ap (λ (ch : Change K V). ch.written.from) view ∙ follows.from yes in
    let start = ap (λ (ch : Change K V). ch.target.start.0) view ∙ follows.start yes ∙ sym (ap (λ (ch : Change K V). s.target.start.0 + passed cmp (s.kept ++ ch.written.ops)) view) in
    let ops = c.in-Ok.ensures ∙ ap (λ (ch : Change K V). ch.written.ops) (sym (view ∙ c.changes-own.ensures)) in
    let newest = ap (λ (x : Standing (State K V)). x.disk.newest) c.in-Ok-lengthened.ensures.ok ∙ ap (λ (xs : List (AnyOp K V)). extended s xs old.target) ops in
    record {
      indexed = λ key.
          noted key (live_at cmp s key) (c.args.db.indexed key)
          ∙ ap (λ n. option_map (λ x. x.0) (last_write cmp key n c.ops.result.now (live_at cmp s key))) c.from.ensures
          ∙ ap (λ xs. option_map (λ x. x.0) (last_write cmp key old.written.from xs (live_at cmp s key))) c.ops.ensures.ops
          ∙ sym (ap (λ (x : State K V). option_map (λ w. w.0) (live_at cmp x key)) newest
          ∙ ap (λ o. option_map (λ w. w.0) o) (extended_live g.met.K.Ord.total g.K.Field.fields.spelling g.V.Field.fields.spelling s old.written.ops old.target old.written.from key (follows.whole yes) from start));
    }
