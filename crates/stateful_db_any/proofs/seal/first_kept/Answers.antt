use Rattle.std.proofs.Common.{◌≡◌, ◌+◌, ◌-◌, ◌≤◌, ◌<◌, ◌++◌, length, drop, suc, ap, sym, ◌∙◌, arith, length-append}
use Rattle.stateful_db_any.specs.Live.{passed}
use Rattle.stateful_db_any.specs.Stored.{standing_of}
use Rattle.stateful_db_any.proofs.Reading.{reads_through}
use Rattle.stateful_db_any.proofs.Floor.{front_of, walk_step, walk_live, walk_end}
use Rattle.stateful_db_any.proofs.seal.first_kept.Goals as goal

pub loop-at-preserved : goal.loop-at-preserved
loop-at-preserved g c = record {
  low = omega (arith, c.loop-at.invariant.low);
  high = omega (arith, c.loop-at.invariant.low, c.loop-at-test.true);
  same = λ t leads whole from indexed begins.
      let cmp = g.K.Ord.cmp in
      let at = c.loop-at.at in
      let start = c.args.start in
      let own = c.args.own.now in
      let ops = t.kept ++ own.ops in
      let s = (standing_of c.args.db.now).disk.newest in
      let reads = reads_through g.met.K.Ord.total g.K.Field.fields.spelling g.V.Field.fields.spelling c.args.layers.now s t leads whole in
      let count : start + length ops ≡ own.from + length own.ops = omega (arith, length-append t.kept own.ops, reads.whole, from, begins) in
      let more : at - start + 1 < length ops = omega (arith, count, c.loop-at.invariant.low, c.loop-at-test.true, c.saturating_sub-last.ensures, c.from.ensures, ap length c.ops.ensures.ops) in
      let (op, (later, is)) = front_of (at - start) ops (omega (arith, more)) in
      let place : at - t.target.start.0 ≡ at - start = omega (arith, begins) in
      let dead = sym (c.is_live.ensures t op later leads whole from indexed (omega (arith, begins, c.loop-at.invariant.low)) (ap (λ n. drop n ops) place ∙ is)) ∙ c.if-not-is_live.true in
      let step = walk_step cmp (at - start) ops later op is more dead in
      let next : at + 1 - start ≡ at - start + 1 = omega (arith, c.loop-at.invariant.low) in
      omega (arith, c.loop-at.invariant.same t leads whole from indexed begins, step, ap (λ n. passed cmp (drop n ops)) next);
}

pub returns-else-not-is_live : goal.returns-else-not-is_live
returns-else-not-is_live g c = λ t leads whole from indexed begins.
    let cmp = g.K.Ord.cmp in
    let at = c.loop-at.at in
    let start = c.args.start in
    let own = c.args.own.now in
    let ops = t.kept ++ own.ops in
    let s = (standing_of c.args.db.now).disk.newest in
    let reads = reads_through g.met.K.Ord.total g.K.Field.fields.spelling g.V.Field.fields.spelling c.args.layers.now s t leads whole in
    let count : start + length ops ≡ own.from + length own.ops = omega (arith, length-append t.kept own.ops, reads.whole, from, begins) in
    let more : at - start + 1 < length ops = omega (arith, count, c.loop-at.invariant.low, c.loop-at-test.true, c.saturating_sub-last.ensures, c.from.ensures, ap length c.ops.ensures.ops) in
    let (op, (later, is)) = front_of (at - start) ops (omega (arith, more)) in
    let place : at - t.target.start.0 ≡ at - start = omega (arith, begins) in
    let live = sym (c.is_live.ensures t op later leads whole from indexed (omega (arith, begins, c.loop-at.invariant.low)) (ap (λ n. drop n ops) place ∙ is)) ∙ c.if-not-is_live.false in
    omega (arith, c.loop-at.invariant.same t leads whole from indexed begins, walk_live cmp (at - start) ops later op is live)

pub returns-after-loop-at : goal.returns-after-loop-at
returns-after-loop-at g c = λ t leads whole from indexed begins.
    let cmp = g.K.Ord.cmp in
    let at = c.loop-at.at in
    let start = c.args.start in
    let own = c.args.own.now in
    let ops = t.kept ++ own.ops in
    let s = (standing_of c.args.db.now).disk.newest in
    let reads = reads_through g.met.K.Ord.total g.K.Field.fields.spelling g.V.Field.fields.spelling c.args.layers.now s t leads whole in
    let count : start + length ops ≡ own.from + length own.ops = omega (arith, length-append t.kept own.ops, reads.whole, from, begins) in
    let short : length ops ≤ suc (at - start) = omega (arith, count, c.loop-at.invariant.low, c.loop-at-test.false, c.saturating_sub-last.ensures, c.from.ensures, ap length c.ops.ensures.ops) in
    omega (arith, c.loop-at.invariant.same t leads whole from indexed begins, walk_end cmp (at - start) ops short)
