use Rattle.std.proofs.Common.{ℕ, ◌<◌, ◌^◌, List, length, ap, subst, arith}
use Rattle.stateful_db_plain.specs.Ops.{op_format}
use Rattle.stateful_db_plain.specs.Writes.{IsInOrder}
use Rattle.stateful_db_plain.proofs.OpWrites.{WritesOn, writes_more, writes_fits, writes_all}
use Rattle.stateful_db_plain.proofs.op.PlainOpOperation.write.Goals as goal

pub loop-key-preserved : goal.loop-key-preserved
loop-key-preserved c =
    let l = c.loop-key in
    let one = c.in_ok-write_u64.ensures in
    let two = c.in_ok-write_u64-2.ensures in
    writes_more c.args.out.now.items l.out.items c.args.self.now c.write_u64.new.out.items c.write_u64-in-loop-key.new.out.items c.in-Some.key.now c.in-Some.value.now l.key-iterator c.next.new.self l.invariant
    c.in-Some.ensures.steps one.fits two.fits one.appended two.appended

pub returns : goal.returns
returns c =
    let l = c.loop-key in
    let all = c.args.self.now in
    let before = c.args.out.now.items in
    let P : List (ℕ × ℕ) → Type 0 = λ left. WritesOn before l.out.items all left in
    let on = subst P c.in-None.ensures.steps.0 l.invariant in
    let Up : List (ℕ × ℕ) → Type 0 = λ es. IsInOrder es in
    let same = c.entries-entries.ensures in
    let count = ap length same in
    let small : length all < 2 ^ 32 = omega (arith, c.in-Ok.ensures.0, c.len.ensures.len) in
    record {
      fits = writes_fits before l.out.items all on (subst Up same c.len.ensures.ordered) small;
      appended = writes_all before l.out.items all on;
      kept = (op_format.spelling all, writes_all before l.out.items all on);
    }
