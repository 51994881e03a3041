use Rattle.std.proofs.Common.{◌<◌, length, arith}
use Rattle.stateful_script.proofs.NumbersLeft.{no_numbers, one_number_more, one_longer, none_further}
use Rattle.stateful_script.proofs.event.next_numbers.Goals as goal

pub numbers-init : goal.numbers-init
numbers-init c = rw c.new-numbers.ensures (record { read = no_numbers _; within = omega arith })

pub numbers-preserved : goal.numbers-preserved
numbers-preserved c =
    let room : length c.numbers.numbers < c.args.count = omega (arith, c.len.ensures, c.numbers-test.true) in
    record {
      read = one_number_more _ _ _ _ _ _ c.numbers.invariant.read c.in-Some.ensures.read c.in_ok-push-in-Some.ensures.items;
      within = one_longer _ _ _ _ room c.in_ok-push-in-Some.ensures.items;
    }

pub returns-in-None : goal.returns-in-None
returns-in-None c =
    let room : length c.numbers.numbers < c.args.count = omega (arith, c.len.ensures, c.numbers-test.true) in
    none_further _ _ _ _ _ room c.numbers.invariant.read c.in-None.ensures.read
