use Rattle.std.proofs.Common.{◌≡◌, ◌++◌, length, All}
use Rattle.std.specs.List.{flat_map}
use Rattle.stateful_types.proofs.response.read_operations.Given as goal

-- the operations so far were read, and stand before what is left
abbrev pub invariant-loop : goal.invariant-loop
invariant-loop g l =
    let op = g.Op.Operation.operations in
    record {
      count : length l.operations ≡ l.counter;
      fits : All op.fits l.operations;
      read : l.fn.input ≡ flat_map op.spelling l.operations ++ l.input;
    }
