use Rattle.std.proofs.Common.{◌≡◌, ◌++◌, length, All}
use Rattle.std.specs.List.{flat_map}
use Rattle.stateful_base.specs.Number.{u32_format}
use Rattle.stateful_types.proofs.vote.read_signers.Given as goal

-- the signers so far were read, and stand before what is left
abbrev pub invariant-loop : goal.invariant-loop
invariant-loop l = record {
  count : length l.signers ≡ l.counter;
  fits : All u32_format.fits l.signers;
  read : l.fn.input ≡ flat_map u32_format.spelling l.signers ++ l.input;
}
