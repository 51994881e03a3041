use Rattle.std.proofs.Common.{◌≡◌, ◌++◌, length, take, All}
use Rattle.std.specs.List.{flat_map}
use Rattle.stateful_base.specs.Number.{u32_format}
use Rattle.stateful_types.proofs.vote.write_signers.Given as goal

-- the number of signers is written, and the signers so far
abbrev pub invariant-loop-signer : goal.invariant-loop-signer
invariant-loop-signer l = record {
  fits : All u32_format.fits (take l.signer-index l.signer-items);
  written : l.out.items ≡ l.fn.out.items ++ (u32_format.spelling (length l.signer-items) ++ flat_map u32_format.spelling (take l.signer-index l.signer-items));
}
