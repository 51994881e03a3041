use Rattle.std.proofs.Common.{◌≡◌, drop}
use Rattle.stateful_probe.specs.Setup.{scheme_in}
use Rattle.stateful_probe.proofs.schemes.scheme_in.Given as goal

-- none of the schemes before this place is the epoch's
abbrev pub invariant-loop-known : goal.invariant-loop-known
invariant-loop-known g l = scheme_in l.schemes l.epoch ≡ scheme_in (drop l.known-index l.schemes) l.epoch
