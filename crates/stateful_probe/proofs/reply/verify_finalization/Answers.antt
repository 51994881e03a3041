use Rattle.std.proofs.Common.{refl}
use Rattle.std.proofs.lemmas.Bool.{false≢true}
use Rattle.stateful_probe.proofs.Weighing.{worthless, worthy, unfounded}
use Rattle.stateful_probe.proofs.reply.verify_finalization.Goals as goal

pub returns-in_default : goal.returns-in_default
returns-in_default g c = λ peer bytes counting. worthless _ peer _ bytes counting c.in_default.ensures.found

pub returns-then-verify : goal.returns-then-verify
returns-then-verify g c = λ peer bytes counting. worthy _ peer _ bytes counting _ c.in-Some.ensures.found _ c.in-Some-scheme.ensures.found (c.if-verify.ensures.0 refl)

pub returns-else-verify : goal.returns-else-verify
returns-else-verify g c = λ peer bytes counting. unfounded _ peer _ bytes counting _ c.in-Some.ensures.found _ c.in-Some-scheme.ensures.found g.met.S.Scheme.lawful (λ holds. false≢true (c.if-verify.ensures.1 holds))
