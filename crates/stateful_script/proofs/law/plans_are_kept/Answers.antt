use Rattle.stateful_script.proofs.Plans as lemma
use Rattle.stateful_script.proofs.law.plans_are_kept.Goals as goal

pub returns : goal.returns
returns c = lemma.plans_are_kept
