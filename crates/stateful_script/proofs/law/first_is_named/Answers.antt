use Rattle.stateful_script.proofs.WholeText as lemma
use Rattle.stateful_script.proofs.law.first_is_named.Goals as goal

pub returns : goal.returns
returns c = lemma.first_is_named
