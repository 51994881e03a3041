use Rattle.stateful_script.proofs.WholeText as lemma
use Rattle.stateful_script.proofs.law.last_is_ended.Goals as goal

pub returns : goal.returns
returns c = lemma.last_is_ended
