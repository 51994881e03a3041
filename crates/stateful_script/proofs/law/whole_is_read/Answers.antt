use Rattle.stateful_script.proofs.WholeText as lemma
use Rattle.stateful_script.proofs.law.whole_is_read.Goals as goal

pub returns : goal.returns
returns c = lemma.whole_is_read
