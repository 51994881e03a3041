use Rattle.stateful_script.proofs.Decimal as lemma
use Rattle.stateful_script.proofs.law.number_is_decimal.Goals as goal

pub returns : goal.returns
returns c = lemma.number_is_decimal
