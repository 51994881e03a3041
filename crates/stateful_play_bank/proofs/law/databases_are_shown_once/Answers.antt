use Rattle.stateful_play_bank.proofs.Once.{shown_once}
use Rattle.stateful_play_bank.proofs.law.databases_are_shown_once.Goals as goal

pub returns : goal.returns
returns c = shown_once c.entries_are_one.ensures
