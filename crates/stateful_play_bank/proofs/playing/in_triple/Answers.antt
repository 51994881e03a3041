use Rattle.stateful_play_bank.proofs.playing.in_triple.Goals as goal

pub returns-clause-play : goal.returns-clause-play
returns-clause-play c = c.in_ok-played.ensures
