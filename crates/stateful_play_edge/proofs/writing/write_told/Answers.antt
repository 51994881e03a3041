use Rattle.std.proofs.Common.{refl}
use Rattle.stateful_play_edge.proofs.Wanting.{want_writes}
use Rattle.stateful_play_edge.proofs.writing.write_told.Goals as goal

pub returns-in-Err : goal.returns-in-Err
returns-in-Err g c = want_writes _ _ _ _ _ refl
