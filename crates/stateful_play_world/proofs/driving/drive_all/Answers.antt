use Rattle.std.proofs.Common.{sym, ◌∙◌}
use Rattle.std.proofs.lemmas.Bool.{false≢true}
use Rattle.stateful_play_world.proofs.driving.drive_all.Goals as goal

pub returns-in-Ok : goal.returns-in-Ok
returns-in-Ok g c = (c.in-Ok.ensures.all, c.in-Ok.ensures.ok)

pub returns-else-wants_memory : goal.returns-else-wants_memory
returns-else-wants_memory g c =
    (c.in-Err.ensures.err, λ e. false≢true (sym c.if-wants_memory.false ∙ c.wants_memory.ensures.1 e))
