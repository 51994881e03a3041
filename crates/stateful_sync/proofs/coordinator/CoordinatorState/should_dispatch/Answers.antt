use Rattle.std.proofs.Common.{refl}
use Rattle.std.proofs.lemmas.Option.{slice_get_read}
use Rattle.stateful_sync.proofs.Order.{seeks_by}
use Rattle.stateful_sync.proofs.coordinator.CoordinatorState.should_dispatch.Goals as goal

pub returns-clause-seeks : goal.returns-clause-seeks
returns-clause-seeks g c =
    let within = rw (← c.self.view_is) at c.requires in
    let at = slice_get_read c.self.inside.databases.items _ c.args.index c.index.result.now refl within c.index.ensures in
    let by = seeks_by (record { databases = c.self.inside.databases.items; newest = c.self.inside.newest; pending = c.self.inside.pending }) c.args.index c.index.result.now at in
    rw (c.is_reached.ensures, ← c.self.view_is) by
