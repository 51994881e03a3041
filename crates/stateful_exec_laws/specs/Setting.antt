-- How execution's workings are seen by the definitions over pasts.
use Rattle.std.specs.Prelude.{ℕ, Option}
use Rattle.stateful_base.specs.Names.{Named}
use Rattle.stateful_history.specs.Setting.{Setting}
use Rattle.stateful_exec_model.specs.Workings.{Workings}

-- what the definitions over pasts take, with the finalized blocks that a store was handed
abbrev pub setting : {B C I P R D H G U : Type 0} (w : Workings B C I P R D H G U)
    → (ℕ → Option (Named B))
    → Setting B w.States w.Targets
setting w stored =
    record
    { header = w.header; meaning = w.works.meaning; target_of = w.kind.target_of; stored = stored }
