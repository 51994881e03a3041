-- Marks of a sync and of the handover behind it.
use Rattle.std.specs.Prelude.{◌≡◌, true, None, MatchOption}
use Rattle.stateful_base.specs.Names.{Header}
use Rattle.stateful_history.specs.Past.{Past}
use Rattle.stateful_history.specs.Opening.{IsSyncing, is_handing_over}
use Rattle.stateful_history.specs.Anchors.{anchor_of}
use Rattle.stateful_history.specs.declared.mark.Mark.{Mark}
use Rattle.stateful_history.specs.declared.mark.Mark.TheVariants.{Asked, Converged, Recorded}
use Rattle.stateful_history.specs.declared.mark.Mark.TheVariants.{Dispatched, Completed}

-- A floor is asked for, tips are recorded, databases are sent on and converge only while the
-- machine syncs. Completed is marked only in a handover, at the anchor's height.
abbrev pub SyncsInPlace : {B C I : Type 0} → Header B → Past B C I → Mark B → Type 0
SyncsInPlace header p (Asked f None digest) = IsSyncing p
SyncsInPlace header p (Recorded anchor) = IsSyncing p
SyncsInPlace header p (Dispatched generation height) = IsSyncing p
SyncsInPlace header p (Converged anchor) = IsSyncing p
SyncsInPlace header p (Completed height) =
    (is_handing_over p ≡ true)
    × MatchOption (anchor_of header p) ⊥ (λ anchor. height ≡ anchor.height)
SyncsInPlace header p mark = Unit {0}
