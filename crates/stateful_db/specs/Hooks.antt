-- What is left to do behind a finalized block.
use Rattle.stateful_base.specs.declared.outcome.Moved.{Moved}
use Rattle.stateful_base.specs.declared.outcome.Moved.TheVariants as moved
use Rattle.stateful_db.specs.declared.application.Hooked.{Hooked}
use Rattle.stateful_db.specs.declared.application.Hooked.TheVariants.{Done, Pending}

-- behind a turn of a hook: the hook as it is now, or nothing where the turn was its last
abbrev pub left : {T H : Type 0} → Moved T → H → Hooked H
left moved.Pending hook = Pending hook
left (moved.Done value) hook = Done
