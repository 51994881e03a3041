-- A builder's hand to consensus.
use Rattle.stateful_base.specs.declared.outcome.Handoff.{Handoff}
use Rattle.stateful_base.specs.declared.outcome.Handoff.TheVariants.{Wait, Vote, Stage}

-- nothing is handed over yet
abbrev pub IsWait : {T : Type 0} → Handoff T → Type 0
IsWait Wait = Unit {0}
IsWait (Vote value) = ⊥
IsWait (Stage value) = ⊥
