-- Whether the databases are open after a past.
use Rattle.std.specs.Prelude.{Bool, true, false, [], ◌∷◌}
use Rattle.stateful_history.specs.Past.{Past, Came, Made}
use Rattle.stateful_history.specs.declared.event.Event.TheVariants.{Restart}
use Rattle.stateful_history.specs.declared.mark.Mark.TheVariants.{Opened, Converged, Stopped}

-- there is an opening, by files or by a sync, and no stop and no restart since
abbrev pub is_open : {B C I : Type 0} → Past B C I → Bool
is_open [] = false
is_open (Came (Restart floor keep) ∷ p) = false
is_open (Made (Opened anchor) ∷ p) = true
is_open (Made (Converged anchor) ∷ p) = true
is_open (Made Stopped ∷ p) = false
is_open (item ∷ p) = is_open p
