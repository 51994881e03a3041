-- What a selection of the floor changes.
use Rattle.std.specs.Prelude.{◌≡◌, ℕ, Option, List, ◌++◌}
use Rattle.stateful_base.specs.declared.finalization.Finalization.{Finalization}
use Rattle.stateful_probe_sample.specs.Sample.{with_floor, Selects}
use Rattle.stateful_probe.specs.Setup.{Setup, is_judgeable}
use Rattle.stateful_probe.specs.Probe.{left_waiting, handed_out}
use Rattle.stateful_probe.specs.declared.state.State.{State}
use Rattle.stateful_probe.specs.declared.event.Out.{Out}

-- a floor is chosen or none is, it is handed to all who wait, and then nobody waits
pub record Chooses {S K C : Type 0} (u : Setup S K C) (size : ℕ) (s : State K C)
    (before after : List (Out K C)) (next : State K C) : Type 0 where
  pub chosen : Option (Finalization C)
  pub selects : Selects size (is_judgeable u) s.sample chosen
  pub handed : after ≡ before ++ handed_out s.subscribers chosen
  pub next_is : next ≡ record s {
    sample = with_floor s.sample chosen;
    subscribers = left_waiting s.subscribers chosen;
  }
