-- Rounds, which of two is the later one, and rounds in bytes.
use Rattle.std.specs.Prelude.{◌≡◌, ◌<◌, ◌⊎◌, ◌++◌}
use Rattle.stateful_base.specs.Format.{Format}
use Rattle.stateful_base.specs.Number.{epoch_format, view_format}
use Rattle.stateful_base.specs.declared.round.Round.{Round}

-- the second round comes after the first: by epoch, and then by view
abbrev pub IsLater : Round → Round → Type 0
IsLater first second =
    (first.epoch.0 < second.epoch.0)
    ⊎ ((first.epoch.0 ≡ second.epoch.0) × (first.view.0 < second.view.0))

-- the epoch, and then the view
abbrev pub round_format : Format Round
round_format = record {
  fits = λ r. epoch_format.fits r.epoch × view_format.fits r.view;
  spelling = λ r. epoch_format.spelling r.epoch ++ view_format.spelling r.view;
}
