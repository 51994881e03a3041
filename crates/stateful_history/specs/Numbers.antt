-- Numbers of jobs, fetches and barriers.
use Rattle.std.specs.Prelude.{◌≡◌, None}
use Rattle.stateful_history.specs.Past.{Past}
use Rattle.stateful_history.specs.Asked.{asked_for, started}
use Rattle.stateful_history.specs.Barriers.{begun_over}
use Rattle.stateful_history.specs.declared.mark.Mark.{Mark}
use Rattle.stateful_history.specs.declared.mark.Mark.TheVariants.{Asked, Started, BarrierBegun}

-- a job, a fetch or a barrier begins under a number that none had before
abbrev pub NumberIsNew : {B C I : Type 0} → Past B C I → Mark B → Type 0
NumberIsNew p (Started j kind digest) = started j p ≡ None
NumberIsNew p (Asked f ticket digest) = asked_for f p ≡ None
NumberIsNew p (BarrierBegun k height) = begun_over k p ≡ None
NumberIsNew p mark = Unit {0}
