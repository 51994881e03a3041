-- What a sink holds once a text was written, and which status that has.
use Rattle.std.specs.Prelude.{ℕ, ◌≡◌, ◌≤◌, ◌⊎◌, List, Option, Some, None, length, take}
use Rattle.std.specs.Io.KnownBytes.{Appends}
use Rattle.stateful_actor.specs.declared.driving.Halted.{Halted}
use Rattle.stateful_play_edge.specs.Reading.{Known}
use Rattle.stateful_play_edge.specs.declared.status.Status.{Status}
use Rattle.stateful_play_edge.specs.declared.status.Status.TheVariants as status

-- a prefix of the text is written
abbrev pub HoldsPrefix : Known → Known → List ℕ → Type 0
HoldsPrefix out out_after text =
    (n : ℕ) × (n ≤ length text) × Appends out out_after (take n text)

-- with the last event, or at the refused one
abbrev pub status_by : Option Halted → Status
status_by None = status.Done
status_by (Some halted) = status.Halted halted.at

-- What writing a text answers, which asks for this status: the sink holds it all, or it failed or
-- wanted memory, and holds a prefix.
abbrev pub Writes : Type 0 → Known → Known → List ℕ → Status → Status → Type 0
Writes rose out out_after text asked answer =
    ((answer ≡ asked) × Appends out out_after text)
    ⊎ ((answer ≡ status.WriteFault) × rose × HoldsPrefix out out_after text)
    ⊎ ((answer ≡ status.NoMemory) × HoldsPrefix out out_after text)
