-- What a transcript shows of a play.
use Rattle.std.specs.Prelude.{◌≡◌, ℕ, List, [], ◌∷◌, Option, Some, None, codes}
use Rattle.stateful_base.specs.declared.round.Round.{Round}
use Rattle.stateful_bank.specs.declared.ask.Ask.{Ask}
use Rattle.stateful_bank.specs.declared.block.BankBlock.{BankBlock}
use Rattle.stateful_history.specs.declared.entry.Entry.{Entry}
use Rattle.stateful_loop_model.specs.declared.error.StepError.{StepError}
use Rattle.stateful_loop_model.specs.declared.error.StepError.TheVariants as error
use Rattle.stateful_actor.specs.declared.driving.Halted.{Halted}
use Rattle.stateful_script_text.specs.declared.shown.Label.{Label}
use Rattle.stateful_script_text.specs.declared.shown.Shown.{Shown}
use Rattle.stateful_script_text.specs.Transcript.{Ending, WithLast, HaltedAt, transcript}
use Rattle.stateful_play_bank.specs.declared.playing.Databases.{Databases}
use Rattle.stateful_play_bank.specs.declared.playing.Databases.TheVariants as databases
use Rattle.stateful_play_bank.specs.declared.playing.History.{History}
use Rattle.stateful_play_bank.specs.declared.playing.History.TheVariants as history
use Rattle.stateful_play_bank.specs.declared.playing.Played.{Played}
use Rattle.stateful_play_bank.specs.Database.{whole_of, ShowsKeys, range_of, size_of}
use Rattle.stateful_bank_plain.specs.Blank.{member_of}
use Rattle.stateful_bank_logs.specs.Kept.{balances_member, amounts_member}
use Rattle.stateful_bank_triple.specs.Blank.{latest_member}

-- the entries of a play
abbrev pub entries_of : History → List (Entry BankBlock Round Ask)
entries_of (history.Plain entries) = entries.items
entries_of (history.Pair entries) = entries.items
entries_of (history.Triple entries) = entries.items

-- this is shown of the databases of a play, in their order
abbrev pub AreShown : Databases → List Shown → Type 0
AreShown (databases.Plain d) shown = shown ≡ whole_of (member_of d) ∷ []
AreShown (databases.Pair d) shown =
    (keys : Shown)
    × ShowsKeys (balances_member d.0) keys
    × (shown ≡ keys ∷ range_of (amounts_member d.1) ∷ [])
AreShown (databases.Triple d) shown =
    (keys : Shown)
    × ShowsKeys (balances_member d.0) keys
    × (shown
    ≡ keys ∷ range_of (amounts_member d.1.both.0) ∷ size_of (latest_member d.1.both.1) ∷ [])

-- no two lists are shown of the databases of a play
abbrev pub AreShownOnce : Type 0
AreShownOnce =
    (d : Databases) (shown others : List Shown)
    → AreShown d shown
    → AreShown d others
    → shown ≡ others

-- the name of an error
abbrev pub error_name : StepError → List ℕ
error_name (error.Database index) = codes "Database"
error_name (error.TargetMismatch index expected recovered) = codes "TargetMismatch"
error_name (error.SkippedHeight expected given) = codes "SkippedHeight"
error_name (error.NotExtending expected given) = codes "NotExtending"
error_name (error.ConflictAtAnchor expected given) = codes "ConflictAtAnchor"
error_name (error.FinalizedRejected digest) = codes "FinalizedRejected"
error_name (error.FinalizedMismatch index expected given) = codes "FinalizedMismatch"
error_name (error.ProposalMismatch fault) = codes "ProposalMismatch"
error_name (error.ProposalStale anchor round) = codes "ProposalStale"
error_name (error.PendingChanged before after) = codes "PendingChanged"
error_name error.Application = codes "Application"
error_name (error.MissingBlock height) = codes "MissingBlock"
error_name error.BadEvent = codes "BadEvent"
error_name error.Failed = codes "Failed"
error_name error.Exhausted = codes "Exhausted"
error_name (error.DatabaseFault index call) = codes "DatabaseFault"
error_name error.OutOfMemory = codes "OutOfMemory"

-- with the last event, or at the refused one
abbrev pub ending_by : Option Halted → Ending
ending_by None = WithLast
ending_by (Some halted) = HaltedAt halted.at (error_name halted.error)

-- the transcript of a play, by these names of its blocks, where this is shown of its databases
abbrev pub text_of : List Label → List Shown → Played → List ℕ
text_of labels shown p =
    transcript (λ b. b.height.0) labels (entries_of p.history) shown (ending_by p.«end»)
