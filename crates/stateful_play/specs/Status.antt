-- The statuses of a run, and what each says of the words, the bytes and the faults.
use Rattle.std.specs.Prelude.{ℕ, ◌≡◌, ◌<◌, ◌≤◌, ◌⊎◌, Bool, true, false, List, [], Option, Some, None}
use Rattle.std.specs.Prelude.{Ok, Err, length}
use Rattle.std.specs.Io.KnownBytes.{Appends}
use Rattle.stateful_actor.specs.declared.driving.Halted.{Halted}
use Rattle.stateful_script.specs.Script.{script_or_line}
use Rattle.stateful_script.specs.declared.script.Script.{Script}
use Rattle.stateful_script_text.specs.Transcript.{usage_line, script_line}
use Rattle.stateful_script_text.specs.declared.shown.Label.{Label}
use Rattle.stateful_script_text.specs.declared.shown.Shown.{Shown}
use Rattle.stateful_play_bank.specs.declared.playing.Played.{Played}
use Rattle.stateful_play_bank.specs.Shown.{AreShown, text_of}
use Rattle.stateful_play_bank.specs.Play.{IsPlayOf}
use Rattle.stateful_play_edge.specs.Reading.{limit, Known, IsLoaded, IsUnread}
use Rattle.stateful_play_edge.specs.Writing.{HoldsPrefix}
use Rattle.stateful_play_edge.specs.declared.status.Status.{Status}
use Rattle.stateful_play_edge.specs.declared.status.Status.TheVariants as status

-- All bytes were read, they are a script, this was played of it, and this is its transcript, with what
-- is shown of the databases.
pub record IsPlayed (left left_after : Known) (p : Played) (text : List ℕ) : Type 0 where
  pub script : Script
  pub loaded : IsLoaded left left_after script
  pub labels : List Label
  pub play : IsPlayOf script labels p
  pub shown : List Shown
  pub are_shown : AreShown p.databases shown
  pub text_is : text ≡ text_of labels shown p

-- the words and the bytes ask for this text, which stands for a play where something is played
abbrev pub AsksFor : Known → Known → Bool → Option Played → List ℕ → Type 0
AsksFor left left_after play None text =
    ((play ≡ false) × (text ≡ usage_line))
    ⊎ ((line : ℕ) × (play ≡ true) × IsUnread left left_after line × (text ≡ script_line line))
AsksFor left left_after play (Some p) text = (play ≡ true) × IsPlayed left left_after p text

-- the event of this number was refused
abbrev pub IsHaltedAt : Option Halted → ℕ → Type 0
IsHaltedAt None at = ⊥
IsHaltedAt (Some halted) at = halted.at ≡ at

-- nothing was written, or a prefix of a text that the words and the bytes ask for
abbrev pub HoldsPart : Known → Known → Bool → Known → Known → Type 0
HoldsPart left left_after play out out_after =
    Appends out out_after []
    ⊎ ((p : Option Played)
    × (text : List ℕ)
    × AsksFor left left_after play p text
    × HoldsPrefix out out_after text)

-- this status, or the sink failed or memory ran out
abbrev pub IsOrCut : Status → Status → Type 0
IsOrCut asked answer = (answer ≡ asked) ⊎ (answer ≡ status.WriteFault) ⊎ (answer ≡ status.NoMemory)

-- these bytes are a script
abbrev pub IsScript : List ℕ → Type 0
IsScript bytes = (length bytes ≤ limit) × ((script : Script) × (script_or_line bytes ≡ Ok script))

-- this is the first line of these bytes that no rule reads; or it is line 0, and there are too many
abbrev pub IsRefused : List ℕ → ℕ → Type 0
IsRefused bytes line =
    ((length bytes ≤ limit) × (script_or_line bytes ≡ Err line))
    ⊎ ((limit < length bytes) × (line ≡ 0))
