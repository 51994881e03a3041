-- What was played of a script, in its world.
use Rattle.std.specs.Prelude.{◌≡◌, List, Option, unwrap_or}
use Rattle.stateful_actor.specs.declared.driving.Halted.{Halted}
use Rattle.stateful_script.specs.declared.script.Script.{Script}
use Rattle.stateful_script.specs.declared.script.World.TheVariants as world
use Rattle.stateful_script_text.specs.declared.shown.Label.{Label}
use Rattle.stateful_play_world.specs.Play.{IsPlayOn}
use Rattle.stateful_play_bank.specs.Plain.{plain}
use Rattle.stateful_play_bank.specs.Pair.{pair}
use Rattle.stateful_play_bank.specs.Triple.{triple}
use Rattle.stateful_play_bank.specs.declared.playing.Databases.{Databases}
use Rattle.stateful_play_bank.specs.declared.playing.Databases.TheVariants as databases
use Rattle.stateful_play_bank.specs.declared.playing.History.{History}
use Rattle.stateful_play_bank.specs.declared.playing.History.TheVariants as history
use Rattle.stateful_play_bank.specs.declared.playing.Played.{Played}

-- this was played of the script, over the databases of one world
abbrev pub IsPlayIn : Script → List Label → Option Halted → History → Databases → Type 0
IsPlayIn script labels «end» (history.Plain entries) (databases.Plain d) =
    IsPlayOn d plain script labels entries.items «end»
IsPlayIn script labels «end» (history.Pair entries) (databases.Pair d) =
    IsPlayOn d pair script labels entries.items «end»
IsPlayIn script labels «end» (history.Triple entries) (databases.Triple d) =
    IsPlayOn d triple script labels entries.items «end»
IsPlayIn script labels «end» _ _ = ⊥

-- this was played of the script in the world that it names, which is that of one database where it
-- names none
pub record IsPlayOf (script : Script) (labels : List Label) (p : Played) : Type 0 where
  pub world : p.world ≡ unwrap_or script.world world.Plain
  pub play : IsPlayIn script labels p.«end» p.history p.databases
