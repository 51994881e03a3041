-- What was played of a script over the databases of a world.
use Rattle.std.specs.Prelude.{◌≡◌, ℕ, All, List, [], Option}
use Rattle.stateful_base.specs.Names.{Named}
use Rattle.stateful_base.specs.declared.round.Round.{Round}
use Rattle.stateful_bank.specs.BankBlock.{block_header}
use Rattle.stateful_bank.specs.declared.ask.Ask.{Ask}
use Rattle.stateful_bank.specs.declared.block.BankBlock.{BankBlock}
use Rattle.stateful_history.specs.Past.{after_all}
use Rattle.stateful_history.specs.Honest.{IsHonest, StoresHeights}
use Rattle.stateful_history.specs.declared.entry.Entry.{Entry}
use Rattle.stateful_exec_laws.specs.Setting.{setting}
use Rattle.stateful_actor_laws.specs.Machine.{IsNew}
use Rattle.stateful_actor_laws.specs.Media.{MediaStand}
use Rattle.stateful_actor_step.specs.Faults.{tally}
use Rattle.stateful_actor_step.specs.Reading.{Node}
use Rattle.stateful_actor.specs.declared.driving.Halted.{Halted}
use Rattle.stateful_script.specs.declared.script.Script.{Script}
use Rattle.stateful_script_text.specs.declared.shown.Label.{Label}
use Rattle.stateful_script_plan.specs.Plan.{Outlined, ArePlanned, blocks_of, labels_of}
use Rattle.stateful_script_plan.specs.Events.{BankEvent, events_of}
use Rattle.stateful_script_plan.specs.Builds.{NamesItsBuild}
use Rattle.stateful_script_plan.specs.Store.{store_of}
use Rattle.stateful_play_world.specs.Driven.{CameOf}
use Rattle.stateful_play_world.specs.Grounds.{Grounds, bank, bank_counts}

module _ {Drafts Sealed Sets : Type 0} (g : Grounds Drafts Sealed Sets) where
  -- the machine and the databases as a play hands them out
  pub record IsBeside (d : Sets) (n : Node (bank g)) : Type 0 where
    pub members_are : n.at.members ≡ g.members d
    pub next_is : n.at.next ≡ g.next d
    pub faults_are : n.faults ≡ tally 0 (g.counted d)

  -- Where a play begins: the machine has taken nothing in, and the databases are closed on empty
  -- media, on which no call was made and none is to fail. None has failed, and the media stand for
  -- the start.
  pub record IsFirst (stored : ℕ → Option (Named BankBlock)) (first : Node (bank g)) : Type 0 where
    pub new : IsNew (bank g) first.failed first.register first.at
    pub databases : Sets
    pub blank : g.Blank databases
    pub beside : IsBeside databases first
    pub none_failed : (i : ℕ) → g.counted databases i ≡ 0
    pub starts : MediaStand (bank g) stored [] first.failed first.at

  -- From a first machine on, this came of these events beside a store whose blocks are of their
  -- heights.
  pub record IsDriven (stored : ℕ → Option (Named BankBlock)) (events : List BankEvent)
      (entries : List (Entry BankBlock Round Ask)) (last : Node (bank g)) («end» : Option Halted)
      : Type 0 where
    pub first : Node (bank g)
    pub begins : IsFirst stored first
    pub heights : StoresHeights block_header stored
    pub came : CameOf (bank g) stored tt bank_counts events first entries last «end»

  -- This was played of the script, whose blocks go by these labels: a line that asks for a build
  -- names the block that the build gives, in each ancestry each block is the parent of the one
  -- before it, and what came of the script's events is told.
  pub record IsPlayOf (script : Script) (labels : List Label)
      (entries : List (Entry BankBlock Round Ask)) (last : Node (bank g)) («end» : Option Halted)
      : Type 0 where
    pub outline : List (Outlined g.States)
    pub planned : ArePlanned g.rules g.kind.target_of g.kind.initial script.blocks outline
    pub builds : All (NamesItsBuild g.rules g.kind.target_of g.kind.initial outline) script.events
    pub labelled : labels ≡ labels_of script.names (blocks_of outline)
    pub honest : IsHonest (setting (bank g) (store_of (blocks_of outline) script.events))
        (after_all [] entries)
    pub driven : IsDriven (store_of (blocks_of outline) script.events)
        (events_of (blocks_of outline) script.events) entries last «end»

-- This was played of the script on these grounds, and left these databases, beside a machine that
-- nothing hands out.
pub record IsPlayOn {Drafts Sealed Sets : Type 0} (d : Sets) (g : Grounds Drafts Sealed Sets)
    (script : Script) (labels : List Label) (entries : List (Entry BankBlock Round Ask))
    («end» : Option Halted) : Type 0 where
  pub last : Node (bank g)
  pub beside : IsBeside g d last
  pub play : IsPlayOf g script labels entries last «end»
