-- What was played of a script, from a new machine over blank databases on.
use Rattle.std.proofs.Common.{◌≡◌, ℕ, List, [], Option}
use Rattle.stateful_base.specs.Names.{Named}
use Rattle.stateful_base.specs.declared.round.Round.{Round}
use Rattle.stateful_bank.specs.declared.ask.Ask.{Ask}
use Rattle.stateful_bank.specs.declared.block.BankBlock.{BankBlock}
use Rattle.stateful_bank_app.specs.Fresh.{AreEmpty}
use Rattle.stateful_history.specs.declared.entry.Entry.{Entry}
use Rattle.stateful_actor_laws.specs.Machine.{IsNew}
use Rattle.stateful_actor_laws.specs.Media.{IsAsAtStart, MediaStand}
use Rattle.stateful_actor_step.specs.Reading.{Node}
use Rattle.stateful_actor.specs.declared.driving.Halted.{Halted}
use Rattle.stateful_script.specs.Laws.{IsPlan}
use Rattle.stateful_script.specs.declared.script.Script.{Script}
use Rattle.stateful_script_text.specs.declared.shown.Label.{Label}
use Rattle.stateful_script_plan.specs.declared.plan.Planned.{Planned}
use Rattle.stateful_script_plan.specs.Plan.{HaveOutline, labels_of}
use Rattle.stateful_script_plan.specs.Events.{BankEvent, events_of}
use Rattle.stateful_script_plan.specs.Store.{store_of}
use Rattle.stateful_play_world.specs.Driven.{CameOf}
use Rattle.stateful_play_world.specs.Grounds.{Grounds, bank, bank_counts}
use Rattle.stateful_play_world.specs.Play.{IsBeside, IsPlayOf}
use Rattle.stateful_play_world.proofs.Carried.{carried}
use Rattle.stateful_play_world.proofs.Starts.{empty_starts}

pub played : {Drafts Sealed Sets : Type 0} (g : Grounds Drafts Sealed Sets)
    (script : Script) (made : List Planned) (labels : List Label) (events : List BankEvent) (entries : List (Entry BankBlock Round Ask))
    (first last : Node (bank g)) («end» : Option Halted) (stored : ℕ → Option (Named BankBlock)) (databases : Sets)
    → HaveOutline g.rules g.kind.target_of g.kind.initial script.blocks made → IsPlan script
    → labels ≡ labels_of script.names made → ((h : ℕ) → stored h ≡ store_of made script.events h) → events ≡ events_of made script.events
    → g.rules.committed (g.rules.listed (g.kind.target_of g.kind.initial)) ≡ g.kind.target_of g.kind.initial
    → g.Blank databases → AreEmpty g.kind first.at.members → ((i : ℕ) → g.counted databases i ≡ 0) → IsBeside g databases first
    → IsNew (bank g) first.failed first.register first.at
    → (IsAsAtStart (bank g) stored first.at.members → MediaStand (bank g) stored [] first.failed first.at)
    → CameOf (bank g) stored tt bank_counts events first entries last «end»
    → IsPlayOf g script labels entries last «end»
played g script made labels events entries first last «end» stored databases planned plan labelled same are commits blank empty none beside new media came =
    carried g first entries last script made labels events «end» stored planned plan labelled same are
    (record {
      new = new;
      databases = databases;
      blank = blank;
      beside = beside;
      none_failed = none;
      starts = media (empty_starts g stored script.blocks made script.events planned same commits first.at.members empty);
    }) came
