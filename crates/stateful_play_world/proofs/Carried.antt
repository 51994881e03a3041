-- What the machine's play of the events says of the script.
use Rattle.std.proofs.Common.{◌≡◌, ℕ, List, Option, subst}
use Rattle.std.proofs.Math.Path.{fun_ext}
use Rattle.stateful_base.specs.Names.{Named}
use Rattle.stateful_base.specs.declared.round.Round.{Round}
use Rattle.stateful_bank.specs.declared.ask.Ask.{Ask}
use Rattle.stateful_bank.specs.declared.block.BankBlock.{BankBlock}
use Rattle.stateful_history.specs.declared.entry.Entry.{Entry}
use Rattle.stateful_actor_step.specs.Reading.{Node}
use Rattle.stateful_actor.specs.declared.driving.Halted.{Halted}
use Rattle.stateful_script.specs.Laws.{IsPlan}
use Rattle.stateful_script.specs.declared.script.Script.{Script}
use Rattle.stateful_script_text.specs.declared.shown.Label.{Label}
use Rattle.stateful_script_plan.specs.declared.plan.Planned.{Planned}
use Rattle.stateful_script_plan.specs.Plan.{HaveOutline, labels_of, blocks_of}
use Rattle.stateful_script_plan.specs.Events.{BankEvent, events_of}
use Rattle.stateful_script_plan.specs.Store.{store_of}
use Rattle.stateful_script_plan.proofs.Builds.{builds_are_named}
use Rattle.stateful_script_plan.proofs.Heights.{heights_stored}
use Rattle.stateful_play_world.specs.Driven.{CameOf}
use Rattle.stateful_play_world.specs.Grounds.{Grounds, bank, bank_counts}
use Rattle.stateful_play_world.specs.Play.{IsFirst, IsPlayOf}
use Rattle.stateful_play_world.proofs.Honest.{honest_play}

module _ {Drafts Sealed Sets : Type 0} (g : Grounds Drafts Sealed Sets) (first : Node (bank g)) (entries : List (Entry BankBlock Round Ask))
    (last : Node (bank g)) where
  -- what came of the events of a script is a play of it
  pub carried : (script : Script) (made : List Planned) (labels : List Label) (events : List BankEvent) («end» : Option Halted)
      (stored : ℕ → Option (Named BankBlock))
      → HaveOutline g.rules g.kind.target_of g.kind.initial script.blocks made → IsPlan script
      → labels ≡ labels_of script.names made → ((h : ℕ) → stored h ≡ store_of made script.events h) → events ≡ events_of made script.events
      → IsFirst g stored first → CameOf (bank g) stored tt bank_counts events first entries last «end»
      → IsPlayOf g script labels entries last «end»
  carried script made labels events «end» stored planned plan labelled same are begins came =
      let outline = planned.outline in
      let store_is = fun_ext (rw planned.made_are at same) in
      let first_is = subst (λ (s : ℕ → Option (Named BankBlock)). IsFirst g s first) store_is begins in
      let came_of = subst (λ (s : ℕ → Option (Named BankBlock)). CameOf (bank g) s tt bank_counts (events_of (blocks_of outline) script.events) first entries
      last «end») store_is (rw (are, planned.made_are) at came) in
      record {
        outline = outline;
        planned = planned.planned;
        builds = builds_are_named g.rules g.kind.target_of g.kind.initial script.blocks outline script.events planned.planned plan.builds;
        labelled = rw planned.made_are at labelled;
        honest = honest_play g (store_of (blocks_of outline) script.events) script.blocks outline script.events «end» first last entries planned.planned
            came_of;
        driven = record { first = first; begins = first_is; heights = heights_stored (blocks_of outline) script.events; came = came_of };
      }
