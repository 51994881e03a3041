-- What holds over many events, by what holds of each.
use Rattle.std.proofs.Common.{Option, List, [], ◌∷◌, All, sym, subst}
use Rattle.std.proofs.lemmas.List.Elements.{All-nil, All-cons}
use Rattle.stateful_base.specs.declared.finalization.Finalization.{Finalization}
use Rattle.stateful_probe.specs.Setup.{Setup}
use Rattle.stateful_probe.specs.Probe.{Steps}
use Rattle.stateful_probe.specs.Laws.{Turn, Runs}
use Rattle.stateful_probe.specs.declared.state.State.{State}
use Rattle.stateful_probe.specs.declared.event.Event.{Event}
use Rattle.stateful_probe.specs.declared.event.Out.{Out}

module _ {S K C : Type 0} (u : Setup S K C) where
  -- what each event keeps is kept
  pub kept : (I : State K C → Type 0)
      → ((latest : Option (Finalization C)) (s : State K C) (e : Event K) (outs : List (Out K C)) (next : State K C) → Steps u latest s e outs next → I s → I next)
      → (turns : List (Turn K C)) (s last : State K C) → Runs u s turns last → I s → I last
  kept I step [] s last runs here = subst I (sym runs) here
  kept I step (turn ∷ turns) s last runs here = kept I step turns runs.2 last runs.4 (step turn.latest s turn.event turn.outs runs.2 runs.3 here)

  -- what holds of each event holds of all
  pub each : (P : Turn K C → Type 0)
      → ((turn : Turn K C) (next : State K C) → Steps u turn.latest turn.before turn.event turn.outs next → P turn)
      → (turns : List (Turn K C)) (s last : State K C) → Runs u s turns last → All P turns
  each P step [] s last runs = All-nil P
  each P step (turn ∷ turns) s last runs =
      let here : Steps u turn.latest turn.before turn.event turn.outs runs.2 = subst (λ w. Steps u turn.latest w turn.event turn.outs runs.2) (sym runs.0) runs.3 in
      All-cons P turn turns (step turn runs.2 here) (each P step turns runs.2 last runs.4)
