-- Two requests wait for one run, and one of them is cancelled.
use Rattle.std.proofs.Common.{◌≡◌, ◌≢◌, ◌==◌, ℕ, Bool, true, false, Option, Some, None, List, ◌∷◌, refl, inl, inr}
use Rattle.std.proofs.lemmas.Bool.{eqb-true, eqb-false, eq-eqb}
use Rattle.stateful_base.specs.Names.{Named}
use Rattle.stateful_history.specs.Setting.{Setting}
use Rattle.stateful_history.specs.Past.{Past, Came}
use Rattle.stateful_history.specs.Live.{live_ticket}
use Rattle.stateful_history.specs.Prunes.{PruneRule}
use Rattle.stateful_history.specs.Shared.{WaitsForRun, SharedRunGoesOn}
use Rattle.stateful_history.specs.Stops.{IsStopped}
use Rattle.stateful_history.specs.declared.event.Event.{Event}
use Rattle.stateful_history.specs.declared.event.Event.TheVariants.{Cancel}
use Rattle.stateful_history.specs.declared.mark.How.TheVariants.{Cancelled}
use Rattle.stateful_history.specs.declared.mark.Mark.{Mark}
use Rattle.stateful_history.specs.declared.mark.Mark.TheVariants.{Ended}
use Rattle.stateful_history.specs.declared.ticket.Ticket.TheVariants.{Request}

module _ {B C I S T : Type 0} (s : Setting B S T) (rule : Option (PruneRule T)) (q : Past B C I) (t j : ℕ) (marks : List (Mark B)) where
  abbrev cancel : Event B C I
  cancel = Cancel t

  abbrev cancelled : Past B C I
  cancelled = Came cancel ∷ q

  -- the run isn't cancelled while the other one waits for it
  goes_on : (u : ℕ) → WaitsForRun s rule cancelled u j → (IsStopped cancel marks → ⊥) → SharedRunGoesOn s rule cancel marks cancelled (Ended j Cancelled) → ⊥
  goes_on u waits goes (inl nobody) = nobody u waits
  goes_on u waits goes (inr stopped) = goes stopped

  -- the cancelled one doesn't wait any more
  gone : WaitsForRun s rule cancelled t j → ⊥
  gone waits = let same : (t == t) ≡ true = eq-eqb t t refl in let live : None ≡ Some Request = rw same at waits.request in cc

  -- and so it is cancelled where no other one waits
  ends : ((u : ℕ) → u ≢ t → WaitsForRun s rule cancelled u j → ⊥) → SharedRunGoesOn s rule cancel marks cancelled (Ended j Cancelled)
  ends alone = inl (λ u. go u (u == t) refl)
    where
      go : (u : ℕ) (v : Bool) → (u == t) ≡ v → WaitsForRun s rule cancelled u j → ⊥
      go u true same waits = gone (rw (eqb-true u t same) at waits)
      go u false other waits = alone u (eqb-false u t other) waits
