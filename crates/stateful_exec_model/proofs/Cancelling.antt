-- Requests that are given up.
use Rattle.std.proofs.Common.{◌≡◌, ◌≢◌, ◌++◌, ℕ, List, Option, Some, None, sym, ap, ◌∙◌}
use Rattle.stateful_history.specs.declared.mark.Mark.{Mark}
use Rattle.stateful_exec_model.specs.Built.{GivesUp, asking}
use Rattle.stateful_exec_model.specs.declared.building.Building.{Building}
use Rattle.stateful_exec_tables.specs.declared.state.Tables.{Tables}
use Rattle.stateful_exec_tables.proofs.Releasing.{some-injective}
use Rattle.stateful_exec_tables.proofs.Cancelling.{HasCancelled}

-- the live build isn't for the request, which is given up
module _ {B C I R U D : Type 0} (old new : Tables B C I R U) (t : ℕ) (before after : List (Mark B)) (build now : Option (Building B C D)) where
  abbrev pub HasGivenUp : Type 0
  HasGivenUp = (more : List (Mark B)) × GivesUp old new build now t more × (after ≡ before ++ more)

  pub no_build : build ≡ None → now ≡ build → HasCancelled old new t before after → HasGivenUp
  no_build none same h = (h.0, asking (λ b is. let no : Some b ≡ None = sym is.live ∙ none in cc) h.1 same, h.2)

  pub other_build : (b : Building B C D) → Some b ≡ build → b.ticket ≢ t → now ≡ build → HasCancelled old new t before after → HasGivenUp
  other_build b there differs same h =
      (h.0, asking (λ c is. differs (ap (λ (x : Building B C D). x.ticket) (some-injective (there ∙ is.live)) ∙ is.ticket)) h.1 same, h.2)
