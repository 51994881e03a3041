-- Two fetches of one ticket for one block.
use Rattle.std.proofs.Common.{◌≡◌, ℕ, Some, None, ◌∷◌, MatchOption, refl, inl}
use Rattle.stateful_base.specs.Names.{Named}
use Rattle.stateful_base.specs.declared.digest.Digest.{Digest}
use Rattle.stateful_history.specs.Setting.{Setting, parent_of}
use Rattle.stateful_history.specs.Past.{Past, Came, Made}
use Rattle.stateful_history.specs.Ancestors.{IsCircular}
use Rattle.stateful_history.specs.Reasons.{Missing}
use Rattle.stateful_history.specs.Requests.{IsLiveRequest, subject}
use Rattle.stateful_history.specs.Fetches.{AskedIsNeeded, WasAsked}
use Rattle.stateful_history.specs.declared.event.Event.TheVariants.{Fetched}
use Rattle.stateful_history.specs.declared.mark.Mark.TheVariants.{Asked, Withdrawn, Applied}

module _ {B C I S T : Type 0} (s : Setting B S T) (base : S) (q : Past B C I) (t f g : ℕ) (d : Digest) where
  abbrev asked : Past B C I
  asked = Made (Asked f (Some t) d) ∷ q

  -- an answer of the fetch, or its withdrawal, doesn't permit a second one
  abbrev answered : Past B C I
  answered = Came (Fetched f None) ∷ asked

  abbrev withdrawn : Past B C I
  withdrawn = Made (Withdrawn f) ∷ asked

  answered_refused : (IsCircular s answered d → ⊥) → AskedIsNeeded s base answered (Asked g (Some t) d) → ⊥
  answered_refused straight needed = straight (needed.2 (inl (refl, refl)))

  withdrawn_refused : (IsCircular s withdrawn d → ⊥) → AskedIsNeeded s base withdrawn (Asked g (Some t) d) → ⊥
  withdrawn_refused straight needed = straight (needed.2 (inl (refl, refl)))

  -- behind an apply the block may be asked for again, where it is still needed
  module _ (b : Named B) where
    abbrev applied : Past B C I
    applied = Made (Applied b) ∷ withdrawn

    applied_permits : WasAsked t d applied → ⊥
    applied_permits was = was

    applied_admitted : IsLiveRequest t applied
        → MatchOption (subject t applied) ⊥ (λ c. (x : Named B) × Missing s base applied c x × (d ≡ parent_of s x))
        → AskedIsNeeded s base applied (Asked g (Some t) d)
    applied_admitted live needed = (live, needed, λ was. absurd was)
