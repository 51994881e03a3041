-- What marks of rules leave of a past: whether the machine is down or open, the opening, what was pruned, and with it what the store has.
use Rattle.std.proofs.Common.{◌≡◌, ◌∷◌, [], ℕ, false, List, All, Option, refl, ◌∙◌}
use Rattle.std.proofs.lemmas.List.Elements.{All-head, All-tail}
use Rattle.stateful_base.specs.Names.{Named}
use Rattle.stateful_history.specs.Canonical.{pruned_below}
use Rattle.stateful_history.specs.Opening.{is_down, opening, opens}
use Rattle.stateful_history.specs.Past.{Past, Made, after}
use Rattle.stateful_history.specs.declared.mark.Mark.{Mark}
use Rattle.stateful_history.specs.declared.mark.Mark.TheVariants.{Opened, Converged, Pruned, Stopped}
use Rattle.stateful_exec_laws.specs.Storing.{IsStoredNow}
use Rattle.stateful_loop_laws.specs.Open.{is_open}
use Rattle.stateful_loop_laws.specs.RuleMarks.{IsOfRule}

module _ {B C I : Type 0} where
  down_one : (p : Past B C I) (mark : Mark B) → IsOfRule mark → is_down (Made mark ∷ p) ≡ is_down p
  down_one p Stopped h = absurd h
  down_one p mark h = refl

  open_one : (p : Past B C I) (mark : Mark B) → IsOfRule mark → is_open (Made mark ∷ p) ≡ is_open p
  open_one p (Opened anchor) h = absurd h
  open_one p (Converged anchor) h = absurd h
  open_one p Stopped h = absurd h
  open_one p mark h = refl

  opening_one : (p : Past B C I) (mark : Mark B) → IsOfRule mark → opening (Made mark ∷ p) ≡ opening p
  opening_one p (Opened anchor) h = absurd h
  opening_one p (Converged anchor) h = absurd h
  opening_one p mark h = refl

  pruned_one : (p : Past B C I) (mark : Mark B) → IsOfRule mark → pruned_below (Made mark ∷ p) ≡ pruned_below p
  pruned_one p (Pruned marshal target) h = absurd h
  pruned_one p mark h = refl

  pub is_down-after : (p : Past B C I) (marks : List (Mark B)) → All IsOfRule marks → is_down (after p marks) ≡ is_down p
  is_down-after p [] each = refl
  is_down-after p (mark ∷ marks) each =
      is_down-after (Made mark ∷ p) marks (All-tail IsOfRule mark marks each) ∙ down_one p mark (All-head IsOfRule mark marks each)

  pub is_open-after : (p : Past B C I) (marks : List (Mark B)) → All IsOfRule marks → is_open (after p marks) ≡ is_open p
  is_open-after p [] each = refl
  is_open-after p (mark ∷ marks) each =
      is_open-after (Made mark ∷ p) marks (All-tail IsOfRule mark marks each) ∙ open_one p mark (All-head IsOfRule mark marks each)

  pub opening-after : (p : Past B C I) (marks : List (Mark B)) → All IsOfRule marks → opening (after p marks) ≡ opening p
  opening-after p [] each = refl
  opening-after p (mark ∷ marks) each =
      opening-after (Made mark ∷ p) marks (All-tail IsOfRule mark marks each) ∙ opening_one p mark (All-head IsOfRule mark marks each)

  pub pruned_below-after : (p : Past B C I) (marks : List (Mark B)) → All IsOfRule marks → pruned_below (after p marks) ≡ pruned_below p
  pruned_below-after p [] each = refl
  pruned_below-after p (mark ∷ marks) each =
      pruned_below-after (Made mark ∷ p) marks (All-tail IsOfRule mark marks each) ∙ pruned_one p mark (All-head IsOfRule mark marks each)

  -- the store is the same after marks of rules
  pub IsStoredNow-after : (stored : ℕ → Option (Named B)) (p : Past B C I) (stored_now : ℕ → Option (Named B)) → IsStoredNow stored p stored_now
      → (marks : List (Mark B)) → All IsOfRule marks → IsStoredNow stored (after p marks) stored_now
  IsStoredNow-after stored p stored_now is marks each h = rw (pruned_below-after p marks each) (is h)

opens_one : {B : Type 0} (mark : Mark B) (marks : List (Mark B)) → IsOfRule mark → opens (mark ∷ marks) ≡ opens marks
opens_one (Opened anchor) marks h = absurd h
opens_one (Converged anchor) marks h = absurd h
opens_one mark marks h = refl

pub opens-none : {B : Type 0} (marks : List (Mark B)) → All IsOfRule marks → opens marks ≡ false
opens-none [] each = refl
opens-none (mark ∷ marks) each = opens_one mark marks (All-head IsOfRule mark marks each) ∙ opens-none marks (All-tail IsOfRule mark marks each)
