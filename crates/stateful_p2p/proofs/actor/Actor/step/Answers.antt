use Rattle.std.proofs.Common.{rules, sym, ◌∙◌}
use Rattle.std.proofs.lemmas.Bool.{false≢true}
use Rattle.stateful_p2p.proofs.Performing.{last_event, last_task, last_same, came}
use Rattle.stateful_p2p.proofs.actor.Actor.step.Goals as goal

pub returns-then-has_last_number-clause-used_up : goal.returns-then-has_last_number-clause-used_up
returns-then-has_last_number-clause-used_up g c = λ e. last_same _ _ _ _ c.in-Some.ensures.admits (sym c.has_last_number.ensures ∙ c.if-has_last_number.true)

pub returns-then-has_last_number-clause-exhausted : goal.returns-then-has_last_number-clause-exhausted
returns-then-has_last_number-clause-exhausted g c = (
  λ e.
      (c.if-self.false, came _ c.in-Some.ensures.none (λ none. let no : ⊥ = search rules in no), last_event _ _ _ _ c.in-Some.ensures.admits (sym c.has_last_number.ensures ∙ c.if-has_last_number.true)),
  λ cause. search rules,
)

pub returns-in-Ok-clause-exhausted : goal.returns-in-Ok-clause-exhausted
returns-in-Ok-clause-exhausted g c =
    (λ e. let no : ⊥ = cc in absurd no, λ cause. absurd (false≢true (sym c.if-has_last_number.false ∙ c.has_last_number.ensures ∙ last_task _ _ _ _ c.in-Some.ensures.admits cause.2)))

pub returns-in-Err-clause-exhausted : goal.returns-in-Err-clause-exhausted
returns-in-Err-clause-exhausted g c =
    (λ e. let no : ⊥ = cc in absurd no, λ cause. absurd (false≢true (sym c.if-has_last_number.false ∙ c.has_last_number.ensures ∙ last_task _ _ _ _ c.in-Some.ensures.admits cause.2)))
