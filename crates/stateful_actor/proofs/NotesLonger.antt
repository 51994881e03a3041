-- The notes follow a history an entry longer.
use Rattle.std.proofs.Common.{◌≡◌, ◌++◌, ◌∷◌, [], List, sym, ap, ◌∙◌, append-nil, append_assoc}
use Rattle.stateful_base.specs.Names.{Named}
use Rattle.stateful_history.specs.Finalizations.{applied_in}
use Rattle.stateful_history.specs.declared.entry.Entry.{Entry}
use Rattle.stateful_history.specs.declared.event.Event.{Event}
use Rattle.stateful_history.specs.declared.mark.Mark.{Mark}
use Rattle.stateful_loop_model.specs.Noted.{noted_all}
use Rattle.stateful_loop_model.proofs.NotesFollowing.{noted_all-append}
use Rattle.stateful_actor_step.specs.Notes.{applied_along}

module _ {B C I : Type 0} where
  -- the blocks that were applied over a history and one entry more
  applied_along-push : (history : List (Entry B C I)) (entry : Entry B C I)
      → applied_along (history ++ entry ∷ []) ≡ applied_along history ++ applied_in entry.marks
  applied_along-push [] entry = append-nil (applied_in entry.marks)
  applied_along-push (x ∷ history) entry =
      ap (λ (l : List (Named B)). applied_in x.marks ++ l) (applied_along-push history entry)
      ∙ sym (append_assoc (applied_in x.marks) (applied_along history) (applied_in entry.marks))

  pub notes-longer : {N : Type 0} (noted : N → B → N) (start was now : N) (history longer : List (Entry B C I)) (event : Event B C I)
      (marks : List (Mark B)) → longer ≡ history ++ record { event = event; marks = marks } ∷ []
      → was ≡ noted_all noted start (applied_along history) → now ≡ noted_all noted was (applied_in marks)
      → now ≡ noted_all noted start (applied_along longer)
  notes-longer noted start was now history longer event marks adds before step =
      step ∙ ap (λ n. noted_all noted n (applied_in marks)) before
      ∙ sym (noted_all-append noted start (applied_along history) (applied_in marks))
      ∙ ap (λ (l : List (Named B)). noted_all noted start l)
      (sym (ap (λ (l : List (Entry B C I)). applied_along l) adds ∙ applied_along-push history (record { event = event; marks = marks })))
