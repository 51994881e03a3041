-- What becomes of one ticket, over calls.
use Rattle.std.proofs.Common.{◌≡◌, ℕ, ◌==◌, Bool, true, false, cond, Option, Some, None, Result, List, [], ◌∷◌, ◌++◌, fold, refl, sym, ap, ◌∙◌}
use Rattle.std.specs.Prelude.{slice_get, is_some}
use Rattle.std.specs.List.{filter_map}
use Rattle.std.proofs.lemmas.Option.{none-some}
use Rattle.stateful_history.specs.declared.mark.Mark.{Mark}
use Rattle.stateful_actor_mailbox.specs.Replies.{note_of, outcome, gone}
use Rattle.stateful_actor_mailbox.specs.Tickets.{ticket_of, end_of, ended_by}
use Rattle.stateful_actor_mailbox.specs.Laws.{end_by_note, end_by}
use Rattle.stateful_actor_mailbox.specs.declared.note.Note.{Note}
use Rattle.stateful_actor_mailbox.specs.declared.note.Note.TheVariants.{Ends, Stops}
use Rattle.stateful_actor_mailbox.specs.declared.reply.Kind.{Kind}
use Rattle.stateful_actor_mailbox.specs.declared.reply.Reply.{Reply}
use Rattle.stateful_actor_mailbox.specs.declared.reply.Stopped.{Stopped}
use Rattle.stateful_actor_mailbox.specs.declared.tickets.Ticket.{Ticket}
use Rattle.stateful_actor_mailbox.specs.declared.tickets.Standing.{Standing}
use Rattle.stateful_actor_mailbox.specs.declared.tickets.Standing.TheVariants.{Queued, Handed, Due, Cancelled, Ended}
use Rattle.stateful_actor_mailbox.proofs.Books.{or_same}
use Rattle.stateful_actor_mailbox.proofs.Seeing.{stopped_standing}
use Rattle.stateful_actor_mailbox.proofs.Stepping.{noted_as}

-- the first of two, if there is one
abbrev pub or_else : {X : Type 0} → Option X → Option X → Option X
or_else None other = other
or_else (Some x) other = Some x

pub or_none : {X : Type 0} (o : Option X) → or_else o None ≡ o
or_none None = refl
or_none (Some x) = refl

pub or_assoc : {X : Type 0} (a b c : Option X) → or_else (or_else a b) c ≡ or_else a (or_else b c)
or_assoc None b c = refl
or_assoc (Some x) b c = refl

pub first_append : {X : Type 0} (xs ys : List X) → slice_get (xs ++ ys) 0 ≡ or_else (slice_get xs 0) (slice_get ys 0)
first_append [] ys = refl
first_append (x ∷ xs) ys = refl

module _ {B : Type 0} (t : ℕ) (kind : Kind) where
  -- how the first of these marks that ends the ticket does so
  abbrev pub end_told : List (Mark B) → Option (Result (Reply B) Stopped)
  end_told marks = slice_get (filter_map (end_by t kind) marks) 0

  -- a standing that has ended so
  abbrev pub EndsAs : Option (Ticket B) → Option (Result (Reply B) Stopped) → Type 0
  EndsAs s o = (standing : Standing B) × (s ≡ Some (ticket_of kind standing)) × (end_of standing ≡ o)

  abbrev noted_or : Option (Ticket B) → Option (Note B) → Option (Ticket B)
  noted_or s None = s
  noted_or s (Some note) = noted_as t s note

  one_noted : (standing : Standing B) (n : Option (Note B)) → EndsAs (noted_or (Some (ticket_of kind standing)) n) (or_else (end_of standing) (end_by_note t kind n))
  one_noted standing None = (standing, refl, sym (or_none (end_of standing)))
  one_noted standing (Some Stops) = (stopped_standing kind standing, refl, stops standing)
    where
      stops : (standing : Standing B) → end_of (stopped_standing kind standing) ≡ or_else (end_of standing) (Some (gone kind))
      stops Queued = refl
      stops Handed = refl
      stops Due = refl
      stops Cancelled = refl
      stops (Ended outcome) = refl
  one_noted standing (Some (Ends u answer)) = go (u == t) (end_of standing) refl (outcome kind answer)
    where
      go : (b : Bool) (o : Option (Result (Reply B) Stopped)) → end_of standing ≡ o → (e : Option (Result (Reply B) Stopped))
          → EndsAs (cond b (or_same (cond (is_some o) None (ended_by kind e)) (Some (ticket_of kind standing))) (Some (ticket_of kind standing))) (or_else o (cond b e None))
      go false o is e = (standing, refl, is ∙ sym (or_none o))
      go true (Some before) is e = (standing, refl, is)
      go true None is None = (standing, refl, is)
      go true None is (Some after) = (Ended after, refl, refl)

  pub marks_end : (marks : List (Mark B)) (standing : Standing B) → EndsAs (fold (noted_as t) (Some (ticket_of kind standing)) (filter_map note_of marks)) (or_else (end_of standing) (end_told marks))
  marks_end [] standing = (standing, refl, sym (or_none (end_of standing)))
  marks_end (mark ∷ marks) standing = go (note_of mark) refl (one_noted standing (note_of mark))
      (λ later. marks_end marks later)
    where
      first_is : (n : Option (Note B)) → note_of mark ≡ n → end_told (mark ∷ marks) ≡ or_else (end_by_note t kind n) (end_told marks)
      first_is n is = go (end_by_note t kind (note_of mark)) refl ∙ ap (λ w. or_else (end_by_note t kind w) (end_told marks)) is
        where
          go : (o : Option (Result (Reply B) Stopped)) → end_by t kind mark ≡ o → end_told (mark ∷ marks) ≡ or_else (end_by t kind mark) (end_told marks)
          go None is = rw is refl
          go (Some x) is = rw is refl

      go : (n : Option (Note B)) → note_of mark ≡ n → EndsAs (noted_or (Some (ticket_of kind standing)) n) (or_else (end_of standing) (end_by_note t kind n))
          → ((later : Standing B) → EndsAs (fold (noted_as t) (Some (ticket_of kind later)) (filter_map note_of marks)) (or_else (end_of later) (end_told marks)))
          → EndsAs (fold (noted_as t) (Some (ticket_of kind standing)) (filter_map note_of (mark ∷ marks))) (or_else (end_of standing) (end_told (mark ∷ marks)))
      go n is one rest =
          let more = rest one.0 in (
            more.0,
            folded n is ∙ ap (λ s. fold (noted_as t) s (filter_map note_of marks)) one.1 ∙ more.1,
            more.2 ∙ ap (λ o. or_else o (end_told marks)) one.2 ∙ or_assoc (end_of standing) (end_by_note t kind n) (end_told marks) ∙ sym (ap (or_else (end_of standing)) (first_is n is)),
          )
        where
          folded : (n : Option (Note B)) → note_of mark ≡ n → fold (noted_as t) (Some (ticket_of kind standing)) (filter_map note_of (mark ∷ marks)) ≡ fold (noted_as t) (noted_or (Some (ticket_of kind standing)) n) (filter_map note_of marks)
          folded None is = rw is refl
          folded (Some note) is = rw is refl

  -- marks of which none ends the ticket leave it
  quiet_note : (standing : Standing B) (n : Option (Note B)) → end_by_note t kind n ≡ None → noted_or (Some (ticket_of kind standing)) n ≡ Some (ticket_of kind standing)
  quiet_note standing None quiet = refl
  quiet_note standing (Some Stops) quiet = absurd (let e = sym quiet in cc)
  quiet_note standing (Some (Ends u answer)) quiet = go (u == t) (outcome kind answer) quiet
    where
      go : (b : Bool) (e : Option (Result (Reply B) Stopped)) → cond b e None ≡ None
          → cond b (or_same (cond (is_some (end_of standing)) None (ended_by kind e)) (Some (ticket_of kind standing))) (Some (ticket_of kind standing)) ≡ Some (ticket_of kind standing)
      go false e none = refl
      go true None none = left (is_some (end_of standing))
        where
          left : (c : Bool) → or_same (cond c None (ended_by kind None)) (Some (ticket_of kind standing)) ≡ Some (ticket_of kind standing)
          left true = refl
          left false = refl
      go true (Some after) none = absurd (none-some after (sym none))

  pub quiet_marks : (marks : List (Mark B)) (standing : Standing B) → end_told marks ≡ None → fold (noted_as t) (Some (ticket_of kind standing)) (filter_map note_of marks) ≡ Some (ticket_of kind standing)
  quiet_marks [] standing quiet = refl
  quiet_marks (mark ∷ marks) standing quiet = go (note_of mark) refl (λ rest. quiet_marks marks standing rest)
    where
      quieter : (o : Option (Result (Reply B) Stopped)) → end_by t kind mark ≡ o → (o ≡ None) × (end_told marks ≡ None)
      quieter None is = (refl, sym (skips is) ∙ quiet)
        where
          skips : end_by t kind mark ≡ None → end_told (mark ∷ marks) ≡ end_told marks
          skips is = rw is refl
      quieter (Some x) is = absurd (none-some x (sym (quiet) ∙ takes_it is))
        where
          takes_it : end_by t kind mark ≡ Some x → end_told (mark ∷ marks) ≡ Some x
          takes_it is = rw is refl

      go : (n : Option (Note B)) → note_of mark ≡ n → (end_told marks ≡ None → fold (noted_as t) (Some (ticket_of kind standing)) (filter_map note_of marks) ≡ Some (ticket_of kind standing))
          → fold (noted_as t) (Some (ticket_of kind standing)) (filter_map note_of (mark ∷ marks)) ≡ Some (ticket_of kind standing)
      go n is rest =
          let none = quieter (end_by t kind mark) refl in
          folded n is ∙ ap (λ s. fold (noted_as t) s (filter_map note_of marks)) (quiet_note standing n (sym (ap (end_by_note t kind) is) ∙ none.0)) ∙ rest none.1
        where
          folded : (n : Option (Note B)) → note_of mark ≡ n → fold (noted_as t) (Some (ticket_of kind standing)) (filter_map note_of (mark ∷ marks)) ≡ fold (noted_as t) (noted_or (Some (ticket_of kind standing)) n) (filter_map note_of marks)
          folded None is = rw is refl
          folded (Some note) is = rw is refl
