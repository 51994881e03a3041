-- The marks by which all live work ends are in their places, and what a past keeps is kept behind them.
use Rattle.std.proofs.Common.{◌≡◌, ◌≢◌, ◌∷◌, [], inl, ℕ, false, None, Some, Option, List, All, refl, ◌∙◌}
use Rattle.std.proofs.lemmas.List.Elements.{All-nil, All-cons}
use Rattle.stateful_base.specs.Names.{Named}
use Rattle.stateful_history.specs.Answers.{was_cancelled}
use Rattle.stateful_history.specs.Live.{live_ticket}
use Rattle.stateful_history.specs.Opening.{is_handing_over}
use Rattle.stateful_history.specs.Past.{Past, Made, EachMark, after}
use Rattle.stateful_history.specs.declared.mark.Mark.{Mark}
use Rattle.stateful_history.specs.declared.mark.Mark.TheVariants.{Withdrawn, Ended, Declined, Dropped, Stopped}
use Rattle.stateful_history.specs.declared.ticket.Ticket.{Ticket}
use Rattle.stateful_exec_model.specs.Workings.{Workings}
use Rattle.stateful_loop_laws.specs.Places.{CancelledIsGone, EndsNoRun, IsInPlace, PastKept}
use Rattle.stateful_loop_laws.proofs.places.Past.{IsAskless, past-kept-ends}
use Rattle.stateful_loop_laws.proofs.tickets.Uncancelled.{live-uncancelled, gone-mark}
use Rattle.stateful_actor_laws.proofs.work.Named.{NamesWork}

module _ {B C I : Type 0} where
  some_live : (p : Past B C I) → CancelledIsGone p → (t : ℕ) → live_ticket t p ≢ None → was_cancelled t p ≡ false
  some_live p gone t some = go (live_ticket t p) refl
    where
      go : (o : Option Ticket) → live_ticket t p ≡ o → was_cancelled t p ≡ false
      go None is = absurd (some is)
      go (Some x) is = live-uncancelled p gone t x is

  ends_none : (p : Past B C I) (m : Mark B) → NamesWork p m → EndsNoRun p m
  ends_none p (Ended j how) h = inl h.0
  ends_none p (Withdrawn f) h = tt
  ends_none p (Declined t) h = tt
  ends_none p (Dropped t) h = tt
  ends_none p m h = absurd h

  work_askless : (p : Past B C I) (m : Mark B) → NamesWork p m → IsAskless m
  work_askless p (Ended j how) h = tt
  work_askless p (Withdrawn f) h = tt
  work_askless p (Declined t) h = tt
  work_askless p (Dropped t) h = tt
  work_askless p m h = absurd h

  work_whole : (p : Past B C I) (m : Mark B) → NamesWork p m → is_handing_over (Made m ∷ p) ≡ is_handing_over p
  work_whole p (Ended j how) h = refl
  work_whole p (Withdrawn f) h = refl
  work_whole p (Declined t) h = refl
  work_whole p (Dropped t) h = refl
  work_whole p m h = absurd h

  end_no_run : (p : Past B C I) (marks : List (Mark B)) → EachMark NamesWork p marks → EachMark EndsNoRun p marks
  end_no_run p [] each = tt
  end_no_run p (m ∷ marks) each = (ends_none p m each.0, end_no_run (Made m ∷ p) marks each.1)

  ask_nothing : (p : Past B C I) (marks : List (Mark B)) → EachMark NamesWork p marks → All IsAskless marks
  ask_nothing p [] each = All-nil IsAskless
  ask_nothing p (m ∷ marks) each = All-cons IsAskless m marks (work_askless p m each.0) (ask_nothing (Made m ∷ p) marks each.1)

  still_whole : (p : Past B C I) (marks : List (Mark B)) → EachMark NamesWork p marks → is_handing_over (after p marks) ≡ is_handing_over p
  still_whole p [] each = refl
  still_whole p (m ∷ marks) each = still_whole (Made m ∷ p) marks each.1 ∙ work_whole p m each.0

module _ {B C I P R D H G U : Type 0} (w : Workings B C I P R D H G U) (stored : ℕ → Option (Named B)) where
  -- each is in its place
  one_in_place : (base : w.States) (p : Past B C I) → CancelledIsGone p → (m : Mark B) → NamesWork p m → IsInPlace w stored base p m
  one_in_place base p gone (Withdrawn f) h = (tt, tt, tt, tt, tt)
  one_in_place base p gone (Ended j how) h = (tt, tt, tt, tt, tt)
  one_in_place base p gone (Declined t) h = (h, tt, tt, tt, live-uncancelled p gone t _ h.1.live)
  one_in_place base p gone (Dropped t) h = (h, tt, tt, tt, some_live p gone t h)
  one_in_place base p gone m h = absurd h

  pub work-in_place : (base : w.States) (p : Past B C I) (marks : List (Mark B)) → CancelledIsGone p → EachMark NamesWork p marks
      → EachMark (IsInPlace w stored base) p marks
  work-in_place base p [] gone each = tt
  work-in_place base p (m ∷ marks) gone each =
      (one_in_place base p gone m each.0, work-in_place base (Made m ∷ p) marks (gone-mark p m gone) each.1)

  -- and what a past keeps is kept behind them, and after the mark of a stop
  pub past-work : (p : Past B C I) (marks : List (Mark B)) → EachMark NamesWork p marks → PastKept w stored p → PastKept w stored (after p marks)
  past-work p marks each h = past-kept-ends w stored p marks (end_no_run p marks each) (ask_nothing p marks each) (still_whole p marks each) h

  pub past-stopped : (p : Past B C I) → PastKept w stored p → PastKept w stored (Made Stopped ∷ p)
  past-stopped p h = past-kept-ends w stored p (Stopped ∷ []) (tt, tt) (All-cons IsAskless Stopped [] tt (All-nil IsAskless)) refl h
