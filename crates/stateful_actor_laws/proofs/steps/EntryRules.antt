-- What stands behind a step are the promises that each entry keeps, where the world is trusted and no prune comes due.
use Rattle.std.proofs.Common.{ℕ, [], ◌∷◌, Option, None, List, sym, subst}
use Rattle.stateful_base.specs.Names.{Named}
use Rattle.stateful_history.specs.Answers.{EndsLive, AnsweredIsBuilt, NamesNoCancelled}
use Rattle.stateful_history.specs.Barriers.{GoodIsInOrder, BarrierIsOver}
use Rattle.stateful_history.specs.Declines.{DeclinedHasReason}
use Rattle.stateful_history.specs.Durable.{GoodIsFlushed, AcknowledgedIsDurable}
use Rattle.stateful_history.specs.Fetches.{AskedIsNeeded, WithdrawnHasCause}
use Rattle.stateful_history.specs.Finalizations.{FinalizesInOrder, AcknowledgedIsApplied}
use Rattle.stateful_history.specs.Honest.{IsHonest, IsAnswered}
use Rattle.stateful_history.specs.Numbers.{NumberIsNew}
use Rattle.stateful_history.specs.Past.{Past, Came, Made, EachMark, after_entry, after_all}
use Rattle.stateful_history.specs.Promises.{KeepsRules, KeepsEnds, KeepsPromises}
use Rattle.stateful_history.specs.Prunes.{PruneRule, HasPending}
use Rattle.stateful_history.specs.Reasons.{FalseHasReason}
use Rattle.stateful_history.specs.Runs.{StartsWell, EndsAsItsKind, CancelledHasCause}
use Rattle.stateful_history.specs.Syncs.{SyncsInPlace}
use Rattle.stateful_history.specs.Telling.{telling_of}
use Rattle.stateful_history.specs.declared.entry.Entry.{Entry}
use Rattle.stateful_history.specs.declared.event.Event.{Event}
use Rattle.stateful_history.specs.declared.mark.Mark.{Mark}
use Rattle.stateful_exec_model.specs.Workings.{Workings}
use Rattle.stateful_exec_laws.specs.Setting.{setting}
use Rattle.stateful_loop_laws.specs.Duly.{IsDulySaid}
use Rattle.stateful_loop_laws.specs.Durability.{IsDurablySaid}
use Rattle.stateful_loop_laws.specs.Places.{IsInPlace}
use Rattle.stateful_loop_laws.specs.Reasons.{IsTrusted, HasItsReason}
use Rattle.stateful_loop_laws.proofs.events.Trusted.{IsTrusted-before_all}
use Rattle.stateful_loop_model.specs.Moments.{Moment}
use Rattle.stateful_actor_laws.specs.StepBehind.{StepBehind, EachStands}

-- a rule that another one gives
EachMark-weaker : {B C I : Type 0} (P Q : Past B C I → Mark B → Type 0) → ((q : Past B C I) (mark : Mark B) → P q mark → Q q mark)
    → (p : Past B C I) (marks : List (Mark B)) → EachMark P p marks → EachMark Q p marks
EachMark-weaker P Q gives p [] each = tt
EachMark-weaker P Q gives p (mark ∷ marks) each = (gives p mark each.0, EachMark-weaker P Q gives (Made mark ∷ p) marks each.1)

module _ {B C I P R D H G U : Type 0} (w : Workings B C I P R D H G U) (stored : ℕ → Option (Named B)) (base : w.States)
    (p : Past B C I) (event : Event B C I) (now : Moment w) (b : StepBehind w stored base p event now) (rule : Option (PruneRule w.Targets)) where
  abbrev q : Past B C I
  q = Came event ∷ p

  abbrev Rules : (Past B C I → Mark B → Type 0) → Type 0
  Rules Rule = EachMark Rule (Came event ∷ p) now.marks

  -- by the rules on barriers and acknowledgements, on places, and on jobs and finalizations
  said : (Rule : Past B C I → Mark B → Type 0) → ((x : Past B C I) (mark : Mark B) → IsDurablySaid w x mark → Rule x mark) → Rules Rule
  said Rule gives = EachMark-weaker (IsDurablySaid w) Rule gives q now.marks b.said

  placed : (Rule : Past B C I → Mark B → Type 0) → ((x : Past B C I) (mark : Mark B) → IsInPlace w stored b.base_behind x mark → Rule x mark)
      → Rules Rule
  placed Rule gives = EachMark-weaker (IsInPlace w stored b.base_behind) Rule gives q now.marks b.places

  duly : (Rule : Past B C I → Mark B → Type 0)
      → ((x : Past B C I) (mark : Mark B) → IsDulySaid w stored b.base_behind event now.marks x mark → Rule x mark) → Rules Rule
  duly Rule gives = EachMark-weaker (IsDulySaid w stored b.base_behind event now.marks) Rule gives q now.marks b.duly

  -- The entry keeps the rules, whatever is to be pruned.
  pub keeps-rules : (IsHonest (setting w stored) q → IsAnswered q → Rules (FalseHasReason (setting w stored) b.base_behind))
      → (IsHonest (setting w stored) q → IsAnswered q
      → Rules (DeclinedHasReason (setting w stored) (telling_of w.works) b.base_behind event now.marks))
      → KeepsRules (setting w stored) (telling_of w.works) w.kind.count rule b.base_behind (Came event ∷ p) event now.marks
  keeps-rules reasons declined = record {
    earned = b.earned;
    reasons = reasons;
    declined = declined;
    answered = duly (AnsweredIsBuilt (setting w stored) (telling_of w.works) b.base_behind) (λ x mark h. h.1);
    ends_live = placed (EndsLive (setting w stored)) (λ x mark h. h.0);
    no_cancelled = placed NamesNoCancelled (λ x mark h. h.4);
    numbers = placed NumberIsNew (λ x mark h. h.1);
    asked = placed (AskedIsNeeded (setting w stored) b.base_behind) (λ x mark h. h.2);
    withdrawn = duly (WithdrawnHasCause (setting w stored) rule event now.marks) (λ x mark h. h.4 rule);
    started = placed (StartsWell (setting w stored)) (λ x mark h. h.3);
    ended = duly (EndsAsItsKind event) (λ x mark h. h.2);
    cancelled = duly (CancelledHasCause (setting w stored) event now.marks) (λ x mark h. h.3);
    builds = b.builds;
    in_order = duly (FinalizesInOrder w.header) (λ x mark h. h.0);
    over = said (BarrierIsOver w.header) (λ x mark h. h.0);
    flushed = said (GoodIsFlushed w.header w.kind.count) (λ x mark h. h.1);
    good_in_order = said GoodIsInOrder (λ x mark h. h.2);
    durable = said AcknowledgedIsDurable (λ x mark h. h.3);
    applied = said (AcknowledgedIsApplied w.header) (λ x mark h. h.4);
    pruned = b.due rule;
    opened = b.opened;
    syncs = duly (SyncsInPlace w.header) (λ x mark h. h.5);
    clean_start = b.clean_start;
    clean_stop = b.clean_stop;
    stopped = b.ends_stopped;
  }

  -- where the world is trusted with it
  pub keeps-rules-trusted : IsTrusted w stored (after_entry p event now.marks)
      → KeepsRules (setting w stored) (telling_of w.works) w.kind.count rule b.base_behind (Came event ∷ p) event now.marks
  keeps-rules-trusted trust = keeps-rules (λ honest answered. reasoned (FalseHasReason (setting w stored) b.base_behind) (λ x mark h. h.0))
      (λ honest answered. reasoned (DeclinedHasReason (setting w stored) (telling_of w.works) b.base_behind event now.marks) (λ x mark h. h.1))
    where
      reasoned : (Rule : Past B C I → Mark B → Type 0)
          → ((x : Past B C I) (mark : Mark B) → HasItsReason w stored b.base_behind event now.marks x mark → Rule x mark) → Rules Rule
      reasoned Rule gives = EachMark-weaker (HasItsReason w stored b.base_behind event now.marks) Rule gives q now.marks (b.reasons trust)

  -- At its end all that is unanswered waits, and what runs is wanted, where no prune is pending.
  pub keeps-ends : (HasPending (setting w stored) rule (after_entry p event now.marks) → ⊥)
      → KeepsEnds (setting w stored) (telling_of w.works) w.kind.count rule b.base_behind (after_entry p event now.marks)
  keeps-ends never = record {
    waits = b.waits rule;
    runs_are_wanted = b.wanted;
    prunes_wait = λ pending. absurd (never pending);
  }

  -- So it keeps all promises.
  pub keeps-promises : IsTrusted w stored (after_entry p event now.marks) → (HasPending (setting w stored) rule (after_entry p event now.marks) → ⊥)
      → KeepsPromises (setting w stored) (telling_of w.works) w.kind.count rule b.base_behind p event now.marks
  keeps-promises trust never = record { rules = keeps-rules-trusted trust; ends = keeps-ends never }

module _ {B C I P R D H G U : Type 0} (w : Workings B C I P R D H G U) (stored : ℕ → Option (Named B)) (Last : w.States → Type 0) where
  -- each of these entries keeps them, over the states that the history is based on there, and without a rule on prunes
  abbrev pub EachKeepsPromises : (base : w.States) (p : Past B C I) (entries : List (Entry B C I)) → EachStands w stored Last base p entries → Type 0
  EachKeepsPromises base p [] stands = Unit {0}
  EachKeepsPromises base p (entry ∷ entries) (new, marks_are, b, rest) =
      KeepsPromises (setting w stored) (telling_of w.works) w.kind.count None b.base_behind p entry.event entry.marks
      × EachKeepsPromises b.base_behind (after_entry p entry.event entry.marks) entries rest

  -- So does each entry of a history with which the world is trusted.
  pub history-promises : (base : w.States) (p : Past B C I) (entries : List (Entry B C I)) (stands : EachStands w stored Last base p entries)
      → IsTrusted w stored (after_all p entries) → EachKeepsPromises base p entries stands
  history-promises base p [] stands trust = tt
  history-promises base p (entry ∷ entries) (new, marks_are, b, rest) trust = (
    subst (λ (ms : List (Mark B)). KeepsPromises (setting w stored) (telling_of w.works) w.kind.count None b.base_behind p entry.event ms) marks_are
        (keeps-promises w stored base p entry.event new b None
        (subst (λ (ms : List (Mark B)). IsTrusted w stored (after_entry p entry.event ms)) (sym marks_are)
        (IsTrusted-before_all w stored entries (after_entry p entry.event entry.marks) trust)) (λ never. never)),
    history-promises b.base_behind (after_entry p entry.event entry.marks) entries rest trust,
  )
