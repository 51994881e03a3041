-- Marks that are neither false verdicts nor declines have nothing to account for.
use Rattle.std.proofs.Common.{◌≡◌, ◌++◌, ℕ, true, false, List, [], ◌∷◌, All, Option, sym, ap, ◌∙◌, append-nil}
use Rattle.std.proofs.lemmas.List.Elements.{All-head, All-tail, All-nil, All-cons}
use Rattle.stateful_base.specs.Names.{Named}
use Rattle.stateful_history.specs.Declines.{DeclinedHasReason}
use Rattle.stateful_history.specs.Past.{Past, EachMark, Made}
use Rattle.stateful_history.specs.Reasons.{FalseHasReason}
use Rattle.stateful_history.specs.Telling.{telling_of}
use Rattle.stateful_history.specs.declared.event.Event.{Event}
use Rattle.stateful_history.specs.declared.mark.Mark.{Mark}
use Rattle.stateful_history.specs.declared.mark.Mark.TheVariants.{Verdict, Declined}
use Rattle.stateful_exec_model.specs.Moments as exec
use Rattle.stateful_exec_model.specs.Workings.{Workings}
use Rattle.stateful_exec_laws.specs.Setting.{setting}
use Rattle.stateful_exec_laws.proofs.requests.KeptMarks.{KeepsBehind}
use Rattle.stateful_loop_model.specs.Moments.{Moment}
use Rattle.stateful_loop_laws.specs.Reasons.{RefusesNone, HasItsReason, ReasonsBehind}

-- one mark, and two
pub one_plain : {B : Type 0} (mark : Mark B) → RefusesNone mark → All (λ x. RefusesNone x) (mark ∷ [])
one_plain mark h = All-cons (λ x. RefusesNone x) mark [] h (All-nil (λ x. RefusesNone x))

pub two_plain : {B : Type 0} (first second : Mark B) → RefusesNone first → RefusesNone second → All (λ x. RefusesNone x) (first ∷ second ∷ [])
two_plain first second h k = All-cons (λ x. RefusesNone x) first (second ∷ []) h (one_plain second k)

module _ {B C I P R D H G U : Type 0} (w : Workings B C I P R D H G U) (stored : ℕ → Option (Named B)) (base : w.States)
    (event : Event B C I) (marks : List (Mark B)) where
  plain-mark : (p : Past B C I) (mark : Mark B) → RefusesNone mark → HasItsReason w stored base event marks p mark
  plain-mark p (Verdict t true) h = (tt, tt)
  plain-mark p (Verdict t false) h = absurd h
  plain-mark p (Declined t) h = absurd h
  plain-mark p mark h = (tt, tt)

  -- each of such marks keeps the rule
  pub plain-each : (p : Past B C I) (ms : List (Mark B)) → All (λ x. RefusesNone x) ms
      → EachMark (HasItsReason w stored base event marks) p ms
  plain-each p [] h = tt
  plain-each p (mark ∷ ms) h =
      (plain-mark p mark (All-head (λ x. RefusesNone x) mark ms h), plain-each (Made mark ∷ p) ms (All-tail (λ x. RefusesNone x) mark ms h))

  module _ (p : Past B C I) (m now : Moment w) where
    -- such marks were made, or none
    pub reasons_plain : (more : List (Mark B)) → now.marks ≡ m.marks ++ more → All (λ x. RefusesNone x) more
        → ReasonsBehind w stored base event marks p m now
    reasons_plain more is plain = record { more = more; marks_are = is; each = plain-each p more plain }

    pub reasons_none : now.marks ≡ m.marks → ReasonsBehind w stored base event marks p m now
    reasons_none is = record { more = []; marks_are = is ∙ sym (append-nil m.marks); each = tt }

    -- they are those that execution made
    pub reasons_by : (mid last : exec.Moment w) → mid.marks ≡ m.marks → now.marks ≡ last.marks
        → KeepsBehind w (HasItsReason w stored base event marks) p mid last → ReasonsBehind w stored base event marks p m now
    reasons_by mid last was is k = record {
      more = k.more;
      marks_are = is ∙ k.marks_are ∙ ap (λ (ms : List (Mark B)). ms ++ k.more) was;
      each = k.each;
    }

    -- they are those that were made since another moment of the same marks
    pub reasons_since : (mid : Moment w) → mid.marks ≡ m.marks → ReasonsBehind w stored base event marks p mid now
        → ReasonsBehind w stored base event marks p m now
    reasons_since mid same b = record {
      more = b.more;
      marks_are = b.marks_are ∙ ap (λ (ms : List (Mark B)). ms ++ b.more) same;
      each = b.each;
    }

module _ {B C I P R D H G U : Type 0} (w : Workings B C I P R D H G U) (stored : ℕ → Option (Named B)) (base : w.States)
    (event : Event B C I) (marks : List (Mark B)) where
  -- so false verdicts have their reasons
  pub reasons_false : (p : Past B C I) (ms : List (Mark B)) → EachMark (HasItsReason w stored base event marks) p ms
      → EachMark (FalseHasReason (setting w stored) base) p ms
  reasons_false p [] h = tt
  reasons_false p (mark ∷ ms) h = (h.0.0, reasons_false (Made mark ∷ p) ms h.1)

  -- and so have declines
  pub reasons_declined : (p : Past B C I) (ms : List (Mark B)) → EachMark (HasItsReason w stored base event marks) p ms
      → EachMark (DeclinedHasReason (setting w stored) (telling_of w.works) base event marks) p ms
  reasons_declined p [] h = tt
  reasons_declined p (mark ∷ ms) h = (h.0.1, reasons_declined (Made mark ∷ p) ms h.1)
