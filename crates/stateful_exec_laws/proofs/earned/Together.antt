-- The rule on true verdicts, from moment to moment, and over marks that are none.
use Rattle.std.proofs.Common.{◌≡◌, ◌++◌, ℕ, true, List, [], ◌∷◌, All, Option, sym, ap, ◌∙◌, subst}
use Rattle.std.proofs.lemmas.List.{append_assoc, append-nil, append_cancel_left}
use Rattle.std.proofs.lemmas.List.Elements.{All-head, All-tail}
use Rattle.stateful_base.specs.Names.{Named}
use Rattle.stateful_history.specs.Joined.{TrueIsEarned}
use Rattle.stateful_history.specs.Past.{Past, Made, after}
use Rattle.stateful_history.specs.declared.mark.Mark.{Mark}
use Rattle.stateful_history.specs.declared.mark.Mark.TheVariants.{Verdict}
use Rattle.stateful_history.proofs.Marks.{EachMark-append}
use Rattle.stateful_exec_model.specs.Moments.{Moment}
use Rattle.stateful_exec_model.specs.Workings.{Workings}
use Rattle.stateful_exec_laws.specs.Setting.{setting}
use Rattle.stateful_exec_laws.proofs.earned.Marks.{AreEarned, EarnsBehind}

-- the mark is no true verdict
abbrev pub IsNoneTrue : {B : Type 0} → Mark B → Type 0
IsNoneTrue (Verdict t true) = ⊥
IsNoneTrue mark = Unit {0}

module _ {B C I P R D H G U : Type 0} (w : Workings B C I P R D H G U) (stored : ℕ → Option (Named B)) (base : w.States) where
  none_true : (p : Past B C I) (mark : Mark B) → IsNoneTrue mark → TrueIsEarned (setting w stored) base p mark
  none_true p (Verdict t true) none = absurd none
  none_true p mark none = tt

  -- marks that are no true verdicts keep the rule
  pub AreEarned-none : (p : Past B C I) (marks : List (Mark B)) → All (λ m. IsNoneTrue m) marks → AreEarned w stored base p marks
  AreEarned-none p [] none = tt
  AreEarned-none p (mark ∷ marks) none = (none_true p mark (All-head (λ m. IsNoneTrue m) mark marks none), AreEarned-none (Made mark ∷ p) marks (All-tail (λ m. IsNoneTrue m) mark marks none))

  module _ (p : Past B C I) where
    -- where no mark is made
    pub EarnsBehind-same : (m now : Moment w) → now.marks ≡ m.marks → EarnsBehind w stored base p m now
    EarnsBehind-same m now is = record { more = []; marks_are = is ∙ sym (append-nil m.marks); each = tt }

    -- the marks that were made are those of the record
    pub AreEarned-behind : (m now : Moment w) (more : List (Mark B)) → now.marks ≡ m.marks ++ more → EarnsBehind w stored base p m now → AreEarned w stored base p more
    AreEarned-behind m now more is e = subst (λ (ms : List (Mark B)). AreEarned w stored base p ms) (append_cancel_left m.marks e.more more (sym e.marks_are ∙ is)) e.each

    -- from one moment over another one to a third
    pub EarnsBehind-then : (m mid now : Moment w) (more : List (Mark B)) → mid.marks ≡ m.marks ++ more → EarnsBehind w stored base p m mid → EarnsBehind w stored base (after p more) mid now → EarnsBehind w stored base p m now
    EarnsBehind-then m mid now more is e f = record {
      more = more ++ f.more;
      marks_are = f.marks_are ∙ ap (λ (ms : List (Mark B)). ms ++ f.more) is ∙ append_assoc m.marks more f.more;
      each = EachMark-append (TrueIsEarned (setting w stored) base) p more f.more (AreEarned-behind m mid more is e) f.each;
    }
