-- What is trusted of the world for a longer past is trusted for a shorter one.
use Rattle.std.proofs.Common.{◌≡◌, ◌++◌, inr, ℕ, List, [], ◌∷◌, Option, ◌∙◌, ap, subst, append_assoc}
use Rattle.stateful_base.specs.Names.{Named}
use Rattle.stateful_history.specs.Past.{Past, Item, Came, Made, after, after_all}
use Rattle.stateful_history.specs.declared.entry.Entry.{Entry}
use Rattle.stateful_history.specs.declared.event.Event.TheVariants.{Finalized}
use Rattle.stateful_history.specs.declared.mark.Mark.{Mark}
use Rattle.stateful_history.proofs.Marks.{after-append}
use Rattle.stateful_exec_model.specs.Workings.{Workings}
use Rattle.stateful_exec_laws.specs.Setting.{setting}
use Rattle.stateful_exec_laws.proofs.linked.On.{honest_one, answered_one}
use Rattle.stateful_loop_model.specs.Moments.{Moment}
use Rattle.stateful_loop_laws.specs.Reasons.{IsTrusted}
use Rattle.stateful_loop_laws.proofs.reasons.RoundsLater.{has_more}

module _ {B C I P R D H G U : Type 0} (w : Workings B C I P R D H G U) (stored : ℕ → Option (Named B)) where
  -- without the last item
  pub IsTrusted-before : (x : Item B C I) (p : Past B C I) → IsTrusted w stored (x ∷ p) → IsTrusted w stored p
  IsTrusted-before x p h = record {
    rise = λ t parent b came met on. h.rise t parent b (has_more x (Came (Finalized t b)) p came) (inr met) on;
    honest = honest_one p (setting w stored) x h.honest;
    answered = answered_one p x h.answered;
  }

  -- without the last marks
  pub IsTrusted-before_marks : (marks : List (Mark B)) (p : Past B C I) → IsTrusted w stored (after p marks) → IsTrusted w stored p
  IsTrusted-before_marks [] p h = h
  IsTrusted-before_marks (mark ∷ marks) p h = IsTrusted-before (Made mark) p (IsTrusted-before_marks marks (Made mark ∷ p) h)

  -- without the last entries
  pub IsTrusted-before_all : (entries : List (Entry B C I)) (p : Past B C I) → IsTrusted w stored (after_all p entries) → IsTrusted w stored p
  IsTrusted-before_all [] p h = h
  IsTrusted-before_all (entry ∷ entries) p h =
      IsTrusted-before (Came entry.event) p (IsTrusted-before_marks entry.marks (Came entry.event ∷ p)
      (IsTrusted-before_all entries (after (Came entry.event ∷ p) entry.marks) h))

  module _ (p : Past B C I) where
    -- so it is of the marks that were made from one moment to a later one
    abbrev pub TrustedBehind : (m now : Moment w) → Type 0
    TrustedBehind m now = (more : List (Mark B)) → now.marks ≡ m.marks ++ more → IsTrusted w stored (after p more)

    -- where some of them were made first
    pub TrustedBehind-before : (m mid now : Moment w) (one two : List (Mark B)) → mid.marks ≡ m.marks ++ one → now.marks ≡ mid.marks ++ two
        → TrustedBehind m now → TrustedBehind m mid
    TrustedBehind-before m mid now one two first second h more is =
        let both : now.marks ≡ m.marks ++ (more ++ two) =
        second ∙ ap (λ (ms : List (Mark B)). ms ++ two) is ∙ append_assoc m.marks more two in
        IsTrusted-before_marks two (after p more) (subst (λ (q : Past B C I). IsTrusted w stored q) (after-append p more two) (h (more ++ two) both))

    -- and of those that were made then
    pub TrustedBehind-then : (m mid now : Moment w) (one : List (Mark B)) → mid.marks ≡ m.marks ++ one → TrustedBehind m now
        → (two : List (Mark B)) → now.marks ≡ mid.marks ++ two → IsTrusted w stored (after (after p one) two)
    TrustedBehind-then m mid now one first h two second =
        subst (λ (q : Past B C I). IsTrusted w stored q) (after-append p one two)
        (h (one ++ two) (second ∙ ap (λ (ms : List (Mark B)). ms ++ two) first ∙ append_assoc m.marks one two))
