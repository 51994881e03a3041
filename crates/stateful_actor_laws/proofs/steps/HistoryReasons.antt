-- Where the world is trusted with a whole history, false verdicts and declined proposals of each entry have their reasons.
use Rattle.std.proofs.Common.{◌≡◌, ◌∷◌, [], ℕ, List, Option, sym, subst}
use Rattle.stateful_base.specs.Names.{Named}
use Rattle.stateful_history.specs.Past.{Past, Came, EachMark, after_entry, after_all}
use Rattle.stateful_history.specs.declared.entry.Entry.{Entry}
use Rattle.stateful_history.specs.declared.mark.Mark.{Mark}
use Rattle.stateful_exec_model.specs.Workings.{Workings}
use Rattle.stateful_loop_laws.specs.Reasons.{IsTrusted, HasItsReason}
use Rattle.stateful_loop_laws.proofs.events.Trusted.{IsTrusted-before_all}
use Rattle.stateful_actor_laws.specs.StepBehind.{EachStands}

module _ {B C I P R D H G U : Type 0} (w : Workings B C I P R D H G U) (stored : ℕ → Option (Named B)) (Last : w.States → Type 0) where
  -- false verdicts and declined proposals of each of these entries have their reasons, over the states that the history is based on there
  abbrev pub EachHasReasons : (base : w.States) (p : Past B C I) (entries : List (Entry B C I)) → EachStands w stored Last base p entries → Type 0
  EachHasReasons base p [] stands = Unit {0}
  EachHasReasons base p (entry ∷ entries) (new, marks_are, b, rest) =
      EachMark (HasItsReason w stored b.base_behind entry.event entry.marks) (Came entry.event ∷ p) entry.marks
      × EachHasReasons b.base_behind (after_entry p entry.event entry.marks) entries rest

  pub history-reasons : (base : w.States) (p : Past B C I) (entries : List (Entry B C I)) (stands : EachStands w stored Last base p entries)
      → IsTrusted w stored (after_all p entries) → EachHasReasons base p entries stands
  history-reasons base p [] stands trust = tt
  history-reasons base p (entry ∷ entries) (new, marks_are, b, rest) trust = (
    subst (λ (ms : List (Mark B)). EachMark (HasItsReason w stored b.base_behind entry.event ms) (Came entry.event ∷ p) ms) marks_are
        (b.reasons (subst (λ (ms : List (Mark B)). IsTrusted w stored (after_entry p entry.event ms)) (sym marks_are)
        (IsTrusted-before_all w stored entries (after_entry p entry.event entry.marks) trust))),
    history-reasons b.base_behind (after_entry p entry.event entry.marks) entries rest trust,
  )
