-- Names that are true after marks are true before them, and whichever way the marks are told.
use Rattle.std.proofs.Common.{◌≡◌, ◌++◌, ℕ, List, Option, sym, ◌∙◌, subst}
use Rattle.std.proofs.lemmas.List.{append_cancel_left}
use Rattle.stateful_base.specs.Names.{Named}
use Rattle.stateful_history.specs.Met.{TrueNames}
use Rattle.stateful_history.specs.Past.{Past, after}
use Rattle.stateful_history.specs.declared.mark.Mark.{Mark}
use Rattle.stateful_history.proofs.Marks.{after-append, TrueNames-before_marks}
use Rattle.stateful_exec_model.specs.Workings.{Workings}
use Rattle.stateful_exec_laws.specs.Setting.{setting}
use Rattle.stateful_loop_model.specs.Moments.{Moment}
use Rattle.stateful_loop_laws.specs.Execution.{NamesBehind}

module _ {B C I P R D H G U : Type 0} (w : Workings B C I P R D H G U) (stored : ℕ → Option (Named B)) (base : w.States) (p : Past B C I)
    (m now : Moment w) (more : List (Mark B)) (is : now.marks ≡ m.marks ++ more) where
  -- where names are true with the marks that were made
  pub NamesBehind-marks : TrueNames (setting w stored) (after p more) → NamesBehind w stored base p m now
  NamesBehind-marks names others others_are =
      subst (λ (marks : List (Mark B)). TrueNames (setting w stored) (after p marks))
      (append_cancel_left m.marks more others (sym is ∙ others_are)) names

  -- where names are true with these and with later ones
  pub NamesBehind-later : (rest : List (Mark B)) → TrueNames (setting w stored) (after p (more ++ rest)) → NamesBehind w stored base p m now
  NamesBehind-later rest names =
      NamesBehind-marks (TrueNames-before_marks (setting w stored) (after p more) rest (rw (sym (after-append p more rest)) names))

  -- they were true before
  pub NamesBehind-before : NamesBehind w stored base p m now → TrueNames (setting w stored) p
  NamesBehind-before names = TrueNames-before_marks (setting w stored) p more (names more is)
