-- Names stay true with marks that bring blocks of the history alone, as the rules of a finalization make them.
use Rattle.std.proofs.Common.{◌≡◌, ◌++◌, inl, inr, ℕ, [], ◌∷◌, List, All, Bool, Option, sym, ap, ◌∙◌, subst}
use Rattle.std.proofs.lemmas.List.{append_cancel_left, append-nil}
use Rattle.std.proofs.lemmas.List.Elements.{All-nil, All-cons, All-head, All-tail, All-map}
use Rattle.stateful_base.specs.Names.{Named}
use Rattle.stateful_db.specs.declared.application.Hooked.{Hooked}
use Rattle.stateful_db.specs.declared.application.Hooked.TheVariants as hooked
use Rattle.stateful_history.specs.Met.{Brings, Met, TrueNames}
use Rattle.stateful_history.specs.Past.{Past, Made, after}
use Rattle.stateful_history.specs.Setting.{Setting}
use Rattle.stateful_history.specs.declared.mark.Mark.{Mark}
use Rattle.stateful_history.specs.declared.mark.Mark.TheVariants.{Withdrawn, Began}
use Rattle.stateful_exec_model.specs.Finalizing.{HooksOn}
use Rattle.stateful_exec_model.specs.Workings.{Workings}
use Rattle.stateful_exec_model.specs.declared.front.Front.{Front}
use Rattle.stateful_exec_tables.specs.declared.state.Tables.{Tables}
use Rattle.stateful_exec_laws.specs.Setting.{setting}
use Rattle.stateful_loop_model.specs.Moments.{Moment}
use Rattle.stateful_loop_model.specs.Rules.{BeginsFinalization, RunsFinalized, ObservesBlock}
use Rattle.stateful_loop_model.specs.declared.tables.Finalizing.{Finalizing}
use Rattle.stateful_loop_laws.specs.Execution.{NamesBehind}

module _ {B C I S T : Type 0} (s : Setting B S T) where
  -- the mark brings no block but those of the history
  abbrev pub BringsMet : Past B C I → Mark B → Type 0
  BringsMet p mark = (b : Named B) → Brings {C = C} {I = I} (Made mark) b → Met s p b

  -- names are true with such marks
  pub names-after : (p : Past B C I) (marks : List (Mark B)) → All (BringsMet p) marks → TrueNames s p → TrueNames s (after p marks)
  names-after p [] each names = names
  names-after p (mark ∷ marks) each names =
      names-after (Made mark ∷ p) marks later (λ x y has_x has_y. names x y (before x has_x) (before y has_y))
    where
      before : (b : Named B) → Met s (Made mark ∷ p) b → Met s p b
      before b (inl new) = All-head (BringsMet p) mark marks each b new
      before b (inr old) = old

      later : All (BringsMet (Made mark ∷ p)) marks
      later k d l b brought = inr (All-tail (BringsMet p) mark marks each k d l b brought)

module _ {B C I P R D H G U : Type 0} (w : Workings B C I P R D H G U) (stored : ℕ → Option (Named B)) (base : w.States) (p : Past B C I)
    (names : TrueNames (setting w stored) p) (m now : Moment w) where
  abbrev IsMet : Mark B → Type 0
  IsMet mark = BringsMet (setting w stored) p mark

  none_met : All IsMet []
  none_met = All-nil IsMet

  behind : (marks : List (Mark B)) → now.marks ≡ m.marks ++ marks → All IsMet marks → NamesBehind w stored base p m now
  behind marks made each more is =
      subst (λ (xs : List (Mark B)). TrueNames (setting w stored) (after p xs)) (append_cancel_left m.marks marks more (sym made ∙ is))
      (names-after (setting w stored) p marks each names)

  -- a run of the finalized block begins
  pub names-runs : (b : Named B) → RunsFinalized w b m now → NamesBehind w stored base p m now
  names-runs b r = behind _ (ap (λ n. n.marks) r.becomes) (All-cons IsMet _ [] (λ c no. absurd no) none_met)

  left_behind : (b : Named B) (hook : Hooked H) (old new : Tables B C I R U) (later : List (Mark B)) (front : Option (Front B R U H)) (live : Bool)
      → HooksOn w b hook old new m.marks later front live → now.marks ≡ later → NamesBehind w stored base p m now
  left_behind b hooked.Done old new later front live k is = behind [] (is ∙ k.1 ∙ sym (append-nil m.marks)) none_met
  left_behind b (hooked.Pending hook) old new later front live k is = behind _ (is ∙ k.2) (All-cons IsMet _ [] (λ c no. absurd no) none_met)

  -- a block is observed
  pub names-observes : (f : Finalizing B G) (captured : G) → ObservesBlock w f captured m now → NamesBehind w stored base p m now
  names-observes f captured r =
      left_behind f.block r.observes.hook m.execution.state r.state r.marks r.front r.live r.observes.hooks_on (ap (λ n. n.marks) r.becomes)

  -- the finalization of a block of the history begins
  pub names-begins : (t : ℕ) (b : Named B) → Met (setting w stored) p b → BeginsFinalization w t b m now → NamesBehind w stored base p m now
  names-begins t b met r =
      let withdrawn : All IsMet r.withdrawn = subst (λ (ms : List (Mark B)). All IsMet ms) (sym r.pauses.marks_are)
      (All-map IsMet (λ f. Withdrawn f) r.pauses.fetches (λ k d l c no. absurd no)) in
      behind (Began t b ∷ r.withdrawn) (ap (λ n. n.marks) r.becomes)
      (All-cons IsMet (Began t b) r.withdrawn (λ c is. subst (λ (x : Named B). Met (setting w stored) p x) (sym is) met) withdrawn)
