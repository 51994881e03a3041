-- What is kept over many calls, and what the answers are by.
use Rattle.std.proofs.Common.{◌≡◌, ◌+◌, ◌-◌, ◌%◌, ◌≤◌, Option, List, [], ◌∷◌, ◌++◌, length, sym, ap, ◌∙◌, subst, arith, Some, None}
use Rattle.std.specs.Prelude.{All}
use Rattle.std.proofs.Math.Seq.{drop-nil}
use Rattle.stateful_pruning.specs.declared.pruning.Prune.{Prune}
use Rattle.stateful_pruning.specs.Rule.{Entry, Schedule, window, MayPruneTo, IsTarget, MayPrune, IsDue, IsPrune, IsAnswer}
use Rattle.stateful_pruning.specs.Pruning.{Recorded, with_entry}
use Rattle.stateful_pruning.specs.Calls.{Extends, none, further, AnswersByAll, KeepsWindow}
use Rattle.stateful_pruning.proofs.Windows.{window-window, window-push}

-- two lists of entries with the same marshal window and the same newest entry
record IsAlike {T : Type 0} (s : Schedule) (xs ys : List (Entry T)) : Type 0 where
  marshal : window s.marshal_window xs ≡ window s.marshal_window ys
  newest : window 1 xs ≡ window 1 ys

-- the rule says the same of them
module _ {T : Type 0} (s : Schedule) where
  alike_back : (xs ys : List (Entry T)) → IsAlike s xs ys → IsAlike s ys xs
  alike_back xs ys alike = record { marshal = sym alike.marshal; newest = sym alike.newest }

  may_prune_to_alike : (xs ys older : List (Entry T)) (entry : Entry T) (newer : List (Entry T)) → IsAlike s xs ys → MayPruneTo s xs older entry newer → MayPruneTo s ys older entry newer
  may_prune_to_alike xs ys older entry newer alike may = record {
    marshal = sym alike.marshal ∙ may.marshal;
    qmdb = may.qmdb;
    operations = subst (All (λ (newest : Entry T). entry.operations + s.retained_operations ≤ newest.operations)) alike.newest may.operations;
  }

  may_prune_alike : (xs ys : List (Entry T)) → IsAlike s xs ys → MayPrune s xs → MayPrune s ys
  may_prune_alike xs ys alike (older, entry, newer, may) = (older, entry, newer, may_prune_to_alike xs ys older entry newer alike may)

  target_alike : (xs ys : List (Entry T)) (entry : Entry T) → IsAlike s xs ys → IsTarget s xs entry → IsTarget s ys entry
  target_alike xs ys entry alike target = record {
    older = target.older;
    newer = target.newer;
    allowed = may_prune_to_alike xs ys target.older entry target.newer alike target.allowed;
    newest = λ before other behind may. target.newest before other behind (may_prune_to_alike ys xs before other behind (alike_back xs ys alike) may);
  }

  due_alike : (xs ys : List (Entry T)) → IsAlike s xs ys → IsDue s xs → IsDue s ys
  due_alike xs ys alike due = record {
    time = subst (All (λ (newest : Entry T). newest.height % s.interval ≡ s.offset)) alike.newest due.time;
    full = ap length (sym alike.marshal) ∙ due.full;
    target = may_prune_alike xs ys alike due.target;
  }

  prune_alike : (xs ys : List (Entry T)) (prune : Prune T) → IsAlike s xs ys → IsPrune s xs prune → IsPrune s ys prune
  prune_alike xs ys prune alike is = record {
    marshal = rw (sym alike.marshal) is.marshal;
    target = (is.target.0, target_alike xs ys _ alike is.target.1);
  }

  answer_alike : (xs ys : List (Entry T)) (answer : Option (Prune T)) → IsAlike s xs ys → IsAnswer s xs answer → IsAnswer s ys answer
  answer_alike xs ys None alike is = record {
    due = (λ some. due_alike xs ys alike (is.due.0 some), λ due. is.due.1 (due_alike ys xs (alike_back xs ys alike) due));
    prune = is.prune;
  }
  answer_alike xs ys (Some prune) alike is = record {
    due = (λ some. due_alike xs ys alike (is.due.0 some), λ due. is.due.1 (due_alike ys xs (alike_back xs ys alike) due));
    prune = prune_alike xs ys prune alike is.prune;
  }

  -- the last marshal window is kept,
  pub keeps_window : KeepsWindow {T = T} (record { schedule = s; kept = [] })
  keeps_window entries last none = ap (λ (kept : List (Entry T)). record { schedule = s; kept = kept }) (sym (drop-nil (0 - s.marshal_window)))
  keeps_window _ last (further {entries = entries} {old = old} {entry = entry} calls call) =
      let before = keeps_window entries old calls in
      call.recorded
      ∙ ap (λ (p : Recorded T). with_entry p entry) before
      ∙ ap (λ (kept : List (Entry T)). record { schedule = s; kept = kept }) (window-push s.marshal_window entries entry)

  -- what the rule says of the window it says of all
  of_all : (entries : List (Entry T)) (answer : Option (Prune T)) → 1 ≤ s.marshal_window → IsAnswer s (window s.marshal_window entries) answer → IsAnswer s entries answer
  of_all entries answer some is =
      answer_alike (window s.marshal_window entries) entries answer (record {
        marshal = window-window s.marshal_window s.marshal_window entries (omega arith);
        newest = window-window 1 s.marshal_window entries some;
      }) is

  -- so each answer is the rule's over all entries
  pub answers_by_all : 1 ≤ s.marshal_window → AnswersByAll {T = T} (record { schedule = s; kept = [] })
  answers_by_all some entries old new entry answer calls call =
      let kept = keeps_window (entries ++ entry ∷ []) new (further calls call) in
      of_all (entries ++ entry ∷ []) answer some (subst (λ (p : Recorded T). IsAnswer p.schedule p.kept answer) kept call.by_rule)

-- the same of one call
pub extends : {T : Type 0} (old new : Recorded T) (entry : Entry T) (answer : Option (Prune T)) → 1 ≤ new.schedule.marshal_window → new ≡ with_entry old entry → IsAnswer new.schedule new.kept answer → Extends old new entry answer
extends {T = T} old new entry answer some recorded by_rule entries were =
    let schedule : new.schedule ≡ old.schedule = ap (λ (p : Recorded T). p.schedule) recorded in
    let kept : new.kept ≡ window old.schedule.marshal_window (entries ++ entry ∷ []) =
    ap (λ (p : Recorded T). p.kept) recorded
    ∙ ap (λ (kept : List (Entry T)). window old.schedule.marshal_window (kept ++ entry ∷ [])) were
    ∙ window-push old.schedule.marshal_window entries entry in
    (kept, of_all old.schedule (entries ++ entry ∷ []) answer (rw schedule at some) (rw (schedule, kept) at by_rule))
