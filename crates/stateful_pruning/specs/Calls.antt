-- What is kept and answered over many calls.
use Rattle.std.specs.Prelude.{◌≡◌, Option, List, [], ◌∷◌, ◌++◌}
use Rattle.stateful_pruning.specs.declared.pruning.Prune.{Prune}
use Rattle.stateful_pruning.specs.Rule.{Entry, window, IsAnswer}
use Rattle.stateful_pruning.specs.Pruning.{Recorded, with_entry}

module _ {T : Type 0} where
  -- a call of `observe` that recorded this entry, and its answer
  pub record Observes (old new : Recorded T) (entry : Entry T)
      (answer : Option (Prune T)) : Type 0 where
    pub recorded : new ≡ with_entry old entry
    pub by_rule : IsAnswer new.schedule new.kept answer

  -- Where the last marshal window of some entries was kept, that of these and one more is kept now,
  -- and the answer is the rule's over all of them.
  abbrev pub Extends : Recorded T → Recorded T → Entry T → Option (Prune T) → Type 0
  Extends old new entry answer =
      (entries : List (Entry T))
      → old.kept ≡ window old.schedule.marshal_window entries
      → (new.kept ≡ window old.schedule.marshal_window (entries ++ entry ∷ []))
      × IsAnswer old.schedule (entries ++ entry ∷ []) answer

  -- calls of `observe`, one after another, and the entries that they recorded; a refused call
  -- changes nothing
  pub data Calls (start : Recorded T) : List (Entry T) → Recorded T → Type 0 where
    none : Calls start [] start
    further : {entries : List (Entry T)} {old new : Recorded T} {entry : Entry T}
        {answer : Option (Prune T)}
        → Calls start entries old
        → Observes old new entry answer
        → Calls start (entries ++ entry ∷ []) new

  -- whatever calls came before, the last marshal window of all entries that were recorded is kept
  abbrev pub KeepsWindow : Recorded T → Type 0
  KeepsWindow start =
      (entries : List (Entry T)) (last : Recorded T)
      → Calls start entries last
      → last ≡ record start { kept = window start.schedule.marshal_window entries }

  -- whatever calls came before, a call answers by the rule over all entries that were recorded, its
  -- own among them
  abbrev pub AnswersByAll : Recorded T → Type 0
  AnswersByAll start =
      (entries : List (Entry T)) (old new : Recorded T) (entry : Entry T)
      (answer : Option (Prune T))
      → Calls start entries old
      → Observes old new entry answer
      → IsAnswer start.schedule (entries ++ entry ∷ []) answer
