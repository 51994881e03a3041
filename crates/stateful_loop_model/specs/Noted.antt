-- What becomes of the notes of an application: it is told of each block that was applied.
use Rattle.std.specs.Prelude.{◌≡◌, ◌++◌, ◌∷◌, ◌⊎◌, [], Option, Some, None, List, fold}
use Rattle.stateful_base.specs.Names.{Named}
use Rattle.stateful_history.specs.Finalizations.{applied_in}
use Rattle.stateful_history.specs.declared.mark.Mark.{Mark}
use Rattle.stateful_loop_model.specs.declared.tables.Finalizing.{Finalizing}

-- the notes after these blocks, one after another
abbrev pub noted_all : {N B : Type 0} → (N → B → N) → N → List (Named B) → N
noted_all noted notes blocks = fold (λ n b. noted n b.block) notes blocks

-- the block that was applied and that the application hasn't observed yet, where there is one
abbrev pub unobserved : {B G : Type 0} → Option (Finalizing B G) → List (Named B)
unobserved None = []
unobserved (Some f) = elim f.captured [ None ↦ [] | Some captured ↦ f.block ∷ [] ]

module _ {N B : Type 0} (noted : N → B → N) where
  -- From one moment to a later one the application was told of some blocks, one after another: of
  -- the one that it hadn't observed yet, and then of those of the Applied marks that were made, but
  -- for the one that it hasn't observed at the later moment.
  pub record NotesFollow {G : Type 0} (before now : N) (was is : Option (Finalizing B G))
      (old new : List (Mark B)) : Type 0 where
    pub added : List (Mark B)
    pub marks_are : new ≡ old ++ added
    pub told : List (Named B)
    pub told_are : told ++ unobserved is ≡ unobserved was ++ applied_in added
    pub notes_are : now ≡ noted_all noted before told

  -- a rule that was refused told the application of nothing, or of the block that it hadn't
  -- observed yet
  abbrev pub NotesMayFollow : {G : Type 0} → (before now : N) → Option (Finalizing B G) → Type 0
  NotesMayFollow before now front =
      (now ≡ before) ⊎ (now ≡ noted_all noted before (unobserved front))
