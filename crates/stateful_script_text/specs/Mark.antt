-- The line of a mark.
use Rattle.std.specs.Prelude.{ℕ, List, [], ◌∷◌, Option, Some, None, Bool, true, false, codes}
use Rattle.std.specs.Fmt.{decimal}
use Rattle.stateful_history.specs.declared.mark.JobKind.{JobKind}
use Rattle.stateful_history.specs.declared.mark.JobKind.TheVariants.{Candidate, Finalized, Build}
use Rattle.stateful_history.specs.declared.mark.JobKind.TheVariants.{Hook}
use Rattle.stateful_history.specs.declared.mark.How.{How}
use Rattle.stateful_history.specs.declared.mark.How.TheVariants.{Kept, Rejected, Mismatched, Missed}
use Rattle.stateful_history.specs.declared.mark.How.TheVariants.{Cancelled, Nothing, Hooked}
use Rattle.stateful_history.specs.declared.mark.Decision.{Decision}
use Rattle.stateful_history.specs.declared.mark.Decision.TheVariants.{Block, Vote, Stage}
use Rattle.stateful_history.specs.declared.mark.Mark.{Mark}
use Rattle.stateful_history.specs.declared.mark.Mark.TheVariants.{Opened, Converged, Asked}
use Rattle.stateful_history.specs.declared.mark.Mark.TheVariants.{Withdrawn, Started, Ended, Built}
use Rattle.stateful_history.specs.declared.mark.Mark.TheVariants.{Verdict, Answered, Declined}
use Rattle.stateful_history.specs.declared.mark.Mark.TheVariants.{Databases, Began, Applied}
use Rattle.stateful_history.specs.declared.mark.Mark.TheVariants.{BarrierBegun, BarrierDone}
use Rattle.stateful_history.specs.declared.mark.Mark.TheVariants.{Acknowledged, Dropped, Recorded}
use Rattle.stateful_history.specs.declared.mark.Mark.TheVariants.{Dispatched, Pruned, Completed}
use Rattle.stateful_history.specs.declared.mark.Mark.TheVariants.{Stopped}
use Rattle.stateful_script_text.specs.declared.shown.Label.{Label}
use Rattle.stateful_script_text.specs.Line.{line, name_of}

abbrev pub kind_word : JobKind → List ℕ
kind_word Candidate = codes "candidate"
kind_word Finalized = codes "finalized"
kind_word Build = codes "build"
kind_word Hook = codes "hook"

abbrev pub how_word : How → List ℕ
how_word Kept = codes "kept"
how_word Rejected = codes "rejected"
how_word Mismatched = codes "mismatched"
how_word Missed = codes "missed"
how_word Cancelled = codes "cancelled"
how_word Nothing = codes "nothing"
how_word Hooked = codes "hooked"

abbrev pub decision_word : Decision → List ℕ
decision_word Block = codes "block"
decision_word Vote = codes "vote"
decision_word Stage = codes "stage"

abbrev pub truth_word : Bool → List ℕ
truth_word true = codes "true"
truth_word false = codes "false"

-- the ticket that a fetch is for, or the floor of a sync
abbrev pub asker_word : Option ℕ → List ℕ
asker_word (Some ticket) = decimal ticket
asker_word None = codes "floor"

-- how a barrier is done
abbrev pub done_word : Bool → List ℕ
done_word true = codes "durable"
done_word false = codes "broken"

-- The line of a mark, by these heights of blocks and these names.
module _ {B : Type 0} (height_of : B → ℕ) (labels : List Label) where
  abbrev pub mark_line : Mark B → List ℕ
  mark_line (Opened anchor) =
      line (codes "opened") (decimal anchor.height.0 ∷ name_of labels anchor.digest ∷ [])
  mark_line (Converged anchor) =
      line (codes "converged") (decimal anchor.height.0 ∷ name_of labels anchor.digest ∷ [])
  mark_line (Asked fetch ticket digest) =
      line (codes "asked") (decimal fetch ∷ asker_word ticket ∷ name_of labels digest ∷ [])
  mark_line (Withdrawn fetch) = line (codes "withdrawn") (decimal fetch ∷ [])
  mark_line (Started job kind digest) =
      line (codes "started") (decimal job ∷ kind_word kind ∷ name_of labels digest ∷ [])
  mark_line (Ended job how) = line (codes "ended") (decimal job ∷ how_word how ∷ [])
  mark_line (Built job ticket block) =
      line (codes "built") (decimal job ∷ decimal ticket ∷ name_of labels block.digest ∷ [])
  mark_line (Verdict ticket valid) = line (codes "verdict") (decimal ticket ∷ truth_word valid ∷ [])
  mark_line (Answered ticket decision block) =
      line (codes "answered")
      (decimal ticket ∷ decision_word decision ∷ name_of labels block.digest ∷ [])
  mark_line (Declined ticket) = line (codes "declined") (decimal ticket ∷ [])
  mark_line (Databases ticket) = line (codes "databases") (decimal ticket ∷ [])
  mark_line (Began ticket block) =
      line (codes "began") (decimal ticket ∷ name_of labels block.digest ∷ [])
  mark_line (Applied block) =
      line (codes "applied") (decimal (height_of block.block) ∷ name_of labels block.digest ∷ [])
  mark_line (BarrierBegun barrier height) =
      line (codes "barrier") (decimal barrier ∷ decimal height.0 ∷ [])
  mark_line (BarrierDone barrier height good) =
      line (done_word good) (decimal barrier ∷ decimal height.0 ∷ [])
  mark_line (Acknowledged ticket height) =
      line (codes "acknowledged") (decimal ticket ∷ decimal height.0 ∷ [])
  mark_line (Dropped ticket) = line (codes "dropped") (decimal ticket ∷ [])
  mark_line (Recorded anchor) =
      line (codes "recorded") (decimal anchor.height.0 ∷ name_of labels anchor.digest ∷ [])
  mark_line (Dispatched generation height) =
      line (codes "dispatched") (decimal generation ∷ decimal height.0 ∷ [])
  mark_line (Pruned marshal target) =
      line (codes "pruned") (decimal marshal.0 ∷ decimal target.0 ∷ [])
  mark_line (Completed height) = line (codes "completed") (decimal height.0 ∷ [])
  mark_line Stopped = line (codes "stopped") []
