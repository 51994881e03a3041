-- Equal lines come from equal marks.
use Rattle.std.proofs.Common.{◌≡◌, ℕ, List, [], ◌++◌, Option, ap, sym, refl, ◌∙◌}
use Rattle.stateful_base.specs.Names.{Header}
use Rattle.stateful_base.specs.Anchor.{anchor_by}
use Rattle.stateful_base.specs.declared.digest.Digest.{Digest}
use Rattle.stateful_history.specs.declared.mark.Mark.{Mark}
use Rattle.stateful_history.specs.declared.mark.Mark.TheVariants.{Opened, Converged, Asked, Withdrawn, Started, Ended, Built, Verdict, Answered, Declined, Databases, Began, Applied, BarrierBegun, BarrierDone, Acknowledged, Dropped, Recorded, Dispatched, Pruned, Completed, Stopped}
use Rattle.stateful_script_text.specs.declared.shown.Label.{Label}
use Rattle.stateful_script_text.specs.Mark.{mark_line}
use Rattle.stateful_script_text.specs.MarkMeaning.{TellsApart, told, Fits, named, NamesTruly}
use Rattle.stateful_script_text.proofs.Words.{words_of, rest_of}
use Rattle.stateful_script_text.proofs.Reading.{mark_of_words, read}

-- Where texts that begin with lines of marks are equal, the lines tell the same, and what is behind them is equal.
pub equal_lines : {B : Type 0} (height : B → ℕ) (labels : List Label) → TellsApart labels → (m n : Mark B) (xs ys : List ℕ) → Fits height m → Fits height n → mark_line height labels m ++ xs ≡ mark_line height labels n ++ ys → (told height m ≡ told height n) × (xs ≡ ys)
equal_lines height labels tell m n xs ys fits_m fits_n same =
    let by_m = read height labels tell m fits_m in
    let by_n = read height labels tell n fits_n in
    (sym (by_m.first xs) ∙ ap (λ text. mark_of_words labels (words_of text)) same ∙ by_n.first ys, sym (by_m.behind xs) ∙ ap rest_of same ∙ by_n.behind ys)

module _ {B : Type 0} (header : Header B) (block_of : Digest → B) where
  -- the mark of what it tells, by the blocks that digests name
  retold : Mark (Option ℕ) → Mark B
  retold (Opened anchor) = Opened (anchor_by header (named block_of anchor.digest))
  retold (Converged anchor) = Converged (anchor_by header (named block_of anchor.digest))
  retold (Asked fetch ticket digest) = Asked fetch ticket digest
  retold (Withdrawn fetch) = Withdrawn fetch
  retold (Started job kind digest) = Started job kind digest
  retold (Ended job how) = Ended job how
  retold (Built job ticket block) = Built job ticket (named block_of block.digest)
  retold (Verdict ticket valid) = Verdict ticket valid
  retold (Answered ticket decision block) = Answered ticket decision (named block_of block.digest)
  retold (Declined ticket) = Declined ticket
  retold (Databases ticket) = Databases ticket
  retold (Began ticket block) = Began ticket (named block_of block.digest)
  retold (Applied block) = Applied (named block_of block.digest)
  retold (BarrierBegun barrier height) = BarrierBegun barrier height
  retold (BarrierDone barrier height good) = BarrierDone barrier height good
  retold (Acknowledged ticket height) = Acknowledged ticket height
  retold (Dropped ticket) = Dropped ticket
  retold (Recorded anchor) = Recorded (anchor_by header (named block_of anchor.digest))
  retold (Dispatched generation height) = Dispatched generation height
  retold (Pruned marshal target) = Pruned marshal target
  retold (Completed height) = Completed height
  retold Stopped = Stopped

  retold-told : (mark : Mark B) → NamesTruly header block_of mark → retold (told header.height mark) ≡ mark
  unfolding retold
  retold-told (Opened anchor) true_name = ap Opened (sym true_name)
  retold-told (Converged anchor) true_name = ap Converged (sym true_name)
  retold-told (Built job ticket block) true_name = ap (Built job ticket) (sym true_name)
  retold-told (Answered ticket decision block) true_name = ap (Answered ticket decision) (sym true_name)
  retold-told (Began ticket block) true_name = ap (Began ticket) (sym true_name)
  retold-told (Applied block) true_name = ap Applied (sym true_name)
  retold-told (Recorded anchor) true_name = ap Recorded (sym true_name)
  retold-told mark true_name = refl

  -- Where labels tell digests apart, and digests name blocks, equal lines come from equal marks.
  pub equal_marks : (labels : List Label) → TellsApart labels → (m n : Mark B) → Fits header.height m → Fits header.height n → NamesTruly header block_of m → NamesTruly header block_of n → mark_line header.height labels m ≡ mark_line header.height labels n → m ≡ n
  equal_marks labels tell m n fits_m fits_n true_m true_n same =
      let told_same = (equal_lines header.height labels tell m n [] [] fits_m fits_n (ap (λ text. text ++ []) same)).0 in
      sym (retold-told m true_m) ∙ ap retold told_same ∙ retold-told n true_n
