use Rattle.std.proofs.Common.{List, ℕ, Err, subst, ◌∙◌, ap, take, drop, ◌+◌, ◌-◌}
use Rattle.stateful_base.specs.Format.{Stands}
use Rattle.stateful_base.proofs.Formats.{passed}
use Rattle.stateful_db_log.specs.Blobs.{blob_format, blob_alone}
use Rattle.stateful_db_log.proofs.Blobs.{refused, read}
use Rattle.stateful_db_log.proofs.blob.BlobField.read.Goals as goal

pub returns-in_err-count : goal.returns-in_err-count
returns-in_err-count c =
    let input = c.args.input.now in
    let error = c.in_err-count.field-0.0 in
    passed blob_format blob_alone c.from_residual.result error input input c.from_residual.ensures.1
    (refused input error (subst (λ (w : List ℕ). Stands blob_format w (Err error)) c.as_slice.ensures c.in_err-count.ensures.err))

pub returns : goal.returns
returns c =
    let n = c.in_ok-count.count in
    let bytes = c.in_ok-bytes.ensures.items ∙ ap (λ (w : List ℕ). take (4 + n - 4) (drop 4 w)) c.as_slice-2.ensures in
    read c.as_slice.result.now c.args.input.now c.advance.new.self c.in_ok-bytes.bytes.items n c.as_slice.ensures c.in_ok-count.ensures.ok bytes c.advance.ensures
