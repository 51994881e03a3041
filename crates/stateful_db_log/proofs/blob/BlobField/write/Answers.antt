use Rattle.std.proofs.Common.{ℕ, List, ◌++◌, length, ap, sym, ◌∙◌}
use Rattle.stateful_db_log.proofs.Blobs.{written}
use Rattle.stateful_db_log.proofs.blob.BlobField.write.Goals as goal

pub returns : goal.returns
returns c =
    let bytes = c.self.inside.bytes.items in
    let before = c.args.out.now.items in
    let mid = c.write_u32.new.out.items in
    let after = c.extend_from_slice.new.self.items in
    let value = c.as_slice.ensures.value in
    let len = c.len.ensures ∙ sym c.as_slice.ensures.len ∙ ap length value in
    let more = c.in_ok-extend_from_slice.ensures.items ∙ ap (λ (w : List ℕ). mid ++ w) value in
    rw (← c.self.view_is) (written bytes before mid after c.len.result len c.self.invariant c.in_ok-write_u32.ensures.appended more c.type_inv.out)
