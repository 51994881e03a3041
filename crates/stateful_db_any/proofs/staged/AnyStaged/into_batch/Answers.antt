use Rattle.std.proofs.Common.{◌++◌, List, sym, ap, ◌∙◌}
use Rattle.stateful_db_any.specs.declared.slot.Slot.{Slot}
use Rattle.stateful_db_any.specs.Shown.{Draft}
use Rattle.stateful_db_any.specs.Staged.{Staging, slot_writes, with_writes}
use Rattle.stateful_db_any.proofs.Staging.{with_writes-append}
use Rattle.stateful_db_any.proofs.staged.AnyStaged.into_batch.Goals as goal

pub returns : goal.returns
returns g c =
    let K = g.row.K.Denot in
    let V = g.row.V.Denot in
    let cmp = g.K.Ord.cmp in
    let old = c.self.inside in
    let slots = c.args.slots.items in
    let others = c.args.unstaged.items in
    let first = c.in_ok-batch.ensures
    ∙ ap (λ keys. with_writes cmp old.batch (slot_writes keys c.as_slice-2.result.now)) c.as_slice.ensures.value
    ∙ ap (λ (xs : List (Slot V)). with_writes cmp old.batch (slot_writes old.keys.items xs)) c.as_slice-2.ensures.value in
    c.in_ok-batch-2.ensures
    ∙ ap (λ (u : Draft K V). with_writes cmp u c.as_slice-3.result.now) first
    ∙ ap (λ xs. with_writes cmp (with_writes cmp old.batch (slot_writes old.keys.items slots)) xs) c.as_slice-3.ensures.value
    ∙ sym (with_writes-append cmp old.batch (slot_writes old.keys.items slots) others)
    ∙ ap (λ (s : Staging K V). with_writes cmp s.batch (slot_writes s.keys slots ++ others)) c.self.view_is
