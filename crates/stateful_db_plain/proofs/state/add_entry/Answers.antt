use Rattle.std.proofs.Common.{ℕ, List, ◌++◌, append_assoc, ap, subst, ◌∙◌}
use Rattle.std.specs.Int.{w64, to_be_bytes}
use Rattle.sha2.specs.Hashers.{Holds256}
use Rattle.stateful_db_plain.proofs.state.add_entry.Goals as goal

pub returns : goal.returns
returns c = λ m holds.
    let P : List ℕ → Type 0 = λ x. Holds256 c.update-2.new.self x in
    let both = c.update-2.ensures _ (c.update.ensures m holds) in
    subst P (append_assoc m c.to_be_bytes.result c.to_be_bytes-2.result
    ∙ ap (λ key. m ++ (key ++ c.to_be_bytes-2.result)) c.to_be_bytes.ensures
    ∙ ap (λ value. m ++ (to_be_bytes w64 c.args.key ++ value)) c.to_be_bytes-2.ensures) both
