use Rattle.std.proofs.Common.{◌≡◌, ℕ, ◌-◌, ◌≤◌, List, [], ◌∷◌, length, None, slice_get, refl, ap, ◌∙◌, arith}
use Rattle.stateful_base.specs.declared.target.Target.{Target}
use Rattle.stateful_db_log.specs.LogSound.{length_newest}
use Rattle.stateful_db_keyless.specs.KeylessStored.{standing_of}
use Rattle.stateful_db_keyless.specs.Reads.{metadata_in}
use Rattle.stateful_db_keyless.proofs.keyless.database.KeylessDb.get_metadata.Goals as goal

-- where the last location of a range has no operation there is none
none_last : {X : Type 0} (kept : List X) (start end : ℕ) → length kept ≡ end - start → (start ≤ end - 1 → None ≡ slice_get kept (end - 1 - start)) → None ≡ slice_get kept (length kept - 1)
none_last [] start end count at = refl
none_last (x ∷ kept) start end count at =
    let same : end - 1 - start ≡ length (x ∷ kept) - 1 = omega arith in
    at (omega arith) ∙ ap (λ n. slice_get (x ∷ kept) n) same

pub returns-in-None : goal.returns-in-None
returns-in-None g c =
    let s = (standing_of c.args.self.now).disk.newest in
    let last : c.saturating_sub-last.result ≡ s.target.end.0 - 1 = c.saturating_sub-last.ensures ∙ ap (λ (t : Target). t.end.0 - 1) c.target.ensures in
    ap metadata_in (none_last s.kept s.target.start.0 s.target.end.0 (length_newest c.args.self.now.log) (λ low.
    c.in-None.ensures.inside (omega (arith, last)) ∙ ap (λ n. slice_get s.kept (n - s.target.start.0)) last))
