-- The chain of digests over the operations of a log.
use Rattle.std.specs.Prelude.{ℕ, List, [], ◌∷◌, ◌++◌}
use Rattle.sha2.specs.Sha256.{sha256}
use Rattle.stateful_base.specs.declared.digest.Digest.{Digest}

-- behind an operation of these bytes
abbrev pub linked : Digest → List ℕ → Digest
linked before bytes = record { 0 = sha256 (before.0 ++ bytes) }

-- behind these operations, one after another
abbrev pub chained : {Op : Type 0} → (Op → List ℕ) → Digest → List Op → Digest
chained spell before [] = before
chained spell before (op ∷ ops) = chained spell (linked before (spell op)) ops

-- before the first operation: 32 bytes that are 0
abbrev pub unlinked : Digest
unlinked =
    record {
      0 =
          0 ∷ 0 ∷ 0 ∷ 0 ∷ 0 ∷ 0 ∷ 0 ∷ 0 ∷ 0 ∷ 0 ∷ 0 ∷ 0 ∷ 0 ∷ 0 ∷ 0 ∷ 0 ∷ 0 ∷ 0 ∷ 0 ∷ 0 ∷ 0 ∷ 0 ∷ 0
          ∷ 0 ∷ 0 ∷ 0 ∷ 0 ∷ 0 ∷ 0 ∷ 0 ∷ 0 ∷ 0 ∷ [];
    }
