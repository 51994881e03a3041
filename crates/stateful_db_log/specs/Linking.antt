-- Chains of digests over operations, whichever way one digest leads to the next.
use Rattle.std.proofs.Common.{◌≡◌, ℕ, ◌+◌, List, [], ◌∷◌, ◌++◌, length, refl, ap, ◌∙◌, arith}
use Rattle.stateful_base.specs.declared.digest.Digest.{Digest}
use Rattle.stateful_db_log.specs.Chained.{linked, chained}

module _ {Op : Type 0} (link : ℕ → Digest → Op → Digest) where
  -- the digest behind these operations, of which the first stands at this location and behind this
  -- digest
  abbrev pub behind : ℕ → Digest → List Op → Digest
  behind at before [] = before
  behind at before (op ∷ ops) = behind (at + 1) (link at before op) ops

  pub behind-append : (at : ℕ) (d : Digest) (xs ys : List Op)
      → behind at d (xs ++ ys) ≡ behind (at + length xs) (behind at d xs) ys
  behind-append at d [] ys = ap (λ n. behind n d ys) (omega arith)
  behind-append at d (x ∷ xs) ys =
      behind-append (at + 1) (link at d x) xs ys
      ∙ ap (λ n. behind n (behind (at + 1) (link at d x) xs) ys) (omega arith)

-- operations of a log, whose digests don't depend on locations
abbrev pub log_link : {Op : Type 0} → (Op → List ℕ) → ℕ → Digest → Op → Digest
log_link spell at before op = linked before (spell op)

pub behind-log : {Op : Type 0} (spell : Op → List ℕ) (at : ℕ) (d : Digest) (ops : List Op)
    → behind (log_link spell) at d ops ≡ chained spell d ops
behind-log spell at d [] = refl
behind-log spell at d (op ∷ ops) = behind-log spell (at + 1) (linked d (spell op)) ops
