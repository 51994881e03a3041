-- Digests with one more.
use Rattle.std.proofs.Common.{◌≡◌, ◌↔◌, ◌⊎◌, inl, inr}
use Rattle.stateful_base.specs.declared.digest.Digest.{Digest}

-- one digest more, in words of what is kept
pub with_root : {P Q : Digest → Type 0} (root : Digest) (has : Digest → Type 0) → ((d : Digest) → has d ↔ ((d ≡ root) ⊎ P d)) → ((d : Digest) → P d ↔ Q d) → (d : Digest) → has d ↔ ((d ≡ root) ⊎ Q d)
with_root {P} {Q} root has more each d = (λ h. into ((more d).0 h), λ q. (more d).1 (out q))
  where
    into : (d ≡ root) ⊎ P d → (d ≡ root) ⊎ Q d
    into (inl is) = inl is
    into (inr p) = inr ((each d).0 p)

    out : (d ≡ root) ⊎ Q d → (d ≡ root) ⊎ P d
    out (inl is) = inl is
    out (inr q) = inr ((each d).1 q)
