-- a compact database follows the keyless one
use Rattle.std.proofs.Common.{◌≡◌, ℕ, ◌+◌, List, length, refl, sym, ap, ◌∙◌, arith}
use Rattle.stateful_base.specs.declared.digest.Digest.{Digest}
use Rattle.stateful_db_log.specs.Chained.{linked, chained}
use Rattle.stateful_db_compact.specs.Ops.{Changes, raised, append_bytes, commit_bytes}
use Rattle.stateful_db_keyless.specs.Keyless as keyless
use Rattle.stateful_db_compact.specs.Compacted as compact
use Rattle.stateful_db_keyless.specs.Follows.{Follows, KeepsFollowing}
use Rattle.stateful_db_keyless.proofs.KeylessChains.{chained-ops}

module _ {V : Type 0} (spell : V → List ℕ) where
  follows : (ch : Changes V) (s : keyless.State V) (t : compact.State V) → Follows s t → Follows (keyless.sealed spell ch s) (compact.sealed spell ch t)
  follows ch s t same =
      let size : compact.size_of t + length ch.values ≡ keyless.size_of s + length ch.values = ap (λ n. n + length ch.values) same.size in
      let floor : raised t.kept.floor ch.floor (compact.size_of t + length ch.values) ≡ raised s.target.start.0 ch.floor (keyless.size_of s + length ch.values) = omega (arith, same.size, same.floor) in
      record {
        root =
            ap (λ (d : Digest). linked (chained (append_bytes spell) d ch.values) (commit_bytes spell ch.metadata (raised t.kept.floor ch.floor (compact.size_of t + length ch.values)))) same.root
            ∙ ap (λ n. linked (chained (append_bytes spell) s.target.root ch.values) (commit_bytes spell ch.metadata n)) floor
            ∙ sym (chained-ops spell s.target.root ch (raised s.target.start.0 ch.floor (keyless.size_of s + length ch.values)));
        size = ap (λ n. n + 1) size;
        floor = floor;
      }

  pub keeps_following : KeepsFollowing spell
  keeps_following = record { initial = record { root = refl; size = refl; floor = refl }; sealed = follows }
