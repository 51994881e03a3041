-- One database that a sync has made.
use Rattle.std.proofs.Common.{◌≡◌, ℕ, ◌<◌, Some, refl, sym, subst}
use Rattle.stateful_base.specs.declared.target.Target.{Target}
use Rattle.stateful_db.specs.Databases.{IsOpening}
use Rattle.stateful_db.specs.Disk.{Standing}
use Rattle.stateful_db.specs.Member.{here}
use Rattle.stateful_db.specs.Single.{single}
use Rattle.stateful_passes.specs.Synced.{synced}
use Rattle.stateful_pass_sets.specs.Seeking.{Seeking}
use Rattle.stateful_pass_sets.specs.Made.{IsMade}

module _ {S T : Type 0} (target_of : S → T) (targeted : T → Target) (begun : S → S) (initial : S)
  where
    opened : (s : S) (next : ℕ)
        → 0 < next
        → IsOpening (single target_of targeted begun initial) next (here (synced s)) (target_of s)
    opened s next numbered = record {
      at = (0, s);
      here = refl;
      targets_are = refl;
      drawn = (numbered, tt);
      idle = refl;
      durable = λ i within. refl;
      keeps = λ i within. refl;
    }

    state_of : (s : S) (p : ℕ × S) → ◌≡◌ (Some (0, s)) (Some p) → p.1 ≡ s
    state_of s p is = cc

    -- opened at its only checkpoint, it is what the sync makes
    pub made : (s : S) (syncs : ℕ → Seeking) (next : ℕ) (standing : Standing S)
        → 0 < next
        → standing ≡ synced s
        → ((i : ℕ) → targeted (target_of s) ≡ (syncs i).target)
        → IsMade (single target_of targeted begun initial) s syncs next (here standing)
    made s syncs next standing numbered is targets =
        subst (λ t. IsMade (single target_of targeted begun initial) s syncs next (here t)) (sym is)
        (record {
          opening = opened s next numbered;
          states = state_of s;
          targets = λ i within. targets i;
          places = λ i within. refl;
        })
