use Rattle.std.proofs.Common.{◌≡◌, ◌⊎◌, ◌↔◌, subst, Contains}
use Rattle.std.specs.BTreeSet.{keys}
use Rattle.stateful_base.specs.declared.anchor.Anchor.{Anchor}
use Rattle.stateful_base.specs.declared.digest.Digest.{Digest}
use Rattle.stateful_exec_cache.specs.Cut.{IsCutTo}
use Rattle.stateful_exec_cache.proofs.Digests.{finds_more}
use Rattle.stateful_exec_pause.proofs.Roots.{with_root}
use Rattle.stateful_exec_pause.proofs.boundary.FinalizationBoundary.of.Goals as goal

pub returns : goal.returns
returns g c =
    let d = c.in_ok-compatible.ensures in
    record {
      digest_is = c.digest-2.ensures;
      round_is = c.round.ensures;
      kept = d.kept;
      cut = subst (λ (a : Anchor). IsCutTo a c.args.cache.now d.kept) c.from_block.ensures d.cut;
      each = with_root c.args.block.now.digest (λ x. Contains (keys c.insert.new.self) x) (subst (λ (r : Digest). (x : Digest) → Contains (keys c.insert.new.self) x ↔ ((x ≡ r) ⊎ Contains (keys c.in_ok-compatible.compatible) x)) c.digest.ensures (finds_more c.digest.result (keys c.in_ok-compatible.compatible) (keys c.insert.new.self) (λ x. c.in_ok-insert.ensures.updates.0 x))) d.each;
    }
