-- Entries of one digest are of one block.
use Rattle.std.proofs.Common.{◌≡◌, ◌≢◌, ℕ, List, [], All, Option, sym, ap, ◌∙◌}
use Rattle.std.proofs.lemmas.List.Elements.{All-weaker, All-contains}
use Rattle.stateful_base.specs.Names.{Named}
use Rattle.stateful_base.specs.declared.anchor.Anchor.{Anchor}
use Rattle.stateful_base.specs.declared.digest.Digest.{Digest}
use Rattle.stateful_history.specs.Past.{Past}
use Rattle.stateful_history.specs.Met.{TrueNames}
use Rattle.stateful_exec_cache.specs.Cache.{InOrder}
use Rattle.stateful_exec_cache.specs.Cut.{AreNamed}
use Rattle.stateful_exec_cache.specs.declared.cache.Cached.{Cached}
use Rattle.stateful_exec_model.specs.Workings.{Workings, Point}
use Rattle.stateful_exec_laws.specs.Setting.{setting}
use Rattle.stateful_exec_laws.specs.Caching.{IsCached}

module _ {B C I P R D H G U : Type 0} (w : Workings B C I P R D H G U) (stored : ℕ → Option (Named B)) (p : Past B C I) (points : Digest → Point w) (next : w.Ids) (anchor : Anchor) (cache : List (Cached U)) where
  -- entries of one digest are of one block, where names are true
  pub named_apart : TrueNames (setting w stored) p → All (IsCached w stored p points next anchor) cache → InOrder anchor.digest [] cache → AreNamed anchor.digest cache
  named_apart names each order = record {
    in_order = order;
    other = All-weaker (IsCached w stored p points next anchor) (λ e. e.digest ≢ anchor.digest) (λ e h. h.other) cache each;
    same = λ e f among_e among_f is.
        let h : IsCached w stored p points next anchor e = All-contains (IsCached w stored p points next anchor) cache e each among_e in
        let k : IsCached w stored p points next anchor f = All-contains (IsCached w stored p points next anchor) cache f each among_f in
        let one : h.block ≡ k.block = names h.block k.block h.met k.met (h.digest_is ∙ is ∙ sym k.digest_is) in
        (sym h.parent_is ∙ ap (λ (y : Named B). w.header.parent y.block) one ∙ k.parent_is, sym h.round_is ∙ ap (λ (y : Named B). w.header.round y.block) one ∙ k.round_is);
  }
