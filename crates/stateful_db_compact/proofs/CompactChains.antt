-- chains of compact batches
use Rattle.std.proofs.Common.{◌≡◌, ℕ, ◌+◌, ◌^◌, ◌-◌, ◌<◌, ◌==◌, ◌||◌, List, [], ◌∷◌, ◌++◌, length, max, min, None, refl, sym, ap, ◌∙◌, subst, arith}
use Rattle.stateful_db.specs.Chain.{has_id}
use Rattle.stateful_base.specs.declared.digest.Digest.{Digest}
use Rattle.stateful_db_log.specs.Chained.{linked}
use Rattle.stateful_db_overlay.specs.Stack.{Stack, has_layer, cut_at}
use Rattle.stateful_db_overlay.specs.Chains.{Stands, has_id-layers, stands-cut}
use Rattle.stateful_db_compact.specs.declared.compact.batch.KeylessUnjournaledUnmerkleized.{KeylessUnjournaledUnmerkleized}
use Rattle.stateful_db_compact.specs.declared.compact.batch.KeylessUnjournaledMerkleized.{KeylessUnjournaledMerkleized}
use Rattle.stateful_db_compact.specs.Ops.{unchanged, raised, commit_bytes}
use Rattle.stateful_db_compact.specs.Compacted.{State, size_of, state_of, committed, sealed, begun}
use Rattle.stateful_db_compact.specs.CompactShown.{Unread, Holds, DraftShows, SealShows}

module _ {V : Type 0} (spell : V → List ℕ) where
  -- the ids of its chain are its own and those of the layers below it
  pub draft_has : (u : KeylessUnjournaledUnmerkleized V) (c : List (ℕ × State V)) (n : ℕ) → DraftShows spell u c → has_id c n ≡ ((u.id == n) || has_layer u.below n)
  draft_has u [] n h = absurd h
  draft_has u (p ∷ []) n h = absurd h
  draft_has u (p ∷ q ∷ c) n h =
      ap (λ i. (i == n) || has_id (q ∷ c) n) h.0
      ∙ ap (λ b. (u.id == n) || b) (has_id-layers Unread u.below.base u.below.layers (q ∷ c) n h.1.1.0)

  -- the seal of a batch has the state behind its commit
  pub seals : (u : KeylessUnjournaledUnmerkleized V) (m : KeylessUnjournaledMerkleized V) (floor : ℕ) (root : Digest) (c : List (ℕ × State V))
      → m.layer.0 ≡ u.id → m.below ≡ u.below → u.end < 2 ^ 64 - 2 → floor ≡ max u.floor (min u.asked u.end)
      → root ≡ linked u.before (commit_bytes spell u.metadata floor)
      → m.state ≡ state_of root (u.end + 1) (record { before = u.before; metadata = u.metadata; floor = floor })
      → DraftShows spell u c → SealShows m c
  seals u m floor root [] named below within floors roots state h = absurd h
  seals u m floor root (p ∷ []) named below within floors roots state h = absurd h
  seals u m floor root (p ∷ q ∷ c) named below within floors roots state h =
      let (ch, (holds, is)) = h.1.1.1 in
      let P : Stack (Unit {0}) → Type 0 = λ b. Stands Unread b.base (m.layer ∷ b.layers) (p ∷ q ∷ c) in
      let commit : size_of q.1 + length ch.values ≡ u.end = omega (arith, holds.end) in
      let at : raised q.1.kept.floor ch.floor (size_of q.1 + length ch.values) ≡ floor = omega (arith, holds.end, holds.floor, holds.asked) in
      let sealed_is : sealed spell ch q.1 ≡ committed spell u.before u.end u.metadata floor =
      λ i. committed spell (sym holds.before i) (commit i) (sym holds.metadata i) (at i) in
      let made : committed spell u.before u.end u.metadata floor ≡ m.state =
      ap (λ r. state_of r (u.end + 1) (record { before = u.before; metadata = u.metadata; floor = floor })) (sym roots) ∙ sym state in
      record {
        chain = subst P (sym below) (named ∙ sym h.0, (h.1.0, (tt, h.1.1.0)));
        top = is ∙ sealed_is ∙ made;
      }

  -- a child of a sealed batch, whose layers are those of its parent and the parent's own
  pub opens : (m : KeylessUnjournaledMerkleized V) (below : Stack (Unit {0})) (id end : ℕ) (p : ℕ × State V) (c : List (ℕ × State V))
      → SealShows m (p ∷ c) → below ≡ record m.below { layers = m.layer ∷ m.below.layers } → end ≡ size_of m.state → end < 2 ^ 64 → p.0 < id
      → DraftShows spell (record { id = id; below = below; floor = m.state.kept.floor; end = end; before = m.state.target.root; metadata = None; asked = 0 }) ((id, begun spell p.1) ∷ p ∷ c)
  opens m below id end p c h same size within less =
      let P : Stack (Unit {0}) → Type 0 = λ b. Stands Unread b.base b.layers (p ∷ c) in
      let top = ap (λ s. size_of s) h.top in
      let holds : Holds spell (record { id = id; below = below; floor = m.state.kept.floor; end = end; before = m.state.target.root; metadata = None; asked = 0 }) unchanged p.1 = record {
        before = ap (λ s. s.target.root) (sym h.top);
        end = omega arith;
        floor = ap (λ s. s.kept.floor) (sym h.top);
        metadata = refl;
        asked = refl;
      } in
      (refl, (less, (subst P (sym same) h.chain, (unchanged, (holds, refl)))))

  -- a batch over the state of a database
  pub begins : (u : KeylessUnjournaledUnmerkleized V) (id : ℕ) (p : ℕ × State V)
      → u.id ≡ id → u.below ≡ record { base = p.0; layers = [] } → u.floor ≡ p.1.kept.floor → u.end ≡ size_of p.1 → u.end < 2 ^ 64 → u.before ≡ p.1.target.root → u.metadata ≡ None → u.asked ≡ 0 → p.0 < id
      → DraftShows spell u ((id, begun spell p.1) ∷ p ∷ [])
  begins u id p named over floor end within before metadata asked less =
      let P : Stack (Unit {0}) → Type 0 = λ b. Stands Unread b.base b.layers (p ∷ []) in
      let holds : Holds spell u unchanged p.1 = record { before = before; end = omega arith; floor = floor; metadata = metadata; asked = asked } in
      (sym named, (less, (subst P (sym over) refl, (unchanged, (holds, refl)))))

  -- a batch whose layers are cut at a point of its chain
  pub draft_cut : (u : KeylessUnjournaledUnmerkleized V) (t : KeylessUnjournaledUnmerkleized V) (x q p : ℕ × State V) (above older : List (ℕ × State V))
      → DraftShows spell u (x ∷ q ∷ above ++ p ∷ older) → t ≡ record u { below = cut_at p.0 u.below } → DraftShows spell t (x ∷ q ∷ above ++ p ∷ [])
  draft_cut u t x q p above older h same =
      let P : KeylessUnjournaledUnmerkleized V → Type 0 = λ d. DraftShows spell d (x ∷ q ∷ above ++ p ∷ []) in
      let (ch, (holds, is)) = h.1.1.1 in
      let kept : Holds spell (record u { below = cut_at p.0 u.below }) ch q.1 = record {
        before = holds.before;
        end = holds.end;
        floor = holds.floor;
        metadata = holds.metadata;
        asked = holds.asked;
      } in
      subst P (sym same) (h.0, (h.1.0, (stands-cut Unread u.below (q ∷ above) older p h.1.1.0, (ch, (kept, is)))))
