-- chains of keyless batches
use Rattle.std.proofs.Common.{◌≡◌, ◌≢◌, inl, inr, Option, ℕ, ◌+◌, ◌-◌, ◌^◌, ◌<◌, ◌≤◌, ◌==◌, ◌||◌, List, [], ◌∷◌, ◌++◌, length, map, max, min, None, refl, sym, ap, ◌∙◌, subst, arith, length-append}
use Rattle.stateful_db.specs.Chain.{has_id, IsPoint}
use Rattle.stateful_base.specs.declared.number.Location.{Location}
use Rattle.stateful_base.specs.declared.digest.Digest.{Digest}
use Rattle.stateful_db_overlay.specs.Stack.{has_layer, above_in, cut_at}
use Rattle.stateful_db_overlay.specs.Chains.{Stands, Leads, has_id-layers, has_layer-more, leads-above, stands-cut}
use Rattle.stateful_db_medium.specs.Mapped.{length-mapped}
use Rattle.stateful_db_log.specs.Chained.{linked, chained}
use Rattle.stateful_db_log.specs.ChainedLaws.{chained-append}
use Rattle.stateful_db_log.specs.Logs.{extended}
use Rattle.stateful_db_compact.specs.declared.op.KeylessOp.TheVariants.{Commit, Append}
use Rattle.stateful_db_keyless.specs.declared.keyless.batch.KeylessChanges.{KeylessChanges}
use Rattle.stateful_db_keyless.specs.declared.keyless.batch.KeylessUnmerkleized.{KeylessUnmerkleized}
use Rattle.stateful_db_keyless.specs.declared.keyless.batch.KeylessMerkleized.{KeylessMerkleized}
use Rattle.stateful_db_compact.specs.Ops.{Changes, unchanged, raised, append_bytes, commit_bytes, op_bytes}
use Rattle.stateful_db_keyless.specs.Keyless.{State, size_of, ops_of, begun}
use Rattle.stateful_db_keyless.specs.KeylessShown.{After, Holds, DraftShows, SealShows}
use Rattle.stateful_db_keyless.specs.Reads.{log_of, log_behind, log_over, read_as, value_at}
use Rattle.stateful_db_keyless.proofs.Reading.{kept_from}

module _ {V : Type 0} (spell : V → List ℕ) where
  chained-values : (d : Digest) (values : List V) → chained (op_bytes spell) d (map Append values) ≡ chained (append_bytes spell) d values
  chained-values d [] = refl
  chained-values d (v ∷ values) = chained-values (linked d (append_bytes spell v)) values

  -- the digest behind the operations of a batch
  pub chained-ops : (d : Digest) (ch : Changes V) (floor : ℕ) → chained (op_bytes spell) d (ops_of ch floor) ≡ linked (chained (append_bytes spell) d ch.values) (commit_bytes spell ch.metadata floor)
  chained-ops d ch floor =
      chained-append (op_bytes spell) d (map Append ch.values) (Commit ch.metadata floor ∷ [])
      ∙ ap (λ b. linked b (commit_bytes spell ch.metadata floor)) (chained-values d ch.values)

  -- the ids of its chain are its own and those of the layers below it
  pub draft_has : (u : KeylessUnmerkleized V) (c : List (ℕ × State V)) (n : ℕ) → DraftShows spell u c → has_id c n ≡ ((u.id == n) || has_layer u.below n)
  draft_has u [] n h = absurd h
  draft_has u (p ∷ []) n h = absurd h
  draft_has u (p ∷ q ∷ c) n h =
      ap (λ i. (i == n) || has_id (q ∷ c) n) h.0
      ∙ ap (λ b. (u.id == n) || b) (has_id-layers After u.below.base u.below.layers (q ∷ c) n h.1.1.0)

  -- a layer with the operations of a batch, of this end and floor, is its seal
  pub seals : (u : KeylessUnmerkleized V) (l : ℕ × KeylessChanges V) (end floor : ℕ) (root : Digest) (c : List (ℕ × State V))
      → l.0 ≡ u.id → l.1.from ≡ u.size → l.1.ops.items ≡ u.ops.items ++ Commit u.metadata floor ∷ []
      → l.1.target ≡ record { root = root; start = record { 0 = floor }; end = record { 0 = end + 1 } }
      → end ≡ min (u.size + length u.ops.items) (2 ^ 64 - 1) → end < 2 ^ 64 - 2 → floor ≡ max u.floor (min u.asked end)
      → root ≡ linked u.before (commit_bytes spell u.metadata floor)
      → DraftShows spell u c → Stands After u.below.base (l ∷ u.below.layers) c
  seals u l end floor root [] named from ops target ends within floors roots h = absurd h
  seals u l end floor root (p ∷ []) named from ops target ends within floors roots h = absurd h
  seals u l end floor root (p ∷ q ∷ c) named from ops target ends within floors roots h =
      let (ch, (holds, is)) = h.1.1.1 in
      let count : length u.ops.items ≡ length ch.values = ap length holds.ops ∙ length-mapped Append ch.values in
      let commit : end ≡ size_of q.1 + length ch.values = omega (arith, holds.size) in
      let at : floor ≡ raised q.1.target.start.0 ch.floor (size_of q.1 + length ch.values) = omega (arith, holds.floor, holds.asked) in
      let f = raised q.1.target.start.0 ch.floor (size_of q.1 + length ch.values) in
      let list : l.1.ops.items ≡ ops_of ch f =
      ops ∙ ap (λ xs. xs ++ Commit u.metadata floor ∷ []) holds.ops
      ∙ ap (λ m. map Append ch.values ++ Commit m floor ∷ []) holds.metadata
      ∙ ap (λ n. map Append ch.values ++ Commit ch.metadata n ∷ []) at in
      let digest : root ≡ chained (op_bytes spell) q.1.target.root (ops_of ch f) =
      roots ∙ ap (λ b. linked b (commit_bytes spell u.metadata floor)) holds.before
      ∙ ap (λ m. linked (chained (append_bytes spell) q.1.target.root ch.values) (commit_bytes spell m floor)) holds.metadata
      ∙ ap (λ n. linked (chained (append_bytes spell) q.1.target.root ch.values) (commit_bytes spell ch.metadata n)) at
      ∙ sym (chained-ops q.1.target.root ch f) in
      let range : l.1.target ≡ record { root = chained (op_bytes spell) q.1.target.root (ops_of ch f); start = record { 0 = f }; end = record { 0 = size_of q.1 + length ch.values + 1 } } =
      target ∙ (λ i. record { root = digest i; start = record { 0 = at i }; end = record { 0 = commit i + 1 } }) in
      let count_all : length l.1.ops.items ≡ length u.ops.items + 1 = ap length ops ∙ length-append u.ops.items (Commit u.metadata floor ∷ []) in
      let last : l.1.target.end.0 ≡ end + 1 = ap (λ t. t.end.0) target in
      let first : l.1.target.start.0 ≡ floor = ap (λ t. t.start.0) target in
      let extends = is ∙ sym (ap (λ xs. extended q.1 xs l.1.target) list ∙ ap (λ t. extended q.1 (ops_of ch f) t) range) in
      let ends_at : l.1.target.end.0 ≡ size_of q.1 + length l.1.ops.items = omega (arith, last, count_all, commit, count) in
      let low : q.1.target.start.0 ≤ l.1.target.start.0 = omega (arith, first, floors, holds.floor) in
      let high : l.1.target.start.0 ≤ max q.1.target.start.0 l.1.target.end.0 = omega (arith, first, last, floors, holds.floor) in
      (named ∙ sym h.0, (h.1.0, ((from ∙ holds.size, (extends, (ends_at, (low, high)))), h.1.1.0)))

  -- a batch without changes over a state
  pub begins : (u : KeylessUnmerkleized V) (id : ℕ) (p : ℕ × State V) (c : List (ℕ × State V))
      → u.id ≡ id → Stands After u.below.base u.below.layers (p ∷ c) → u.size ≡ size_of p.1 → u.floor ≡ p.1.target.start.0 → u.ops.items ≡ [] → u.before ≡ p.1.target.root → u.metadata ≡ None → u.asked ≡ 0 → p.0 < id
      → DraftShows spell u ((id, begun spell p.1) ∷ p ∷ c)
  begins u id p c named below size floor ops before metadata asked less =
      let holds : Holds spell u unchanged p.1 = record { before = before; ops = ops; size = size; floor = floor; metadata = metadata; asked = asked } in
      (sym named, (less, (below, (unchanged, (holds, refl)))))

  -- the root and the range of a sealed batch are those of its first point
  pub seal_target : (m : KeylessMerkleized V) (p : ℕ × State V) (c : List (ℕ × State V)) → SealShows m (p ∷ c) → m.layer.1.target ≡ p.1.target
  seal_target m p [] h = absurd h
  seal_target m p (q ∷ c) h = ap (λ s. s.target) (sym h.1.1.0.1.0)

  -- a batch whose layers are cut at a point of its chain
  pub draft_cut : (u t : KeylessUnmerkleized V) (x q p : ℕ × State V) (above older : List (ℕ × State V))
      → DraftShows spell u (x ∷ q ∷ above ++ p ∷ older) → t ≡ record u { below = cut_at p.0 u.below } → DraftShows spell t (x ∷ q ∷ above ++ p ∷ [])
  draft_cut u t x q p above older h same =
      let P : KeylessUnmerkleized V → Type 0 = λ d. DraftShows spell d (x ∷ q ∷ above ++ p ∷ []) in
      let (ch, (holds, is)) = h.1.1.1 in
      let kept : Holds spell (record u { below = cut_at p.0 u.below }) ch q.1 = record {
        before = holds.before;
        ops = holds.ops;
        size = holds.size;
        floor = holds.floor;
        metadata = holds.metadata;
        asked = holds.asked;
      } in
      subst P (sym same) (h.0, (h.1.0, (stands-cut After u.below (q ∷ above) older p h.1.1.0, (ch, (kept, is)))))

module _ {V : Type 0} where
  -- no point of the chain below has a greater id
  below_id : (base : ℕ) (ls : List (ℕ × KeylessChanges V)) (q : ℕ × State V) (c : List (ℕ × State V)) (x : ℕ × State V) → Stands After base ls (q ∷ c) → IsPoint x (q ∷ c) → x.0 ≤ q.0
  below_id base [] q [] x h (inl e) = let k : x.0 ≡ q.0 = ap (λ z. z.0) e in omega arith
  below_id base [] q [] x h (inr i) = absurd i
  below_id base [] q (r ∷ c) x h i = absurd h
  below_id base (l ∷ ls) q [] x h i = absurd h
  below_id base (l ∷ ls) q (r ∷ c) x h (inl e) = let k : x.0 ≡ q.0 = ap (λ z. z.0) e in omega arith
  below_id base (l ∷ ls) q (r ∷ c) x h (inr i) = let k : x.0 ≤ r.0 = below_id base ls r c x h.1.1.1 i in omega (arith, h.1.0)

  -- what a batch reads before its seal, over a database at a point of its parent's chain
  pub draft_read : (spell : V → List ℕ) (u : KeylessUnmerkleized V) (p q : ℕ × State V) (c : List (ℕ × State V)) (ch : Changes V) (n : ℕ) (s : State V) (at : Location) (value : Option V)
      → DraftShows spell u (p ∷ q ∷ c) → Holds spell u ch q.1 → IsPoint (n, s) (p ∷ q ∷ c) → u.id ≢ n → q.1.target.start.0 ≤ at.0
      → ((t : State V) → Leads After (above_in n u.below) s t → u.size ≡ size_of t → t.target.start.0 ≤ at.0 → value ≡ value_at (log_behind t u.ops.items) at)
      → value ≡ value_at (log_over ch q.1) at
  draft_read spell u p q c ch n s at value h holds (inl e) other low reads = absurd (other (sym h.0 ∙ ap (λ z. z.0) (sym e)))
  draft_read spell u p q c ch n s at value h holds (inr i) other low reads =
      reads q.1 (leads-above After u.below.base u.below.layers q c n s h.1.1.0 i) holds.size low
      ∙ ap (λ xs. value_at (log_behind q.1 xs) at) holds.ops

  -- the ids of a sealed batch's chain are its own and those of the layers below it
  pub seal_has : (m : KeylessMerkleized V) (c : List (ℕ × State V)) (n : ℕ) → SealShows m c → has_id c n ≡ ((m.layer.0 == n) || has_layer m.below n)
  seal_has m c n h = has_id-layers After m.below.base (m.layer ∷ m.below.layers) c n h ∙ has_layer-more After m.below m.layer n

  -- a database with the id of a sealed batch is at its state
  pub seal_own : (m : KeylessMerkleized V) (p : ℕ × State V) (c : List (ℕ × State V)) (n : ℕ) (s : State V) → SealShows m (p ∷ c) → IsPoint (n, s) (p ∷ c) → m.layer.0 ≡ n → s ≡ p.1
  seal_own m p c n s h (inl e) same = ap (λ z. z.1) e
  seal_own m p [] n s h (inr i) same = absurd h
  seal_own m p (q ∷ c) n s h (inr i) same = let le = below_id m.below.base m.below.layers q c (n, s) h.1.1.1 i in absurd (omega (arith, h.0, h.1.0))

  -- what a sealed batch reads, over a database at a point of its parent's chain
  pub seal_read : (m : KeylessMerkleized V) (p : ℕ × State V) (c : List (ℕ × State V)) (n : ℕ) (s : State V) (at : Location) (value : Option V)
      → SealShows m (p ∷ c) → IsPoint (n, s) (p ∷ c) → m.layer.0 ≢ n → p.1.target.start.0 ≤ at.0
      → ((t : State V) → Leads After (above_in n m.below) s t → m.layer.1.from ≡ size_of t → t.target.start.0 ≤ at.0 → value ≡ value_at (log_behind t m.layer.1.ops.items) at)
      → value ≡ value_at (log_of p.1) at
  seal_read m p [] n s at value h i other low reads = absurd h
  seal_read m p (q ∷ c) n s at value h (inl e) other low reads = absurd (other (h.0 ∙ ap (λ z. z.0) (sym e)))
  seal_read m p (q ∷ c) n s at value h (inr i) other low reads =
      let step = h.1.1.0 in
      let start : p.1.target.start.0 ≡ m.layer.1.target.start.0 = ap (λ (x : State V). x.target.start.0) step.1.0 in
      reads q.1 (leads-above After m.below.base m.below.layers q c n s h.1.1.1 i) step.0 (omega (arith, start, low, step.1.1.1.0))
      ∙ ap read_as (sym (kept_from m.layer.1 q.1 p.1 at.0 step low))
