-- chains of batches of keys, and what their seals give
use Rattle.std.proofs.Common.{◌≡◌, ◌≢◌, ℕ, suc, ◌+◌, ◌≤◌, ◌==◌, ◌||◌, inl, inr, Bool, true, false, is_some, List, [], ◌∷◌, ◌++◌, length, Option, Some, None, refl, sym, ap, ◌∙◌, subst, arith, length-append}
use Rattle.std.specs.Bool.{if◌then◌else◌}
use Rattle.std.specs.List.Sorted.{IsStrictlySortedBy}
use Rattle.std.specs.Map.{lookup, keys_of}
use Rattle.std.specs.Option.{option_map, unwrap_or}
use Rattle.std.specs.declared.cmp.Ordering.{Ordering}
use Rattle.std.specs.Cmp.{IsTotalOrder}
use Rattle.std.specs.BTreeMap.{is_at}
use Rattle.stateful_base.specs.declared.digest.Digest.{Digest}
use Rattle.stateful_base.specs.declared.target.Target.{Target}
use Rattle.stateful_db.specs.Chain.{IsPoint, has_id}
use Rattle.stateful_db_overlay.specs.Stack.{has_layer, above_in, cut_at}
use Rattle.stateful_db_overlay.specs.Chains.{Stands, Leads, has_layer-more, has_id-layers, leads-above, stands-cut}
use Rattle.stateful_db_log.specs.Chained.{chained}
use Rattle.stateful_db_any.specs.declared.op.AnyOp.TheVariants.{Commit, Update, Delete}
use Rattle.stateful_db_any.specs.Ops.{op_bytes}
use Rattle.stateful_db_any.specs.Live.{last_write, passed}
use Rattle.stateful_db_any.specs.Any.{State, size_of, IsWhole, live_at, value_at, ops_for, ops_of, after}
use Rattle.stateful_db_any.specs.Through.{Change, place_through, IsIndexed}
use Rattle.stateful_db_any.specs.Shown.{Draft, Seal, After, DraftShows, SealShows}
use Rattle.stateful_db_any.proofs.Reading.{reads_through, live_after}
use Rattle.stateful_db_any.proofs.Values.{sealed_value}

pub append_nil : {X : Type 0} (xs : List X) → xs ++ [] ≡ xs
append_nil [] = refl
append_nil (x ∷ xs) = ap (λ ys. x ∷ ys) (append_nil xs)

is_some-map : {X : Type 0} (o : Option (ℕ × X)) → is_some (option_map (λ x. x.0) o) ≡ is_some o
is_some-map None = refl
is_some-map (Some x) = refl

module _ {K V : Type 0} where
  pub ops_for-agree : (f g : K → Bool) → ((key : K) → f key ≡ g key) → (writes : List (K × Option V)) → ops_for f writes ≡ ops_for g writes
  ops_for-agree f g same [] = refl
  ops_for-agree f g same ((key, Some value) ∷ writes) = ap (λ ops. Update key value ∷ ops) (ops_for-agree f g same writes)
  ops_for-agree f g same ((key, None) ∷ writes) =
      ap (λ b. if b then Delete key ∷ ops_for f writes else ops_for f writes) (same key)
      ∙ ap (λ ops. if g key then Delete key ∷ ops else ops) (ops_for-agree f g same writes)

  pub ops_for-le : (live : K → Bool) (writes : List (K × Option V)) → length (ops_for live writes) ≤ length writes
  ops_for-le live [] = omega arith
  ops_for-le live ((key, Some value) ∷ writes) = omega (arith, ops_for-le live writes)
  ops_for-le live ((key, None) ∷ writes) = elim (live key) as (λ b. length (if b then Delete key ∷ ops_for live writes else ops_for live writes) ≤ suc (length writes)) [
    | true ↦ omega (arith, ops_for-le live writes)
    | false ↦ omega (arith, ops_for-le live writes)
  ]

module _ {K V : Type 0} (cmp : K → K → Ordering) (spell_key : K → List ℕ) (spell_value : V → List ℕ) where
  abbrev Step : Change K V → State K V → State K V → Type 0
  Step = After cmp spell_key spell_value

  -- the ids of its chain are its own and those of the layers below it
  pub draft_has : (u : Draft K V) (c : List (ℕ × State K V)) (n : ℕ) → DraftShows cmp spell_key spell_value u c → has_id c n ≡ ((u.id == n) || has_layer u.below n)
  draft_has u [] n h = absurd h
  draft_has u (p ∷ []) n h = absurd h
  draft_has u (p ∷ q ∷ c) n h =
      ap (λ i. (i == n) || has_id (q ∷ c) n) h.0
      ∙ ap (λ b. (u.id == n) || b) (has_id-layers Step u.below.base u.below.layers (q ∷ c) n h.1.1.0)

  -- a batch whose layers are cut at a point of its chain
  pub draft_cut : (u t : Draft K V) (x q p : ℕ × State K V) (newer older : List (ℕ × State K V))
      → DraftShows cmp spell_key spell_value u (x ∷ q ∷ newer ++ p ∷ older) → t ≡ record u { below = cut_at p.0 u.below } → DraftShows cmp spell_key spell_value t (x ∷ q ∷ newer ++ p ∷ [])
  draft_cut u t x q p newer older h same =
      let P : Draft K V → Type 0 = λ d. DraftShows cmp spell_key spell_value d (x ∷ q ∷ newer ++ p ∷ []) in
      subst P (sym same) (h.0, (h.1.0, (stands-cut Step u.below (q ∷ newer) older p h.1.1.0, h.1.1.1)))

  -- the root and the range of a sealed batch are those of its first point
  pub seal_target : (m : Seal K V) (p : ℕ × State K V) (c : List (ℕ × State K V)) → SealShows cmp spell_key spell_value m (p ∷ c) → m.layer.1.target ≡ p.1.target
  seal_target m p [] h = absurd h
  seal_target m p (q ∷ c) h = h.1.1.0.1.1.1

  -- how many operations its seal has
  pub draft_size : (u : Draft K V) (p : ℕ × State K V) (c : List (ℕ × State K V)) → DraftShows cmp spell_key spell_value u (p ∷ c) → (live : K → Bool) × (size_of p.1 ≡ u.parent.end.0 + (length (ops_for live u.changes.writes) + 1))
  draft_size u p [] h = absurd h
  draft_size u p (q ∷ c) h =
      let live = λ (key : K). is_some (live_at cmp q.1 key) in
      let parent = ap (λ (t : Target). t.end.0) h.1.1.1.0 in
      (live, omega (arith, parent, ap (λ (s : State K V). s.target.end.0) h.1.1.1.1, length-append (ops_for live u.changes.writes) (Commit u.changes.metadata ∷ [])))

  -- no point of the chain below has the id of the batch
  below_id : (base : ℕ) (ls : List (ℕ × Change K V)) (q : ℕ × State K V) (c : List (ℕ × State K V)) (x : ℕ × State K V) → Stands Step base ls (q ∷ c) → IsPoint x (q ∷ c) → x.0 ≤ q.0
  below_id base [] q [] x h (inl e) = let k : x.0 ≡ q.0 = ap (λ z. z.0) e in omega arith
  below_id base [] q [] x h (inr i) = absurd i
  below_id base [] q (r ∷ c) x h i = absurd h
  below_id base (l ∷ ls) q [] x h i = absurd h
  below_id base (l ∷ ls) q (r ∷ c) x h (inl e) = let k : x.0 ≡ q.0 = ap (λ z. z.0) e in omega arith
  below_id base (l ∷ ls) q (r ∷ c) x h (inr i) = let k : x.0 ≤ r.0 = below_id base ls r c x h.1.1.1 i in omega (arith, h.1.0)

  -- a database that isn't at the seal's own state is at a point of the parent's chain
  pub parent_leads : (u : Draft K V) (p q : ℕ × State K V) (c : List (ℕ × State K V)) (n : ℕ) (s : State K V) → DraftShows cmp spell_key spell_value u (p ∷ q ∷ c) → IsPoint (n, s) (p ∷ q ∷ c) → u.id ≢ n → Leads Step (above_in n u.below) s q.1
  parent_leads u p q c n s h (inl e) other = absurd (other (sym h.0 ∙ ap (λ z. z.0) (sym e)))
  parent_leads u p q c n s h (inr i) other = leads-above Step u.below.base u.below.layers q c n s h.1.1.0 i

  -- a database with the id of the seal is at its state
  pub own_state : (u : Draft K V) (p : ℕ × State K V) (c : List (ℕ × State K V)) (n : ℕ) (s : State K V) → DraftShows cmp spell_key spell_value u (p ∷ c) → IsPoint (n, s) (p ∷ c) → u.id ≡ n → s ≡ p.1
  own_state u p c n s h (inl e) same = ap (λ z. z.1) e
  own_state u p [] n s h (inr i) same = absurd h
  own_state u p (q ∷ c) n s h (inr i) same = let le = below_id u.below.base u.below.layers q c (n, s) h.1.1.0 i in absurd (omega (arith, h.0, h.1.0))

  -- a layer with the operations of a batch is its seal
  pub seals : IsTotalOrder cmp → (u : Draft K V) (l : ℕ × Change K V) (n : ℕ) (s : State K V) (index : List (K × ℕ)) (root : Digest) (start end : ℕ) (c : List (ℕ × State K V))
      → l.0 ≡ u.id → l.1.written.from ≡ u.parent.end.0 → IsIndexed cmp l.1.written
      → l.1.written.ops ≡ ops_for (λ key. is_some (place_through cmp (above_in n u.below) key (lookup (is_at (cmp key)) index))) u.changes.writes ++ Commit u.changes.metadata ∷ []
      → ((key : K) → lookup (is_at (cmp key)) index ≡ option_map (λ x. x.0) (live_at cmp s key))
      → l.1.target ≡ record { root = root; start = record { 0 = start }; end = record { 0 = end } }
      → root ≡ chained (op_bytes spell_key spell_value) u.parent.root l.1.written.ops
      → ((t : State K V) → Leads Step (above_in n u.below) s t → IsWhole s → l.1.written.from ≡ size_of t → IsIndexed cmp l.1.written → u.parent.start.0 ≡ t.target.start.0 → start ≡ u.parent.start.0 + passed cmp (t.kept ++ l.1.written.ops))
      → end ≡ u.parent.end.0 + length l.1.written.ops
      → IsWhole s → u.id ≢ n → DraftShows cmp spell_key spell_value u c → IsPoint (n, s) c
      → Stands Step u.below.base (l ∷ u.below.layers) c
  seals total u l n s index root start end [] named from indexed ops has target roots starts ends whole other h i = absurd h
  seals total u l n s index root start end (p ∷ []) named from indexed ops has target roots starts ends whole other h i = absurd h
  seals total u l n s index root start end (p ∷ q ∷ c) named from indexed ops has target roots starts ends whole other h i =
      let leads = parent_leads u p q c n s h i other in
      let reads = reads_through total spell_key spell_value (above_in n u.below) s q.1 leads whole in
      let parent = h.1.1.1.0 in
      let bytes = op_bytes spell_key spell_value in
      let more = l.1.written.ops in
      let through = λ (key : K). is_some (place_through cmp (above_in n u.below) key (lookup (is_at (cmp key)) index)) in
      let live = λ (key : K). is_some (live_at cmp q.1 key) in
      let agree : (key : K) → through key ≡ live key = λ key.
      ap (λ o. is_some (place_through cmp (above_in n u.below) key o)) (has key)
      ∙ ap is_some (reads.place key)
      ∙ is_some-map (live_at cmp q.1 key) in
      let all : more ≡ ops_of cmp u.changes q.1 = ops ∙ ap (λ xs. xs ++ Commit u.changes.metadata ∷ []) (ops_for-agree through live agree u.changes.writes) in
      let at : l.1.written.from ≡ size_of q.1 = from ∙ ap (λ (t : Target). t.end.0) parent in
      let next = after cmp spell_key spell_value q.1 more in
      let is : p.1 ≡ next = h.1.1.1.1 ∙ ap (λ xs. after cmp spell_key spell_value q.1 xs) (sym all) in
      let root_is : root ≡ next.target.root = roots ∙ ap (λ (t : Target). chained bytes t.root more) parent in
      let start_is : start ≡ next.target.start.0 = starts q.1 leads whole at indexed (ap (λ (t : Target). t.start.0) parent) ∙ ap (λ (t : Target). t.start.0 + passed cmp (q.1.kept ++ more)) parent in
      let end_is : end ≡ next.target.end.0 = ends ∙ ap (λ (t : Target). t.end.0 + length more) parent in
      let range : l.1.target ≡ next.target = target ∙ (λ i. record { root = root_is i; start = record { 0 = start_is i }; end = record { 0 = end_is i } }) in
      (named ∙ sym h.0, (h.1.0, ((at, (indexed, (is, range ∙ ap (λ (x : State K V). x.target) (sym is)))), h.1.1.0)))

  -- what a batch reads: what it writes at the key itself, or what its parent has there
  pub draft_written : IsTotalOrder cmp → (u : Draft K V) (p : ℕ × State K V) (c : List (ℕ × State K V)) (key : K) (value : Option V) → DraftShows cmp spell_key spell_value u (p ∷ c) → IsStrictlySortedBy cmp (keys_of u.changes.writes)
      → lookup (is_at (cmp key)) u.changes.writes ≡ Some value → value_at cmp p.1 key ≡ value
  draft_written total u p [] key value h sorted is = absurd h
  draft_written total u p (q ∷ c) key value h sorted is =
      ap (λ (s : State K V). value_at cmp s key) h.1.1.1.1
      ∙ sealed_value total spell_key spell_value u.changes q.1 key sorted
      ∙ ap (λ o. unwrap_or o (value_at cmp q.1 key)) is

  pub draft_below : IsTotalOrder cmp → (u : Draft K V) (p q : ℕ × State K V) (c : List (ℕ × State K V)) (key : K) → DraftShows cmp spell_key spell_value u (p ∷ q ∷ c) → IsStrictlySortedBy cmp (keys_of u.changes.writes)
      → lookup (is_at (cmp key)) u.changes.writes ≡ None → value_at cmp p.1 key ≡ value_at cmp q.1 key
  draft_below total u p q c key h sorted none =
      ap (λ (s : State K V). value_at cmp s key) h.1.1.1.1
      ∙ sealed_value total spell_key spell_value u.changes q.1 key sorted
      ∙ ap (λ o. unwrap_or o (value_at cmp q.1 key)) none

  pub draft_read : IsTotalOrder cmp → (u : Draft K V) (p : ℕ × State K V) (c : List (ℕ × State K V)) (n : ℕ) (s : State K V) (key : K) (value : Option V) → DraftShows cmp spell_key spell_value u (p ∷ c) → IsPoint (n, s) (p ∷ c) → u.id ≢ n
      → IsStrictlySortedBy cmp (keys_of u.changes.writes) → lookup (is_at (cmp key)) u.changes.writes ≡ None
      → ((t : State K V) → Leads Step (above_in n u.below) s t → value ≡ value_at cmp t key) → value ≡ value_at cmp p.1 key
  draft_read total u p [] n s key value h i other sorted none reads = absurd h
  draft_read total u p (q ∷ c) n s key value h i other sorted none reads =
      reads q.1 (parent_leads u p q c n s h i other) ∙ sym (draft_below total u p q c key h sorted none)

  -- the ids of a sealed batch's chain are its own and those of the layers below it
  pub seal_has : (m : Seal K V) (c : List (ℕ × State K V)) (n : ℕ) → SealShows cmp spell_key spell_value m c → has_id c n ≡ ((m.layer.0 == n) || has_layer m.below n)
  seal_has m c n h = has_id-layers Step m.below.base (m.layer ∷ m.below.layers) c n h ∙ has_layer-more Step m.below m.layer n

  -- how long its chain is
  stands_length : (base : ℕ) (ls : List (ℕ × Change K V)) (c : List (ℕ × State K V)) → Stands Step base ls c → length c ≡ length ls + 1
  stands_length base [] [] h = absurd h
  stands_length base [] (p ∷ []) h = omega arith
  stands_length base [] (p ∷ q ∷ c) h = absurd h
  stands_length base (l ∷ ls) [] h = absurd h
  stands_length base (l ∷ ls) (p ∷ []) h = absurd h
  stands_length base (l ∷ ls) (p ∷ q ∷ c) h = omega (arith, stands_length base ls (q ∷ c) h.1.1.1)

  pub seal_length : (m : Seal K V) (c : List (ℕ × State K V)) → SealShows cmp spell_key spell_value m c → length c ≡ length m.below.layers + 1 + 1
  seal_length m c h = omega (arith, stands_length m.below.base (m.layer ∷ m.below.layers) c h)

  -- what a sealed batch reads, over a database at its own state, or at a point of its parent's chain
  pub seal_own : (m : Seal K V) (p : ℕ × State K V) (c : List (ℕ × State K V)) (n : ℕ) (s : State K V) → SealShows cmp spell_key spell_value m (p ∷ c) → IsPoint (n, s) (p ∷ c) → m.layer.0 ≡ n → s ≡ p.1
  seal_own m p c n s h (inl e) same = ap (λ z. z.1) e
  seal_own m p [] n s h (inr i) same = absurd h
  seal_own m p (q ∷ c) n s h (inr i) same = let le = below_id m.below.base m.below.layers q c (n, s) h.1.1.1 i in absurd (omega (arith, h.0, h.1.0))

  pub seal_read : IsTotalOrder cmp → (m : Seal K V) (p : ℕ × State K V) (c : List (ℕ × State K V)) (n : ℕ) (s : State K V) (key : K) (value : Option V) → SealShows cmp spell_key spell_value m (p ∷ c) → IsPoint (n, s) (p ∷ c) → m.layer.0 ≢ n
      → ((t : State K V) → Leads Step (above_in n m.below) s t → m.layer.1.written.from ≡ size_of t → IsIndexed cmp m.layer.1.written → value ≡ option_map (λ w. w.1) (last_write cmp key t.target.start.0 (t.kept ++ m.layer.1.written.ops) None)) → value ≡ value_at cmp p.1 key
  seal_read total m p [] n s key value h i other reads = absurd h
  seal_read total m p (q ∷ c) n s key value h (inl e) other reads = absurd (other (h.0 ∙ ap (λ z. z.0) (sym e)))
  seal_read total m p (q ∷ c) n s key value h (inr i) other reads =
      let leads = leads-above Step m.below.base m.below.layers q c n s h.1.1.1 i in
      let step = h.1.1.0 in
      reads q.1 leads step.0 step.1.0
      ∙ sym (ap (λ (x : State K V). value_at cmp x key) step.1.1.0 ∙ ap (λ o. option_map (λ (w : ℕ × V). w.1) o) (live_after total spell_key spell_value q.1 m.layer.1.written.ops key))
