-- The laws of a set that has one database before the others, by those of its parts.
use Rattle.std.proofs.Common.{◌≡◌, ℕ, zero, suc, ◌+◌, ◌<◌, ◌≤◌, ◌⊎◌, inl, inr, List, [], ◌∷◌, ◌++◌}
use Rattle.std.proofs.Common.{map, length, drop, max, Option, Some, None, refl, sym, ap, subst, ◌∙◌}
use Rattle.std.proofs.Common.{arith}
use Rattle.std.specs.Prelude.{slice_get}
use Rattle.std.proofs.lemmas.List.{map-append}
use Rattle.std.proofs.lemmas.Option.{slice_get-map}
use Rattle.stateful_base.specs.Causes.{Rose}
use Rattle.stateful_db.specs.Tokens.{without}
use Rattle.stateful_db.specs.Databases.{Databases, EndsWithin, Preserves}
use Rattle.stateful_db.specs.Pair.{left, right, both, first_of, others_of, by_number, LostInOrder}
use Rattle.stateful_db.specs.Pair.{pair}
use Rattle.stateful_db.specs.Laws.{KeepsUpTo, KeepsFrom, IdLaws, TargetLaws, PlaceLaws, ApplyLaws}
use Rattle.stateful_db.specs.Laws.{FinalizeLaws, FlushLaws, PruneLaws, OpeningLaws, Laws}
use Rattle.stateful_db.specs.declared.database.InitError.{InitError}
use Rattle.stateful_db.specs.declared.database.InitError.TheVariants as error

module _ {I J S T : Type 0} where
  pub both_left : (x : Option (I × S)) (y : Option (J × T)) (p : (I × J) × (S × T))
      → both x y ≡ Some p
      → x ≡ Some (left p)
  both_left None y p h = cc
  both_left (Some x) None p h = cc
  both_left (Some x) (Some y) p h = cc

  pub both_right : (x : Option (I × S)) (y : Option (J × T)) (p : (I × J) × (S × T))
      → both x y ≡ Some p
      → y ≡ Some (right p)
  both_right None y p h = cc
  both_right (Some x) None p h = cc
  both_right (Some x) (Some y) p h = cc

  pub both_points : (x : Option (I × S)) (y : Option (J × T)) (p : (I × J) × (S × T))
      → x ≡ Some (left p)
      → y ≡ Some (right p)
      → both x y ≡ Some p
  both_points x y p one other = rw (one, other) refl

module _ {I J S U T V : Type 0} (a : Databases I S T) (b : Databases J U V) (A : Laws a)
    (B : Laws b) (one : a.count ≡ 1) where
  within : (i : ℕ) → suc i < suc b.count → i < b.count
  within i h = omega arith

  -- ---- batch ids

  cut_with : {X Y : Type 0} (f : X → Y) (Issued : List Y → Type 0) (above older : List X) (p : X)
      → ((above older : List Y) (p : Y) → Issued (above ++ p ∷ older) → Issued (above ++ p ∷ []))
      → Issued (map f (above ++ p ∷ older)) → Issued (map f (above ++ p ∷ []))
  cut_with f Issued above older p law issued =
      let before : Issued (map f above ++ f p ∷ map f older) =
      subst Issued (map-append f above (p ∷ older)) issued in
      subst Issued (sym (map-append f above (p ∷ [])))
      (law (map f above) (map f older) (f p) before)

  ids : IdLaws (pair a b)
  ids = record {
    issued_first =
        λ n p c h. (
          A.ids.issued_first n.0 (left p) (map left c) h.0,
          B.ids.issued_first n.1 (right p) (map right c) h.1,
        );
    issued_other =
        λ n i s t c h. (
          A.ids.issued_other n.0 i.0 s.0 t.0 (map left c) h.0,
          B.ids.issued_other n.1 i.1 s.1 t.1 (map right c) h.1,
        );
    issued_cut = λ n above older p h. (
      cut_with left (a.issued n.0) above older p (A.ids.issued_cut n.0) h.0,
      cut_with right (b.issued n.1) above older p (B.ids.issued_cut n.1) h.1,
    );
    issued_following =
        λ n c h.
        (A.ids.issued_following n.0 (map left c) h.0, B.ids.issued_following n.1 (map right c) h.1);
  }

  -- ---- targets

  -- what holds of the number 0 holds of each number of the first
  at_first : (P : ℕ → Type 0) → P 0 → (i : ℕ) → i < a.count → P i
  at_first P p i h = let is : 0 ≡ i = omega arith in subst P is p

  has_first : 0 < a.count
  has_first = omega arith

  agrees_same : (t : T × V) (i : ℕ) → (pair a b).Agrees t t i
  agrees_same t zero = A.targets.agrees_same t.0 0
  agrees_same t (suc i) = B.targets.agrees_same t.1 i

  targets : TargetLaws (pair a b)
  targets = record {
    agrees_all = λ t u same.
        let first : t.0 ≡ u.0 =
        A.targets.agrees_all t.0 u.0 (at_first (a.Agrees t.0 u.0) (same zero (omega arith))) in
        let others : t.1 ≡ u.1 = B.targets.agrees_all t.1 u.1 (λ i h. same (suc i) (omega arith)) in
        rw (first, others) refl;
    agrees_same = agrees_same;
  }

  -- ---- where the databases are

  left_here : (m : (pair a b).Members) (p : (I × J) × (S × U))
      → (pair a b).point m ≡ Some p
      → a.point m.0 ≡ Some (left p)
  left_here m p is = both_left (a.point m.0) (b.point m.1) p is

  right_here : (m : (pair a b).Members) (p : (I × J) × (S × U))
      → (pair a b).point m ≡ Some p
      → b.point m.1 ≡ Some (right p)
  right_here m p is = both_right (a.point m.0) (b.point m.1) p is

  has_state : (m : (pair a b).Members) (p : (I × J) × (S × U)) (i : ℕ)
      → (pair a b).point m ≡ Some p
      → (pair a b).HasState m i p.1
  has_state m p zero is = A.places.has_state m.0 (left p) 0 (left_here m p is)
  has_state m p (suc i) is = B.places.has_state m.1 (right p) i (right_here m p is)

  has_newest : (m : (pair a b).Members) (p : (I × J) × (S × U)) (i : ℕ)
      → i < suc b.count
      → (pair a b).point m ≡ Some p
      → (pair a b).HasAt m i ((pair a b).place m i) p.1
  has_newest m p zero h is = A.places.has_newest m.0 (left p) 0 has_first (left_here m p is)
  has_newest m p (suc i) h is = B.places.has_newest m.1 (right p) i (within i h) (right_here m p is)

  newest_has : (m : (pair a b).Members) (i : ℕ) (s : S × U)
      → i < suc b.count
      → (pair a b).HasAt m i ((pair a b).place m i) s
      → (pair a b).HasState m i s
  newest_has m zero s h is = A.places.newest_has m.0 0 s.0 has_first is
  newest_has m (suc i) s h is = B.places.newest_has m.1 i s.1 (within i h) is

  mapped : {X Y : Type 0} (f : X → Y) (xs : List X) (k : ℕ) (x : X)
      → slice_get xs k ≡ Some x
      → slice_get (map f xs) k ≡ Some (f x)
  mapped f xs k x is = slice_get-map f xs k ∙ rw is refl

  has_kept : (m : (pair a b).Members) (i origin k : ℕ) (states : List (S × U)) (s : S × U)
      → i < suc b.count
      → (pair a b).Keeps m i origin states
      → slice_get states k ≡ Some s
      → (pair a b).first m i ≤ origin + k
      → (pair a b).HasAt m i (origin + k) s
  has_kept m zero origin k states s h keeps is near =
      A.places.has_kept m.0 0 origin k (map (λ t. t.0) states) s.0 has_first keeps
      (mapped (λ (t : S × U). t.0) states k s is) near
  has_kept m (suc i) origin k states s h keeps is near =
      B.places.has_kept m.1 i origin k (map (λ t. t.1) states) s.1 (within i h) keeps
      (mapped (λ (t : S × U). t.1) states k s is) near

  tokens_idle : (m : (pair a b).Members) (i : ℕ) → (pair a b).Idle m → (pair a b).tokens m i ≡ []
  tokens_idle m zero idle = A.places.tokens_idle m.0 0 idle.0
  tokens_idle m (suc i) idle = B.places.tokens_idle m.1 i idle.1

  places : PlaceLaws (pair a b)
  places = record {
    openable_closed =
        λ m h. (A.places.openable_closed m.0 h.0, B.places.openable_closed m.1 h.1);
    away_openable = λ m h. (A.places.away_openable m.0 h.0, B.places.away_openable m.1 h.1);
    away_here =
        λ m p is. (
          A.places.away_here m.0 (left p) (left_here m p is),
          B.places.away_here m.1 (right p) (right_here m p is),
        );
    has_state = has_state;
    has_newest = has_newest;
    newest_has = newest_has;
    whole_states = λ m p s is all.
        let first : p.1.0 ≡ s.0 =
        A.places.whole_states m.0 (left p) s.0 (left_here m p is)
        (at_first (λ i. a.HasState m.0 i s.0) (all zero (omega arith))) in
        let others : p.1.1 ≡ s.1 =
        B.places.whole_states m.1 (right p) s.1 (right_here m p is)
        (λ i h. all (suc i) (omega arith)) in
        rw (first, others) refl;
    has_kept = has_kept;
    idle_from = λ m p is out. (
      A.places.idle_from m.0 (left p) (left_here m p is)
          (at_first (λ i. a.tokens m.0 i ≡ []) (out zero (omega arith))),
      B.places.idle_from m.1 (right p) (right_here m p is) (λ i h. out (suc i) (omega arith)),
    );
    room_from = λ m p is out. (
      A.places.room_from m.0 (left p) (left_here m p is)
          (at_first (λ i. length (a.tokens m.0 i) < 2) (out zero (omega arith))),
      B.places.room_from m.1 (right p) (right_here m p is) (λ i h. out (suc i) (omega arith)),
    );
    idle_room = λ m h. (A.places.idle_room m.0 h.0, B.places.idle_room m.1 h.1);
    tokens_idle = tokens_idle;
  }

  -- ---- an apply

  keeps_applied : (m : (pair a b).Members) (p q : (I × J) × (S × U)) (i origin : ℕ)
      (states : List (S × U))
      → i < suc b.count
      → origin ≤ (pair a b).place m i
      → (pair a b).point m ≡ Some p
      → (pair a b).Keeps m i origin states
      → (pair a b).Keeps ((pair a b).applied m q) i origin (states ++ q.1 ∷ [])
  keeps_applied m p q zero origin states h near is keeps =
      subst (a.Keeps (a.applied m.0 (left q)) 0 origin)
      (sym (map-append (λ (t : S × U). t.0) states (q.1 ∷ [])))
      (A.apply.keeps_applied m.0 (left p) (left q) 0 origin (map (λ t. t.0) states) has_first near
      (left_here m p is) keeps)
  keeps_applied m p q (suc i) origin states h near is keeps =
      subst (b.Keeps (b.applied m.1 (right q)) i origin)
      (sym (map-append (λ (t : S × U). t.1) states (q.1 ∷ [])))
      (B.apply.keeps_applied m.1 (right p) (right q) i origin (map (λ t. t.1) states)
      (within i h) near (right_here m p is) keeps)

  first_applied : (m : (pair a b).Members) (q : (I × J) × (S × U)) (i : ℕ)
      → (pair a b).first ((pair a b).applied m q) i ≡ (pair a b).first m i
  first_applied m q zero = A.apply.first_applied m.0 (left q) 0
  first_applied m q (suc i) = B.apply.first_applied m.1 (right q) i

  place_applied : (m : (pair a b).Members) (p q : (I × J) × (S × U)) (i : ℕ)
      → i < suc b.count
      → (pair a b).point m ≡ Some p
      → (pair a b).place ((pair a b).applied m q) i ≡ (pair a b).place m i + 1
  place_applied m p q zero h is =
      A.apply.place_applied m.0 (left p) (left q) 0 has_first (left_here m p is)
  place_applied m p q (suc i) h is =
      B.apply.place_applied m.1 (right p) (right q) i (within i h) (right_here m p is)

  durable_applied : (m : (pair a b).Members) (q : (I × J) × (S × U)) (i : ℕ)
      → (pair a b).durable ((pair a b).applied m q) i ≡ (pair a b).durable m i
  durable_applied m q zero = A.apply.durable_applied m.0 (left q) 0
  durable_applied m q (suc i) = B.apply.durable_applied m.1 (right q) i

  tokens_applied : (m : (pair a b).Members) (q : (I × J) × (S × U)) (i : ℕ)
      → (pair a b).tokens ((pair a b).applied m q) i ≡ (pair a b).tokens m i
  tokens_applied m q zero = A.apply.tokens_applied m.0 (left q) 0
  tokens_applied m q (suc i) = B.apply.tokens_applied m.1 (right q) i

  -- a change of both that keeps what each kept
  preserves : (m k : (pair a b).Members)
      → Preserves a m.0 k.0
      → Preserves b m.1 k.1
      → Preserves (pair a b) m k
  preserves m k first others = record { kept = kept; durable = durable }
    where
      kept : (i n : ℕ) (s : S × U)
          → i < suc b.count
          → (pair a b).HasAt m i n s
          → (pair a b).HasAt k i n s
      kept zero n s h has = first.kept 0 n s.0 has_first has
      kept (suc i) n s h has = others.kept i n s.1 (within i h) has

      durable : (i : ℕ) → i < suc b.count → (pair a b).durable m i ≤ (pair a b).durable k i
      durable zero h = first.durable 0 has_first
      durable (suc i) h = others.durable i (within i h)

  same_first : (m k : a.Members) → k ≡ m → Preserves a m k
  same_first m k is = rw is (record { kept = λ i n s h has. has; durable = λ i h. omega arith })

  same_others : (m k : b.Members) → k ≡ m → Preserves b m k
  same_others m k is = rw is (record { kept = λ i n s h has. has; durable = λ i h. omega arith })

  preserves_lost_applying : (m k : (pair a b).Members) (q : (I × J) × (S × U)) (n : ℕ)
      → (pair a b).LostApplying m q n k
      → Preserves (pair a b) m k
  preserves_lost_applying m k q zero is =
      preserves m k (A.apply.preserves_lost_applying m.0 k.0 (left q) 0 is.0)
      (same_others m.1 k.1 is.1)
  preserves_lost_applying m k q (suc n) is =
      preserves m k (subst (Preserves a m.0) (sym is.0) (A.apply.preserves_applied m.0 (left q)))
      (B.apply.preserves_lost_applying m.1 k.1 (right q) n is.1)

  apply : ApplyLaws (pair a b)
  apply = record {
    keeps_applied = keeps_applied;
    first_applied = first_applied;
    place_applied = place_applied;
    durable_applied = durable_applied;
    tokens_applied = tokens_applied;
    point_applied =
        λ m p q is. both_points (a.point (a.applied m.0 (left q)))
        (b.point (b.applied m.1 (right q))) q
        (A.apply.point_applied m.0 (left p) (left q) (left_here m p is))
        (B.apply.point_applied m.1 (right p) (right q) (right_here m p is));
    preserves_applied =
        λ m q. preserves m ((pair a b).applied m q) (A.apply.preserves_applied m.0 (left q))
        (B.apply.preserves_applied m.1 (right q));
    preserves_lost_applying = preserves_lost_applying;
  }

  -- ---- a finalize

  keeps_finalized : (m : (pair a b).Members) (i origin : ℕ) (states : List (S × U))
      → (pair a b).Keeps m i origin states
      → (pair a b).Keeps ((pair a b).finalized m) i origin states
  keeps_finalized m zero origin states keeps =
      A.finalize.keeps_finalized m.0 0 origin (map (λ t. t.0) states) keeps
  keeps_finalized m (suc i) origin states keeps =
      B.finalize.keeps_finalized m.1 i origin (map (λ t. t.1) states) keeps

  first_finalized : (m : (pair a b).Members) (i : ℕ)
      → (pair a b).first ((pair a b).finalized m) i ≡ (pair a b).first m i
  first_finalized m zero = A.finalize.first_finalized m.0 0
  first_finalized m (suc i) = B.finalize.first_finalized m.1 i

  place_finalized : (m : (pair a b).Members) (i : ℕ)
      → (pair a b).place ((pair a b).finalized m) i ≡ (pair a b).place m i
  place_finalized m zero = A.finalize.place_finalized m.0 0
  place_finalized m (suc i) = B.finalize.place_finalized m.1 i

  durable_finalized : (m : (pair a b).Members) (i : ℕ)
      → (pair a b).durable ((pair a b).finalized m) i ≡ (pair a b).durable m i
  durable_finalized m zero = A.finalize.durable_finalized m.0 0
  durable_finalized m (suc i) = B.finalize.durable_finalized m.1 i

  tokens_finalized : (m : (pair a b).Members) (p : (I × J) × (S × U)) (i : ℕ)
      → i < suc b.count
      → (pair a b).point m ≡ Some p
      → (pair a b).tokens ((pair a b).finalized m) i ≡ (pair a b).tokens m i ++ (pair a b).place m i
      ∷ []
  tokens_finalized m p zero h is =
      A.finalize.tokens_finalized m.0 (left p) 0 has_first (left_here m p is)
  tokens_finalized m p (suc i) h is =
      B.finalize.tokens_finalized m.1 (right p) i (within i h) (right_here m p is)

  state_finalized : (m : (pair a b).Members) (i : ℕ) (s : S × U)
      → (pair a b).HasState m i s
      → (pair a b).HasState ((pair a b).finalized m) i s
  state_finalized m zero s has = A.finalize.state_finalized m.0 0 s.0 has
  state_finalized m (suc i) s has = B.finalize.state_finalized m.1 i s.1 has

  preserves_lost_finalizing : (m k : (pair a b).Members) (n : ℕ)
      → (pair a b).LostFinalizing m n k
      → Preserves (pair a b) m k
  preserves_lost_finalizing m k zero is =
      preserves m k (A.finalize.preserves_lost_finalizing m.0 k.0 0 is.0) (same_others m.1 k.1 is.1)
  preserves_lost_finalizing m k (suc n) is =
      preserves m k (subst (Preserves a m.0) (sym is.0) (A.finalize.preserves_finalized m.0))
      (B.finalize.preserves_lost_finalizing m.1 k.1 n is.1)

  finalize : FinalizeLaws (pair a b)
  finalize = record {
    keeps_finalized = keeps_finalized;
    first_finalized = first_finalized;
    place_finalized = place_finalized;
    durable_finalized = durable_finalized;
    tokens_finalized = tokens_finalized;
    point_finalized = λ m. rw (A.finalize.point_finalized m.0, B.finalize.point_finalized m.1) refl;
    state_finalized = state_finalized;
    preserves_finalized =
        λ m. preserves m ((pair a b).finalized m) (A.finalize.preserves_finalized m.0)
        (B.finalize.preserves_finalized m.1);
    preserves_lost_finalizing = preserves_lost_finalizing;
  }

  -- ---- a flush

  keeps_flushed : (m : (pair a b).Members) (n at i origin : ℕ) (states : List (S × U))
      → (pair a b).Keeps m i origin states
      → (pair a b).Keeps ((pair a b).flushed m n at) i origin states
  keeps_flushed m zero at zero origin states keeps =
      A.flush.keeps_flushed m.0 0 at 0 origin (map (λ t. t.0) states) keeps
  keeps_flushed m zero at (suc i) origin states keeps = keeps
  keeps_flushed m (suc n) at zero origin states keeps = keeps
  keeps_flushed m (suc n) at (suc i) origin states keeps =
      B.flush.keeps_flushed m.1 n at i origin (map (λ t. t.1) states) keeps

  first_flushed : (m : (pair a b).Members) (n at i : ℕ)
      → (pair a b).first ((pair a b).flushed m n at) i ≡ (pair a b).first m i
  first_flushed m zero at zero = A.flush.first_flushed m.0 0 at 0
  first_flushed m zero at (suc i) = refl
  first_flushed m (suc n) at zero = refl
  first_flushed m (suc n) at (suc i) = B.flush.first_flushed m.1 n at i

  place_flushed : (m : (pair a b).Members) (n at i : ℕ)
      → (pair a b).place ((pair a b).flushed m n at) i ≡ (pair a b).place m i
  place_flushed m zero at zero = A.flush.place_flushed m.0 0 at 0
  place_flushed m zero at (suc i) = refl
  place_flushed m (suc n) at zero = refl
  place_flushed m (suc n) at (suc i) = B.flush.place_flushed m.1 n at i

  durable_flushed : (m : (pair a b).Members) (p : (I × J) × (S × U)) (n at : ℕ)
      → n < suc b.count
      → (pair a b).point m ≡ Some p
      → (pair a b).durable ((pair a b).flushed m n at) n ≡ max at ((pair a b).durable m n)
  durable_flushed m p zero at h is =
      A.flush.durable_flushed m.0 (left p) 0 at has_first (left_here m p is)
  durable_flushed m p (suc n) at h is =
      B.flush.durable_flushed m.1 (right p) n at (within n h) (right_here m p is)

  durable_others : (m : (pair a b).Members) (n at i : ℕ)
      → n < suc b.count
      → i < suc b.count
      → (i ≡ n → ⊥)
      → (pair a b).durable ((pair a b).flushed m n at) i ≡ (pair a b).durable m i
  durable_others m zero at zero h k other = absurd (other refl)
  durable_others m zero at (suc i) h k other = refl
  durable_others m (suc n) at zero h k other = refl
  durable_others m (suc n) at (suc i) h k other =
      B.flush.durable_others m.1 n at i (within n h) (within i k) (λ same. other (ap suc same))

  tokens_flushed : (m : (pair a b).Members) (n at : ℕ)
      → n < suc b.count
      → (pair a b).tokens ((pair a b).flushed m n at) n ≡ without at ((pair a b).tokens m n)
  tokens_flushed m zero at h = A.flush.tokens_flushed m.0 0 at has_first
  tokens_flushed m (suc n) at h = B.flush.tokens_flushed m.1 n at (within n h)

  tokens_others : (m : (pair a b).Members) (n at i : ℕ)
      → n < suc b.count
      → i < suc b.count
      → (i ≡ n → ⊥)
      → (pair a b).tokens ((pair a b).flushed m n at) i ≡ (pair a b).tokens m i
  tokens_others m zero at zero h k other = absurd (other refl)
  tokens_others m zero at (suc i) h k other = refl
  tokens_others m (suc n) at zero h k other = refl
  tokens_others m (suc n) at (suc i) h k other =
      B.flush.tokens_others m.1 n at i (within n h) (within i k) (λ same. other (ap suc same))

  point_flushed : (m : (pair a b).Members) (n at : ℕ)
      → (pair a b).point ((pair a b).flushed m n at) ≡ (pair a b).point m
  point_flushed m zero at = rw (A.flush.point_flushed m.0 0 at) refl
  point_flushed m (suc n) at = rw (B.flush.point_flushed m.1 n at) refl

  preserves_flushed : (m : (pair a b).Members) (n at : ℕ)
      → Preserves (pair a b) m ((pair a b).flushed m n at)
  preserves_flushed m zero at =
      preserves m ((pair a b).flushed m zero at) (A.flush.preserves_flushed m.0 0 at)
      (same_others m.1 m.1 refl)
  preserves_flushed m (suc n) at =
      preserves m ((pair a b).flushed m (suc n) at) (same_first m.0 m.0 refl)
      (B.flush.preserves_flushed m.1 n at)

  preserves_lost_flushing : (m k : (pair a b).Members) (n at : ℕ)
      → (pair a b).LostFlushing m n at k
      → Preserves (pair a b) m k
  preserves_lost_flushing m k zero at is =
      preserves m k (A.flush.preserves_lost_flushing m.0 k.0 0 at is.0) (same_others m.1 k.1 is.1)
  preserves_lost_flushing m k (suc n) at is =
      preserves m k (same_first m.0 k.0 is.0) (B.flush.preserves_lost_flushing m.1 k.1 n at is.1)

  flush : FlushLaws (pair a b)
  flush = record {
    keeps_flushed = keeps_flushed;
    first_flushed = first_flushed;
    place_flushed = place_flushed;
    durable_flushed = durable_flushed;
    durable_others = durable_others;
    tokens_flushed = tokens_flushed;
    tokens_others = tokens_others;
    point_flushed = point_flushed;
    preserves_flushed = preserves_flushed;
    preserves_lost_flushing = preserves_lost_flushing;
  }

  -- ---- a prune

  keeps_pruned : (m : (pair a b).Members) (t : T × V) (i origin : ℕ) (states : List (S × U))
      → (pair a b).Prunable m t
      → (pair a b).Keeps m i origin states
      → (pair a b).Keeps ((pair a b).pruned m t) i origin states
  keeps_pruned m t zero origin states prunable keeps =
      A.prune.keeps_pruned m.0 t.0 0 origin (map (λ u. u.0) states) prunable.0 keeps
  keeps_pruned m t (suc i) origin states prunable keeps =
      B.prune.keeps_pruned m.1 t.1 i origin (map (λ u. u.1) states) prunable.1 keeps

  first_pruned : (m : (pair a b).Members) (t : T × V) (i k : ℕ) (s : S × U)
      → (pair a b).Sound m
      → (pair a b).Prunable m t
      → i < suc b.count
      → (pair a b).HasAt m i k s
      → (pair a b).Agrees ((pair a b).target_of s) t i
      → (pair a b).first ((pair a b).pruned m t) i ≡ k
  first_pruned m t zero k s sound prunable h has same =
      A.prune.first_pruned m.0 t.0 0 k s.0 sound.0 prunable.0 has_first has same
  first_pruned m t (suc i) k s sound prunable h has same =
      B.prune.first_pruned m.1 t.1 i k s.1 sound.1 prunable.1 (within i h) has same

  place_pruned : (m : (pair a b).Members) (t : T × V) (i : ℕ)
      → (pair a b).Prunable m t
      → (pair a b).place ((pair a b).pruned m t) i ≡ (pair a b).place m i
  place_pruned m t zero prunable = A.prune.place_pruned m.0 t.0 0 prunable.0
  place_pruned m t (suc i) prunable = B.prune.place_pruned m.1 t.1 i prunable.1

  durable_pruned : (m : (pair a b).Members) (t : T × V) (i : ℕ)
      → (pair a b).durable ((pair a b).pruned m t) i ≡ (pair a b).durable m i
  durable_pruned m t zero = A.prune.durable_pruned m.0 t.0 0
  durable_pruned m t (suc i) = B.prune.durable_pruned m.1 t.1 i

  tokens_pruned : (m : (pair a b).Members) (t : T × V) (i : ℕ)
      → (pair a b).tokens ((pair a b).pruned m t) i ≡ (pair a b).tokens m i
  tokens_pruned m t zero = A.prune.tokens_pruned m.0 t.0 0
  tokens_pruned m t (suc i) = B.prune.tokens_pruned m.1 t.1 i

  state_pruned : (m : (pair a b).Members) (t : T × V) (i : ℕ) (s : S × U)
      → (pair a b).HasState m i s
      → (pair a b).HasState ((pair a b).pruned m t) i s
  state_pruned m t zero s has = A.prune.state_pruned m.0 t.0 0 s.0 has
  state_pruned m t (suc i) s has = B.prune.state_pruned m.1 t.1 i s.1 has

  -- a change of both that keeps what each keeps behind a prune
  keeps_from : (t : T × V) (m k : (pair a b).Members)
      → KeepsFrom a t.0 m.0 k.0
      → KeepsFrom b t.1 m.1 k.1
      → KeepsFrom (pair a b) t m k
  keeps_from t m k first others = record { kept = kept; durable = durable }
    where
      kept : (i n : ℕ) (s : S × U)
          → i < suc b.count
          → (pair a b).first ((pair a b).pruned m t) i ≤ n
          → (pair a b).HasAt m i n s
          → (pair a b).HasAt k i n s
      kept zero n s h from has = first.kept 0 n s.0 has_first from has
      kept (suc i) n s h from has = others.kept i n s.1 (within i h) from has

      durable : (i : ℕ) → i < suc b.count → (pair a b).durable k i ≡ (pair a b).durable m i
      durable zero h = first.durable 0 has_first
      durable (suc i) h = others.durable i (within i h)

  from_first : (t : T) (m k : a.Members) → k ≡ m → KeepsFrom a t m k
  from_first t m k is = rw is (record { kept = λ i n s h from has. has; durable = λ i h. refl })

  from_others : (t : V) (m k : b.Members) → k ≡ m → KeepsFrom b t m k
  from_others t m k is = rw is (record { kept = λ i n s h from has. has; durable = λ i h. refl })

  kept_lost_pruning : (m k : (pair a b).Members) (t : T × V) (n : ℕ)
      → (pair a b).Prunable m t
      → (pair a b).LostPruning m t n k
      → KeepsFrom (pair a b) t m k
  kept_lost_pruning m k t zero prunable is =
      keeps_from t m k (A.prune.kept_lost_pruning m.0 k.0 t.0 0 prunable.0 is.0)
      (from_others t.1 m.1 k.1 is.1)
  kept_lost_pruning m k t (suc n) prunable is =
      keeps_from t m k
      (subst (KeepsFrom a t.0 m.0) (sym is.0) (A.prune.kept_pruned m.0 t.0 prunable.0))
      (B.prune.kept_lost_pruning m.1 k.1 t.1 n prunable.1 is.1)

  prune : PruneLaws (pair a b)
  prune = record {
    prunable_from = λ m t sound idle kept. (
      A.prune.prunable_from m.0 t.0 sound.0 idle.0
          (at_first
          (λ i. (k : ℕ)
          × (s : S)
          × a.HasAt m.0 i k s
          × a.Agrees (a.target_of s) t.0 i
          × (k ≤ a.durable m.0 i))
          (let k = kept zero (omega arith) in (k.0, k.1.0, k.2, k.3, k.4))),
      B.prune.prunable_from m.1 t.1 sound.1 idle.1
          (λ i h. let k = kept (suc i) (omega arith) in (k.0, k.1.1, k.2, k.3, k.4)),
    );
    keeps_pruned = keeps_pruned;
    first_pruned = first_pruned;
    place_pruned = place_pruned;
    durable_pruned = durable_pruned;
    tokens_pruned = tokens_pruned;
    point_pruned = λ m t. rw (A.prune.point_pruned m.0 t.0, B.prune.point_pruned m.1 t.1) refl;
    state_pruned = state_pruned;
    kept_pruned =
        λ m t prunable. keeps_from t m ((pair a b).pruned m t)
        (A.prune.kept_pruned m.0 t.0 prunable.0) (B.prune.kept_pruned m.1 t.1 prunable.1);
    kept_lost_pruning = kept_lost_pruning;
  }

  -- ---- a crash and an opening

  durable_crashed : (m k : (pair a b).Members) (keep : List ℕ) (i : ℕ)
      → i < suc b.count
      → (pair a b).Crashed m keep k
      → (pair a b).durable k i ≡ (pair a b).durable m i
  durable_crashed m k keep zero h is = A.opening.durable_crashed m.0 k.0 keep 0 has_first is.0
  durable_crashed m k keep (suc i) h is =
      B.opening.durable_crashed m.1 k.1 (drop 1 keep) i (within i h) is.1

  kept_crashed : (m k : (pair a b).Members) (keep : List ℕ) (i at : ℕ) (s : S × U)
      → i < suc b.count
      → (pair a b).Crashed m keep k
      → at ≤ (pair a b).durable m i
      → (pair a b).HasAt m i at s
      → (pair a b).HasAt k i at s
  kept_crashed m k keep zero at s h is near has =
      A.opening.kept_crashed m.0 k.0 keep 0 at s.0 has_first is.0 near has
  kept_crashed m k keep (suc i) at s h is near has =
      B.opening.kept_crashed m.1 k.1 (drop 1 keep) i at s.1 (within i h) is.1 near has

  refused : (m k : (pair a b).Members) (expected : Option (T × V)) (i : ℕ) (why : InitError)
      → i < suc b.count
      → (pair a b).Refuses m expected i why
      → (pair a b).Reopened m expected k
      → ⊥
  refused m k expected zero why h refuses is =
      A.opening.refused m.0 k.0 (first_of expected) 0 why has_first refuses is.0
  refused m k expected (suc i) why h refuses is =
      B.opening.refused m.1 k.1 (others_of expected) i why (within i h) refuses is.1

  refused_reclosed : (m k : (pair a b).Members) (expected : Option (T × V)) (i : ℕ)
      (why : InitError)
      → i < suc b.count
      → (pair a b).Refuses m expected i why
      → (pair a b).Reclosed m expected k
      → ⊥
  refused_reclosed m k expected zero why h refuses is =
      A.opening.refused_reclosed m.0 k.0 (first_of expected) 0 why has_first refuses is.0
  refused_reclosed m k expected (suc i) why h refuses is =
      B.opening.refused_reclosed m.1 k.1 (others_of expected) i why (within i h) refuses is.1

  refused_first : (m k : (pair a b).Members) (expected : Option (T × V)) (i j : ℕ)
      (why given : InitError) (before now : ℕ)
      → i < suc b.count
      → (pair a b).Refuses m expected i why
      → (pair a b).NotOpened m expected j before now given k
      → j ≤ i
  refused_first m k expected i zero why given before now h refuses is = omega arith
  refused_first m k expected zero (suc j) why given before now h refuses is =
      absurd (A.opening.refused_reclosed m.0 k.0 (first_of expected) 0 why has_first refuses is.0)
  refused_first m k expected (suc i) (suc j) why given before now h refuses is =
      let behind : j ≤ i =
      B.opening.refused_first m.1 k.1 (others_of expected) i j why given before now
      (within i h) refuses is.1 in
      omega arith

  cause : (m k : (pair a b).Members) (expected : Option (T × V)) (i : ℕ) (why : InitError)
      (before now : ℕ)
      → (pair a b).NotOpened m expected i before now why k
      → (why ≡ error.OutOfMemory)
      ⊎ (((why ≡ error.Database) × Rose before now) ⊎ (pair a b).Refuses m expected i why)
  cause m k expected zero why before now is =
      A.opening.cause m.0 k.0 (first_of expected) 0 why before now is.0
  cause m k expected (suc i) why before now is =
      B.opening.cause m.1 k.1 (others_of expected) i why before now is.1

  not_refused : (m : (pair a b).Members) (t : T × V) (i at : ℕ) (s : S × U) (why : InitError)
      → (pair a b).Sound m
      → i < suc b.count
      → (pair a b).HasAt m i at s
      → (pair a b).Agrees ((pair a b).target_of s) t i
      → (pair a b).Refuses m (Some t) i why
      → ⊥
  not_refused m t zero at s why sound h has same refuses =
      A.opening.not_refused m.0 t.0 0 at s.0 why sound.0 has_first has same refuses
  not_refused m t (suc i) at s why sound h has same refuses =
      B.opening.not_refused m.1 t.1 i at s.1 why sound.1 (within i h) has same refuses

  opened_at : (m k : (pair a b).Members) (t : T × V) (i at : ℕ) (s : S × U)
      → (pair a b).Sound m
      → i < suc b.count
      → (pair a b).Openable m
      → (pair a b).Reopened m (Some t) k
      → (pair a b).HasAt m i at s
      → (pair a b).Agrees ((pair a b).target_of s) t i
      → ((pair a b).place k i ≡ at) × (pair a b).HasAt k i at s
  opened_at m k t zero at s sound h openable is has same =
      A.opening.opened_at m.0 k.0 t.0 0 at s.0 sound.0 has_first openable.0 is.0 has same
  opened_at m k t (suc i) at s sound h openable is has same =
      B.opening.opened_at m.1 k.1 t.1 i at s.1 sound.1 (within i h) openable.1 is.1 has same

  -- a change of both that keeps what each keeps up to the checkpoint of a target
  up_to : (t : T × V) (m k : (pair a b).Members)
      → KeepsUpTo a t.0 m.0 k.0
      → KeepsUpTo b t.1 m.1 k.1
      → KeepsUpTo (pair a b) t m k
  up_to t m k first others = record { kept = kept; durable = durable }
    where
      kept : (i at : ℕ) (s : S × U)
          → i < suc b.count
          → (pair a b).HasAt m i at s
          → EndsWithin (pair a b) t i s
          → (pair a b).HasAt k i at s
      kept zero at s h has near = first.kept 0 at s.0 has_first has near
      kept (suc i) at s h has near = others.kept i at s.1 (within i h) has near

      durable : (i at : ℕ) (s : S × U)
          → i < suc b.count
          → (pair a b).HasAt m i at s
          → EndsWithin (pair a b) t i s
          → at ≤ (pair a b).durable m i
          → at ≤ (pair a b).durable k i
      durable zero at s h has near was = first.durable 0 at s.0 has_first has near was
      durable (suc i) at s h has near was = others.durable i at s.1 (within i h) has near was

  up_to_others : (t : V) (m k : b.Members) → k ≡ m → KeepsUpTo b t m k
  up_to_others t m k is =
      rw is (record { kept = λ i at s h has near. has; durable = λ i at s h has near was. was })

  kept_not_opened : (m k : (pair a b).Members) (t : T × V) (j : ℕ) (why : InitError)
      (before now : ℕ)
      → (pair a b).Sound m
      → (pair a b).NotOpened m (Some t) j before now why k
      → KeepsUpTo (pair a b) t m k
  kept_not_opened m k t zero why before now sound is =
      up_to t m k (A.opening.kept_not_opened m.0 k.0 t.0 0 why before now sound.0 is.0)
      (up_to_others t.1 m.1 k.1 is.1)
  kept_not_opened m k t (suc j) why before now sound is =
      up_to t m k (A.opening.kept_reclosed m.0 k.0 t.0 sound.0 is.0)
      (B.opening.kept_not_opened m.1 k.1 t.1 j why before now sound.1 is.1)

  away_not_opened : (m k : (pair a b).Members) (expected : Option (T × V)) (i : ℕ) (why : InitError)
      (before now : ℕ)
      → (pair a b).NoneAway m
      → (pair a b).NotOpened m expected i before now why k
      → (pair a b).NoneAway k
  away_not_opened m k expected zero why before now h is = (
    A.opening.away_not_opened m.0 k.0 (first_of expected) 0 why before now h.0 is.0,
    subst b.NoneAway (sym is.1) h.1,
  )
  away_not_opened m k expected (suc i) why before now h is = (
    A.opening.away_reclosed m.0 k.0 (first_of expected) h.0 is.0,
    B.opening.away_not_opened m.1 k.1 (others_of expected) i why before now h.1 is.1,
  )

  openable_not_opened : (m k : (pair a b).Members) (expected : Option (T × V)) (i : ℕ)
      (why : InitError) (before now : ℕ)
      → (pair a b).Openable m
      → (pair a b).NotOpened m expected i before now why k
      → (pair a b).Openable k
  openable_not_opened m k expected zero why before now h is = (
    A.opening.openable_not_opened m.0 k.0 (first_of expected) 0 why before now h.0 is.0,
    subst b.Openable (sym is.1) h.1,
  )
  openable_not_opened m k expected (suc i) why before now h is = (
    A.opening.openable_reclosed m.0 k.0 (first_of expected) h.0 is.0,
    B.opening.openable_not_opened m.1 k.1 (others_of expected) i why before now h.1 is.1,
  )

  opening : OpeningLaws (pair a b)
  opening = record {
    openable_crashed =
        λ m k keep is. (
          A.opening.openable_crashed m.0 k.0 keep is.0,
          B.opening.openable_crashed m.1 k.1 (drop 1 keep) is.1,
        );
    durable_crashed = durable_crashed;
    sound_crashed =
        λ m k keep sound is. (
          A.opening.sound_crashed m.0 k.0 keep sound.0 is.0,
          B.opening.sound_crashed m.1 k.1 (drop 1 keep) sound.1 is.1,
        );
    kept_crashed = kept_crashed;
    refused = refused;
    refused_first = refused_first;
    cause = cause;
    not_refused = not_refused;
    opened_at = opened_at;
    kept_reclosed =
        λ m k t sound is. up_to t m k (A.opening.kept_reclosed m.0 k.0 t.0 sound.0 is.0)
        (B.opening.kept_reclosed m.1 k.1 t.1 sound.1 is.1);
    refused_reclosed = refused_reclosed;
    away_reclosed =
        λ m k expected h is. (
          A.opening.away_reclosed m.0 k.0 (first_of expected) h.0 is.0,
          B.opening.away_reclosed m.1 k.1 (others_of expected) h.1 is.1,
        );
    openable_reclosed =
        λ m k expected h is. (
          A.opening.openable_reclosed m.0 k.0 (first_of expected) h.0 is.0,
          B.opening.openable_reclosed m.1 k.1 (others_of expected) h.1 is.1,
        );
    kept_reopened =
        λ m k t sound is. up_to t m k (A.opening.kept_reopened m.0 k.0 t.0 sound.0 is.0)
        (B.opening.kept_reopened m.1 k.1 t.1 sound.1 is.1);
    kept_not_opened = kept_not_opened;
    away_reopened =
        λ m k expected h is. (
          A.opening.away_reopened m.0 k.0 (first_of expected) h.0 is.0,
          B.opening.away_reopened m.1 k.1 (others_of expected) h.1 is.1,
        );
    away_not_opened = away_not_opened;
    openable_not_opened = openable_not_opened;
  }

  pub pair_laws : Laws (pair a b)
  pair_laws = record {
    ids = ids;
    targets = targets;
    places = places;
    apply = apply;
    finalize = finalize;
    flush = flush;
    prune = prune;
    opening = opening;
  }
