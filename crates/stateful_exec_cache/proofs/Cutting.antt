-- How a cache is cut, entry by entry.
use Rattle.std.proofs.Common.{◌≡◌, ◌≢◌, ◌⊎◌, ◌<◌, inl, inr, Option, Some, None, MatchOption, ℕ, zero, suc, List, [], ◌∷◌, ◌++◌, length, refl, sym, ◌∙◌, subst, All, Any, get_or, arith}
use Rattle.std.specs.List.{Contains}
use Rattle.std.proofs.lemmas.List.{append_assoc, append-nil, nil_from_length}
use Rattle.std.proofs.lemmas.List.Elements.{All-nil, All-push, All-weaker, All-contains, All-contains_itself, Contains-append_left, Contains-push, Contains-push_cases}
use Rattle.stateful_base.specs.Round.{IsLater}
use Rattle.stateful_base.specs.declared.digest.Digest.{Digest}
use Rattle.stateful_base.specs.declared.round.Round.{Round}
use Rattle.stateful_base.specs.declared.anchor.Anchor.{Anchor}
use Rattle.stateful_exec_cache.specs.Cache.{InOrder}
use Rattle.stateful_exec_cache.specs.Cut.{GoesOn, AreNamed, IsCutTo, IsRootOf}
use Rattle.stateful_exec_cache.specs.declared.cache.Cached.{Cached}

module _ {X : Type 0} (P : X → Type 0) where
  -- an element with the fact, as an element that the list contains
  pub Any-from : (xs : List X) (x : X) → Contains xs x → P x → Any P xs
  Any-from xs x h p = (h.0, x, h.1, h.2, p)

  Any-cases : (x : X) (xs : List X) (k : ℕ) (y : X) → k < length (x ∷ xs) → get_or (x ∷ xs) k y ≡ y → P y → P x ⊎ Any P xs
  Any-cases x xs zero y l is p = inl (subst P (sym is) p)
  Any-cases x xs (suc k) y l is p = inr (k, y, omega arith, is, p)

  pub Any-longer : (xs : List X) (y : X) → Any P xs → Any P (xs ++ y ∷ [])
  Any-longer xs y a = Any-from (xs ++ y ∷ []) a.1 (Contains-append_left xs (y ∷ []) a.1 (a.0, a.2, a.3)) a.4

Contains-none : {X : Type 0} (x : X) → Contains [] x → ⊥
Contains-none x h = omega (arith, h.1)

module _ {U : Type 0} (a : Digest) (e : Cached U) where
  -- the order with one entry more
  InOrder-push : (earlier : List Digest) (es : List (Cached U)) → InOrder a earlier es → (e.parent ≡ a) ⊎ (Contains earlier e.parent ⊎ Any (λ k. k.digest ≡ e.parent) es) → InOrder a earlier (es ++ e ∷ [])
  InOrder-push earlier [] order (inl is) = (inl is, tt)
  InOrder-push earlier [] order (inr (inl c)) = (inr c, tt)
  InOrder-push earlier [] order (inr (inr any)) = absurd (omega (arith, any.2))
  InOrder-push earlier (x ∷ xs) order last = (order.0, InOrder-push (earlier ++ x.digest ∷ []) xs order.1 (behind last))
    where
      in_rest : (x.digest ≡ e.parent) ⊎ Any (λ k. k.digest ≡ e.parent) xs → (e.parent ≡ a) ⊎ (Contains (earlier ++ x.digest ∷ []) e.parent ⊎ Any (λ k. k.digest ≡ e.parent) xs)
      in_rest (inl is) = inr (inl (subst (λ (d : Digest). Contains (earlier ++ x.digest ∷ []) d) is (Contains-push earlier x.digest)))
      in_rest (inr any) = inr (inr any)

      behind : (e.parent ≡ a) ⊎ (Contains earlier e.parent ⊎ Any (λ k. k.digest ≡ e.parent) (x ∷ xs)) → (e.parent ≡ a) ⊎ (Contains (earlier ++ x.digest ∷ []) e.parent ⊎ Any (λ k. k.digest ≡ e.parent) xs)
      behind (inl is) = inl is
      behind (inr (inl c)) = inr (inl (Contains-append_left earlier (x.digest ∷ []) e.parent c))
      behind (inr (inr any)) = in_rest (Any-cases (λ (k : Cached U). k.digest ≡ e.parent) x xs any.0 any.1 any.2 any.3 any.4)

  InOrder-front : (earlier : List Digest) (es : List (Cached U)) → InOrder a earlier (es ++ e ∷ []) → InOrder a earlier es
  InOrder-front earlier [] order = tt
  InOrder-front earlier (x ∷ xs) order = (order.0, InOrder-front (earlier ++ x.digest ∷ []) xs order.1)

  InOrder-last : (earlier : List Digest) (es : List (Cached U)) → InOrder a earlier (es ++ e ∷ []) → (e.parent ≡ a) ⊎ (Contains earlier e.parent ⊎ Any (λ k. k.digest ≡ e.parent) es)
  InOrder-last earlier [] order = first order.0
    where
      first : (e.parent ≡ a) ⊎ Contains earlier e.parent → (e.parent ≡ a) ⊎ (Contains earlier e.parent ⊎ Any (λ (k : Cached U). k.digest ≡ e.parent) [])
      first (inl is) = inl is
      first (inr c) = inr (inl c)
  InOrder-last earlier (x ∷ xs) order = further (InOrder-last (earlier ++ x.digest ∷ []) xs order.1)
    where
      at_x : Contains earlier e.parent ⊎ (x.digest ≡ e.parent) → (e.parent ≡ a) ⊎ (Contains earlier e.parent ⊎ Any (λ k. k.digest ≡ e.parent) (x ∷ xs))
      at_x (inl c) = inr (inl c)
      at_x (inr is) = inr (inr (0, x, omega arith, refl, is))

      further : (e.parent ≡ a) ⊎ (Contains (earlier ++ x.digest ∷ []) e.parent ⊎ Any (λ k. k.digest ≡ e.parent) xs) → (e.parent ≡ a) ⊎ (Contains earlier e.parent ⊎ Any (λ k. k.digest ≡ e.parent) (x ∷ xs))
      further (inl is) = inl is
      further (inr (inl c)) = at_x (Contains-push_cases earlier x.digest e.parent c)
      further (inr (inr any)) = inr (inr (suc any.0, any.1, omega (arith, any.2), any.3, any.4))

module _ {U : Type 0} (root : Anchor) where
  -- the entries so far, and those that were kept of them
  pub data Cuts : List (Cached U) → List (Cached U) → Type 0 where
    none : Cuts [] []
    keeps : {now left : List (Cached U)} (es ks : List (Cached U)) (e : Cached U) → Cuts es ks → now ≡ es ++ e ∷ [] → left ≡ ks ++ e ∷ [] → e.digest ≢ root.digest → IsLater root.round e.round → GoesOn root ks e → Cuts now left
    drops : {now ks : List (Cached U)} (es : List (Cached U)) (e : Cached U) → Cuts es ks → now ≡ es ++ e ∷ [] → (e.digest ≢ root.digest → IsLater root.round e.round → GoesOn root ks e → ⊥) → Cuts now ks

  -- what holds of a kept entry
  record IsKept (es ks : List (Cached U)) (k : Cached U) : Type 0 where
    pub among : Contains es k
    pub other : k.digest ≢ root.digest
    pub later : IsLater root.round k.round
    pub goes : GoesOn root ks k

  GoesOn-longer : (ks : List (Cached U)) (x k : Cached U) → GoesOn root ks k → GoesOn root (ks ++ x ∷ []) k
  GoesOn-longer ks x k (inl is) = inl is
  GoesOn-longer ks x k (inr any) = inr (Any-longer (λ (j : Cached U). j.digest ≡ k.parent) ks x any)

  IsKept-longer : (es ks : List (Cached U)) (x k : Cached U) → IsKept es ks k → IsKept (es ++ x ∷ []) (ks ++ x ∷ []) k
  IsKept-longer es ks x k h = record { among = Contains-append_left es (x ∷ []) k h.among; other = h.other; later = h.later; goes = GoesOn-longer ks x k h.goes }

  IsKept-dropped : (es ks : List (Cached U)) (x k : Cached U) → IsKept es ks k → IsKept (es ++ x ∷ []) ks k
  IsKept-dropped es ks x k h = record { among = Contains-append_left es (x ∷ []) k h.among; other = h.other; later = h.later; goes = h.goes }

  kept : {es ks : List (Cached U)} → Cuts es ks → All (IsKept es ks) ks
  kept none = All-nil (IsKept [] [])
  kept (keeps es ks e cuts now left other later goes) =
      rw (now, left) (All-push (IsKept (es ++ e ∷ []) (ks ++ e ∷ [])) ks e
      (All-weaker (IsKept es ks) (IsKept (es ++ e ∷ []) (ks ++ e ∷ [])) (IsKept-longer es ks e) ks (kept cuts))
      (record { among = Contains-push es e; other = other; later = later; goes = GoesOn-longer ks e e goes }))
  kept (drops {ks = ks} es e cuts now not) =
      rw now (All-weaker (IsKept es ks) (IsKept (es ++ e ∷ []) ks) (IsKept-dropped es ks e) ks (kept cuts))

  parent_among : (ks : List (Cached U)) (e : Cached U) → GoesOn root ks e → (e.parent ≡ root.digest) ⊎ (Contains [] e.parent ⊎ Any (λ k. k.digest ≡ e.parent) ks)
  parent_among ks e (inl is) = inl is
  parent_among ks e (inr any) = inr (inr any)

  in_order : {es ks : List (Cached U)} → Cuts es ks → InOrder root.digest [] ks
  in_order none = tt
  in_order (keeps es ks e cuts now left other later goes) = rw left (InOrder-push root.digest e [] ks (in_order cuts) (parent_among ks e goes))
  in_order (drops es e cuts now not) = in_order cuts

  module _ (entries final : List (Cached U)) (anchor : Digest) (named : AreNamed anchor entries) (sound : All (IsKept entries final) final) where
    -- an earlier entry of a kept one's digest goes on as that does
    same_goes : (f k : Cached U) → f.parent ≡ k.parent → GoesOn root final k → GoesOn root final f
    same_goes f k e g = subst (λ (d : Digest). (d ≡ root.digest) ⊎ Any (λ (j : Cached U). j.digest ≡ d) final) (sym e) g

    -- each entry so far that goes on was kept
    abbrev AreKept : List (Cached U) → List (Cached U) → Type 0
    AreKept es ks = (e : Cached U) → Contains es e → e.digest ≢ root.digest → IsLater root.round e.round → GoesOn root final e → Contains ks e

    keeps_more : (es ks : List (Cached U)) (x : Cached U) → AreKept es ks → AreKept (es ++ x ∷ []) (ks ++ x ∷ [])
    keeps_more es ks x ih e h other later goes = either (Contains-push_cases es x e h)
      where
        either : Contains es e ⊎ (x ≡ e) → Contains (ks ++ x ∷ []) e
        either (inl before) = Contains-append_left ks (x ∷ []) e (ih e before other later goes)
        either (inr is) = subst (Contains (ks ++ x ∷ [])) is (Contains-push ks x)

    module _ (es ks : List (Cached U)) (ih : AreKept es ks) (within : (y : Cached U) → Contains es y → Contains entries y) where
      -- the kept parent stood before the entry
      stood : (f k : Cached U) → Contains es f → f.digest ≡ k.digest → IsKept entries final k → Contains ks f
      stood f k c e is =
          let same = named.same f k (within f c) is.among e in
          ih f c (λ d. is.other (sym e ∙ d)) (subst (λ (r : Round). IsLater root.round r) (sym same.1) is.later) (same_goes f k same.0 is.goes)

      behind : (x k : Cached U) → Contains final k → k.digest ≡ x.parent → (x.parent ≡ anchor) ⊎ (Contains [] x.parent ⊎ Any (λ f. f.digest ≡ x.parent) es) → Any (λ f. f.digest ≡ x.parent) ks
      behind x k c d (inl is) = absurd (All-contains (λ (f : Cached U). f.digest ≢ anchor) entries k named.other (All-contains (IsKept entries final) final k sound c).among (d ∙ is))
      behind x k c d (inr (inl n)) = absurd (Contains-none x.parent n)
      behind x k c d (inr (inr any)) = Any-from (λ (f : Cached U). f.digest ≡ x.parent) ks any.1 (stood any.1 k (any.0, any.2, any.3) (any.4 ∙ sym d) (All-contains (IsKept entries final) final k sound c)) any.4

      on : (x : Cached U) → InOrder anchor [] (es ++ x ∷ []) → GoesOn root final x → GoesOn root ks x
      on x order (inl is) = inl is
      on x order (inr any) = inr (behind x any.1 (any.0, any.2, any.3) any.4 (InOrder-last anchor x [] es order))

      drops_one : (x : Cached U) → InOrder anchor [] (es ++ x ∷ []) → (x.digest ≢ root.digest → IsLater root.round x.round → GoesOn root ks x → ⊥) → AreKept (es ++ x ∷ []) ks
      drops_one x order not e h other later goes = either (Contains-push_cases es x e h)
        where
          either : Contains es e ⊎ (x ≡ e) → Contains ks e
          either (inl before) = ih e before other later goes
          either (inr is) = absurd (not (subst (λ (y : Cached U). y.digest ≢ root.digest) (sym is) other) (subst (λ (y : Cached U). IsLater root.round y.round) (sym is) later) (on x order (subst (GoesOn root final) (sym is) goes)))

    complete : {es ks : List (Cached U)} → Cuts es ks → ((x : Cached U) → Contains es x → Contains entries x) → InOrder anchor [] es → AreKept es ks
    complete none within order = λ e h other later goes. absurd (Contains-none e h)
    complete (keeps {left = kept_now} es ks x cuts now left xother xlater xgoes) within order =
        let order' = subst (InOrder anchor []) now order in
        let before = (λ (y : Cached U) (c : Contains es y). within y (subst (λ (l : List (Cached U)). Contains l y) (sym now) (Contains-append_left es (x ∷ []) y c))) in
        subst (λ (l : List (Cached U)). AreKept l kept_now) (sym now) (subst (AreKept (es ++ x ∷ [])) (sym left) (keeps_more es ks x (complete cuts before (InOrder-front anchor x [] es order'))))
    complete (drops {ks = ks} es x cuts now not) within order =
        let order' = subst (InOrder anchor []) now order in
        let before = (λ (y : Cached U) (c : Contains es y). within y (subst (λ (l : List (Cached U)). Contains l y) (sym now) (Contains-append_left es (x ∷ []) y c))) in
        subst (λ (l : List (Cached U)). AreKept l ks) (sym now) (drops_one es ks (complete cuts before (InOrder-front anchor x [] es order')) before x order' not)

  pub IsCutTo-from : (entries kept_entries : List (Cached U)) → Cuts entries kept_entries → IsCutTo root entries kept_entries
  IsCutTo-from entries ks cuts = record {
    among = All-weaker (IsKept entries ks) (λ (k : Cached U). Contains entries k) (λ k h. h.among) ks (kept cuts);
    later = All-weaker (IsKept entries ks) (λ (k : Cached U). IsLater root.round k.round) (λ k h. h.later) ks (kept cuts);
    in_order = in_order cuts;
    whole = λ anchor named. All-weaker (Contains entries) (λ (e : Cached U). e.digest ≢ root.digest → IsLater root.round e.round → GoesOn root ks e → Contains ks e)
        (λ e c other later goes. complete entries ks anchor named (kept cuts) cuts (λ x h. h) named.in_order e c other later goes) entries (All-contains_itself entries);
  }

  -- the root among the entries so far, with one more
  pub root_here : (es : List (Cached U)) (e : Cached U) → e.digest ≡ root.digest → IsRootOf root (es ++ e ∷ []) e.batch
  root_here es e is = Any-from (λ (k : Cached U). (k.digest ≡ root.digest) × (k.batch ≡ e.batch)) (es ++ e ∷ []) e (Contains-push es e) (is, refl)

  pub root_longer : (es : List (Cached U)) (e : Cached U) (o : Option U) → e.digest ≢ root.digest → MatchOption o (All (λ e. e.digest ≢ root.digest) es) (λ batch. IsRootOf root es batch) → MatchOption o (All (λ e. e.digest ≢ root.digest) (es ++ e ∷ [])) (λ batch. IsRootOf root (es ++ e ∷ []) batch)
  root_longer es e None other h = All-push (λ (e : Cached U). e.digest ≢ root.digest) es e h other
  root_longer es e (Some batch) other h = Any-longer (λ (k : Cached U). (k.digest ≡ root.digest) × (k.batch ≡ batch)) es e h

-- an item goes over from the rest
pub one_over : {X : Type 0} (done rest left all : List X) (x : X) → done ++ rest ≡ all → rest ≡ x ∷ left → (done ++ x ∷ []) ++ left ≡ all
one_over {X} done rest left all x e is = append_assoc done (x ∷ []) left ∙ (subst (λ (l : List X). done ++ l ≡ all) is e)

pub none_over : {X : Type 0} (done rest all : List X) (n : ℕ) → done ++ rest ≡ all → n ≡ length rest → n ≡ 0 → done ≡ all
none_over {X} done rest all n e l z = sym (append-nil done) ∙ subst (λ (xs : List X). done ++ xs ≡ all) (nil_from_length rest (sym l ∙ z)) e
