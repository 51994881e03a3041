-- Where the last request stands, with one turn more.
use Rattle.std.proofs.Common.{◌≡◌, List, [], ◌∷◌, ◌++◌, All, ◌⊎◌, inl, inr, refl, sym, ap, subst, ◌∙◌, append_assoc, arith}
use Rattle.std.proofs.lemmas.List.{same_from_push}
use Rattle.std.proofs.lemmas.List.Elements.{All-nil, All-cons, All-head, All-tail, All-push, All-contains, Contains-append_right}
use Rattle.stateful_probe.specs.Laws.{Turn, Requests, LastRequest}

-- a list is empty, or has a last element
ended : {X : Type 0} (xs : List X) → (xs ≡ []) ⊎ ((ys : List X) × (y : X) × (xs ≡ ys ++ y ∷ []))
ended [] = inl refl
ended (x ∷ xs) = inr (go x xs)
  where
    go : {X : Type 0} (x : X) (xs : List X) → (ys : List X) × (y : X) × (x ∷ xs ≡ ys ++ y ∷ [])
    go x [] = ([], x, refl)
    go x (z ∷ xs) = let rest = go z xs in (x ∷ rest.0, rest.1, ap (λ w. x ∷ w) rest.2)

module _ {K C : Type 0} (turns : List (Turn K C)) (turn : Turn K C) where
  -- the new turn has the last request
  pub anew : Requests turn → LastRequest (turns ++ turn ∷ [])
  anew requests = record { earlier = turns; turn = turn; since = []; place = refl; requests = requests; last = All-nil (λ later. Requests later → ⊥) }

  -- it has none
  abbrev pub behind : LastRequest turns → (Requests turn → ⊥) → LastRequest (turns ++ turn ∷ [])
  behind r none = record {
    earlier = r.earlier;
    turn = r.turn;
    since = r.since ++ turn ∷ [];
    place = ap (λ w. w ++ turn ∷ []) r.place ∙ simp append_assoc;
    requests = r.requests;
    last = All-push (λ later. Requests later → ⊥) r.since turn r.last none;
  }

  -- what came since the last request, where the new turn has it and where it has none
  pub data Since (r : LastRequest (turns ++ turn ∷ [])) : Type 0 where
    nothing : Requests turn → r.since ≡ [] → Since r
    more : (q : LastRequest turns) → (Requests turn → ⊥) → r.since ≡ q.since ++ turn ∷ [] → Since r

  pub since : (r : LastRequest (turns ++ turn ∷ [])) → Since r
  since r = go (ended r.since)
    where
      go : (r.since ≡ []) ⊎ ((ys : List (Turn K C)) × (y : Turn K C) × (r.since ≡ ys ++ y ∷ [])) → Since r
      go (inl none) =
          let e : turns ++ turn ∷ [] ≡ r.earlier ++ r.turn ∷ [] = r.place ∙ ap (λ w. r.earlier ++ r.turn ∷ w) none in
          let same = same_from_push turns r.earlier turn r.turn e in
          nothing (subst Requests (sym same.1) r.requests) none
      go (inr some) =
          let e : turns ++ turn ∷ [] ≡ (r.earlier ++ r.turn ∷ some.0) ++ some.1 ∷ [] = r.place ∙ ap (λ w. r.earlier ++ r.turn ∷ w) some.2 ∙ simp append_assoc in
          let same = same_from_push turns (r.earlier ++ r.turn ∷ some.0) turn some.1 e in
          let is : r.since ≡ some.0 ++ turn ∷ [] = some.2 ∙ ap (λ y. some.0 ++ y ∷ []) (sym same.1) in
          let both : All (λ later. Requests later → ⊥) (some.0 ++ turn ∷ []) = subst (All (λ later. Requests later → ⊥)) is r.last in
          more
          (record { earlier = r.earlier; turn = r.turn; since = some.0; place = same.0; requests = r.requests; last = front some.0 both })
          (All-contains (λ later. Requests later → ⊥) (some.0 ++ turn ∷ []) turn both (Contains-append_right some.0 (turn ∷ []) turn (0, omega arith, refl)))
          is
        where
          front : (ys : List (Turn K C)) → All (λ later. Requests later → ⊥) (ys ++ turn ∷ []) → All (λ later. Requests later → ⊥) ys
          front [] all = All-nil (λ later. Requests later → ⊥)
          front (y ∷ ys) all = All-cons (λ later. Requests later → ⊥) y ys (All-head (λ later. Requests later → ⊥) y (ys ++ turn ∷ []) all) (front ys (All-tail (λ later. Requests later → ⊥) y (ys ++ turn ∷ []) all))
