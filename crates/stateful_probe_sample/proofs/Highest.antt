-- The highest of replies' rounds.
use Rattle.std.proofs.Common.{◌≡◌, ℕ, Bool, true, false, Option, Some, None, MatchOption, List, [], ◌∷◌, ◌++◌, map, filter, sym, ap, subst, ◌∙◌, ◌⊎◌, ⊎_elim, arith, append-nil}
use Rattle.std.specs.Borrow.{Bor}
use Rattle.std.specs.List.{All, Any}
use Rattle.std.specs.Map.Iter.{deref}
use Rattle.std.specs.Option.{IfSome}
use Rattle.std.proofs.lemmas.List.{map-append}
use Rattle.std.proofs.lemmas.List.Elements.{All-head, All-tail, All-nil, All-same, All-push, All-weaker, All-contains, Contains-append_left, filter-append}
use Rattle.std.proofs.lemmas.Bool.{cases_Bool}
use Rattle.std.proofs.lemmas.List.Quantifiers.{Any-push}
use Rattle.stateful_base.specs.Round.{IsLater}
use Rattle.stateful_base.specs.declared.round.Round.{Round}
use Rattle.stateful_base.specs.declared.finalization.Finalization.{Finalization}
use Rattle.stateful_probe_sample.specs.Sample.{IsHighest, IsHighestRound}

-- what isn't later than a round isn't later than one that isn't before that
pub no_later_on : (a b c : Round) → (IsLater a b → ⊥) → (IsLater c a → ⊥) → IsLater c b → ⊥
no_later_on a b c h k l = grind arith

-- of two rounds neither of which is later, both are the same
pub same_round : (a b : Round) → (IsLater b a → ⊥) → (IsLater a b → ⊥) → a ≡ b
same_round a b h k =
    let e : a.epoch.0 ≡ b.epoch.0 = grind arith in
    let v : a.view.0 ≡ b.view.0 = grind arith in
    let of = λ (x : ℕ) (y : ℕ). let r : Round = record { epoch = record { 0 = x }; view = record { 0 = y } } in r in
    ap (λ x. of x a.view.0) e ∙ ap (λ y. of b.epoch.0 y) v

module _ {C : Type 0} where
  -- the highest round so far, if there are any
  abbrev pub IsHighestSoFar : List (Finalization C) → Option Round → Type 0
  IsHighestSoFar xs highest = MatchOption highest (xs ≡ []) (IsHighestRound xs)

  -- one of some elements, and so of these and more
  any_append : (P : Finalization C → Type 0) (xs ys : List (Finalization C)) → Any P xs → Any P (xs ++ ys)
  any_append P xs ys a =
      let c = Contains-append_left xs ys a.1 (a.0, a.2, a.3) in
      (c.0, a.1, c.1, c.2, a.4)

  -- one more, and the later of its round and the highest so far
  pub highest_more : (xs : List (Finalization C)) (f : Finalization C) (before : Option Round) (r : Round) → IsHighestSoFar xs before
      → (r ≡ f.round) ⊎ (before ≡ Some r) → IfSome before (λ b. IsLater r b → ⊥) → (IsLater r f.round → ⊥) → IsHighestRound (xs ++ f ∷ []) r
  highest_more xs f None r none one _ above = record {
    reached = ⊎_elim (λ e. Any-push (λ g. g.round ≡ r) xs f (sym e)) (λ e. absurd cc) one;
    bounds = All-push (λ g. IsLater r g.round → ⊥) xs f (All-same (λ g. IsLater r g.round → ⊥) xs [] none (All-nil (λ g. IsLater r g.round → ⊥))) above;
  }
  highest_more xs f (Some b) r so_far one no_earlier above = record {
    reached =
        ⊎_elim (λ e. Any-push (λ g. g.round ≡ r) xs f (sym e)) (λ e. any_append (λ g. g.round ≡ r) xs (f ∷ []) (let same : b ≡ r = cc in subst (λ v. Any (λ g. g.round ≡ v) xs) same so_far.reached)) one;
    bounds =
        All-push (λ g. IsLater r g.round → ⊥) xs f (All-weaker (λ g. IsLater b g.round → ⊥) (λ g. IsLater r g.round → ⊥) (λ g h. no_later_on b g.round r h no_earlier) xs so_far.bounds) above;
  }

  -- the replies so far that a test answers, with one more that it answers
  pub judged_more_yes : (judges : Finalization C → Bool) (xs : List (Bor (Finalization C))) (x : Bor (Finalization C)) → judges x.now ≡ true
      → filter judges (map deref (xs ++ x ∷ [])) ≡ filter judges (map deref xs) ++ x.now ∷ []
  judged_more_yes judges xs x passes = simp (map-append, filter-append, passes)

  -- and with one that it doesn't
  pub judged_more_no : (judges : Finalization C → Bool) (xs : List (Bor (Finalization C))) (x : Bor (Finalization C)) → judges x.now ≡ false
      → filter judges (map deref (xs ++ x ∷ [])) ≡ filter judges (map deref xs)
  judged_more_no judges xs x fails = simp (map-append, filter-append, fails, append-nil)

  -- what holds of each of some elements holds of each of the later ones
  all_back : (P : Finalization C → Type 0) (xs ys : List (Finalization C)) → All P (xs ++ ys) → All P ys
  all_back P [] ys h = h
  all_back P (x ∷ xs) ys h = all_back P xs ys (All-tail P x (xs ++ ys) h)

  -- the first that the test answers and that isn't before the highest round is the highest
  pub highest_found : (judges : Finalization C → Bool) (front : List (Finalization C)) (f : Finalization C) (back : List (Finalization C)) (top : Round)
      → IsHighestRound (filter judges (front ++ f ∷ back)) top → judges f ≡ true → (IsLater f.round top → ⊥)
      → All (λ g. IsLater g.round top) (filter judges front) → IsHighest (filter judges (front ++ f ∷ back)) f
  highest_found judges front f back top highest passes no_earlier earlier =
      let place : filter judges (front ++ f ∷ back) ≡ filter judges front ++ f ∷ filter judges back = simp (filter-append, passes) in
      let bounds = subst (All (λ g. IsLater top g.round → ⊥)) place highest.bounds in
      let behind = all_back (λ g. IsLater top g.round → ⊥) (filter judges front) (f ∷ filter judges back) bounds in
      let same = same_round top f.round no_earlier (All-head (λ g. IsLater top g.round → ⊥) f (filter judges back) behind) in
      record {
        front = filter judges front;
        back = filter judges back;
        place = place;
        first = subst (λ r. All (λ g. IsLater g.round r) (filter judges front)) same earlier;
        highest =
            subst (λ r. All (λ g. IsLater r g.round → ⊥) (filter judges back)) same (All-tail (λ g. IsLater top g.round → ⊥) f (filter judges back) behind);
      }

  -- one of them has the highest round, so not all are of earlier ones
  pub highest_reached : (xs : List (Finalization C)) (top : Round) → IsHighestRound xs top → All (λ g. IsLater g.round top) xs → ⊥
  highest_reached xs top highest earlier =
      let a = highest.reached in
      let l : IsLater a.1.round top = All-contains (λ g. IsLater g.round top) xs a.1 earlier (a.0, a.2, a.3) in
      let e : a.1.round ≡ top = a.4 in
      let m = subst (λ r. IsLater r top) e l in
      grind arith

  -- one more that is of an earlier round, where the test answers it
  pub earlier_more : (judges : Finalization C → Bool) (xs : List (Bor (Finalization C))) (x : Bor (Finalization C)) (top : Round)
      → (judges x.now ≡ true → IsLater x.now.round top) → All (λ g. IsLater g.round top) (filter judges (map deref xs))
      → All (λ g. IsLater g.round top) (filter judges (map deref (xs ++ x ∷ [])))
  earlier_more judges xs x top earlier so_far =
      ⊎_elim
      (λ passes. subst (All (λ g. IsLater g.round top)) (sym (judged_more_yes judges xs x passes)) (All-push (λ g. IsLater g.round top) (filter judges (map deref xs)) x.now so_far (earlier passes)))
      (λ fails. subst (All (λ g. IsLater g.round top)) (sym (judged_more_no judges xs x fails)) so_far)
      (cases_Bool (judges x.now))
