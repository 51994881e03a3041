-- Tables that are taken apart, entry by entry, and built again of some of their entries.
use Rattle.std.proofs.Common.{◌≡◌, ◌++◌, ◌∷◌, [], ℕ, Bool, true, false, List, map, filter, refl, sym, ap, ◌∙◌, subst, arith}
use Rattle.std.specs.Ordering.{nat_cmp}
use Rattle.std.specs.Map.{keys_of}
use Rattle.std.specs.List.{AllByRecursion}
use Rattle.std.specs.List.Sorted.{IsStrictlySortedBy}
use Rattle.std.specs.declared.cmp.Ordering.TheVariants.{Less, Greater}
use Rattle.std.proofs.lemmas.Bool.Decides.{nat_tests}
use Rattle.std.proofs.lemmas.List.{append_assoc, append-nil}
use Rattle.std.proofs.lemmas.List.Elements.{filter-append}
use Rattle.std.proofs.lemmas.Map.Keys.{sorted_head, sorted_tail}
use Rattle.stateful_table.specs.Table.{put}

greater : (a b : ℕ) → nat_cmp a b ≡ Less → nat_cmp b a ≡ Greater
greater a b less = grind (arith, nat_tests)

module _ {V : Type 0} where
  -- all numbers are below this one
  abbrev pub Below : ℕ → List (ℕ × V) → Type 0
  Below n [] = Unit {0}
  Below n (e ∷ es) = (nat_cmp n e.0 ≡ Greater) × Below n es

  -- a greater number comes last
  pub put_last : (made : List (ℕ × V)) (n : ℕ) (v : V) → Below n made → put made n v ≡ made ++ (n, v) ∷ []
  put_last [] n v below = refl
  put_last (e ∷ es) n v below = rw below.0 (ap (λ w. e ∷ w) (put_last es n v below.1))

  at_next : (P : ℕ → Type 0) (es : List (ℕ × V)) (n : ℕ) (v : V) (rest : List (ℕ × V)) → AllByRecursion P (keys_of (es ++ (n, v) ∷ rest)) → P n
  at_next P [] n v rest all = all.0
  at_next P (e ∷ es) n v rest all = at_next P es n v rest all.1

  below : (done : List (ℕ × V)) (n : ℕ) (v : V) (rest : List (ℕ × V)) → IsStrictlySortedBy nat_cmp (keys_of (done ++ (n, v) ∷ rest)) → Below n done
  below [] n v rest sorted = tt
  below (e ∷ es) n v rest sorted = (
    greater e.0 n (at_next (λ k. nat_cmp e.0 k ≡ Less) es n v rest (sorted_head nat_cmp e.0 (keys_of (es ++ (n, v) ∷ rest)) sorted)),
    below es n v rest (sorted_tail nat_cmp e.0 (keys_of (es ++ (n, v) ∷ rest)) sorted),
  )

  below_filter : (p : ℕ × V → Bool) (n : ℕ) (es : List (ℕ × V)) → Below n es → Below n (filter p es)
  below_filter p n [] h = tt
  below_filter p n (e ∷ es) h = go (p e) refl (below_filter p n es h.1)
    where
      go : (b : Bool) → p e ≡ b → Below n (filter p es) → Below n (filter p (e ∷ es))
      go true is rest = rw is (h.0, rest)
      go false is rest = rw is rest

  -- so many of a table's entries are done, and these are left
  pub record Goes (whole done rest : List (ℕ × V)) : Type 0 where
    pub all : done ++ rest ≡ whole
    pub sorted : IsStrictlySortedBy nat_cmp (keys_of whole)

  pub Goes-first : (whole rest : List (ℕ × V)) → rest ≡ whole → IsStrictlySortedBy nat_cmp (keys_of whole) → Goes whole [] rest
  Goes-first whole rest is sorted = record { all = is; sorted = sorted }

  module _ (whole done rest more : List (ℕ × V)) (n : ℕ) (v : V) (goes : Goes whole done rest) (step : rest ≡ (n, v) ∷ more) where
    whole_is : done ++ (n, v) ∷ more ≡ whole
    whole_is = ap (λ r. done ++ r) (sym step) ∙ goes.all

    pub Goes-next : Goes whole (done ++ (n, v) ∷ []) more
    Goes-next = record { all = append_assoc done ((n, v) ∷ []) more ∙ whole_is; sorted = goes.sorted }

    below_done : Below n done
    below_done = below done n v more (subst (λ (w : List (ℕ × V)). IsStrictlySortedBy nat_cmp (keys_of w)) (sym whole_is) goes.sorted)

    -- an entry that is put back comes last
    pub put_back : (p : ℕ × V → Bool) → p (n, v) ≡ true → put (filter p done) n v ≡ filter p (done ++ (n, v) ∷ [])
    put_back p is = put_last (filter p done) n v (below_filter p n done below_done) ∙ sym (filter-append p done ((n, v) ∷ []) ∙ ap (λ w. filter p done ++ w) (rw is refl))

    -- an entry that isn't leaves the others
    pub left_out : (p : ℕ × V → Bool) → p (n, v) ≡ false → filter p done ≡ filter p (done ++ (n, v) ∷ [])
    left_out p is = sym (filter-append p done ((n, v) ∷ []) ∙ ap (λ w. filter p done ++ w) (rw is refl) ∙ append-nil (filter p done))

    -- an entry that is taken out comes last of these
    pub taken_out : (p : ℕ × V → Bool) → p (n, v) ≡ true → filter p done ++ (n, v) ∷ [] ≡ filter p (done ++ (n, v) ∷ [])
    taken_out p is = sym (filter-append p done ((n, v) ∷ []) ∙ ap (λ w. filter p done ++ w) (rw is refl))

    module _ (f : ℕ × V → ℕ × V) (number : (e : ℕ × V) → (f e).0 ≡ e.0) where
      below_map : (es : List (ℕ × V)) → Below n es → Below n (map f es)
      below_map [] h = tt
      below_map (e ∷ es) h = (rw (number e) h.0, below_map es h.1)

      map_push : (es : List (ℕ × V)) → map f (es ++ (n, v) ∷ []) ≡ map f es ++ f (n, v) ∷ []
      map_push [] = refl
      map_push (e ∷ es) = ap (λ w. f e ∷ w) (map_push es)

      -- an entry that is changed and put back comes last
      pub put_changed : (w : V) → f (n, v) ≡ (n, w) → put (map f done) n w ≡ map f (done ++ (n, v) ∷ [])
      put_changed w is = put_last (map f done) n w (below_map done below_done) ∙ ap (λ x. map f done ++ x ∷ []) (sym is) ∙ sym (map_push done)

  pub Goes-last : (whole done rest : List (ℕ × V)) → Goes whole done rest → rest ≡ [] → done ≡ whole
  Goes-last whole done rest goes ends = sym (append-nil done) ∙ ap (λ r. done ++ r) (sym ends) ∙ goes.all
