-- Requests that are taken out of their table, ticket by ticket.
use Rattle.std.proofs.Common.{◌≡◌, ◌++◌, ◌∷◌, [], ℕ, ◌==◌, Bool, true, false, List, Some, None, IsSome, length, refl, sym, ap, ◌∙◌, subst}
use Rattle.std.specs.Ordering.{nat_cmp}
use Rattle.std.specs.Map.{keys_of}
use Rattle.std.specs.List.{AllByRecursion}
use Rattle.std.specs.List.Sorted.{IsStrictlySortedBy}
use Rattle.std.specs.declared.cmp.Ordering.TheVariants.{Less}
use Rattle.std.proofs.lemmas.Bool.{eq-eqb, eqb-true}
use Rattle.std.proofs.lemmas.List.{append_assoc, append-nil, nil_from_length}
use Rattle.std.proofs.lemmas.Map.Keys.{sorted_head, sorted_tail}
use Rattle.stateful_table.specs.Table.{at, without}
use Rattle.stateful_table.proofs.Tables.{is_at_number}
use Rattle.stateful_exec_walk.specs.Path.{Path}
use Rattle.stateful_exec_tables.specs.Phase.{is_on, tickets_on, path_on, released_on, not_on}
use Rattle.stateful_exec_tables.specs.Tables.{taken}
use Rattle.stateful_exec_tables.specs.declared.state.Tables.{Tables}
use Rattle.stateful_exec_tables.specs.declared.tables.Phase.{Phase}
use Rattle.stateful_exec_tables.specs.declared.tables.Phase.TheVariants.{Open, Fetching, Waiting, Executing, Parked}
use Rattle.stateful_exec_tables.specs.declared.tables.Released.{Released}
use Rattle.stateful_exec_tables.specs.declared.tables.Requested.{Requested}

pub some-injective : {X : Type 0} {x y : X} → Some x ≡ Some y → x ≡ y
some-injective e = search

executing : {B : Type 0} {of j : ℕ} {p q : Path B} → Executing j p ≡ Executing of q → p ≡ q
executing e = search

module _ {V : Type 0} where
  -- no value is at this number
  abbrev Apart : ℕ → List (ℕ × V) → Type 0
  Apart t [] = Unit {0}
  Apart t (e ∷ es) = ((e.0 == t) ≡ false) × Apart t es

  -- each number is there once
  abbrev pub Distinct : List (ℕ × V) → Type 0
  Distinct [] = Unit {0}
  Distinct (e ∷ es) = Apart e.0 es × Distinct es

  Apart-above : (t : ℕ) (es : List (ℕ × V)) → AllByRecursion (λ k. nat_cmp t k ≡ Less) (keys_of es) → Apart t es
  Apart-above t [] above = tt
  Apart-above t (e ∷ es) above = (sym (is_at_number t e.0) ∙ rw above.0 refl, Apart-above t es above.1)

  pub Distinct-sorted : (es : List (ℕ × V)) → IsStrictlySortedBy nat_cmp (keys_of es) → Distinct es
  Distinct-sorted [] sorted = tt
  Distinct-sorted (e ∷ es) sorted = (Apart-above e.0 es (sorted_head nat_cmp e.0 (keys_of es) sorted), Distinct-sorted es (sorted_tail nat_cmp e.0 (keys_of es) sorted))

  Apart-without : (t u : ℕ) (es : List (ℕ × V)) → Apart t es → Apart t (without es u)
  Apart-without t u [] h = tt
  Apart-without t u (e ∷ es) h = go (e.0 == u) refl (Apart-without t u es h.1)
    where
      go : (b : Bool) → (e.0 == u) ≡ b → Apart t (without es u) → Apart t (without (e ∷ es) u)
      go true is rest = rw is rest
      go false is rest = rw is (h.0, rest)

  Distinct-without : (u : ℕ) (es : List (ℕ × V)) → Distinct es → Distinct (without es u)
  Distinct-without u [] h = tt
  Distinct-without u (e ∷ es) h = go (e.0 == u) refl (Distinct-without u es h.1)
    where
      go : (b : Bool) → (e.0 == u) ≡ b → Distinct (without es u) → Distinct (without (e ∷ es) u)
      go true is rest = rw is rest
      go false is rest = rw is (Apart-without e.0 u es h.0, rest)

  untouched : (t : ℕ) (es : List (ℕ × V)) → Apart t es → without es t ≡ es
  untouched t [] h = refl
  untouched t (e ∷ es) h = rw h.0 (ap (λ w. e ∷ w) (untouched t es h.1))

  not_there : (t : ℕ) (es : List (ℕ × V)) → Apart t es → at es t ≡ None
  not_there t [] h = refl
  not_there t (e ∷ es) h = rw (is_at_number t e.0, h.0) (not_there t es h.1)

module _ {B : Type 0} (job : ℕ) where
  record IsOn (p : Phase B) : Type 0 where
    path : Path B
    is : p ≡ Executing job path
    left : path_on job p ≡ Some path

  on_it : (p : Phase B) → is_on job p ≡ true → IsOn p
  on_it (Executing of path) on = record { path = path; is = rw (eqb-true of job on) refl; left = rw on refl }
  on_it Open on = cc
  on_it (Fetching fetch) on = cc
  on_it Waiting on = cc
  on_it (Parked path) on = cc

  not_on_it : (p : Phase B) → is_on job p ≡ false → path_on job p ≡ None
  not_on_it (Executing of path) off = rw off refl
  not_on_it Open off = refl
  not_on_it (Fetching fetch) off = refl
  not_on_it Waiting off = refl
  not_on_it (Parked path) off = refl

module _ {B C I : Type 0} (job : ℕ) where
  -- the request of the first ticket, and the others once it is taken out
  pub record IsFirst (es : List (ℕ × Requested B C I)) (t : ℕ) (ts : List ℕ) : Type 0 where
    pub request : Requested B C I
    pub path : Path B
    pub there : at es t ≡ Some request
    pub on : request.phase ≡ Executing job path
    pub first : released_on job es ≡ record { ticket = t; request = request.request; path = path } ∷ released_on job (without es t)
    pub others : not_on job (without es t) ≡ not_on job es
    pub rest : tickets_on job (without es t) ≡ ts

  pub IsFirst-of : (es : List (ℕ × Requested B C I)) (t : ℕ) (ts : List ℕ) → Distinct es → tickets_on job es ≡ t ∷ ts → IsFirst es t ts
  IsFirst-of [] t ts distinct is = cc
  IsFirst-of (e ∷ es) t ts distinct is = go (is_on job e.1.phase) refl (λ later. IsFirst-of es t ts distinct.1 later)
    where
      here : is_on job e.1.phase ≡ true → e.0 ∷ tickets_on job es ≡ t ∷ ts → IsFirst (e ∷ es) t ts
      here on split =
          let same : e.0 ≡ t = search in
          let o = on_it job e.1.phase on in
          let gone : without (e ∷ es) t ≡ es =
          subst (λ (k : ℕ). without (e ∷ es) k ≡ es) same (rw (eq-eqb e.0 e.0 refl) (untouched e.0 es distinct.0)) in
          record {
            request = e.1;
            path = o.path;
            there = rw (← same, is_at_number e.0 e.0, eq-eqb e.0 e.0 refl) refl;
            on = o.is;
            first = rw (gone, ← same, o.left) refl;
            others = rw (gone, on) refl;
            rest = rw gone search;
          }

      further : is_on job e.1.phase ≡ false → IsFirst es t ts → (b : Bool) → (e.0 == t) ≡ b → IsFirst (e ∷ es) t ts
      further off f true same = absurd (let none = not_there e.0 es distinct.0 in let there = rw (← eqb-true e.0 t same) at f.there in let no : None ≡ Some f.request = sym none ∙ there in cc)
      further off f false other =
          let left = not_on_it job e.1.phase off in
          record {
            request = f.request;
            path = f.path;
            there = rw (is_at_number t e.0, other) f.there;
            on = f.on;
            first = rw (other, left) f.first;
            others = rw (other, off) (ap (λ w. e ∷ w) f.others);
            rest = rw (other, off) f.rest;
          }

      go : (b : Bool) → is_on job e.1.phase ≡ b → (tickets_on job es ≡ t ∷ ts → IsFirst es t ts) → IsFirst (e ∷ es) t ts
      go true on rest = here on (rw on at is)
      go false off rest = further off (rest (rw off at is)) (e.0 == t) refl

  none_released : (es : List (ℕ × Requested B C I)) → tickets_on job es ≡ [] → released_on job es ≡ []
  none_released [] is = refl
  none_released (e ∷ es) is = go (is_on job e.1.phase) refl (λ rest. none_released es rest)
    where
      go : (b : Bool) → is_on job e.1.phase ≡ b → (tickets_on job es ≡ [] → released_on job es ≡ []) → released_on job (e ∷ es) ≡ []
      go true on rest = let no : e.0 ∷ tickets_on job es ≡ [] = rw on at is in cc
      go false off rest = let left = not_on_it job e.1.phase off in rw left (rest (rw off at is))

  all_stay : (es : List (ℕ × Requested B C I)) → tickets_on job es ≡ [] → not_on job es ≡ es
  all_stay [] is = refl
  all_stay (e ∷ es) is = go (is_on job e.1.phase) refl (λ rest. all_stay es rest)
    where
      go : (b : Bool) → is_on job e.1.phase ≡ b → (tickets_on job es ≡ [] → not_on job es ≡ es) → not_on job (e ∷ es) ≡ e ∷ es
      go true on rest = let no : e.0 ∷ tickets_on job es ≡ [] = rw on at is in cc
      go false off rest = rw off (ap (λ w. e ∷ w) (rest (rw off at is)))

  module _ (whole : List (ℕ × Requested B C I)) where
    -- so many of the requests were taken out of the whole table, and these tickets are left to do
    pub record Drains (left : List ℕ) (es : List (ℕ × Requested B C I)) (out : List (Released B C I)) : Type 0 where
      pub distinct : Distinct es
      pub tickets : tickets_on job es ≡ left
      pub released : released_on job whole ≡ out ++ released_on job es
      pub others : not_on job es ≡ not_on job whole

    pub Drains-first : (left : List ℕ) (out : List (Released B C I)) → IsStrictlySortedBy nat_cmp (keys_of whole) → left ≡ tickets_on job whole → out ≡ [] → Drains left whole out
    Drains-first left out sorted is none = record { distinct = Distinct-sorted whole sorted; tickets = sym is; released = rw none refl; others = refl }

    module _ (left : List ℕ) (es : List (ℕ × Requested B C I)) (out : List (Released B C I)) (drains : Drains left es out) (t : ℕ) (ts : List ℕ) (step : left ≡ t ∷ ts) where
      first : IsFirst es t ts
      first = IsFirst-of es t ts drains.distinct (drains.tickets ∙ step)

      pub Drains-there : IsSome (at es t)
      Drains-there = rw first.there refl

      module _ (r : Requested B C I) (there : at es t ≡ Some r) where
        same : first.request ≡ r
        same = some-injective (sym first.there ∙ there)

        pub Drains-on : ((of : ℕ) (path : Path B) → r.phase ≡ Executing of path → ⊥) → ⊥
        Drains-on other = other job first.path (ap (λ (q : Requested B C I). q.phase) (sym same) ∙ first.on)

        pub Drains-next : (of : ℕ) (path : Path B) → r.phase ≡ Executing of path → (now : List (ℕ × Requested B C I)) (more : List (Released B C I))
            → now ≡ without es t → more ≡ out ++ record { ticket = t; request = r.request; path = path } ∷ [] → Drains ts now more
        Drains-next of path on now more gone is =
            let way : first.path ≡ path = executing (sym first.on ∙ ap (λ (q : Requested B C I). q.phase) same ∙ on) in
            let one : released_on job es ≡ record { ticket = t; request = r.request; path = path } ∷ released_on job (without es t) = rw (← way, ← same) first.first in
            rw gone (record {
              distinct = Distinct-without t es drains.distinct;
              tickets = first.rest;
              released = drains.released ∙ ap (λ l. out ++ l) one ∙ sym (append_assoc out (record { ticket = t; request = r.request; path = path } ∷ []) (released_on job (without es t))) ∙ ap (λ l. l ++ released_on job (without es t)) (sym is);
              others = first.others ∙ drains.others;
            })

    module _ (left : List ℕ) (es : List (ℕ × Requested B C I)) (out : List (Released B C I)) (drains : Drains left es out) (n : ℕ) (size : n ≡ length left) (ends : n ≡ 0) where
      none : tickets_on job es ≡ []
      none = drains.tickets ∙ nil_from_length left (sym size ∙ ends)

      pub Drains-all : out ≡ released_on job whole
      Drains-all = sym (append-nil out) ∙ ap (λ l. out ++ l) (sym (none_released es none)) ∙ sym drains.released

      pub Drains-left : es ≡ not_on job whole
      Drains-left = sym (all_stay es none) ∙ drains.others

module _ {B C I R U : Type 0} (whole now new : Tables B C I R U) (t : ℕ) where
  -- nothing but requests is taken out
  pub still : now ≡ record whole { requests = now.requests } → new ≡ taken now t → new ≡ record whole { requests = new.requests }
  still held is =
      is ∙ ap (λ (v : Tables B C I R U). record v { requests = without now.requests t }) held
      ∙ ap (λ rs. record whole { requests = rs }) (sym (ap (λ (v : Tables B C I R U). v.requests) is))
