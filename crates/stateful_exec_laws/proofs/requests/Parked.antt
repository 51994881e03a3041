-- The parked requests are taken out of their table.
use Rattle.std.proofs.Common.{◌≡◌, ◌≢◌, ℕ, arith, get_or, Bool, true, false, List, [], ◌∷◌, filter, All, AllPairs, Option, Some, None, IsSome, MatchOption, refl, sym, ap, ◌∙◌, subst}
use Rattle.std.specs.Map.{keys_of}
use Rattle.std.specs.List.Sorted.{IsStrictlySortedBy}
use Rattle.std.specs.Ordering.{nat_cmp}
use Rattle.std.proofs.lemmas.Cmp.{nat_cmp_total, eq_by_cmp_equiv}
use Rattle.std.proofs.lemmas.List.Elements.{All-nil, All-cons, All-head, All-tail, All-filter}
use Rattle.std.proofs.lemmas.List.Kept.{AllPairs-cons}
use Rattle.std.proofs.lemmas.Map.Entries.{lookup-filter-values, option_filter}
use Rattle.std.proofs.lemmas.Map.Keys.{sorted_head, sorted_tail, IsDistinct-from_sorted}
use Rattle.stateful_base.specs.Names.{Named}
use Rattle.stateful_base.specs.declared.digest.Digest.{Digest}
use Rattle.stateful_history.specs.Past.{Past}
use Rattle.stateful_table.specs.Table.{at}
use Rattle.stateful_exec_walk.specs.Path.{Path}
use Rattle.stateful_exec_tables.specs.Phase.{is_on, tickets_on, parked_path, parked_in}
use Rattle.stateful_exec_model.specs.Workings.{Workings, Point}
use Rattle.stateful_exec_tables.specs.declared.state.Tables.{Tables}
use Rattle.stateful_exec_tables.specs.declared.tables.Phase.{Phase}
use Rattle.stateful_exec_tables.specs.declared.tables.Phase.TheVariants.{Open, Fetching, Waiting, Executing, Parked}
use Rattle.stateful_exec_tables.specs.declared.tables.Released.{Released}
use Rattle.stateful_exec_tables.specs.declared.tables.Requested.{Requested}
use Rattle.stateful_exec_laws.specs.Requesting.{IsStanding}
use Rattle.stateful_exec_laws.specs.Standing.{TablesStand}
use Rattle.stateful_exec_laws.proofs.ended.Left.{sorted_filter, at_below, each_at}
use Rattle.stateful_exec_laws.proofs.ended.FollowStands.{below_apart}

module _ {B C I : Type 0} where
  -- what holds of each parked request holds of each that is taken out
  pub All-parked : (P : Released B C I → Type 0) (es : List (ℕ × Requested B C I))
      → All (λ e. (path : Path B) → e.1.phase ≡ Parked path → P (record { ticket = e.0; request = e.1.request; path = path })) es → All P (parked_in es)
  All-parked P [] all = All-nil P
  All-parked P (e ∷ es) all = by_phase e.1.phase refl (All-parked P es (All-tail Q e es all))
    where
      Q : ℕ × Requested B C I → Type 0
      Q x = (path : Path B) → x.1.phase ≡ Parked path → P (record { ticket = x.0; request = x.1.request; path = path })

      by_phase : (phase : Phase B) → e.1.phase ≡ phase → All P (parked_in es) → All P (parked_in (e ∷ es))
      by_phase (Parked path) is rest = rw is (All-cons P _ _ (All-head Q e es all path is) rest)
      by_phase Open is rest = rw is rest
      by_phase (Fetching f) is rest = rw is rest
      by_phase Waiting is rest = rw is rest
      by_phase (Executing k path) is rest = rw is rest

  -- they are of different tickets
  pub parked_apart : (es : List (ℕ × Requested B C I)) → IsStrictlySortedBy nat_cmp (keys_of es) → AllPairs (λ x y. x.ticket ≢ y.ticket) (parked_in es)
  parked_apart [] sorted = λ i j d lt within. let no : ⊥ = omega (arith, within) in absurd no
  parked_apart (e ∷ es) sorted = go (parked_path e.1.phase) refl (parked_apart es (sorted_tail nat_cmp e.0 (keys_of es) sorted))
    where
      others : All (λ (y : Released B C I). e.0 ≢ y.ticket) (parked_in es)
      others = All-parked (λ (y : Released B C I). e.0 ≢ y.ticket) es (λ k d l path is.
          below_apart e.0 (get_or es k d).0 (at_below e.0 es (get_or es k d).0 (get_or es k d).1 (sorted_head nat_cmp e.0 (keys_of es) sorted) (each_at es (sorted_tail nat_cmp e.0 (keys_of es) sorted) k d l)))

      go : (o : Option (Path B)) → parked_path e.1.phase ≡ o → AllPairs (λ (x y : Released B C I). x.ticket ≢ y.ticket) (parked_in es) → AllPairs (λ (x y : Released B C I). x.ticket ≢ y.ticket) (parked_in (e ∷ es))
      go None is rest = rw is rest
      go (Some path) is rest = rw is (AllPairs-cons (λ (x y : Released B C I). x.ticket ≢ y.ticket) (record { ticket = e.0; request = e.1.request; path = path }) (parked_in es) others rest)

module _ {B C I : Type 0} (keep : Phase B → Bool) (executing : (j : ℕ) (path : Path B) → keep (Executing j path) ≡ true) (fetching : (f : ℕ) → keep (Fetching f) ≡ true) where
  abbrev pub kept : List (ℕ × Requested B C I) → List (ℕ × Requested B C I)
  kept es = filter (λ e. keep e.1.phase) es

  pub at_kept : (es : List (ℕ × Requested B C I)) (t : ℕ) → IsStrictlySortedBy nat_cmp (keys_of es) → at (kept es) t ≡ option_filter (λ (r : Requested B C I). keep r.phase) (at es t)
  at_kept es t sorted = lookup-filter-values (eq_by_cmp_equiv nat_cmp_total) (λ (r : Requested B C I). keep r.phase) t es (IsDistinct-from_sorted nat_cmp (keys_of es) sorted)

  -- each run is waited for by the same ones
  tickets_kept : (j : ℕ) (es : List (ℕ × Requested B C I)) → tickets_on j (kept es) ≡ tickets_on j es
  tickets_kept j [] = refl
  tickets_kept j (e ∷ es) = go (keep e.1.phase) refl (is_on j e.1.phase) refl (tickets_kept j es)
    where
      on_kept : (phase : Phase B) → is_on j phase ≡ true → keep phase ≡ true
      on_kept (Executing k path) is = executing k path
      on_kept Open is = cc
      on_kept (Fetching f) is = cc
      on_kept Waiting is = cc
      on_kept (Parked path) is = cc

      go : (a : Bool) → keep e.1.phase ≡ a → (b : Bool) → is_on j e.1.phase ≡ b → tickets_on j (kept es) ≡ tickets_on j es → tickets_on j (kept (e ∷ es)) ≡ tickets_on j (e ∷ es)
      go true a true b rest = rw (a, b) (ap (λ ts. e.0 ∷ ts) rest)
      go true a false b rest = rw (a, b) rest
      go false a true b rest = let no : true ≡ false = sym (on_kept e.1.phase b) ∙ a in cc
      go false a false b rest = rw (a, b) rest

  fetches_kept : (f : ℕ) (o : Option (Requested B C I)) → MatchOption o ⊥ (λ r. r.phase ≡ Fetching f) → MatchOption (option_filter (λ (r : Requested B C I). keep r.phase) o) ⊥ (λ r. r.phase ≡ Fetching f)
  fetches_kept f None h = h
  fetches_kept f (Some r) h = let stays : keep r.phase ≡ true = ap keep h ∙ fetching f in rw stays h

  some_before : (o : Option (Requested B C I)) → IsSome (option_filter (λ (r : Requested B C I). keep r.phase) o) → IsSome o
  some_before None some = some
  some_before (Some r) some = refl

  module _ {P R D H G U : Type 0} (w : Workings B C I P R D H G U) (stored : ℕ → Option (Named B)) (p : Past B C I) (points : Digest → Point w) (point : Point w) (next : w.Ids) (old : Tables B C I R U) (s : TablesStand w stored p points point next old) where
    -- the tables stand where requests are taken out that neither fetch nor wait for a run
    pub TablesStand-kept : TablesStand w stored p points point next (record old { requests = kept old.requests })
    TablesStand-kept = record {
      at_anchor = s.at_anchor;
      cache = s.cache;
      runs = s.runs;
      requests = record {
        ascending = sorted_filter (λ (e : ℕ × Requested B C I). keep e.1.phase) old.requests s.requests.ascending;
        each = All-filter (λ (e : ℕ × Requested B C I). keep e.1.phase) (λ e. IsStanding w stored p old.runs e.0 e.1) old.requests s.requests.each;
        fetches = λ f t live asked. rw (at_kept old.requests t s.requests.ascending) (fetches_kept f (at old.requests t) (s.requests.fetches f t live asked));
        wanted = λ j live none. s.requests.wanted j live (sym (tickets_kept j old.requests) ∙ none);
      };
      once = λ t some. s.once t (some_before (at old.requests t) (subst (λ o. IsSome o) (at_kept old.requests t s.requests.ascending) some));
      queue = s.queue;
      numbers = s.numbers;
    }
