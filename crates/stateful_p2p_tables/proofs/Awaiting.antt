-- Tickets whose verdicts on a delivery are awaited.
use Rattle.std.proofs.Common.{◌≡◌, ℕ, ◌+◌, ◌<◌, true, false, cond, List, [], ◌∷◌, ◌++◌, length, take, get_or, map, filter, refl, sym, ap, ◌∙◌, append-nil, Bor}
use Rattle.std.specs.Map.Iter.{deref}
use Rattle.std.proofs.lemmas.List.{map-append, take_more}
use Rattle.std.proofs.lemmas.List.Elements.{filter-append}
use Rattle.stateful_table.specs.Table.{put, put_each}
use Rattle.stateful_p2p_tables.specs.Deliveries.{is_free}
use Rattle.stateful_p2p_tables.specs.declared.state.State.{State}
use Rattle.stateful_p2p_tables.specs.declared.state.Verdicts.{Verdicts}

put_each_append : {V : Type 0} (es : List (ℕ × V)) (ts : List ℕ) (t : ℕ) (v : V) → put_each es (ts ++ t ∷ []) v ≡ put (put_each es ts v) t v
put_each_append es [] t v = refl
put_each_append es (x ∷ ts) t v = put_each_append (put es x v) ts t v

pub put_each_more : {V : Type 0} (es : List (ℕ × V)) (ts : List ℕ) (i : ℕ) (v : V) → i < length ts → put_each es (take (i + 1) ts) v ≡ put (put_each es (take i ts) v) (get_or ts i 0) v
put_each_more es ts i v lt = rw (take_more ts i 0 lt) (put_each_append es (take i ts) (get_or ts i 0) v)

pub awaited_more : {D : Type 0} (s now : State D) (ds : List (ℕ × Verdicts)) (takers : List ℕ) (i d : ℕ) (more : List (ℕ × ℕ)) → now ≡ record s { unjudged = put_each s.unjudged (take i takers) d; deliveries = ds } → i < length takers
    → more ≡ put now.unjudged (get_or takers i 0) d → record now { unjudged = more } ≡ record s { unjudged = put_each s.unjudged (take (i + 1) takers) d; deliveries = ds }
awaited_more s now ds takers i d more is lt e =
    rw (e, is) (ap (λ (w : List (ℕ × ℕ)). let r : State _ = record s { unjudged = w; deliveries = ds } in r) (sym (put_each_more s.unjudged takers i d lt)))

-- one ticket more, which has nothing to judge, or has something
pub free_more : (unjudged : List (ℕ × ℕ)) (ts : List (Bor ℕ)) (t : Bor ℕ) → is_free unjudged t.now ≡ true → filter (is_free unjudged) (map deref (ts ++ t ∷ [])) ≡ filter (is_free unjudged) (map deref ts) ++ t.now ∷ []
free_more unjudged ts t free = rw (map-append deref ts (t ∷ []), filter-append (is_free unjudged) (map deref ts) (t.now ∷ [])) (ap (λ b. filter (is_free unjudged) (map deref ts) ++ cond b (t.now ∷ []) []) free)

pub free_same : (unjudged : List (ℕ × ℕ)) (ts : List (Bor ℕ)) (t : Bor ℕ) → is_free unjudged t.now ≡ false → filter (is_free unjudged) (map deref (ts ++ t ∷ [])) ≡ filter (is_free unjudged) (map deref ts)
free_same unjudged ts t free = rw (map-append deref ts (t ∷ []), filter-append (is_free unjudged) (map deref ts) (t.now ∷ [])) (ap (λ b. filter (is_free unjudged) (map deref ts) ++ cond b (t.now ∷ []) []) free ∙ append-nil _)
