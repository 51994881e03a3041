-- Tables of requests whose fetches are given up.
use Rattle.std.proofs.Common.{◌≡◌, ◌==◌, ℕ, Bool, true, false, List, [], ◌∷◌, map, option_map, refl, ap, ◌∙◌}
use Rattle.std.specs.Map.{keys_of}
use Rattle.stateful_table.specs.Table.{at}
use Rattle.stateful_table.proofs.Tables.{is_at_number}
use Rattle.stateful_exec_tables.specs.Phase.{is_on, tickets_on, unfetched, dropped}
use Rattle.stateful_exec_tables.specs.declared.tables.Phase.{Phase}
use Rattle.stateful_exec_tables.specs.declared.tables.Phase.TheVariants.{Open, Fetching, Waiting, Executing, Parked}
use Rattle.stateful_exec_tables.specs.declared.tables.Requested.{Requested}

-- a request without its fetch fetches nothing, and waits for the same run
pub unfetched_none : {B : Type 0} (phase : Phase B) (f : ℕ) → unfetched phase ≡ Fetching f → ⊥
unfetched_none Open f is = cc
unfetched_none (Fetching g) f is = cc
unfetched_none Waiting f is = cc
unfetched_none (Executing j path) f is = cc
unfetched_none (Parked path) f is = cc

unfetched_on : {B : Type 0} (j : ℕ) (phase : Phase B) → is_on j (unfetched phase) ≡ is_on j phase
unfetched_on j Open = refl
unfetched_on j (Fetching g) = refl
unfetched_on j Waiting = refl
unfetched_on j (Executing k path) = refl
unfetched_on j (Parked path) = refl

module _ {B C I : Type 0} where
  -- the request without its fetch
  abbrev pub undone : Requested B C I → Requested B C I
  undone r = record r { phase = unfetched r.phase }

  -- the tickets stay
  pub keys_dropped : (es : List (ℕ × Requested B C I)) → keys_of (map dropped es) ≡ keys_of es
  keys_dropped [] = refl
  keys_dropped (e ∷ es) = ap (λ ks. e.0 ∷ ks) (keys_dropped es)

  -- what is at a ticket is without its fetch
  pub at_dropped : (es : List (ℕ × Requested B C I)) (t : ℕ) → at (map dropped es) t ≡ option_map undone (at es t)
  at_dropped [] t = refl
  at_dropped (e ∷ es) t = go (e.0 == t) refl (at_dropped es t)
    where
      go : (b : Bool) → (e.0 == t) ≡ b → at (map dropped es) t ≡ option_map undone (at es t) → at (map dropped (e ∷ es)) t ≡ option_map undone (at (e ∷ es) t)
      go true is rest = rw (is_at_number t e.0 ∙ is) refl
      go false is rest = rw (is_at_number t e.0 ∙ is) rest

  -- the same requests wait for a run
  pub tickets_dropped : (j : ℕ) (es : List (ℕ × Requested B C I)) → tickets_on j (map dropped es) ≡ tickets_on j es
  tickets_dropped j [] = refl
  tickets_dropped j (e ∷ es) = go (is_on j e.1.phase) refl (tickets_dropped j es)
    where
      go : (b : Bool) → is_on j e.1.phase ≡ b → tickets_on j (map dropped es) ≡ tickets_on j es → tickets_on j (map dropped (e ∷ es)) ≡ tickets_on j (e ∷ es)
      go true is rest = rw (unfetched_on j e.1.phase, is) (ap (λ ts. e.0 ∷ ts) rest)
      go false is rest = rw (unfetched_on j e.1.phase, is) rest
