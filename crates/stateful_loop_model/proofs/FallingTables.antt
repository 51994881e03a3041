-- How much the tables of requests weigh, and what a request that is served adds.
use Rattle.std.proofs.Common.{◌≡◌, ◌≤◌, ◌+◌, ◌*◌, ℕ, Bool, true, false, not, cond, is_none, option_map, Option, Some, None, List, [], ◌∷◌, ◌++◌, length, filter, filter_map, refl, sym, ap, subst, arith, length-append}
use Rattle.std.specs.List.{cons_option}
use Rattle.std.specs.Ordering.{nat_cmp, match_ordering}
use Rattle.std.specs.declared.cmp.Ordering.{Ordering}
use Rattle.std.specs.declared.cmp.Ordering.TheVariants.{Less, Equal, Greater}
use Rattle.stateful_base.specs.Names.{Named}
use Rattle.stateful_table.specs.Table.{put}
use Rattle.stateful_exec_model.specs.Ending.{InTurn, none, next}
use Rattle.stateful_exec_model.specs.Moments as exec
use Rattle.stateful_exec_walk.specs.Path.{Path}
use Rattle.stateful_exec_model.specs.Pausing.{GoesAlong, AcquiresAnew, unparked, unsettled, Resumes}
use Rattle.stateful_exec_tables.specs.Phase.{parked_path, parked_from, parked_in, not_parked, is_unacquired, unacquired_in}
use Rattle.stateful_exec_tables.specs.Tables.{ended, moved, requested}
use Rattle.stateful_exec_model.specs.Rules.{Concludes, Advances, Acquires, arrives, leaves, joins, starts, misses, valid, invalid, asks, waits, runs}
use Rattle.stateful_exec_model.specs.Workings.{Workings}
use Rattle.stateful_exec_walk.specs.declared.request.Request.{Request}
use Rattle.stateful_exec_walk.specs.declared.request.Request.TheVariants.{Verify, Recover}
use Rattle.stateful_exec_walk.specs.declared.request.Verdict.{Verdict}
use Rattle.stateful_exec_walk.specs.declared.request.Verdict.TheVariants.{Valid, Invalid}
use Rattle.stateful_exec_tables.specs.declared.state.Tables.{Tables}
use Rattle.stateful_exec_tables.specs.declared.tables.Phase.{Phase}
use Rattle.stateful_exec_tables.specs.declared.tables.Requested.{Requested}

-- 2 for each recovered proposal, and 3 for each request
abbrev pub tables_weight : {B C I R U : Type 0} → Tables B C I R U → ℕ
tables_weight v = 2 * length v.recovered + 3 * length v.requests

-- a value that is put makes a table no more than one longer
put_length : {V : Type 0} (es : List (ℕ × V)) (t : ℕ) (v : V) → length (put es t v) ≤ length es + 1
put_length [] t v = omega arith
put_length (e ∷ es) t v = go (nat_cmp t e.0) (put_length es t v)
  where
    go : (o : Ordering) → length (put es t v) ≤ length es + 1 → length (match_ordering o ((t, v) ∷ e ∷ es) ((e.0, v) ∷ es) (e ∷ put es t v)) ≤ length (e ∷ es) + 1
    go Less h = omega arith
    go Equal h = omega arith
    go Greater h = omega (arith, h)

-- those of which something is made and the others are all
filter_map_parts : {X Y : Type 0} (h : X → Option Y) (test : X → Bool) → ((x : X) → test x ≡ is_none (h x)) → (xs : List X)
    → length (filter_map h xs) + length (filter test xs) ≡ length xs
filter_map_parts h test same [] = refl
filter_map_parts {X} {Y} h test same (x ∷ xs) = go (h x) (test x) (same x) (filter_map_parts h test same xs)
  where
    go : (o : Option Y) (b : Bool) → b ≡ is_none o → length (filter_map h xs) + length (filter test xs) ≡ length xs
        → length (cons_option o (filter_map h xs)) + length (cond b (x ∷ filter test xs) (filter test xs)) ≡ length (x ∷ xs)
    go None true e rest = omega (arith, rest)
    go None false e rest = absurd (cc)
    go (Some y) true e rest = absurd (cc)
    go (Some y) false e rest = omega (arith, rest)

filter_parts : {X : Type 0} (test : X → Bool) (xs : List X) → length (filter test xs) + length (filter (λ x. not (test x)) xs) ≡ length xs
filter_parts test [] = refl
filter_parts {X} test (x ∷ xs) = go (test x) (filter_parts test xs)
  where
    go : (b : Bool) → length (filter test xs) + length (filter (λ y. not (test y)) xs) ≡ length xs
        → length (cond b (x ∷ filter test xs) (filter test xs))
        + length (cond (not b) (x ∷ filter (λ y. not (test y)) xs) (filter (λ y. not (test y)) xs)) ≡ length (x ∷ xs)
    go true rest = omega (arith, rest)
    go false rest = omega (arith, rest)

parked_parts : {B C I : Type 0} (rs : List (ℕ × Requested B C I)) → length (parked_in rs) + length (not_parked rs) ≡ length rs
parked_parts rs = filter_map_parts parked_from (λ e. is_none (parked_path e.1.phase)) (λ e. alike (parked_path e.1.phase) _) rs
  where
    alike : {X Y : Type 0} (o : Option X) (f : X → Y) → is_none o ≡ is_none (option_map f o)
    alike None f = refl
    alike (Some x) f = refl

ended_adds : {B C I R U : Type 0} (v : Tables B C I R U) (t : ℕ) (r : Request B C I) (verdict : Verdict) → tables_weight (ended v t r verdict) ≤ tables_weight v + 3
ended_adds v t (Verify u a) Valid = omega arith
ended_adds v t (Verify u a) Invalid = omega arith
ended_adds v t (Recover u c a i k) Valid = let e : length (v.recovered ++ t ∷ []) ≡ length v.recovered + 1 = length-append v.recovered (t ∷ []) in omega (arith, e)
ended_adds v t (Recover u c a i k) Invalid = omega arith

moved_adds : {B C I R U : Type 0} (v : Tables B C I R U) (t : ℕ) (r : Requested B C I) (phase : Phase B) → tables_weight (moved v t r phase) ≤ tables_weight v + 3
moved_adds v t r phase = omega (arith, put_length v.requests t (record r { phase = phase }))

moved_then : {B C I R U : Type 0} (v running now : Tables B C I R U) (t : ℕ) (r : Requested B C I) (phase : Phase B) → now ≡ moved running t r phase
    → tables_weight running ≡ tables_weight v → tables_weight now ≤ tables_weight v + 3
moved_then v running now t r phase e same =
    let is : tables_weight now ≡ tables_weight (moved running t r phase) = ap tables_weight e in omega (arith, is, same, moved_adds running t r phase)

module _ {B C I P R D H G U : Type 0} (w : Workings B C I P R D H G U) where
  becomes_adds : (m : exec.Moment w) (state : Tables B C I R U) (marks : _) (now : exec.Moment w) → now ≡ exec.moment w state m.members m.next marks
      → tables_weight state ≤ tables_weight m.state + 3 → tables_weight now.state ≤ tables_weight m.state + 3
  becomes_adds m state marks now e h = subst (λ (v : Tables B C I R U). tables_weight v ≤ tables_weight m.state + 3) (sym (ap (λ n. n.state) e)) h

  concluded_adds : (m : exec.Moment w) (t : ℕ) (r : Requested B C I) (verdict : Verdict) (now : exec.Moment w) → Concludes w m t r verdict now
      → tables_weight now.state ≤ tables_weight m.state + 3
  concluded_adds m t r verdict now e = becomes_adds m (ended m.state t r.request verdict) _ now e (ended_adds m.state t r.request verdict)

  advances_adds : (m : exec.Moment w) (t : ℕ) (r : Requested B C I) (path : Path B) (now : exec.Moment w) → Advances w m t r path now
      → tables_weight now.state ≤ tables_weight m.state + 3
  advances_adds m t r path now (arrives passed ends) = concluded_adds m t r Valid now ends
  advances_adds m t r path now (leaves reach left ends) = concluded_adds m t r Invalid now ends
  advances_adds m t r path now (joins j reach goes unknown run e) = becomes_adds m _ _ now e (moved_adds m.state t r _)
  advances_adds m t r path now (starts reach goes unknown unrun known l) =
      moved_then m.state l.running now.state t r _ l.state (ap tables_weight l.starts.state)
  advances_adds m t r path now (misses reach goes unknown unrun orphan ends) = concluded_adds m t r Invalid now ends

  pub acquires_adds : (stored : ℕ → Option (Named B)) (m : exec.Moment w) (t : ℕ) (r : Requested B C I) (now : exec.Moment w) → Acquires w stored m t r now
      → tables_weight now.state ≤ tables_weight m.state + 3
  acquires_adds stored m t r now (valid needs ends) = concluded_adds m t r Valid now ends
  acquires_adds stored m t r now (invalid needs ends) = concluded_adds m t r Invalid now ends
  acquires_adds stored m t r now (asks digest needs left e) = becomes_adds m _ _ now e (moved_adds m.state t r _)
  acquires_adds stored m t r now (waits needs e) = becomes_adds m _ _ now e (moved_adds m.state t r _)
  acquires_adds stored m t r now (runs {path = path} needs a) = advances_adds m t (requested r.request) path now a

  -- requests that are served in turn
  in_turn_adds : {X : Type 0} (S : X → exec.Moment w → exec.Moment w → Type 0)
      → ((x : X) (m n : exec.Moment w) → S x m n → tables_weight n.state ≤ tables_weight m.state + 3)
      → (xs : List X) (m now : exec.Moment w) → InTurn S xs m now → tables_weight now.state ≤ tables_weight m.state + 3 * length xs
  in_turn_adds S adds xs m now none = omega arith
  in_turn_adds S adds xs m now (next {x = x} {xs = rest} {n = n} one more) = omega (arith, adds x m n one, in_turn_adds S adds rest n now more)

  -- what resumes behind a pause adds nothing: who is served anew was in the table
  pub resumes_adds : (stored : ℕ → Option (Named B)) (m now : exec.Moment w) → Resumes w stored m now → tables_weight now.state ≤ tables_weight m.state
  resumes_adds stored m now r =
      let one : tables_weight r.mid.state ≤ tables_weight (unparked w m).state + 3 * length (parked_in m.state.requests) =
      in_turn_adds (GoesAlong w) (λ x a b g. advances_adds a x.ticket (requested x.request) x.path b g) (parked_in m.state.requests) (unparked w m) r.mid r.along in
      let two : tables_weight now.state ≤ tables_weight (unsettled w r.mid).state + 3 * length (unacquired_in r.mid.state.requests) =
      in_turn_adds (AcquiresAnew w stored) (λ x a b g. acquires_adds stored a x.0 (requested x.1.request) b g)
      (unacquired_in r.mid.state.requests) (unsettled w r.mid) now r.anew in
      omega (arith, one, two, parked_parts m.state.requests, filter_parts (λ (e : ℕ × Requested B C I). is_unacquired e.1.phase) r.mid.state.requests)
