-- Marks of requests, and starts of candidate runs, keep no block and say nothing of finalizations.
use Rattle.std.proofs.Common.{◌≡◌, ◌++◌, ℕ, List, [], ◌∷◌, All, Option, map, refl, sym, ap, ◌∙◌}
use Rattle.std.proofs.lemmas.List.{append_assoc, append-nil}
use Rattle.std.proofs.lemmas.List.Elements.{All-nil, All-cons, All-append, All-map, All-head, All-tail}
use Rattle.stateful_base.specs.Names.{Named}
use Rattle.stateful_base.specs.declared.digest.Digest.{Digest}
use Rattle.stateful_history.specs.Setting.{Setting}
use Rattle.stateful_history.specs.Finalizations.{begun}
use Rattle.stateful_history.specs.Past.{Past, Made, after}
use Rattle.stateful_history.specs.Runs.{ran_finalized, unhooked, HasToRun}
use Rattle.stateful_history.specs.declared.mark.How.{How}
use Rattle.stateful_history.specs.declared.mark.How.TheVariants.{Kept}
use Rattle.stateful_history.specs.declared.mark.JobKind.TheVariants.{Finalized, Hook}
use Rattle.stateful_history.specs.declared.mark.Mark.{Mark}
use Rattle.stateful_history.specs.declared.mark.Mark.TheVariants.{Opened, Converged, Withdrawn, Started, Ended, Built, Began, Applied}
use Rattle.stateful_exec_model.specs.Ending.{InTurn, none, next, Follows, given_up, at_boundary, failed, parked, goes_on}
use Rattle.stateful_exec_model.specs.Moments.{Moment}
use Rattle.stateful_exec_walk.specs.Path.{Path}
use Rattle.stateful_exec_model.specs.Fetching.{serving, IsFetched, found, waits as awaits, declines, dead}
use Rattle.stateful_exec_tables.specs.Cancelling.{Cancels}
use Rattle.stateful_exec_tables.specs.Fetching.{with_block}
use Rattle.stateful_exec_tables.specs.Cancelling.{idle, withdraws, leaves as lets, ends, unqueued}
use Rattle.stateful_exec_model.specs.Pausing.{GoesAlong, AcquiresAnew, unparked, unsettled, Resumes}
use Rattle.stateful_exec_tables.specs.Phase.{parked_in, unacquired_in}
use Rattle.stateful_exec_tables.specs.Tables.{taken, told, ended, requested}
use Rattle.stateful_exec_model.specs.Rules.{Concludes, Advances, arrives, leaves, joins, starts, misses, Acquires, valid, invalid, asks, waits, runs}
use Rattle.stateful_exec_tables.specs.declared.state.Tables.{Tables}
use Rattle.stateful_exec_model.specs.Workings.{Workings}
use Rattle.stateful_exec_walk.specs.declared.request.Request.{Request}
use Rattle.stateful_exec_walk.specs.declared.request.Request.TheVariants.{Verify, Recover}
use Rattle.stateful_exec_walk.specs.declared.request.Verdict.{Verdict as Verdicts}
use Rattle.stateful_exec_walk.specs.declared.request.Verdict.TheVariants.{Valid, Invalid}
use Rattle.stateful_exec_tables.specs.declared.tables.Released.{Released}
use Rattle.stateful_exec_tables.specs.declared.tables.Requested.{Requested}
use Rattle.stateful_exec_laws.proofs.earned.Left.{LeavesBehind-advances, LeavesBehind-acquires, LeavesBehind-follows}

-- the mark keeps no block, and neither opens anything nor begins, runs, applies or hooks anything of a finalization
abbrev pub IsQuiet : {B : Type 0} → Mark B → Type 0
IsQuiet (Opened anchor) = ⊥
IsQuiet (Converged anchor) = ⊥
IsQuiet (Began t b) = ⊥
IsQuiet (Applied b) = ⊥
IsQuiet (Started k Finalized d) = ⊥
IsQuiet (Started k Hook d) = ⊥
IsQuiet (Ended k Kept) = ⊥
IsQuiet (Built k t b) = ⊥
IsQuiet mark = Unit {0}

abbrev pub AreQuiet : {B : Type 0} → List (Mark B) → Type 0
AreQuiet marks = All (λ m. IsQuiet m) marks

module _ {B C I S T : Type 0} (s : Setting B S T) where
  -- behind such a mark a finalization is as before
  pub record IsUnmoved (p : Past B C I) (mark : Mark B) : Type 0 where
    pub begun : begun (Made mark ∷ p) ≡ begun p
    pub ran : ran_finalized (Made mark ∷ p) ≡ ran_finalized p
    pub unhooked : unhooked (Made mark ∷ p) ≡ unhooked p
    pub has_to : (d : Digest) → HasToRun s p d → HasToRun s (Made mark ∷ p) d

  pub unmoved : (p : Past B C I) (mark : Mark B) → IsQuiet mark → IsUnmoved p mark
  unmoved p (Opened anchor) quiet = absurd quiet
  unmoved p (Converged anchor) quiet = absurd quiet
  unmoved p (Began t b) quiet = absurd quiet
  unmoved p (Applied b) quiet = absurd quiet
  unmoved p (Started k Finalized d) quiet = absurd quiet
  unmoved p (Started k Hook d) quiet = absurd quiet
  unmoved p (Ended k Kept) quiet = absurd quiet
  unmoved p (Built k t b) quiet = absurd quiet
  unmoved p mark quiet = record { begun = refl; ran = refl; unhooked = refl; has_to = λ e h. ((λ is. cc), h) }

  -- the block that was applied last has no hook still
  pub unhooked-quiet : (p : Past B C I) (marks : List (Mark B)) → AreQuiet marks → unhooked (after p marks) ≡ unhooked p
  unhooked-quiet p [] quiet = refl
  unhooked-quiet p (mark ∷ marks) quiet = unhooked-quiet (Made mark ∷ p) marks (All-tail (λ m. IsQuiet m) mark marks quiet) ∙ (unmoved p mark (All-head (λ m. IsQuiet m) mark marks quiet)).unhooked

pub quiet_one : {B : Type 0} (mark : Mark B) → IsQuiet mark → AreQuiet (mark ∷ [])
quiet_one mark h = All-cons (λ m. IsQuiet m) mark [] h (All-nil (λ m. IsQuiet m))

module _ {B C I P R D H G U : Type 0} (w : Workings B C I P R D H G U) where
  -- from one moment to a later one such marks are made, and the cache stays
  pub record GoesQuietly (m now : Moment w) : Type 0 where
    pub more : List (Mark B)
    pub marks_are : now.marks ≡ m.marks ++ more
    pub quiet : AreQuiet more
    pub cache : now.state.cache ≡ m.state.cache

  told_quiet : (t : ℕ) (request : Request B C I) (v : Verdicts) → AreQuiet (told t request v)
  told_quiet t (Verify u ancestry) Valid = quiet_one _ tt
  told_quiet t (Verify u ancestry) Invalid = quiet_one _ tt
  told_quiet t (Recover u context ancestry input kind) Valid = All-nil (λ m. IsQuiet m)
  told_quiet t (Recover u context ancestry input kind) Invalid = quiet_one _ tt

  -- some marks are quiet that are made from one moment to a later one
  record Quietly (m now : Moment w) : Type 0 where
    more : List (Mark B)
    marks_are : now.marks ≡ m.marks ++ more
    quiet : AreQuiet more

  none_made : (m now : Moment w) → now.marks ≡ m.marks → Quietly m now
  none_made m now is = record { more = []; marks_are = is ∙ sym (append-nil m.marks); quiet = All-nil (λ x. IsQuiet x) }

  concludes : (m now : Moment w) (t : ℕ) (r : Requested B C I) (v : Verdicts) → Concludes w m t r v now → Quietly m now
  concludes m now t r v is = record { more = told t r.request v; marks_are = ap (λ (n : Moment w). n.marks) is; quiet = told_quiet t r.request v }

  advances : (m now : Moment w) (t : ℕ) (r : Requested B C I) (path : Path B) → Advances w m t r path now → Quietly m now
  advances m now t r path (arrives all c) = concludes m now t r Valid c
  advances m now t r path (leaves reaches off c) = concludes m now t r Invalid c
  advances m now t r path (joins j reaches on unknown has becomes) = none_made m now (ap (λ (n : Moment w). n.marks) becomes ∙ append-nil m.marks)
  advances m now t r path (starts reaches on unknown unrun known launches) = record { more = _; marks_are = launches.marks; quiet = quiet_one _ tt }
  advances m now t r path (misses reaches on unknown unrun known c) = concludes m now t r Invalid c

  acquires : (stored_now : ℕ → Option (Named B)) (m now : Moment w) (t : ℕ) (r : Requested B C I) → Acquires w stored_now m t r now → Quietly m now
  acquires stored_now m now t r (valid needs c) = concludes m now t r Valid c
  acquires stored_now m now t r (invalid needs c) = concludes m now t r Invalid c
  acquires stored_now m now t r (asks digest needs left becomes) = record { more = _; marks_are = ap (λ (n : Moment w). n.marks) becomes; quiet = quiet_one _ tt }
  acquires stored_now m now t r (waits needs becomes) = none_made m now (ap (λ (n : Moment w). n.marks) becomes ∙ append-nil m.marks)
  acquires stored_now m now t r (runs {path = path} needs rule) = advances m now t (requested r.request) path rule

  follows : (b : Named B) (how : How) (r : Released B C I) (m now : Moment w) → Follows w b how r m now → Quietly m now
  follows b how r m now (given_up up c) = concludes m now r.ticket (requested r.request) Invalid c
  follows b how r m now (at_boundary is becomes) = none_made m now (ap (λ (n : Moment w). n.marks) becomes ∙ append-nil m.marks)
  follows b how r m now (failed not_held off c) = concludes m now r.ticket (requested r.request) Invalid c
  follows b how r m now (parked pause there becomes) = none_made m now (ap (λ (n : Moment w). n.marks) becomes ∙ append-nil m.marks)
  follows b how r m now (goes_on up not_held pause there rule) = advances m now r.ticket (requested r.request) r.path rule

  -- requests that go along their paths, acquire what they need, or follow the end of a run, go so
  pub GoesQuietly-advances : (m now : Moment w) (t : ℕ) (r : Requested B C I) (path : Path B) → Advances w m t r path now → GoesQuietly m now
  GoesQuietly-advances m now t r path rule = let q = advances m now t r path rule in let l = LeavesBehind-advances w m now t r path rule in record { more = q.more; marks_are = q.marks_are; quiet = q.quiet; cache = l.left.cache }

  pub GoesQuietly-acquires : (stored_now : ℕ → Option (Named B)) (m now : Moment w) (t : ℕ) (r : Requested B C I) → Acquires w stored_now m t r now → GoesQuietly m now
  GoesQuietly-acquires stored_now m now t r rule = let q = acquires stored_now m now t r rule in let l = LeavesBehind-acquires w stored_now m now t r rule in record { more = q.more; marks_are = q.marks_are; quiet = q.quiet; cache = l.left.cache }

  pub GoesQuietly-follows : (b : Named B) (how : How) (r : Released B C I) (m now : Moment w) → Follows w b how r m now → GoesQuietly m now
  GoesQuietly-follows b how r m now rule = let q = follows b how r m now rule in let l = LeavesBehind-follows w b how r m now rule in record { more = q.more; marks_are = q.marks_are; quiet = q.quiet; cache = l.left.cache }

  concludes_cache : (v : Tables B C I R U) (t : ℕ) (request : Request B C I) (x : Verdicts) → (ended v t request x).cache ≡ v.cache
  concludes_cache v t (Verify u ancestry) Valid = refl
  concludes_cache v t (Verify u ancestry) Invalid = refl
  concludes_cache v t (Recover u context ancestry input kind) Valid = refl
  concludes_cache v t (Recover u context ancestry input kind) Invalid = refl

  pub GoesQuietly-concludes : (m now : Moment w) (t : ℕ) (r : Requested B C I) (v : Verdicts) → Concludes w m t r v now → GoesQuietly m now
  GoesQuietly-concludes m now t r v rule = let q = concludes m now t r v rule in record { more = q.more; marks_are = q.marks_are; quiet = q.quiet; cache = ap (λ (n : Moment w). n.state.cache) rule ∙ concludes_cache m.state t r.request v }

  -- where the tables change alone, but not the cache
  pub GoesQuietly-same : (m : Moment w) (new : Tables B C I R U) → new.cache ≡ m.state.cache → GoesQuietly m (record m { state = new })
  GoesQuietly-same m new same = record { more = []; marks_are = sym (append-nil m.marks); quiet = All-nil (λ x. IsQuiet x); cache = same }

  pub GoesQuietly-then : (m n last : Moment w) → GoesQuietly m n → GoesQuietly n last → GoesQuietly m last
  GoesQuietly-then m n last f g = record {
    more = f.more ++ g.more;
    marks_are = g.marks_are ∙ ap (λ marks. marks ++ g.more) f.marks_are ∙ append_assoc m.marks f.more g.more;
    quiet = All-append (λ y. IsQuiet y) f.more g.more f.quiet g.quiet;
    cache = g.cache ∙ f.cache;
  }

  -- an answered fetch goes so
  pub GoesQuietly-fetched : (stored_now : ℕ → Option (Named B)) (m now : Moment w) (fetch : ℕ) (answer : Option (Named B)) → IsFetched w stored_now m fetch answer now → GoesQuietly m now
  GoesQuietly-fetched stored_now m now fetch answer (found t r b f is rule) = GoesQuietly-then m (serving w m t) now (GoesQuietly-same m (taken m.state t) refl) (GoesQuietly-acquires stored_now (serving w m t) now t (with_block r b) rule)
  GoesQuietly-fetched stored_now m now fetch answer (awaits t r f is verification becomes) = let q = none_made m now (ap (λ (n : Moment w). n.marks) becomes ∙ append-nil m.marks) in record { more = q.more; marks_are = q.marks_are; quiet = q.quiet; cache = ap (λ (n : Moment w). n.state.cache) becomes }
  GoesQuietly-fetched stored_now m now fetch answer (declines t r f is proposal rule) = GoesQuietly-then m (serving w m t) now (GoesQuietly-same m (taken m.state t) refl) (GoesQuietly-concludes (serving w m t) now t r Invalid rule)
  GoesQuietly-fetched stored_now m now fetch answer (dead off is) = rw is (GoesQuietly-same m m.state refl)

  -- a cancel too
  pub GoesQuietly-cancels : (m : Moment w) (t : ℕ) (new : Tables B C I R U) (marks : List (Mark B)) → Cancels m.state new t marks → GoesQuietly m (record m { state = new; marks = m.marks ++ marks })
  GoesQuietly-cancels m t new marks (idle r found_at is_idle new_is marks_is) = record { more = marks; marks_are = refl; quiet = rw marks_is (All-nil (λ (x : Mark B). IsQuiet x)); cache = ap (λ (v : Tables B C I R U). v.cache) new_is }
  GoesQuietly-cancels m t new marks (withdraws r f fetches new_is marks_is) = record { more = marks; marks_are = refl; quiet = rw marks_is (quiet_one _ tt); cache = ap (λ (v : Tables B C I R U). v.cache) new_is }
  GoesQuietly-cancels m t new marks (lets r j path found_at executing others new_is marks_is) = record { more = marks; marks_are = refl; quiet = rw marks_is (All-nil (λ (x : Mark B). IsQuiet x)); cache = ap (λ (v : Tables B C I R U). v.cache) new_is }
  GoesQuietly-cancels m t new marks (ends r j path found_at executing last new_is marks_is) = record { more = marks; marks_are = refl; quiet = rw marks_is (quiet_one _ tt); cache = ap (λ (v : Tables B C I R U). v.cache) new_is }
  GoesQuietly-cancels m t new marks (unqueued off new_is marks_is) = record { more = marks; marks_are = refl; quiet = rw marks_is (All-nil (λ (x : Mark B). IsQuiet x)); cache = ap (λ (v : Tables B C I R U). v.cache) new_is }

  -- and so do all of a list, in turn
  module _ {X : Type 0} (Rule : X → Moment w → Moment w → Type 0) (goes : (x : X) (m now : Moment w) → Rule x m now → GoesQuietly m now) where
    pub GoesQuietly-in_turn : (xs : List X) (m last : Moment w) → InTurn Rule xs m last → GoesQuietly m last
    GoesQuietly-in_turn [] m _ none = record { more = []; marks_are = sym (append-nil m.marks); quiet = All-nil (λ x. IsQuiet x); cache = refl }
    GoesQuietly-in_turn (x ∷ xs) m last (next {n = n} rule rules) =
        let f : GoesQuietly m n = goes x m n rule in
        let g : GoesQuietly n last = GoesQuietly-in_turn xs n last rules in
        GoesQuietly-then m n last f g

  -- a resume, whatever it serves
  pub GoesQuietly-resumes : (stored_now : ℕ → Option (Named B)) (m now : Moment w) → Resumes w stored_now m now → GoesQuietly m now
  GoesQuietly-resumes stored_now m now r =
      let along : GoesQuietly m r.mid = GoesQuietly-then m (unparked w m) r.mid (GoesQuietly-same m (unparked w m).state refl)
      (GoesQuietly-in_turn (GoesAlong w) (λ x n l. GoesQuietly-advances n l x.ticket (requested x.request) x.path) (parked_in m.state.requests) (unparked w m) r.mid r.along) in
      GoesQuietly-then m r.mid now along (GoesQuietly-then r.mid (unsettled w r.mid) now (GoesQuietly-same r.mid (unsettled w r.mid).state refl)
      (GoesQuietly-in_turn (AcquiresAnew w stored_now) (λ e n l. GoesQuietly-acquires stored_now n l e.0 (requested e.1.request)) (unacquired_in r.mid.state.requests) (unsettled w r.mid) now r.anew))

-- the marks of a pause are quiet
pub withdrawals-quiet : {B : Type 0} (fetches : List ℕ) → AreQuiet {B = B} (map (λ f. Withdrawn f) fetches)
withdrawals-quiet {B = B} fetches = All-map (λ (x : Mark B). IsQuiet x) (λ f. Withdrawn f) fetches (λ k d l. tt)
