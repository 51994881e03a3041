-- Rules that serve requests say nothing of other jobs and other tickets.
use Rattle.std.proofs.Common.{◌≡◌, ◌<◌, ◌≤◌, ◌++◌, ℕ, List, [], ◌∷◌, All, Option, refl, sym, ap, ◌∙◌, subst, arith}
use Rattle.std.proofs.lemmas.List.{append_assoc, append-nil}
use Rattle.std.proofs.lemmas.List.Elements.{All-cons, All-head, All-tail, All-nil, All-append}
use Rattle.stateful_base.specs.Names.{Named}
use Rattle.stateful_base.specs.declared.digest.Digest.{Digest}
use Rattle.stateful_history.specs.declared.mark.How.{How}
use Rattle.stateful_history.specs.declared.mark.JobKind.TheVariants.{Candidate}
use Rattle.stateful_history.specs.declared.mark.Mark.{Mark}
use Rattle.stateful_history.specs.declared.mark.Mark.TheVariants.{Asked, Withdrawn, Started, Ended, Verdict, Declined}
use Rattle.stateful_exec_cache.specs.Cache.{IsIn}
use Rattle.stateful_exec_model.specs.Ending.{InTurn, none, next, Follows, given_up, at_boundary, failed, parked, goes_on}
use Rattle.stateful_exec_model.specs.Moments.{Moment, Becomes}
use Rattle.stateful_exec_walk.specs.Path.{Path}
use Rattle.stateful_exec_tables.specs.Tables.{moved, requested, told, ended}
use Rattle.stateful_exec_model.specs.Rules.{Concludes, Launches, Advances, arrives, leaves, joins, starts, misses, Acquires, valid, invalid, asks, waits, runs}
use Rattle.stateful_exec_model.specs.Workings.{Workings}
use Rattle.stateful_exec_walk.specs.declared.request.Request.{Request}
use Rattle.stateful_exec_walk.specs.declared.request.Request.TheVariants.{Verify, Recover}
use Rattle.stateful_exec_walk.specs.declared.request.Verdict.{Verdict as Verdicts}
use Rattle.stateful_exec_walk.specs.declared.request.Verdict.TheVariants.{Valid, Invalid}
use Rattle.stateful_exec_tables.specs.declared.state.Tables.{Tables}
use Rattle.stateful_exec_tables.specs.declared.tables.Phase.{Phase}
use Rattle.stateful_exec_tables.specs.declared.tables.Released.{Released}
use Rattle.stateful_exec_tables.specs.declared.tables.Requested.{Requested}
use Rattle.stateful_exec_laws.specs.Building.{IsElsewhere}
use Rattle.stateful_exec_laws.proofs.requests.Putting.{put_other}

-- The mark is one of requests and candidate runs, and names none of these jobs and tickets.
abbrev pub IsBeside : {B : Type 0} → (ℕ → Type 0) → (ℕ → Type 0) → Mark B → Type 0
IsBeside Job Ticket (Asked f ticket d) = Unit {0}
IsBeside Job Ticket (Withdrawn f) = Unit {0}
IsBeside Job Ticket (Started k Candidate d) = Job k → ⊥
IsBeside Job Ticket (Ended k how) = Job k → ⊥
IsBeside Job Ticket (Verdict t answer) = Ticket t → ⊥
IsBeside Job Ticket (Declined t) = Ticket t → ⊥
IsBeside Job Ticket mark = ⊥

module _ {B C I P R D H G U : Type 0} (w : Workings B C I P R D H G U) (Job Ticket : ℕ → Type 0) where
  -- From one moment to a later one some marks are made that name none of these jobs and tickets; the anchor stays, and so does
  -- what is cached; requests of these tickets are in no table still; and no id and no number of a job is given back.
  pub record PassesBy (m now : Moment w) : Type 0 where
    pub more : List (Mark B)
    pub marks_are : now.marks ≡ m.marks ++ more
    pub beside : All (IsBeside Job Ticket) more
    pub anchor : now.state.anchor ≡ m.state.anchor
    pub grows : (d : Digest) → IsIn m.state.cache d → IsIn now.state.cache d
    pub elsewhere : (t : ℕ) → Ticket t → IsElsewhere m.state t → IsElsewhere now.state t
    pub ids : (c : List (w.Ids × w.States)) → w.kind.issued m.next c → w.kind.issued now.next c
    pub jobs : m.state.next_job ≤ now.state.next_job

  -- these jobs have earlier numbers
  abbrev pub AreDrawn : Moment w → Type 0
  AreDrawn m = (k : ℕ) → Job k → k < m.state.next_job

  pub PassesBy-same : (m : Moment w) → PassesBy m m
  PassesBy-same m = record {
    more = [];
    marks_are = sym (append-nil m.marks);
    beside = All-nil (λ x. IsBeside Job Ticket x);
    anchor = refl;
    grows = λ d h. h;
    elsewhere = λ t own h. h;
    ids = λ c h. h;
    jobs = omega arith;
  }

  pub PassesBy-then : (m n last : Moment w) → PassesBy m n → PassesBy n last → PassesBy m last
  PassesBy-then m n last f g = record {
    more = f.more ++ g.more;
    marks_are = g.marks_are ∙ ap (λ marks. marks ++ g.more) f.marks_are ∙ append_assoc m.marks f.more g.more;
    beside = All-append (λ x. IsBeside Job Ticket x) f.more g.more f.beside g.beside;
    anchor = g.anchor ∙ f.anchor;
    grows = λ d h. g.grows d (f.grows d h);
    elsewhere = λ t own h. g.elsewhere t own (f.elsewhere t own h);
    ids = λ c h. g.ids c (f.ids c h);
    jobs = let a = f.jobs in let b = g.jobs in omega (arith, a, b);
  }

  pub still_drawn : (m now : Moment w) → PassesBy m now → AreDrawn m → AreDrawn now
  still_drawn m now f drawn k own = let l = drawn k own in let up = f.jobs in omega (arith, l, up)

  pub one_beside : (mark : Mark B) → IsBeside Job Ticket mark → All (IsBeside Job Ticket) (mark ∷ [])
  one_beside mark h = All-cons (λ x. IsBeside Job Ticket x) mark [] h (All-nil (λ x. IsBeside Job Ticket x))

  told_beside : (t : ℕ) → (Ticket t → ⊥) → (request : Request B C I) (v : Verdicts) → All (IsBeside Job Ticket) (told t request v)
  told_beside t other (Verify u ancestry) Valid = one_beside _ other
  told_beside t other (Verify u ancestry) Invalid = one_beside _ other
  told_beside t other (Recover u context ancestry input kind) Valid = All-nil (λ x. IsBeside Job Ticket x)
  told_beside t other (Recover u context ancestry input kind) Invalid = one_beside _ other

  -- what the end of a request changes of the tables
  record Changes (old new : Tables B C I R U) : Type 0 where
    anchor : new.anchor ≡ old.anchor
    cache : new.cache ≡ old.cache
    jobs : new.next_job ≡ old.next_job
    elsewhere : (t : ℕ) → Ticket t → IsElsewhere old t → IsElsewhere new t

  ended_changes : (v : Tables B C I R U) (t : ℕ) → (Ticket t → ⊥) → (request : Request B C I) (x : Verdicts) → Changes v (ended v t request x)
  ended_changes v t other (Verify u ancestry) Valid = record { anchor = refl; cache = refl; jobs = refl; elsewhere = λ k own h. h }
  ended_changes v t other (Verify u ancestry) Invalid = record { anchor = refl; cache = refl; jobs = refl; elsewhere = λ k own h. h }
  ended_changes v t other (Recover u context ancestry input kind) Valid = record {
    anchor = refl;
    cache = refl;
    jobs = refl;
    elsewhere = λ k own h. record { absent = h.absent; not_queued = put_other v.queued t k _ (λ same. other (subst Ticket same own)) ∙ h.not_queued };
  }
  ended_changes v t other (Recover u context ancestry input kind) Invalid = record { anchor = refl; cache = refl; jobs = refl; elsewhere = λ k own h. h }

  pub PassesBy-concludes : (m now : Moment w) (t : ℕ) (r : Requested B C I) (v : Verdicts) → (Ticket t → ⊥) → Concludes w m t r v now → PassesBy m now
  PassesBy-concludes m now t r v other is =
      let c : Changes m.state (ended m.state t r.request v) = ended_changes m.state t other r.request v in
      rw is (record {
        more = _;
        marks_are = refl;
        beside = told_beside t other r.request v;
        anchor = c.anchor;
        grows = λ d h. subst (λ l. IsIn l d) (sym c.cache) h;
        elsewhere = c.elsewhere;
        ids = λ x h. h;
        jobs = let e = c.jobs in omega (arith, e);
      })

  pub PassesBy-put : (m now : Moment w) (t : ℕ) (r : Requested B C I) (phase : Phase B) → (Ticket t → ⊥) → Becomes w m (moved m.state t r phase) [] now → PassesBy m now
  PassesBy-put m now t r phase other is = rw is (record {
    more = [];
    marks_are = refl;
    beside = All-nil (λ x. IsBeside Job Ticket x);
    anchor = refl;
    grows = λ d h. h;
    elsewhere = λ k own h. record { absent = put_other m.state.requests t k _ (λ same. other (subst Ticket same own)) ∙ h.absent; not_queued = h.not_queued };
    ids = λ x h. h;
    jobs = omega arith;
  })

  PassesBy-launches : (m now : Moment w) (t : ℕ) (r : Requested B C I) (left : List (Named B)) (b parent : Named B) → AreDrawn m → (Ticket t → ⊥) → Launches w m t r left b parent now → PassesBy m now
  PassesBy-launches m now t r left b parent drawn other l = record {
    more = _;
    marks_are = l.marks;
    beside = one_beside _ (λ own. let below = drawn m.state.next_job own in omega (arith, below));
    anchor = rw (l.state, l.starts.state) refl;
    grows = λ d h. rw (l.state, l.starts.state) h;
    elsewhere = λ k own h. rw (l.state, l.starts.state) (record { absent = put_other m.state.requests t k _ (λ same. other (subst Ticket same own)) ∙ h.absent; not_queued = h.not_queued });
    ids = l.starts.keeps;
    jobs = rw (l.state, l.starts.state) (omega arith);
  }

  -- a request that goes along its path
  pub PassesBy-advances : (m now : Moment w) (t : ℕ) (r : Requested B C I) (path : Path B) → AreDrawn m → (Ticket t → ⊥) → Advances w m t r path now → PassesBy m now
  PassesBy-advances m now t r path drawn other (arrives all concludes) = PassesBy-concludes m now t r Valid other concludes
  PassesBy-advances m now t r path drawn other (leaves reaches off concludes) = PassesBy-concludes m now t r Invalid other concludes
  PassesBy-advances m now t r path drawn other (joins j reaches on unknown has becomes) = PassesBy-put m now t r _ other becomes
  PassesBy-advances m now t r path drawn other (starts reaches on unknown unrun known launches) = PassesBy-launches m now t r _ _ _ drawn other launches
  PassesBy-advances m now t r path drawn other (misses reaches on unknown unrun known concludes) = PassesBy-concludes m now t r Invalid other concludes

  -- one that acquires what it needs
  pub PassesBy-acquires : (stored_now : ℕ → Option (Named B)) (m now : Moment w) (t : ℕ) (r : Requested B C I) → AreDrawn m → (Ticket t → ⊥) → Acquires w stored_now m t r now → PassesBy m now
  PassesBy-acquires stored_now m now t r drawn other (valid needs concludes) = PassesBy-concludes m now t r Valid other concludes
  PassesBy-acquires stored_now m now t r drawn other (invalid needs concludes) = PassesBy-concludes m now t r Invalid other concludes
  PassesBy-acquires stored_now m now t r drawn other (asks digest needs left becomes) = rw becomes (record {
    more = _;
    marks_are = refl;
    beside = one_beside _ tt;
    anchor = refl;
    grows = λ d h. h;
    elsewhere = λ k own h. record { absent = put_other m.state.requests t k _ (λ same. other (subst Ticket same own)) ∙ h.absent; not_queued = h.not_queued };
    ids = λ x h. h;
    jobs = omega arith;
  })
  PassesBy-acquires stored_now m now t r drawn other (waits needs becomes) = PassesBy-put m now t r _ other becomes
  PassesBy-acquires stored_now m now t r drawn other (runs {path = path} needs advances) = PassesBy-advances m now t (requested r.request) path drawn other advances

  -- one that follows the end of the run that it waited for
  pub PassesBy-follows : (b : Named B) (how : How) (r : Released B C I) (m now : Moment w) → AreDrawn m → (Ticket r.ticket → ⊥) → Follows w b how r m now → PassesBy m now
  PassesBy-follows b how r m now drawn other (given_up up concludes) = PassesBy-concludes m now r.ticket (requested r.request) Invalid other concludes
  PassesBy-follows b how r m now drawn other (at_boundary is becomes) = PassesBy-put m now r.ticket (requested r.request) _ other becomes
  PassesBy-follows b how r m now drawn other (failed not_held off concludes) = PassesBy-concludes m now r.ticket (requested r.request) Invalid other concludes
  PassesBy-follows b how r m now drawn other (parked pause there becomes) = PassesBy-put m now r.ticket (requested r.request) _ other becomes
  PassesBy-follows b how r m now drawn other (goes_on up not_held pause there advances) = PassesBy-advances m now r.ticket (requested r.request) r.path drawn other advances

  -- and all of a list, in turn
  module _ {X : Type 0} (Rule : X → Moment w → Moment w → Type 0) (ticket : X → ℕ) (passes : (x : X) (m now : Moment w) → AreDrawn m → (Ticket (ticket x) → ⊥) → Rule x m now → PassesBy m now) where
    pub PassesBy-in_turn : (xs : List X) (m last : Moment w) → AreDrawn m → All (λ x. Ticket (ticket x) → ⊥) xs → InTurn Rule xs m last → PassesBy m last
    PassesBy-in_turn [] m _ drawn others none = PassesBy-same m
    PassesBy-in_turn (x ∷ xs) m last drawn others (next {n = n} rule rules) =
        let first : PassesBy m n = passes x m n drawn (All-head (λ y. Ticket (ticket y) → ⊥) x xs others) rule in
        PassesBy-then m n last first (PassesBy-in_turn xs n last (still_drawn m n first drawn) (All-tail (λ y. Ticket (ticket y) → ⊥) x xs others) rules)
