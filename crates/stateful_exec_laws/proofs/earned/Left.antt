-- A request that is served leaves the anchor, the cache and the pause, and its marks neither open, finalize nor prune.
use Rattle.std.proofs.Common.{◌≡◌, ◌++◌, ℕ, List, [], ◌∷◌, All, Option, refl}
use Rattle.std.proofs.lemmas.List.Elements.{All-nil, All-cons}
use Rattle.stateful_base.specs.Names.{Named}
use Rattle.stateful_history.specs.declared.mark.How.{How}
use Rattle.stateful_history.specs.declared.mark.Mark.{Mark}
use Rattle.stateful_exec_model.specs.Ending.{Follows, given_up, at_boundary, failed, parked, goes_on}
use Rattle.stateful_exec_model.specs.Moments.{Moment}
use Rattle.stateful_exec_walk.specs.Path.{Path}
use Rattle.stateful_exec_tables.specs.Tables.{told, ended, requested}
use Rattle.stateful_exec_model.specs.Rules.{Concludes, Advances, arrives, leaves, joins, starts, misses, Acquires, valid, invalid, asks, waits, runs}
use Rattle.stateful_exec_model.specs.Workings.{Workings}
use Rattle.stateful_exec_walk.specs.declared.request.Request.{Request}
use Rattle.stateful_exec_walk.specs.declared.request.Request.TheVariants.{Verify, Recover}
use Rattle.stateful_exec_walk.specs.declared.request.Verdict.{Verdict}
use Rattle.stateful_exec_walk.specs.declared.request.Verdict.TheVariants as verdict
use Rattle.stateful_exec_tables.specs.declared.state.Tables.{Tables}
use Rattle.stateful_exec_tables.specs.declared.tables.Released.{Released}
use Rattle.stateful_exec_tables.specs.declared.tables.Requested.{Requested}
use Rattle.stateful_exec_laws.proofs.earned.Carried.{IsMild}

-- the anchor, the cache and the pause are as they were
pub record IsLeft {B C I R U : Type 0} (old new : Tables B C I R U) : Type 0 where
  pub anchor : new.anchor ≡ old.anchor
  pub cache : new.cache ≡ old.cache
  pub pause : new.pause ≡ old.pause

all_mild : {B : Type 0} (mark : Mark B) → IsMild mark → All (λ m. IsMild m) (mark ∷ [])
all_mild mark mild = All-cons (λ m. IsMild m) mark [] mild (All-nil (λ m. IsMild m))

module _ {B C I P R D H G U : Type 0} (w : Workings B C I P R D H G U) where
  -- so they are from one moment to a later one, and the marks between them are mild
  pub record LeavesBehind (m now : Moment w) : Type 0 where
    pub more : List (Mark B)
    pub marks_are : now.marks ≡ m.marks ++ more
    pub mild : All (λ x. IsMild x) more
    pub left : IsLeft m.state now.state

  told_mild : (t : ℕ) (request : Request B C I) (v : Verdict) → All (λ x. IsMild x) (told t request v)
  told_mild t (Verify u ancestry) verdict.Valid = all_mild _ tt
  told_mild t (Verify u ancestry) verdict.Invalid = all_mild _ tt
  told_mild t (Recover u context ancestry input kind) verdict.Valid = All-nil (λ x. IsMild x)
  told_mild t (Recover u context ancestry input kind) verdict.Invalid = all_mild _ tt

  ended_left : (v : Tables B C I R U) (t : ℕ) (request : Request B C I) (x : Verdict) → IsLeft v (ended v t request x)
  ended_left v t (Verify u ancestry) verdict.Valid = record { anchor = refl; cache = refl; pause = refl }
  ended_left v t (Verify u ancestry) verdict.Invalid = record { anchor = refl; cache = refl; pause = refl }
  ended_left v t (Recover u context ancestry input kind) verdict.Valid = record { anchor = refl; cache = refl; pause = refl }
  ended_left v t (Recover u context ancestry input kind) verdict.Invalid = record { anchor = refl; cache = refl; pause = refl }

  pub LeavesBehind-concludes : (m now : Moment w) (t : ℕ) (r : Requested B C I) (v : Verdict) → Concludes w m t r v now → LeavesBehind m now
  LeavesBehind-concludes m now t r v is = rw is (record { more = _; marks_are = refl; mild = told_mild t r.request v; left = ended_left m.state t r.request v })

  -- a request that goes along its path
  pub LeavesBehind-advances : (m now : Moment w) (t : ℕ) (r : Requested B C I) (path : Path B) → Advances w m t r path now → LeavesBehind m now
  LeavesBehind-advances m now t r path (arrives all concludes) = LeavesBehind-concludes m now t r verdict.Valid concludes
  LeavesBehind-advances m now t r path (leaves reaches off concludes) = LeavesBehind-concludes m now t r verdict.Invalid concludes
  LeavesBehind-advances m now t r path (joins j reaches on unknown has becomes) = rw becomes (record { more = []; marks_are = refl; mild = All-nil (λ x. IsMild x); left = record { anchor = refl; cache = refl; pause = refl } })
  LeavesBehind-advances m now t r path (starts reaches on unknown unrun known launches) = record {
    more = _;
    marks_are = launches.marks;
    mild = all_mild _ tt;
    left = rw (launches.state, launches.starts.state) (record { anchor = refl; cache = refl; pause = refl });
  }
  LeavesBehind-advances m now t r path (misses reaches on unknown unrun known concludes) = LeavesBehind-concludes m now t r verdict.Invalid concludes

  -- one that acquires what it needs
  pub LeavesBehind-acquires : (stored_now : ℕ → Option (Named B)) (m now : Moment w) (t : ℕ) (r : Requested B C I) → Acquires w stored_now m t r now → LeavesBehind m now
  LeavesBehind-acquires stored_now m now t r (valid needs concludes) = LeavesBehind-concludes m now t r verdict.Valid concludes
  LeavesBehind-acquires stored_now m now t r (invalid needs concludes) = LeavesBehind-concludes m now t r verdict.Invalid concludes
  LeavesBehind-acquires stored_now m now t r (asks digest needs left becomes) = rw becomes (record { more = _; marks_are = refl; mild = all_mild _ tt; left = record { anchor = refl; cache = refl; pause = refl } })
  LeavesBehind-acquires stored_now m now t r (waits needs becomes) = rw becomes (record { more = []; marks_are = refl; mild = All-nil (λ x. IsMild x); left = record { anchor = refl; cache = refl; pause = refl } })
  LeavesBehind-acquires stored_now m now t r (runs {path = path} needs advances) = LeavesBehind-advances m now t (requested r.request) path advances

  -- and one that follows the end of the run that it waited for
  pub LeavesBehind-follows : (b : Named B) (how : How) (r : Released B C I) (m now : Moment w) → Follows w b how r m now → LeavesBehind m now
  LeavesBehind-follows b how r m now (given_up off concludes) = LeavesBehind-concludes m now r.ticket (requested r.request) verdict.Invalid concludes
  LeavesBehind-follows b how r m now (at_boundary off becomes) = rw becomes (record { more = []; marks_are = refl; mild = All-nil (λ x. IsMild x); left = record { anchor = refl; cache = refl; pause = refl } })
  LeavesBehind-follows b how r m now (failed off out concludes) = LeavesBehind-concludes m now r.ticket (requested r.request) verdict.Invalid concludes
  LeavesBehind-follows b how r m now (parked pruning any becomes) = rw becomes (record { more = []; marks_are = refl; mild = All-nil (λ x. IsMild x); left = record { anchor = refl; cache = refl; pause = refl } })
  LeavesBehind-follows b how r m now (goes_on kept not_held other any advances) = LeavesBehind-advances m now r.ticket (requested r.request) r.path advances
