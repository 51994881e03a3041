-- What was asked for requests stays the parents of what was gathered for them, behind a request that is served.
use Rattle.std.proofs.Common.{◌≡◌, ◌==◌, ◌++◌, inl, inr, ℕ, Bool, true, false, List, [], ◌∷◌, All, Option, None, Some, IsSome, get_or, refl, sym, ap, ◌∙◌, subst}
use Rattle.std.proofs.lemmas.Bool.{eqb-true, eqb-false}
use Rattle.std.proofs.lemmas.List.{append_cancel_left}
use Rattle.stateful_base.specs.Names.{Named}
use Rattle.stateful_base.specs.declared.digest.Digest.{Digest}
use Rattle.stateful_history.specs.Fetches.{WasAsked}
use Rattle.stateful_history.specs.Past.{Past, Made, after}
use Rattle.stateful_history.specs.declared.mark.How.{How}
use Rattle.stateful_history.specs.declared.mark.Mark.{Mark}
use Rattle.stateful_history.specs.declared.mark.Mark.TheVariants.{Asked}
use Rattle.stateful_table.specs.Table.{at, put}
use Rattle.stateful_exec_model.specs.Ending.{Follows, given_up, at_boundary, failed, parked, goes_on}
use Rattle.stateful_exec_model.specs.Moments.{Moment}
use Rattle.stateful_exec_walk.specs.Path.{Path}
use Rattle.stateful_exec_tables.specs.Tables.{told, ended, requested}
use Rattle.stateful_exec_model.specs.Rules.{Needs, Concludes, Advances, arrives, leaves, joins, starts, misses, Acquires, valid, invalid, asks, waits, runs}
use Rattle.stateful_exec_model.specs.Workings.{Workings}
use Rattle.stateful_exec_walk.specs.declared.request.Request.{Request}
use Rattle.stateful_exec_walk.specs.declared.request.Request.TheVariants.{Verify, Recover}
use Rattle.stateful_exec_walk.specs.declared.request.Verdict as said
use Rattle.stateful_exec_walk.specs.declared.request.Verdict.TheVariants as verdict
use Rattle.stateful_exec_tables.specs.declared.state.Tables.{Tables}
use Rattle.stateful_exec_tables.specs.declared.tables.Phase.{Phase}
use Rattle.stateful_exec_tables.specs.declared.tables.Phase.TheVariants.{Fetching, Waiting, Executing, Parked}
use Rattle.stateful_exec_tables.specs.declared.tables.Released.{Released}
use Rattle.stateful_exec_tables.specs.declared.tables.Requested.{Requested}
use Rattle.stateful_exec_walk.specs.declared.walk.Acquired.TheVariants as acquired
use Rattle.stateful_exec_laws.specs.Setting.{setting}
use Rattle.stateful_exec_laws.specs.Gathering.{gathered, AsksParents, AsksAlong, AsksForThese}
use Rattle.stateful_exec_laws.proofs.requests.Putting.{All-put, put_here, put_other}
use Rattle.stateful_exec_laws.proofs.runs.Removing.{none_at}
use Rattle.stateful_exec_laws.proofs.requests.ServedMarks.{AreServedBy, WasAsked-before}

module _ {B C I P R D H G U : Type 0} (w : Workings B C I P R D H G U) (stored : ℕ → Option (Named B)) (p : Past B C I) (m now : Moment w) (t : ℕ) (absent : at m.state.requests t ≡ None) (more : List (Mark B)) (are : AreServedBy t p more)
    (marks_are : now.marks ≡ m.marks ++ more) (h : AsksAlong (setting w stored) p m.state.requests) where
  abbrev q : Past B C I
  q = after p more

  abbrev Asks : ℕ × Requested B C I → Type 0
  Asks e = (f : ℕ) → e.1.phase ≡ Fetching f → AsksParents (setting w stored) q e.0 (gathered e.1.request e.1.acquired)

  -- the other requests
  others : All Asks m.state.requests
  others = λ k d l f fetching x was.
      h k d l f fetching x (WasAsked-before t (get_or m.state.requests k d).0 x p more are (none_at m.state.requests t absent k d l) was)

  put_asks : (r : Requested B C I) (phase : Phase B) → ((f : ℕ) → phase ≡ Fetching f → AsksParents (setting w stored) q t (gathered r.request r.acquired)) → All Asks (put m.state.requests t (record r { phase = phase }))
  put_asks r phase own = All-put Asks m.state.requests t (record r { phase = phase }) others own

  ended_asks : (v : Tables B C I R U) (request : Request B C I) (x : said.Verdict) → All Asks v.requests → All Asks (ended v t request x).requests
  ended_asks v (Verify u ancestry) verdict.Valid all = all
  ended_asks v (Verify u ancestry) verdict.Invalid all = all
  ended_asks v (Recover u context ancestry input kind) verdict.Valid all = all
  ended_asks v (Recover u context ancestry input kind) verdict.Invalid all = all

  concludes-asks : (r : Requested B C I) (x : said.Verdict) → Concludes w m t r x now → All Asks now.state.requests
  concludes-asks r x is = rw is (ended_asks m.state r.request x others)

  -- so it is behind one that goes along its path
  pub AsksAlong-advances : (r : Requested B C I) (path : Path B) → Advances w m t r path now → AsksAlong (setting w stored) q now.state.requests
  AsksAlong-advances r path (arrives all concludes) = concludes-asks r verdict.Valid concludes
  AsksAlong-advances r path (leaves reaches out concludes) = concludes-asks r verdict.Invalid concludes
  AsksAlong-advances r path (joins j reaches on unknown has becomes) = rw becomes (put_asks r (Executing j _) (λ f e. cc))
  AsksAlong-advances r path (starts reaches on unknown unrun known launches) = rw (launches.state, launches.starts.state) (put_asks r (Executing m.state.next_job _) (λ f e. cc))
  AsksAlong-advances r path (misses reaches on unknown unrun out concludes) = concludes-asks r verdict.Invalid concludes

  -- and behind one that acquires what it needs, where what it asks for is the parent of what was gathered
  pub AsksAlong-acquires : (stored_now : ℕ → Option (Named B)) (r : Requested B C I)
      → ((f : ℕ) (d : Digest) → Needs w stored_now m r (acquired.Ask d) → AsksParents (setting w stored) (Made (Asked f (Some t) d) ∷ p) t (gathered r.request r.acquired)) → Acquires w stored_now m t r now → AsksAlong (setting w stored) q now.state.requests
  AsksAlong-acquires stored_now r asking (valid needs concludes) = concludes-asks r verdict.Valid concludes
  AsksAlong-acquires stored_now r asking (invalid needs concludes) = concludes-asks r verdict.Invalid concludes
  AsksAlong-acquires stored_now r asking (asks d needs left becomes) =
      let one : Asked m.state.next_fetch (Some t) d ∷ [] ≡ more = append_cancel_left m.marks (Asked m.state.next_fetch (Some t) d ∷ []) more (sym (ap (λ (n : Moment w). n.marks) becomes) ∙ marks_are) in
      rw becomes (put_asks r (Fetching m.state.next_fetch) (λ f e. subst (λ (ms : List (Mark B)). AsksParents (setting w stored) (after p ms) t (gathered r.request r.acquired)) one (asking m.state.next_fetch d needs)))
  AsksAlong-acquires stored_now r asking (waits needs becomes) = rw becomes (put_asks r Waiting (λ f e. cc))
  AsksAlong-acquires stored_now r asking (runs {path = path} needs advances) = AsksAlong-advances (requested r.request) path advances

-- and behind one that follows the end of the run that it waited for
pub AsksAlong-follows : {B C I P R D H G U : Type 0} (w : Workings B C I P R D H G U) (stored : ℕ → Option (Named B)) (p : Past B C I) (m now : Moment w) (b : Named B) (how : How) (r : Released B C I) → at m.state.requests r.ticket ≡ None → (more : List (Mark B)) → AreServedBy r.ticket p more
    → now.marks ≡ m.marks ++ more → AsksAlong (setting w stored) p m.state.requests → Follows w b how r m now → AsksAlong (setting w stored) (after p more) now.state.requests
AsksAlong-follows w stored p m now b how r absent more are is h (given_up out concludes) = concludes-asks w stored p m now r.ticket absent more are is h (requested r.request) verdict.Invalid concludes
AsksAlong-follows w stored p m now b how r absent more are is h (at_boundary hold becomes) = rw becomes (put_asks w stored p m now r.ticket absent more are is h (requested r.request) (Parked r.path) (λ f e. cc))
AsksAlong-follows w stored p m now b how r absent more are is h (failed not_held out concludes) = concludes-asks w stored p m now r.ticket absent more are is h (requested r.request) verdict.Invalid concludes
AsksAlong-follows w stored p m now b how r absent more are is h (parked pruning any becomes) = rw becomes (put_asks w stored p m now r.ticket absent more are is h (requested r.request) (Parked r.path) (λ f e. cc))
AsksAlong-follows w stored p m now b how r absent more are is h (goes_on kept not_held other any advances) = AsksAlong-advances w stored p m now r.ticket absent more are is h (requested r.request) r.path advances

module _ {B C I P R D H G U : Type 0} (w : Workings B C I P R D H G U) (m now : Moment w) (t : ℕ) where
  abbrev Stays : Type 0
  Stays = (u : ℕ) → IsSome (at m.state.requests u) → IsSome (at now.state.requests u)

  put_stays : (r : Requested B C I) (u : ℕ) → IsSome (at m.state.requests u) → IsSome (at (put m.state.requests t r) u)
  put_stays r u some = go (u == t) refl
    where
      go : (b : Bool) → (u == t) ≡ b → IsSome (at (put m.state.requests t r) u)
      go true is = rw (ap (λ n. at (put m.state.requests t r) n) (eqb-true u t is) ∙ put_here m.state.requests t r) refl
      go false is = rw (put_other m.state.requests t u r (eqb-false u t is)) some

  ended_stays : (v : Tables B C I R U) (request : Request B C I) (x : said.Verdict) → (ended v t request x).requests ≡ v.requests
  ended_stays v (Verify u ancestry) verdict.Valid = refl
  ended_stays v (Verify u ancestry) verdict.Invalid = refl
  ended_stays v (Recover u context ancestry input kind) verdict.Valid = refl
  ended_stays v (Recover u context ancestry input kind) verdict.Invalid = refl

  concludes-stays : (r : Requested B C I) (x : said.Verdict) → Concludes w m t r x now → Stays
  concludes-stays r x is u some = rw (is, ended_stays m.state r.request x) some

  -- who is in the table stays there, behind one that goes along its path
  pub there-advances : (r : Requested B C I) (path : Path B) → Advances w m t r path now → (u : ℕ) → IsSome (at m.state.requests u) → IsSome (at now.state.requests u)
  there-advances r path (arrives all concludes) u some = concludes-stays r verdict.Valid concludes u some
  there-advances r path (leaves reaches out concludes) u some = concludes-stays r verdict.Invalid concludes u some
  there-advances r path (joins j reaches on unknown has becomes) u some = rw becomes (put_stays _ u some)
  there-advances r path (starts reaches on unknown unrun known launches) u some = rw (launches.state, launches.starts.state) (put_stays _ u some)
  there-advances r path (misses reaches on unknown unrun out concludes) u some = concludes-stays r verdict.Invalid concludes u some

  -- and behind one that acquires what it needs
  pub there-acquires : (stored_now : ℕ → Option (Named B)) (r : Requested B C I) → Acquires w stored_now m t r now → (u : ℕ) → IsSome (at m.state.requests u) → IsSome (at now.state.requests u)
  there-acquires stored_now r (valid needs concludes) u some = concludes-stays r verdict.Valid concludes u some
  there-acquires stored_now r (invalid needs concludes) u some = concludes-stays r verdict.Invalid concludes u some
  there-acquires stored_now r (asks d needs left becomes) u some = rw becomes (put_stays _ u some)
  there-acquires stored_now r (waits needs becomes) u some = rw becomes (put_stays _ u some)
  there-acquires stored_now r (runs {path = path} needs advances) u some = there-advances (requested r.request) path advances u some

module _ {B C I P R D H G U : Type 0} (w : Workings B C I P R D H G U) (stored : ℕ → Option (Named B)) (p : Past B C I) (m now : Moment w) (t : ℕ) (more : List (Mark B)) (marks_are : now.marks ≡ m.marks ++ more) where
  told_none : (u : ℕ) (d : Digest) (request : Request B C I) (x : said.Verdict) → WasAsked u d (after p (told t request x)) → WasAsked u d p
  told_none u d (Verify k ancestry) verdict.Valid was = was
  told_none u d (Verify k ancestry) verdict.Invalid was = was
  told_none u d (Recover k context ancestry input kind) verdict.Valid was = was
  told_none u d (Recover k context ancestry input kind) verdict.Invalid was = was

  -- the marks that were made are these
  made : (ms : List (Mark B)) → now.marks ≡ m.marks ++ ms → (u : ℕ) (d : Digest) → WasAsked u d (after p more) → WasAsked u d (after p ms)
  made ms is u d was = subst (λ (l : List (Mark B)). WasAsked u d (after p l)) (append_cancel_left m.marks more ms (sym marks_are ∙ is)) was

  concludes-none : (r : Requested B C I) (x : said.Verdict) → Concludes w m t r x now → (u : ℕ) (d : Digest) → WasAsked u d (after p more) → WasAsked u d p
  concludes-none r x is u d was = told_none u d r.request x (made (told t r.request x) (ap (λ (n : Moment w). n.marks) is) u d was)

  -- a request that goes along its path asks for nothing
  pub advances-none : (r : Requested B C I) (path : Path B) → Advances w m t r path now → (u : ℕ) (d : Digest) → WasAsked u d (after p more) → WasAsked u d p
  advances-none r path (arrives all concludes) u d was = concludes-none r verdict.Valid concludes u d was
  advances-none r path (leaves reaches out concludes) u d was = concludes-none r verdict.Invalid concludes u d was
  advances-none r path (joins j reaches on unknown has becomes) u d was = made [] (ap (λ (n : Moment w). n.marks) becomes) u d was
  advances-none r path (starts reaches on unknown unrun known launches) u d was = made _ launches.marks u d was
  advances-none r path (misses reaches on unknown unrun out concludes) u d was = concludes-none r verdict.Invalid concludes u d was

  -- What was asked for was so for requests of the table: that stays behind one that acquires what it needs.
  pub AsksForThese-acquires : AsksForThese (setting w stored) p m.state.requests → (stored_now : ℕ → Option (Named B)) (r : Requested B C I) → Acquires w stored_now m t r now → AsksForThese (setting w stored) (after p more) now.state.requests
  AsksForThese-acquires h stored_now r (valid needs concludes) u d was = concludes-stays w m now t r verdict.Valid concludes u (h u d (concludes-none r verdict.Valid concludes u d was))
  AsksForThese-acquires h stored_now r (invalid needs concludes) u d was = concludes-stays w m now t r verdict.Invalid concludes u (h u d (concludes-none r verdict.Invalid concludes u d was))
  AsksForThese-acquires h stored_now r (asks x needs left becomes) u d was = elim (made (Asked m.state.next_fetch (Some t) x ∷ []) (ap (λ (n : Moment w). n.marks) becomes) u d was) [
    | inl own ↦ rw (becomes, own.0, put_here m.state.requests t (record r { phase = Fetching m.state.next_fetch })) refl
    | inr before ↦ there-acquires w m now t stored_now r (asks x needs left becomes) u (h u d before)
  ]
  AsksForThese-acquires h stored_now r (waits needs becomes) u d was = there-acquires w m now t stored_now r (waits needs becomes) u (h u d (made [] (ap (λ (n : Moment w). n.marks) becomes) u d was))
  AsksForThese-acquires h stored_now r (runs {path = path} needs advances) u d was = there-advances w m now t (requested r.request) path advances u (h u d (advances-none (requested r.request) path advances u d was))
