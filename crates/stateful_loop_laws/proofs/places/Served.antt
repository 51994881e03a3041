-- What was asked for requests is kept behind one that acquires what it needs, or ends.
use Rattle.std.proofs.Common.{◌≡◌, ◌≢◌, ◌++◌, ◌<◌, ◌==◌, ℕ, Bool, true, false, List, [], ◌∷◌, All, Option, None, Some, IsSome, refl, sym, ap, ◌∙◌, subst}
use Rattle.std.proofs.lemmas.Bool.{eqb-true, eqb-false, eq-eqb}
use Rattle.std.proofs.lemmas.List.{append_cancel_left}
use Rattle.std.proofs.lemmas.List.Elements.{All-nil, All-cons}
use Rattle.stateful_base.specs.Names.{Named}
use Rattle.stateful_base.specs.declared.digest.Digest.{Digest}
use Rattle.stateful_history.specs.Fetches.{WasAsked}
use Rattle.stateful_history.specs.Live.{bound_of}
use Rattle.stateful_history.specs.Past.{Past, Made, EachMark, after}
use Rattle.stateful_history.specs.Requests.{IsLiveRequest}
use Rattle.stateful_history.specs.declared.mark.JobKind.TheVariants.{Candidate}
use Rattle.stateful_history.specs.declared.mark.Mark.{Mark}
use Rattle.stateful_history.specs.declared.mark.Mark.TheVariants.{Asked, Started, Verdict, Declined}
use Rattle.stateful_table.specs.Table.{at, put}
use Rattle.stateful_exec_model.specs.Moments.{Moment}
use Rattle.stateful_exec_walk.specs.Path.{Path}
use Rattle.stateful_exec_tables.specs.Tables.{told, ended, requested}
use Rattle.stateful_exec_model.specs.Rules.{Concludes, Advances, arrives, leaves, joins, starts, misses, Acquires, valid, invalid, asks, waits, runs}
use Rattle.stateful_exec_model.specs.Workings.{Workings}
use Rattle.stateful_exec_model.specs.declared.building.Building.{Building}
use Rattle.stateful_exec_model.specs.declared.front.Front.{Front}
use Rattle.stateful_exec_walk.specs.declared.request.Request.{Request}
use Rattle.stateful_exec_walk.specs.declared.request.Request.TheVariants.{Verify, Recover}
use Rattle.stateful_exec_walk.specs.declared.request.Verdict as said
use Rattle.stateful_exec_walk.specs.declared.request.Verdict.TheVariants as verdict
use Rattle.stateful_exec_tables.specs.declared.state.Tables.{Tables}
use Rattle.stateful_exec_tables.specs.declared.tables.Requested.{Requested}
use Rattle.stateful_exec_laws.specs.Building.{IsElsewhere}
use Rattle.stateful_exec_laws.specs.Gathering.{AsksAlong, AsksNothing}
use Rattle.stateful_exec_laws.specs.Setting.{setting}
use Rattle.stateful_exec_laws.proofs.requests.Arrivals.{live_below}
use Rattle.stateful_exec_laws.proofs.requests.Putting.{put_here, put_other}
use Rattle.stateful_exec_laws.proofs.requests.ServedMarks.{IsServedBy, AreServedBy, WasAsked-before}
use Rattle.stateful_loop_laws.specs.Places.{EndsNoRun, HasMovedIn, AsksStand}
use Rattle.stateful_loop_laws.specs.RuleMarks.{IsOfRule}
use Rattle.stateful_loop_laws.specs.Tickets.{IsOutside}
use Rattle.stateful_loop_laws.proofs.places.Past.{live-before, bound-after}

-- a mark of a request that is served is one of rules
served_rule : {B : Type 0} (t : ℕ) (m : Mark B) → IsServedBy t m → IsOfRule m
served_rule t (Verdict u good) h = tt
served_rule t (Declined u) h = tt
served_rule t (Asked f (Some u) d) h = tt
served_rule t (Started j Candidate d) h = tt
served_rule t m h = absurd h

served_ends : {B C I : Type 0} (t : ℕ) (p : Past B C I) (m : Mark B) → IsServedBy t m → EndsNoRun p m
served_ends t p (Verdict u good) h = tt
served_ends t p (Declined u) h = tt
served_ends t p (Asked f (Some u) d) h = tt
served_ends t p (Started j Candidate d) h = tt
served_ends t p m h = absurd h

module _ {B C I : Type 0} (t : ℕ) where
  pub served-rules : (p : Past B C I) (more : List (Mark B)) → AreServedBy t p more → All IsOfRule more
  served-rules p [] are = All-nil IsOfRule
  served-rules p (m ∷ more) are = All-cons IsOfRule m more (served_rule t m are.0) (served-rules (Made m ∷ p) more are.1)

  pub served-ends : (p : Past B C I) (more : List (Mark B)) → AreServedBy t p more → EachMark EndsNoRun p more
  served-ends p [] are = tt
  served-ends p (m ∷ more) are = (served_ends t p m are.0, served-ends (Made m ∷ p) more are.1)

-- what is in a table isn't missing from it
pub none-there : {V : Type 0} (es : List (ℕ × V)) (t : ℕ) → (IsSome (at es t) → ⊥) → at es t ≡ None
none-there es t out = go (at es t) refl
  where
    go : (o : Option _) → at es t ≡ o → at es t ≡ None
    go None is = is
    go (Some v) is = absurd (out (rw is refl))

pub not-there : {V : Type 0} (es : List (ℕ × V)) (t : ℕ) → at es t ≡ None → IsSome (at es t) → ⊥
not-there es t none some = let no = rw none at some in cc

pub put_some : {V : Type 0} (es : List (ℕ × V)) (t u : ℕ) (v : V) → IsSome (at es u) → IsSome (at (put es t v) u)
put_some es t u v some = go (u == t) refl
  where
    go : (b : Bool) → (u == t) ≡ b → IsSome (at (put es t v) u)
    go true is = rw (ap (λ n. at (put es t v) n) (eqb-true u t is) ∙ put_here es t v) refl
    go false is = rw (put_other es t u v (eqb-false u t is)) some

module _ {B C I P R D H G U : Type 0} (w : Workings B C I P R D H G U) (m now : Moment w) (t : ℕ) where
  ended_queue : (v : Tables B C I R U) (request : Request B C I) (x : said.Verdict) (u : ℕ) → IsSome (at v.queued u) → IsSome
      (at (ended v t request x).queued u)
  ended_queue v (Verify k ancestry) verdict.Valid u some = some
  ended_queue v (Verify k ancestry) verdict.Invalid u some = some
  ended_queue v (Recover k context ancestry input kind) verdict.Valid u some = put_some v.queued t u _ some
  ended_queue v (Recover k context ancestry input kind) verdict.Invalid u some = some

  pub queued-concludes : (r : Requested B C I) (x : said.Verdict) → Concludes w m t r x now → (u : ℕ) → IsSome (at m.state.queued u) → IsSome
      (at now.state.queued u)
  queued-concludes r x is u some = rw is (ended_queue m.state r.request x u some)

  -- what is queued stays queued, behind one that goes along its path
  pub queued-advances : (r : Requested B C I) (path : Path B) → Advances w m t r path now → (u : ℕ) → IsSome (at m.state.queued u) → IsSome
      (at now.state.queued u)
  queued-advances r path (arrives all concludes) u some = queued-concludes r verdict.Valid concludes u some
  queued-advances r path (leaves reaches out concludes) u some = queued-concludes r verdict.Invalid concludes u some
  queued-advances r path (joins j reaches on unknown has becomes) u some = rw becomes some
  queued-advances r path (starts reaches on unknown unrun known launches) u some = rw (launches.state, launches.starts.state) some
  queued-advances r path (misses reaches on unknown unrun out concludes) u some = queued-concludes r verdict.Invalid concludes u some

  -- and behind one that acquires what it needs
  pub queued-acquires : (stored_now : ℕ → Option (Named B)) (r : Requested B C I) → Acquires w stored_now m t r now → (u : ℕ) → IsSome
      (at m.state.queued u) → IsSome (at now.state.queued u)
  queued-acquires stored_now r (valid needs concludes) u some = queued-concludes r verdict.Valid concludes u some
  queued-acquires stored_now r (invalid needs concludes) u some = queued-concludes r verdict.Invalid concludes u some
  queued-acquires stored_now r (asks d needs left becomes) u some = rw becomes some
  queued-acquires stored_now r (waits needs becomes) u some = rw becomes some
  queued-acquires stored_now r (runs {path = path} needs advances) u some = queued-advances (requested r.request) path advances u some

  module _ (p : Past B C I) (more : List (Mark B)) (marks_are : now.marks ≡ m.marks ++ more) where
    own_told : (request : Request B C I) (x : said.Verdict) → IsLiveRequest t (after p (told t request x)) → at
        (ended m.state t request x).queued t ≡ None → ⊥
    own_told (Verify k ancestry) verdict.Valid live none = let own : (t == t) ≡ true = eq-eqb t t refl in let no = rw own at live in cc
    own_told (Verify k ancestry) verdict.Invalid live none = let own : (t == t) ≡ true = eq-eqb t t refl in let no = rw own at live in cc
    own_told (Recover k context ancestry input kind) verdict.Valid live none = let there = put_here m.state.queued t
        (record { context = context; ancestry = ancestry; input = input; kind = kind }) in let no = sym there ∙ none in cc
    own_told (Recover k context ancestry input kind) verdict.Invalid live none = let own :
        (t == t) ≡ true = eq-eqb t t refl in let no = rw own at live in cc

    pub own-concludes : (r : Requested B C I) (x : said.Verdict) → Concludes w m t r x now → IsLiveRequest t (after p more) → IsElsewhere now.state t
        → ⊥
    own-concludes r x is live out =
        let same : more ≡ told t r.request x = append_cancel_left m.marks more (told t r.request x)
        (sym marks_are ∙ ap (λ (n : Moment w). n.marks) is) in
        own_told r.request x (subst (λ (ms : List (Mark B)). IsLiveRequest t (after p ms)) same live)
        (sym (ap (λ (n : Moment w). at n.state.queued t) is) ∙ out.not_queued)

    own_put : (r : Requested B C I) (v : Tables B C I R U) → now.state.requests ≡ put v.requests t r → IsElsewhere now.state t → ⊥
    own_put r v is out = let there = put_here v.requests t r in let no = sym there ∙ ap (λ es. at es t) (sym is) ∙ out.absent in cc

    -- a request that goes along its path is in a table then, where it is live still
    pub own-advances : (r : Requested B C I) (path : Path B) → Advances w m t r path now → IsLiveRequest t (after p more) → IsElsewhere now.state t
        → ⊥
    own-advances r path (arrives all concludes) live out = own-concludes r verdict.Valid concludes live out
    own-advances r path (leaves reaches on concludes) live out = own-concludes r verdict.Invalid concludes live out
    own-advances r path (joins j reaches on unknown has becomes) live out = own_put _ m.state (ap (λ (n : Moment w). n.state.requests) becomes) out
    own-advances r path (starts reaches on unknown unrun known launches) live out = own_put _ launches.running
        (ap (λ (v : Tables B C I R U). v.requests) launches.state) out
    own-advances r path (misses reaches on unknown unrun missed concludes) live out = own-concludes r verdict.Invalid concludes live out

    -- so is one that acquires what it needs
    pub own-acquires : (stored_now : ℕ → Option (Named B)) (r : Requested B C I) → Acquires w stored_now m t r now → IsLiveRequest t (after p more)
        → IsElsewhere now.state t → ⊥
    own-acquires stored_now r (valid needs concludes) live out = own-concludes r verdict.Valid concludes live out
    own-acquires stored_now r (invalid needs concludes) live out = own-concludes r verdict.Invalid concludes live out
    own-acquires stored_now r (asks d needs left becomes) live out = own_put _ m.state (ap (λ (n : Moment w). n.state.requests) becomes) out
    own-acquires stored_now r (waits needs becomes) live out = own_put _ m.state (ap (λ (n : Moment w). n.state.requests) becomes) out
    own-acquires stored_now r (runs {path = path} needs advances) live out = own-advances (requested r.request) path advances live out

module _ {B C I P R D H G U : Type 0} (w : Workings B C I P R D H G U) (stored : ℕ → Option (Named B)) (p : Past B C I) (m now : Moment w) (t : ℕ)
    (more : List (Mark B)) (are : AreServedBy t p more) (live : IsLiveRequest t p) (build : Option (Building B C D)) (front : Option (Front B R U H))
    (earlier : (u : ℕ) (d : Digest) → WasAsked u d p → u < bound_of p)
    (inside : (u : ℕ) (d : Digest) → u ≢ t → WasAsked u d p → IsLiveRequest u p → IsOutside w stored p m.state build u → ⊥)
    (there : (u : ℕ) → IsSome (at m.state.requests u) → IsSome (at now.state.requests u))
    (queued : (u : ℕ) → IsSome (at m.state.queued u) → IsSome (at now.state.queued u))
    (own : IsLiveRequest t (after p more) → IsElsewhere now.state t → ⊥) where
  earlier_after : (u : ℕ) (d : Digest) → WasAsked u d (after p more) → u < bound_of (after p more)
  earlier_after u d was = subst (λ n. u < n) (sym (bound-after p more)) (go (u == t) refl)
    where
      go : (b : Bool) → (u == t) ≡ b → u < bound_of p
      go true is = subst (λ n. n < bound_of p) (sym (eqb-true u t is)) (live_below t p _ live)
      go false is = earlier u d (WasAsked-before t u d p more are (eqb-false u t is) was)

  inside_after : (u : ℕ) (d : Digest) → WasAsked u d (after p more) → IsLiveRequest u (after p more) → IsOutside w stored
      (after p more) now.state build u → ⊥
  inside_after u d was alive out = go (u == t) refl
    where
      go : (b : Bool) → (u == t) ≡ b → ⊥
      go true is = own (subst (λ n. IsLiveRequest n (after p more)) (eqb-true u t is) alive)
          (subst (λ n. IsElsewhere now.state n) (eqb-true u t is) out.elsewhere)
      go false is = inside u d (eqb-false u t is) (WasAsked-before t u d p more are (eqb-false u t is) was) (live-before u _ p more alive) (record {
        elsewhere = record {
          absent = none-there m.state.requests u (λ some. not-there now.state.requests u out.elsewhere.absent (there u some));
          not_queued = none-there m.state.queued u (λ some. not-there now.state.queued u out.elsewhere.not_queued (queued u some));
        };
        unbuilt = out.unbuilt;
      })

  -- What was asked is kept behind a request that is served.
  pub asks-served : AsksAlong (setting w stored) (after p more) now.state.requests →
      (HasMovedIn front → AsksNothing (setting w stored) (after p more))
      → AsksStand w stored (after p more) now.state build front
  asks-served along nothing = record { along = along; earlier = earlier_after; inside = inside_after; nothing = nothing }
