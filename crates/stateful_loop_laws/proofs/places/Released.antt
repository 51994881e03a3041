-- What was asked for requests is kept where those that waited for a run are taken out of their table, and follow its end.
use Rattle.std.proofs.Common.{◌≡◌, ◌≢◌, ◌++◌, ◌<◌, ◌==◌, not, ℕ, Bool, true, false, List, [], ◌∷◌, All, Option, None, Some, IsSome, get_or, refl, sym, ap, ◌∙◌, subst}
use Rattle.std.proofs.lemmas.Bool.{eqb-true, eqb-false, eq-eqb}
use Rattle.std.proofs.lemmas.List.Elements.{All-nil, All-cons, All-head, All-tail, All-filter}
use Rattle.std.proofs.lemmas.Map.Entries.{option_filter}
use Rattle.std.specs.List.Sorted.{IsStrictlySortedBy}
use Rattle.std.specs.Map.{keys_of}
use Rattle.std.specs.Ordering.{nat_cmp}
use Rattle.stateful_base.specs.Names.{Named}
use Rattle.stateful_base.specs.declared.digest.Digest.{Digest}
use Rattle.stateful_history.specs.Fetches.{WasAsked}
use Rattle.stateful_history.specs.Live.{bound_of}
use Rattle.stateful_history.specs.Past.{Past, Made, EachMark, after}
use Rattle.stateful_history.specs.Requests.{IsLiveRequest}
use Rattle.stateful_history.specs.declared.mark.How.{How}
use Rattle.stateful_history.specs.declared.mark.JobKind.TheVariants.{Candidate}
use Rattle.stateful_history.specs.declared.mark.Mark.{Mark}
use Rattle.stateful_history.specs.declared.mark.Mark.TheVariants.{Started, Verdict, Declined}
use Rattle.stateful_table.specs.Table.{at, put}
use Rattle.stateful_exec_model.specs.Ending.{Follows, given_up, at_boundary, failed, parked, goes_on}
use Rattle.stateful_exec_model.specs.Moments.{Moment}
use Rattle.stateful_exec_walk.specs.Path.{Path}
use Rattle.stateful_exec_tables.specs.Phase.{is_on, path_on, not_on, released_on}
use Rattle.stateful_exec_tables.specs.Tables.{told, ended, requested}
use Rattle.stateful_exec_model.specs.Rules.{Concludes, Advances, arrives, leaves, joins, starts, misses}
use Rattle.stateful_exec_model.specs.Workings.{Workings}
use Rattle.stateful_exec_model.specs.declared.building.Building.{Building}
use Rattle.stateful_exec_model.specs.declared.front.Front.{Front}
use Rattle.stateful_exec_walk.specs.declared.request.Request.{Request}
use Rattle.stateful_exec_walk.specs.declared.request.Request.TheVariants.{Verify, Recover}
use Rattle.stateful_exec_walk.specs.declared.request.Verdict as said
use Rattle.stateful_exec_walk.specs.declared.request.Verdict.TheVariants as verdict
use Rattle.stateful_exec_tables.specs.declared.state.Tables.{Tables}
use Rattle.stateful_exec_tables.specs.declared.tables.Phase.{Phase}
use Rattle.stateful_exec_tables.specs.declared.tables.Phase.TheVariants.{Open, Fetching, Waiting, Executing, Parked}
use Rattle.stateful_exec_tables.specs.declared.tables.Released.{Released}
use Rattle.stateful_exec_tables.specs.declared.tables.Requested.{Requested}
use Rattle.stateful_exec_laws.specs.Building.{IsElsewhere}
use Rattle.stateful_exec_laws.specs.Gathering.{gathered, AsksParents, AsksAlong, AsksNothing}
use Rattle.stateful_exec_laws.specs.Setting.{setting}
use Rattle.stateful_exec_laws.proofs.requests.AsksKept.{AsksAlong-follows, there-advances}
use Rattle.stateful_exec_laws.proofs.ended.Left.{at_not_on}
use Rattle.stateful_exec_laws.proofs.requests.KeptMarks.{KeepsBehind}
use Rattle.stateful_exec_laws.proofs.requests.Putting.{put_here}
use Rattle.stateful_exec_laws.proofs.runs.Removing.{All-at}
use Rattle.stateful_exec_laws.proofs.requests.ServedMarks.{AreServedBy}
use Rattle.stateful_loop_laws.specs.Places.{HasMovedIn, AsksStand}
use Rattle.stateful_loop_laws.specs.RuleMarks.{IsOfRule}
use Rattle.stateful_loop_laws.specs.Tickets.{IsOutside}
use Rattle.stateful_loop_laws.proofs.places.Past.{IsAskless, live-before, bound-after, asked-before}
use Rattle.stateful_loop_laws.proofs.places.Served.{none-there, not-there, put_some, queued-concludes, queued-advances, own-concludes, own-advances}
use Rattle.stateful_loop_laws.proofs.places.Still.{IsHookless}

-- the mark is one of a request that follows the end of a run: its own end, or the start of a further run
abbrev pub IsFollowing : {B : Type 0} → Mark B → Type 0
IsFollowing (Verdict t good) = Unit {0}
IsFollowing (Declined t) = Unit {0}
IsFollowing (Started j Candidate d) = Unit {0}
IsFollowing mark = ⊥

-- it is a mark of rules, asks for nothing, and leaves behind which block no hook was started yet
pub following-rule : {B : Type 0} (m : Mark B) → IsFollowing m → IsOfRule m
following-rule (Verdict t good) h = tt
following-rule (Declined t) h = tt
following-rule (Started j Candidate d) h = tt
following-rule m h = absurd h

pub following-askless : {B : Type 0} (m : Mark B) → IsFollowing m → IsAskless m
following-askless (Verdict t good) h = tt
following-askless (Declined t) h = tt
following-askless (Started j Candidate d) h = tt
following-askless m h = absurd h

pub following-hookless : {B : Type 0} (m : Mark B) → IsFollowing m → IsHookless m
following-hookless (Verdict t good) h = tt
following-hookless (Declined t) h = tt
following-hookless (Started j Candidate d) h = tt
following-hookless m h = absurd h

module _ {B C I P R D H G U : Type 0} (w : Workings B C I P R D H G U) (p : Past B C I) (m now : Moment w) where
  abbrev FollowsMarks : Type 0
  FollowsMarks = KeepsBehind w (λ (q : Past B C I) (x : Mark B). IsFollowing x) p m now

  none_told : now.marks ≡ m.marks ++ [] → FollowsMarks
  none_told is = record { more = []; marks_are = is; each = tt }

  told_so : (t : ℕ) (request : Request B C I) (v : said.Verdict)
      → EachMark (λ (q : Past B C I) (x : Mark B). IsFollowing x) p (told t request v)
  told_so t (Verify u ancestry) verdict.Valid = (tt, tt)
  told_so t (Verify u ancestry) verdict.Invalid = (tt, tt)
  told_so t (Recover u context ancestry input kind) verdict.Valid = tt
  told_so t (Recover u context ancestry input kind) verdict.Invalid = (tt, tt)

  concluded : (t : ℕ) (r : Requested B C I) (v : said.Verdict) → Concludes w m t r v now → FollowsMarks
  concluded t r v is = record {
    more = told t r.request v;
    marks_are = ap (λ (n : Moment w). n.marks) is;
    each = told_so t r.request v;
  }

  went_along : (t : ℕ) (r : Requested B C I) (path : Path B) → Advances w m t r path now → FollowsMarks
  went_along t r path (arrives all concludes) = concluded t r verdict.Valid concludes
  went_along t r path (leaves reaches out concludes) = concluded t r verdict.Invalid concludes
  went_along t r path (joins j reaches on unknown has becomes) = none_told (ap (λ (n : Moment w). n.marks) becomes)
  went_along t r path (starts reaches on unknown unrun known launches) = record { more = _; marks_are = launches.marks; each = (tt, tt) }
  went_along t r path (misses reaches on unknown unrun out concludes) = concluded t r verdict.Invalid concludes

  -- the marks of a request that follows the end of a run are such
  pub follows-following : (b : Named B) (how : How) (r : Released B C I) → Follows w b how r m now → FollowsMarks
  follows-following b how r (given_up out concludes) = concluded r.ticket (requested r.request) verdict.Invalid concludes
  follows-following b how r (at_boundary is becomes) = none_told (ap (λ (n : Moment w). n.marks) becomes)
  follows-following b how r (failed not_held out concludes) = concluded r.ticket (requested r.request) verdict.Invalid concludes
  follows-following b how r (parked pruning any becomes) = none_told (ap (λ (n : Moment w). n.marks) becomes)
  follows-following b how r (goes_on kept not_held other any advances) = went_along r.ticket (requested r.request) r.path advances

module _ {B C I P R D H G U : Type 0} (w : Workings B C I P R D H G U) (b : Named B) (how : How) (r : Released B C I) (m now : Moment w) where
  same_requests : (request : Request B C I) (x : said.Verdict) → (ended m.state r.ticket request x).requests ≡ m.state.requests
  same_requests (Verify u ancestry) verdict.Valid = refl
  same_requests (Verify u ancestry) verdict.Invalid = refl
  same_requests (Recover u context ancestry input kind) verdict.Valid = refl
  same_requests (Recover u context ancestry input kind) verdict.Invalid = refl

  ended_there : Concludes w m r.ticket (requested r.request) verdict.Invalid now → (u : ℕ) → IsSome (at m.state.requests u)
      → IsSome (at now.state.requests u)
  ended_there is u some = rw (is, same_requests r.request verdict.Invalid) some

  -- who is in the table stays there, behind one that follows the end of a run
  there_follows : Follows w b how r m now → (u : ℕ) → IsSome (at m.state.requests u) → IsSome (at now.state.requests u)
  there_follows (given_up out concludes) u some = ended_there concludes u some
  there_follows (at_boundary is becomes) u some = rw becomes (put_some m.state.requests r.ticket u _ some)
  there_follows (failed not_held out concludes) u some = ended_there concludes u some
  there_follows (parked pruning any becomes) u some = rw becomes (put_some m.state.requests r.ticket u _ some)
  there_follows (goes_on kept not_held other any advances) u some =
      there-advances w m now r.ticket (requested r.request) r.path advances u some

  -- and what is queued stays queued
  queued_follows : Follows w b how r m now → (u : ℕ) → IsSome (at m.state.queued u) → IsSome (at now.state.queued u)
  queued_follows (given_up out concludes) u some = queued-concludes w m now r.ticket (requested r.request) verdict.Invalid concludes u some
  queued_follows (at_boundary is becomes) u some = rw becomes some
  queued_follows (failed not_held out concludes) u some = queued-concludes w m now r.ticket (requested r.request) verdict.Invalid concludes u some
  queued_follows (parked pruning any becomes) u some = rw becomes some
  queued_follows (goes_on kept not_held other any advances) u some =
      queued-advances w m now r.ticket (requested r.request) r.path advances u some

  module _ (p : Past B C I) (more : List (Mark B)) (marks_are : now.marks ≡ m.marks ++ more) where
    parked_there : (x : Requested B C I) → now.state.requests ≡ put m.state.requests r.ticket x → IsElsewhere now.state r.ticket → ⊥
    parked_there x is out =
        let there = put_here m.state.requests r.ticket x in
        let no = sym there ∙ ap (λ es. at es r.ticket) (sym is) ∙ out.absent in cc

    -- it is in a table then itself, where it is live still
    own_follows : Follows w b how r m now → IsLiveRequest r.ticket (after p more) → IsElsewhere now.state r.ticket → ⊥
    own_follows (given_up gone concludes) live out =
        own-concludes w m now r.ticket p more marks_are (requested r.request) verdict.Invalid concludes live out
    own_follows (at_boundary is becomes) live out = parked_there _ (ap (λ (n : Moment w). n.state.requests) becomes) out
    own_follows (failed not_held gone concludes) live out =
        own-concludes w m now r.ticket p more marks_are (requested r.request) verdict.Invalid concludes live out
    own_follows (parked pruning any becomes) live out = parked_there _ (ap (λ (n : Moment w). n.state.requests) becomes) out
    own_follows (goes_on kept not_held other any advances) live out =
        own-advances w m now r.ticket p more marks_are (requested r.request) r.path advances live out

-- who is in no table, and among none of those that are taken out, was in no table before
absent_before : {B C I : Type 0} (job : ℕ) (es : List (ℕ × Requested B C I)) (t : ℕ) → IsStrictlySortedBy nat_cmp (keys_of es)
    → at (not_on job es) t ≡ None → ((r : Requested B C I) (path : Path B) → at es t ≡ Some r → r.phase ≡ Executing job path → ⊥)
    → at es t ≡ None
absent_before {B} {C} {I} job es t sorted none off = go (at es t) refl
  where
    not_its : (r : Requested B C I) → at es t ≡ Some r → (phase : Phase B) → r.phase ≡ phase → is_on job phase ≡ false
    not_its r is (Executing k path) on = by (k == job) refl
      where
        by : (x : Bool) → (k == job) ≡ x → x ≡ false
        by true same = absurd (off r path is (subst (λ n. r.phase ≡ Executing n path) (eqb-true k job same) on))
        by false same = refl
    not_its r is Open on = refl
    not_its r is (Fetching f) on = refl
    not_its r is Waiting on = refl
    not_its r is (Parked path) on = refl

    go : (o : Option (Requested B C I)) → at es t ≡ o → at es t ≡ None
    go None is = is
    go (Some r) is =
        let off_it : is_on job r.phase ≡ false = not_its r is r.phase refl in
        let here : option_filter (λ (x : Requested B C I). not (is_on job x.phase)) (Some r) ≡ Some r = rw off_it refl in
        let no = sym none ∙ at_not_on job es t sorted ∙ ap (λ o. option_filter (λ (x : Requested B C I). not (is_on job x.phase)) o) is ∙ here in
        cc

-- those that are taken out are those that waited for the run
taken_out : {B C I : Type 0} (job : ℕ) (es : List (ℕ × Requested B C I)) (t : ℕ) → All (λ (r : Released B C I). r.ticket ≢ t) (released_on job es)
    → All (λ (e : ℕ × Requested B C I). e.0 ≡ t → (path : Path B) → e.1.phase ≡ Executing job path → ⊥) es
taken_out {B} {C} {I} job [] t others = All-nil (λ (e : ℕ × Requested B C I). e.0 ≡ t → (path : Path B) → e.1.phase ≡ Executing job path → ⊥)
taken_out {B} {C} {I} job (e ∷ es) t others = by_phase e.1.phase refl (λ all. taken_out job es t all)
  where
    Off : ℕ × Requested B C I → Type 0
    Off x = x.0 ≡ t → (path : Path B) → x.1.phase ≡ Executing job path → ⊥

    Other : Released B C I → Type 0
    Other r = r.ticket ≢ t

    passed : path_on job e.1.phase ≡ None → ((path : Path B) → e.1.phase ≡ Executing job path → ⊥) → (All Other (released_on job es) → All Off es)
        → All Off (e ∷ es)
    passed no_path never rest = All-cons Off e es (λ same path is. never path is) (rest (rw no_path at others))

    on : (k : ℕ) (path : Path B) → e.1.phase ≡ Executing k path → (x : Bool) → (k == job) ≡ x → (All Other (released_on job es) → All Off es)
        → All Off (e ∷ es)
    on k path is true same rest =
        let all : All Other (record { ticket = e.0; request = e.1.request; path = path } ∷ released_on job es) = rw (is, same) at others in
        All-cons Off e es (λ own other was. All-head Other _ (released_on job es) all own) (rest (All-tail Other _ (released_on job es) all))
    on k path is false other rest = passed (rw (is, other) refl)
        (λ way was.
        let both : Executing k path ≡ Executing job way = sym is ∙ was in
        let own : k ≡ job = cc in
        eqb-false k job other own) rest

    by_phase : (phase : Phase B) → e.1.phase ≡ phase → (All Other (released_on job es) → All Off es) → All Off (e ∷ es)
    by_phase (Executing k path) is rest = on k path is (k == job) refl rest
    by_phase Open is rest = passed (rw is refl) (λ way was. let both : Open ≡ Executing job way = sym is ∙ was in cc) rest
    by_phase (Fetching f) is rest = passed (rw is refl) (λ way was. let both : Fetching f ≡ Executing job way = sym is ∙ was in cc) rest
    by_phase Waiting is rest = passed (rw is refl) (λ way was. let both : Waiting ≡ Executing job way = sym is ∙ was in cc) rest
    by_phase (Parked path) is rest = passed (rw is refl) (λ way was. let both : Parked path ≡ Executing job way = sym is ∙ was in cc) rest

module _ {B C I P R D H G U : Type 0} (w : Workings B C I P R D H G U) (stored : ℕ → Option (Named B)) (build : Option (Building B C D)) where
  -- What was asked stands while these requests are in no table: for those that fetch it is the parent of what was gathered, it was
  -- so for earlier tickets, and for no other live request that is in no table.
  pub record AsksBeside (rs : List (Released B C I)) (p : Past B C I) (m : Moment w) : Type 0 where
    pub along : AsksAlong (setting w stored) p m.state.requests
    pub earlier : (t : ℕ) (d : Digest) → WasAsked t d p → t < bound_of p
    pub inside : (t : ℕ) (d : Digest) → WasAsked t d p → IsLiveRequest t p → IsOutside w stored p m.state build t
        → All (λ r. r.ticket ≢ t) rs → ⊥

  -- So it does behind one of them that follows the end of the run.
  pub follows-asks : (b : Named B) (how : How) (r : Released B C I) (rs : List (Released B C I)) (p : Past B C I) (m now : Moment w)
      → at m.state.requests r.ticket ≡ None → (more : List (Mark B)) → now.marks ≡ m.marks ++ more → AreServedBy r.ticket p more
      → All IsAskless more → Follows w b how r m now → AsksBeside (r ∷ rs) p m → AsksBeside rs (after p more) now
  follows-asks b how r rs p m now absent more is are askless rule h = record {
    along = AsksAlong-follows w stored p m now b how r absent more are is h.along rule;
    earlier = λ t d was. subst (λ n. t < n) (sym (bound-after p more)) (h.earlier t d (asked-before t d p more askless was));
    inside = inside;
  }
    where
      inside : (t : ℕ) (d : Digest) → WasAsked t d (after p more) → IsLiveRequest t (after p more)
          → IsOutside w stored (after p more) now.state build t → All (λ x. x.ticket ≢ t) rs → ⊥
      inside t d was live out others = go (r.ticket == t) refl
        where
          go : (x : Bool) → (r.ticket == t) ≡ x → ⊥
          go true same =
              let own : t ≡ r.ticket = sym (eqb-true r.ticket t same) in
              own_follows w b how r m now p more is rule (subst (λ n. IsLiveRequest n (after p more)) own live)
              (subst (λ n. IsElsewhere now.state n) own out.elsewhere)
          go false other = h.inside t d (asked-before t d p more askless was) (live-before t _ p more live)
              (record {
                elsewhere = record {
                  absent = none-there m.state.requests t
                      (λ some. not-there now.state.requests t out.elsewhere.absent (there_follows w b how r m now rule t some));
                  not_queued = none-there m.state.queued t
                      (λ some. not-there now.state.queued t out.elsewhere.not_queued (queued_follows w b how r m now rule t some));
                };
                unbuilt = out.unbuilt;
              })
              (All-cons (λ x. x.ticket ≢ t) r rs (eqb-false r.ticket t other) others)

  -- So it does where those that waited for a run are taken out of their table.
  pub asks-released : (p : Past B C I) (more : List (Mark B)) → All IsAskless more → (v : Tables B C I R U) (front : Option (Front B R U H)) (job : ℕ)
      (now : Moment w) → IsStrictlySortedBy nat_cmp (keys_of v.requests) → now.state.requests ≡ not_on job v.requests
      → now.state.queued ≡ v.queued → AsksStand w stored p v build front → AsksBeside (released_on job v.requests) (after p more) now
  asks-released p more askless v front job now sorted requests queued h = record {
    along = subst (λ (es : List (ℕ × Requested B C I)). AsksAlong (setting w stored) (after p more) es) (sym requests)
        (All-filter (λ (e : ℕ × Requested B C I). not (is_on job e.1.phase))
        (λ e. (f : ℕ) → e.1.phase ≡ Fetching f → AsksParents (setting w stored) (after p more) e.0 (gathered e.1.request e.1.acquired)) v.requests
        (λ k d l f fetching x was. h.along k d l f fetching x (asked-before _ x p more askless was)));
    earlier = λ t d was. subst (λ n. t < n) (sym (bound-after p more)) (h.earlier t d (asked-before t d p more askless was));
    inside = λ t d was live out others. h.inside t d (asked-before t d p more askless was) (live-before t _ p more live) (record {
      elsewhere = record {
        absent = absent_before job v.requests t sorted (rw requests at out.elsewhere.absent)
            (λ r path there on. All-at (λ (e : ℕ × Requested B C I). e.0 ≡ t → (way : Path B) → e.1.phase ≡ Executing job way → ⊥) v.requests t r
            there (taken_out job v.requests t others) refl path on);
        not_queued = rw queued at out.elsewhere.not_queued;
      };
      unbuilt = out.unbuilt;
    });
  }

  -- Where all of them have followed, what was asked stands.
  pub asks-followed : (p : Past B C I) (m : Moment w) (front : Option (Front B R U H)) → (HasMovedIn front → AsksNothing (setting w stored) p)
      → AsksBeside [] p m → AsksStand w stored p m.state build front
  asks-followed p m front nothing h = record {
    along = h.along;
    earlier = h.earlier;
    inside = λ t d was live out. h.inside t d was live out (All-nil (λ (r : Released B C I). r.ticket ≢ t));
    nothing = nothing;
  }
