-- What is gathered for requests stays linked, behind a request that is served and behind the answer of a fetch.
use Rattle.std.proofs.Common.{◌≡◌, ◌≢◌, ◌==◌, ◌++◌, ℕ, false, List, [], ◌∷◌, Option, None, Some, MatchOption, get_or, refl, sym, ap, ◌∙◌, subst, take}
use Rattle.std.proofs.lemmas.Bool.{eq-eqb}
use Rattle.std.proofs.lemmas.List.{append_cancel_left, append-nil}
use Rattle.stateful_base.specs.Names.{Named}
use Rattle.stateful_base.specs.declared.digest.Digest.{Digest}
use Rattle.stateful_history.specs.Asked.{asked_for, asked_digest}
use Rattle.stateful_history.specs.Honest.{IsHonest, IsAnswered}
use Rattle.stateful_history.specs.Numbers.{NumberIsNew}
use Rattle.stateful_history.specs.Past.{Past, Came, Made, EachMark, after}
use Rattle.stateful_history.specs.Setting.{Setting, parent_of}
use Rattle.stateful_history.specs.declared.event.Event.TheVariants.{Fetched}
use Rattle.stateful_history.specs.declared.mark.How.{How}
use Rattle.stateful_history.specs.declared.mark.JobKind.TheVariants.{Candidate}
use Rattle.stateful_history.specs.declared.mark.Mark.{Mark}
use Rattle.stateful_history.specs.declared.mark.Mark.TheVariants.{Asked, Started, Verdict, Declined}
use Rattle.stateful_table.specs.Table.{put}
use Rattle.stateful_exec_model.specs.Ending.{Follows, given_up, at_boundary, failed, parked, goes_on}
use Rattle.stateful_exec_model.specs.Moments.{Moment}
use Rattle.stateful_exec_walk.specs.Path.{Path}
use Rattle.stateful_exec_tables.specs.Tables.{told, ended, requested}
use Rattle.stateful_exec_model.specs.Rules.{Needs, Concludes, Advances, arrives, leaves, joins, starts, misses, Acquires, valid, invalid, asks, waits, runs}
use Rattle.stateful_exec_model.specs.Workings.{Workings, Point}
use Rattle.stateful_exec_walk.specs.declared.request.Request.{Request}
use Rattle.stateful_exec_walk.specs.declared.request.Request.TheVariants.{Verify, Recover}
use Rattle.stateful_exec_walk.specs.declared.request.Verdict as said
use Rattle.stateful_exec_walk.specs.declared.request.Verdict.TheVariants as verdict
use Rattle.stateful_exec_tables.specs.declared.state.Tables.{Tables}
use Rattle.stateful_exec_tables.specs.declared.tables.Phase.{Phase}
use Rattle.stateful_exec_tables.specs.declared.tables.Phase.TheVariants.{Fetching, Waiting, Executing, Parked}
use Rattle.stateful_exec_tables.specs.declared.tables.Released.{Released}
use Rattle.stateful_exec_tables.specs.declared.tables.Requested.{Requested}
use Rattle.stateful_exec_walk.specs.declared.walk.Acquired.TheVariants as acquired
use Rattle.stateful_exec_laws.specs.Setting.{setting}
use Rattle.stateful_exec_laws.specs.Gathering.{gathered, AreLinked, last_of, IsGathered, GatheringsStand}
use Rattle.stateful_exec_laws.specs.Requesting.{IsInPhase, IsStanding}
use Rattle.stateful_exec_laws.specs.Standing.{TablesStand}
use Rattle.stateful_exec_laws.proofs.requests.Cancelled.{same_fetch}
use Rattle.stateful_exec_laws.proofs.requests.KeptMarks.{KeepsBehind}
use Rattle.stateful_exec_laws.proofs.places.Fetched.{gathered-push}
use Rattle.stateful_exec_laws.proofs.places.Marks.{started-next, asked-next}
use Rattle.stateful_exec_laws.proofs.requests.Putting.{All-put}
use Rattle.stateful_exec_laws.proofs.runs.Removing.{differ}
use Rattle.stateful_exec_laws.proofs.requests.ServedMarks.{IsServedBy, AreServedBy}

module _ {B S T : Type 0} (s : Setting B S T) where
  -- blocks are linked with one more that is the parent of the last
  AreLinked-push : (bs : List (Named B)) (c : Named B) → AreLinked s bs → MatchOption (last_of bs) ⊥ (λ b. Some c.digest ≡ Some (parent_of s b)) → AreLinked s (bs ++ c ∷ [])
  AreLinked-push [] c linked parent = absurd parent
  AreLinked-push (b ∷ []) c linked parent = (cc, tt)
  AreLinked-push (b ∷ x ∷ bs) c linked parent = (linked.0, AreLinked-push (x ∷ bs) c linked.1 parent)

  AreLinked-front : (bs cs : List (Named B)) → AreLinked s (bs ++ cs) → AreLinked s bs
  AreLinked-front [] cs linked = tt
  AreLinked-front (b ∷ []) cs linked = tt
  AreLinked-front (b ∷ x ∷ bs) cs linked = (linked.0, AreLinked-front (x ∷ bs) cs linked.1)

  gathered-front : {C I : Type 0} (request : Request B C I) (acquired : List (Named B)) → gathered request acquired ≡ gathered request [] ++ acquired
  gathered-front (Verify t ancestry) acquired = ap (λ l. ancestry.first ∷ (l ++ acquired)) (sym (append-nil (take 1 ancestry.rest)))
  gathered-front (Recover t context ancestry input kind) acquired = refl

  -- what came with a request is linked where all that was gathered is
  pub AreLinked-brought : {C I : Type 0} (request : Request B C I) (acquired : List (Named B)) → AreLinked s (gathered request acquired) → AreLinked s (gathered request [])
  AreLinked-brought request acquired linked = AreLinked-front (gathered request []) acquired (subst (λ (l : List (Named B)). AreLinked s l) (gathered-front request acquired) linked)

  module _ {C I : Type 0} (p : Past B C I) where
    -- behind an answer with a block, which was the asked one, the block is gathered too
    pub AreLinked-fetched : (f : ℕ) (b : Named B) (r : Requested B C I) → r.phase ≡ Fetching f → IsGathered s p r → IsHonest s (Came (Fetched f (Some b)) ∷ p) → IsAnswered (Came (Fetched f (Some b)) ∷ p) → AreLinked s (gathered r.request (r.acquired ++ b ∷ []))
    AreLinked-fetched f b r fetching h honest answered =
        subst (λ (l : List (Named B)). AreLinked s l) (sym (gathered-push r.request r.acquired b))
        (AreLinked-push (gathered r.request r.acquired) b (h.linked honest answered.1)
        (subst (λ (o : Option Digest). MatchOption (last_of (gathered r.request r.acquired)) ⊥ (λ x. o ≡ Some (parent_of s x))) answered.0 (h.fetched f fetching)))

    -- marks leave what is trusted
    pub honest-before : (marks : List (Mark B)) → IsHonest s (after p marks) → IsHonest s p
    honest-before marks h = go p marks h
      where
        go : (x : Past B C I) (ms : List (Mark B)) → IsHonest s (after x ms) → IsHonest s x
        go x [] h = h
        go x (mark ∷ ms) h = go (Made mark ∷ x) ms h

    pub answered-before : (marks : List (Mark B)) → IsAnswered (after p marks) → IsAnswered p
    answered-before marks h = go p marks h
      where
        go : (x : Past B C I) (ms : List (Mark B)) → IsAnswered (after x ms) → IsAnswered x
        go x [] h = h
        go x (mark ∷ ms) h = go (Made mark ∷ x) ms h

module _ {B C I S T : Type 0} (s : Setting B S T) where
  -- marks leave what is trusted, forwards too
  pub honest-after : (p : Past B C I) (marks : List (Mark B)) → IsHonest s p → IsHonest s (after p marks)
  honest-after p [] h = h
  honest-after p (mark ∷ marks) h = honest-after (Made mark ∷ p) marks h

  pub answered-after : (p : Past B C I) (marks : List (Mark B)) → IsAnswered p → IsAnswered (after p marks)
  answered-after p [] h = h
  answered-after p (mark ∷ marks) h = answered-after (Made mark ∷ p) marks h

module _ {B C I : Type 0} where
  -- what a fetch is for stays after a mark under a new number
  record LeavesAsked (f : ℕ) (p q : Past B C I) : Type 0 where
    ticket : asked_for f q ≡ asked_for f p
    digest : asked_digest f q ≡ asked_digest f p

  leaves_one : (p : Past B C I) (f t : ℕ) (mark : Mark B) → IsServedBy t mark → asked_for f p ≢ None → NumberIsNew p mark → LeavesAsked f p (Made mark ∷ p)
  leaves_one p f t (Verdict v good) is some new = record { ticket = refl; digest = refl }
  leaves_one p f t (Declined v) is some new = record { ticket = refl; digest = refl }
  leaves_one p f t (Started j Candidate e) is some new = record { ticket = refl; digest = refl }
  leaves_one p f t (Asked g (Some v) e) is some new =
      let other : (f == g) ≡ false = differ f g (λ own. some (subst (λ (n : ℕ). asked_for n p ≡ None) own new)) in
      record { ticket = rw other refl; digest = rw other refl }
  leaves_one p f t mark is some new = absurd is

  leaves_asked : (p : Past B C I) (f t : ℕ) (marks : List (Mark B)) → AreServedBy t p marks → EachMark NumberIsNew p marks → asked_for f p ≢ None → LeavesAsked f p (after p marks)
  leaves_asked p f t [] are new some = record { ticket = refl; digest = refl }
  leaves_asked p f t (mark ∷ marks) are new some =
      let one : LeavesAsked f p (Made mark ∷ p) = leaves_one p f t mark are.0 some new.0 in
      let rest : LeavesAsked f (Made mark ∷ p) (after (Made mark ∷ p) marks) = leaves_asked (Made mark ∷ p) f t marks are.1 new.1 (λ none. some (sym one.ticket ∙ none)) in
      record { ticket = rest.ticket ∙ one.ticket; digest = rest.digest ∙ one.digest }

module _ {B C I P R D H G U : Type 0} (w : Workings B C I P R D H G U) (stored : ℕ → Option (Named B)) (p : Past B C I) (points : Digest → Point w) (point : Point w) (m now : Moment w) (s : TablesStand w stored p points point m.next m.state) (t : ℕ) where
  told-new : (request : Request B C I) (v : said.Verdict) → EachMark NumberIsNew p (told t request v)
  told-new (Verify u ancestry) verdict.Valid = (tt, tt)
  told-new (Verify u ancestry) verdict.Invalid = (tt, tt)
  told-new (Recover u context ancestry input kind) verdict.Valid = tt
  told-new (Recover u context ancestry input kind) verdict.Invalid = (tt, tt)

  -- a request that goes along its path begins what it begins under a new number
  pub advances-new : (r : Requested B C I) (path : Path B) → Advances w m t r path now → KeepsBehind w NumberIsNew p m now
  advances-new r path (arrives all concludes) = rw concludes (record { more = _; marks_are = refl; each = told-new r.request verdict.Valid })
  advances-new r path (leaves reaches out concludes) = rw concludes (record { more = _; marks_are = refl; each = told-new r.request verdict.Invalid })
  advances-new r path (joins j reaches on unknown has becomes) = rw becomes (record { more = []; marks_are = refl; each = tt })
  advances-new r path (starts reaches on unknown unrun known launches) = record { more = _; marks_are = launches.marks; each = (started-next p m.state.next_job m.state.next_fetch s.numbers, tt) }
  advances-new r path (misses reaches on unknown unrun out concludes) = rw concludes (record { more = _; marks_are = refl; each = told-new r.request verdict.Invalid })

  -- so does one that ends
  pub concludes-new : (r : Requested B C I) (v : said.Verdict) → Concludes w m t r v now → KeepsBehind w NumberIsNew p m now
  concludes-new r v concludes = rw concludes (record { more = _; marks_are = refl; each = told-new r.request v })

  -- and so does one that acquires what it needs
  pub acquires-new : (stored_now : ℕ → Option (Named B)) (r : Requested B C I) → Acquires w stored_now m t r now → KeepsBehind w NumberIsNew p m now
  acquires-new stored_now r (valid needs concludes) = rw concludes (record { more = _; marks_are = refl; each = told-new r.request verdict.Valid })
  acquires-new stored_now r (invalid needs concludes) = rw concludes (record { more = _; marks_are = refl; each = told-new r.request verdict.Invalid })
  acquires-new stored_now r (asks d needs left becomes) = rw becomes (record { more = _; marks_are = refl; each = (asked-next p m.state.next_job m.state.next_fetch s.numbers, tt) })
  acquires-new stored_now r (waits needs becomes) = rw becomes (record { more = []; marks_are = refl; each = tt })
  acquires-new stored_now r (runs {path = path} needs advances) = advances-new (requested r.request) path advances

  module _ (more : List (Mark B)) (marks_are : now.marks ≡ m.marks ++ more) (are : AreServedBy t p more) (new : EachMark NumberIsNew p more) (h : GatheringsStand (setting w stored) p m.state.requests) where
    abbrev q : Past B C I
    q = after p more

    -- the other requests
    others : GatheringsStand (setting w stored) q m.state.requests
    others = λ k d l.
        let e = get_or m.state.requests k d in
        let old : IsGathered (setting w stored) p e.1 = h k d l in
        let standing : IsStanding w stored p m.state.runs e.0 e.1 = s.requests.each k d l in
        record {
          linked = λ honest answered. old.linked (honest-before (setting w stored) p more honest) (answered-before (setting w stored) p more answered);
          fetched = λ f fetching.
              let phase : IsInPhase w stored p m.state.runs e.0 e.1.request (Fetching f) = subst (λ (x : Phase B). IsInPhase w stored p m.state.runs e.0 e.1.request x) fetching standing.phase in
              let same : LeavesAsked f p q = leaves_asked p f t more are new (λ none. let no_ticket = sym phase.1 ∙ none in cc) in
              subst (λ (o : Option Digest). MatchOption (last_of (gathered e.1.request e.1.acquired)) ⊥ (λ b. o ≡ Some (parent_of (setting w stored) b))) (sym same.digest) (old.fetched f fetching);
        }

    -- what was gathered for the request that is served is linked
    module _ (r : Requested B C I) (own : IsHonest (setting w stored) p → IsAnswered p → AreLinked (setting w stored) (gathered r.request r.acquired)) where
      put_gathered : (acquired : List (Named B)) (phase : Phase B) → (IsHonest (setting w stored) q → IsAnswered q → AreLinked (setting w stored) (gathered r.request acquired))
          → ((f : ℕ) → phase ≡ Fetching f → MatchOption (last_of (gathered r.request acquired)) ⊥ (λ b. asked_digest f q ≡ Some (parent_of (setting w stored) b)))
          → GatheringsStand (setting w stored) q (put m.state.requests t (record { request = r.request; acquired = acquired; phase = phase }))
      put_gathered acquired phase linked fetched =
          All-put (λ (e : ℕ × Requested B C I). IsGathered (setting w stored) q e.1) m.state.requests t (record { request = r.request; acquired = acquired; phase = phase }) others (record { linked = linked; fetched = fetched })

      linked_on : IsHonest (setting w stored) q → IsAnswered q → AreLinked (setting w stored) (gathered r.request r.acquired)
      linked_on honest answered = own (honest-before (setting w stored) p more honest) (answered-before (setting w stored) p more answered)

      brought_on : IsHonest (setting w stored) q → IsAnswered q → AreLinked (setting w stored) (gathered r.request [])
      brought_on honest answered = AreLinked-brought (setting w stored) r.request r.acquired (linked_on honest answered)

      ended_gathered : (v : Tables B C I R U) (request : Request B C I) (x : said.Verdict) → GatheringsStand (setting w stored) q v.requests → GatheringsStand (setting w stored) q (ended v t request x).requests
      ended_gathered v (Verify u ancestry) verdict.Valid all = all
      ended_gathered v (Verify u ancestry) verdict.Invalid all = all
      ended_gathered v (Recover u context ancestry input kind) verdict.Valid all = all
      ended_gathered v (Recover u context ancestry input kind) verdict.Invalid all = all

      -- so it is behind one that ends
      pub GatheringsStand-concludes : (v : said.Verdict) → Concludes w m t r v now → GatheringsStand (setting w stored) q now.state.requests
      GatheringsStand-concludes v concludes = rw concludes (ended_gathered m.state r.request v others)

      -- behind one that is put back into its table, and doesn't fetch
      pub GatheringsStand-moved : (phase : Phase B) → ((f : ℕ) → phase ≡ Fetching f → ⊥) → now.state.requests ≡ put m.state.requests t (record r { phase = phase })
          → GatheringsStand (setting w stored) q now.state.requests
      GatheringsStand-moved phase still is = rw is (put_gathered r.acquired phase linked_on (λ f fetching. absurd (still f fetching)))

      -- behind one that goes along its path
      pub GatheringsStand-advances : (path : Path B) → Advances w m t (requested r.request) path now → GatheringsStand (setting w stored) q now.state.requests
      GatheringsStand-advances path (arrives all concludes) = rw concludes (ended_gathered m.state r.request verdict.Valid others)
      GatheringsStand-advances path (leaves reaches out concludes) = rw concludes (ended_gathered m.state r.request verdict.Invalid others)
      GatheringsStand-advances path (joins j reaches on unknown has becomes) = rw becomes (put_gathered [] (Executing j _) brought_on (λ f e. cc))
      GatheringsStand-advances path (starts reaches on unknown unrun known launches) = rw (launches.state, launches.starts.state) (put_gathered [] (Executing m.state.next_job _) brought_on (λ f e. cc))
      GatheringsStand-advances path (misses reaches on unknown unrun out concludes) = rw concludes (ended_gathered m.state r.request verdict.Invalid others)

      -- and behind one that acquires what it needs, where it asks for the parent of the last block
      pub GatheringsStand-acquires : (stored_now : ℕ → Option (Named B)) → ((d : Digest) → Needs w stored_now m r (acquired.Ask d) → MatchOption (last_of (gathered r.request r.acquired)) ⊥ (λ b. d ≡ parent_of (setting w stored) b))
          → Acquires w stored_now m t r now → GatheringsStand (setting w stored) q now.state.requests
      GatheringsStand-acquires stored_now last (valid needs concludes) = rw concludes (ended_gathered m.state r.request verdict.Valid others)
      GatheringsStand-acquires stored_now last (invalid needs concludes) = rw concludes (ended_gathered m.state r.request verdict.Invalid others)
      GatheringsStand-acquires stored_now last (asks d needs left becomes) =
          let one : Asked m.state.next_fetch (Some t) d ∷ [] ≡ more = append_cancel_left m.marks (Asked m.state.next_fetch (Some t) d ∷ []) more (sym (ap (λ (n : Moment w). n.marks) becomes) ∙ marks_are) in
          rw becomes (put_gathered r.acquired (Fetching m.state.next_fetch) linked_on (λ f fetching.
          subst (λ (ms : List (Mark B)). MatchOption (last_of (gathered r.request r.acquired)) ⊥ (λ b. asked_digest f (after p ms) ≡ Some (parent_of (setting w stored) b))) one
          (asks_for (last_of (gathered r.request r.acquired)) f d (same_fetch m.state.next_fetch f (Fetching m.state.next_fetch) refl fetching) (last d needs))))
        where
          asks_for : (o : Option (Named B)) (f : ℕ) (d : Digest) → m.state.next_fetch ≡ f → MatchOption o ⊥ (λ b. d ≡ parent_of (setting w stored) b) → MatchOption o ⊥ (λ b. asked_digest f (Made (Asked m.state.next_fetch (Some t) d) ∷ p) ≡ Some (parent_of (setting w stored) b))
          asks_for None f d same is = is
          asks_for (Some b) f d same is = subst (λ (n : ℕ). asked_digest n (Made (Asked m.state.next_fetch (Some t) d) ∷ p) ≡ Some (parent_of (setting w stored) b)) same (rw (eq-eqb m.state.next_fetch m.state.next_fetch refl, is) refl)
      GatheringsStand-acquires stored_now last (waits needs becomes) = rw becomes (put_gathered r.acquired Waiting linked_on (λ f e. cc))
      GatheringsStand-acquires stored_now last (runs {path = path} needs advances) = GatheringsStand-advances path advances

module _ {B C I P R D H G U : Type 0} (w : Workings B C I P R D H G U) (stored : ℕ → Option (Named B)) (p : Past B C I) (points : Digest → Point w) (point : Point w)
    (m now : Moment w) (s : TablesStand w stored p points point m.next m.state) (b : Named B) (how : How) (x : Released B C I) where
  -- a request that follows the end of the run that it waited for begins what it begins under a new number
  pub follows-new : Follows w b how x m now → KeepsBehind w NumberIsNew p m now
  follows-new (given_up out concludes) = concludes-new w stored p points point m now s x.ticket (requested x.request) verdict.Invalid concludes
  follows-new (at_boundary is becomes) = rw becomes (record { more = []; marks_are = refl; each = tt })
  follows-new (failed not_held out concludes) = concludes-new w stored p points point m now s x.ticket (requested x.request) verdict.Invalid concludes
  follows-new (parked pruning any becomes) = rw becomes (record { more = []; marks_are = refl; each = tt })
  follows-new (goes_on kept not_held other any advances) = advances-new w stored p points point m now s x.ticket (requested x.request) x.path advances

  -- and what was gathered is linked behind it, where what came with it is
  pub GatheringsStand-follows : (more : List (Mark B)) → now.marks ≡ m.marks ++ more → AreServedBy x.ticket p more → EachMark NumberIsNew p more
      → GatheringsStand (setting w stored) p m.state.requests → AreLinked (setting w stored) (gathered x.request [])
      → Follows w b how x m now → GatheringsStand (setting w stored) (after p more) now.state.requests
  GatheringsStand-follows more is are new h linked (given_up out concludes) =
      GatheringsStand-concludes w stored p points point m now s x.ticket more is are new h (requested x.request) (λ honest answered. linked) verdict.Invalid concludes
  GatheringsStand-follows more is are new h linked (at_boundary out becomes) =
      GatheringsStand-moved w stored p points point m now s x.ticket more is are new h (requested x.request) (λ honest answered. linked)
      (Parked x.path) (λ f e. cc) (ap (λ (n : Moment w). n.state.requests) becomes)
  GatheringsStand-follows more is are new h linked (failed not_held out concludes) =
      GatheringsStand-concludes w stored p points point m now s x.ticket more is are new h (requested x.request) (λ honest answered. linked) verdict.Invalid concludes
  GatheringsStand-follows more is are new h linked (parked pruning any becomes) =
      GatheringsStand-moved w stored p points point m now s x.ticket more is are new h (requested x.request) (λ honest answered. linked)
      (Parked x.path) (λ f e. cc) (ap (λ (n : Moment w). n.state.requests) becomes)
  GatheringsStand-follows more is are new h linked (goes_on kept not_held other any advances) =
      GatheringsStand-advances w stored p points point m now s x.ticket more is are new h (requested x.request) (λ honest answered. linked) x.path advances
