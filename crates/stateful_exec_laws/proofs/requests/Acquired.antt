-- The tables stand behind a request in hand that acquires what it needs from what the store holds then.
use Rattle.std.proofs.Common.{◌≡◌, ◌++◌, ◌+◌, inr, ℕ, List, [], ◌∷◌, All, Option, Some, take, refl, sym, ap, ◌∙◌, subst}
use Rattle.std.proofs.lemmas.List.{append_assoc}
use Rattle.std.proofs.lemmas.List.Elements.{All-nil, All-cons, All-head, All-tail, All-append, All-take, All-weaker}
use Rattle.stateful_base.specs.Names.{Header, Named}
use Rattle.stateful_base.specs.declared.anchor.Anchor.{Anchor}
use Rattle.stateful_base.specs.declared.digest.Digest.{Digest}
use Rattle.stateful_exec_cache.specs.declared.cache.Cached.{Cached}
use Rattle.stateful_history.specs.Past.{Past, Made}
use Rattle.stateful_history.specs.Met.{Met, TrueNames}
use Rattle.stateful_history.specs.Fetches.{Abstains}
use Rattle.stateful_history.specs.declared.mark.Mark.TheVariants.{Asked}
use Rattle.stateful_exec_tables.specs.Fetching.{IsVerification}
use Rattle.stateful_exec_model.specs.Moments.{Moment, Becomes}
use Rattle.stateful_exec_walk.specs.Path.{Path, Descends}
use Rattle.stateful_exec_tables.specs.Tables.{moved, requested}
use Rattle.stateful_exec_tables.specs.Meeting.{first_or}
use Rattle.stateful_exec_model.specs.Rules.{Needs, Acquires, valid, invalid, asks, waits, runs}
use Rattle.stateful_exec_walk.specs.Walk.{Walks, IsPrepared}
use Rattle.stateful_exec_walk.specs.Walk as walk
use Rattle.stateful_exec_model.specs.Workings.{Workings, Point}
use Rattle.stateful_exec_walk.specs.declared.request.Request.{Request}
use Rattle.stateful_exec_walk.specs.declared.request.Request.TheVariants.{Verify, Recover}
use Rattle.stateful_exec_walk.specs.declared.request.Verdict.TheVariants as verdict
use Rattle.stateful_exec_tables.specs.declared.tables.Phase.TheVariants.{Fetching, Waiting}
use Rattle.stateful_exec_tables.specs.declared.tables.Requested.{Requested}
use Rattle.stateful_exec_walk.specs.declared.walk.Acquired.TheVariants as acquired
use Rattle.stateful_exec_laws.specs.Setting.{setting}
use Rattle.stateful_exec_laws.specs.Requesting.{first_of, brought_by, LeadsDown, IsWayOf}
use Rattle.stateful_exec_laws.specs.Standing.{TablesStand, IsInHand, StandsBehind}
use Rattle.stateful_exec_laws.proofs.requests.AdvanceStands.{All-front}
use Rattle.stateful_exec_laws.proofs.requests.Advanced.{Serves-advances}
use Rattle.stateful_exec_laws.proofs.requests.AskStands.{TablesStand-asks}
use Rattle.stateful_exec_laws.proofs.requests.Asking.{IsRequestOf-calm}
use Rattle.stateful_exec_laws.proofs.requests.Putting.{All-put, put_other}
use Rattle.stateful_exec_laws.proofs.requests.Served.{unbrought, Serves, Serves-concludes, Serves-put}

-- the missing blocks and the end of a walk begin with the first block that was walked from
pub first_walked : {B : Type 0} (missing : List (Named B)) (last : Named B) (rest : List (Named B)) (first : Named B) (more : List (Named B)) → first ∷ more ≡ missing ++ last ∷ rest → first_or last missing ≡ first
first_walked [] last rest first more is = search
first_walked (x ∷ missing) last rest first more is = search

module _ {B : Type 0} (header : Header B) where
  pub leads_down : (bs : List (Named B)) → Descends header bs → LeadsDown header bs
  leads_down [] d = tt
  leads_down (b ∷ []) d = tt
  leads_down (b ∷ c ∷ bs) d = (d.0.0, d.1)

  pub leads_from : (b : Named B) (missing : List (Named B)) (last : Named B) → (first_or last missing).digest ≡ header.parent b.block → Descends header (missing ++ last ∷ []) → LeadsDown header (b ∷ (missing ++ last ∷ []))
  leads_from b [] last child d = (child, d)
  leads_from b (x ∷ missing) last child d = (child, d)

module _ {B C I P R D H G U : Type 0} (w : Workings B C I P R D H G U) (stored : ℕ → Option (Named B)) (p : Past B C I) (anchor : Anchor) (cache : List (Cached U)) where
  module _ (path : Path B) (missing rest : List (Named B)) where
    -- the end of a walk and the blocks above it are met
    walked_met : (blocks : List (Named B)) → blocks ≡ missing ++ path.parent ∷ rest → All (Met (setting w stored) p) blocks → All (Met (setting w stored) p) (missing ++ path.parent ∷ [])
    walked_met blocks is met = All-front (Met (setting w stored) p) (missing ++ path.parent ∷ []) rest (subst (λ l. All (Met (setting w stored) p) l) (is ∙ sym (append_assoc missing (path.parent ∷ []) rest)) met)

  -- the way from the parent of a proposal
  way_of_proposal : (request : Request B C I) (more : List (Named B)) (path : Path B) → All (Met (setting w stored) p) (first_of request ∷ more)
      → Walks w.header anchor cache [] (first_of request ∷ more) (acquired.Ready path) → IsWayOf w stored p request path
  way_of_proposal request more path met (missing, rest, joined, leads, known) = record {
    met = rw joined (walked_met path missing rest (first_of request ∷ more) leads.parts met);
    leads = rw joined (leads_down w.header (missing ++ path.parent ∷ []) leads.descends);
    begins = rw joined (first_walked missing path.parent rest (first_of request) more leads.parts);
  }

  -- the way from a block to judge, behind its parent
  way_of_verification : (request : Request B C I) (parent : Named B) (more : List (Named B)) (path : Path B) → Met (setting w stored) p (first_of request) → All (Met (setting w stored) p) (parent ∷ more)
      → parent.digest ≡ w.header.parent (first_of request).block → Walks w.header anchor cache (first_of request ∷ []) (parent ∷ more) (acquired.Ready path) → IsWayOf w stored p request path
  way_of_verification request parent more path first met child (missing, rest, joined, leads, known) = record {
    met = rw joined (All-cons (Met (setting w stored) p) (first_of request) (missing ++ path.parent ∷ []) first (walked_met path missing rest (parent ∷ more) leads.parts met));
    leads = rw joined (leads_from w.header (first_of request) missing path.parent (ap (λ (b : Named B). b.digest) (first_walked missing path.parent rest parent more leads.parts) ∙ child) leads.descends);
    begins = rw joined refl;
  }

  -- the blocks that a request is ready to run are a way of it
  pub IsWayOf-ready : (held : ℕ → Option (Named B)) (request : Request B C I) (more : List (Named B)) (path : Path B) → All (Met (setting w stored) p) (brought_by request) → All (Met (setting w stored) p) more
      → IsPrepared w.header anchor cache held request more (acquired.Ready path) → IsWayOf w stored p request path
  IsWayOf-ready held (Verify t ancestry) more path brought met (walk.runs unjudged (walk.child {more = behind} {parent = parent} chain_is child walks)) =
      way_of_verification (Verify t ancestry) parent behind path (All-head (Met (setting w stored) p) ancestry.first ancestry.rest brought)
      (subst (λ l. All (Met (setting w stored) p) l) chain_is
      (All-append (Met (setting w stored) p) (take 1 ancestry.rest) more (All-take (Met (setting w stored) p) 1 ancestry.rest (All-tail (Met (setting w stored) p) ancestry.first ancestry.rest brought)) met))
      child (subst (λ l. Walks w.header anchor cache (ancestry.first ∷ []) l (acquired.Ready path)) chain_is walks)
  IsWayOf-ready held (Recover t context ancestry input kind) more path brought met walks =
      way_of_proposal (Recover t context ancestry input kind) more path (All-cons (Met (setting w stored) p) ancestry.first more (All-head (Met (setting w stored) p) ancestry.first ancestry.rest brought) met) walks

  -- a request that waits is a verification
  pub waits-IsVerification : (held : ℕ → Option (Named B)) (request : Request B C I) (more : List (Named B)) → IsPrepared w.header anchor cache held request more acquired.Waits → IsVerification request
  waits-IsVerification held (Verify t ancestry) more prepared = tt
  waits-IsVerification held (Recover t context ancestry input kind) more prepared = prepared

module _ {B C I P R D H G U : Type 0} (w : Workings B C I P R D H G U) (stored : ℕ → Option (Named B)) (p : Past B C I) (points : Digest → Point w) (point : Point w) (m : Moment w) (s : TablesStand w stored p points point m.next m.state)
    (t : ℕ) (r : Requested B C I) (hand : IsInHand w stored p t r.request m.state)
    (names : TrueNames (setting w stored) p) (other_states : (n i : w.Ids) (x y : w.States) (c : List (Point w)) → w.kind.issued n ((i, x) ∷ c) → w.kind.issued n ((i, y) ∷ c))
    (located : w.kind.point m.members ≡ Some point) (drawn : w.kind.issued m.next (point ∷ [])) (met : All (Met (setting w stored) p) r.acquired)
    (held : ℕ → Option (Named B)) (abstains : Needs w held m r acquired.Waits → Abstains (setting w stored) t p (first_of r.request)) where
  -- a block is asked for, for it
  Serves-asks : (digest : Digest) (now : Moment w) → Becomes w m (record (moved m.state t r (Fetching m.state.next_fetch)) { next_fetch = m.state.next_fetch + 1 }) (Asked m.state.next_fetch (Some t) digest ∷ []) now → Serves w stored p points point m t now
  Serves-asks digest now is = rw is (record {
    behind = record {
      more = _;
      marks_are = refl;
      members_are = refl;
      stands = TablesStand-asks w stored p points point m.next m.state t s r hand met digest;
      waiting = λ h. All-put (λ (e : ℕ × Requested B C I). e.1.phase ≡ Waiting → Abstains (setting w stored) e.0 p (first_of e.1.request)) m.state.requests t _ h (λ is. absurd (cc));
    };
    met = λ b. unbrought (setting w stored) p (Made (Asked m.state.next_fetch (Some t) digest)) b (λ no. no);
    drawn = λ d. d;
    abstains = λ u b a. a;
    others = λ u other ne h. record {
      absent = put_other m.state.requests t u _ ne ∙ h.absent;
      not_queued = h.not_queued;
      own = h.own;
      brought = All-weaker (Met (setting w stored) p) (Met (setting w stored) (Made (Asked m.state.next_fetch (Some t) digest) ∷ p)) (λ b m. inr m) (brought_by other) h.brought;
      asked = IsRequestOf-calm w stored p (Made (Asked m.state.next_fetch (Some t) digest)) u other (record { live = refl; verified = refl; proposed = refl }) h.asked;
    };
  })

  -- a request in hand acquires what it needs
  pub Serves-acquires : (now : Moment w) → Acquires w held m t r now → Serves w stored p points point m t now
  Serves-acquires now (valid needs concludes) = Serves-concludes w stored p points point m s t r hand verdict.Valid now concludes
  Serves-acquires now (invalid needs concludes) = Serves-concludes w stored p points point m s t r hand verdict.Invalid now concludes
  Serves-acquires now (asks digest needs left becomes) = Serves-asks digest now becomes
  Serves-acquires now (waits needs becomes) =
      Serves-put w stored p points point m s t r hand Waiting now met (waits-IsVerification w stored p m.state.anchor m.state.cache held r.request r.acquired needs) (λ is. abstains needs) becomes
  Serves-acquires now (runs {path = path} needs advances) =
      Serves-advances w stored p points point m s t (requested r.request) hand names other_states located drawn (All-nil (Met (setting w stored) p)) path now
      (IsWayOf-ready w stored p m.state.anchor m.state.cache held r.request r.acquired path hand.brought met needs) advances

  -- the tables stand behind it
  pub StandsBehind-acquires : (now : Moment w) → Acquires w held m t r now → StandsBehind w stored p points point m now
  StandsBehind-acquires now acquires = (Serves-acquires now acquires).behind
