-- The ways of requests are kept after events and marks that say nothing of what is final, where execution serves no request.
use Rattle.std.proofs.Common.{◌≡◌, ◌++◌, ℕ, get_or, List, [], ◌∷◌, All, Option, None, Some, refl, sym, ap, ◌∙◌, subst}
use Rattle.std.proofs.lemmas.List.{append-nil}
use Rattle.std.proofs.lemmas.List.Elements.{All-nil, All-head, All-tail, All-weaker}
use Rattle.stateful_base.specs.Names.{Header, Named}
use Rattle.stateful_base.specs.declared.anchor.Anchor.{Anchor}
use Rattle.stateful_history.specs.Anchors.{anchor_of, tip_of}
use Rattle.stateful_history.specs.Canonical.{canonical, canonical_by, pruned_below}
use Rattle.stateful_history.specs.Past.{Past, Came, Made, after}
use Rattle.stateful_history.specs.Setting.{Setting}
use Rattle.stateful_history.specs.Stops.{IsRestart}
use Rattle.stateful_history.specs.Honest.{StoresFinalized}
use Rattle.stateful_history.specs.declared.event.Event.{Event}
use Rattle.stateful_history.specs.declared.event.Event.TheVariants.{Restart}
use Rattle.stateful_history.specs.declared.mark.Mark.{Mark}
use Rattle.stateful_exec_cache.specs.declared.cache.Cached.{Cached}
use Rattle.stateful_exec_walk.specs.Path.{Path}
use Rattle.stateful_exec_model.specs.Workings.{Workings}
use Rattle.stateful_exec_pause.specs.declared.pause.Pause.{Pause}
use Rattle.stateful_exec_walk.specs.declared.request.Request.{Request}
use Rattle.stateful_exec_tables.specs.declared.state.Tables.{Tables}
use Rattle.stateful_exec_tables.specs.declared.tables.Phase.{Phase}
use Rattle.stateful_exec_tables.specs.declared.tables.Phase.TheVariants.{Open, Fetching, Waiting, Executing, Parked}
use Rattle.stateful_exec_tables.specs.declared.tables.Requested.{Requested}
use Rattle.stateful_exec_laws.specs.Requesting.{first_of}
use Rattle.stateful_exec_laws.specs.Setting.{setting}
use Rattle.stateful_exec_laws.specs.Ways.{IsUnsettled, IsOnOpenWay, WaysStand}
use Rattle.stateful_exec_laws.proofs.earned.Carried.{IsMild, as_before}
use Rattle.stateful_loop_model.specs.Moments.{Moment}
use Rattle.stateful_loop_laws.specs.Ways.{ParksNone, WaysKept, WaysBehind}

module _ {B C I : Type 0} (header : Header B) where
  -- the anchor and the tip are the same, and nothing more was pruned
  pub record IsSameChain (p q : Past B C I) : Type 0 where
    pub anchor : anchor_of header q ≡ anchor_of header p
    pub tip : tip_of header q ≡ tip_of header p
    pub pruned : pruned_below q ≡ pruned_below p

  -- so it is after marks that neither open, finalize nor prune
  pub IsSameChain-mild : (p : Past B C I) (marks : List (Mark B)) → All (λ x. IsMild x) marks → IsSameChain p (after p marks)
  IsSameChain-mild p [] mild = record { anchor = refl; tip = refl; pruned = refl }
  IsSameChain-mild p (mark ∷ marks) mild =
      let one = as_before header p mark (All-head (λ x. IsMild x) mark marks mild) in
      let rest = IsSameChain-mild (Made mark ∷ p) marks (All-tail (λ x. IsMild x) mark marks mild) in
      record { anchor = rest.anchor ∙ one.anchor; tip = rest.tip ∙ one.tip; pruned = rest.pruned ∙ one.pruned }

  -- and after an event that is no restart
  pub IsSameChain-came : (p : Past B C I) (e : Event B C I) → (IsRestart e → ⊥) → IsSameChain p (Came e ∷ p)
  IsSameChain-came p (Restart floor keep) off = absurd (off tt)
  IsSameChain-came p e off = record { anchor = refl; tip = refl; pruned = refl }

module _ {B C I : Type 0} (header : Header B) (stored : ℕ → Option (Named B)) where
  -- what the store has of finalized blocks that came is told of no marks
  pub StoresFinalized-after : (p : Past B C I) (marks : List (Mark B)) → StoresFinalized header stored p
      → StoresFinalized header stored (after p marks)
  StoresFinalized-after p [] h = h
  StoresFinalized-after p (mark ∷ marks) h = StoresFinalized-after (Made mark ∷ p) marks h

module _ {B C I S T : Type 0} (s : Setting B S T) (p q : Past B C I) (same : IsSameChain s.header p q) where
  canonical_by-chain : (n : ℕ) (tip anchor : Option Anchor) → canonical_by s q n tip anchor ≡ canonical_by s p n tip anchor
  canonical_by-chain n None anchor = refl
  canonical_by-chain n (Some tip) None = refl
  canonical_by-chain n (Some tip) (Some anchor) = rw same.pruned refl

  -- the same block is the final one of a height
  pub canonical-chain : (n : ℕ) → canonical s q n ≡ canonical s p n
  canonical-chain n =
      canonical_by-chain n (tip_of s.header q) (anchor_of s.header q)
      ∙ ap (λ (o : Option Anchor). canonical_by s p n o (anchor_of s.header q)) same.tip
      ∙ ap (λ (o : Option Anchor). canonical_by s p n (tip_of s.header p) o) same.anchor

module _ {B C I P R D H G U : Type 0} (w : Workings B C I P R D H G U) (stored : ℕ → Option (Named B)) where
  module _ (p q : Past B C I) (same : IsSameChain w.header p q) (tip : Anchor) where
    unsettled_so : (request : Request B C I) → IsUnsettled w stored p tip request → IsUnsettled w stored q tip request
    unsettled_so request loose final = loose (sym (canonical-chain (setting w stored) p q same (w.header.height (first_of request).block)) ∙ final)

    open_so : (pause : Pause) (anchor : Anchor) (cache : List (Cached U)) (request : Request B C I) (phase : Phase B)
        → IsOnOpenWay w stored p tip pause anchor cache request phase → IsOnOpenWay w stored q tip pause anchor cache request phase
    open_so pause anchor cache request (Executing j path) h = (h.0, unsettled_so request h.1)
    open_so pause anchor cache request (Parked path) h = (h.0, h.1, unsettled_so request h.2)
    open_so pause anchor cache request Open h = tt
    open_so pause anchor cache request (Fetching f) h = tt
    open_so pause anchor cache request Waiting h = tt

    -- the ways stay open where the same blocks are final
    pub WaysStand-chain : (v : Tables B C I R U) → WaysStand w stored p tip v → WaysStand w stored q tip v
    WaysStand-chain v h = All-weaker (λ (e : ℕ × Requested B C I). IsOnOpenWay w stored p tip v.pause v.anchor v.cache e.1.request e.1.phase)
        (λ e. IsOnOpenWay w stored q tip v.pause v.anchor v.cache e.1.request e.1.phase)
        (λ e k. open_so v.pause v.anchor v.cache e.1.request e.1.phase k) v.requests h

  module _ (p : Past B C I) (tip : Anchor) where
    open_unparked : (pause last : Pause) (anchor : Anchor) (old new : List (Cached U)) (request : Request B C I) (phase : Phase B)
        → ((path : Path B) → phase ≡ Parked path → ⊥) → IsOnOpenWay w stored p tip pause anchor old request phase
        → IsOnOpenWay w stored p tip last anchor new request phase
    open_unparked pause last anchor old new request (Executing j path) none h = h
    open_unparked pause last anchor old new request (Parked path) none h = absurd (none path refl)
    open_unparked pause last anchor old new request Open none h = tt
    open_unparked pause last anchor old new request (Fetching f) none h = tt
    open_unparked pause last anchor old new request Waiting none h = tt

    -- where no request is parked, they are open with any cache
    pub WaysStand-cached : (v : Tables B C I R U) (cache : List (Cached U)) → ParksNone v.requests → WaysStand w stored p tip v
        → WaysStand w stored p tip (record v { cache = cache })
    WaysStand-cached v cache none h = λ k d l.
        let e = get_or v.requests k d in
        open_unparked v.pause v.pause v.anchor v.cache cache e.1.request e.1.phase (none k d l) (h k d l)

  -- where the ways are kept they are open up to the tip
  pub WaysStand-tip : (p : Past B C I) (v : Tables B C I R U) (tip : Anchor) → tip_of w.header p ≡ Some tip → WaysKept w stored p v
      → WaysStand w stored p tip v
  WaysStand-tip p v tip is kept =
      let both : Some kept.tip ≡ Some tip = sym kept.tip_is ∙ is in
      let same : kept.tip ≡ tip = cc in
      subst (λ (a : Anchor). WaysStand w stored p a v) same kept.ways

  -- the ways are kept where the same blocks are final
  pub WaysKept-chain : (p q : Past B C I) → IsSameChain w.header p q → (v : Tables B C I R U) → WaysKept w stored p v → WaysKept w stored q v
  WaysKept-chain p q same v h = record {
    tip = h.tip;
    tip_is = same.tip ∙ h.tip_is;
    ways = WaysStand-chain p q same h.tip v h.ways;
    unparked = h.unparked;
    stores = λ anchor b is. h.stores anchor b (sym same.anchor ∙ is);
  }

  -- they are kept after an event that is no restart
  pub WaysKept-came : (p : Past B C I) (e : Event B C I) → (IsRestart e → ⊥) → (v : Tables B C I R U) → WaysKept w stored p v
      → WaysKept w stored (Came e ∷ p) v
  WaysKept-came p e off v h = WaysKept-chain p (Came e ∷ p) (IsSameChain-came w.header p e off) v h

  -- and with other numbers, runs and queues
  pub WaysKept-as : (p : Past B C I) (old new : Tables B C I R U) → new.anchor ≡ old.anchor → new.cache ≡ old.cache → new.pause ≡ old.pause
      → new.requests ≡ old.requests → WaysKept w stored p old → WaysKept w stored p new
  WaysKept-as p old new anchor cache pause requests h = record {
    tip = h.tip;
    tip_is = h.tip_is;
    ways = rw (anchor, cache, pause, requests) h.ways;
    unparked = rw (pause, requests) h.unparked;
    stores = h.stores;
  }

  -- Where marks are made that neither open, finalize nor prune, the ways are kept behind them that were kept without them.
  pub WaysBehind-mild : (p : Past B C I) (m now : Moment w) (marks : List (Mark B)) → All (λ x. IsMild x) marks → now.marks ≡ m.marks ++ marks
      → WaysKept w stored p now.execution.state → WaysBehind w stored p m now
  WaysBehind-mild p m now marks mild marks_are h = record {
    more = marks;
    marks_are = marks_are;
    kept = WaysKept-chain p (after p marks) (IsSameChain-mild w.header p marks mild) now.execution.state h;
  }

  -- they are kept where no mark is made and the tables are the same
  pub WaysBehind-still : (p : Past B C I) (m now : Moment w) → now.marks ≡ m.marks → now.execution.state ≡ m.execution.state
      → WaysKept w stored p m.execution.state → WaysBehind w stored p m now
  WaysBehind-still p m now marks same h =
      WaysBehind-mild p m now [] (All-nil (λ x. IsMild x)) (marks ∙ sym (append-nil m.marks)) (rw same h)
