-- True verdicts are earned where the way of a request keeps off the anchor: those of the requests that follow the end of a run,
-- whatever the round of the finalized block is.
use Rattle.std.proofs.Common.{◌≡◌, ◌≢◌, ◌++◌, inl, inr, ℕ, Bool, true, false, List, [], ◌∷◌, All, Contains, Option, refl, sym, ap, ◌∙◌, subst}
use Rattle.std.proofs.lemmas.List.Elements.{All-head, All-contains}
use Rattle.std.specs.List.{list_any}
use Rattle.stateful_base.specs.Names.{Named}
use Rattle.stateful_base.specs.Round.{IsLater}
use Rattle.stateful_base.specs.declared.anchor.Anchor.{Anchor}
use Rattle.stateful_base.specs.declared.digest.Digest.{Digest}
use Rattle.stateful_base.specs.declared.round.Round.{Round}
use Rattle.stateful_history.specs.Joined.{Joined}
use Rattle.stateful_history.specs.Known.{Known}
use Rattle.stateful_history.specs.Met.{Met, TrueNames}
use Rattle.stateful_history.specs.Past.{Past}
use Rattle.stateful_history.specs.declared.mark.How.{How}
use Rattle.stateful_exec_cache.specs.Cache.{IsIn, IsAtHand}
use Rattle.stateful_exec_cache.specs.declared.cache.Cached.{Cached}
use Rattle.stateful_exec_cache.proofs.Digests.{same, same_digest, same_itself, finds}
use Rattle.stateful_exec_pause.specs.Boundary.{Boundary, step_by, IsRetained}
use Rattle.stateful_exec_tables.specs.Keeping.{step_in}
use Rattle.stateful_exec_pause.specs.Fates.{IsGivenUp}
use Rattle.stateful_exec_model.specs.Ending.{Follows, given_up, at_boundary, failed, parked, goes_on}
use Rattle.stateful_exec_model.specs.Moments.{Moment}
use Rattle.stateful_exec_walk.specs.Path.{Path}
use Rattle.stateful_exec_tables.specs.Meeting.{GoesOn, IsPassed, first_or}
use Rattle.stateful_exec_tables.specs.Tables.{requested}
use Rattle.stateful_exec_model.specs.Rules.{Advances, arrives, leaves, joins, starts, misses}
use Rattle.stateful_exec_model.specs.Workings.{Workings, Point}
use Rattle.stateful_exec_pause.specs.declared.pause.Pause.{Pause}
use Rattle.stateful_exec_pause.specs.declared.pause.Pause.TheVariants.{Free, Finalizing, Pruning}
use Rattle.stateful_exec_walk.specs.declared.request.Request.{Request}
use Rattle.stateful_exec_tables.specs.declared.tables.Released.{Released}
use Rattle.stateful_exec_tables.specs.declared.tables.Requested.{Requested}
use Rattle.stateful_exec_laws.specs.Caching.{IsCached, CacheStands}
use Rattle.stateful_exec_laws.specs.Ground.{IsClosed}
use Rattle.stateful_exec_laws.specs.Requesting.{first_of, steps, IsRequestOf, IsWayOf}
use Rattle.stateful_exec_laws.specs.Setting.{setting}
use Rattle.stateful_exec_laws.specs.Standing.{TablesStand}
use Rattle.stateful_exec_laws.specs.Ways.{KeepOff}
use Rattle.stateful_exec_laws.proofs.requests.AdvanceStands.{All-front}
use Rattle.stateful_exec_laws.proofs.earned.Marks.{EarnsBehind, IsHere, concludes-Earned, concludes-invalid}
use Rattle.stateful_exec_laws.proofs.earned.Path.{IsFolded, Joined-at_hand}

-- where a finalization goes on, what is cached and goes on over it is compatible with it
abbrev pub IsClosedIn : {U : Type 0} → Pause → List (Cached U) → Type 0
IsClosedIn (Finalizing boundary) cache = IsClosed boundary cache
IsClosedIn Free cache = Unit {0}
IsClosedIn Pruning cache = Unit {0}

module _ {B C I P R D H G U : Type 0} (w : Workings B C I P R D H G U) (stored : ℕ → Option (Named B)) (p : Past B C I)
    (names : TrueNames (setting w stored) p) (points : Digest → Point w) (next : w.Ids) (anchor : Anchor) (cache : List (Cached U))
    (b : Named B) (met : Met (setting w stored) p b) where
  retained_compatible : (boundary : Boundary) → CacheStands w stored p points next anchor (Finalizing boundary) cache → IsClosed boundary cache
      → IsRetained boundary (step_by w.header b) → IsIn cache b.digest → Contains boundary.compatible b.digest
  retained_compatible boundary s closed on any =
      let among : Contains cache any.1 = (any.0, any.2, any.3) in
      let h : IsCached w stored p points next anchor any.1 = All-contains (IsCached w stored p points next anchor) cache any.1 s.each among in
      let one : h.block ≡ b = names h.block b h.met met (h.digest_is ∙ any.4) in
      let each : IsRetained boundary (step_in any.1) → Contains boundary.compatible any.1.digest =
      All-contains (λ k. IsRetained boundary (step_in k) → Contains boundary.compatible k.digest) cache any.1 closed among in
      subst (λ (d : Digest). Contains boundary.compatible d) any.4 (each (record {
        other = λ e. on.other (sym any.4 ∙ e);
        later = subst (λ (r : Round). IsLater boundary.round r) (ap (λ (y : Named B). w.header.round y.block) (sym one) ∙ h.round_is) on.later;
        parent =
            subst (λ (d : Digest). Contains boundary.compatible d) (ap (λ (y : Named B). w.header.parent y.block) (sym one) ∙ h.parent_is) on.parent;
      }))

  -- what is passed is known, where it isn't the anchor
  pub passed-off : (pause : Pause) → CacheStands w stored p points next anchor pause cache → IsClosedIn pause cache → b.digest ≢ anchor.digest
      → GoesOn w.header pause b → IsAtHand anchor cache b.digest → Known (setting w stored) p b.digest
  passed-off Free s closed other on here = (s.knows b.digest).1 here
  passed-off Pruning s closed other on here = (s.knows b.digest).1 here
  passed-off (Finalizing boundary) s closed other on (inl own) = absurd (other own)
  passed-off (Finalizing boundary) s closed other on (inr any) = (s.knows b.digest).1 (inr (any, retained_compatible boundary s closed on any))

  module _ (any : IsIn cache b.digest) where
    known_over : (boundary : Boundary) → CacheStands w stored p points next anchor (Finalizing boundary) cache → IsClosed boundary cache
        → (IsGivenUp w.header (Finalizing boundary) b → ⊥) → Known (setting w stored) p b.digest
    known_over boundary s closed kept = go (list_any (same b.digest) boundary.compatible) refl (same b.digest boundary.digest) refl
      where
        go : (x : Bool) → list_any (same b.digest) boundary.compatible ≡ x → (y : Bool) → same b.digest boundary.digest ≡ y
            → Known (setting w stored) p b.digest
        go true is y same_is = (s.knows b.digest).1 (inr (any, (finds b.digest boundary.compatible).0 is))
        go false is true same_is = (s.knows b.digest).1 (inl (same_digest b.digest boundary.digest same_is))
        go false is false same_is = absurd (kept (
          λ e. let yes : same b.digest boundary.digest ≡ true = same_itself b.digest boundary.digest e in cc,
          λ on. let found = (finds b.digest boundary.compatible).1 (retained_compatible boundary s closed on any) in cc,
        ))

    -- a cached block that isn't given up is known
    pub kept-known : (pause : Pause) → CacheStands w stored p points next anchor pause cache → IsClosedIn pause cache
        → (IsGivenUp w.header pause b → ⊥) → Known (setting w stored) p b.digest
    kept-known Free s closed kept = (s.knows b.digest).1 (inr any)
    kept-known Pruning s closed kept = (s.knows b.digest).1 (inr any)
    kept-known (Finalizing boundary) s closed kept = known_over boundary s closed kept

module _ {B C I P R D H G U : Type 0} (w : Workings B C I P R D H G U) (stored : ℕ → Option (Named B)) (base : w.States) (p : Past B C I)
    (names : TrueNames (setting w stored) p) (points : Digest → Point w) (point : Point w) (m : Moment w)
    (s : TablesStand w stored p points point m.next m.state) (closed : IsClosedIn m.state.pause m.state.cache) (tip : Anchor)
    (folded : IsFolded w stored base p m.state.anchor tip point) where
  -- where each block of a way off the anchor is passed, the first block of its request is joined
  arrived : (request : Request B C I) (path : Path B) → KeepOff m.state.anchor path.blocks → (path.blocks ≡ []
      → IsHere w stored base p m.state path.parent.digest)
      → IsWayOf w stored p request path → All (IsPassed w.header m.state) path.blocks → Joined (setting w stored) base p (first_of request).digest
  arrived request path off parent way all = go path.blocks refl
    where
      joined : (b : Named B) → first_or path.parent path.blocks ≡ b → IsHere w stored base p m.state b.digest
          → Joined (setting w stored) base p (first_of request).digest
      joined b is here = subst (λ (x : Named B). Joined (setting w stored) base p x.digest) (sym is ∙ way.begins)
          (Joined-at_hand w stored base p points point m.next m.state s tip folded b.digest here.0 here.1)

      go : (bs : List (Named B)) → path.blocks ≡ bs → Joined (setting w stored) base p (first_of request).digest
      go [] is = joined path.parent (ap (λ (l : List (Named B)). first_or path.parent l) is) (parent is)
      go (b ∷ bs) is =
          let passed : IsPassed w.header m.state b =
          All-head (IsPassed w.header m.state) b bs (subst (λ (l : List (Named B)). All (IsPassed w.header m.state) l) is all) in
          let other : b.digest ≢ m.state.anchor.digest =
          All-head (λ x. x.digest ≢ m.state.anchor.digest) b bs (subst (λ (l : List (Named B)). KeepOff m.state.anchor l) is off) in
          let met : Met (setting w stored) p b =
          All-head (Met (setting w stored) p) b (bs ++ path.parent ∷ [])
          (subst (λ (l : List (Named B)). All (Met (setting w stored) p) (l ++ path.parent ∷ [])) is way.met) in
          joined b (ap (λ (l : List (Named B)). first_or path.parent l) is)
          (passed-off w stored p names points m.next m.state.anchor m.state.cache b met m.state.pause s.cache closed other passed.0 passed.1, passed.1)

  -- each mark of a request that goes along a path off the anchor keeps the rule
  pub advances-off : (t : ℕ) (r : Requested B C I) (path : Path B) (now : Moment w) → IsRequestOf w stored p t r.request
      → IsWayOf w stored p r.request path
      → KeepOff m.state.anchor path.blocks → (path.blocks ≡ [] → IsHere w stored base p m.state path.parent.digest) → Advances w m t r path now
      → EarnsBehind w stored base p m now
  advances-off t r path now asked way off parent (arrives all concludes) =
      concludes-Earned w stored base p points point m s t r asked now (inl (arrived r.request path off parent way all)) concludes
  advances-off t r path now asked way off parent (leaves reaches out concludes) =
      concludes-invalid w stored base p points point m s t r asked now concludes
  advances-off t r path now asked way off parent (joins j reaches on unknown has becomes) =
      rw becomes (record { more = []; marks_are = refl; each = tt })
  advances-off t r path now asked way off parent (starts reaches on unknown unrun known launches) =
      record { more = _; marks_are = launches.marks; each = (tt, tt) }
  advances-off t r path now asked way off parent (misses reaches on unknown unrun known concludes) =
      concludes-invalid w stored base p points point m s t r asked now concludes

  -- Each mark of a request that follows the end of the run that it waited for keeps the rule, where its way is off the anchor.
  pub follows-off : (b : Named B) (how : How) (r : Released B C I) (now : Moment w) → Met (setting w stored) p b → r.path.parent ≡ b
      → IsRequestOf w stored p r.ticket r.request → IsWayOf w stored p r.request r.path → KeepOff m.state.anchor (steps r.path)
      → Follows w b how r m now
      → EarnsBehind w stored base p m now
  follows-off b how r now met is asked way off (given_up out concludes) =
      concludes-invalid w stored base p points point m s r.ticket (requested r.request) asked now concludes
  follows-off b how r now met is asked way off (at_boundary out becomes) = rw becomes (record { more = []; marks_are = refl; each = tt })
  follows-off b how r now met is asked way off (failed not_held out concludes) =
      concludes-invalid w stored base p points point m s r.ticket (requested r.request) asked now concludes
  follows-off b how r now met is asked way off (parked pruning any becomes) = rw becomes (record { more = []; marks_are = refl; each = tt })
  follows-off b how r now met is asked way off (goes_on kept not_held other any advances) =
      let known : Known (setting w stored) p b.digest =
      kept-known w stored p names points m.next m.state.anchor m.state.cache b met any m.state.pause s.cache closed kept in
      advances-off r.ticket (requested r.request) r.path now asked way
      (All-front (λ x. x.digest ≢ m.state.anchor.digest) r.path.blocks (r.path.parent ∷ []) off)
      (λ none. subst (λ (x : Named B). IsHere w stored base p m.state x.digest) (sym is) (known, inr any)) advances
