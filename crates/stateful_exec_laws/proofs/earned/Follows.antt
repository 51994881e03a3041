-- True verdicts are earned: those of the requests that waited for a run that has ended.
use Rattle.std.proofs.Common.{◌≡◌, ◌≢◌, inl, inr, ℕ, Bool, true, false, List, [], Option, refl, sym, subst}
use Rattle.std.specs.List.{list_any}
use Rattle.stateful_base.specs.Names.{Named}
use Rattle.stateful_base.specs.declared.anchor.Anchor.{Anchor}
use Rattle.stateful_base.specs.declared.digest.Digest.{Digest}
use Rattle.stateful_history.specs.Known.{Known}
use Rattle.stateful_history.specs.Met.{Met, TrueNames}
use Rattle.stateful_history.specs.Past.{Past}
use Rattle.stateful_history.specs.declared.mark.How.{How}
use Rattle.stateful_exec_cache.specs.Cache.{IsIn}
use Rattle.stateful_exec_cache.specs.declared.cache.Cached.{Cached}
use Rattle.stateful_exec_cache.proofs.Digests.{same, same_digest, same_itself, finds}
use Rattle.stateful_exec_pause.specs.Boundary.{Boundary}
use Rattle.stateful_exec_pause.specs.Fates.{IsGivenUp}
use Rattle.stateful_exec_model.specs.Ending.{Follows, given_up, at_boundary, failed, parked, goes_on}
use Rattle.stateful_exec_model.specs.Moments.{Moment}
use Rattle.stateful_exec_walk.specs.Path.{Path}
use Rattle.stateful_exec_tables.specs.Tables.{requested}
use Rattle.stateful_exec_model.specs.Rules.{Advances}
use Rattle.stateful_exec_model.specs.Workings.{Workings, Point}
use Rattle.stateful_exec_pause.specs.declared.pause.Pause.{Pause}
use Rattle.stateful_exec_pause.specs.declared.pause.Pause.TheVariants.{Free, Finalizing, Pruning}
use Rattle.stateful_exec_tables.specs.declared.tables.Released.{Released}
use Rattle.stateful_exec_tables.specs.declared.tables.Requested.{Requested}
use Rattle.stateful_exec_laws.specs.Setting.{setting}
use Rattle.stateful_exec_laws.specs.Caching.{CacheStands}
use Rattle.stateful_exec_laws.specs.Requesting.{IsRequestOf, IsWayOf}
use Rattle.stateful_exec_laws.specs.Standing.{TablesStand}
use Rattle.stateful_exec_laws.proofs.earned.Path.{IsFolded}
use Rattle.stateful_exec_laws.proofs.earned.Marks.{EarnsBehind, IsHere, concludes-invalid, advances-Earned}
use Rattle.stateful_exec_laws.proofs.ended.Kept.{IsRoundOf}
use Rattle.stateful_exec_laws.proofs.earned.Paused.{IsClosedBy, passed-Known}
use Rattle.stateful_exec_laws.proofs.earned.Closed.{cached-compatible}

module _ {B C I P R D H G U : Type 0} (w : Workings B C I P R D H G U) (stored : ℕ → Option (Named B)) (p : Past B C I) (names : TrueNames (setting w stored) p) where
  module _ (points : Digest → Point w) (next : w.Ids) (anchor : Anchor) (cache : List (Cached U)) (round : IsRoundOf w stored p anchor) (b : Named B) (met : Met (setting w stored) p b) (any : IsIn cache b.digest) where
    -- where it isn't compatible, it is the finalized block, since it would be given up else
    known_over : (boundary : Boundary) → CacheStands w stored p points next anchor (Finalizing boundary) cache → IsClosedBy (Finalizing boundary) anchor cache → (IsGivenUp w.header (Finalizing boundary) b → ⊥) → Known (setting w stored) p b.digest
    known_over boundary s closed kept = go (list_any (same b.digest) boundary.compatible) refl (same b.digest boundary.digest) refl
      where
        go : (x : Bool) → list_any (same b.digest) boundary.compatible ≡ x → (y : Bool) → same b.digest boundary.digest ≡ y → Known (setting w stored) p b.digest
        go true is y same_is = (s.knows b.digest).1 (inr (any, (finds b.digest boundary.compatible).0 is))
        go false is true same_is = (s.knows b.digest).1 (inl (same_digest b.digest boundary.digest same_is))
        go false is false same_is = absurd (kept (
          other,
          λ on.
              let found = (finds b.digest boundary.compatible).1 (cached-compatible w stored p points next anchor cache names round b met boundary s closed.0 closed.1 on any) in cc,
        ))
          where
            other : b.digest ≢ boundary.digest
            other e = let true_is : same b.digest boundary.digest ≡ true = same_itself b.digest boundary.digest e in cc

    -- a cached block that isn't given up over a finalization is known
    pub kept-Known : (pause : Pause) → CacheStands w stored p points next anchor pause cache → IsClosedBy pause anchor cache → (IsGivenUp w.header pause b → ⊥) → Known (setting w stored) p b.digest
    kept-Known Free s closed kept = (s.knows b.digest).1 (inr any)
    kept-Known Pruning s closed kept = (s.knows b.digest).1 (inr any)
    kept-Known (Finalizing boundary) s closed kept = known_over boundary s closed kept

  module _ (base : w.States) (points : Digest → Point w) (point : Point w) (m : Moment w) (s : TablesStand w stored p points point m.next m.state) (closed : IsClosedBy m.state.pause m.state.anchor m.state.cache)
      (tip : Anchor) (folded : IsFolded w stored base p m.state.anchor tip point) (round : IsRoundOf w stored p m.state.anchor) where
    -- each mark of a request that goes along its path keeps the rule, whatever execution is paused for
    pub advances-paused : (t : ℕ) (r : Requested B C I) (path : Path B) (now : Moment w) → IsRequestOf w stored p t r.request → IsWayOf w stored p r.request path → (path.blocks ≡ [] → IsHere w stored base p m.state path.parent.digest) → Advances w m t r path now → EarnsBehind w stored base p m now
    advances-paused t r path now asked way parent advances =
        advances-Earned w stored base p points point m s t r asked tip folded path now
        (λ c met passed. passed-Known w stored p points m.next m.state.anchor m.state.cache names round m.state.pause s.cache closed c met passed.0 passed.1) parent way advances

    -- each mark of a request that follows the end of the run that it waited for keeps the rule
    pub follows-Earned : (b : Named B) (how : How) (r : Released B C I) (now : Moment w) → Met (setting w stored) p b → r.path.parent ≡ b → IsRequestOf w stored p r.ticket r.request → IsWayOf w stored p r.request r.path → Follows w b how r m now → EarnsBehind w stored base p m now
    follows-Earned b how r now met is asked way (given_up off concludes) = concludes-invalid w stored base p points point m s r.ticket (requested r.request) asked now concludes
    follows-Earned b how r now met is asked way (at_boundary off becomes) = rw becomes (record { more = []; marks_are = refl; each = tt })
    follows-Earned b how r now met is asked way (failed off out concludes) = concludes-invalid w stored base p points point m s r.ticket (requested r.request) asked now concludes
    follows-Earned b how r now met is asked way (parked pruning any becomes) = rw becomes (record { more = []; marks_are = refl; each = tt })
    follows-Earned b how r now met is asked way (goes_on kept not_held other any advances) =
        let known : Known (setting w stored) p b.digest = kept-Known points m.next m.state.anchor m.state.cache round b met any m.state.pause s.cache closed kept in
        advances-paused r.ticket (requested r.request) r.path now asked way (λ none. subst (λ (x : Named B). IsHere w stored base p m.state x.digest) (sym is) (known, inr any)) advances
