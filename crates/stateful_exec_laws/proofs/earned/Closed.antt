-- Each cached block that goes on over a finalization is compatible with it: from its beginning on, and after the end of a run.
use Rattle.std.proofs.Common.{◌≡◌, ◌≢◌, ◌⊎◌, inl, inr, ℕ, List, All, Contains, Option, refl, sym, ap, ◌∙◌, subst}
use Rattle.std.proofs.lemmas.List.Elements.{All-push, All-weaker, All-contains, All-contains_itself}
use Rattle.stateful_base.specs.Names.{Header, Named}
use Rattle.stateful_base.specs.Anchor.{anchor_by}
use Rattle.stateful_base.specs.Round.{IsLater}
use Rattle.stateful_base.specs.declared.anchor.Anchor.{Anchor}
use Rattle.stateful_base.specs.declared.digest.Digest.{Digest}
use Rattle.stateful_base.specs.declared.round.Round.{Round}
use Rattle.stateful_history.specs.Met.{Met, TrueNames}
use Rattle.stateful_history.specs.Past.{Past}
use Rattle.stateful_history.specs.declared.mark.How.{How}
use Rattle.stateful_exec_cache.specs.Cache.{IsIn}
use Rattle.stateful_exec_cache.specs.Cut.{AreNamed, GoesOn}
use Rattle.stateful_exec_cache.specs.declared.cache.Cached.{Cached}
use Rattle.stateful_exec_cache.proofs.Cutting.{Any-from}
use Rattle.stateful_exec_pause.specs.Boundary.{Boundary, step_by, IsRetained, Completes}
use Rattle.stateful_exec_tables.specs.Keeping.{step_in, there, added, missed}
use Rattle.stateful_exec_tables.specs.Keeping.{Takes}
use Rattle.stateful_exec_model.specs.Ending.{IsTold, rejected, mismatched, agreed}
use Rattle.stateful_exec_pause.specs.Fates.{Crosses}
use Rattle.stateful_exec_pause.specs.Boundary.{IsBoundaryOf}
use Rattle.stateful_exec_model.specs.Workings.{Workings, Point}
use Rattle.stateful_exec_pause.specs.declared.pause.Pause.{Pause}
use Rattle.stateful_exec_pause.specs.declared.pause.Pause.TheVariants.{Free, Finalizing, Pruning}
use Rattle.stateful_exec_laws.specs.Setting.{setting}
use Rattle.stateful_exec_laws.specs.Caching.{IsCached, CacheStands}
use Rattle.stateful_exec_laws.proofs.ended.Points.{parent_at_hand}
use Rattle.stateful_exec_laws.proofs.ended.Kept.{IsRoundOf}
use Rattle.stateful_exec_laws.proofs.ended.Finalizing.{Finalizes}
use Rattle.stateful_exec_laws.proofs.earned.Paused.{IsClosed, IsClosedBy, anchor-unretained}

-- what is true of each contained element is true of each
each_of : {X : Type 0} (P : X → Type 0) (xs : List X) → ((x : X) → Contains xs x → P x) → All P xs
each_of P xs f = All-weaker (λ x. Contains xs x) P f xs (All-contains_itself xs)

module _ {U : Type 0} where
  -- a finalization begins so
  pub IsClosed-begins : {B : Type 0} (header : Header B) (b : Named B) (anchor : Digest) (cache : List (Cached U)) (boundary : Boundary) → AreNamed anchor cache → IsBoundaryOf header b cache boundary → IsClosed boundary cache
  IsClosed-begins header b anchor cache boundary named is = each_of (λ e. IsRetained boundary (step_in e) → Contains boundary.compatible e.digest) cache each
    where
      each : (e : Cached U) → Contains cache e → IsRetained boundary (step_in e) → Contains boundary.compatible e.digest
      each e among retained =
          let whole : e.digest ≢ b.digest → IsLater (header.round b.block) e.round → GoesOn (anchor_by header b) is.kept e → Contains is.kept e =
          All-contains (λ k. k.digest ≢ b.digest → IsLater (header.round b.block) k.round → GoesOn (anchor_by header b) is.kept k → Contains is.kept k) cache e (is.cut.whole anchor named) among in
          let kept : Contains is.kept e =
          whole (λ same. retained.other (same ∙ sym is.digest_is)) (subst (λ (r : Round). IsLater r e.round) is.round_is retained.later) ((is.each e.parent).0 retained.parent) in
          (is.each e.digest).1 (inr (Any-from (λ (k : Cached U). k.digest ≡ e.digest) is.kept e kept refl))

module _ {B C I P R D H G U : Type 0} (w : Workings B C I P R D H G U) (stored : ℕ → Option (Named B)) (p : Past B C I) (points : Digest → Point w) (next : w.Ids) (anchor : Anchor) (old : List (Cached U)) (names : TrueNames (setting w stored) p)
    (round : IsRoundOf w stored p anchor) (b : Named B) (met : Met (setting w stored) p b) where
  module _ (boundary : Boundary) (s : CacheStands w stored p points next anchor (Finalizing boundary) old) (closed : IsClosed boundary old) (later : IsLater anchor.round boundary.round) where
    at : (e : Cached U) → Contains old e → IsRetained boundary (step_in e) → Contains boundary.compatible e.digest
    at e among retained = (All-contains (λ k. IsRetained boundary (step_in k) → Contains boundary.compatible k.digest) old e closed among) retained

    -- a cached block that goes on is compatible
    pub cached-compatible : IsRetained boundary (step_by w.header b) → IsIn old b.digest → Contains boundary.compatible b.digest
    cached-compatible on any =
        let among : Contains old any.1 = (any.0, any.2, any.3) in
        let h : IsCached w stored p points next anchor any.1 = All-contains (IsCached w stored p points next anchor) old any.1 s.each among in
        let same : h.block ≡ b = names h.block b h.met met (h.digest_is ∙ any.4) in
        subst (λ (d : Digest). Contains boundary.compatible d) any.4 (at any.1 among (record {
          other = λ e. on.other (sym any.4 ∙ e);
          later = subst (λ (r : Round). IsLater boundary.round r) (ap (λ (y : Named B). w.header.round y.block) (sym same) ∙ h.round_is) on.later;
          parent = subst (λ (d : Digest). Contains boundary.compatible d) (ap (λ (y : Named B). w.header.parent y.block) (sym same) ∙ h.parent_is) on.parent;
        }))

    -- where a block that goes on is compatible too, what was cached stays so
    IsClosed-completed : (more : Boundary) → IsRetained boundary (step_by w.header b) → Completes b.digest boundary more → IsClosed more old
    IsClosed-completed more on completes = each_of (λ e. IsRetained more (step_in e) → Contains more.compatible e.digest) old each
      where
        from : (e : Cached U) → Contains old e → (e.parent ≡ b.digest) ⊎ Contains boundary.compatible e.parent → Contains boundary.compatible e.parent
        from e among (inr c) = c
        from e among (inl is) = elim (parent_at_hand anchor.digest old s.in_order among.0 e among.1 among.2) [
          | inl a ↦ absurd (anchor-unretained w stored p points next anchor old names round boundary b met later on (sym is ∙ a))
          | inr any ↦ subst (λ (d : Digest). Contains boundary.compatible d) (sym is) (cached-compatible on (subst (λ (d : Digest). IsIn old d) is any))
        ]

        each : (e : Cached U) → Contains old e → IsRetained more (step_in e) → Contains more.compatible e.digest
        each e among retained = (completes.more e.digest).1 (inr (at e among (record {
          other = λ is. retained.other (is ∙ sym completes.of);
          later = subst (λ (r : Round). IsLater r e.round) completes.round retained.later;
          parent = from e among ((completes.more e.parent).0 retained.parent);
        })))

    -- the entry of a block whose run has ended is compatible, where it goes on
    abbrev Entry : U → Cached U
    Entry batch = record { digest = b.digest; parent = w.header.parent b.block; round = w.header.round b.block; batch = batch }

    IsClosed-taken : (more : Boundary) (new : List (Cached U)) (batch : U) (how : How) → IsClosed more old → (IsRetained more (step_by w.header b) → Contains more.compatible b.digest) → Takes w.header anchor b batch old new how → IsClosed more new
    IsClosed-taken more new batch how whole own (there any is) = subst (λ (l : List (Cached U)). IsClosed more l) (sym is) whole
    IsClosed-taken more new batch how whole own (missed out why is) = subst (λ (l : List (Cached U)). IsClosed more l) (sym is) whole
    IsClosed-taken more new batch how whole own (added out above here is) =
        subst (λ (l : List (Cached U)). IsClosed more l) (sym is) (All-push (λ e. IsRetained more (step_in e) → Contains more.compatible e.digest) old (Entry batch) whole own)

    IsClosed-told : (more : Boundary) (new : List (Cached U)) (ended : Option U) (how : How) → IsClosed more old → (IsRetained more (step_by w.header b) → Contains more.compatible b.digest) → IsTold w anchor b old new ended how → IsClosed more new
    IsClosed-told more new ended how whole own (rejected is) = subst (λ (l : List (Cached U)). IsClosed more l) (sym is) whole
    IsClosed-told more new ended how whole own (mismatched differs is) = subst (λ (l : List (Cached U)). IsClosed more l) (sym is) whole
    IsClosed-told more new ended how whole own (agreed {batch = batch} agrees takes) = IsClosed-taken more new batch how whole own takes

    crossed : (more : Boundary) (new : List (Cached U)) (ended : Option U) (how : How) → IsTold w anchor b old new ended how → Crosses w.header b (Finalizing boundary) (Finalizing more) → IsClosed more new × IsLater anchor.round more.round
    crossed more new ended how told (inl c) = (IsClosed-told more new ended how (IsClosed-completed more c.0 c.1) (λ on. (c.1.more b.digest).1 (inl refl)) told, subst (λ (r : Round). IsLater anchor.round r) (sym c.1.round) later)
    crossed more new ended how told (inr c) =
        subst (λ (x : Boundary). IsClosed x new × IsLater anchor.round x.round) (sym c.1)
        (IsClosed-told boundary new ended how closed (λ on. absurd (c.0 on)) told, later)

  -- a run has ended, and what is cached and goes on is compatible behind it too
  pub IsClosedBy-ended : (pause after : Pause) (new : List (Cached U)) (ended : Option U) (how : How) → CacheStands w stored p points next anchor pause old → IsClosedBy pause anchor old → IsTold w anchor b old new ended how → Crosses w.header b pause after → IsClosedBy after anchor new
  IsClosedBy-ended (Finalizing boundary) (Finalizing more) new ended how s closed told crosses = crossed boundary s closed.0 closed.1 more new ended how told crosses
  IsClosedBy-ended (Finalizing boundary) Free new ended how s closed told crosses = tt
  IsClosedBy-ended (Finalizing boundary) Pruning new ended how s closed told crosses = tt
  IsClosedBy-ended Free after new ended how s closed told crosses = subst (λ (x : Pause). IsClosedBy x anchor new) (sym crosses) tt
  IsClosedBy-ended Pruning after new ended how s closed told crosses = subst (λ (x : Pause). IsClosedBy x anchor new) (sym crosses) tt

-- what is cached and goes on over a finalization, of a later round than the anchor, is compatible with it
pub IsClosedBy-finalizes : {B C I P R D H G U : Type 0} (w : Workings B C I P R D H G U) (stored : ℕ → Option (Named B)) (p : Past B C I) (anchor : Anchor) (cache : List (Cached U)) (boundary : Boundary) → IsLater anchor.round boundary.round → Finalizes w stored p anchor cache boundary → IsClosedBy (Finalizing boundary) anchor cache
IsClosedBy-finalizes w stored p anchor cache boundary later f = (f.closed, later)
