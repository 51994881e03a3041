-- What a path passes is known, whatever execution is paused for.
use Rattle.std.proofs.Common.{◌≡◌, ◌≢◌, inl, inr, ℕ, List, Contains, Option, sym, ap, ◌∙◌, subst, arith}
use Rattle.std.proofs.lemmas.List.Elements.{All-weaker, All-contains}
use Rattle.stateful_base.specs.Names.{Named}
use Rattle.stateful_base.specs.Round.{IsLater}
use Rattle.stateful_base.specs.declared.anchor.Anchor.{Anchor}
use Rattle.stateful_base.specs.declared.digest.Digest.{Digest}
use Rattle.stateful_base.specs.declared.round.Round.{Round}
use Rattle.stateful_history.specs.Known.{Known}
use Rattle.stateful_history.specs.Met.{Met, TrueNames}
use Rattle.stateful_history.specs.Past.{Past}
use Rattle.stateful_exec_cache.specs.Cache.{IsAtHand}
use Rattle.stateful_exec_cache.specs.Cut.{AreNamed}
use Rattle.stateful_exec_cache.specs.declared.cache.Cached.{Cached}
use Rattle.stateful_exec_pause.specs.Boundary.{Boundary, step_by, IsRetained}
use Rattle.stateful_exec_tables.specs.Keeping.{step_in}
use Rattle.stateful_exec_tables.specs.Meeting.{GoesOn}
use Rattle.stateful_exec_model.specs.Workings.{Workings, Point}
use Rattle.stateful_exec_pause.specs.declared.pause.Pause.{Pause}
use Rattle.stateful_exec_pause.specs.declared.pause.Pause.TheVariants.{Free, Finalizing, Pruning}
use Rattle.stateful_exec_laws.specs.Setting.{setting}
use Rattle.stateful_exec_laws.specs.Caching.{IsCached, CacheStands}
use Rattle.stateful_exec_laws.proofs.ended.Kept.{IsRoundOf}
pub use Rattle.stateful_exec_laws.specs.Ground.{IsClosed, IsClosedBy}

later_than : (x y : Round) → IsLater x y → IsLater y x → ⊥
later_than x y (inl l) (inl k) = omega arith
later_than x y (inl l) (inr k) = omega (arith, k.0)
later_than x y (inr l) (inl k) = omega (arith, l.0)
later_than x y (inr l) (inr k) = omega (arith, l.1, k.1)

module _ {B C I P R D H G U : Type 0} (w : Workings B C I P R D H G U) (stored : ℕ → Option (Named B)) (p : Past B C I) (points : Digest → Point w) (next : w.Ids) (anchor : Anchor) (cache : List (Cached U)) (names : TrueNames (setting w stored) p) where
  -- entries of one digest are of one block
  pub CacheStands-AreNamed : {pause : Pause} → CacheStands w stored p points next anchor pause cache → AreNamed anchor.digest cache
  CacheStands-AreNamed s = record {
    in_order = s.in_order;
    other = All-weaker (IsCached w stored p points next anchor) (λ e. e.digest ≢ anchor.digest) (λ e h. h.other) cache s.each;
    same = λ e f among_e among_f is.
        let h : IsCached w stored p points next anchor e = All-contains (IsCached w stored p points next anchor) cache e s.each among_e in
        let k : IsCached w stored p points next anchor f = All-contains (IsCached w stored p points next anchor) cache f s.each among_f in
        let one : h.block ≡ k.block = names h.block k.block h.met k.met (h.digest_is ∙ is ∙ sym k.digest_is) in
        (sym h.parent_is ∙ ap (λ (y : Named B). w.header.parent y.block) one ∙ k.parent_is, sym h.round_is ∙ ap (λ (y : Named B). w.header.round y.block) one ∙ k.round_is);
  }

  module _ (round : IsRoundOf w stored p anchor) where
    -- the anchor's block doesn't go on over the finalization of one of a later round
    pub anchor-unretained : (boundary : Boundary) (b : Named B) → Met (setting w stored) p b → IsLater anchor.round boundary.round → IsRetained boundary (step_by w.header b) → b.digest ≢ anchor.digest
    anchor-unretained boundary b met later retained e =
        later_than anchor.round boundary.round later (subst (λ (r : Round). IsLater boundary.round r) (round b met e) retained.later)

    -- what a path passes is known
    pub passed-Known : (pause : Pause) → CacheStands w stored p points next anchor pause cache → IsClosedBy pause anchor cache → (b : Named B) → Met (setting w stored) p b → GoesOn w.header pause b → IsAtHand anchor cache b.digest → Known (setting w stored) p b.digest
    passed-Known Free s closed b met on here = (s.knows b.digest).1 here
    passed-Known Pruning s closed b met on here = (s.knows b.digest).1 here
    passed-Known (Finalizing boundary) s closed b met on (inl e) = absurd (anchor-unretained boundary b met closed.1 on e)
    passed-Known (Finalizing boundary) s closed b met on (inr any) =
        let h : IsCached w stored p points next anchor any.1 = All-contains (IsCached w stored p points next anchor) cache any.1 s.each (any.0, any.2, any.3) in
        let c : IsRetained boundary (step_in any.1) → Contains boundary.compatible any.1.digest = All-contains (λ e. IsRetained boundary (step_in e) → Contains boundary.compatible e.digest) cache any.1 closed.0 (any.0, any.2, any.3) in
        let same : h.block ≡ b = names h.block b h.met met (h.digest_is ∙ any.4) in
        let retained : IsRetained boundary (step_in any.1) = record {
          other = λ e. on.other (sym any.4 ∙ e);
          later = subst (λ (r : Round). IsLater boundary.round r) (ap (λ (y : Named B). w.header.round y.block) (sym same) ∙ h.round_is) on.later;
          parent = subst (λ (d : Digest). Contains boundary.compatible d) (ap (λ (y : Named B). w.header.parent y.block) (sym same) ∙ h.parent_is) on.parent;
        } in
        (s.knows b.digest).1 (inr (any, subst (λ (d : Digest). Contains boundary.compatible d) any.4 (c retained)))
