-- The tables stand after a pause for a finalization.
use Rattle.std.proofs.Common.{◌≡◌, ◌≤◌, ◌<◌, ◌==◌, inl, inr, ℕ, Bool, true, false, List, ◌∷◌, Option, Some, None, MatchOption, refl, subst, arith}
use borrow.Author.Tests.{lt-ltb}
use Rattle.std.proofs.lemmas.List.Elements.{All-weaker}
use Rattle.stateful_base.specs.Names.{Named}
use Rattle.stateful_base.specs.Anchor.{anchor_by}
use Rattle.stateful_base.specs.declared.anchor.Anchor.{Anchor}
use Rattle.stateful_base.specs.declared.digest.Digest.{Digest}
use Rattle.stateful_history.specs.Setting.{Setting}
use Rattle.stateful_history.specs.Past.{Past, Made, after}
use Rattle.stateful_history.specs.Anchors.{tip_of, anchor_of}
use Rattle.stateful_history.specs.Canonical.{canonical_by, kept_at}
use Rattle.stateful_history.specs.Fetches.{Abstains, IsUndecided}
use Rattle.stateful_history.specs.declared.mark.Mark.{Mark}
use Rattle.stateful_history.specs.declared.mark.Mark.TheVariants.{Began}
use Rattle.stateful_exec_cache.specs.declared.cache.Cached.{Cached}
use Rattle.stateful_exec_pause.specs.Boundary.{Boundary}
use Rattle.stateful_exec_pause.specs.Boundary.{IsBoundaryOf}
use Rattle.stateful_exec_tables.specs.Pausing.{Pauses}
use Rattle.stateful_exec_model.specs.Workings.{Workings, Point}
use Rattle.stateful_exec_pause.specs.declared.pause.Pause.TheVariants.{Free, Finalizing}
use Rattle.stateful_exec_tables.specs.declared.state.Tables.{Tables}
use Rattle.stateful_exec_tables.specs.declared.tables.LiveRun.{LiveRun}
use Rattle.stateful_exec_tables.specs.declared.tables.Requested.{Requested}
use Rattle.stateful_exec_laws.specs.Setting.{setting}
use Rattle.stateful_exec_laws.specs.Chains.{Chain, Leads}
use Rattle.stateful_exec_laws.specs.Caching.{IsCached, CacheStands}
use Rattle.stateful_exec_laws.specs.Requesting.{IsStanding, RequestsStand}
use Rattle.stateful_exec_laws.specs.Running.{IsRunning, RunsStand}
use Rattle.stateful_exec_laws.specs.Standing.{TablesStand}
use Rattle.stateful_exec_laws.proofs.requests.Calm.{Stacked-led}
use Rattle.stateful_exec_laws.proofs.requests.Asking.{IsStanding-calm}
use Rattle.stateful_exec_laws.proofs.runs.Removing.{differ}
use Rattle.stateful_exec_laws.proofs.pauses.Stands.{TablesStand-paused}
use Rattle.stateful_exec_laws.proofs.pauses.Known.{IsOverTip, Known-began}

module _ {B C I S T : Type 0} (s : Setting B S T) (p : Past B C I) where
  -- a height below the old tip that was undecided is so below the next one, which is no lower
  still_undecided : (n : ℕ) (old new : Anchor) (anchor : Option Anchor) → n < old.height.0 → old.height.0 ≤ new.height.0
      → canonical_by s p n (Some old) anchor ≡ None → canonical_by s p n (Some new) anchor ≡ None
  still_undecided n old new None less up none = refl
  still_undecided n old new (Some a) less up none = go (a.height.0 == n) refl
    where
      kept_none : (a.height.0 == n) ≡ false → kept_at s p n ≡ None
      kept_none off = rw (differ old.height.0 n (λ e. omega arith), off, lt-ltb n old.height.0 less) at none

      go : (b : Bool) → (a.height.0 == n) ≡ b → canonical_by s p n (Some new) (Some a) ≡ None
      go true is = let some : Some a.digest ≡ None = rw (differ old.height.0 n (λ e. omega arith), is) at none in cc
      go false is = rw (differ new.height.0 n (λ e. omega arith), is, lt-ltb n new.height.0 (omega arith)) (kept_none is)

module _ {B C I P R D H G U : Type 0} (w : Workings B C I P R D H G U) (stored : ℕ → Option (Named B)) (p : Past B C I) (ticket : ℕ) (b : Named B) where
  abbrev began : Past B C I
  began = Made (Began ticket b) ∷ p

  Leads-began : (t : w.States) (c : Named B) (u : w.States) → Leads w stored p t c u → Leads w stored began t c u
  Leads-began t c u l = record { met = inr l.met; matches = l.matches; earned = elim l.earned [ inl a ↦ inl a | inr built ↦ inr built ] }

  module _ (points : Digest → Point w) (next : w.Ids) (anchor : Anchor) (cache : List (Cached U)) where
    Chain-began : (d : Digest) (c : List (Point w)) → Chain w stored p points anchor.digest d c → Chain w stored began points anchor.digest d c
    Chain-began d c chain = Stacked-led w chain Leads-began

    -- the cache stands once the finalization has begun
    pub CacheStands-began : IsOverTip (setting w stored) p anchor b → (boundary : Boundary) → IsBoundaryOf w.header b cache boundary
        → CacheStands w stored p points next anchor Free cache → CacheStands w stored began points next anchor (Finalizing boundary) cache
    CacheStands-began over boundary is_boundary old = record {
      each = All-weaker (IsCached w stored p points next anchor) (IsCached w stored began points next anchor) (λ e h. record {
        block = h.block;
        met = inr h.met;
        digest_is = h.digest_is;
        parent_is = h.parent_is;
        round_is = h.round_is;
        other = h.other;
        below = h.below;
        chain = Chain-began _ _ h.chain;
        drawn = h.drawn;
        shows = h.shows;
      }) cache old.each;
      in_order = old.in_order;
      knows = Known-began w stored p points next anchor cache old ticket b over boundary is_boundary;
    }

    -- the live runs stand too
    pub RunsStand-began : (runs : List (ℕ × LiveRun B R)) → RunsStand w stored p points next anchor cache runs → RunsStand w stored began points next anchor cache runs
    RunsStand-began runs old = record {
      ascending = old.ascending;
      each = All-weaker (λ (e : ℕ × LiveRun B R). IsRunning w stored p points next anchor cache e.0 e.1) (λ e. IsRunning w stored began points next anchor cache e.0 e.1) (λ e h. record {
        job = record { live = h.job.live; is = h.job.is };
        met = inr h.met;
        other = h.other;
        parent = h.parent;
        parent_met = inr h.parent_met;
        parent_is = h.parent_is;
        at_hand = h.at_hand;
        below = h.below;
        chain = Chain-began _ _ h.chain;
        own = h.own;
        drawn = h.drawn;
        round = h.round;
        runs = h.runs;
      }) runs old.each;
      apart = old.apart;
      complete = λ j d live. old.complete j d (record { live = live.live; is = live.is });
    }

  -- a verification that abstains still does
  pub abstains-began : (anchor : Anchor) → tip_of w.header p ≡ Some anchor → anchor.height.0 ≤ w.header.height b.block → (t : ℕ) (c : Named B) → Abstains (setting w stored) t p c → Abstains (setting w stored) t began c
  abstains-began anchor tip_is up t c (inl answered) = inl answered
  abstains-began anchor tip_is up t c (inr undecided) = inr (elim (tip_of w.header p) as (λ (o : Option Anchor). o ≡ Some anchor → MatchOption o ⊥ (λ tip. (w.header.height c.block < tip.height.0) × (canonical_by (setting w stored) p (w.header.height c.block) o (anchor_of w.header p) ≡ None)) → IsUndecided (setting w stored) began c) [
    | None ↦ λ is h. absurd h
    | Some tip ↦ λ is h.
        let same : tip.height.0 ≡ anchor.height.0 = cc in
        (omega (arith, h.0, same), still_undecided (setting w stored) p (w.header.height c.block) tip (anchor_by w.header b) (anchor_of w.header p) h.0 (omega arith) h.1)
  ] tip_is undecided)

  requests-began : (runs : List (ℕ × LiveRun B R)) (requests : List (ℕ × Requested B C I)) → RequestsStand w stored p runs requests → RequestsStand w stored began runs requests
  requests-began runs requests old = record {
    ascending = old.ascending;
    each = All-weaker (λ (e : ℕ × Requested B C I). IsStanding w stored p runs e.0 e.1) (λ e. IsStanding w stored began runs e.0 e.1)
        (λ e h. IsStanding-calm w stored p (Made (Began ticket b)) runs e.0 e.1 (record { live = refl; verified = refl; proposed = refl }) (λ f is. record { live = refl; asked = refl }) h) requests old.each;
    fetches = λ f t live asked. old.fetches f t live asked;
    wanted = old.wanted;
  }

  -- The tables stand after a pause for the finalization of a block, where the anchor is the tip.
  pub TablesStand-finalizing : (points : Digest → Point w) (point : Point w) (next : w.Ids) (old new : Tables B C I R U) (marks : List (Mark B)) (boundary : Boundary) → old.pause ≡ Free
      → IsOverTip (setting w stored) p old.anchor b → IsBoundaryOf w.header b old.cache boundary
      → TablesStand w stored p points point next old → Pauses (Some boundary) old new marks → TablesStand w stored (after p (Began ticket b ∷ marks)) points point next new
  TablesStand-finalizing points point next old new marks boundary free over is_boundary s pauses = TablesStand-paused w stored (Some boundary) began points point next old new marks (record {
    at_anchor = s.at_anchor;
    cache = CacheStands-began points next old.anchor old.cache over boundary is_boundary (subst (λ pause. CacheStands w stored p points next old.anchor pause old.cache) free s.cache);
    runs = RunsStand-began points next old.anchor old.cache old.runs s.runs;
    requests = requests-began old.runs old.requests s.requests;
    once = s.once;
    queue = record { each = λ k d l. let e = s.queue.each k d l in record { live = e.live; proposes = e.proposes }; ready = s.queue.ready };
    numbers = record { jobs = s.numbers.jobs; unturned = s.numbers.unturned; fetches = s.numbers.fetches };
  }) pauses
