-- The tables stand after the anchor's move to the finalized block, once it is applied.
use Rattle.std.proofs.Common.{◌≡◌, inr, ℕ, List, ◌∷◌, All, Contains, Option, Some, get_or, refl, sym, ◌∙◌, subst}
use Rattle.stateful_base.specs.Names.{Named}
use Rattle.stateful_base.specs.Anchor.{anchor_by}
use Rattle.stateful_base.specs.declared.digest.Digest.{Digest}
use Rattle.stateful_history.specs.Past.{Past, Made}
use Rattle.stateful_history.specs.Finalizations.{begun}
use Rattle.stateful_history.specs.Met.{TrueNames}
use Rattle.stateful_history.specs.declared.mark.Mark.TheVariants.{Applied}
use Rattle.stateful_exec_cache.specs.Cache.{IsAtHand}
use Rattle.stateful_exec_cache.specs.Cut.{IsCutTo}
use Rattle.stateful_exec_cache.specs.declared.cache.Cached.{Cached}
use Rattle.stateful_exec_pause.specs.Boundary.{Boundary, step_by, IsRetained}
use Rattle.stateful_exec_model.specs.Workings.{Workings, Point}
use Rattle.stateful_exec_pause.specs.declared.pause.Pause.TheVariants.{Finalizing}
use Rattle.stateful_exec_tables.specs.declared.state.Tables.{Tables}
use Rattle.stateful_exec_tables.specs.declared.tables.LiveRun.{LiveRun}
use Rattle.stateful_exec_laws.specs.Setting.{setting}
use Rattle.stateful_exec_laws.specs.Caching.{CacheStands}
use Rattle.stateful_exec_laws.specs.Running.{IsRunning}
use Rattle.stateful_exec_laws.specs.Standing.{TablesStand}
use Rattle.stateful_exec_laws.proofs.requests.Asking.{IsStanding-calm}
use Rattle.stateful_exec_laws.proofs.ended.Finalizing.{Finalizes}
use Rattle.stateful_exec_laws.proofs.front.AnchorCut.{root_is, stays_at_hand, restacks, CacheStands-cut}

module _ {B C I P R D H G U : Type 0} (w : Workings B C I P R D H G U) (stored : ℕ → Option (Named B)) (p : Past B C I) (points : Digest → Point w) (point : Point w) (next : w.Ids) (old : Tables B C I R U) (s : TablesStand w stored p points point next old)
    (boundary : Boundary) (paused : old.pause ≡ Finalizing boundary) (names : TrueNames (setting w stored) p) (f : Finalizes w stored p old.anchor old.cache boundary)
    (b : Named B) (begun_is : begun p ≡ Some b) (kept_entries : List (Cached U)) (cut : IsCutTo (anchor_by w.header b) old.cache kept_entries)
    (retained : All (λ e. IsRetained boundary (step_by w.header e.1.block)) old.runs) where
  abbrev now : Past B C I
  now = Made (Applied b) ∷ p

  cache : CacheStands w stored p points next old.anchor (Finalizing boundary) old.cache
  cache = subst (λ pause. CacheStands w stored p points next old.anchor pause old.cache) paused s.cache

  -- a live run that goes on over the finalization stands over the new anchor
  running-moved : (j : ℕ) (run : LiveRun B R) → IsRetained boundary (step_by w.header run.block) → IsRunning w stored p points next old.anchor old.cache j run → IsRunning w stored now points next (anchor_by w.header b) kept_entries j run
  running-moved j run kept_on h =
      let compatible : Contains boundary.compatible h.parent.digest = subst (λ (d : Digest). Contains boundary.compatible d) (sym h.parent_is) kept_on.parent in
      let at_hand : IsAtHand (anchor_by w.header b) kept_entries h.parent.digest =
      stays_at_hand w stored p points next old.anchor old.cache boundary cache names f b begun_is kept_entries cut h.parent.digest compatible h.at_hand in
      record {
        job = record { live = h.job.live; is = h.job.is };
        met = inr h.met;
        other = λ e. kept_on.other (e ∙ root_is w stored p points next old.anchor old.cache boundary cache names f b begun_is kept_entries cut);
        parent = h.parent;
        parent_met = inr h.parent_met;
        parent_is = h.parent_is;
        at_hand = at_hand;
        below = h.below;
        chain = restacks w stored p points next old.anchor old.cache boundary cache names f b begun_is kept_entries cut h.parent.digest at_hand _ h.chain;
        own = h.own;
        drawn = h.drawn;
        round = h.round;
        runs = h.runs;
      }

  -- The tables stand over the finalized block, whose point is where the databases are now, with the cut cache.
  pub TablesStand-applied : TablesStand w stored (Made (Applied b) ∷ p) points (points b.digest) next (record old { anchor = anchor_by w.header b; cache = kept_entries })
  TablesStand-applied = record {
    at_anchor = refl;
    cache = subst (λ pause. CacheStands w stored now points next (anchor_by w.header b) pause kept_entries) (sym paused)
        (CacheStands-cut w stored p points next old.anchor old.cache boundary cache names f b begun_is kept_entries cut);
    runs = record {
      ascending = s.runs.ascending;
      each = λ k d l. let e = get_or old.runs k d in running-moved e.0 e.1 (retained k d l) (s.runs.each k d l);
      apart = s.runs.apart;
      complete = λ j d live. s.runs.complete j d (record { live = live.live; is = live.is });
    };
    requests = record {
      ascending = s.requests.ascending;
      each = λ k d l.
          let e = get_or old.requests k d in
          IsStanding-calm w stored p (Made (Applied b)) old.runs e.0 e.1 (record { live = refl; verified = refl; proposed = refl }) (λ g is. record { live = refl; asked = refl }) (s.requests.each k d l);
      fetches = λ g t live asked. s.requests.fetches g t live asked;
      wanted = s.requests.wanted;
    };
    once = s.once;
    queue = record { each = λ k d l. let e = s.queue.each k d l in record { live = e.live; proposes = e.proposes }; ready = s.queue.ready };
    numbers = record { jobs = s.numbers.jobs; unturned = s.numbers.unturned; fetches = s.numbers.fetches };
  }
