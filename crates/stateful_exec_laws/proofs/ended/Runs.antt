-- What is at hand goes over to a longer past and to points that agree there, with the runs that are left.
use Rattle.std.proofs.Common.{◌≡◌, ◌≢◌, ◌==◌, not, ℕ, List, [], ◌∷◌, false, Option, IsSome, get_or, refl, sym, ◌∙◌, subst}
use Rattle.std.proofs.lemmas.List.Kept.{AllPairs-filter}
use Rattle.stateful_base.specs.Names.{Named}
use Rattle.stateful_base.specs.declared.anchor.Anchor.{Anchor}
use Rattle.stateful_base.specs.declared.digest.Digest.{Digest}
use Rattle.stateful_base.specs.declared.outcome.Finality.TheVariants as finality
use Rattle.stateful_db.specs.Works.{run_of}
use Rattle.stateful_history.specs.Past.{Past, Came, Made}
use Rattle.stateful_history.specs.Jobs.{started_for, turns}
use Rattle.stateful_history.specs.Live.{live_job}
use Rattle.stateful_history.specs.Met.{Met}
use Rattle.stateful_history.specs.declared.event.Event.TheVariants.{Turn}
use Rattle.stateful_history.specs.declared.mark.How.{How}
use Rattle.stateful_history.specs.declared.mark.Mark.TheVariants.{Ended}
use Rattle.stateful_exec_cache.specs.Cache.{IsAtHand}
use Rattle.stateful_exec_cache.specs.declared.cache.Cached.{Cached}
use Rattle.stateful_table.specs.Table.{without}
use Rattle.stateful_exec_model.specs.Workings.{Workings, Point}
use Rattle.stateful_exec_tables.specs.declared.tables.LiveRun.{LiveRun}
use Rattle.stateful_exec_laws.specs.Setting.{setting}
use Rattle.stateful_exec_laws.specs.Chains.{Chain}
use Rattle.stateful_exec_laws.specs.Caching.{IsCached}
use Rattle.stateful_exec_laws.specs.Running.{IsRunning, RunsStand}
use Rattle.stateful_exec_laws.proofs.runs.Removing.{differ, at_other, All-without, sorted_without}
use Rattle.stateful_exec_laws.proofs.requests.Cancelled.{and_left, and_right, not_same}

module _ {B C I P R D H G U : Type 0} (w : Workings B C I P R D H G U) (stored : ℕ → Option (Named B)) (p q : Past B C I) (points now : Digest → Point w) (anchor : Anchor) (cache : List (Cached U)) where
  -- the blocks of the history stay, and what is at hand keeps its points and its chains
  pub record Moves : Type 0 where
    pub met : (b : Named B) → Met (setting w stored) p b → Met (setting w stored) q b
    pub same : (d : Digest) → IsAtHand anchor cache d → now d ≡ points d
    pub chain : (d : Digest) (c : List (Point w)) → IsAtHand anchor cache d → Chain w stored p points anchor.digest d c → Chain w stored q now anchor.digest d c

  module _ (moves : Moves) (next : w.Ids) where
    -- a cached entry stands
    pub IsCached-moved : (e : Cached U) → IsAtHand anchor cache e.digest → IsCached w stored p points next anchor e → IsCached w stored q now next anchor e
    IsCached-moved e at_hand h =
        let same : points e.digest ≡ now e.digest = sym (moves.same e.digest at_hand) in
        record {
          block = h.block;
          met = moves.met h.block h.met;
          digest_is = h.digest_is;
          parent_is = h.parent_is;
          round_is = h.round_is;
          other = h.other;
          below = h.below;
          chain = subst (λ (x : Point w). Chain w stored q now anchor.digest e.digest (x ∷ h.below)) same (moves.chain e.digest _ at_hand h.chain);
          drawn = subst (λ (x : Point w). w.kind.issued next (x ∷ h.below)) same h.drawn;
          shows = subst (λ (x : Point w). w.shows e.batch (x ∷ h.below)) same h.shows;
        }

    module _ (more : List (Cached U)) (grows : (d : Digest) → IsAtHand anchor cache d → IsAtHand anchor more d) where
      -- a live run stands, whose job isn't touched
      pub IsRunning-moved : (k : ℕ) (run : LiveRun B R) → live_job k q ≡ live_job k p → started_for k q ≡ started_for k p → turns k q ≡ turns k p
          → IsRunning w stored p points next anchor cache k run → IsRunning w stored q now next anchor more k run
      IsRunning-moved k run live started turned h =
          let same : points h.parent.digest ≡ now h.parent.digest = sym (moves.same h.parent.digest h.at_hand) in
          record {
            job = record { live = live ∙ h.job.live; is = started ∙ h.job.is };
            met = moves.met run.block h.met;
            other = h.other;
            parent = h.parent;
            parent_met = moves.met h.parent h.parent_met;
            parent_is = h.parent_is;
            at_hand = grows h.parent.digest h.at_hand;
            below = h.below;
            chain = subst (λ (x : Point w). Chain w stored q now anchor.digest h.parent.digest (x ∷ h.below)) same (moves.chain h.parent.digest _ h.at_hand h.chain);
            own = h.own;
            drawn = λ s. subst (λ (x : Point w). w.kind.issued next ((h.own, s) ∷ x ∷ h.below)) same (h.drawn s);
            round = h.round;
            runs = rw turned (subst (λ (x : Point w). w.works.runs run.run (run_of finality.Candidate (w.context_of run.block.block) (record { first = run.block; rest = h.parent ∷ [] }) h.own x h.below) (turns k p)) same h.runs);
          }

module _ {B C I P R D H G U : Type 0} (w : Workings B C I P R D H G U) (stored : ℕ → Option (Named B)) (p : Past B C I) (points now : Digest → Point w) (next : w.Ids) (anchor : Anchor) (cache more : List (Cached U)) (j : ℕ) (how : How)
    (moves : Moves w stored p (Made (Ended j how) ∷ Came (Turn j) ∷ p) points now anchor cache) (grows : (d : Digest) → IsAtHand anchor cache d → IsAtHand anchor more d) where
  abbrev ended : Past B C I
  ended = Made (Ended j how) ∷ Came (Turn j) ∷ p

  other_run : (k : ℕ) (run : LiveRun B R) → k ≢ j → IsRunning w stored p points next anchor cache k run → IsRunning w stored ended now next anchor more k run
  other_run k run ne h =
      let other : (k == j) ≡ false = differ k j (λ e. ne (sym e)) in
      IsRunning-moved w stored p ended points now anchor cache moves next more grows k run (rw other refl) refl (rw other refl) h

  -- the runs that are left stand after the end of one
  pub RunsStand-turned : (runs : List (ℕ × LiveRun B R)) → RunsStand w stored p points next anchor cache runs → RunsStand w stored ended now next anchor more (without runs j)
  RunsStand-turned runs h = record {
    ascending = sorted_without runs j h.ascending;
    each = All-without (λ (e : ℕ × LiveRun B R). IsRunning w stored ended now next anchor more e.0 e.1) runs j
        (λ k d l ne. let e = get_or runs k d in other_run e.0 e.1 ne (h.each k d l));
    apart = AllPairs-filter (λ (e f : ℕ × LiveRun B R). e.1.block.digest ≢ f.1.block.digest) (λ e. not (e.0 == j)) runs h.apart;
    complete = λ k d live.
        let ne = not_same k j (and_left (not (k == j)) (live_job k p) live.live) in
        subst (λ o. IsSome o) (sym (at_other runs j k ne)) (h.complete k d (record { live = and_right (not (k == j)) (live_job k p) live.live; is = live.is }));
  }
