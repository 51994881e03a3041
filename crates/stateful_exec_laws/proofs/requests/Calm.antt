-- What stands for a past stands for a longer one, where the item that is added leaves things as they are.
use Rattle.std.proofs.Common.{◌≡◌, inl, inr, ℕ, List, ◌∷◌, Option, None, sym, ◌∙◌, subst, MatchOption}
use Rattle.std.proofs.lemmas.List.Elements.{All-weaker}
use Rattle.stateful_base.specs.Names.{Named}
use Rattle.stateful_base.specs.Round.{IsLater}
use Rattle.stateful_base.specs.declared.anchor.Anchor.{Anchor}
use Rattle.stateful_base.specs.declared.digest.Digest.{Digest}
use Rattle.stateful_history.specs.Setting.{Setting, round_of}
use Rattle.stateful_history.specs.Past.{Past, Item}
use Rattle.stateful_history.specs.Opening.{StartsNone}
use Rattle.stateful_history.specs.Anchors.{tip_of}
use Rattle.stateful_history.specs.Asked.{kept_by}
use Rattle.stateful_history.specs.Joined.{WasBuilt}
use Rattle.stateful_history.specs.Known.{Known, is_tip, kept, stays, IsPastTip}
use Rattle.stateful_history.specs.Live.{live_job}
use Rattle.stateful_history.specs.Jobs.{started_for, turns}
use Rattle.stateful_exec_cache.specs.declared.cache.Cached.{Cached}
use Rattle.stateful_exec_model.specs.Workings.{Workings, Point}
use Rattle.stateful_exec_pause.specs.declared.pause.Pause.{Pause}
use Rattle.stateful_exec_tables.specs.declared.tables.LiveRun.{LiveRun}
use Rattle.stateful_exec_laws.specs.Setting.{setting}
use Rattle.stateful_exec_laws.specs.Chains.{Stacked, here, further, Chain, Leads}
use Rattle.stateful_exec_laws.specs.Caching.{IsCached, CacheStands}
use Rattle.stateful_exec_laws.specs.Running.{IsRunning, RunsStand}

-- an item that opens, finalizes and keeps nothing
pub record IsCalm {B C I S T : Type 0} (s : Setting B S T) (p : Past B C I) (x : Item B C I) : Type 0 where
  pub tip : tip_of s.header (x ∷ p) ≡ tip_of s.header p
  pub starts_none : StartsNone x
  pub built : (d : Digest) → WasBuilt p d → WasBuilt (x ∷ p) d
  pub kept : kept_by p x ≡ None

-- the item neither starts, turns nor ends the job
pub record LeavesJob {B C I : Type 0} (p : Past B C I) (x : Item B C I) (j : ℕ) : Type 0 where
  pub live : live_job j (x ∷ p) ≡ live_job j p
  pub started : started_for j (x ∷ p) ≡ started_for j p
  pub turns : turns j (x ∷ p) ≡ turns j p

module _ {B C I S T : Type 0} (s : Setting B S T) where
  pub later-moved : (p q : Past B C I) (b : Named B) → tip_of s.header q ≡ tip_of s.header p → IsPastTip s p b → IsPastTip s q b
  later-moved p q b e l = subst (λ o. MatchOption o ⊥ (λ tip. IsLater tip.round (round_of s b))) (sym e) l

  -- a known block stays known
  pub Known-calm : {p : Past B C I} {d : Digest} → Known s p d → (x : Item B C I) → IsCalm s p x → Known s (x ∷ p) d
  Known-calm (is_tip e) x calm = is_tip (calm.tip ∙ e)
  Known-calm (kept {p = p} {item = y} {b = b} m k l parent) x calm = stays calm.starts_none m (kept m k l parent) l (later-moved (y ∷ p) (x ∷ y ∷ p) b calm.tip l) (Known-calm parent x calm)
  Known-calm (stays {p = p} {item = y} {b = b} o m k old l parent) x calm = stays calm.starts_none (inr m) (stays o m k old l parent) l (later-moved (y ∷ p) (x ∷ y ∷ p) b calm.tip l) (Known-calm parent x calm)

  -- no other block becomes known
  pub Known-before : {p : Past B C I} {x : Item B C I} {d : Digest} → Known s (x ∷ p) d → IsCalm s p x → Known s p d
  Known-before (is_tip e) calm = is_tip (sym calm.tip ∙ e)
  Known-before (kept m k l parent) calm = let none = calm.kept in cc
  Known-before (stays o m k old l parent) calm = k

module _ {B C I P R D H G U : Type 0} (w : Workings B C I P R D H G U) where
  pub Stacked-led : {points : Digest → Point w} {first : Digest} {L M : w.States → Named B → w.States → Type 0} {d : Digest} {c : List (Point w)} → Stacked w points L first d c
      → ((t : w.States) (b : Named B) (u : w.States) → L t b u → M t b u) → Stacked w points M first d c
  Stacked-led (here e at) led = here e at
  Stacked-led (further e at s ne l) led = further e at (Stacked-led s led) ne (led _ _ _ l)

  module _ (stored : ℕ → Option (Named B)) (p : Past B C I) (x : Item B C I) (calm : IsCalm (setting w stored) p x) where
    pub Leads-calm : (t : w.States) (b : Named B) (u : w.States) → Leads w stored p t b u → Leads w stored (x ∷ p) t b u
    Leads-calm t b u l = record {
      met = inr l.met;
      matches = l.matches;
      earned = elim l.earned [ inl a ↦ inl a | inr built ↦ inr (calm.built b.digest built) ];
    }

    module _ (points : Digest → Point w) where
      pub Chain-calm : (anchor d : Digest) (c : List (Point w)) → Chain w stored p points anchor d c → Chain w stored (x ∷ p) points anchor d c
      Chain-calm anchor d c chain = Stacked-led chain Leads-calm

      module _ (next : w.Ids) (anchor : Anchor) where
        IsCached-calm : (e : Cached U) → IsCached w stored p points next anchor e → IsCached w stored (x ∷ p) points next anchor e
        IsCached-calm e h = record {
          block = h.block;
          met = inr h.met;
          digest_is = h.digest_is;
          parent_is = h.parent_is;
          round_is = h.round_is;
          other = h.other;
          below = h.below;
          chain = Chain-calm anchor.digest _ _ h.chain;
          drawn = h.drawn;
          shows = h.shows;
        }

        -- the cache stands for the longer past
        pub CacheStands-calm : (pause : Pause) (cache : List (Cached U)) → CacheStands w stored p points next anchor pause cache → CacheStands w stored (x ∷ p) points next anchor pause cache
        CacheStands-calm pause cache h = record {
          each = All-weaker (IsCached w stored p points next anchor) (IsCached w stored (x ∷ p) points next anchor) (λ e c. IsCached-calm e c) cache h.each;
          in_order = h.in_order;
          knows = λ d. (λ k. (h.knows d).0 (Known-before (setting w stored) k calm), λ b. Known-calm (setting w stored) ((h.knows d).1 b) x calm);
        }

        module _ (cache : List (Cached U)) where
          -- a live run stands for the longer past
          pub IsRunning-calm : (j : ℕ) (run : LiveRun B R) → LeavesJob p x j → IsRunning w stored p points next anchor cache j run → IsRunning w stored (x ∷ p) points next anchor cache j run
          IsRunning-calm j run same h = record {
            job = record { live = same.live ∙ h.job.live; is = same.started ∙ h.job.is };
            met = inr h.met;
            other = h.other;
            parent = h.parent;
            parent_met = inr h.parent_met;
            parent_is = h.parent_is;
            at_hand = h.at_hand;
            below = h.below;
            chain = Chain-calm anchor.digest _ _ h.chain;
            own = h.own;
            drawn = h.drawn;
            round = h.round;
            runs = rw same.turns h.runs;
          }

          -- the live runs stand for the longer past
          pub RunsStand-calm : ((j : ℕ) → LeavesJob p x j) → (runs : List (ℕ × LiveRun B R)) → RunsStand w stored p points next anchor cache runs → RunsStand w stored (x ∷ p) points next anchor cache runs
          RunsStand-calm jobs runs h = record {
            ascending = h.ascending;
            each = All-weaker (λ (e : ℕ × LiveRun B R). IsRunning w stored p points next anchor cache e.0 e.1) (λ e. IsRunning w stored (x ∷ p) points next anchor cache e.0 e.1) (λ e r. IsRunning-calm e.0 e.1 (jobs e.0) r) runs h.each;
            apart = h.apart;
            complete = λ j d live. let same = jobs j in h.complete j d (record { live = sym same.live ∙ live.live; is = sym same.started ∙ live.is });
          }
