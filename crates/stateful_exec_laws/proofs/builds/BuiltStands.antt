-- The tables stand behind a block that was built and cached.
use Rattle.std.proofs.Common.{◌≡◌, ◌≢◌, ◌⊎◌, ◌↔◌, ◌++◌, ◌==◌, not, inl, inr, ℕ, false, List, [], ◌∷◌, Option, Some, None, MatchOption, get_or, refl, sym, ◌∙◌, subst}
use Rattle.std.proofs.lemmas.List.Elements.{All-push}
use Rattle.std.proofs.lemmas.List.Quantifiers.{Any-push}
use Rattle.stateful_base.specs.Names.{Named}
use Rattle.stateful_base.specs.Round.{IsLater}
use Rattle.stateful_base.specs.declared.anchor.Anchor.{Anchor}
use Rattle.stateful_base.specs.declared.digest.Digest.{Digest}
use Rattle.stateful_history.specs.Anchors.{tip_of}
use Rattle.stateful_history.specs.Past.{Past, Came, Made}
use Rattle.stateful_history.specs.Known.{Known, kept, IsPastTip}
use Rattle.stateful_history.specs.Live.{live_job}
use Rattle.stateful_history.specs.Met.{TrueNames}
use Rattle.stateful_history.specs.declared.event.Event.TheVariants.{Turn}
use Rattle.stateful_history.specs.declared.mark.JobKind.TheVariants.{Build}
use Rattle.stateful_history.specs.declared.mark.Mark.TheVariants.{Built}
use Rattle.stateful_exec_cache.specs.Cache.{IsIn, IsAtHand}
use Rattle.stateful_exec_cache.specs.declared.cache.Cached.{Cached}
use Rattle.stateful_table.specs.Table.{at}
use Rattle.stateful_exec_model.specs.Workings.{Workings, Point}
use Rattle.stateful_exec_model.specs.declared.building.Building.{Building}
use Rattle.stateful_exec_tables.specs.declared.state.Tables.{Tables}
use Rattle.stateful_exec_laws.specs.Setting.{setting}
use Rattle.stateful_exec_laws.specs.Chains.{further, Chain, Leads}
use Rattle.stateful_exec_laws.specs.Building.{IsBuilding}
use Rattle.stateful_exec_laws.specs.Caching.{IsCached, CacheStands}
use Rattle.stateful_exec_laws.specs.Running.{RunsStand}
use Rattle.stateful_exec_laws.specs.Standing.{TablesStand}
use Rattle.stateful_exec_laws.proofs.requests.Calm.{Known-calm, Known-before}
use Rattle.stateful_exec_laws.proofs.requests.Asking.{IsStanding-calm}
use Rattle.stateful_exec_laws.proofs.runs.Removing.{differ, none_at}
use Rattle.stateful_exec_laws.proofs.requests.Cancelled.{and_right}
use Rattle.stateful_exec_laws.proofs.ended.Runs.{Moves, IsCached-moved, IsRunning-moved}
use Rattle.stateful_exec_laws.proofs.ended.Known.{IsLater-self, turn-IsCalm}
use Rattle.stateful_exec_laws.proofs.ended.Points.{with_point, with_point-at, with_point-other, InOrder-push, Moves-same, Moves-to}
use Rattle.stateful_exec_laws.proofs.ended.Stands.{entry_at_hand}
use Rattle.stateful_exec_laws.proofs.ended.Kept.{IsRoundOf, Any-more, Any-push_cases}
use Rattle.stateful_exec_laws.proofs.ended.Told.{IsPlain, known_at_hand, known_by_pause}
use Rattle.stateful_exec_laws.proofs.builds.Turns.{no_candidate, TablesStand-turn_other}
use Rattle.stateful_exec_laws.proofs.builds.BuiltKnown.{Known-built, Known-built_before, Met-built, Leads-built}

module _ {B C I P R D H G U : Type 0} (w : Workings B C I P R D H G U) (stored : ℕ → Option (Named B)) (p : Past B C I) (points : Digest → Point w) (point : Point w) (next : w.Ids) (old : Tables B C I R U) (s : TablesStand w stored p points point next old)
    (plain : IsPlain old.pause) (tip : tip_of w.header p ≡ Some old.anchor) (b : Building B C D) (building : IsBuilding w stored p points next old.anchor old.cache b) (block : Named B)
    (names : TrueNames (setting w stored) (Made (Built b.job b.ticket block) ∷ Came (Turn b.job) ∷ p)) (round : IsRoundOf w stored (Made (Built b.job b.ticket block) ∷ Came (Turn b.job) ∷ p) old.anchor) where
  abbrev turned : Past B C I
  turned = Came (Turn b.job) ∷ p

  abbrev q : Past B C I
  q = Made (Built b.job b.ticket block) ∷ Came (Turn b.job) ∷ p

  -- What stands behind the block: the tables with this cache, over some points, which are as before where a block was at hand;
  -- and the block is known and cached.
  pub record IsCachedBehind (cache : List (Cached U)) : Type 0 where
    pub now : Digest → Point w
    pub tables : TablesStand w stored q now point next (record old { cache = cache })
    pub known : Known (setting w stored) q block.digest
    pub cached : IsIn cache block.digest

  no_run : at old.runs b.job ≡ None
  no_run = no_candidate w stored p points point next old s b.job Build b.parent.digest building.job.is (λ is. cc)

  knows : (d : Digest) → Known (setting w stored) p d ↔ IsAtHand old.anchor old.cache d
  knows = known_at_hand old.anchor (λ d. Known (setting w stored) p d) old.pause plain old.cache s.cache.knows

  still_known : (d : Digest) → Known (setting w stored) p d → Known (setting w stored) q d
  still_known d k = Known-built (setting w stored) b.job b.ticket block (Known-calm (setting w stored) k (Came (Turn b.job)) (turn-IsCalm (setting w stored) p b.job))

  known_before : (d : Digest) → Known (setting w stored) q d → (d ≡ block.digest) ⊎ Known (setting w stored) p d
  known_before d k = elim (Known-built_before (setting w stored) b.job b.ticket block k) [
    | inl is ↦ inl is
    | inr before ↦ inr (Known-before (setting w stored) before (turn-IsCalm (setting w stored) p b.job))
  ]

  runs-built : (now : Digest → Point w) (more : List (Cached U)) → Moves w stored p q points now old.anchor old.cache → ((d : Digest) → IsAtHand old.anchor old.cache d → IsAtHand old.anchor more d) → RunsStand w stored q now next old.anchor more old.runs
  runs-built now more moves grows = record {
    ascending = s.runs.ascending;
    each = λ k d l.
        let e = get_or old.runs k d in
        let other : (e.0 == b.job) ≡ false = differ e.0 b.job (λ same. none_at old.runs b.job no_run k d l (sym same)) in
        IsRunning-moved w stored p q points now old.anchor old.cache moves next more grows e.0 e.1 (rw other refl) refl (rw other refl) (s.runs.each k d l);
    apart = s.runs.apart;
    complete = λ k d live. s.runs.complete k d (record { live = and_right (not (k == b.job)) (live_job k p) live.live; is = live.is });
  }

  -- with a cache that stands and has what was at hand, the tables stand
  tables-built : (now : Digest → Point w) (more : List (Cached U)) → now old.anchor.digest ≡ point → CacheStands w stored q now next old.anchor old.pause more → Moves w stored p q points now old.anchor old.cache
      → ((d : Digest) → IsAtHand old.anchor old.cache d → IsAtHand old.anchor more d) → TablesStand w stored q now point next (record old { cache = more })
  tables-built now more at_anchor cache moves grows =
      let t : TablesStand w stored turned points point next old = TablesStand-turn_other w stored p points point next old s b.job Build b.parent.digest building.job.is (λ is. cc) in
      record {
        at_anchor = at_anchor;
        cache = cache;
        runs = runs-built now more moves grows;
        requests = record {
          ascending = t.requests.ascending;
          each = λ k d l.
              let e = get_or old.requests k d in
              IsStanding-calm w stored turned (Made (Built b.job b.ticket block)) old.runs e.0 e.1 (record { live = refl; verified = refl; proposed = refl }) (λ f is. record { live = refl; asked = refl }) (t.requests.each k d l);
          fetches = λ f u live asked. t.requests.fetches f u live asked;
          wanted = t.requests.wanted;
        };
        once = t.once;
        queue = record { each = λ k d l. let e = t.queue.each k d l in record { live = e.live; proposes = e.proposes }; ready = t.queue.ready };
        numbers = record { jobs = t.numbers.jobs; unturned = t.numbers.unturned; fetches = t.numbers.fetches };
      }

  -- the block was cached before
  pub IsCachedBehind-there : IsIn old.cache block.digest → IsCachedBehind old.cache
  IsCachedBehind-there there =
      let moves : Moves w stored p q points points old.anchor old.cache = Moves-same w stored p q (Met-built w stored p b.job b.ticket block) (Leads-built w stored p b.job b.ticket block) points old.anchor old.cache in
      let known : Known (setting w stored) p block.digest = (knows block.digest).1 (inr there) in
      record {
        now = points;
        tables = tables-built points old.cache s.at_anchor (record {
          each = λ k d l. IsCached-moved w stored p q points points old.anchor old.cache moves next (get_or old.cache k d) (entry_at_hand old.anchor old.cache k d l) (s.cache.each k d l);
          in_order = s.cache.in_order;
          knows = known_by_pause old.anchor (λ d. Known (setting w stored) q d) old.pause plain old.cache
              (λ d. (λ k. (knows d).0 (elim (known_before d k) [ inl is ↦ subst (λ (x : Digest). Known (setting w stored) p x) (sym is) known | inr before ↦ before ]), λ a. still_known d ((knows d).1 a)));
        }) moves (λ d at_hand. at_hand);
        known = still_known block.digest known;
        cached = there;
      }

  module _ (batch : U) (u : w.States) (parent_is : w.header.parent block.block ≡ b.parent.digest)
      (step : w.works.meaning.step (points b.parent.digest).1 block.block ≡ Some u)
      (targets : w.kind.target_of u ≡ w.works.meaning.targets block.block) where
    -- the block leads from its parent's states
    pub leads-built : Leads w stored q (points b.parent.digest).1 block u
    leads-built = record { met = inl refl; matches = record { step = step; targets = targets }; earned = inr (inl refl) }

    module _ (shows : w.shows batch ((building.own, u) ∷ points b.parent.digest ∷ building.below)) (new : IsIn old.cache block.digest → ⊥) (later : IsLater old.anchor.round (w.header.round block.block)) where
      not_anchor : block.digest ≢ old.anchor.digest
      not_anchor e = IsLater-self old.anchor.round (subst (λ r. IsLater old.anchor.round r) (round block (inl refl) e) later)

      unknown : IsAtHand old.anchor old.cache block.digest → ⊥
      unknown (inl e) = not_anchor e
      unknown (inr a) = new a

      abbrev top : Point w
      top = (building.own, u)

      abbrev now : Digest → Point w
      now = with_point points block.digest top

      abbrev entry : Cached U
      entry = record { digest = block.digest; parent = w.header.parent block.block; round = w.header.round block.block; batch = batch }

      abbrev more : List (Cached U)
      more = old.cache ++ entry ∷ []

      own : now block.digest ≡ top
      own = with_point-at points block.digest top

      moves : Moves w stored p q points now old.anchor old.cache
      moves = Moves-to w stored p q (Met-built w stored p b.job b.ticket block) (Leads-built w stored p b.job b.ticket block) points next old.anchor old.cache
          (λ x y has_x has_y. names x y (inr (inr has_x)) (inr (inr has_y))) s.cache.each s.cache.in_order block.digest unknown top

      parent_at_hand : IsAtHand old.anchor old.cache (w.header.parent block.block)
      parent_at_hand = subst (λ (d : Digest). IsAtHand old.anchor old.cache d) (sym parent_is) building.at_hand

      parent-Chain : Chain w stored q now old.anchor.digest (w.header.parent block.block) (points b.parent.digest ∷ building.below)
      parent-Chain = subst (λ (d : Digest). Chain w stored q now old.anchor.digest d (points b.parent.digest ∷ building.below)) (sym parent_is) (moves.chain b.parent.digest _ building.at_hand building.chain)

      own-Chain : Chain w stored q now old.anchor.digest block.digest (now block.digest ∷ points b.parent.digest ∷ building.below)
      own-Chain = further refl refl parent-Chain not_anchor (subst (λ (x : Point w). Leads w stored q (points b.parent.digest).1 block x.1) (sym own) leads-built)

      own-IsCached : IsCached w stored q now next old.anchor entry
      own-IsCached = record {
        block = block;
        met = inl refl;
        digest_is = refl;
        parent_is = refl;
        round_is = refl;
        other = not_anchor;
        below = points b.parent.digest ∷ building.below;
        chain = own-Chain;
        drawn = subst (λ (x : Point w). w.kind.issued next (x ∷ points b.parent.digest ∷ building.below)) (sym own) (building.drawn u);
        shows = subst (λ (x : Point w). w.shows batch (x ∷ points b.parent.digest ∷ building.below)) (sym own) shows;
      }

      grows : (d : Digest) → IsAtHand old.anchor old.cache d → IsAtHand old.anchor more d
      grows d (inl e) = inl e
      grows d (inr a) = inr (Any-more (λ (c : Cached U). c.digest ≡ d) old.cache entry a)

      own_in : IsIn more block.digest
      own_in = Any-push (λ (c : Cached U). c.digest ≡ block.digest) old.cache entry refl

      past : IsPastTip (setting w stored) q block
      past = subst (λ (o : Option Anchor). MatchOption o ⊥ (λ tip. IsLater tip.round (w.header.round block.block))) (sym tip) later

      known_own : Known (setting w stored) q block.digest
      known_own = kept (inl refl) refl past (still_known (w.header.parent block.block) ((knows (w.header.parent block.block)).1 parent_at_hand))

      knows_more : (d : Digest) → Known (setting w stored) q d ↔ IsAtHand old.anchor more d
      knows_more d = (
        (λ k. elim (known_before d k) [ inl e ↦ inr (subst (λ (x : Digest). IsIn more x) (sym e) own_in) | inr before ↦ grows d ((knows d).0 before) ]),
        back,
      )
        where
          back : IsAtHand old.anchor more d → Known (setting w stored) q d
          back (inl e) = still_known d ((knows d).1 (inl e))
          back (inr a) = elim (Any-push_cases (λ (c : Cached U). c.digest ≡ d) old.cache entry a) [
            | inl before ↦ still_known d ((knows d).1 (inr before))
            | inr is ↦ subst (λ (x : Digest). Known (setting w stored) q x) is known_own
          ]

      -- the block comes last in the cache
      pub IsCachedBehind-added : IsCachedBehind (old.cache ++ record { digest = block.digest; parent = w.header.parent block.block; round = w.header.round block.block; batch = batch } ∷ [])
      IsCachedBehind-added = record {
        now = now;
        tables = tables-built now more (with_point-other points block.digest top old.anchor.digest (λ e. not_anchor (sym e)) ∙ s.at_anchor) (record {
          each = All-push (IsCached w stored q now next old.anchor) old.cache entry
              (λ k d l. IsCached-moved w stored p q points now old.anchor old.cache moves next (get_or old.cache k d) (entry_at_hand old.anchor old.cache k d l) (s.cache.each k d l))
              own-IsCached;
          in_order = InOrder-push old.anchor.digest old.cache entry s.cache.in_order parent_at_hand;
          knows = known_by_pause old.anchor (λ d. Known (setting w stored) q d) old.pause plain more knows_more;
        }) moves grows;
        known = known_own;
        cached = own_in;
      }
