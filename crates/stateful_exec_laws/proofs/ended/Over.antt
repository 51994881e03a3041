-- The tables stand after the end of a run as it is told, while a finalization goes on.
use Rattle.std.proofs.Common.{◌≡◌, ◌≢◌, ◌⊎◌, ◌↔◌, ◌++◌, inl, inr, ℕ, true, List, [], ◌∷◌, Contains, Option, Some, None, MatchOption, refl, sym, ap, ◌∙◌, subst}
use Rattle.std.proofs.lemmas.List.Elements.{All-push}
use Rattle.std.proofs.lemmas.List.Quantifiers.{Any-push}
use Rattle.stateful_base.specs.Names.{Named}
use Rattle.stateful_base.specs.Round.{IsLater}
use Rattle.stateful_base.specs.declared.anchor.Anchor.{Anchor}
use Rattle.stateful_base.specs.declared.digest.Digest.{Digest}
use Rattle.stateful_base.specs.declared.round.Round.{Round}
use Rattle.stateful_base.specs.declared.outcome.Moved.TheVariants.{Done}
use Rattle.stateful_history.specs.Anchors.{tip_of}
use Rattle.stateful_history.specs.Past.{Past, Came, Made}
use Rattle.stateful_history.specs.Known.{Known, is_tip, kept, stays, IsPastTip}
use Rattle.stateful_history.specs.Met.{Met, TrueNames}
use Rattle.stateful_history.specs.declared.event.Event.TheVariants.{Turn}
use Rattle.stateful_history.specs.declared.mark.How.{How}
use Rattle.stateful_history.specs.declared.mark.How.TheVariants.{Kept, Rejected, Mismatched, Missed}
use Rattle.stateful_history.specs.declared.mark.Mark.TheVariants.{Ended}
use Rattle.stateful_exec_cache.specs.Cache.{IsIn, IsAtHand}
use Rattle.stateful_exec_cache.specs.declared.cache.Cached.{Cached}
use Rattle.stateful_table.specs.Table.{at}
use Rattle.stateful_exec_pause.specs.Boundary.{Boundary, step_by, IsRetained, Completes}
use Rattle.stateful_exec_tables.specs.Keeping.{step_in, there, added, missed}
use Rattle.stateful_exec_pause.specs.Fates.{Crosses}
use Rattle.stateful_exec_model.specs.Ending.{Turns, IsTold, rejected, mismatched, agreed}
use Rattle.stateful_exec_model.specs.Workings.{Workings, Point}
use Rattle.stateful_exec_pause.specs.declared.boundary.ExecutionStep.{ExecutionStep}
use Rattle.stateful_exec_pause.specs.declared.pause.Pause.{Pause}
use Rattle.stateful_exec_pause.specs.declared.pause.Pause.TheVariants.{Free, Finalizing, Pruning}
use Rattle.stateful_exec_tables.specs.declared.state.Tables.{Tables}
use Rattle.stateful_exec_tables.specs.declared.tables.LiveRun.{LiveRun}
use Rattle.stateful_exec_laws.specs.Setting.{setting}
use Rattle.stateful_exec_laws.specs.Caching.{IsKnownBy}
use Rattle.stateful_exec_laws.specs.Running.{IsRunning}
use Rattle.stateful_exec_laws.specs.Standing.{TablesStand}
use Rattle.stateful_exec_laws.proofs.requests.Calm.{Known-before}
use Rattle.stateful_exec_laws.proofs.ended.Known.{outcome-some, ends-some, turn-IsCalm, Known-turned, Known-turned_before}
use Rattle.stateful_exec_laws.proofs.ended.Points.{same_or_not}
use Rattle.stateful_exec_laws.proofs.ended.Stands.{IsLeftBy, running, started-own, IsLeftBy-gone, IsLeftBy-there, IsLeftBy-known, IsLeftBy-pause}
use Rattle.stateful_exec_laws.proofs.ended.Kept.{IsRoundOf, Any-more, Any-push_cases, Known-own, IsLeftBy-added}
use Rattle.stateful_exec_laws.proofs.ended.Told.{turned-at, cached_step}
use Rattle.stateful_exec_laws.proofs.ended.Finalizing.{Finalizes, own_compatible, crossed_known, closed_crossed, Finalizes-crossed, Finalizes-same}

module _ {B C I P R D H G U : Type 0} (w : Workings B C I P R D H G U) (stored : ℕ → Option (Named B)) (p : Past B C I) (point : Point w) (next : w.Ids) (old : Tables B C I R U) (j : ℕ) (live : LiveRun B R) where
  -- what stands after the end of a run, and the finalization goes on
  pub record IsLeftOver (points : Digest → Point w) (how : How) (cache : List (Cached U)) (pause : Pause) : Type 0 where
    pub boundary : Boundary
    pub pause_is : pause ≡ Finalizing boundary
    pub leaves : IsLeftBy w stored p point next old j live how points cache pause
    pub goes_on : Finalizes w stored (Made (Ended j how) ∷ Came (Turn j) ∷ p) old.anchor cache boundary

  met_before : (how : How) (b : Named B) → Met (setting w stored) (Made (Ended j how) ∷ Came (Turn j) ∷ p) b → Met (setting w stored) p b
  met_before how b m = elim m [ inl never ↦ absurd never | inr (inl never) ↦ absurd never | inr (inr before) ↦ before ]

module _ {B C I P R D H G U : Type 0} (w : Workings B C I P R D H G U) (stored : ℕ → Option (Named B)) (p : Past B C I) (points : Digest → Point w) (point : Point w) (next : w.Ids) (old : Tables B C I R U) (s : TablesStand w stored p points point next old)
    (names : TrueNames (setting w stored) p) (round : IsRoundOf w stored p old.anchor) (j : ℕ) (live : LiveRun B R) (live_is : at old.runs j ≡ Some live)
    (boundary : Boundary) (f : Finalizes w stored p old.anchor old.cache boundary) (paused : old.pause ≡ Finalizing boundary) where
  abbrev run : IsRunning w stored p points next old.anchor old.cache j live
  run = running w stored p points point next old s j live live_is

  abbrev own_step : ExecutionStep
  own_step = step_by w.header live.block

  knows : (d : Digest) → Known (setting w stored) p d ↔ IsKnownBy (Finalizing boundary) old.anchor old.cache d
  knows = subst (λ pause. (d : Digest) → Known (setting w stored) p d ↔ IsKnownBy pause old.anchor old.cache d) paused s.cache.knows

  abbrev q : How → Past B C I
  q how = Made (Ended j how) ∷ Came (Turn j) ∷ p

  -- the finalization goes on over the run's block, or not
  left_over : (how : How) → IsLeftBy w stored p point next old j live how points old.cache old.pause → (pause : Pause)
      → Crosses w.header live.block (Finalizing boundary) pause → IsLeftOver w stored p point next old j live points how old.cache pause
  left_over how leaves Free crosses = absurd crosses
  left_over how leaves Pruning crosses = absurd crosses
  left_over how leaves (Finalizing new) (inl over) = record {
    boundary = new;
    pause_is = refl;
    leaves = IsLeftBy-pause w stored p points point next old s j live live_is how old.cache (Finalizing boundary) (Finalizing new)
        (crossed_known w stored p points point next old s names round j live live_is boundary f new over.0 over.1)
        (subst (λ x. IsLeftBy w stored p point next old j live how points old.cache x) paused leaves);
    goes_on = Finalizes-crossed w stored p points point next old s names round j live live_is boundary f new over.0 over.1 how old.cache
        (closed_crossed w stored p points point next old s names round j live live_is boundary f new over.0 over.1);
  }
  left_over how leaves (Finalizing new) (inr same) = record {
    boundary = boundary;
    pause_is = ap (λ b. Finalizing b) same.1;
    leaves = subst (λ x. IsLeftBy w stored p point next old j live how points old.cache x) (paused ∙ ap (λ b. Finalizing b) (sym same.1)) leaves;
    goes_on = Finalizes-same w stored p points point next old s names round j live live_is boundary f how old.cache f.closed;
  }

  module _ (off : IsRetained boundary own_step → ⊥) where
    tip_is : (tip : Anchor) → tip_of w.header p ≡ Some tip → tip.digest ≡ boundary.digest
    tip_is tip e = (subst (λ o. MatchOption o ⊥ (λ (t : Anchor). (t.digest ≡ boundary.digest) × (t.round ≡ boundary.round))) e f.tip).0

    past_round : (b : Named B) (o : Option Anchor) → MatchOption o ⊥ (λ t. (t.digest ≡ boundary.digest) × (t.round ≡ boundary.round)) → MatchOption o ⊥ (λ tip. IsLater tip.round (w.header.round b.block)) → IsLater boundary.round (w.header.round b.block)
    past_round b (Some t) h l = subst (λ (x : Round). IsLater x (w.header.round b.block)) h.1 l
    past_round b None h l = absurd h

    compatible_by : (d : Digest) → IsKnownBy (Finalizing boundary) old.anchor old.cache d → Contains boundary.compatible d
    compatible_by d (inl e) = subst (λ (x : Digest). Contains boundary.compatible x) (sym e) f.own
    compatible_by d (inr a) = a.1

    kept_off : (b : Named B) → Met (setting w stored) p b → b.digest ≡ live.block.digest → IsLater boundary.round (w.header.round b.block) → Contains boundary.compatible (w.header.parent b.block)
        → (b.digest ≡ boundary.digest) ⊎ (b.digest ≢ boundary.digest) → IsKnownBy (Finalizing boundary) old.anchor old.cache b.digest
    kept_off b met own later parent (inl e) = inl e
    kept_off b met own later parent (inr ne) =
        let same : b ≡ live.block = names b live.block met run.met own in
        absurd (off (subst (λ (x : Named B). IsRetained boundary (step_by w.header x)) same (record { other = ne; later = later; parent = parent })))

    -- where the finalization doesn't go on over the run's block, no other one becomes known
    known_off : {d : Digest} → Known (setting w stored) (q Kept) d → IsKnownBy (Finalizing boundary) old.anchor old.cache d
    known_off (is_tip {tip = tip} e) = inl (tip_is tip e)
    known_off (kept {b = b} m k l parent) =
        let own : Some b.digest ≡ Some live.block.digest = sym k ∙ started-own w stored p points point next old s j live live_is in
        let own_digest : b.digest ≡ live.block.digest = search in
        kept_off b (met_before w stored p point next old j live Kept b m) own_digest (past_round b (tip_of w.header p) f.tip l) (compatible_by _ (known_off parent)) (same_or_not b.digest boundary.digest)
    known_off (stays o m k before l parent) = (knows _).0 (Known-before (setting w stored) k (turn-IsCalm (setting w stored) p j))

  -- after the end of a run that is kept, of a block that was cached
  IsLeftOver-there : IsIn old.cache live.block.digest → (pause : Pause) → Crosses w.header live.block (Finalizing boundary) pause → IsLeftOver w stored p point next old j live points Kept old.cache pause
  IsLeftOver-there a Free crosses = absurd crosses
  IsLeftOver-there a Pruning crosses = absurd crosses
  IsLeftOver-there a (Finalizing new) (inl over) =
      let known = (knows live.block.digest).1 (inr (a, own_compatible w stored p points point next old s names round j live live_is boundary f over.0 (inr a))) in
      left_over Kept (IsLeftBy-known w stored p points point next old s j live live_is known) (Finalizing new) (inl over)
  IsLeftOver-there a (Finalizing new) (inr same) =
      left_over Kept (IsLeftBy-there w stored p points point next old s j live live_is (λ d k. subst (λ x. IsKnownBy x old.anchor old.cache d) (sym paused) (known_off same.0 k))) (Finalizing new) (inr same)

  module _ (batch : U) (u : w.States)
      (accepted : w.works.meaning.accept (points run.parent.digest).1 live.block.block ≡ true)
      (step : w.works.meaning.step (points run.parent.digest).1 live.block.block ≡ Some u)
      (targets : w.kind.target_of u ≡ w.works.meaning.targets live.block.block)
      (shows : w.shows batch ((run.own, u) ∷ points run.parent.digest ∷ run.below))
      (fresh : IsIn old.cache live.block.digest → ⊥) (later : IsLater old.anchor.round (w.header.round live.block.block)) where
    abbrev entry : Cached U
    entry = record { digest = live.block.digest; parent = w.header.parent live.block.block; round = w.header.round live.block.block; batch = batch }

    abbrev more : List (Cached U)
    more = old.cache ++ entry ∷ []

    own_in : IsIn more live.block.digest
    own_in = Any-push (λ (c : Cached U). c.digest ≡ live.block.digest) old.cache entry refl

    in_more : (d : Digest) → IsIn old.cache d → IsIn more d
    in_more d a = Any-more (λ (c : Cached U). c.digest ≡ d) old.cache entry a

    module _ (new : Boundary) (r : IsRetained boundary own_step) (c : Completes live.block.digest boundary new) where
      past : IsPastTip (setting w stored) p live.block
      past = go (tip_of w.header p) f.tip
        where
          go : (o : Option Anchor) → MatchOption o ⊥ (λ t. (t.digest ≡ boundary.digest) × (t.round ≡ boundary.round)) → MatchOption o ⊥ (λ tip. IsLater tip.round (w.header.round live.block.block))
          go (Some t) h = subst (λ (x : Round). IsLater x (w.header.round live.block.block)) (sym h.1) r.later
          go None h = absurd h

      -- a compatible block that is at hand is known
      parent_known : (d : Digest) → Contains boundary.compatible d → IsAtHand old.anchor old.cache d → Known (setting w stored) p d
      parent_known d has (inr a) = (knows d).1 (inr (a, has))
      parent_known d has (inl e) = absurd (f.other (subst (λ (x : Digest). Contains boundary.compatible x) e has))

      known_own : Known (setting w stored) (q Kept) live.block.digest
      known_own =
          Known-own w stored p points point next old s names round j live live_is batch u accepted step targets shows fresh later past
          (parent_known run.parent.digest (subst (λ (d : Digest). Contains boundary.compatible d) (sym run.parent_is) r.parent) run.at_hand)

      knows_over : (d : Digest) → Known (setting w stored) (q Kept) d ↔ IsKnownBy (Finalizing new) old.anchor more d
      knows_over d = (to, from)
        where
          to : Known (setting w stored) (q Kept) d → IsKnownBy (Finalizing new) old.anchor more d
          to k = elim (Known-turned_before (setting w stored) p d live.block.digest j (started-own w stored p points point next old s j live live_is) k) [
            | inl e ↦ inr (subst (λ (x : Digest). IsIn more x) (sym e) own_in, (c.more d).1 (inl e))
            | inr before ↦ elim ((knows d).0 before) [ inl e ↦ inl (e ∙ sym c.of) | inr a ↦ inr (in_more d a.0, (c.more d).1 (inr a.1)) ]
          ]

          from : IsKnownBy (Finalizing new) old.anchor more d → Known (setting w stored) (q Kept) d
          from (inl e) = Known-turned (setting w stored) p d j Kept ((knows d).1 (inl (e ∙ c.of)))
          from (inr a) = elim (Any-push_cases (λ (x : Cached U). x.digest ≡ d) old.cache entry a.0) [
            | inr is ↦ subst (λ (x : Digest). Known (setting w stored) (q Kept) x) is known_own
            | inl before ↦ elim ((c.more d).0 a.1) [
              | inl e ↦ subst (λ (x : Digest). Known (setting w stored) (q Kept) x) (sym e) known_own
              | inr has ↦ Known-turned (setting w stored) p d j Kept ((knows d).1 (inr (before, has)))
            ]
          ]

      added_over : IsLeftOver w stored p point next old j live points Kept more (Finalizing new)
      added_over = record {
        boundary = new;
        pause_is = refl;
        leaves = IsLeftBy-added w stored p points point next old s names round j live live_is batch u accepted step targets shows fresh later (Finalizing new) knows_over;
        goes_on = Finalizes-crossed w stored p points point next old s names round j live live_is boundary f new r c Kept more
            (All-push (λ (e : Cached U). IsRetained new (step_in e) → Contains new.compatible e.digest) old.cache entry
            (closed_crossed w stored p points point next old s names round j live live_is boundary f new r c) (λ on. (c.more live.block.digest).1 (inl refl)));
      }

    module _ (off : IsRetained boundary own_step → ⊥) where
      knows_off : (d : Digest) → Known (setting w stored) (q Kept) d ↔ IsKnownBy (Finalizing boundary) old.anchor more d
      knows_off d = (to, from)
        where
          to : Known (setting w stored) (q Kept) d → IsKnownBy (Finalizing boundary) old.anchor more d
          to k = elim (known_off off k) [ inl e ↦ inl e | inr a ↦ inr (in_more d a.0, a.1) ]

          own_off : Contains boundary.compatible live.block.digest → live.block.digest ≡ boundary.digest
          own_off has = elim (f.each live.block.digest has) [
            | inl e ↦ e
            | inr over ↦ absurd (off (subst (λ (x : Named B). IsRetained boundary (step_by w.header x)) (names over.block live.block over.met run.met over.is) over.retained))
          ]

          from : IsKnownBy (Finalizing boundary) old.anchor more d → Known (setting w stored) (q Kept) d
          from (inl e) = Known-turned (setting w stored) p d j Kept ((knows d).1 (inl e))
          from (inr a) = elim (Any-push_cases (λ (x : Cached U). x.digest ≡ d) old.cache entry a.0) [
            | inl before ↦ Known-turned (setting w stored) p d j Kept ((knows d).1 (inr (before, a.1)))
            | inr is ↦ Known-turned (setting w stored) p d j Kept ((knows d).1 (inl (sym is ∙ own_off (subst (λ (x : Digest). Contains boundary.compatible x) (sym is) a.1))))
          ]

      added_off : IsLeftOver w stored p point next old j live points Kept more (Finalizing boundary)
      added_off = record {
        boundary = boundary;
        pause_is = refl;
        leaves = IsLeftBy-added w stored p points point next old s names round j live live_is batch u accepted step targets shows fresh later (Finalizing boundary) knows_off;
        goes_on = Finalizes-same w stored p points point next old s names round j live live_is boundary f Kept more
            (All-push (λ (e : Cached U). IsRetained boundary (step_in e) → Contains boundary.compatible e.digest) old.cache entry f.closed (λ on. absurd (off on)));
      }

    -- after the end of a run that is kept, whose block is added to the cache
    IsLeftOver-added : (pause : Pause) → Crosses w.header live.block (Finalizing boundary) pause → IsLeftOver w stored p point next old j live points Kept more pause
    IsLeftOver-added Free crosses = absurd crosses
    IsLeftOver-added Pruning crosses = absurd crosses
    IsLeftOver-added (Finalizing new) (inl over) = added_over new over.0 over.1
    IsLeftOver-added (Finalizing new) (inr same) = subst (λ b. IsLeftOver w stored p point next old j live points Kept more (Finalizing b)) (sym same.1) (added_off same.0)

  -- after the end of a run, however it is told, while a finalization goes on
  pub IsLeftOver-told : (m : w.kind.Members) → w.kind.point m ≡ Some point → (turned : R) {o : Option U} {how : How} (cache : List (Cached U)) (pause : Pause) → Turns w m live.run turned (Done o)
      → IsTold w old.anchor live.block old.cache cache o how → Crosses w.header live.block (Finalizing boundary) pause → IsLeftOver w stored p point next old j live points how cache pause
  IsLeftOver-told m here turned cache pause t (rejected is) crosses = rw is (left_over Rejected (IsLeftBy-gone w stored p points point next old s j live live_is Rejected refl) pause crosses)
  IsLeftOver-told m here turned cache pause t (mismatched differs is) crosses = rw is (left_over Mismatched (IsLeftBy-gone w stored p points point next old s j live live_is Mismatched refl) pause crosses)
  IsLeftOver-told m here turned cache pause t (agreed agrees (missed new away is)) crosses = rw is (left_over Missed (IsLeftBy-gone w stored p points point next old s j live live_is Missed refl) pause crosses)
  IsLeftOver-told m here turned cache pause t (agreed agrees (there a is)) crosses =
      rw is (IsLeftOver-there (cached_step w stored p points point next old s j live live_is m here turned a) pause crosses)
  IsLeftOver-told m here turned cache pause t (agreed {batch = batch} agrees (added new later at_hand is)) crosses =
      let e = ends-some batch _ _ _ (turned-at w stored p points point next old s j live live_is m here turned (Some batch) t) in
      let leads = outcome-some w.works.meaning (points run.parent.digest).1 live.block.block e.0 e.1 in
      let targets = agrees (run.own, e.0) (points run.parent.digest ∷ run.below) e.2 in
      rw is (IsLeftOver-added batch e.0 leads.0 leads.1 targets e.2 new later pause crosses)
