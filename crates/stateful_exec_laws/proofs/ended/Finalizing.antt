-- The tables stand after the end of a run while a finalization goes on.
use Rattle.std.proofs.Common.{◌≡◌, ◌↔◌, ◌<◌, length, inl, inr, ℕ, List, ◌∷◌, All, Contains, Option, Some, None, MatchOption, get_or, sym, ap, ◌∙◌, subst}
use Rattle.std.proofs.lemmas.List.Elements.{Contains-get_or}
use Rattle.stateful_base.specs.Names.{Named}
use Rattle.stateful_base.specs.Round.{IsLater}
use Rattle.stateful_base.specs.declared.anchor.Anchor.{Anchor}
use Rattle.stateful_base.specs.declared.digest.Digest.{Digest}
use Rattle.stateful_base.specs.declared.round.Round.{Round}
use Rattle.stateful_history.specs.Anchors.{tip_of}
use Rattle.stateful_history.specs.Past.{Past, Came, Made}
use Rattle.stateful_history.specs.Met.{TrueNames}
use Rattle.stateful_history.specs.declared.event.Event.TheVariants.{Turn}
use Rattle.stateful_history.specs.declared.mark.How.{How}
use Rattle.stateful_history.specs.declared.mark.Mark.TheVariants.{Ended}
use Rattle.stateful_exec_cache.specs.Cache.{IsIn, IsAtHand}
use Rattle.stateful_exec_cache.specs.declared.cache.Cached.{Cached}
use Rattle.stateful_table.specs.Table.{at}
use Rattle.stateful_exec_pause.specs.Boundary.{Boundary, step_by, IsRetained, Completes}
use Rattle.stateful_exec_tables.specs.Keeping.{step_in}
use Rattle.stateful_exec_model.specs.Workings.{Workings, Point}
use Rattle.stateful_exec_pause.specs.declared.boundary.ExecutionStep.{ExecutionStep}
use Rattle.stateful_exec_pause.specs.declared.pause.Pause.TheVariants.{Finalizing}
use Rattle.stateful_exec_tables.specs.declared.state.Tables.{Tables}
use Rattle.stateful_exec_tables.specs.declared.tables.LiveRun.{LiveRun}
use Rattle.stateful_exec_laws.specs.Setting.{setting}
use Rattle.stateful_exec_laws.specs.Caching.{IsKnownBy, IsCached}
use Rattle.stateful_exec_laws.specs.Running.{IsRunning}
use Rattle.stateful_exec_laws.specs.Standing.{TablesStand}
use Rattle.stateful_exec_laws.proofs.ended.Points.{parent_at_hand}
use Rattle.stateful_exec_laws.proofs.ended.Stands.{running}
use Rattle.stateful_exec_laws.proofs.ended.Kept.{IsRoundOf}
pub use Rattle.stateful_exec_laws.specs.Crossing.{IsOver, Finalizes}

pub IsRetained-crossed : (old new : Boundary) (digest : Digest) (step : ExecutionStep) → Completes digest old new → IsRetained old step → IsRetained new step
IsRetained-crossed old new digest step c r = record {
  other = λ e. r.other (e ∙ c.of);
  later = subst (λ (x : Round). IsLater x step.round) (sym c.round) r.later;
  parent = (c.more step.parent).1 (inr r.parent);
}

module _ {B C I P R D H G U : Type 0} (w : Workings B C I P R D H G U) (stored : ℕ → Option (Named B)) (p : Past B C I) (points : Digest → Point w) (point : Point w) (next : w.Ids) (old : Tables B C I R U) (s : TablesStand w stored p points point next old)
    (names : TrueNames (setting w stored) p) (round : IsRoundOf w stored p old.anchor) (j : ℕ) (live : LiveRun B R) (live_is : at old.runs j ≡ Some live)
    (boundary : Boundary) (f : Finalizes w stored p old.anchor old.cache boundary) where
  abbrev run : IsRunning w stored p points next old.anchor old.cache j live
  run = running w stored p points point next old s j live live_is

  abbrev own_step : ExecutionStep
  own_step = step_by w.header live.block

  -- an entry of the run's block is of its step
  same_step : (y : Cached U) → IsCached w stored p points next old.anchor y → y.digest ≡ live.block.digest → IsRetained boundary own_step → IsRetained boundary (step_in y)
  same_step y h is r =
      let same : h.block ≡ live.block = names h.block live.block h.met run.met (h.digest_is ∙ is) in
      record {
        other = λ e. r.other (sym is ∙ e);
        later = subst (λ (x : Round). IsLater boundary.round x) (sym (ap (λ (b : Named B). w.header.round b.block) same) ∙ h.round_is) r.later;
        parent = subst (λ (x : Digest). Contains boundary.compatible x) (sym (ap (λ (b : Named B). w.header.parent b.block) same) ∙ h.parent_is) r.parent;
      }

  -- where the run's block is at hand and goes on, it is compatible
  pub own_compatible : IsRetained boundary own_step → IsAtHand old.anchor old.cache live.block.digest → Contains boundary.compatible live.block.digest
  own_compatible r (inl e) = absurd (run.other e)
  own_compatible r (inr (k, y, l, at, is)) =
      let h : IsCached w stored p points next old.anchor y = subst (λ (x : Cached U). IsCached w stored p points next old.anchor x) at (s.cache.each k y l) in
      let closed : IsRetained boundary (step_in y) → Contains boundary.compatible y.digest = subst (λ (x : Cached U). IsRetained boundary (step_in x) → Contains boundary.compatible x.digest) at (f.closed k y l) in
      subst (λ (d : Digest). Contains boundary.compatible d) is (closed (same_step y h is r))

  module _ (new : Boundary) (r : IsRetained boundary own_step) (c : Completes live.block.digest boundary new) where
    -- a run that ends over the finalization makes no block known that was cached
    pub crossed_known : (d : Digest) → IsKnownBy (Finalizing boundary) old.anchor old.cache d ↔ IsKnownBy (Finalizing new) old.anchor old.cache d
    crossed_known d = (to, from)
      where
        to : IsKnownBy (Finalizing boundary) old.anchor old.cache d → IsKnownBy (Finalizing new) old.anchor old.cache d
        to (inl e) = inl (e ∙ sym c.of)
        to (inr a) = inr (a.0, (c.more d).1 (inr a.1))

        from : IsKnownBy (Finalizing new) old.anchor old.cache d → IsKnownBy (Finalizing boundary) old.anchor old.cache d
        from (inl e) = inl (e ∙ c.of)
        from (inr a) = elim ((c.more d).0 a.1) [
          | inl e ↦ inr (a.0, subst (λ (x : Digest). Contains boundary.compatible x) (sym e) (own_compatible r (inr (subst (λ (x : Digest). IsIn old.cache x) e a.0))))
          | inr before ↦ inr (a.0, before)
        ]

    pub closed_crossed : All (λ e. IsRetained new (step_in e) → Contains new.compatible e.digest) old.cache
    closed_crossed k d l kept_on =
        let e = get_or old.cache k d in
        let there = entry_place k d l in
        let parent : Contains boundary.compatible e.parent = elim ((c.more e.parent).0 kept_on.parent) [
          | inl own ↦ subst (λ (x : Digest). Contains boundary.compatible x) (sym own) (own_compatible r (subst (λ (x : Digest). IsAtHand old.anchor old.cache x) own (parent_at_hand old.anchor.digest old.cache s.cache.in_order there.0 e there.1 there.2)))
          | inr before ↦ before
        ] in
        (c.more e.digest).1 (inr (f.closed k d l (record {
          other = λ same. kept_on.other (same ∙ sym c.of);
          later = subst (λ (x : Round). IsLater x e.round) c.round kept_on.later;
          parent = parent;
        })))
      where
        entry_place : (k : ℕ) (d : Cached U) → k < length old.cache → Contains old.cache (get_or old.cache k d)
        entry_place k d l = Contains-get_or old.cache k d l

    tip_crossed : (o : Option Anchor) → MatchOption o ⊥ (λ t. (t.digest ≡ boundary.digest) × (t.round ≡ boundary.round)) → MatchOption o ⊥ (λ t. (t.digest ≡ new.digest) × (t.round ≡ new.round))
    tip_crossed (Some t) h = (h.0 ∙ sym c.of, h.1 ∙ sym c.round)
    tip_crossed None h = absurd h

    -- the finalization goes on after the end of a run over it
    pub Finalizes-crossed : (how : How) (cache : List (Cached U)) → All (λ e. IsRetained new (step_in e) → Contains new.compatible e.digest) cache → Finalizes w stored (Made (Ended j how) ∷ Came (Turn j) ∷ p) old.anchor cache new
    Finalizes-crossed how cache closed = record {
      tip = tip_crossed (tip_of w.header p) f.tip;
      other = λ has. elim ((c.more old.anchor.digest).0 has) [ inl own ↦ run.other (sym own) | inr before ↦ f.other before ];
      own = (c.more new.digest).1 (inr (subst (λ (x : Digest). Contains boundary.compatible x) (sym c.of) f.own));
      each = λ d has. elim ((c.more d).0 has) [
        | inl own ↦ inr (record { block = live.block; met = inr (inr run.met); is = sym own; retained = IsRetained-crossed boundary new live.block.digest own_step c r })
        | inr before ↦ elim (f.each d before) [
          | inl e ↦ inl (e ∙ sym c.of)
          | inr over ↦ inr (record { block = over.block; met = inr (inr over.met); is = over.is; retained = IsRetained-crossed boundary new live.block.digest (step_by w.header over.block) c over.retained })
        ]
      ];
      closed = closed;
    }

  -- the finalization goes on after the end of another run
  pub Finalizes-same : (how : How) (cache : List (Cached U)) → All (λ e. IsRetained boundary (step_in e) → Contains boundary.compatible e.digest) cache → Finalizes w stored (Made (Ended j how) ∷ Came (Turn j) ∷ p) old.anchor cache boundary
  Finalizes-same how cache closed = record {
    tip = f.tip;
    other = f.other;
    own = f.own;
    each = λ d has. elim (f.each d has) [ inl e ↦ inl e | inr over ↦ inr (record { block = over.block; met = inr (inr over.met); is = over.is; retained = over.retained }) ];
    closed = closed;
  }
