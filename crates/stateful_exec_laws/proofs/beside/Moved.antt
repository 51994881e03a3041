-- What stays beside the tables after a turn that isn't the last, and after the anchor's move: live runs go on turning, and the
-- parents of queued proposals are known or lost.
use Rattle.std.proofs.Common.{◌≡◌, inl, inr, ℕ, List, ◌∷◌, Option, Some, Ok, refl, sym, subst}
use Rattle.stateful_base.specs.Names.{Named}
use Rattle.stateful_base.specs.declared.anchor.Anchor.{Anchor}
use Rattle.stateful_base.specs.declared.digest.Digest.{Digest}
use Rattle.stateful_base.specs.declared.outcome.Moved.TheVariants.{Pending}
use Rattle.stateful_history.specs.Met.{TrueNames}
use Rattle.stateful_history.specs.Past.{Past, Came, Made}
use Rattle.stateful_history.specs.declared.event.Event.TheVariants.{Turn}
use Rattle.stateful_history.specs.declared.mark.Mark.TheVariants.{Applied}
use Rattle.stateful_exec_cache.specs.Cache.{IsAtHand}
use Rattle.stateful_exec_model.specs.Ending.{TurnsRun}
use Rattle.stateful_exec_model.specs.Workings.{Workings, Point}
use Rattle.stateful_exec_walk.specs.declared.request.Proposal.{Proposal}
use Rattle.stateful_exec_tables.specs.declared.state.Tables.{Tables}
use Rattle.stateful_exec_tables.specs.declared.tables.LiveRun.{LiveRun}
use Rattle.stateful_exec_laws.specs.Setting.{setting}
use Rattle.stateful_exec_laws.specs.Beside.{StaysBeside}
use Rattle.stateful_exec_laws.specs.Outstanding.{RunsGoOn}
use Rattle.stateful_exec_laws.specs.Reaching.{QueueReaches}
use Rattle.stateful_exec_laws.specs.Running.{RunsStand}
use Rattle.stateful_exec_laws.specs.Standing.{TablesStand}
use Rattle.stateful_exec_laws.proofs.linked.QueueLost.{QueueReaches-on}
use Rattle.stateful_exec_laws.proofs.linked.QueueServed.{queue-met}
use Rattle.stateful_exec_laws.proofs.reasons.Ground.{IsGround}
use Rattle.stateful_exec_laws.proofs.runs.Kept.{RunsGoOn-moved}
use Rattle.stateful_exec_laws.proofs.runs.Turned.{RunsGoOn-turned}

module _ {B C I P R D H G U : Type 0} (w : Workings B C I P R D H G U) (stored : ℕ → Option (Named B)) (base : w.States) (p : Past B C I) (points : Digest → Point w) (point : Point w) (tip : Anchor) (next : w.Ids) (old new : Tables B C I R U)
    (s : TablesStand w stored p points point next old) (g : IsGround w stored base p points point next tip old.pause old.anchor old.cache) (beside : StaysBeside w stored base p old) where
  -- it stays so after a turn of a run that isn't the last
  pub StaysBeside-turned : (m : w.kind.Members) → w.kind.point m ≡ Some point → (j : ℕ) (count : R → ℕ) → TurnsRun w count m j old new (Ok Pending) → StaysBeside w stored base (Came (Turn j) ∷ p) new
  StaysBeside-turned m located j count turn = record {
    runs = RunsGoOn-turned w stored base p points point tip next old new s g m located j count turn beside.runs;
    queue = subst (λ (v : Tables B C I R U). QueueReaches w stored base (Came (Turn j) ∷ p) v.queued) (sym turn.state)
        (QueueReaches-on w stored base p (Came (Turn j)) tt refl names old.queued (queue-met w stored p old.queued old.recovered s.queue) beside.queue);
  }
    where
      names : TrueNames (setting w stored) (Came (Turn j) ∷ p)
      names = λ x y has_x has_y. g.names x y (elim has_x [ inl none ↦ absurd none | inr one ↦ one ]) (elim has_y [ inl none ↦ absurd none | inr one ↦ one ])

  -- It stays so after the anchor's move, where blocks at hand before and behind it have the same states.
  pub StaysBeside-moved : (b : Named B) (now_points : Digest → Point w) (now_point : Point w) (ids : w.Ids) → TablesStand w stored (Made (Applied b) ∷ p) now_points now_point ids new → IsGround w stored base (Made (Applied b) ∷ p) now_points now_point ids tip new.pause new.anchor new.cache
      → new.runs ≡ old.runs → new.queued ≡ old.queued → ((d : Digest) → IsAtHand old.anchor old.cache d → IsAtHand new.anchor new.cache d → (now_points d).1 ≡ (points d).1) → StaysBeside w stored base (Made (Applied b) ∷ p) new
  StaysBeside-moved b now_points now_point ids stands h same_runs same_queue states = record {
    runs = subst (λ (rs : List (ℕ × LiveRun B R)). RunsGoOn w stored base (Made (Applied b) ∷ p) rs) (sym same_runs)
        (RunsGoOn-moved w stored base p points now_points point now_point next ids tip tip old.anchor new.anchor old.pause new.pause old.cache new.cache (Made (Applied b) ∷ p) g h old.runs (λ k d l. refl) s.runs.each
        (subst (λ (rs : List (ℕ × LiveRun B R)). RunsStand w stored (Made (Applied b) ∷ p) now_points ids new.anchor new.cache rs) same_runs stands.runs).each states beside.runs);
    queue = subst (λ (es : List (ℕ × Proposal B C I)). QueueReaches w stored base (Made (Applied b) ∷ p) es) (sym same_queue)
        (QueueReaches-on w stored base p (Made (Applied b)) tt refl h.names old.queued (queue-met w stored p old.queued old.recovered s.queue) beside.queue);
  }
