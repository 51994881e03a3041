-- What stays beside the tables where a pause begins: live runs go on turning, and the parents of queued proposals are known or
-- lost.
use Rattle.std.proofs.Common.{◌≡◌, ◌≤◌, inl, inr, ℕ, List, [], ◌∷◌, map, All, Option, Some, refl}
use Rattle.std.proofs.lemmas.List.Elements.{All-weaker}
use Rattle.stateful_base.specs.Names.{Named}
use Rattle.stateful_base.specs.Anchor.{anchor_by}
use Rattle.stateful_base.specs.Round.{IsLater}
use Rattle.stateful_base.specs.declared.digest.Digest.{Digest}
use Rattle.stateful_history.specs.Met.{Met, TrueNames}
use Rattle.stateful_history.specs.Past.{Past, Made, after}
use Rattle.stateful_history.specs.Setting.{parent_of}
use Rattle.stateful_history.specs.declared.mark.Mark.{Mark}
use Rattle.stateful_history.specs.declared.mark.Mark.TheVariants.{Began, Withdrawn}
use Rattle.stateful_exec_pause.specs.Boundary.{Boundary}
use Rattle.stateful_exec_tables.specs.Pausing.{Pauses}
use Rattle.stateful_exec_model.specs.Workings.{Workings, Point}
use Rattle.stateful_exec_pause.specs.declared.pause.Pause.TheVariants.{Free, Finalizing}
use Rattle.stateful_exec_walk.specs.declared.request.Proposal.{Proposal}
use Rattle.stateful_exec_tables.specs.declared.state.Tables.{Tables}
use Rattle.stateful_exec_tables.specs.declared.tables.LiveRun.{LiveRun}
use Rattle.stateful_exec_laws.specs.Setting.{setting}
use Rattle.stateful_exec_laws.specs.Beside.{StaysBeside}
use Rattle.stateful_exec_laws.specs.Outstanding.{GoesOnTurning}
use Rattle.stateful_exec_laws.specs.Standing.{TablesStand}
use Rattle.stateful_exec_laws.proofs.pauses.Begins.{RunsStand-began}
use Rattle.stateful_exec_laws.proofs.linked.QueueBegan.{QueueReaches-began}
use Rattle.stateful_exec_laws.proofs.linked.QueueLost.{QueueReaches-on}
use Rattle.stateful_exec_laws.proofs.linked.QueueServed.{queue-met}
use Rattle.stateful_exec_laws.proofs.reasons.Ground.{IsGround}
use Rattle.stateful_exec_laws.proofs.runs.Kept.{RunsGoOn-moved}
use Rattle.stateful_exec_laws.proofs.runs.Turned.{GoesOnTurning-same}
use Rattle.stateful_exec_laws.proofs.requests.SamePast.{IsSamePast}

module _ {B C I P R D H G U : Type 0} (w : Workings B C I P R D H G U) (stored : ℕ → Option (Named B)) (base : w.States) where
  same_withdrawn : (p : Past B C I) (f : ℕ) → IsSamePast (setting w stored) p (Made (Withdrawn f) ∷ p)
  same_withdrawn p f = record { met = λ b. (λ h. elim h [ inl none ↦ absurd none | inr one ↦ one ], λ h. inr h); anchor = refl; tip = refl; blocks = refl; pruned = refl }

  names_withdrawn : (p : Past B C I) (f : ℕ) → TrueNames (setting w stored) p → TrueNames (setting w stored) (Made (Withdrawn f) ∷ p)
  names_withdrawn p f names = λ x y has_x has_y. names x y (((same_withdrawn p f).met x).0 has_x) (((same_withdrawn p f).met y).0 has_y)

  -- it stays so where fetches are withdrawn
  beside_withdrawn : (fs : List ℕ) (p : Past B C I) → TrueNames (setting w stored) p → (v : Tables B C I R U) → All (λ e. Met (setting w stored) p e.1.ancestry.first) v.queued → StaysBeside w stored base p v
      → StaysBeside w stored base (after p (map (λ f. Withdrawn f) fs)) v
  beside_withdrawn [] p names v met h = h
  beside_withdrawn (f ∷ fs) p names v met h = beside_withdrawn fs (Made (Withdrawn f) ∷ p) (names_withdrawn p f names) v
      (All-weaker (λ (e : ℕ × Proposal B C I). Met (setting w stored) p e.1.ancestry.first) (λ e. Met (setting w stored) (Made (Withdrawn f) ∷ p) e.1.ancestry.first) (λ e m. inr m) v.queued met)
      (record {
        runs = All-weaker (λ (e : ℕ × LiveRun B R). GoesOnTurning w stored base p e.0 e.1) (λ e. GoesOnTurning w stored base (Made (Withdrawn f) ∷ p) e.0 e.1)
            (λ e on. GoesOnTurning-same w stored base p (Made (Withdrawn f) ∷ p) (same_withdrawn p f) e.0 e.1 refl on) v.runs h.runs;
        queue = QueueReaches-on w stored base p (Made (Withdrawn f)) tt refl (names_withdrawn p f names) v.queued met h.queue;
      })

  -- It stays so after the marks of a pause.
  pub StaysBeside-paused : (o : Option Boundary) (p : Past B C I) → TrueNames (setting w stored) p → (old new : Tables B C I R U) (marks : List (Mark B)) → All (λ e. Met (setting w stored) p e.1.ancestry.first) old.queued → Pauses o old new marks → StaysBeside w stored base p old
      → StaysBeside w stored base (after p marks) new
  StaysBeside-paused o p names old new marks met pauses h =
      let on : StaysBeside w stored base (after p (map (λ f. Withdrawn f) pauses.fetches)) old = beside_withdrawn pauses.fetches p names old met h in
      rw (pauses.state, pauses.marks_are) (record { runs = on.runs; queue = on.queue })

  -- And so it does where the finalization of a child of the anchor begins.
  module _ (p : Past B C I) (points : Digest → Point w) (point : Point w) (next : w.Ids) (old new : Tables B C I R U) (s : TablesStand w stored p points point next old) (g : IsGround w stored base p points point next old.anchor Free old.anchor old.cache)
      (t : ℕ) (b : Named B) (boundary : Boundary) (own : boundary.digest ≡ b.digest) (h : IsGround w stored base (Made (Began t b) ∷ p) points point next (anchor_by w.header b) (Finalizing boundary) old.anchor old.cache)
      (met : Met (setting w stored) p b) (on_anchor : parent_of (setting w stored) b ≡ old.anchor.digest) (later : IsLater old.anchor.round (w.header.round b.block)) (higher : old.anchor.height.0 ≤ w.header.height b.block)
      (marks : List (Mark B)) (pauses : Pauses (Some boundary) old new marks) (beside : StaysBeside w stored base p old) where
    abbrev q : Past B C I
    q = Made (Began t b) ∷ p

    met_queue : All (λ (e : ℕ × Proposal B C I). Met (setting w stored) p e.1.ancestry.first) old.queued
    met_queue = queue-met w stored p old.queued old.recovered s.queue

    began : StaysBeside w stored base q old
    began = record {
      runs = RunsGoOn-moved w stored base p points points point point next next old.anchor (anchor_by w.header b) old.anchor old.anchor Free (Finalizing boundary) old.cache old.cache q g h old.runs (λ k d l. refl) s.runs.each
          (RunsStand-began w stored p t b points next old.anchor old.cache old.runs s.runs).each (λ d x y. refl) beside.runs;
      queue = QueueReaches-began w stored base p points point next old.anchor old.cache g t b boundary own h met on_anchor later higher old.queued met_queue beside.queue;
    }

    pub StaysBeside-finalizing : StaysBeside w stored base (after p (Began t b ∷ marks)) new
    StaysBeside-finalizing = StaysBeside-paused (Some boundary) q h.names old new marks
        (All-weaker (λ (e : ℕ × Proposal B C I). Met (setting w stored) p e.1.ancestry.first) (λ e. Met (setting w stored) q e.1.ancestry.first) (λ e m. inr m) old.queued met_queue) pauses began
