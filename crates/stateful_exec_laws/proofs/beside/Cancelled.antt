-- What stays beside the tables after a cancel: live runs go on turning, and the parents of queued proposals are known or lost.
use Rattle.std.proofs.Common.{◌⊎◌, inl, inr, ℕ, List, ◌∷◌, All, Option, get_or, refl}
use Rattle.std.proofs.lemmas.List.Elements.{All-weaker}
use Rattle.stateful_base.specs.Names.{Named}
use Rattle.stateful_base.specs.declared.anchor.Anchor.{Anchor}
use Rattle.stateful_base.specs.declared.digest.Digest.{Digest}
use Rattle.stateful_history.specs.Known.{Known}
use Rattle.stateful_history.specs.Met.{Met, TrueNames}
use Rattle.stateful_history.specs.Past.{Past, Came, Made, after}
use Rattle.stateful_history.specs.declared.event.Event.TheVariants.{Cancel}
use Rattle.stateful_history.specs.declared.mark.How.TheVariants.{Cancelled}
use Rattle.stateful_history.specs.declared.mark.Mark.{Mark}
use Rattle.stateful_history.specs.declared.mark.Mark.TheVariants.{Withdrawn, Ended}
use Rattle.stateful_exec_tables.specs.Cancelling.{Cancels}
use Rattle.stateful_exec_tables.specs.Cancelling.{idle, withdraws, leaves, ends, unqueued}
use Rattle.stateful_exec_model.specs.Workings.{Workings, Point}
use Rattle.stateful_exec_walk.specs.declared.request.Proposal.{Proposal}
use Rattle.stateful_exec_tables.specs.declared.state.Tables.{Tables}
use Rattle.stateful_exec_tables.specs.declared.tables.LiveRun.{LiveRun}
use Rattle.stateful_exec_laws.specs.Setting.{setting}
use Rattle.stateful_exec_laws.specs.Beside.{StaysBeside}
use Rattle.stateful_exec_laws.specs.Outstanding.{GoesOnTurning}
use Rattle.stateful_exec_laws.specs.Reaching.{IsLost}
use Rattle.stateful_exec_laws.specs.Standing.{TablesStand}
use Rattle.stateful_exec_laws.proofs.beside.Fetched.{StaysBeside-calm}
use Rattle.stateful_exec_laws.proofs.ended.GivenUp.{cancel-IsCalm, cancel-LeavesJob}
use Rattle.stateful_exec_laws.proofs.linked.QueueLost.{QueueReaches-on}
use Rattle.stateful_exec_laws.proofs.linked.QueueServed.{queue-met}
use Rattle.stateful_exec_laws.proofs.reasons.Ground.{IsGround}
use Rattle.stateful_exec_laws.proofs.runs.Removing.{All-without}
use Rattle.stateful_exec_laws.proofs.runs.Kept.{RunsGoOn-without}
use Rattle.stateful_exec_laws.proofs.runs.Turned.{GoesOnTurning-same}
use Rattle.stateful_exec_laws.proofs.requests.SamePast.{IsSamePast}

module _ {B C I P R D H G U : Type 0} (w : Workings B C I P R D H G U) (stored : ℕ → Option (Named B)) (base : w.States) (tip : Anchor)
    (p : Past B C I) (points : Digest → Point w) (point : Point w) (next : w.Ids) (old : Tables B C I R U) (s : TablesStand w stored p points point next old) (g : IsGround w stored base p points point next tip old.pause old.anchor old.cache)
    (t : ℕ) (names : TrueNames (setting w stored) (Came (Cancel t) ∷ p)) (beside : StaysBeside w stored base p old) where
  abbrev given : Past B C I
  given = Came (Cancel t) ∷ p

  abbrev Stays : Past B C I → Tables B C I R U → Type 0
  Stays q v = StaysBeside w stored base q v

  beside_given : Stays given old
  beside_given = StaysBeside-calm w stored base tip p points point next old s g (Came (Cancel t)) (cancel-IsCalm (setting w stored) p t) refl refl names (λ k d l. cancel-LeavesJob p t (get_or old.runs k d).0) beside

  met : All (λ (e : ℕ × Proposal B C I). Met (setting w stored) given e.1.ancestry.first) old.queued
  met = All-weaker (λ (e : ℕ × Proposal B C I). Met (setting w stored) p e.1.ancestry.first) (λ e. Met (setting w stored) given e.1.ancestry.first) (λ e m. inr m) old.queued (queue-met w stored p old.queued old.recovered s.queue)

  same_withdrawn : (f : ℕ) → IsSamePast (setting w stored) given (Made (Withdrawn f) ∷ given)
  same_withdrawn f = record { met = λ b. (λ h. elim h [ inl none ↦ absurd none | inr one ↦ one ], λ h. inr h); anchor = refl; tip = refl; blocks = refl; pruned = refl }

  same_ended : (j : ℕ) → IsSamePast (setting w stored) given (Made (Ended j Cancelled) ∷ given)
  same_ended j = record { met = λ b. (λ h. elim h [ inl none ↦ absurd none | inr one ↦ one ], λ h. inr h); anchor = refl; tip = refl; blocks = refl; pruned = refl }

  names_same : (q : Past B C I) → IsSamePast (setting w stored) given q → TrueNames (setting w stored) q
  names_same q same = λ x y has_x has_y. names x y ((same.met x).0 has_x) ((same.met y).0 has_y)

  -- It stays so after a cancel and its marks.
  pub StaysBeside-cancelled : (new : Tables B C I R U) (marks : List (Mark B)) → Cancels old new t marks → Stays (after given marks) new
  StaysBeside-cancelled new marks (idle r there is_idle new_is marks_is) = rw (new_is, marks_is) (record { runs = beside_given.runs; queue = beside_given.queue })
  StaysBeside-cancelled new marks (withdraws r f fetches new_is marks_is) = rw (new_is, marks_is) (record {
    runs = All-weaker (λ (e : ℕ × LiveRun B R). GoesOnTurning w stored base given e.0 e.1) (λ e. GoesOnTurning w stored base (Made (Withdrawn f) ∷ given) e.0 e.1)
        (λ e on. GoesOnTurning-same w stored base given (Made (Withdrawn f) ∷ given) (same_withdrawn f) e.0 e.1 refl on) old.runs beside_given.runs;
    queue = QueueReaches-on w stored base given (Made (Withdrawn f)) tt refl (names_same (Made (Withdrawn f) ∷ given) (same_withdrawn f)) old.queued met beside_given.queue;
  })
  StaysBeside-cancelled new marks (leaves r j path there executing others new_is marks_is) = rw (new_is, marks_is) (record { runs = beside_given.runs; queue = beside_given.queue })
  StaysBeside-cancelled new marks (ends r j path there executing last new_is marks_is) = rw (new_is, marks_is) (record {
    runs = RunsGoOn-without w stored base given (Made (Ended j Cancelled) ∷ given) (same_ended j) j (λ k other. refl) old.runs beside_given.runs;
    queue = QueueReaches-on w stored base given (Made (Ended j Cancelled)) tt refl (names_same (Made (Ended j Cancelled) ∷ given) (same_ended j)) old.queued met beside_given.queue;
  })
  StaysBeside-cancelled new marks (unqueued none new_is marks_is) = rw (new_is, marks_is) (record {
    runs = beside_given.runs;
    queue = All-without (λ (e : ℕ × Proposal B C I). Known (setting w stored) given e.1.ancestry.first.digest ⊎ IsLost w stored base given e.1.ancestry.first) old.queued t (λ k d l other. beside_given.queue k d l);
  })
