-- The parents of queued proposals are known or lost behind a request that goes along its path, or acquires what it needs.
use Rattle.std.proofs.Common.{◌≡◌, ◌++◌, ◌⊎◌, inl, ℕ, List, [], ◌∷◌, All, Option, refl, sym, ap, ◌∙◌, subst}
use Rattle.std.proofs.lemmas.List.{append_cancel_left}
use Rattle.stateful_base.specs.Names.{Named}
use Rattle.stateful_base.specs.declared.anchor.Anchor.{Anchor}
use Rattle.stateful_base.specs.declared.digest.Digest.{Digest}
use Rattle.stateful_history.specs.Known.{Known}
use Rattle.stateful_history.specs.Met.{Met, TrueNames}
use Rattle.stateful_history.specs.Past.{Past, after}
use Rattle.stateful_history.specs.declared.mark.Mark.{Mark}
use Rattle.stateful_exec_cache.specs.Cache.{IsAtHand}
use Rattle.stateful_exec_model.specs.Moments.{Moment}
use Rattle.stateful_exec_walk.specs.Path.{Path}
use Rattle.stateful_exec_tables.specs.Meeting.{IsPassed}
use Rattle.stateful_exec_tables.specs.Tables.{told, ended, requested}
use Rattle.stateful_exec_model.specs.Rules.{Concludes, Advances, arrives, leaves, joins, starts, misses, Acquires, valid, invalid, asks, waits, runs}
use Rattle.stateful_exec_model.specs.Workings.{Workings, Point}
use Rattle.stateful_exec_pause.specs.declared.pause.Pause.TheVariants.{Free}
use Rattle.stateful_exec_walk.specs.declared.request.Proposal.{Proposal}
use Rattle.stateful_exec_walk.specs.declared.request.Request.{Request}
use Rattle.stateful_exec_walk.specs.declared.request.Request.TheVariants.{Verify, Recover}
use Rattle.stateful_exec_walk.specs.declared.request.Verdict.TheVariants as verdict
use Rattle.stateful_exec_tables.specs.declared.tables.Requested.{Requested}
use Rattle.stateful_exec_walk.specs.declared.walk.Acquired.TheVariants as acquired
use Rattle.stateful_exec_model.specs.Rules.{Needs}
use Rattle.stateful_exec_laws.specs.Setting.{setting}
use Rattle.stateful_exec_laws.specs.Reaching.{IsLost, QueueReaches}
use Rattle.stateful_exec_laws.specs.Requesting.{first_of, IsWayOf, QueueStands}
use Rattle.stateful_exec_laws.specs.Standing.{TablesStand, IsInHand}
use Rattle.stateful_exec_laws.proofs.requests.Acquired.{IsWayOf-ready}
use Rattle.stateful_exec_laws.proofs.requests.AdvanceStands.{All-front}
use Rattle.stateful_exec_laws.proofs.requests.Putting.{All-put}
use Rattle.stateful_exec_laws.proofs.linked.QueueServed.{queue-met, QueueReaches-served}
use Rattle.stateful_exec_laws.proofs.linked.ReadyWalks.{ready-at_hand}
use Rattle.stateful_exec_laws.proofs.reasons.Advances.{parent_here}
use Rattle.stateful_exec_laws.proofs.reasons.Ground.{IsGround}
use Rattle.stateful_exec_laws.proofs.reasons.Known.{knows_free}
use Rattle.stateful_exec_laws.proofs.requests.ServedMarks.{AreServedBy}

module _ {B C I P R D H G U : Type 0} (w : Workings B C I P R D H G U) (stored : ℕ → Option (Named B)) (base : w.States) (p : Past B C I) (m now : Moment w)
    (queue : QueueStands w stored p m.state.queued m.state.recovered) (t : ℕ) (more : List (Mark B)) (marks_are : now.marks ≡ m.marks ++ more)
    (are : AreServedBy t p more) (names : TrueNames (setting w stored) (after p more)) (reaches : QueueReaches w stored base p m.state.queued) where
  abbrev Reaches_on : List (ℕ × Proposal B C I) → Type 0
  Reaches_on queued = QueueReaches w stored base (after p more) queued

  -- what was queued
  pub same_queue : Reaches_on m.state.queued
  same_queue = QueueReaches-served w stored base p t more are names m.state.queued (queue-met w stored p m.state.queued m.state.recovered queue) reaches

  invalid_queue : (request : Request B C I) → (ended m.state t request verdict.Invalid).queued ≡ m.state.queued
  invalid_queue (Verify u ancestry) = refl
  invalid_queue (Recover u context ancestry input kind) = refl

  pub concludes_invalid : (r : Requested B C I) → Concludes w m t r verdict.Invalid now → Reaches_on now.state.queued
  concludes_invalid r is = rw (is, invalid_queue r.request) same_queue

  -- a proposal whose parent is known is queued
  concludes_valid : (request : Request B C I) → Known (setting w stored) p (first_of request).digest → told t request verdict.Valid ≡ more → Reaches_on (ended m.state t request verdict.Valid).queued
  concludes_valid (Verify u ancestry) known is = same_queue
  concludes_valid (Recover u context ancestry input kind) known is =
      All-put (λ (e : ℕ × Proposal B C I). Known (setting w stored) (after p more) e.1.ancestry.first.digest ⊎ IsLost w stored base (after p more) e.1.ancestry.first) m.state.queued t (record { context = context; ancestry = ancestry; input = input; kind = kind }) same_queue
      (inl (subst (λ (ms : List (Mark B)). Known (setting w stored) (after p ms) ancestry.first.digest) is known))

  pub valid_from : (request : Request B C I) (r : Requested B C I) → r.request ≡ request → Known (setting w stored) p (first_of request).digest → Concludes w m t r verdict.Valid now → Reaches_on now.state.queued
  valid_from request r same known is =
      let one : told t request verdict.Valid ≡ more = append_cancel_left m.marks (told t request verdict.Valid) more (sym (ap (λ (x : Request B C I). m.marks ++ told t x verdict.Valid) same) ∙ sym (ap (λ (n : Moment w). n.marks) is) ∙ marks_are) in
      rw (is, same) (concludes_valid request known one)

  -- behind one that goes along its path, where its first block is known once all are passed
  pub QueueReaches-arrives : (r : Requested B C I) (path : Path B) → (All (IsPassed w.header m.state) path.blocks → Known (setting w stored) p (first_of r.request).digest)
      → Advances w m t r path now → QueueReaches w stored base (after p more) now.state.queued
  QueueReaches-arrives r path known (arrives all concludes) = valid_from r.request r refl (known all) concludes
  QueueReaches-arrives r path known (leaves reaches out concludes) = concludes_invalid r concludes
  QueueReaches-arrives r path known (joins j reaches on unknown has becomes) = rw becomes same_queue
  QueueReaches-arrives r path known (starts reaches on unknown unrun there launches) = rw (launches.state, launches.starts.state) same_queue
  QueueReaches-arrives r path known (misses reaches on unknown unrun out concludes) = concludes_invalid r concludes

module _ {B C I P R D H G U : Type 0} (w : Workings B C I P R D H G U) (stored : ℕ → Option (Named B)) (base : w.States) (p : Past B C I) (points : Digest → Point w) (point : Point w) (tip : Anchor) (m now : Moment w)
    (s : TablesStand w stored p points point m.next m.state) (g : IsGround w stored base p points point m.next tip m.state.pause m.state.anchor m.state.cache) (t : ℕ)
    (more : List (Mark B)) (marks_are : now.marks ≡ m.marks ++ more) (are : AreServedBy t p more) (names : TrueNames (setting w stored) (after p more)) (reaches : QueueReaches w stored base p m.state.queued) where
  -- so it is behind one that goes along its path on a known parent
  pub QueueReaches-advances : (r : Requested B C I) (path : Path B) → IsWayOf w stored p r.request path → (Known (setting w stored) p path.parent.digest × IsAtHand m.state.anchor m.state.cache path.parent.digest) → Advances w m t r path now → QueueReaches w stored base (after p more) now.state.queued
  QueueReaches-advances r path way parent rule =
      QueueReaches-arrives w stored base p m now s.queue t more marks_are are names reaches r path (λ all.
      subst (λ (x : Named B). Known (setting w stored) p x.digest) way.begins
      (parent_here w stored base p points point m.next tip m.state g r.request path way parent path.blocks all (All-front (Met (setting w stored) p) path.blocks (path.parent ∷ []) way.met)).0) rule

  -- and behind one that acquires what it needs, where nothing pauses
  pub QueueReaches-acquires : m.state.pause ≡ Free → (stored_now : ℕ → Option (Named B)) (r : Requested B C I) → IsInHand w stored p t r.request m.state → All (Met (setting w stored) p) r.acquired → Acquires w stored_now m t r now → QueueReaches w stored base (after p more) now.state.queued
  QueueReaches-acquires free stored_now r hand met (valid needs concludes) = by_request r.request refl needs
    where
      by_request : (request : Request B C I) → r.request ≡ request → Needs w stored_now m (record r { request = request }) acquired.Valid → QueueReaches w stored base (after p more) now.state.queued
      by_request (Verify u ancestry) same needs = rw (concludes, same) (same_queue w stored base p m now s.queue t more marks_are are names reaches)
      by_request (Recover u context ancestry input kind) same needs = absurd needs
  QueueReaches-acquires free stored_now r hand met (invalid needs concludes) = concludes_invalid w stored base p m now s.queue t more marks_are are names reaches r concludes
  QueueReaches-acquires free stored_now r hand met (asks d needs left becomes) = rw becomes (same_queue w stored base p m now s.queue t more marks_are are names reaches)
  QueueReaches-acquires free stored_now r hand met (waits needs becomes) = rw becomes (same_queue w stored base p m now s.queue t more marks_are are names reaches)
  QueueReaches-acquires free stored_now r hand met (runs {path = path} needs advances) =
      let here = ready-at_hand w.header m.state.anchor m.state.cache stored_now r.request r.acquired path needs in
      QueueReaches-advances (requested r.request) path (IsWayOf-ready w stored p m.state.anchor m.state.cache stored_now r.request r.acquired path hand.brought met needs)
      ((knows_free w stored base p points point m.next tip m.state.pause m.state.anchor m.state.cache free g path.parent.digest).1 here, here) advances
