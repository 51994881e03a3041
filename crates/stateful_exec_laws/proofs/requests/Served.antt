-- A request in hand is served, and the others in hand stay so.
use Rattle.std.proofs.Common.{◌≡◌, ◌≢◌, ◌↔◌, inl, inr, ℕ, true, false, List, [], ◌∷◌, All, Option, refl, ◌∙◌}
use Rattle.std.proofs.lemmas.List.Elements.{All-weaker}
use Rattle.stateful_base.specs.Names.{Named}
use Rattle.stateful_base.specs.declared.digest.Digest.{Digest}
use Rattle.stateful_history.specs.Past.{Past, Item, Made, after}
use Rattle.stateful_history.specs.Fetches.{Abstains}
use Rattle.stateful_history.specs.Met.{Met, Brings}
use Rattle.stateful_history.specs.declared.mark.JobKind.TheVariants.{Candidate}
use Rattle.stateful_history.specs.declared.mark.Mark.TheVariants.{Declined, Started, Verdict}
use Rattle.stateful_exec_model.specs.Moments.{Moment, Becomes}
use Rattle.stateful_exec_tables.specs.Tables.{moved, told, ended}
use Rattle.stateful_exec_model.specs.Rules.{Concludes, Launches}
use Rattle.stateful_exec_model.specs.Workings.{Workings, Point}
use Rattle.stateful_exec_walk.specs.declared.request.Request.{Request}
use Rattle.stateful_exec_walk.specs.declared.request.Request.TheVariants.{Verify, Recover}
use Rattle.stateful_exec_walk.specs.declared.request.Verdict.TheVariants.{Valid, Invalid}
use Rattle.stateful_exec_walk.specs.declared.request.Verdict.{Verdict as Verdicts}
use Rattle.stateful_exec_tables.specs.declared.tables.Phase.{Phase}
use Rattle.stateful_exec_tables.specs.declared.tables.Phase.TheVariants.{Waiting}
use Rattle.stateful_exec_tables.specs.declared.tables.Requested.{Requested}
use Rattle.stateful_exec_laws.specs.Setting.{setting}
use Rattle.stateful_exec_laws.specs.Requesting.{first_of, brought_by, IsInPhase, AllAbstain}
use Rattle.stateful_exec_laws.specs.Standing.{TablesStand, IsInHand, StandsBehind}
use Rattle.stateful_exec_laws.proofs.requests.Asking.{LeavesTicket, IsRequestOf-calm}
use Rattle.stateful_exec_laws.proofs.ended.ConcludeStands.{verdict-TellsOf, declined-TellsOf, TablesStand-concludes}
use Rattle.stateful_exec_laws.proofs.requests.Putting.{All-put, put_other}
use Rattle.stateful_exec_laws.proofs.requests.PutStands.{TablesStand-put}

-- what the item doesn't bring was there before
pub unbrought : {B C I S T : Type 0} (s : _) (p : Past B C I) (x : Item B C I) (b : Named B) → (Brings x b → ⊥) → Met {S = S} {T = T} s (x ∷ p) b ↔ Met s p b
unbrought s p x b none = (λ m. elim m [ inl new ↦ absurd (none new) | inr old ↦ old ], λ m. inr m)

module _ {B C I P R D H G U : Type 0} (w : Workings B C I P R D H G U) (stored : ℕ → Option (Named B)) (p : Past B C I) (points : Digest → Point w) (point : Point w) (m : Moment w) where
  -- The request of a ticket was served: the tables stand behind it, no block was brought, what was drawn stays so, and the
  -- requests in hand of other tickets are still in hand.
  pub record Serves (t : ℕ) (now : Moment w) : Type 0 where
    pub behind : StandsBehind w stored p points point m now
    pub met : (b : Named B) → Met (setting w stored) (after p behind.more) b ↔ Met (setting w stored) p b
    pub drawn : w.kind.issued m.next (point ∷ []) → w.kind.issued now.next (point ∷ [])
    pub abstains : (u : ℕ) (b : Named B) → Abstains (setting w stored) u p b → Abstains (setting w stored) u (after p behind.more) b
    pub others : (u : ℕ) (request : Request B C I) → u ≢ t → IsInHand w stored p u request m.state → IsInHand w stored (after p behind.more) u request now.state

  module _ (s : TablesStand w stored p points point m.next m.state) (t : ℕ) (r : Requested B C I) (hand : IsInHand w stored p t r.request m.state) where
    -- an item that says nothing of the ticket leaves a request in hand
    in_hand-calm : (x : Item B C I) (u : ℕ) (request : Request B C I) → LeavesTicket p x u → IsInHand w stored p u request m.state → IsInHand w stored (x ∷ p) u request m.state
    in_hand-calm x u request leaves h = record { absent = h.absent; not_queued = h.not_queued; own = h.own; brought = All-weaker (Met (setting w stored) p) (Met (setting w stored) (x ∷ p)) (λ b m. inr m) (brought_by request) h.brought; asked = IsRequestOf-calm w stored p x u request leaves h.asked }

    met_told : (request : Request B C I) (v : Verdicts) (b : Named B) → Met (setting w stored) (after p (told t request v)) b ↔ Met (setting w stored) p b
    met_told (Verify u ancestry) Valid b = unbrought (setting w stored) p (Made (Verdict t true)) b (λ no. no)
    met_told (Verify u ancestry) Invalid b = unbrought (setting w stored) p (Made (Verdict t false)) b (λ no. no)
    met_told (Recover u context ancestry input kind) Valid b = (λ k. k, λ k. k)
    met_told (Recover u context ancestry input kind) Invalid b = unbrought (setting w stored) p (Made (Declined t)) b (λ no. no)

    others_told : (request : Request B C I) (v : Verdicts) (u : ℕ) (other : Request B C I) → u ≢ t → IsInHand w stored p u other m.state → IsInHand w stored (after p (told t request v)) u other (ended m.state t request v)
    others_told (Verify k ancestry) Valid u other ne h = in_hand-calm (Made (Verdict t true)) u other ((verdict-TellsOf (setting w stored) p t true).tickets u ne) h
    others_told (Verify k ancestry) Invalid u other ne h = in_hand-calm (Made (Verdict t false)) u other ((verdict-TellsOf (setting w stored) p t false).tickets u ne) h
    others_told (Recover k context ancestry input kind) Valid u other ne h = record { absent = h.absent; not_queued = put_other m.state.queued t u _ ne ∙ h.not_queued; own = h.own; brought = h.brought; asked = h.asked }
    others_told (Recover k context ancestry input kind) Invalid u other ne h = in_hand-calm (Made (Declined t)) u other ((declined-TellsOf (setting w stored) p t).tickets u ne) h

    -- the requests that wait are those that did
    waiting_told : (request : Request B C I) (v : Verdicts) → AllAbstain w stored p m.state.requests → AllAbstain w stored (after p (told t request v)) (ended m.state t request v).requests
    waiting_told (Verify k ancestry) Valid h = h
    waiting_told (Verify k ancestry) Invalid h = h
    waiting_told (Recover k context ancestry input kind) Valid h = h
    waiting_told (Recover k context ancestry input kind) Invalid h = h

    abstains_told : (request : Request B C I) (v : Verdicts) (u : ℕ) (b : Named B) → Abstains (setting w stored) u p b → Abstains (setting w stored) u (after p (told t request v)) b
    abstains_told (Verify k ancestry) Valid u b a = a
    abstains_told (Verify k ancestry) Invalid u b a = a
    abstains_told (Recover k context ancestry input kind) Valid u b a = a
    abstains_told (Recover k context ancestry input kind) Invalid u b a = a

    -- it ended
    pub Serves-concludes : (v : Verdicts) (now : Moment w) → Concludes w m t r v now → Serves t now
    Serves-concludes v now is = rw is (record {
      behind = record { more = _; marks_are = refl; members_are = refl; stands = TablesStand-concludes w stored p points point m.next m.state t s r.request v hand; waiting = waiting_told r.request v };
      met = met_told r.request v;
      drawn = λ d. d;
      abstains = abstains_told r.request v;
      others = others_told r.request v;
    })

    -- it was put back
    pub Serves-put : (phase : Phase B) (now : Moment w) → All (Met (setting w stored) p) r.acquired → IsInPhase w stored p m.state.runs t r.request phase → (phase ≡ Waiting → Abstains (setting w stored) t p (first_of r.request))
        → Becomes w m (moved m.state t r phase) [] now → Serves t now
    Serves-put phase now met in_phase abstain is = rw is (record {
      behind = record {
        more = [];
        marks_are = refl;
        members_are = refl;
        stands = TablesStand-put w stored p points point m.next m.state t s r hand met phase in_phase;
        waiting = λ h. All-put (λ (e : ℕ × Requested B C I). e.1.phase ≡ Waiting → Abstains (setting w stored) e.0 p (first_of e.1.request)) m.state.requests t (record r { phase = phase }) h abstain;
      };
      met = λ b. (λ k. k, λ k. k);
      drawn = λ d. d;
      abstains = λ u b a. a;
      others = λ u other ne h. record { absent = put_other m.state.requests t u _ ne ∙ h.absent; not_queued = h.not_queued; own = h.own; brought = h.brought; asked = h.asked };
    })

    -- a run was started for it
    pub Serves-launches : {left : List (Named B)} {b parent : Named B} (now : Moment w) (l : Launches w m t r left b parent now)
        → TablesStand w stored (after p (Started m.state.next_job Candidate b.digest ∷ [])) points point now.next now.state → Serves t now
    Serves-launches {b = b} now l stands = record {
      behind = record {
        more = _;
        marks_are = l.marks;
        members_are = l.members;
        stands = stands;
        waiting = λ h. rw (l.state, l.starts.state) (All-put (λ (e : ℕ × Requested B C I). e.1.phase ≡ Waiting → Abstains (setting w stored) e.0 p (first_of e.1.request)) m.state.requests t _ h (λ is. absurd (cc)));
      };
      met = λ c. unbrought (setting w stored) p (Made (Started m.state.next_job Candidate b.digest)) c (λ no. no);
      drawn = l.starts.keeps (point ∷ []);
      abstains = λ u c a. a;
      others = λ u other ne h. rw (l.state, l.starts.state) (record {
        absent = put_other m.state.requests t u _ ne ∙ h.absent;
        not_queued = h.not_queued;
        own = h.own;
        brought = All-weaker (Met (setting w stored) p) (Met (setting w stored) (Made (Started m.state.next_job Candidate b.digest) ∷ p)) (λ b m. inr m) (brought_by other) h.brought;
        asked = IsRequestOf-calm w stored p (Made (Started m.state.next_job Candidate b.digest)) u other (record { live = refl; verified = refl; proposed = refl }) h.asked;
      });
    }
