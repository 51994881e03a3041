-- What stays beside the tables after the end of a run, and behind the requests that waited for it: live runs go on turning, and
-- the parents of queued proposals are known or lost.
use Rattle.std.proofs.Common.{◌≡◌, ◌++◌, inr, ℕ, List, [], ◌∷◌, All, Option, Some, Ok, refl, sym, ◌∙◌, subst}
use Rattle.std.proofs.lemmas.List.{append_assoc}
use Rattle.std.proofs.lemmas.List.Elements.{All-weaker}
use Rattle.stateful_base.specs.Names.{Named}
use Rattle.stateful_base.specs.declared.anchor.Anchor.{Anchor}
use Rattle.stateful_base.specs.declared.digest.Digest.{Digest}
use Rattle.stateful_base.specs.declared.outcome.Moved.TheVariants.{Done}
use Rattle.stateful_history.specs.Known.{Known}
use Rattle.stateful_history.specs.Met.{Met, TrueNames}
use Rattle.stateful_history.specs.Past.{Past, Came, Made, EachMark, after}
use Rattle.stateful_history.specs.declared.event.Event.TheVariants.{Turn, Stop}
use Rattle.stateful_history.specs.declared.mark.How.{How}
use Rattle.stateful_history.specs.declared.mark.Mark.{Mark}
use Rattle.stateful_history.specs.declared.mark.Mark.TheVariants.{Ended}
use Rattle.stateful_history.proofs.Marks.{TrueNames-before_marks}
use Rattle.stateful_exec_cache.specs.Cache.{IsAtHand}
use Rattle.stateful_table.specs.Table.{at, put, without}
use Rattle.stateful_exec_tables.specs.Tables.{released}
use Rattle.stateful_exec_model.specs.Ending.{Turns, EndsRun, TurnsRun, InTurn, Follows, given_up, at_boundary, failed, parked, goes_on}
use Rattle.stateful_exec_model.specs.Moments.{Moment, moment}
use Rattle.stateful_exec_tables.specs.Phase.{released_on}
use Rattle.stateful_exec_tables.specs.Tables.{requested}
use Rattle.stateful_exec_model.specs.Workings.{Workings, Point}
use Rattle.stateful_exec_walk.specs.declared.request.Proposal.{Proposal}
use Rattle.stateful_exec_tables.specs.declared.state.Tables.{Tables}
use Rattle.stateful_exec_tables.specs.declared.tables.LiveRun.{LiveRun}
use Rattle.stateful_exec_tables.specs.declared.tables.Released.{Released}
use Rattle.stateful_exec_laws.specs.Setting.{setting}
use Rattle.stateful_exec_laws.specs.Beside.{StaysBeside, BesideBehind}
use Rattle.stateful_exec_laws.specs.Outstanding.{RunsGoOn}
use Rattle.stateful_exec_laws.specs.Reaching.{QueueReaches}
use Rattle.stateful_exec_laws.specs.Standing.{TablesStand}
use Rattle.stateful_exec_laws.specs.Ways.{WaysStand}
use Rattle.stateful_exec_laws.proofs.earned.Follows.{kept-Known}
use Rattle.stateful_exec_laws.proofs.earned.InTurn.{All-last}
use Rattle.stateful_exec_laws.proofs.earned.Left.{LeavesBehind-follows}
use Rattle.stateful_exec_laws.proofs.ended.Rule.{IsReleased}
use Rattle.stateful_exec_laws.proofs.ended.FollowStands.{ticket_of, request_of, Serves-follows}
use Rattle.stateful_exec_laws.proofs.pauses.KeptInTurn.{AreGrounded, AreGrounded-in_turn}
use Rattle.stateful_exec_laws.proofs.requests.KeptMarks.{EachMark-behind, KeepsReady}
use Rattle.stateful_exec_laws.proofs.linked.QueueAdvances.{same_queue, concludes_invalid, QueueReaches-advances}
use Rattle.stateful_exec_laws.proofs.linked.QueueLost.{QueueReaches-on}
use Rattle.stateful_exec_laws.proofs.linked.QueueServed.{queue-met}
use Rattle.stateful_exec_laws.proofs.reasons.Advances.{closed_by}
use Rattle.stateful_exec_laws.proofs.reasons.Followed.{HasWaited, HasWaited-same, AreWaiting}
use Rattle.stateful_exec_laws.proofs.reasons.Ground.{IsGround, round_of_top}
use Rattle.stateful_exec_laws.proofs.reasons.Settled.{IsSamePast-turned}
use Rattle.stateful_exec_laws.proofs.reasons.Turned.{waiting}
use Rattle.stateful_exec_laws.proofs.runs.Kept.{RunsTakeTurns, RunsGoOn-follows, RunsGoOn-ended}
use Rattle.stateful_exec_laws.proofs.requests.ServedMarks.{IsServedBy, AreServedBy, follows-marks}

module _ {B C I P R D H G U : Type 0} (w : Workings B C I P R D H G U) (stored : ℕ → Option (Named B)) (base : w.States) (p : Past B C I) (points : Digest → Point w) (point : Point w) (tip : Anchor) (m now : Moment w)
    (s : TablesStand w stored p points point m.next m.state) (g : IsGround w stored base p points point m.next tip m.state.pause m.state.anchor m.state.cache) (r : Released B C I)
    (more : List (Mark B)) (marks_are : now.marks ≡ m.marks ++ more) (are : AreServedBy r.ticket p more) (names : TrueNames (setting w stored) (after p more)) (reaches : QueueReaches w stored base p m.state.queued) where
  -- the parents of queued proposals are known or lost behind a request that follows the end of a run
  pub QueueReaches-follows : (b : Named B) (how : How) → HasWaited w stored base tip b how p m.state.pause m.state.anchor m.state.cache r → Follows w b how r m now → QueueReaches w stored base (after p more) now.state.queued
  QueueReaches-follows b how h (given_up out concludes) = concludes_invalid w stored base p m now s.queue r.ticket more marks_are are names reaches (requested r.request) concludes
  QueueReaches-follows b how h (at_boundary out becomes) = rw becomes (same_queue w stored base p m now s.queue r.ticket more marks_are are names reaches)
  QueueReaches-follows b how h (failed not_held out concludes) = concludes_invalid w stored base p m now s.queue r.ticket more marks_are are names reaches (requested r.request) concludes
  QueueReaches-follows b how h (parked pruning any becomes) = rw becomes (same_queue w stored base p m now s.queue r.ticket more marks_are are names reaches)
  QueueReaches-follows b how h (goes_on kept not_held other any advances) =
      QueueReaches-advances w stored base p points point tip m now s g r.ticket more marks_are are names reaches (requested r.request) r.path h.way
      (subst (λ (x : Named B). Known (setting w stored) p x.digest × IsAtHand m.state.anchor m.state.cache x.digest) (sym h.leads) (
        kept-Known w stored p g.names points m.next m.state.anchor m.state.cache (round_of_top w stored base p points point m.next tip m.state.pause m.state.anchor m.state.cache g) b
            (subst (λ (x : Named B). Met (setting w stored) p x) h.leads (All-last (Met (setting w stored) p) r.path.blocks r.path.parent h.way.met)) any m.state.pause g.stands
            (closed_by w stored base p points point m.next tip m.state.pause m.state.anchor m.state.cache g) kept,
        inr any,
      )) advances

module _ {B C I P R D H G U : Type 0} (w : Workings B C I P R D H G U) (stored : ℕ → Option (Named B)) (base : w.States) (tip : Anchor) (costs : RunsTakeTurns w)
    (other_states : (n i : w.Ids) (x y : w.States) (c : List (Point w)) → w.kind.issued n ((i, x) ∷ c) → w.kind.issued n ((i, y) ∷ c)) where
  abbrev Any_mark : Past B C I → Mark B → Type 0
  Any_mark p mark = Unit {0}

  abbrev Stays : Past B C I → Moment w → Type 0
  Stays p m = StaysBeside w stored base p m.state

  any_marks : (x : Past B C I) (ms : List (Mark B)) → EachMark Any_mark x ms
  any_marks x [] = tt
  any_marks x (mark ∷ ms) = (tt, any_marks (Made mark ∷ x) ms)

  module _ (points : Digest → Point w) (point : Point w) (b : Named B) (how : How) where
    abbrev AreFollowing : List (Released B C I) → Past B C I → Moment w → Type 0
    AreFollowing = AreGrounded w stored base points point tip Any_mark ticket_of request_of (HasWaited w stored base tip b how) Stays

    beside-follow : (rs : List (Released B C I)) (p : Past B C I) (m last : Moment w) → AreFollowing rs p m → InTurn (Follows w b how) rs m last → KeepsReady w Any_mark (Follows w b how) AreFollowing [] p m last
    beside-follow rs p m last ready turns =
        AreGrounded-in_turn w stored base points point tip Any_mark ticket_of request_of (HasWaited w stored base tip b how) (Follows w b how)
        (λ p m now r ready hand h rule. Serves-follows w stored points point other_states b how p m now r ready (record { hand = hand; way = h.way }) rule)
        (λ m now r rule. LeavesBehind-follows w b how r m now rule)
        (λ p q pause anchor cache r c h. HasWaited-same w stored base tip b how p q pause anchor cache r c h) Stays
        (λ p m now r more is g hand h rule c st. record {
          runs = RunsGoOn-follows w stored base p m now more c.same g.ready.stands.numbers costs st.runs b how r rule;
          queue = QueueReaches-follows w stored base p points point tip m now g.ready.stands g.ground r more is
              (EachMark-behind w (λ (x : Past B C I) (mark : Mark B). IsServedBy r.ticket mark) p m now more is (follows-marks w p m now b how r rule))
              (λ x y has_x has_y. g.ready.names x y ((c.same.met x).0 has_x) ((c.same.met y).0 has_y)) st.queue b how h rule;
        })
        (λ p m now r g hand h st rule. let k = follows-marks w p m now b how r rule in record { more = k.more; marks_are = k.marks_are; each = any_marks p k.more })
        rs p m last ready turns

  module _ (p : Past B C I) (points : Digest → Point w) (point : Point w) (m : Moment w)
      (s : TablesStand w stored p points point m.next m.state) (g : IsGround w stored base p points point m.next tip m.state.pause m.state.anchor m.state.cache) (ways : WaysStand w stored p tip m.state)
      (located : w.kind.point m.members ≡ Some point) (drawn : w.kind.issued m.next (point ∷ []))
      (j : ℕ) (b : Named B) (o : Option U) (how : How) (beside : StaysBeside w stored base p m.state) where
    abbrev q : Past B C I
    q = Made (Ended j how) ∷ Came (Turn j) ∷ p

    names : TrueNames (setting w stored) q
    names x y has_x has_y = g.names x y (((IsSamePast-turned (setting w stored) p j how).met x).0 has_x) (((IsSamePast-turned (setting w stored) p j how).met y).0 has_y)

    -- after the end of the run
    beside_ended : (turned : LiveRun B R) (v : Tables B C I R U) → v.runs ≡ without (put m.state.runs j turned) j → v.queued ≡ m.state.queued → StaysBeside w stored base q v
    beside_ended turned v runs_are queued_are = record {
      runs = subst (λ (rs : List (ℕ × LiveRun B R)). RunsGoOn w stored base q rs) (sym runs_are) (RunsGoOn-ended w stored base p j how turned m.state.runs beside.runs);
      queue = subst (λ (rs : List (ℕ × Proposal B C I)). QueueReaches w stored base q rs) (sym queued_are) (QueueReaches-on w stored base (Came (Turn j) ∷ p) (Made (Ended j how)) tt refl names m.state.queued
          (All-weaker (λ (e : ℕ × Proposal B C I). Met (setting w stored) p e.1.ancestry.first) (λ e. Met (setting w stored) (Came (Turn j) ∷ p) e.1.ancestry.first) (λ e met. inr met) m.state.queued met)
          (QueueReaches-on w stored base p (Came (Turn j)) tt refl (TrueNames-before_marks (setting w stored) (Came (Turn j) ∷ p) (Ended j how ∷ []) names) m.state.queued met beside.queue));
    }
      where
        met : All (λ e. Met (setting w stored) p e.1.ancestry.first) m.state.queued
        met = queue-met w stored p m.state.queued m.state.recovered s.queue

    module _ (live : LiveRun B R) (live_is : at m.state.runs j ≡ Some live) (turned : R) (turns : Turns w m.members live.run turned (Done o)) (done last : Moment w)
        (ends : EndsRun w (record m { state = record m.state { runs = put m.state.runs j (record live { run = turned }) } }) j b o how done) (r : IsReleased w stored q point j b done) where
      abbrev left : Tables B C I R U
      left = record m.state { cache = ends.cache; runs = without (put m.state.runs j (record live { run = turned })) j; pause = ends.pause }

      abbrev Now : Moment w
      Now = moment w left m.members m.next (m.marks ++ Ended j how ∷ [])

      beside_turned : InTurn (Follows w b how) (released_on j done.state.requests) (record done { state = released j done.state }) last → BesideBehind w stored base (Came (Turn j) ∷ p) m last
      beside_turned follow =
          let now_is : done ≡ Now = ends.becomes in
          let rel : IsReleased w stored q point j b Now = subst (λ (n : Moment w). IsReleased w stored q point j b n) now_is r in
          let turns_on : InTurn (Follows w b how) (released_on j m.state.requests) (record Now { state = released j left }) last = subst (λ (n : Moment w). InTurn (Follows w b how) (released_on j n.state.requests) (record n { state = released j n.state }) last) now_is follow in
          let on : AreWaiting w stored base tip rel.points point Stop [] other_states b how (released_on j m.state.requests) q (record Now { state = released j left }) =
          waiting w stored base p points point tip m s g ways located drawn j b o how live live_is turned turns done ends r Stop [] other_states rel in
          let start : AreFollowing rel.points point b how (released_on j m.state.requests) q (record Now { state = released j left }) =
          record { grounded = on.grounded; stays = beside_ended (record live { run = turned }) (released j left) refl refl; hands = on.hands; apart = on.apart; also = on.also } in
          let k = beside-follow rel.points point b how (released_on j m.state.requests) q (record Now { state = released j left }) last start turns_on in
          record {
            more = Ended j how ∷ k.more;
            marks_are = k.marks_are ∙ append_assoc m.marks (Ended j how ∷ []) k.more;
            stays = k.ready.stays;
          }

    -- It stays so after the last turn of a run, and the requests that waited for it.
    pub StaysBeside-settled : (count : R → ℕ) (had : Tables B C I R U) → TurnsRun w count m.members j m.state had (Ok (Done o)) → (done last : Moment w) → EndsRun w (record m { state = had }) j b o how done → IsReleased w stored q point j b done
        → InTurn (Follows w b how) (released_on j done.state.requests) (record done { state = released j done.state }) last → BesideBehind w stored base (Came (Turn j) ∷ p) m last
    StaysBeside-settled count had turns done last ends r follow =
        let e : EndsRun w (record m { state = record m.state { runs = put m.state.runs j (record turns.live { run = turns.turned }) } }) j b o how done = subst (λ (t : Tables B C I R U). EndsRun w (record m { state = t }) j b o how done) turns.state ends in
        beside_turned turns.live turns.live_is turns.turned turns.turns done last e r follow
