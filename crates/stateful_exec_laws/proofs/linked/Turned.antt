-- What was gathered stays linked, and the parents of queued proposals known or lost, after the end of a run and the requests that
-- waited for it.
use Rattle.std.proofs.Common.{◌≡◌, ◌++◌, ℕ, not, get_or, List, [], ◌∷◌, All, Option, Some, Ok, refl, ◌∙◌, subst}
use Rattle.std.proofs.lemmas.List.{append_assoc}
use Rattle.std.proofs.lemmas.List.Elements.{All-filter}
use Rattle.stateful_base.specs.Names.{Named}
use Rattle.stateful_base.specs.declared.anchor.Anchor.{Anchor}
use Rattle.stateful_base.specs.declared.digest.Digest.{Digest}
use Rattle.stateful_base.specs.declared.outcome.Moved.TheVariants.{Done}
use Rattle.stateful_history.specs.Honest.{IsHonest, IsAnswered}
use Rattle.stateful_history.specs.Met.{TrueNames}
use Rattle.stateful_history.specs.Past.{Past, Came, Made, EachMark, after}
use Rattle.stateful_history.specs.declared.event.Event.TheVariants.{Turn, Stop}
use Rattle.stateful_history.specs.declared.mark.How.{How}
use Rattle.stateful_history.specs.declared.mark.Mark.{Mark}
use Rattle.stateful_history.specs.declared.mark.Mark.TheVariants.{Ended}
use Rattle.stateful_history.proofs.Marks.{TrueNames-before_marks}
use Rattle.stateful_exec_cache.specs.declared.cache.Cached.{Cached}
use Rattle.stateful_table.specs.Table.{at, put, without}
use Rattle.stateful_exec_tables.specs.Tables.{released}
use Rattle.stateful_exec_model.specs.Ending.{Turns, EndsRun, TurnsRun, InTurn, Follows}
use Rattle.stateful_exec_model.specs.Moments.{Moment, moment}
use Rattle.stateful_exec_tables.specs.Phase.{is_on, released_on}
use Rattle.stateful_exec_model.specs.Workings.{Workings, Point}
use Rattle.stateful_exec_pause.specs.declared.pause.Pause.{Pause}
use Rattle.stateful_exec_tables.specs.declared.state.Tables.{Tables}
use Rattle.stateful_exec_tables.specs.declared.tables.LiveRun.{LiveRun}
use Rattle.stateful_exec_tables.specs.declared.tables.Released.{Released}
use Rattle.stateful_exec_tables.specs.declared.tables.Requested.{Requested}
use Rattle.stateful_exec_laws.specs.Setting.{setting}
use Rattle.stateful_exec_laws.specs.Gathering.{gathered, AreLinked, IsGathered, GatheringsStand}
use Rattle.stateful_exec_laws.specs.Standing.{TablesStand}
use Rattle.stateful_exec_laws.specs.Ways.{WaysStand}
use Rattle.stateful_exec_laws.proofs.earned.Left.{LeavesBehind-follows}
use Rattle.stateful_exec_laws.proofs.ended.Left.{All-released}
use Rattle.stateful_exec_laws.proofs.ended.Rule.{IsReleased}
use Rattle.stateful_exec_laws.proofs.ended.FollowStands.{ticket_of, request_of, Serves-follows}
use Rattle.stateful_exec_laws.proofs.linked.Gathered.{AreLinked-brought}
use Rattle.stateful_exec_laws.proofs.pauses.KeptInTurn.{AreGrounded, AreGrounded-in_turn}
use Rattle.stateful_exec_laws.proofs.requests.KeptMarks.{KeepsReady}
use Rattle.stateful_exec_laws.proofs.linked.On.{StaysLinked, met_on, StaysLinked-on}
use Rattle.stateful_exec_laws.proofs.linked.Served.{StaysLinked-follows, follows-known}
use Rattle.stateful_exec_laws.proofs.linked.QueueServed.{queue-met}
use Rattle.stateful_exec_laws.proofs.reasons.Followed.{HasWaited, HasWaited-same, AreWaiting}
use Rattle.stateful_exec_laws.proofs.reasons.Ground.{IsGround}
use Rattle.stateful_exec_laws.proofs.reasons.Settled.{IsSamePast-turned}
use Rattle.stateful_exec_laws.proofs.reasons.Turned.{waiting}
use Rattle.stateful_exec_laws.proofs.requests.ServedMarks.{follows-marks}

module _ {B C I P R D H G U : Type 0} (w : Workings B C I P R D H G U) (stored : ℕ → Option (Named B)) (base : w.States) where
  -- from one moment to a later one some marks are made, and it stays so with them
  pub record LinkedBehind (p : Past B C I) (m now : Moment w) : Type 0 where
    pub more : List (Mark B)
    pub marks_are : now.marks ≡ m.marks ++ more
    pub stays : StaysLinked w stored base (after p more) now.state

  -- what came with each of these requests is linked
  abbrev pub CameLinked : List (Released B C I) → Type 0
  CameLinked rs = All (λ x. AreLinked (setting w stored) (gathered x.request [])) rs

  -- so it is with those that wait for a run, where ancestries are linked and fetches were answered with the asked blocks
  pub released-linked : (p : Past B C I) → IsHonest (setting w stored) p → IsAnswered p → (v : Tables B C I R U)
      → GatheringsStand (setting w stored) p v.requests → (j : ℕ) → CameLinked (released_on j v.requests)
  released-linked p honest answered v stand j =
      All-released j (λ (x : Released B C I). AreLinked (setting w stored) (gathered x.request [])) v.requests (λ k d l path is.
      let e = get_or v.requests k d in
      AreLinked-brought (setting w stored) e.1.request e.1.acquired ((stand k d l).linked honest answered))

  module _ (p : Past B C I) (j : ℕ) (how : How) (names : TrueNames (setting w stored) p) where
    abbrev ended_past : Past B C I
    ended_past = Made (Ended j how) ∷ Came (Turn j) ∷ p

    pub names-turned : TrueNames (setting w stored) ended_past
    names-turned x y has_x has_y = names x y (((IsSamePast-turned (setting w stored) p j how).met x).0 has_x)
        (((IsSamePast-turned (setting w stored) p j how).met y).0 has_y)

    -- it is so after the end of a run, without the requests that waited for it
    pub StaysLinked-ended : (v left : Tables B C I R U) (points : Digest → Point w) (point : Point w) (next : w.Ids)
        → TablesStand w stored p points point next v → StaysLinked w stored base p v → left.requests ≡ v.requests → left.queued ≡ v.queued
        → StaysLinked w stored base ended_past (released j left)
    StaysLinked-ended v left points point next s h requests queued = record {
      gatherings = All-filter (λ (e : ℕ × Requested B C I). not (is_on j e.1.phase)) (λ e. IsGathered (setting w stored) ended_past e.1) left.requests
          (rw requests behind.gatherings);
      reaches = rw queued behind.reaches;
    }
      where
        came : StaysLinked w stored base (Came (Turn j) ∷ p) v
        came = StaysLinked-on w stored base p (Came (Turn j)) tt
            (TrueNames-before_marks (setting w stored) (Came (Turn j) ∷ p) (Ended j how ∷ []) names-turned) v
            (queue-met w stored p v.queued v.recovered s.queue) h

        behind : StaysLinked w stored base ended_past v
        behind = StaysLinked-on w stored base (Came (Turn j) ∷ p) (Made (Ended j how)) tt names-turned v
            (met_on w stored base p (Came (Turn j)) v.queued (queue-met w stored p v.queued v.recovered s.queue)) came

module _ {B C I P R D H G U : Type 0} (w : Workings B C I P R D H G U) (stored : ℕ → Option (Named B)) (base : w.States) (tip : Anchor)
    (other_states : (n i : w.Ids) (x y : w.States) (c : List (Point w)) → w.kind.issued n ((i, x) ∷ c) → w.kind.issued n ((i, y) ∷ c)) where
  abbrev Any_mark : Past B C I → Mark B → Type 0
  Any_mark p mark = Unit {0}

  abbrev Stays : Past B C I → Moment w → Type 0
  Stays p m = StaysLinked w stored base p m.state

  any_marks : (x : Past B C I) (ms : List (Mark B)) → EachMark Any_mark x ms
  any_marks x [] = tt
  any_marks x (mark ∷ ms) = (tt, any_marks (Made mark ∷ x) ms)

  module _ (points : Digest → Point w) (point : Point w) (b : Named B) (how : How) where
    -- a request that waited for the run, with which linked blocks came
    record WaitedLinked (p : Past B C I) (pause : Pause) (anchor : Anchor) (cache : List (Cached U)) (r : Released B C I) : Type 0 where
      waited : HasWaited w stored base tip b how p pause anchor cache r
      linked : AreLinked (setting w stored) (gathered r.request [])

    abbrev AreFollowing : List (Released B C I) → Past B C I → Moment w → Type 0
    AreFollowing = AreGrounded w stored base points point tip Any_mark ticket_of request_of WaitedLinked Stays

    linked-follow : (rs : List (Released B C I)) (p : Past B C I) (m last : Moment w) → AreFollowing rs p m → InTurn (Follows w b how) rs m last
        → KeepsReady w Any_mark (Follows w b how) AreFollowing [] p m last
    linked-follow rs p m last ready turns =
        AreGrounded-in_turn w stored base points point tip Any_mark ticket_of request_of WaitedLinked (Follows w b how)
        (λ p m now r ready hand h rule. Serves-follows w stored points point other_states b how p m now r ready (record { hand = hand; way = h.waited.way }) rule)
        (λ m now r rule. LeavesBehind-follows w b how r m now rule)
        (λ p q pause anchor cache r c h. record {
          waited = HasWaited-same w stored base tip b how p q pause anchor cache r c h.waited;
          linked = h.linked;
        }) Stays
        (λ p m now r more is g hand h rule c st.
        StaysLinked-follows w stored base p points point m now g.ready.stands st more is
        (λ x y has_x has_y. g.ready.names x y ((c.same.met x).0 has_x) ((c.same.met y).0 has_y)) b how r h.linked
        (λ any kept all. follows-known w stored base p points point m tip g.ground b r h.waited.way h.waited.leads any kept all) rule)
        (λ p m now r g hand h st rule. let k = follows-marks w p m now b how r rule in
        record { more = k.more; marks_are = k.marks_are; each = any_marks p k.more })
        rs p m last ready turns

  module _ (p : Past B C I) (points : Digest → Point w) (point : Point w) (m : Moment w) (s : TablesStand w stored p points point m.next m.state)
      (g : IsGround w stored base p points point m.next tip m.state.pause m.state.anchor m.state.cache) (ways : WaysStand w stored p tip m.state)
      (located : w.kind.point m.members ≡ Some point) (drawn : w.kind.issued m.next (point ∷ [])) (honest : IsHonest (setting w stored) p)
      (answered : IsAnswered p) (j : ℕ) (b : Named B) (o : Option U) (how : How) (h : StaysLinked w stored base p m.state) where
    abbrev q : Past B C I
    q = Made (Ended j how) ∷ Came (Turn j) ∷ p

    module _ (live : LiveRun B R) (live_is : at m.state.runs j ≡ Some live) (turned : R) (turns : Turns w m.members live.run turned (Done o))
        (done last : Moment w)
        (ends : EndsRun w (record m { state = record m.state { runs = put m.state.runs j (record live { run = turned }) } }) j b o how done)
        (r : IsReleased w stored q point j b done) where
      abbrev left : Tables B C I R U
      left = record m.state { cache = ends.cache; runs = without (put m.state.runs j (record live { run = turned })) j; pause = ends.pause }

      abbrev Now : Moment w
      Now = moment w left m.members m.next (m.marks ++ Ended j how ∷ [])

      linked_turned : InTurn (Follows w b how) (released_on j done.state.requests) (record done { state = released j done.state }) last
          → LinkedBehind w stored base (Came (Turn j) ∷ p) m last
      linked_turned follow =
          let now_is : done ≡ Now = ends.becomes in
          let rel : IsReleased w stored q point j b Now = subst (λ (n : Moment w). IsReleased w stored q point j b n) now_is r in
          let turns_on : InTurn (Follows w b how) (released_on j m.state.requests) (record Now { state = released j left }) last =
          subst (λ (n : Moment w). InTurn (Follows w b how) (released_on j n.state.requests) (record n { state = released j n.state }) last)
          now_is follow in
          let on : AreWaiting w stored base tip rel.points point Stop [] other_states b how (released_on j m.state.requests) q
          (record Now { state = released j left }) =
          waiting w stored base p points point tip m s g ways located drawn j b o how live live_is turned turns done ends r Stop [] other_states rel in
          let linked : CameLinked w stored base (released_on j m.state.requests) =
          released-linked w stored base p honest answered m.state h.gatherings j in
          let start : AreFollowing rel.points point b how (released_on j m.state.requests) q (record Now { state = released j left }) =
          record {
            grounded = on.grounded;
            stays = StaysLinked-ended w stored base p j how g.names m.state left points point m.next s h refl refl;
            hands = on.hands;
            apart = on.apart;
            also = λ k d l. record { waited = on.also k d l; linked = linked k d l };
          } in
          let k = linked-follow rel.points point b how (released_on j m.state.requests) q (record Now { state = released j left }) last start turns_on in
          record {
            more = Ended j how ∷ k.more;
            marks_are = k.marks_are ∙ append_assoc m.marks (Ended j how ∷ []) k.more;
            stays = k.ready.stays;
          }

    -- It stays so after the last turn of a run, and the requests that waited for it.
    pub StaysLinked-settled : (count : R → ℕ) (had : Tables B C I R U) → TurnsRun w count m.members j m.state had (Ok (Done o)) → (done last : Moment w)
        → EndsRun w (record m { state = had }) j b o how done → IsReleased w stored q point j b done
        → InTurn (Follows w b how) (released_on j done.state.requests) (record done { state = released j done.state }) last
        → LinkedBehind w stored base (Came (Turn j) ∷ p) m last
    StaysLinked-settled count had turns done last ends r follow =
        let e : EndsRun w (record m { state = record m.state { runs = put m.state.runs j (record turns.live { run = turns.turned }) } }) j b o how done =
        subst (λ (t : Tables B C I R U). EndsRun w (record m { state = t }) j b o how done) turns.state ends in
        linked_turned turns.live turns.live_is turns.turned turns.turns done last e r follow
