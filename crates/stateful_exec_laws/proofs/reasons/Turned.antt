-- False verdicts and declines have their reasons: the rule of the last turn of a run, and of what follows it.
use Rattle.std.proofs.Common.{◌≡◌, ◌++◌, inr, ℕ, not, get_or, List, [], ◌∷◌, All, Option, Some, Ok, refl, ◌∙◌, subst}
use Rattle.std.proofs.lemmas.List.{append_assoc}
use Rattle.std.proofs.lemmas.List.Elements.{All-weaker, All-filter}
use Rattle.stateful_base.specs.Names.{Named}
use Rattle.stateful_base.specs.declared.anchor.Anchor.{Anchor}
use Rattle.stateful_base.specs.declared.digest.Digest.{Digest}
use Rattle.stateful_base.specs.declared.outcome.Moved.TheVariants.{Done}
use Rattle.stateful_history.specs.Met.{TrueNames}
use Rattle.stateful_history.specs.Past.{Past, Came, Made}
use Rattle.stateful_history.specs.declared.event.Event.{Event}
use Rattle.stateful_history.specs.declared.event.Event.TheVariants.{Turn}
use Rattle.stateful_history.specs.declared.mark.How.{How}
use Rattle.stateful_history.specs.declared.mark.Mark.{Mark}
use Rattle.stateful_history.specs.declared.mark.Mark.TheVariants.{Ended}
use Rattle.stateful_table.specs.Table.{at, put, without}
use Rattle.stateful_exec_pause.specs.Fates.{Crosses}
use Rattle.stateful_exec_tables.specs.Tables.{released}
use Rattle.stateful_exec_model.specs.Ending.{IsTold, EndsRun, TurnsRun, Turns, InTurn, Follows}
use Rattle.stateful_exec_model.specs.Moments.{Moment, moment}
use Rattle.stateful_exec_tables.specs.Phase.{is_on, released_on}
use Rattle.stateful_exec_model.specs.Workings.{Workings, Point}
use Rattle.stateful_exec_tables.specs.declared.state.Tables.{Tables}
use Rattle.stateful_exec_tables.specs.declared.tables.LiveRun.{LiveRun}
use Rattle.stateful_exec_tables.specs.declared.tables.Phase.{Phase}
use Rattle.stateful_exec_tables.specs.declared.tables.Released.{Released}
use Rattle.stateful_exec_tables.specs.declared.tables.Requested.{Requested}
use Rattle.stateful_exec_laws.specs.Setting.{setting}
use Rattle.stateful_exec_laws.specs.Requesting.{steps}
use Rattle.stateful_exec_laws.specs.Running.{IsRunning}
use Rattle.stateful_exec_laws.specs.Standing.{TablesStand}
use Rattle.stateful_exec_laws.specs.Ways.{KeepOff, IsUnsettled, IsOnOpenWay, WaysStand}
use Rattle.stateful_exec_laws.proofs.earned.Closed.{IsClosedBy-ended}
use Rattle.stateful_exec_laws.proofs.ended.Left.{All-released}
use Rattle.stateful_exec_laws.proofs.ended.Rule.{IsReleased, same_block, told_so, crosses_so}
use Rattle.stateful_exec_laws.proofs.ended.Stands.{running}
use Rattle.stateful_exec_laws.proofs.requests.KeptMarks.{KeepsBehind}
use Rattle.stateful_exec_laws.proofs.reasons.Advances.{closed_by}
use Rattle.stateful_exec_laws.proofs.reasons.Ended.{HasEnded, HasEnded-told}
use Rattle.stateful_exec_laws.proofs.reasons.Followed.{HasEnded-same, AreWaiting, AreWaiting-follow}
use Rattle.stateful_exec_laws.proofs.reasons.Ground.{IsGround, IsTipBy, IsTipBy-longer, IsOfBlock-longer, IsFolded-longer, round_of_top}
use Rattle.stateful_exec_laws.proofs.reasons.Marks.{HasItsReason}
use Rattle.stateful_exec_laws.proofs.reasons.Settled.{IsSamePast-turned, told_in, IsTipBy-crossed, open_crossed}
use Rattle.stateful_exec_laws.proofs.ways.Kept.{on_open_way}

module _ {B C I P R D H G U : Type 0} (w : Workings B C I P R D H G U) (stored : ℕ → Option (Named B)) (base : w.States) (p : Past B C I) (points : Digest → Point w) (point : Point w) (tip : Anchor) (m : Moment w)
    (s : TablesStand w stored p points point m.next m.state) (g : IsGround w stored base p points point m.next tip m.state.pause m.state.anchor m.state.cache) (ways : WaysStand w stored p tip m.state)
    (located : w.kind.point m.members ≡ Some point) (drawn : w.kind.issued m.next (point ∷ []))
    (j : ℕ) (b : Named B) (o : Option U) (how : How) where
  abbrev q : Past B C I
  q = Made (Ended j how) ∷ Came (Turn j) ∷ p

  names : TrueNames (setting w stored) q
  names x y has_x has_y = g.names x y (((IsSamePast-turned (setting w stored) p j how).met x).0 has_x) (((IsSamePast-turned (setting w stored) p j how).met y).0 has_y)

  -- what the run has left
  module _ (live : LiveRun B R) (live_is : at m.state.runs j ≡ Some live) (turned : R) (turns : Turns w m.members live.run turned (Done o)) (done : Moment w)
      (ends : EndsRun w (record m { state = record m.state { runs = put m.state.runs j (record live { run = turned }) } }) j b o how done) (r : IsReleased w stored q point j b done) where
    abbrev left : Tables B C I R U
    left = record m.state { cache = ends.cache; runs = without (put m.state.runs j (record live { run = turned })) j; pause = ends.pause }

    told : IsTold w m.state.anchor live.block m.state.cache ends.cache o how
    told = told_so w stored p point m j b o how done live live_is turned ends

    crosses : Crosses w.header live.block m.state.pause ends.pause
    crosses = crosses_so w stored p point m j b o how done live live_is turned ends

    block_is : live.block ≡ b
    block_is = same_block w stored p point m j b o how done live live_is turned ends

    own : IsRunning w stored p points m.next m.state.anchor m.state.cache j live
    own = running w stored p points point m.next m.state s j live live_is

    tip_by : IsTipBy w stored q ends.pause m.state.anchor ends.cache tip
    tip_by =
        IsTipBy-longer w stored base points point tip p q (λ x met. inr (inr met)) refl refl refl ends.pause m.state.anchor ends.cache
        (IsTipBy-crossed w stored live.block m.state.anchor p tip m.state.pause ends.pause m.state.cache ends.cache g.tip_by crosses
        (IsClosedBy-ended w stored p points m.next m.state.anchor m.state.cache g.names (round_of_top w stored base p points point m.next tip m.state.pause m.state.anchor m.state.cache g) live.block own.met m.state.pause ends.pause ends.cache o how g.stands
        (closed_by w stored base p points point m.next tip m.state.pause m.state.anchor m.state.cache g) told crosses))

    -- how the run ended
    ended : HasEnded w stored base q m.state.anchor ends.cache b how
    ended =
        HasEnded-same w stored base tip p q (IsSamePast-turned (setting w stored) p j how) m.state.anchor ends.cache b how
        (subst (λ (x : Named B). HasEnded w stored base p m.state.anchor ends.cache x how) block_is
        (HasEnded-told w stored base p points point m.next m.state s tip g j live live_is m.members located turned ends.cache turns told))

    open_now : All (λ (e : ℕ × Requested B C I). IsOnOpenWay w stored q tip ends.pause m.state.anchor ends.cache e.1.request e.1.phase) m.state.requests
    open_now =
        All-weaker (λ (e : ℕ × Requested B C I). IsOnOpenWay w stored p tip m.state.pause m.state.anchor m.state.cache e.1.request e.1.phase) (λ e. IsOnOpenWay w stored q tip ends.pause m.state.anchor ends.cache e.1.request e.1.phase)
        (λ e h. on_open_way w stored tip p q (IsSamePast-turned (setting w stored) p j how) ends.pause m.state.anchor ends.cache e.1.request e.1.phase
        (open_crossed w stored live.block m.state.anchor p tip m.state.pause ends.pause m.state.cache ends.cache crosses (λ d any. told_in w stored live.block m.state.anchor d m.state.cache ends.cache o how told any) e.1.request e.1.phase h)) m.state.requests ways

    -- the way of each request that waited
    abbrev IsClear : Released B C I → Type 0
    IsClear x = KeepOff m.state.anchor (steps x.path) × IsUnsettled w stored q tip x.request

    clear : All IsClear (released_on j m.state.requests)
    clear = All-released j IsClear m.state.requests (λ k d l path is.
        let e = get_or m.state.requests k d in
        subst (λ (phase : Phase B). IsOnOpenWay w stored q tip ends.pause m.state.anchor ends.cache e.1.request phase) is (open_now k d l))

    module _ (event : Event B C I) (marks : List (Mark B)) (other_states : (n i : w.Ids) (x y : w.States) (c : List (Point w)) → w.kind.issued n ((i, x) ∷ c) → w.kind.issued n ((i, y) ∷ c)) where
      abbrev pub Now : Moment w
      Now = moment w left m.members m.next (m.marks ++ Ended j how ∷ [])

      pub waiting : (rel : IsReleased w stored q point j b Now) → AreWaiting w stored base tip rel.points point event marks other_states b how (released_on j m.state.requests) q (record Now { state = released j left })
      waiting rel = record {
        grounded = record {
          ready = record { stands = rel.tables; names = names; located = located; drawn = drawn };
          ground = record {
            stands = rel.tables.cache;
            at_anchor = rel.tables.at_anchor;
            names = names;
            folded = IsFolded-longer w stored base points point tip p q (λ x met. inr (inr met)) refl refl refl m.state.anchor g.folded;
            top = IsOfBlock-longer w stored base points point tip p q (λ x met. inr (inr met)) refl refl refl m.state.anchor g.top;
            tip_by = tip_by;
          };
        };
        stays = All-filter (λ (e : ℕ × Requested B C I). not (is_on j e.1.phase)) (λ e. IsOnOpenWay w stored q tip ends.pause m.state.anchor ends.cache e.1.request e.1.phase) m.state.requests open_now;
        hands = λ k d l. let t = rel.in_hand k d l in record { absent = t.gone; not_queued = t.unqueued; own = t.own; brought = t.brought; asked = t.asked };
        apart = rel.apart;
        also = λ k d l. let t = rel.in_hand k d l in let c = clear k d l in record { way = t.way; leads = t.leads; off = c.0; unsettled = c.1; ended = ended };
      }

      -- each mark from the end of the run on keeps the rule
      reason_turned : (last : Moment w) → InTurn (Follows w b how) (released_on j done.state.requests) (record done { state = released j done.state }) last → KeepsBehind w (HasItsReason w stored base event marks) (Came (Turn j) ∷ p) m last
      reason_turned last follow =
          let now_is : done ≡ Now = ends.becomes in
          let rel : IsReleased w stored q point j b Now = subst (λ (n : Moment w). IsReleased w stored q point j b n) now_is r in
          let turns_on : InTurn (Follows w b how) (released_on j m.state.requests) (record Now { state = released j left }) last = subst (λ (n : Moment w). InTurn (Follows w b how) (released_on j n.state.requests) (record n { state = released j n.state }) last) now_is follow in
          let k = AreWaiting-follow w stored base tip rel.points point event marks other_states b how (released_on j m.state.requests) q (record Now { state = released j left }) last (waiting rel) turns_on in
          record {
            more = Ended j how ∷ k.more;
            marks_are = k.marks_are ∙ append_assoc m.marks (Ended j how ∷ []) k.more;
            each = ((tt, tt), k.each);
          }

  -- Each mark after the last turn of a run keeps the rule: that of its end, and those of the requests that waited for it.
  pub settled-reason : (event : Event B C I) (marks : List (Mark B)) (other_states : (n i : w.Ids) (x y : w.States) (c : List (Point w)) → w.kind.issued n ((i, x) ∷ c) → w.kind.issued n ((i, y) ∷ c))
      → (count : R → ℕ) (had : Tables B C I R U) → TurnsRun w count m.members j m.state had (Ok (Done o)) → (done last : Moment w) → EndsRun w (record m { state = had }) j b o how done → IsReleased w stored q point j b done
      → InTurn (Follows w b how) (released_on j done.state.requests) (record done { state = released j done.state }) last → KeepsBehind w (HasItsReason w stored base event marks) (Came (Turn j) ∷ p) m last
  settled-reason event marks other_states count had turns done last ends r follow =
      let e : EndsRun w (record m { state = record m.state { runs = put m.state.runs j (record turns.live { run = turns.turned }) } }) j b o how done = subst (λ (t : Tables B C I R U). EndsRun w (record m { state = t }) j b o how done) turns.state ends in
      reason_turned turns.live turns.live_is turns.turned turns.turns done e r event marks other_states last follow
