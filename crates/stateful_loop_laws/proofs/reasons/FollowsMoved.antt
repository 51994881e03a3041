-- The requests that waited for a run follow its end in turn, once the anchor has moved on: what a rule on marks and what stays are
-- carried by from one to the next.
use Rattle.std.proofs.Common.{◌≡◌, ◌≢◌, ◌++◌, ℕ, suc, get_or, List, [], ◌∷◌, All, AllPairs, Option, Some, inr, refl, sym, ◌∙◌, subst, arith}
use Rattle.std.proofs.lemmas.List.{append_cancel_left}
use Rattle.std.proofs.lemmas.List.Elements.{All-head, All-tail}
use Rattle.stateful_base.specs.Names.{Named}
use Rattle.stateful_base.specs.declared.anchor.Anchor.{Anchor}
use Rattle.stateful_base.specs.declared.digest.Digest.{Digest}
use Rattle.stateful_base.specs.declared.outcome.Moved.TheVariants.{Done}
use Rattle.stateful_db.specs.Laws.{Laws}
use Rattle.stateful_history.specs.Met.{TrueNames}
use Rattle.stateful_history.specs.Past.{Past, Came, Made, EachMark, after}
use Rattle.stateful_history.specs.declared.event.Event.TheVariants.{Turn}
use Rattle.stateful_history.specs.declared.mark.How.{How}
use Rattle.stateful_history.specs.declared.mark.Mark.{Mark}
use Rattle.stateful_history.specs.declared.mark.Mark.TheVariants.{Ended}
use Rattle.stateful_exec_cache.specs.declared.cache.Cached.{Cached}
use Rattle.stateful_table.specs.Table.{at, put, without}
use Rattle.stateful_exec_tables.specs.Tables.{released}
use Rattle.stateful_exec_model.specs.Ending.{IsTold, EndsRun, Turns, InTurn, Follows}
use Rattle.stateful_exec_model.specs.Moments.{Moment, moment}
use Rattle.stateful_exec_tables.specs.Phase.{released_on}
use Rattle.stateful_exec_model.specs.Workings.{Workings, Point}
use Rattle.stateful_exec_pause.specs.declared.pause.Pause.{Pause}
use Rattle.stateful_exec_pause.specs.declared.pause.Pause.TheVariants.{Free}
use Rattle.stateful_exec_tables.specs.declared.state.Tables.{Tables}
use Rattle.stateful_exec_tables.specs.declared.tables.LiveRun.{LiveRun}
use Rattle.stateful_exec_tables.specs.declared.tables.Phase.{Phase}
use Rattle.stateful_exec_tables.specs.declared.tables.Released.{Released}
use Rattle.stateful_exec_laws.specs.Crossing.{HasMovedSo}
use Rattle.stateful_exec_laws.specs.Requesting.{steps}
use Rattle.stateful_exec_laws.specs.Setting.{setting}
use Rattle.stateful_exec_laws.specs.Standing.{TablesStand, IsInHand}
use Rattle.stateful_exec_laws.specs.Ways.{KeepOff, IsUnsettled, IsOnOpenWay, WaysStand}
use Rattle.stateful_exec_laws.proofs.earned.Carried.{IsMild}
use Rattle.stateful_exec_laws.proofs.earned.Left.{LeavesBehind, LeavesBehind-follows}
use Rattle.stateful_exec_laws.proofs.ended.Left.{All-released}
use Rattle.stateful_exec_laws.proofs.ended.Rule.{IsReleased, same_block, told_so}
use Rattle.stateful_exec_laws.proofs.ended.FollowStands.{ticket_of, Serves-follows}
use Rattle.stateful_exec_laws.proofs.pauses.InTurn.{IsReady}
use Rattle.stateful_exec_laws.proofs.pauses.KeptInTurn.{IsCarried, IsCarried-served}
use Rattle.stateful_exec_laws.proofs.requests.KeptMarks.{KeepsBehind, KeepsReady, KeepsReady-in_turn, EachMark-behind}
use Rattle.stateful_exec_laws.proofs.front.MovedStands.{TablesStand-free}
use Rattle.stateful_exec_laws.proofs.reasons.Ended.{HasEnded, HasEnded-told}
use Rattle.stateful_exec_laws.proofs.reasons.Followed.{HasEnded-same, HasWaited, HasWaited-same}
use Rattle.stateful_exec_laws.proofs.reasons.Settled.{IsSamePast-turned}
use Rattle.stateful_exec_laws.proofs.requests.Served.{Serves}
use Rattle.stateful_exec_laws.proofs.ways.Kept.{IsUnsettled-same}
use Rattle.stateful_loop_laws.specs.Execution.{IsFree, HasMovedOn}
use Rattle.stateful_loop_laws.proofs.places.Places.{IsFree-mild}

-- from one moment to a later one some marks are made, each keeps the rule, and this stays behind them
pub record KeepsAndStays {B C I P R D H G U : Type 0} (w : Workings B C I P R D H G U) (Rule : Past B C I → Mark B → Type 0)
    (Stays : Past B C I → Moment w → Type 0) (p : Past B C I) (m now : Moment w) : Type 0 where
  pub more : List (Mark B)
  pub marks_are : now.marks ≡ m.marks ++ more
  pub each : EachMark Rule p more
  pub stays : Stays (after p more) now

module _ {B C I P R D H G U : Type 0} (w : Workings B C I P R D H G U) (stored : ℕ → Option (Named B)) (base : w.States)
    (points : Digest → Point w) (point : Point w) (tip : Anchor)
    (other_states : (n i : w.Ids) (x y : w.States) (c : List (Point w)) → w.kind.issued n ((i, x) ∷ c) → w.kind.issued n ((i, y) ∷ c))
    (b : Named B) (how : How) where
  abbrev pub Waited : Past B C I → Moment w → Released B C I → Type 0
  Waited p m r = HasWaited w stored base tip b how p m.state.pause m.state.anchor m.state.cache r

  abbrev pub InHand : Past B C I → Moment w → Released B C I → Type 0
  InHand p m r = IsInHand w stored p r.ticket r.request m.state

  -- the anchor has moved on, and nothing else pauses
  pub record HasMovedAt (p : Past B C I) (m : Moment w) : Type 0 where
    pub ready : IsReady w stored points point p m
    pub free : IsFree w stored base p points point m.next (record m.state { pause = Free })
    pub moved : HasMovedSo m.state

  -- the requests are in hand, of tickets of their own, each on its way over the block whose run has ended, the anchor has moved on,
  -- this holds of each, and this stays
  pub record AreToFollow (Besides : Released B C I → Type 0) (Stays : Past B C I → Moment w → Type 0) (rs : List (Released B C I)) (p : Past B C I) (m : Moment w) : Type 0 where
    pub at : HasMovedAt p m
    pub stays : Stays p m
    pub tip_is : tip ≡ m.state.anchor
    pub hands : All (InHand p m) rs
    pub apart : AllPairs (λ x y. ticket_of x ≢ ticket_of y) rs
    pub also : All (Waited p m) rs
    pub besides : All Besides rs

  same_tables : (q : Past B C I) (r : Released B C I) (pause x : Pause) (anchor y : Anchor) (cache z : List (Cached U)) → x ≡ pause → y ≡ anchor
      → z ≡ cache → HasWaited w stored base tip b how q pause anchor cache r → HasWaited w stored base tip b how q x y z r
  same_tables q r pause x anchor y cache z is_x is_y is_z h = rw (is_x, is_y, is_z) h

  module _ (Rule : Past B C I → Mark B → Type 0) (Besides : Released B C I → Type 0) (Stays : Past B C I → Moment w → Type 0)
      (keeps : (p : Past B C I) (m now : Moment w) (r : Released B C I) → HasMovedAt p m → tip ≡ m.state.anchor → InHand p m r → Waited p m r → Stays p m
      → Follows w b how r m now → KeepsBehind w Rule p m now)
      (stay : (p : Past B C I) (m now : Moment w) (r : Released B C I) (more : List (Mark B)) → now.marks ≡ m.marks ++ more → HasMovedAt p m → Waited p m r
      → Besides r → TrueNames (setting w stored) (after p more) → Follows w b how r m now → Stays p m → Stays (after p more) now) where
    -- one of them is served, and the others are to follow behind it
    one_follows : (r : Released B C I) (rs : List (Released B C I)) (p : Past B C I) (m now : Moment w) → AreToFollow Besides Stays (r ∷ rs) p m
        → Follows w b how r m now → KeepsReady w Rule (Follows w b how) (AreToFollow Besides Stays) rs p m now
    one_follows r rs p m now a rule = record {
      more = v.behind.more;
      marks_are = v.behind.marks_are;
      each = EachMark-behind w Rule p m now v.behind.more v.behind.marks_are
          (keeps p m now r a.at a.tip_is hand waited a.stays rule);
      ready = record {
        at = record {
          ready = record { stands = v.behind.stands; names = names; located = rw v.behind.members_are a.at.ready.located; drawn = v.drawn a.at.ready.drawn };
          free = IsFree-mild w stored base p points point m.next (record m.state { pause = Free }) v.behind.more
              (subst (λ (ms : List (Mark B)). All (λ x. IsMild x) ms)
              (append_cancel_left m.marks l.more v.behind.more (sym l.marks_are ∙ v.behind.marks_are)) l.mild)
              names now.next (record now.state { pause = Free }) (record { anchor = l.left.anchor; cache = l.left.cache; pause = refl })
              (TablesStand-free w stored
              (after p v.behind.more) points point now.next now.state moved.boundary moved.pause_is moved.moved v.behind.stands) a.at.free;
          moved = moved;
        };
        stays = stay p m now r v.behind.more v.behind.marks_are a.at waited (All-head Besides r rs a.besides) names rule a.stays;
        tip_is = a.tip_is ∙ sym l.left.anchor;
        hands = λ k d within. v.others (get_or rs k d).ticket (get_or rs k d).request
            (λ is. a.apart 0 (suc k) d (omega arith) (omega (arith, within)) (sym is)) (All-tail (InHand p m) r rs a.hands k d within);
        apart = λ i k d lt within. a.apart (suc i) (suc k) d (omega (arith, lt)) (omega (arith, within));
        also = λ k d within. same_tables (after p v.behind.more) (get_or rs k d) m.state.pause now.state.pause m.state.anchor now.state.anchor
            m.state.cache now.state.cache l.left.pause l.left.anchor l.left.cache
            (HasWaited-same w stored base tip b how p (after p v.behind.more) m.state.pause m.state.anchor m.state.cache (get_or rs k d) carried
            (All-tail (Waited p m) r rs a.also k d within));
        besides = All-tail Besides r rs a.besides;
      };
    }
      where
        hand : InHand p m r
        hand = All-head (InHand p m) r rs a.hands

        waited : Waited p m r
        waited = All-head (Waited p m) r rs a.also

        v : Serves w stored p points point m r.ticket now
        v = Serves-follows w stored points point other_states b how p m now r a.at.ready (record { hand = hand; way = waited.way }) rule

        l : LeavesBehind w m now
        l = LeavesBehind-follows w b how r m now rule

        names : TrueNames (setting w stored) (after p v.behind.more)
        names x y has_x has_y = a.at.ready.names x y ((v.met x).0 has_x) ((v.met y).0 has_y)

        carried : IsCarried w stored p (after p v.behind.more)
        carried = IsCarried-served w stored base points point tip p m now r.ticket v l

        moved : HasMovedSo now.state
        moved = record {
          boundary = a.at.moved.boundary;
          pause_is = l.left.pause ∙ a.at.moved.pause_is;
          moved = rw
              (l.left.anchor, l.left.cache) a.at.moved.moved;
        }

    -- each mark of the requests that follow keeps the rule
    pub to_follow : (rs : List (Released B C I)) (p : Past B C I) (m last : Moment w) → AreToFollow Besides Stays rs p m → InTurn (Follows w b how) rs m last
        → KeepsReady w Rule (Follows w b how) (AreToFollow Besides Stays) [] p m last
    to_follow rs p m last ready turns = KeepsReady-in_turn w Rule (Follows w b how) (AreToFollow Besides Stays) one_follows rs p m last ready turns

module _ {B C I P R D H G U : Type 0} (w : Workings B C I P R D H G U) (laws : Laws w.kind) (stored : ℕ → Option (Named B)) (base : w.States)
    (p : Past B C I) (points : Digest → Point w) (point : Point w) (m : Moment w)
    (s : TablesStand w stored p points point m.next m.state) (located : w.kind.point m.members ≡ Some point)
    (drawn : w.kind.issued m.next (point ∷ [])) (f : HasMovedOn w stored base p points point m.next m.state)
    (ways : WaysStand w stored p m.state.anchor m.state) (j : ℕ) (b : Named B) (o : Option U) (how : How) where
  abbrev q : Past B C I
  q = Made (Ended j how) ∷ Came (Turn j) ∷ p

  names : TrueNames (setting w stored) q
  names x y has_x has_y = f.ground.names x y (((IsSamePast-turned (setting w stored) p j how).met x).0 has_x)
      (((IsSamePast-turned (setting w stored) p j how).met y).0 has_y)

  abbrev tip_now : Anchor
  tip_now = m.state.anchor

  s_free : TablesStand w stored p points point m.next (record m.state { pause = Free })
  s_free = TablesStand-free w stored p points point m.next m.state f.moved.boundary f.moved.pause_is f.moved.moved s

  module _ (live : LiveRun B R) (live_is : at m.state.runs j ≡ Some live) (turned : R) (turns : Turns w m.members live.run turned (Done o))
      (done : Moment w)
      (ends : EndsRun w (record m { state = record m.state { runs = put m.state.runs j (record live { run = turned }) } }) j b o how done) where
    abbrev left : Tables B C I R U
    left = record m.state { cache = ends.cache; runs = without (put m.state.runs j (record live { run = turned })) j; pause = ends.pause }

    abbrev Now : Moment w
    Now = moment w left m.members m.next (m.marks ++ Ended j how ∷ [])

    told : IsTold w m.state.anchor live.block m.state.cache ends.cache o how
    told = told_so w stored p point m j b o how done live live_is turned ends

    has_ended : HasEnded w stored base q m.state.anchor ends.cache b how
    has_ended =
        HasEnded-same w stored base m.state.anchor p q (IsSamePast-turned (setting w stored) p j how) m.state.anchor ends.cache b how
        (subst (λ (x : Named B). HasEnded w stored base p m.state.anchor ends.cache x how)
        (same_block w stored p point m j b o how done live live_is turned ends)
        (HasEnded-told w stored base p points point m.next (record m.state { pause = Free }) s_free m.state.anchor f.ground j live live_is m.members
        located turned ends.cache turns told))

    -- the way of each request that waited
    abbrev IsClear : Released B C I → Type 0
    IsClear x = KeepOff m.state.anchor (steps x.path) × IsUnsettled w stored p m.state.anchor x.request

    clear : All IsClear (released_on j m.state.requests)
    clear = All-released j IsClear m.state.requests (λ k d l path is.
        let e = get_or m.state.requests k d in
        subst (λ (phase : Phase B). IsOnOpenWay w stored p m.state.anchor m.state.pause m.state.anchor m.state.cache e.1.request phase) is
        (ways k d l))

    module _ (Besides : Released B C I → Type 0) (besides : All Besides (released_on j m.state.requests)) (Stays : Past B C I → Moment w → Type 0)
        (stays : Stays q (record Now { state = released j left })) where
      start : (rel : IsReleased w stored q point j b Now) → HasMovedSo left
          → AreToFollow w stored base rel.points point m.state.anchor laws.ids.issued_other b how Besides Stays (released_on j m.state.requests) q
          (record Now { state = released j left })
      start rel moved = record {
        at = record {
          ready = record { stands = rel.tables; names = names; located = located; drawn = drawn };
          free = record {
            pause_is = refl;
            ground = record {
              stands = (TablesStand-free w stored q rel.points point m.next (released j left) moved.boundary moved.pause_is moved.moved rel.tables).cache;
              at_anchor = rel.tables.at_anchor;
              names = names;
              folded = record { anchor_is = f.ground.folded.anchor_is; tip_is = f.ground.folded.tip_is; folded = f.ground.folded.folded };
              top = record { block = f.ground.top.block; met = inr (inr f.ground.top.met); is = f.ground.top.is };
              tip_by = refl;
            };
          };
          moved = record { boundary = moved.boundary; pause_is = moved.pause_is; moved = moved.moved };
        };
        stays = stays;
        tip_is = refl;
        hands = λ k d l. let t = rel.in_hand k d l in record
            { absent = t.gone; not_queued = t.unqueued; own = t.own; brought = t.brought; asked = t.asked };
        apart = rel.apart;
        also = λ k d l.
            let t = rel.in_hand k d l in
            let c = clear k d l in
            record {
              way = t.way;
              leads = t.leads;
              off = c.0;
              unsettled = IsUnsettled-same w stored m.state.anchor p q (IsSamePast-turned (setting w stored) p j how)
                  (get_or (released_on j m.state.requests) k d).request c.1;
              ended = has_ended;
            };
        besides = besides;
      }

      module _ (Rule : Past B C I → Mark B → Type 0)
          (keeps : (points : Digest → Point w) (p : Past B C I) (m now : Moment w) (r : Released B C I)
          → HasMovedAt w stored base points point tip_now laws.ids.issued_other b how p m → tip_now ≡ m.state.anchor
          → InHand w stored base points point tip_now laws.ids.issued_other b how p m r
          → Waited w stored base points point tip_now laws.ids.issued_other b how p m r → Stays p m → Follows w b how r m now → KeepsBehind w Rule p m now)
          (stay : (points : Digest → Point w) (p : Past B C I) (m now : Moment w) (r : Released B C I) (more : List (Mark B)) → now.marks ≡ m.marks ++ more
          → HasMovedAt w stored base points point tip_now laws.ids.issued_other b how p m
          → Waited w stored base points point tip_now laws.ids.issued_other b how p m r → Besides r → TrueNames (setting w stored) (after p more)
          → Follows w b how r m now → Stays p m → Stays (after p more) now) (last : Moment w) where
        -- After the end of a run, once the anchor has moved on, the requests that waited for it make marks that keep the rule, and
        -- what is to stay stays.
        pub follow-moved : IsReleased w stored q point j b done → HasMovedSo done.state
            → InTurn (Follows w b how) (released_on j done.state.requests) (record done { state = released j done.state }) last
            → KeepsAndStays w Rule Stays q Now last
        follow-moved r moved follow =
            let now_is : done ≡ Now = ends.becomes in
            let rel : IsReleased w stored q point j b Now = subst (λ (n : Moment w). IsReleased w stored q point j b n) now_is r in
            let moved_now : HasMovedSo left = subst (λ (n : Moment w). HasMovedSo n.state) now_is moved in
            let turns_on : InTurn (Follows w b how) (released_on j m.state.requests) (record Now { state = released j left }) last =
            subst (λ (n : Moment w). InTurn (Follows w b how) (released_on j n.state.requests)
            (record n { state = released j n.state }) last) now_is follow in
            let k = to_follow w stored base rel.points point tip_now laws.ids.issued_other b how Rule Besides Stays (keeps rel.points) (stay rel.points)
            (released_on j m.state.requests) q (record Now { state = released j left }) last (start rel moved_now) turns_on in
            record { more = k.more; marks_are = k.marks_are; each = k.each; stays = k.ready.stays }
