-- True verdicts are earned: those of the requests that follow the end of a run, also once the finalized block is the anchor.
use Rattle.std.proofs.Common.{◌≡◌, ◌≢◌, ◌⊎◌, ◌++◌, inl, inr, ℕ, suc, List, [], ◌∷◌, All, AllPairs, Option, Some, get_or, refl, sym, ap, ◌∙◌, subst, arith}
use Rattle.std.proofs.lemmas.List.{append_assoc, append_cancel_left}
use Rattle.std.proofs.lemmas.List.Elements.{All-head, All-tail, All-weaker}
use Rattle.stateful_base.specs.Names.{Named}
use Rattle.stateful_base.specs.declared.anchor.Anchor.{Anchor}
use Rattle.stateful_base.specs.declared.digest.Digest.{Digest}
use Rattle.stateful_history.specs.Known.{Known}
use Rattle.stateful_history.specs.Met.{Met, TrueNames}
use Rattle.stateful_history.specs.Past.{Past, Came, Made, after}
use Rattle.stateful_history.specs.declared.event.Event.TheVariants.{Turn}
use Rattle.stateful_history.specs.declared.mark.How.{How}
use Rattle.stateful_history.specs.declared.mark.Mark.{Mark}
use Rattle.stateful_history.specs.declared.mark.Mark.TheVariants.{Ended}
use Rattle.stateful_exec_cache.specs.Cache.{IsAtHand}
use Rattle.stateful_exec_model.specs.Ending.{InTurn, Follows, given_up, at_boundary, failed, parked, goes_on}
use Rattle.stateful_exec_tables.specs.Tables.{released}
use Rattle.stateful_exec_model.specs.Moments.{Moment, Becomes}
use Rattle.stateful_exec_tables.specs.Phase.{released_on, not_on}
use Rattle.stateful_exec_tables.specs.Tables.{requested}
use Rattle.stateful_exec_model.specs.Workings.{Workings, Point}
use Rattle.stateful_exec_pause.specs.declared.pause.Pause.{Pause}
use Rattle.stateful_exec_tables.specs.declared.state.Tables.{Tables}
use Rattle.stateful_exec_tables.specs.declared.tables.Released.{Released}
use Rattle.stateful_exec_laws.specs.Caching.{CacheStands}
use Rattle.stateful_exec_laws.specs.Crossing.{HasMovedSo}
use Rattle.stateful_exec_laws.specs.Ground.{IsFolded}
use Rattle.stateful_exec_laws.specs.Requesting.{steps}
use Rattle.stateful_exec_laws.specs.Setting.{setting}
use Rattle.stateful_exec_laws.specs.Ways.{KeepOff}
use Rattle.stateful_exec_laws.proofs.earned.Carried.{IsFolded-mild, ServesByRight, EarnsBehind-in_turn}
use Rattle.stateful_exec_laws.proofs.earned.InTurn.{All-last}
use Rattle.stateful_exec_laws.proofs.earned.Left.{LeavesBehind, LeavesBehind-follows}
use Rattle.stateful_exec_laws.proofs.earned.Marks.{EarnsBehind, IsHere, concludes-invalid, advances-Earned}
use Rattle.stateful_exec_laws.proofs.earned.Together.{AreEarned-behind}
use Rattle.stateful_exec_laws.proofs.ended.Kept.{IsRoundOf}
use Rattle.stateful_exec_laws.proofs.ended.Requests.{IsTakenOut}
use Rattle.stateful_exec_laws.proofs.ended.Rule.{IsReleased}
use Rattle.stateful_exec_laws.proofs.ended.FollowStands.{ticket_of, request_of, path_of, Serves-follows}
use Rattle.stateful_exec_laws.proofs.pauses.InTurn.{IsReady, IsOnWay}
use Rattle.stateful_exec_laws.proofs.front.MovedStands.{known_moved}
use Rattle.stateful_exec_laws.proofs.requests.Served.{Serves}
use Rattle.stateful_loop_laws.proofs.earned.Off.{IsClosedIn, follows-off}

-- what is cached and goes on over a finalization is compatible with it, or its block is the anchor
abbrev pub IsOpen : {B C I R U : Type 0} → Tables B C I R U → Type 0
IsOpen v = IsClosedIn v.pause v.cache ⊎ HasMovedSo v

module _ {B C I P R D H G U : Type 0} (w : Workings B C I P R D H G U) (stored : ℕ → Option (Named B)) (base : w.States) (points : Digest → Point w)
    (point : Point w) (tip : Anchor)
    (other_states : (n i : w.Ids) (x y : w.States) (c : List (Point w)) → w.kind.issued n ((i, x) ∷ c) → w.kind.issued n ((i, y) ∷ c)) (b : Named B)
    (how : How) where
  abbrev OnWay : Past B C I → Moment w → Released B C I → Type 0
  OnWay p m = IsOnWay w stored points point ticket_of request_of path_of p m

  -- each mark of a request that follows the end of the run keeps the rule, where the finalized block is the anchor
  follows_moved : (p : Past B C I) (m now : Moment w) (r : Released B C I) → IsReady w stored points point p m
      → IsFolded w stored base p m.state.anchor tip point → HasMovedSo m.state → OnWay p m r → r.path.parent ≡ b → Follows w b how r m now
      → EarnsBehind w stored base p m now
  follows_moved p m now r ready folded h on is (given_up off concludes) =
      concludes-invalid w stored base p points point m ready.stands r.ticket (requested r.request) on.hand.asked now concludes
  follows_moved p m now r ready folded h on is (at_boundary off becomes) = rw becomes (record { more = []; marks_are = refl; each = tt })
  follows_moved p m now r ready folded h on is (failed off out concludes) =
      concludes-invalid w stored base p points point m ready.stands r.ticket (requested r.request) on.hand.asked now concludes
  follows_moved p m now r ready folded h on is (parked pruning any becomes) = rw becomes (record { more = []; marks_are = refl; each = tt })
  follows_moved p m now r ready folded h on is (goes_on kept not_held other any advances) =
      advances-Earned w stored base p points point m ready.stands r.ticket (requested r.request) on.hand.asked tip folded r.path now
      (λ c met passed. known c.digest passed.1)
      (λ none. subst (λ (x : Named B). IsHere w stored base p m.state x.digest) (sym is) (known b.digest (inr any), inr any)) on.way advances
    where
      known : (d : Digest) → IsAtHand m.state.anchor m.state.cache d → Known (setting w stored) p d
      known d here =
          ((subst (λ (x : Pause). CacheStands w stored p points m.next m.state.anchor x m.state.cache) h.pause_is ready.stands.cache).knows d).1
          ((known_moved m.state.anchor m.state.cache h.boundary h.moved d).1 here)

  -- the requests are in hand, of tickets of their own, each on its way over the block whose run has ended
  pub record AreToFollow (rs : List (Released B C I)) (p : Past B C I) (m : Moment w) : Type 0 where
    pub ready : IsReady w stored points point p m
    pub folded : IsFolded w stored base p m.state.anchor tip point
    pub round : IsRoundOf w stored p m.state.anchor
    pub free_way : IsOpen m.state
    pub each : All (IsOnWay w stored points point ticket_of request_of path_of p m) rs
    pub apart : AllPairs (λ x y. ticket_of x ≢ ticket_of y) rs
    pub leads : All (λ r. r.path.parent ≡ b) rs
    pub off : All (λ r. KeepOff m.state.anchor (steps r.path)) rs

  earns : (p : Past B C I) (m now : Moment w) (r : Released B C I) → IsReady w stored points point p m
      → IsFolded w stored base p m.state.anchor tip point → IsRoundOf w stored p m.state.anchor → IsOpen m.state → OnWay p m r → r.path.parent ≡ b
      → KeepOff m.state.anchor (steps r.path) → Follows w b how r m now → EarnsBehind w stored base p m now
  earns p m now r ready folded round (inl closed) on is off rule =
      let met : Met (setting w stored) p r.path.parent = All-last (Met (setting w stored) p) r.path.blocks r.path.parent on.way.met in
      follows-off w stored base p ready.names points point m ready.stands closed tip folded b how r now
      (subst (λ (x : Named B). Met (setting w stored) p x) is met) is on.hand.asked on.way off rule
  earns p m now r ready folded round (inr moved) on is off rule = follows_moved p m now r ready folded moved on is rule

  still_open : (m now : Moment w) → LeavesBehind w m now → IsOpen m.state → IsOpen now.state
  still_open m now l (inl closed) = inl (rw (l.left.pause, l.left.cache) closed)
  still_open m now l (inr h) =
      inr (record { boundary = h.boundary; pause_is = l.left.pause ∙ h.pause_is; moved = rw (l.left.anchor, l.left.cache) h.moved })

  -- one of them is served, and the others are to follow behind it
  pub follows-by_right : (r : Released B C I) (rs : List (Released B C I)) (p : Past B C I) (m now : Moment w) → AreToFollow (r ∷ rs) p m
      → Follows w b how r m now → ServesByRight w stored base (Follows w b how) AreToFollow rs p m now
  follows-by_right r rs p m now a rule = record {
    more = v.behind.more;
    marks_are = v.behind.marks_are;
    each =
        AreEarned-behind w stored base p m now v.behind.more v.behind.marks_are
        (earns p m now r a.ready a.folded a.round a.free_way on (All-head (λ (x : Released B C I). x.path.parent ≡ b) r rs a.leads)
        (All-head (λ (x : Released B C I). KeepOff m.state.anchor (steps x.path)) r rs a.off) rule);
    ready = record {
      ready = record {
        stands = v.behind.stands;
        names = λ x y has_x has_y. a.ready.names x y ((v.met x).0 has_x) ((v.met y).0 has_y);
        located = rw v.behind.members_are a.ready.located;
        drawn = v.drawn a.ready.drawn;
      };
      folded = subst (λ (x : Anchor). IsFolded w stored base (after p v.behind.more) x tip point) (sym l.left.anchor)
          (subst (λ (more : List (Mark B)). IsFolded w stored base (after p more) m.state.anchor tip point)
          (append_cancel_left m.marks l.more v.behind.more (sym l.marks_are ∙ v.behind.marks_are))
          (IsFolded-mild w stored base m.state.anchor tip point p l.more l.mild a.folded));
      round =
          λ x met is. a.round x ((v.met x).0 met) (is ∙ ap (λ (y : Anchor). y.digest) l.left.anchor) ∙ ap (λ (y : Anchor). y.round)
          (sym l.left.anchor);
      free_way = still_open m now l a.free_way;
      each =
          λ k d within. still (get_or rs k d) (λ is. a.apart 0 (suc k) d (omega arith) (omega (arith, within)) (sym is))
          (All-tail (OnWay p m) r rs a.each k d within);
      apart = λ i k d lt within. a.apart (suc i) (suc k) d (omega (arith, lt)) (omega (arith, within));
      leads = All-tail (λ (x : Released B C I). x.path.parent ≡ b) r rs a.leads;
      off = subst (λ (x : Anchor). All (λ (y : Released B C I). KeepOff x (steps y.path)) rs) (sym l.left.anchor)
          (All-tail (λ (y : Released B C I). KeepOff m.state.anchor (steps y.path)) r rs a.off);
    };
  }
    where
      on : OnWay p m r
      on = All-head (OnWay p m) r rs a.each

      v : Serves w stored p points point m r.ticket now
      v = Serves-follows w stored points point other_states b how p m now r a.ready on rule

      l : LeavesBehind w m now
      l = LeavesBehind-follows w b how r m now rule

      still : (y : Released B C I) → y.ticket ≢ r.ticket → OnWay p m y → OnWay (after p v.behind.more) now y
      still y ne h = record {
        hand = v.others y.ticket y.request ne h.hand;
        way = record {
          met =
              All-weaker (Met (setting w stored) p) (Met (setting w stored) (after p v.behind.more)) (λ x met. (v.met x).1 met)
              (steps y.path) h.way.met;
          leads = h.way.leads;
          begins = h.way.begins;
        };
      }

  -- each mark of the requests that follow keeps the rule
  pub EarnsBehind-to_follow : (rs : List (Released B C I)) (p : Past B C I) (m last : Moment w) → AreToFollow rs p m
      → InTurn (Follows w b how) rs m last → EarnsBehind w stored base p m last
  EarnsBehind-to_follow rs p m last ready turns = EarnsBehind-in_turn w stored base (Follows w b how) AreToFollow follows-by_right rs p m last
      ready turns

module _ {B C I P R D H G U : Type 0} (w : Workings B C I P R D H G U) (stored : ℕ → Option (Named B)) (base : w.States) (p : Past B C I)
    (point : Point w) (m : Moment w)
    (names : TrueNames (setting w stored) p) (located : w.kind.point m.members ≡ Some point) (drawn : w.kind.issued m.next (point ∷ []))
    (tip : Anchor) (folded : IsFolded w stored base p m.state.anchor tip point) (round : IsRoundOf w stored p m.state.anchor)
    (other_states : (n i : w.Ids) (x y : w.States) (c : List (Point w)) → w.kind.issued n ((i, x) ∷ c) → w.kind.issued n ((i, y) ∷ c)) where
  module _ (j : ℕ) (b : Named B) (how : How) (state : Tables B C I R U) (done : Moment w) (becomes : Becomes w m state (Ended j how ∷ []) done)
      (same : state.anchor ≡ m.state.anchor) (rel : IsReleased w stored (Made (Ended j how) ∷ Came (Turn j) ∷ p) point j b done)
      (free_way : IsOpen done.state)
      (off : All (λ (r : Released B C I). KeepOff done.state.anchor (steps r.path)) (released_on j done.state.requests)) where
    old : (x : Named B) → Met (setting w stored) (Made (Ended j how) ∷ Came (Turn j) ∷ p) x → Met (setting w stored) p x
    old x (inl brought) = absurd brought
    old x (inr (inl brought)) = absurd brought
    old x (inr (inr met)) = met

    anchored : done.state.anchor ≡ m.state.anchor
    anchored = ap (λ (n : Moment w). n.state.anchor) becomes ∙ same

    open_so : IsOpen done.state → IsOpen (released j done.state)
    open_so (inl closed) = inl closed
    open_so (inr h) = inr (record { boundary = h.boundary; pause_is = h.pause_is; moved = h.moved })

    -- the requests that waited for a run are to follow, after the mark of its end
    pub AreToFollow-settled : AreToFollow w stored base rel.points point tip other_states b how (released_on j done.state.requests)
        (Made (Ended j how) ∷ Came (Turn j) ∷ p) (record done { state = released j done.state })
    AreToFollow-settled = record {
      ready = record {
        stands = rel.tables;
        names = λ x y has_x has_y. names x y (old x has_x) (old y has_y);
        located = ap (λ (n : Moment w). w.kind.point n.members) becomes ∙ located;
        drawn = rw becomes drawn;
      };
      folded =
          subst (λ (x : Anchor). IsFolded w stored base (Made (Ended j how) ∷ Came (Turn j) ∷ p) x tip point) (sym anchored)
          (record { anchor_is = folded.anchor_is; tip_is = folded.tip_is; folded = folded.folded });
      round = λ x met is. round x (old x met) (is ∙ ap (λ (y : Anchor). y.digest) anchored) ∙ ap (λ (y : Anchor). y.round) (sym anchored);
      free_way = open_so free_way;
      each = All-weaker (IsTakenOut w stored (Made (Ended j how) ∷ Came (Turn j) ∷ p) (not_on j done.state.requests) done.state.queued b)
          (IsOnWay w stored rel.points point ticket_of request_of path_of (Made (Ended j how) ∷ Came (Turn j) ∷ p)
          (record done { state = released j done.state }))
          (λ x t. record {
            hand = record { absent = t.gone; not_queued = t.unqueued; own = t.own; brought = t.brought; asked = t.asked };
            way = t.way;
          })
          (released_on j done.state.requests) rel.in_hand;
      apart = rel.apart;
      leads =
          All-weaker (IsTakenOut w stored (Made (Ended j how) ∷ Came (Turn j) ∷ p) (not_on j done.state.requests) done.state.queued b)
          (λ (x : Released B C I). x.path.parent ≡ b) (λ x t. t.leads) (released_on j done.state.requests) rel.in_hand;
      off = off;
    }

    -- each mark from the end of the run on keeps the rule
    pub EarnsBehind-settled : (last : Moment w) → InTurn (Follows w b how) (released_on j done.state.requests)
        (record done { state = released j done.state }) last → EarnsBehind w stored base (Came (Turn j) ∷ p) m last
    EarnsBehind-settled last follow =
        let e : EarnsBehind w stored base (Made (Ended j how) ∷ Came (Turn j) ∷ p) (record done { state = released j done.state }) last =
        EarnsBehind-to_follow w stored base rel.points point tip other_states b how (released_on j done.state.requests)
        (Made (Ended j how) ∷ Came (Turn j) ∷ p) (record done { state = released j done.state }) last AreToFollow-settled follow in
        record {
          more = Ended j how ∷ e.more;
          marks_are =
              e.marks_are ∙ ap (λ marks. marks ++ e.more) (ap (λ (n : Moment w). n.marks) becomes) ∙ append_assoc m.marks (Ended j how ∷ []) e.more;
          each = (tt, e.each);
        }
