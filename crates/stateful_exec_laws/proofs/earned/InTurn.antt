-- True verdicts are earned: those of requests in hand that are served in turn.
use Rattle.std.proofs.Common.{◌≡◌, ◌≢◌, ◌++◌, ℕ, suc, List, [], ◌∷◌, All, AllPairs, Option, get_or, sym, ap, ◌∙◌, subst, arith}
use Rattle.std.proofs.lemmas.List.{append_cancel_left}
use Rattle.std.proofs.lemmas.List.Elements.{All-head, All-tail, All-weaker}
use Rattle.stateful_base.specs.Names.{Named}
use Rattle.stateful_base.specs.declared.anchor.Anchor.{Anchor}
use Rattle.stateful_base.specs.declared.digest.Digest.{Digest}
use Rattle.stateful_history.specs.Met.{Met}
use Rattle.stateful_history.specs.Past.{Past, after}
use Rattle.stateful_history.specs.declared.mark.How.{How}
use Rattle.stateful_history.specs.declared.mark.Mark.{Mark}
use Rattle.stateful_exec_cache.specs.Cache.{IsAtHand}
use Rattle.stateful_exec_cache.specs.declared.cache.Cached.{Cached}
use Rattle.stateful_exec_model.specs.Ending.{InTurn, Follows}
use Rattle.stateful_exec_model.specs.Moments.{Moment}
use Rattle.stateful_exec_walk.specs.Path.{Path}
use Rattle.stateful_exec_model.specs.Pausing.{GoesAlong}
use Rattle.stateful_exec_tables.specs.Tables.{requested}
use Rattle.stateful_exec_model.specs.Workings.{Workings, Point}
use Rattle.stateful_exec_pause.specs.declared.pause.Pause.{Pause}
use Rattle.stateful_exec_pause.specs.declared.pause.Pause.TheVariants.{Free}
use Rattle.stateful_exec_walk.specs.declared.request.Request.{Request}
use Rattle.stateful_exec_tables.specs.declared.tables.Released.{Released}
use Rattle.stateful_exec_laws.specs.Setting.{setting}
use Rattle.stateful_exec_laws.specs.Requesting.{steps}
use Rattle.stateful_exec_laws.proofs.ended.Kept.{IsRoundOf}
use Rattle.stateful_exec_laws.proofs.pauses.InTurn.{IsReady, IsOnWay}
use Rattle.stateful_exec_laws.proofs.requests.Served.{Serves}
use Rattle.stateful_exec_laws.proofs.earned.Carried.{IsFolded-mild, ServesByRight, EarnsBehind-in_turn}
use Rattle.stateful_exec_laws.proofs.earned.Follows.{follows-Earned, advances-paused}
use Rattle.stateful_exec_laws.proofs.earned.Judged.{Known-free}
use Rattle.stateful_exec_laws.proofs.earned.Left.{LeavesBehind, LeavesBehind-advances, LeavesBehind-follows}
use Rattle.stateful_exec_laws.proofs.earned.Marks.{EarnsBehind}
use Rattle.stateful_exec_laws.proofs.earned.Path.{IsFolded}
use Rattle.stateful_exec_laws.proofs.earned.Paused.{IsClosedBy}
use Rattle.stateful_exec_laws.proofs.earned.Together.{AreEarned-behind}

pub All-last : {X : Type 0} (P : X → Type 0) (xs : List X) (x : X) → All P (xs ++ x ∷ []) → P x
All-last P [] x all = All-head P x [] all
All-last P (y ∷ ys) x all = All-last P ys x (All-tail P y (ys ++ x ∷ []) all)

module _ {B C I P R D H G U : Type 0} (w : Workings B C I P R D H G U) (stored : ℕ → Option (Named B)) (base : w.States) (points : Digest → Point w) (point : Point w) (tip : Anchor) where
  -- what true verdicts are earned by
  pub record IsFooting (p : Past B C I) (m : Moment w) : Type 0 where
    pub folded : IsFolded w stored base p m.state.anchor tip point
    pub closed : IsClosedBy m.state.pause m.state.anchor m.state.cache
    pub round : IsRoundOf w stored p m.state.anchor

  still_footing : (p : Past B C I) (m now : Moment w) (t : ℕ) (v : Serves w stored p points point m t now) → LeavesBehind w m now → IsFooting p m → IsFooting (after p v.behind.more) now
  still_footing p m now t v l f = record {
    folded = subst (λ (a : Anchor). IsFolded w stored base (after p v.behind.more) a tip point) (sym l.left.anchor)
        (subst (λ (more : List (Mark B)). IsFolded w stored base (after p more) m.state.anchor tip point) (append_cancel_left m.marks l.more v.behind.more (sym l.marks_are ∙ v.behind.marks_are))
        (IsFolded-mild w stored base m.state.anchor tip point p l.more l.mild f.folded));
    closed = rw (l.left.pause, l.left.anchor, l.left.cache) f.closed;
    round = λ b met e. f.round b ((v.met b).0 met) (e ∙ ap (λ (a : Anchor). a.digest) l.left.anchor) ∙ ap (λ (a : Anchor). a.round) (sym l.left.anchor);
  }

  module _ {X : Type 0} (ticket : X → ℕ) (request : X → Request B C I) (path : X → Path B) (Also : Pause → Anchor → List (Cached U) → X → Type 0) where
    -- the requests are in hand, of tickets of their own, where the databases and the past are as it is asked; and what else
    -- is asked of each, with the pause, the anchor and the cache
    pub record AreReady (xs : List X) (p : Past B C I) (m : Moment w) : Type 0 where
      pub ready : IsReady w stored points point p m
      pub footing : IsFooting p m
      pub each : All (IsOnWay w stored points point ticket request path p m) xs
      pub apart : AllPairs (λ x y. ticket x ≢ ticket y) xs
      pub also : All (Also m.state.pause m.state.anchor m.state.cache) xs

    module _ (Rule : X → Moment w → Moment w → Type 0)
        (serves : (p : Past B C I) (m now : Moment w) (x : X) → IsReady w stored points point p m → IsOnWay w stored points point ticket request path p m x → Rule x m now → Serves w stored p points point m (ticket x) now)
        (leaves : (m now : Moment w) (x : X) → Rule x m now → LeavesBehind w m now)
        (earns : (p : Past B C I) (m now : Moment w) (x : X) → IsReady w stored points point p m → IsFooting p m → IsOnWay w stored points point ticket request path p m x → Also m.state.pause m.state.anchor m.state.cache x → Rule x m now → EarnsBehind w stored base p m now) where
      by_right : (x : X) (xs : List X) (p : Past B C I) (m now : Moment w) → AreReady (x ∷ xs) p m → Rule x m now → ServesByRight w stored base Rule AreReady xs p m now
      by_right x xs p m now r rule =
          let on = All-head (IsOnWay w stored points point ticket request path p m) x xs r.each in
          let v : Serves w stored p points point m (ticket x) now = serves p m now x r.ready on rule in
          record {
            more = v.behind.more;
            marks_are = v.behind.marks_are;
            each = AreEarned-behind w stored base p m now v.behind.more v.behind.marks_are (earns p m now x r.ready r.footing on (All-head (Also m.state.pause m.state.anchor m.state.cache) x xs r.also) rule);
            ready = record {
              ready = record {
                stands = v.behind.stands;
                names = λ b c has_b has_c. r.ready.names b c ((v.met b).0 has_b) ((v.met c).0 has_c);
                located = rw v.behind.members_are r.ready.located;
                drawn = v.drawn r.ready.drawn;
              };
              footing = still_footing p m now (ticket x) v (leaves m now x rule) r.footing;
              each = λ k y within. still v (get_or xs k y) (λ same. r.apart 0 (suc k) y (omega arith) (omega (arith, within)) (sym same)) (All-tail (IsOnWay w stored points point ticket request path p m) x xs r.each k y within);
              apart = λ i j y lt within. r.apart (suc i) (suc j) y (omega (arith, lt)) (omega (arith, within));
              also = let l = leaves m now x rule in rw (l.left.pause, l.left.anchor, l.left.cache) (All-tail (Also m.state.pause m.state.anchor m.state.cache) x xs r.also);
            };
          }
        where
          still : (v : Serves w stored p points point m (ticket x) now) (y : X) → ticket y ≢ ticket x → IsOnWay w stored points point ticket request path p m y → IsOnWay w stored points point ticket request path (after p v.behind.more) now y
          still v y ne h = record {
            hand = v.others (ticket y) (request y) ne h.hand;
            way = record {
              met = All-weaker (Met (setting w stored) p) (Met (setting w stored) (after p v.behind.more)) (λ b met. (v.met b).1 met) (steps (path y)) h.way.met;
              leads = h.way.leads;
              begins = h.way.begins;
            };
          }

      -- each mark of requests in hand that are served in turn keeps the rule
      pub EarnsBehind-served : (xs : List X) (p : Past B C I) (m last : Moment w) → AreReady xs p m → InTurn Rule xs m last → EarnsBehind w stored base p m last
      EarnsBehind-served xs p m last ready turns = EarnsBehind-in_turn w stored base Rule AreReady by_right xs p m last ready turns

  -- each mark of the requests that waited for a run and follow its end in turn keeps the rule
  pub EarnsBehind-follows : (b : Named B) (how : How)
      → ((p : Past B C I) (m now : Moment w) (r : Released B C I) → IsReady w stored points point p m → IsOnWay w stored points point (λ (x : Released B C I). x.ticket) (λ x. x.request) (λ x. x.path) p m r → Follows w b how r m now → Serves w stored p points point m r.ticket now)
      → (rs : List (Released B C I)) (p : Past B C I) (m last : Moment w) → AreReady (λ (x : Released B C I). x.ticket) (λ x. x.request) (λ x. x.path) (λ pause anchor cache x. x.path.parent ≡ b) rs p m → InTurn (Follows w b how) rs m last → EarnsBehind w stored base p m last
  EarnsBehind-follows b how serves rs p m last ready turns =
      EarnsBehind-served (λ (x : Released B C I). x.ticket) (λ x. x.request) (λ x. x.path) (λ pause anchor cache x. x.path.parent ≡ b) (Follows w b how) serves (λ m now r rule. LeavesBehind-follows w b how r m now rule)
      (λ p m now r ready f on is rule.
      let met : Met (setting w stored) p r.path.parent = All-last (Met (setting w stored) p) r.path.blocks r.path.parent on.way.met in
      follows-Earned w stored p ready.names base points point m ready.stands f.closed tip f.folded f.round b how r now (subst (λ (x : Named B). Met (setting w stored) p x) is met) is on.hand.asked on.way rule)
      rs p m last ready turns

  -- execution isn't paused, and a path of no blocks begins at a block at hand
  abbrev pub BeginsAtHand : Pause → Anchor → List (Cached U) → Released B C I → Type 0
  BeginsAtHand pause anchor cache r = (pause ≡ Free) × (r.path.blocks ≡ [] → IsAtHand anchor cache r.path.parent.digest)

  -- each mark of the parked requests that go along their paths in turn keeps the rule
  pub EarnsBehind-along : ((p : Past B C I) (m now : Moment w) (r : Released B C I) → IsReady w stored points point p m → IsOnWay w stored points point (λ (x : Released B C I). x.ticket) (λ x. x.request) (λ x. x.path) p m r → GoesAlong w r m now → Serves w stored p points point m r.ticket now)
      → (rs : List (Released B C I)) (p : Past B C I) (m last : Moment w) → AreReady (λ (x : Released B C I). x.ticket) (λ x. x.request) (λ x. x.path) BeginsAtHand rs p m → InTurn (GoesAlong w) rs m last → EarnsBehind w stored base p m last
  EarnsBehind-along serves rs p m last ready turns =
      EarnsBehind-served (λ (x : Released B C I). x.ticket) (λ x. x.request) (λ x. x.path) BeginsAtHand (GoesAlong w) serves (λ m now r rule. LeavesBehind-advances w m now r.ticket (requested r.request) r.path rule)
      (λ p m now r ready f on begins rule.
      advances-paused w stored p ready.names base points point m ready.stands f.closed tip f.folded f.round r.ticket (requested r.request) r.path now on.hand.asked on.way
      (λ none. let here = begins.1 none in (Known-free w stored base p points point m.next m.state ready.stands begins.0 r.path.parent.digest here, here)) rule)
      rs p m last ready turns
