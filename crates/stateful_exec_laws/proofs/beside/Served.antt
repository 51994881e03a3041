-- What stays beside the tables behind a request in hand that acquires what it needs, or ends: live runs go on turning, and the
-- parents of queued proposals are known or lost.
use Rattle.std.proofs.Common.{◌≡◌, ℕ, List, [], ◌∷◌, All, Option, Some}
use Rattle.stateful_base.specs.Names.{Named}
use Rattle.stateful_base.specs.declared.anchor.Anchor.{Anchor}
use Rattle.stateful_base.specs.declared.digest.Digest.{Digest}
use Rattle.stateful_history.specs.Fetches.{Abstains}
use Rattle.stateful_history.specs.Met.{Met, TrueNames}
use Rattle.stateful_history.specs.Past.{Past, after}
use Rattle.stateful_history.specs.declared.mark.Mark.{Mark}
use Rattle.stateful_exec_model.specs.Moments.{Moment}
use Rattle.stateful_exec_model.specs.Rules.{Needs, Acquires, Concludes}
use Rattle.stateful_exec_model.specs.Workings.{Workings, Point}
use Rattle.stateful_exec_pause.specs.declared.pause.Pause.TheVariants.{Free}
use Rattle.stateful_exec_walk.specs.declared.request.Verdict.TheVariants as verdict
use Rattle.stateful_exec_tables.specs.declared.tables.Requested.{Requested}
use Rattle.stateful_exec_walk.specs.declared.walk.Acquired.TheVariants as acquired
use Rattle.stateful_exec_laws.specs.Setting.{setting}
use Rattle.stateful_exec_laws.specs.Beside.{StaysBeside, BesideBehind}
use Rattle.stateful_exec_laws.specs.Requesting.{first_of}
use Rattle.stateful_exec_laws.specs.Standing.{TablesStand, IsInHand}
use Rattle.stateful_exec_laws.proofs.requests.Acquired.{Serves-acquires}
use Rattle.stateful_exec_laws.proofs.earned.Left.{LeavesBehind, LeavesBehind-acquires, LeavesBehind-concludes}
use Rattle.stateful_exec_laws.proofs.pauses.KeptInTurn.{IsCarried-served}
use Rattle.stateful_exec_laws.proofs.requests.KeptMarks.{EachMark-behind}
use Rattle.stateful_exec_laws.proofs.linked.QueueAdvances.{concludes_invalid, QueueReaches-acquires}
use Rattle.stateful_exec_laws.proofs.reasons.Ground.{IsGround}
use Rattle.stateful_exec_laws.proofs.runs.Kept.{RunsTakeTurns, concluded, RunsGoOn-acquires}
use Rattle.stateful_exec_laws.proofs.requests.SamePast.{IsSamePast}
use Rattle.stateful_exec_laws.proofs.requests.Served.{Serves, Serves-concludes}
use Rattle.stateful_exec_laws.proofs.requests.ServedMarks.{IsServedBy, concludes-marks, acquires-marks}

module _ {B C I P R D H G U : Type 0} (w : Workings B C I P R D H G U) (stored : ℕ → Option (Named B)) (base : w.States) (tip : Anchor) (costs : RunsTakeTurns w)
    (other_states : (n i : w.Ids) (x y : w.States) (c : List (Point w)) → w.kind.issued n ((i, x) ∷ c) → w.kind.issued n ((i, y) ∷ c)) where
  module _ (p : Past B C I) (points : Digest → Point w) (point : Point w) (m now : Moment w) (s : TablesStand w stored p points point m.next m.state) (g : IsGround w stored base p points point m.next tip m.state.pause m.state.anchor m.state.cache)
      (t : ℕ) (r : Requested B C I) (hand : IsInHand w stored p t r.request m.state) (beside : StaysBeside w stored base p m.state) where
    names_behind : (v : Serves w stored p points point m t now) → TrueNames (setting w stored) (after p v.behind.more)
    names_behind v = λ x y has_x has_y. g.names x y ((v.met x).0 has_x) ((v.met y).0 has_y)

    same : (v : Serves w stored p points point m t now) → LeavesBehind w m now → IsSamePast (setting w stored) p (after p v.behind.more)
    same v l = (IsCarried-served w stored base points point tip p m now t v l).same

    -- so it is behind a request that acquires what it needs where nothing pauses
    pub StaysBeside-acquires : m.state.pause ≡ Free → w.kind.point m.members ≡ Some point → w.kind.issued m.next (point ∷ []) → All (Met (setting w stored) p) r.acquired → (held : ℕ → Option (Named B))
        → (Needs w held m r acquired.Waits → Abstains (setting w stored) t p (first_of r.request)) → Acquires w held m t r now → BesideBehind w stored base p m now
    StaysBeside-acquires free located drawn met held abstains rule =
        let v : Serves w stored p points point m t now = Serves-acquires w stored p points point m s t r hand g.names other_states located drawn met held abstains now rule in
        record {
          more = v.behind.more;
          marks_are = v.behind.marks_are;
          stays = record {
            runs = RunsGoOn-acquires w stored base p m now t v.behind.more (same v (LeavesBehind-acquires w held m now t r rule)) s.numbers costs beside.runs held r rule;
            queue = QueueReaches-acquires w stored base p points point tip m now s g t v.behind.more v.behind.marks_are
                (EachMark-behind w (λ (x : Past B C I) (mark : Mark B). IsServedBy t mark) p m now v.behind.more v.behind.marks_are (acquires-marks w p m now t held r rule)) (names_behind v) beside.queue free held r hand met rule;
          };
        }

    -- and behind one that ends without what it asked for
    pub StaysBeside-concludes : Concludes w m t r verdict.Invalid now → BesideBehind w stored base p m now
    StaysBeside-concludes rule =
        let v : Serves w stored p points point m t now = Serves-concludes w stored p points point m s t r hand verdict.Invalid now rule in
        record {
          more = v.behind.more;
          marks_are = v.behind.marks_are;
          stays = record {
            runs = concluded w stored base p m now t v.behind.more (same v (LeavesBehind-concludes w m now t r verdict.Invalid rule)) s.numbers costs beside.runs r verdict.Invalid rule;
            queue = concludes_invalid w stored base p m now s.queue t v.behind.more v.behind.marks_are
                (EachMark-behind w (λ (x : Past B C I) (mark : Mark B). IsServedBy t mark) p m now v.behind.more v.behind.marks_are (concludes-marks w p m now t r verdict.Invalid rule)) (names_behind v) beside.queue r rule;
          };
        }
