-- The tables stand behind the requests that waited for a run that has ended.
use Rattle.std.proofs.Common.{◌≡◌, ◌≢◌, ◌++◌, not, inl, inr, ap, ◌<◌, ℕ, arith, List, [], ◌∷◌, Option, Some, refl, sym, subst, ◌∙◌}
use Rattle.std.specs.Ordering.{nat_cmp, MatchOrdering}
use Rattle.std.specs.declared.cmp.Ordering.TheVariants.{Less}
use Rattle.std.proofs.lemmas.List.{append_assoc}
use Rattle.std.proofs.lemmas.Cmp.{ranked}
use Rattle.std.proofs.lemmas.List.Elements.{All-nil, All-weaker, All-filter}
use Rattle.stateful_base.specs.Names.{Named}
use Rattle.stateful_base.specs.declared.digest.Digest.{Digest}
use Rattle.stateful_history.specs.Past.{Past, Came, Made, after}
use Rattle.stateful_history.specs.Fetches.{Abstains}
use Rattle.stateful_history.specs.Met.{Met, TrueNames}
use Rattle.stateful_history.specs.declared.mark.How.{How}
use Rattle.stateful_history.specs.declared.event.Event.TheVariants.{Turn}
use Rattle.stateful_history.specs.declared.mark.Mark.{Mark}
use Rattle.stateful_history.specs.declared.mark.Mark.TheVariants.{Ended}
use Rattle.stateful_exec_tables.specs.declared.state.Tables.{Tables}
use Rattle.stateful_exec_model.specs.Ending.{InTurn, Follows, given_up, at_boundary, failed, parked, goes_on}
use Rattle.stateful_exec_tables.specs.Tables.{released}
use Rattle.stateful_exec_model.specs.Moments.{Moment, Becomes}
use Rattle.stateful_exec_walk.specs.Path.{Path}
use Rattle.stateful_exec_tables.specs.Phase.{is_on, released_on, not_on}
use Rattle.stateful_exec_tables.specs.Tables.{requested}
use Rattle.stateful_exec_model.specs.Workings.{Workings, Point}
use Rattle.stateful_exec_walk.specs.declared.request.Request.{Request}
use Rattle.stateful_exec_tables.specs.declared.tables.Phase.TheVariants.{Waiting, Parked}
use Rattle.stateful_exec_tables.specs.declared.tables.Released.{Released}
use Rattle.stateful_exec_tables.specs.declared.tables.Requested.{Requested}
use Rattle.stateful_exec_laws.specs.Setting.{setting}
use Rattle.stateful_exec_laws.specs.Requesting.{first_of, AllAbstain}
use Rattle.stateful_exec_laws.specs.Standing.{TablesStand, StandsBehind}
use Rattle.stateful_exec_laws.proofs.requests.Advanced.{Serves-advances}
use Rattle.stateful_exec_laws.proofs.ended.Runs.{Moves}
use Rattle.stateful_exec_laws.proofs.ended.Requests.{IsTakenOut}
use Rattle.stateful_exec_laws.proofs.ended.Rule.{IsReleased, IsReleasedFrom}
use Rattle.stateful_exec_laws.proofs.pauses.InTurn.{IsReady, IsOnWay, AreServed-in_turn}
use Rattle.stateful_exec_laws.proofs.requests.Served.{Serves, Serves-concludes, Serves-put}

-- a number that is below another is another
pub below_apart : (k n : ℕ) → nat_cmp k n ≡ Less → k ≢ n
below_apart k n below same = let less : k < n = subst (λ o. MatchOrdering o (k < n) (k ≡ n) (n < k)) below (ranked k n (nat_cmp k n) refl) in omega (arith, less, same)

module _ {B C I : Type 0} where
  -- what a released request tells
  abbrev pub ticket_of : Released B C I → ℕ
  ticket_of r = r.ticket

  abbrev pub request_of : Released B C I → Request B C I
  request_of r = r.request

  abbrev pub path_of : Released B C I → Path B
  path_of r = r.path

module _ {B C I P R D H G U : Type 0} (w : Workings B C I P R D H G U) (stored : ℕ → Option (Named B)) (points : Digest → Point w) (point : Point w)
    (other_states : (n i : w.Ids) (x y : w.States) (c : List (Point w)) → w.kind.issued n ((i, x) ∷ c) → w.kind.issued n ((i, y) ∷ c)) where
  -- a request that waited for a run of the block is served
  pub Serves-follows : (b : Named B) (how : How) (p : Past B C I) (m now : Moment w) (r : Released B C I) → IsReady w stored points point p m → IsOnWay w stored points point ticket_of request_of path_of p m r
      → Follows w b how r m now → Serves w stored p points point m r.ticket now
  Serves-follows b how p m now r ready on (given_up up concludes) = Serves-concludes w stored p points point m ready.stands r.ticket (requested r.request) on.hand _ now concludes
  Serves-follows b how p m now r ready on (at_boundary is becomes) =
      Serves-put w stored p points point m ready.stands r.ticket (requested r.request) on.hand (Parked r.path) now (All-nil (Met (setting w stored) p)) on.way (λ is. absurd (cc)) becomes
  Serves-follows b how p m now r ready on (failed not_held off concludes) = Serves-concludes w stored p points point m ready.stands r.ticket (requested r.request) on.hand _ now concludes
  Serves-follows b how p m now r ready on (parked pause there becomes) =
      Serves-put w stored p points point m ready.stands r.ticket (requested r.request) on.hand (Parked r.path) now (All-nil (Met (setting w stored) p)) on.way (λ is. absurd (cc)) becomes
  Serves-follows b how p m now r ready on (goes_on up not_held pause there advances) =
      Serves-advances w stored p points point m ready.stands r.ticket (requested r.request) on.hand ready.names other_states ready.located ready.drawn (All-nil (Met (setting w stored) p)) r.path now on.way advances

module _ {B C I P R D H G U : Type 0} (w : Workings B C I P R D H G U) (stored : ℕ → Option (Named B)) (point : Point w)
    (other_states : (n i : w.Ids) (x y : w.States) (c : List (Point w)) → w.kind.issued n ((i, x) ∷ c) → w.kind.issued n ((i, y) ∷ c)) where
  -- the tables stand behind the requests that waited for a run that has ended
  pub StandsBehind-follow : (b : Named B) (how : How) (p : Past B C I) (job : ℕ) (done last : Moment w) (r : IsReleased w stored p point job b done) → TrueNames (setting w stored) p
      → w.kind.point done.members ≡ Some point → w.kind.issued done.next (point ∷ [])
      → InTurn (Follows w b how) (released_on job done.state.requests) (record done { state = released job done.state }) last
      → StandsBehind w stored p r.points point (record done { state = released job done.state }) last
  StandsBehind-follow b how p job done last r names located drawn rules =
      (AreServed-in_turn w stored r.points point ticket_of request_of path_of (Follows w b how) (Serves-follows w stored r.points point other_states b how) (released_on job done.state.requests) p
      (record done { state = released job done.state }) last (record { stands = r.tables; names = names; located = located; drawn = drawn })
      (All-weaker (IsTakenOut w stored p (not_on job done.state.requests) done.state.queued b) (IsOnWay w stored r.points point ticket_of request_of path_of p (record done { state = released job done.state }))
      (λ x t. record { hand = record { absent = t.gone; not_queued = t.unqueued; own = t.own; brought = t.brought; asked = t.asked }; way = t.way })
      (released_on job done.state.requests) r.in_hand)
      r.apart rules).behind

  -- What stands after the last turn of a run: the tables, over some points, to which what was at hand has gone over from these,
  -- and after the mark that it ended those of the requests that waited for it.
  pub record IsSettled (p : Past B C I) (before : Digest → Point w) (m last : Moment w) (j : ℕ) (how : How) : Type 0 where
    pub points : Digest → Point w
    pub moves : Moves w stored p (Made (Ended j how) ∷ Came (Turn j) ∷ p) before points m.state.anchor m.state.cache
    pub more : List (Mark B)
    pub marks_are : last.marks ≡ m.marks ++ Ended j how ∷ more
    pub members_are : last.members ≡ m.members
    pub stands : TablesStand w stored (after (Made (Ended j how) ∷ Came (Turn j) ∷ p) more) points point last.next last.state
    pub waiting : AllAbstain w stored p m.state.requests → AllAbstain w stored (after (Made (Ended j how) ∷ Came (Turn j) ∷ p) more) last.state.requests

  module _ (p : Past B C I) (m : Moment w) (names : TrueNames (setting w stored) p) (located : w.kind.point m.members ≡ Some point) (drawn : w.kind.issued m.next (point ∷ [])) where
    -- what is left by the end of a run is settled by what follows
    pub IsSettled-from : (points : Digest → Point w) (j : ℕ) (b : Named B) (how : How) (state : Tables B C I R U) (done last : Moment w) → IsReleasedFrom w stored p points m.state (Made (Ended j how) ∷ Came (Turn j) ∷ p) point j b done → Becomes w m state (Ended j how ∷ []) done
        → state.requests ≡ m.state.requests → InTurn (Follows w b how) (released_on j done.state.requests) (record done { state = released j done.state }) last → IsSettled p points m last j how
    IsSettled-from points j b how state done last from becomes same rules = record {
      points = from.released.points;
      moves = from.moves;
      more = behind.more;
      marks_are = behind.marks_are ∙ ap (λ marks. marks ++ behind.more) (ap (λ (n : Moment w). n.marks) becomes) ∙ append_assoc m.marks (Ended j how ∷ []) behind.more;
      members_are = behind.members_are ∙ ap (λ (n : Moment w). n.members) becomes;
      stands = behind.stands;
      waiting = λ h. behind.waiting (left (ap (λ (n : Moment w). n.state.requests) becomes ∙ same) h);
    }
      where
        left : done.state.requests ≡ m.state.requests → AllAbstain w stored p m.state.requests → AllAbstain w stored (Made (Ended j how) ∷ Came (Turn j) ∷ p) (not_on j done.state.requests)
        left is h = subst (λ l. AllAbstain w stored (Made (Ended j how) ∷ Came (Turn j) ∷ p) (not_on j l)) (sym is)
            (All-filter (λ (e : ℕ × Requested B C I). not (is_on j e.1.phase)) (λ e. e.1.phase ≡ Waiting → Abstains (setting w stored) e.0 p (first_of e.1.request)) m.state.requests h)

        behind : StandsBehind w stored (Made (Ended j how) ∷ Came (Turn j) ∷ p) from.released.points point (record done { state = released j done.state }) last
        behind = StandsBehind-follow b how (Made (Ended j how) ∷ Came (Turn j) ∷ p) j done last from.released
            (λ x y has_x has_y. names x y (old x has_x) (old y has_y))
            (ap (λ (n : Moment w). w.kind.point n.members) becomes ∙ located) (rw becomes drawn) rules
          where
            old : (x : Named B) → Met (setting w stored) (Made (Ended j how) ∷ Came (Turn j) ∷ p) x → Met (setting w stored) p x
            old x (inl brought) = absurd brought
            old x (inr (inl brought)) = absurd brought
            old x (inr (inr met)) = met
