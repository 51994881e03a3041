-- The tables stand behind the parked requests that go along their paths.
use Rattle.std.proofs.Common.{◌≡◌, is_none, ℕ, get_or, false, List, [], ◌∷◌, All, Option, Some, refl, subst}
use Rattle.std.proofs.lemmas.List.Elements.{All-nil}
use Rattle.stateful_base.specs.Names.{Named}
use Rattle.stateful_base.specs.declared.digest.Digest.{Digest}
use Rattle.stateful_history.specs.Past.{Past}
use Rattle.stateful_history.specs.Met.{Met, TrueNames}
use Rattle.stateful_exec_model.specs.Ending.{InTurn}
use Rattle.stateful_exec_model.specs.Moments.{Moment}
use Rattle.stateful_exec_model.specs.Pausing.{GoesAlong, unparked}
use Rattle.stateful_exec_tables.specs.Phase.{parked_path, parked_in}
use Rattle.stateful_exec_tables.specs.Tables.{requested}
use Rattle.stateful_exec_model.specs.Workings.{Workings, Point}
use Rattle.stateful_exec_pause.specs.declared.pause.Pause.TheVariants.{Free}
use Rattle.stateful_exec_tables.specs.declared.tables.Phase.TheVariants.{Parked}
use Rattle.stateful_exec_tables.specs.declared.tables.Released.{Released}
use Rattle.stateful_exec_laws.specs.Setting.{setting}
use Rattle.stateful_exec_laws.specs.Requesting.{IsInPhase}
use Rattle.stateful_exec_laws.specs.Standing.{TablesStand}
use Rattle.stateful_exec_laws.proofs.requests.Advanced.{Serves-advances}
use Rattle.stateful_exec_laws.proofs.ended.Left.{each_at}
use Rattle.stateful_exec_laws.proofs.ended.FollowStands.{ticket_of, request_of, path_of}
use Rattle.stateful_exec_laws.proofs.pauses.InTurn.{IsReady, AreServed, IsOnWay, AreServed-in_turn}
use Rattle.stateful_exec_laws.proofs.requests.Parked.{All-parked, parked_apart, at_kept, TablesStand-kept}
use Rattle.stateful_exec_laws.proofs.requests.Served.{Serves}

module _ {B C I P R D H G U : Type 0} (w : Workings B C I P R D H G U) (stored : ℕ → Option (Named B)) (points : Digest → Point w) (point : Point w)
    (other_states : (n i : w.Ids) (x y : w.States) (c : List (Point w)) → w.kind.issued n ((i, x) ∷ c) → w.kind.issued n ((i, y) ∷ c)) where
  -- a parked request is served
  pub Serves-along : (p : Past B C I) (m now : Moment w) (r : Released B C I) → IsReady w stored points point p m → IsOnWay w stored points point ticket_of request_of path_of p m r → GoesAlong w r m now → Serves w stored p points point m r.ticket now
  Serves-along p m now r ready on advances =
      Serves-advances w stored p points point m ready.stands r.ticket (requested r.request) on.hand ready.names other_states ready.located ready.drawn (All-nil (Met (setting w stored) p)) r.path now on.way advances

  module _ (p : Past B C I) (m : Moment w) (s : TablesStand w stored p points point m.next (record m.state { pause = Free })) where
    -- they are taken out, and in hand
    pub out : All (IsOnWay w stored points point ticket_of request_of path_of p (unparked w m)) (parked_in m.state.requests)
    out = All-parked (IsOnWay w stored points point ticket_of request_of path_of p (unparked w m)) m.state.requests (λ k d l path is.
        let e = get_or m.state.requests k d in
        let standing = s.requests.each k d l in
        let there = each_at m.state.requests s.requests.ascending k d l in
        let phase : IsInPhase w stored p m.state.runs e.0 e.1.request (Parked path) = subst (λ phase. IsInPhase w stored p m.state.runs e.0 e.1.request phase) is standing.phase in
        let leaves : is_none (parked_path e.1.phase) ≡ false = rw is refl in
        record {
          hand = record {
            absent = rw (at_kept (λ phase. is_none (parked_path phase)) (λ j way. refl) (λ f. refl) m.state.requests e.0 s.requests.ascending, there, leaves) refl;
            not_queued = s.once e.0 (rw there refl);
            own = standing.own;
            brought = standing.brought;
            asked = standing.asked;
          };
          way = phase;
        })

    -- where the tables stand without a pause, the parked requests are served
    pub AreServed-along : TrueNames (setting w stored) p → w.kind.point m.members ≡ Some point → w.kind.issued m.next (point ∷ []) → (last : Moment w) → InTurn (GoesAlong w) (parked_in m.state.requests) (unparked w m) last
        → AreServed w stored points point p (unparked w m) last
    AreServed-along names located drawn last rules =
        AreServed-in_turn w stored points point ticket_of request_of path_of (GoesAlong w) Serves-along (parked_in m.state.requests) p (unparked w m) last
        (record {
          stands = TablesStand-kept (λ phase. is_none (parked_path phase)) (λ j way. refl) (λ f. refl) w stored p points point m.next (record m.state { pause = Free }) s;
          names = names;
          located = located;
          drawn = drawn;
        })
        out (parked_apart m.state.requests s.requests.ascending) rules
