-- False verdicts and declines have their reasons: the rule of what goes on after a pause.
use Rattle.std.proofs.Common.{◌≡◌, ◌≢◌, ℕ, not, List, [], ◌∷◌, All, Option, Some, get_or, refl, subst, is_none}
use Rattle.std.proofs.lemmas.List.Elements.{All-filter}
use Rattle.std.proofs.lemmas.List.Kept.{AllPairs-filter}
use Rattle.stateful_base.specs.Names.{Named}
use Rattle.stateful_base.specs.declared.anchor.Anchor.{Anchor}
use Rattle.stateful_base.specs.declared.digest.Digest.{Digest}
use Rattle.stateful_history.specs.Past.{Past, after}
use Rattle.stateful_history.specs.declared.event.Event.{Event}
use Rattle.stateful_history.specs.declared.mark.Mark.{Mark}
use Rattle.stateful_exec_model.specs.Moments.{Moment}
use Rattle.stateful_exec_model.specs.Pausing.{GoesAlong, AcquiresAnew, unparked, unsettled, Resumes}
use Rattle.stateful_exec_tables.specs.Phase.{parked_path, parked_in, is_unacquired, unacquired_in}
use Rattle.stateful_exec_model.specs.Workings.{Workings, Point}
use Rattle.stateful_exec_pause.specs.declared.pause.Pause.TheVariants.{Free}
use Rattle.stateful_exec_tables.specs.declared.tables.Phase.{Phase}
use Rattle.stateful_exec_tables.specs.declared.tables.Phase.TheVariants.{Parked}
use Rattle.stateful_exec_tables.specs.declared.tables.Released.{Released}
use Rattle.stateful_exec_tables.specs.declared.tables.Requested.{Requested}
use Rattle.stateful_exec_laws.specs.Standing.{TablesStand}
use Rattle.stateful_exec_laws.specs.Ways.{IsOnOpenWay, WaysStand}
use Rattle.stateful_exec_laws.proofs.pauses.AnewStands as anew
use Rattle.stateful_exec_laws.proofs.pauses.AnewStands.{MayWait, entries_apart}
use Rattle.stateful_exec_laws.proofs.requests.KeptMarks.{KeepsBehind, KeepsBehind-then, KeepsReady}
use Rattle.stateful_exec_laws.proofs.requests.Parked.{All-parked, parked_apart, TablesStand-kept}
use Rattle.stateful_exec_laws.proofs.reasons.Ground.{IsGround}
use Rattle.stateful_exec_laws.proofs.reasons.Marks.{HasItsReason}
use Rattle.stateful_exec_laws.proofs.reasons.Resumed.{MayAcquire, AreParked, AreUnacquired, AreParked-along, AreUnacquired-anew}
use Rattle.stateful_exec_laws.proofs.pauses.ResumeStands as along

module _ {B C I P R D H G U : Type 0} (w : Workings B C I P R D H G U) (stored held : ℕ → Option (Named B)) (base : w.States) (tip : Anchor) (points : Digest → Point w) (point : Point w) (event : Event B C I) (marks : List (Mark B))
    (other_states : (n i : w.Ids) (x y : w.States) (c : List (Point w)) → w.kind.issued n ((i, x) ∷ c) → w.kind.issued n ((i, y) ∷ c)) where
  abbrev Rule : Past B C I → Mark B → Type 0
  Rule = HasItsReason w stored base event marks

  module _ (p : Past B C I) (m : Moment w) (s : TablesStand w stored p points point m.next (record m.state { pause = Free })) (g : IsGround w stored base p points point m.next tip Free m.state.anchor m.state.cache) (ways : WaysStand w stored p tip (record m.state { pause = Free }))
      (located : w.kind.point m.members ≡ Some point) (drawn : w.kind.issued m.next (point ∷ [])) where
    abbrev Open_way : ℕ × Requested B C I → Type 0
    Open_way e = IsOnOpenWay w stored p tip Free m.state.anchor m.state.cache e.1.request e.1.phase

    -- the parked requests are taken out, and in hand
    pub parked : AreParked w stored held base tip points point event marks other_states (parked_in m.state.requests) p (unparked w m)
    parked = record {
      grounded = record {
        ready = record { stands = TablesStand-kept (λ phase. is_none (parked_path phase)) (λ j way. refl) (λ f. refl) w stored p points point m.next (record m.state { pause = Free }) s; names = g.names; located = located; drawn = drawn };
        ground = g;
      };
      stays = All-filter (λ (e : ℕ × Requested B C I). is_none (parked_path e.1.phase)) Open_way m.state.requests ways;
      hands = λ k d l. (along.out w stored points point other_states p m s k d l).hand;
      apart = parked_apart m.state.requests s.requests.ascending;
      also = λ k d l. let on = along.out w stored points point other_states p m s k d l in let h = open_parked k d l in record { way = on.way; free = refl; at_hand = h.0; off = h.1; unsettled = h.2 };
    }
      where
        open_parked : All (λ (x : Released B C I). IsOnOpenWay w stored p tip Free m.state.anchor m.state.cache x.request (Parked x.path)) (parked_in m.state.requests)
        open_parked = All-parked (λ x. IsOnOpenWay w stored p tip Free m.state.anchor m.state.cache x.request (Parked x.path)) m.state.requests (λ k d l path is.
            subst (λ (phase : Phase B). IsOnOpenWay w stored p tip Free m.state.anchor m.state.cache (get_or m.state.requests k d).1.request phase) is (ways k d l))

    -- Each mark that is made after a pause keeps the rule, where those that acquire anew what they need may do so.
    pub resumes-reason : (now : Moment w) (r : Resumes w held m now)
        → ((first : KeepsReady w Rule (GoesAlong w) (AreParked w stored held base tip points point event marks other_states) [] p (unparked w m) r.mid) → All (λ e. MayAcquire w stored held base tip (after p first.more) r.mid.state.pause r.mid.state.anchor r.mid.state.cache e) (unacquired_in r.mid.state.requests))
        → KeepsBehind w Rule p m now
    resumes-reason now r may = KeepsBehind-then w Rule p m r.mid now first.more first.marks_are (record { more = first.more; marks_are = first.marks_are; each = first.each }) (record { more = second.more; marks_are = second.marks_are; each = second.each })
      where
        first : KeepsReady w Rule (GoesAlong w) (AreParked w stored held base tip points point event marks other_states) [] p (unparked w m) r.mid
        first = AreParked-along w stored held base tip points point event marks other_states (parked_in m.state.requests) p (unparked w m) r.mid parked r.along

        stands : TablesStand w stored (after p first.more) points point r.mid.next r.mid.state
        stands = first.ready.grounded.ready.stands

        may_wait : All (MayWait w stored held points point other_states (after p first.more) (unsettled w r.mid)) (unacquired_in r.mid.state.requests)
        may_wait = λ k d l. (may first k d l).may_wait

        unacquired : AreUnacquired w stored held base tip points point event marks other_states (unacquired_in r.mid.state.requests) (after p first.more) (unsettled w r.mid)
        unacquired = record {
          grounded = record {
            ready = record {
              stands = TablesStand-kept (λ phase. not (is_unacquired phase)) (λ j way. refl) (λ f. refl) w stored (after p first.more) points point r.mid.next r.mid.state stands;
              names = first.ready.grounded.ready.names;
              located = first.ready.grounded.ready.located;
              drawn = first.ready.grounded.ready.drawn;
            };
            ground = first.ready.grounded.ground;
          };
          stays = All-filter (λ (e : ℕ × Requested B C I). not (is_unacquired e.1.phase)) (λ e. IsOnOpenWay w stored (after p first.more) tip r.mid.state.pause r.mid.state.anchor r.mid.state.cache e.1.request e.1.phase) r.mid.state.requests first.ready.stays;
          hands = λ k d l. (anew.out w stored held points point other_states (after p first.more) r.mid stands may_wait k d l).hand;
          apart = AllPairs-filter (λ (e f : ℕ × Requested B C I). e.0 ≢ f.0) (λ e. is_unacquired e.1.phase) r.mid.state.requests (entries_apart r.mid.state.requests stands.requests.ascending);
          also = may first;
        }

        second : KeepsReady w Rule (AcquiresAnew w held) (AreUnacquired w stored held base tip points point event marks other_states) [] (after p first.more) (unsettled w r.mid) now
        second = AreUnacquired-anew w stored held base tip points point event marks other_states (unacquired_in r.mid.state.requests) (after p first.more) (unsettled w r.mid) now unacquired r.anew
