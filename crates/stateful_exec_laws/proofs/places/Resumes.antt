-- Marks stand in their places: the rule of what goes on after a pause.
use Rattle.std.proofs.Common.{◌≡◌, ◌≢◌, ℕ, not, List, [], ◌∷◌, All, Option, Some, refl, is_none}
use Rattle.std.proofs.lemmas.List.Elements.{All-filter}
use Rattle.std.proofs.lemmas.List.Kept.{AllPairs-filter}
use Rattle.stateful_base.specs.Names.{Named}
use Rattle.stateful_base.specs.declared.anchor.Anchor.{Anchor}
use Rattle.stateful_base.specs.declared.digest.Digest.{Digest}
use Rattle.stateful_history.specs.Past.{Past, after}
use Rattle.stateful_history.specs.declared.event.Event.{Event}
use Rattle.stateful_history.specs.declared.mark.Mark.{Mark}
use Rattle.stateful_exec_model.specs.Moments.{Moment}
use Rattle.stateful_exec_model.specs.Pausing.{GoesAlong, AcquiresAnew, unparked, unsettled, Resumes}
use Rattle.stateful_exec_tables.specs.Phase.{parked_path, parked_in, is_unacquired, unacquired_in}
use Rattle.stateful_exec_model.specs.Workings.{Workings, Point}
use Rattle.stateful_exec_pause.specs.declared.pause.Pause.TheVariants.{Free}
use Rattle.stateful_exec_tables.specs.declared.tables.Phase.TheVariants.{Fetching}
use Rattle.stateful_exec_tables.specs.declared.tables.Requested.{Requested}
use Rattle.stateful_exec_laws.specs.Setting.{setting}
use Rattle.stateful_exec_laws.specs.Gathering.{gathered, AsksParents, AsksAlong, AsksNothing}
use Rattle.stateful_exec_laws.specs.Standing.{TablesStand}
use Rattle.stateful_exec_laws.specs.Ways.{WaysStand}
use Rattle.stateful_exec_laws.proofs.pauses.AnewStands as anew
use Rattle.stateful_exec_laws.proofs.pauses.AnewStands.{MayWait, entries_apart}
use Rattle.stateful_exec_laws.proofs.requests.KeptMarks.{KeepsReady, KeepsReady-then}
use Rattle.stateful_exec_laws.proofs.requests.Parked.{TablesStand-kept}
use Rattle.stateful_exec_laws.proofs.places.Followed.{IsOrderly}
use Rattle.stateful_exec_laws.proofs.places.Marks.{IsInPlace}
use Rattle.stateful_exec_laws.proofs.places.Resumed.{AreParkedOn, AreToAcquire, AreParkedOn-along, AreToAcquire-anew}
use Rattle.stateful_exec_laws.proofs.reasons.Ground.{IsGround}
use Rattle.stateful_exec_laws.proofs.reasons.Resumed.{MayAcquire, AreParked}
use Rattle.stateful_exec_laws.proofs.reasons.Resumes.{parked}

module _ {B C I P R D H G U : Type 0} (w : Workings B C I P R D H G U) (stored stored_now : ℕ → Option (Named B)) (base : w.States) (tip : Anchor) (points : Digest → Point w) (point : Point w) (event : Event B C I) (all : List (Mark B))
    (other_states : (n i : w.Ids) (x y : w.States) (c : List (Point w)) → w.kind.issued n ((i, x) ∷ c) → w.kind.issued n ((i, y) ∷ c))
    (p : Past B C I) (m : Moment w) (s : TablesStand w stored p points point m.next (record m.state { pause = Free })) (g : IsGround w stored base p points point m.next tip Free m.state.anchor m.state.cache) (ways : WaysStand w stored p tip (record m.state { pause = Free }))
    (located : w.kind.point m.members ≡ Some point) (drawn : w.kind.issued m.next (point ∷ []))
    (orderly : IsOrderly w stored p) (asks : AsksAlong (setting w stored) p m.state.requests) (nothing : AsksNothing (setting w stored) p) where
  abbrev Rule : Past B C I → Mark B → Type 0
  Rule = IsInPlace w stored base

  abbrev Anew : List (ℕ × Requested B C I) → Past B C I → Moment w → Type 0
  Anew = AreToAcquire w stored stored_now base tip points point other_states

  -- the parked requests
  on_parked : AreParkedOn w stored stored_now base tip points point other_states (parked_in m.state.requests) p (unparked w m)
  on_parked =
      let on : AreParked w stored stored_now base tip points point event all other_states (parked_in m.state.requests) p (unparked w m) = parked w stored stored_now base tip points point event all other_states p m s g ways located drawn in
      record {
        grounded = on.grounded;
        stays = record {
          orderly = orderly;
          along = All-filter (λ (e : ℕ × Requested B C I). is_none (parked_path e.1.phase)) (λ e. (f : ℕ) → e.1.phase ≡ Fetching f → AsksParents (setting w stored) p e.0 (gathered e.1.request e.1.acquired)) m.state.requests asks;
          nothing = nothing;
        };
        hands = on.hands;
        apart = on.apart;
        also = on.also;
      }

  -- Each mark that is made after a pause stands in its place, where those that acquire anew what they need may do so.
  pub resumes-in_place : (now : Moment w) (r : Resumes w stored_now m now)
      → ((first : KeepsReady w Rule (GoesAlong w) (AreParkedOn w stored stored_now base tip points point other_states) [] p (unparked w m) r.mid) → All (λ e. MayAcquire w stored stored_now base tip (after p first.more) r.mid.state.pause r.mid.state.anchor r.mid.state.cache e) (unacquired_in r.mid.state.requests))
      → KeepsReady w Rule (AcquiresAnew w stored_now) Anew [] p m now
  resumes-in_place now r may = KeepsReady-then w Rule (AcquiresAnew w stored_now) Anew [] p m (unsettled w r.mid) now first.more first.marks_are first.each second
    where
      first : KeepsReady w Rule (GoesAlong w) (AreParkedOn w stored stored_now base tip points point other_states) [] p (unparked w m) r.mid
      first = AreParkedOn-along w stored stored_now base tip points point other_states (parked_in m.state.requests) p (unparked w m) r.mid on_parked r.along

      stands : TablesStand w stored (after p first.more) points point r.mid.next r.mid.state
      stands = first.ready.grounded.ready.stands

      may_wait : All (MayWait w stored stored_now points point other_states (after p first.more) (unsettled w r.mid)) (unacquired_in r.mid.state.requests)
      may_wait = λ k d l. (may first k d l).may_wait

      unacquired : Anew (unacquired_in r.mid.state.requests) (after p first.more) (unsettled w r.mid)
      unacquired = record {
        grounded = record {
          ready = record {
            stands = TablesStand-kept (λ phase. not (is_unacquired phase)) (λ j way. refl) (λ f. refl) w stored (after p first.more) points point r.mid.next r.mid.state stands;
            names = first.ready.grounded.ready.names;
            located = first.ready.grounded.ready.located;
            drawn = first.ready.grounded.ready.drawn;
          };
          ground = first.ready.grounded.ground;
        };
        stays = record {
          orderly = first.ready.stays.orderly;
          along = All-filter (λ (e : ℕ × Requested B C I). not (is_unacquired e.1.phase)) (λ e. (f : ℕ) → e.1.phase ≡ Fetching f → AsksParents (setting w stored) (after p first.more) e.0 (gathered e.1.request e.1.acquired)) r.mid.state.requests first.ready.stays.along;
          these = λ u d was. absurd (first.ready.stays.nothing u d was);
        };
        hands = λ k d l. (anew.out w stored stored_now points point other_states (after p first.more) r.mid stands may_wait k d l).hand;
        apart = AllPairs-filter (λ (e f : ℕ × Requested B C I). e.0 ≢ f.0) (λ e. is_unacquired e.1.phase) r.mid.state.requests (entries_apart r.mid.state.requests stands.requests.ascending);
        also = may first;
      }

      second : KeepsReady w Rule (AcquiresAnew w stored_now) Anew [] (after p first.more) (unsettled w r.mid) now
      second = AreToAcquire-anew w stored stored_now base tip points point other_states (unacquired_in r.mid.state.requests) (after p first.more) (unsettled w r.mid) now unacquired r.anew
