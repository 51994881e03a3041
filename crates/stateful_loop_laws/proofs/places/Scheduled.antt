-- Marks are in their places where a request is scheduled.
use Rattle.std.proofs.Common.{◌≡◌, ◌++◌, ℕ, List, [], Option, None, refl, sym, ap, ◌∙◌, subst}
use Rattle.std.proofs.lemmas.List.{append_cancel_left}
use Rattle.std.proofs.lemmas.List.Elements.{All-nil}
use Rattle.stateful_base.specs.Names.{Named}
use Rattle.stateful_base.specs.declared.digest.Digest.{Digest}
use Rattle.stateful_history.specs.Requests.{IsLiveRequest}
use Rattle.stateful_history.specs.Met.{Met}
use Rattle.stateful_history.specs.Past.{Past}
use Rattle.stateful_history.specs.declared.mark.Mark.{Mark}
use Rattle.stateful_exec_model.specs.Moments as exec
use Rattle.stateful_exec_tables.specs.Tables.{requested}
use Rattle.stateful_exec_model.specs.Workings.{Workings, Point}
use Rattle.stateful_exec_model.specs.declared.front.Front.{Front}
use Rattle.stateful_exec_pause.specs.declared.pause.Pause.{Pause}
use Rattle.stateful_exec_walk.specs.declared.request.Request.{Request}
use Rattle.stateful_exec_walk.specs.Request.{ticket_by}
use Rattle.stateful_exec_laws.specs.Gathering.{gathered, but_last, AsksParents}
use Rattle.stateful_exec_laws.specs.Ground.{IsGround}
use Rattle.stateful_exec_laws.specs.Setting.{setting}
use Rattle.stateful_exec_laws.specs.Standing.{IsInHand}
use Rattle.stateful_exec_laws.proofs.requests.AsksKept.{AsksAlong-acquires, there-acquires}
use Rattle.stateful_exec_laws.proofs.pauses.DueStands.{IsDue-quietly}
use Rattle.stateful_exec_laws.proofs.requests.KeptMarks.{KeepsBehind, EachMark-behind}
use Rattle.stateful_exec_laws.proofs.places.Asks.{acquires-in_place, asked_along}
use Rattle.stateful_exec_laws.proofs.places.Starts.{live-request}
use Rattle.stateful_exec_laws.proofs.requests.Quiet.{AreQuiet, GoesQuietly, GoesQuietly-acquires, unhooked-quiet}
use Rattle.stateful_exec_laws.proofs.requests.ServedMarks.{IsServedBy, AreServedBy, acquires-marks}
use Rattle.stateful_loop_model.specs.Moments.{Moment, inner, with_inner}
use Rattle.stateful_loop_model.specs.Rules.{Schedules}
use Rattle.stateful_loop_model.specs.declared.message.Message.TheVariants as message
use Rattle.stateful_loop_laws.specs.Execution.{IsFree, IsPlaced, Executes}
use Rattle.stateful_loop_laws.specs.Places.{IsInPlace, HasMovedIn, PlacesKept, PlacesBehind}
use Rattle.stateful_loop_laws.specs.Tickets.{MessageStands}
use Rattle.stateful_loop_laws.proofs.places.Served.{served-rules, served-ends, queued-acquires, own-acquires, asks-served}
use Rattle.stateful_loop_laws.proofs.places.Still.{places-of}

module _ {B C I P R D H G U : Type 0} (w : Workings B C I P R D H G U) (stored : ℕ → Option (Named B)) (base : w.States) (p : Past B C I) where
  -- what is kept is about execution and the finalization in front alone
  pub kept-same : (m n : Moment w) → n.execution ≡ m.execution → n.loop.front ≡ m.loop.front → PlacesKept w stored p m → PlacesKept w stored p n
  kept-same m n same front h = record {
    past = h.past;
    due = rw same h.due;
    asks = rw same h.asks;
    hooks = λ f captured at some. h.hooks f captured (sym front ∙ at) some;
  }

  -- from an earlier moment with the same marks
  pub places-before : (m mid now : Moment w) → mid.marks ≡ m.marks → PlacesBehind w stored base p mid now → PlacesBehind w stored base p m now
  places-before m mid now same b = record {
    more = b.more;
    marks_are = b.marks_are ∙ ap (λ (ms : List (Mark B)). ms ++ b.more) same;
    each = b.each;
    kept = b.kept;
  }

  -- the ground where nothing pauses, with the pause of the tables
  pub ground-free : (points : Digest → Point w) (point : Point w) (m : exec.Moment w) → IsFree w stored base p points point m.next m.state
      → IsGround w stored base p points point m.next m.state.anchor m.state.pause m.state.anchor m.state.cache
  ground-free points point m free =
      subst (λ (x : Pause). IsGround w stored base p points point m.next m.state.anchor x m.state.anchor m.state.cache)
      (sym free.pause_is) free.ground

  module _ (stored_now : ℕ → Option (Named B)) (request : Request B C I) (m now : Moment w) (front : m.execution.front ≡ None)
      (stands : MessageStands w stored p m.execution.state m.execution.build (message.Request request)) (e : Executes w stored base p m)
      (h : PlacesKept w stored p m) (r : Schedules w stored_now request m now) where
    abbrev t : ℕ
    t = ticket_by request

    free : IsFree w stored base p e.points e.point m.next m.execution.state
    free = subst (λ (f : Option (Front B R U H)). IsPlaced w stored base p e.points e.point m.next m.execution.state f) front e.placed

    hand : IsInHand w stored p t request m.execution.state
    hand = record { absent = stands.2.elsewhere.absent; not_queued = stands.2.elsewhere.not_queued; own = refl; asked = stands.0; brought = stands.1 }

    live : IsLiveRequest t p
    live = live-request w stored p t request stands.0

    unasked : (blocks : List (Named B)) → AsksParents (setting w stored) p t blocks
    unasked blocks d was = absurd (h.asks.inside t d was live stands.2)

    placed : KeepsBehind w (IsInPlace w stored base) p (inner w m) r.then
    placed = acquires-in_place w stored base p e.points e.point m.execution.state.anchor (inner w m)
        (ground-free e.points e.point (inner w m) free) free.pause_is stored_now e.tables h.past.orderly.apart h.past.orderly.again t
        (requested request)
        hand (All-nil (Met (setting w stored) p)) (unasked (but_last (gathered request []))) (h.past.orderly.live t live) r.then r.acquires

    quietly : GoesQuietly w (inner w m) r.then
    quietly = GoesQuietly-acquires w stored_now (inner w m) r.then t (requested request) r.acquires

    are : AreServedBy t p placed.more
    are = EachMark-behind w (λ (x : Past B C I) (mark : Mark B). IsServedBy t mark) p (inner w m) r.then placed.more placed.marks_are
        (acquires-marks w p (inner w m) r.then t stored_now (requested request) r.acquires)

    quiet : AreQuiet placed.more
    quiet = subst (λ (ms : List (Mark B)). AreQuiet ms)
        (append_cancel_left m.marks quietly.more placed.more (sym quietly.marks_are ∙ placed.marks_are)) quietly.quiet

    -- Its marks are in their places.
    pub places-schedules : PlacesBehind w stored base p m now
    places-schedules = subst (λ (n : Moment w). PlacesBehind w stored base p m n) (sym r.becomes)
        (places-of w stored base p m (with_inner w m r.then) placed.more placed.marks_are placed.each (served-rules t p placed.more are)
        (served-ends t p placed.more are) h.past
        (IsDue-quietly w stored p (inner w m) r.then m.execution.front quietly h.due placed.more placed.marks_are)
        (asks-served w stored p (inner w m) r.then t placed.more are live m.execution.build m.execution.front h.asks.earlier
        (λ u d other was alive out. h.asks.inside u d was alive out)
        (there-acquires w (inner w m) r.then t stored_now (requested request) r.acquires)
        (queued-acquires w (inner w m) r.then t stored_now (requested request) r.acquires)
        (own-acquires w (inner w m) r.then t p placed.more placed.marks_are stored_now (requested request) r.acquires)
        (AsksAlong-acquires w stored p (inner w m) r.then t hand.absent placed.more are placed.marks_are h.asks.along stored_now (requested request)
        (λ f d needs. asked_along w stored base p e.points e.point m.execution.state.anchor (inner w m)
        (ground-free e.points e.point (inner w m) free) free.pause_is stored_now e.tables h.past.orderly.apart h.past.orderly.again t
        (requested request)
        hand (All-nil (Met (setting w stored) p)) (unasked (but_last (gathered request []))) f d needs) r.acquires)
        (λ moved. absurd (subst (λ (f : Option (Front B R U H)). HasMovedIn f) front moved)))
        (λ f captured at some. unhooked-quiet (setting w stored) p placed.more quiet ∙ h.hooks f captured at some))
