-- Marks are in their places behind the answer of a fetch.
use Rattle.std.proofs.Common.{◌≡◌, ◌++◌, inl, ℕ, List, [], ◌∷◌, All, Any, Option, None, IsSome, refl, sym, ap, ◌∙◌, subst}
use Rattle.std.proofs.lemmas.List.{append_cancel_left}
use Rattle.std.proofs.lemmas.List.Elements.{All-push}
use Rattle.stateful_base.specs.Names.{Named}
use Rattle.stateful_history.specs.Met.{Met, TrueNames}
use Rattle.stateful_history.specs.Past.{Past, Came, after}
use Rattle.stateful_history.specs.Requests.{IsLiveRequest}
use Rattle.stateful_history.specs.Setting.{parent_of}
use Rattle.stateful_history.specs.declared.event.Event.TheVariants.{Fetched}
use Rattle.stateful_history.specs.declared.mark.Mark.{Mark}
use Rattle.stateful_table.specs.Table.{at, without}
use Rattle.stateful_exec_tables.specs.Fetching.{Fetches, with_block}
use Rattle.stateful_exec_model.specs.Fetching.{serving, IsFetched, found, waits, declines, dead}
use Rattle.stateful_exec_model.specs.Moments as exec
use Rattle.stateful_exec_model.specs.Workings.{Workings}
use Rattle.stateful_exec_model.specs.declared.front.Front.{Front}
use Rattle.stateful_exec_walk.specs.declared.request.Request.{Request}
use Rattle.stateful_exec_walk.specs.declared.request.Request.TheVariants.{Verify, Recover}
use Rattle.stateful_exec_walk.specs.declared.request.Verdict.TheVariants as verdict
use Rattle.stateful_exec_tables.specs.declared.tables.Phase.TheVariants.{Fetching, Waiting}
use Rattle.stateful_exec_tables.specs.declared.tables.Requested.{Requested}
use Rattle.stateful_exec_tables.specs.declared.state.Tables.{Tables}
use Rattle.stateful_exec_tables.specs.Tables.{ended}
use Rattle.stateful_exec_walk.specs.declared.request.Verdict as said
use Rattle.stateful_exec_laws.specs.Building.{IsElsewhere}
use Rattle.stateful_exec_laws.specs.Gathering.{gathered, but_last, AsksParents, AsksAlong}
use Rattle.stateful_exec_laws.specs.Setting.{setting}
use Rattle.stateful_exec_laws.specs.Standing.{IsInHand}
use Rattle.stateful_exec_laws.proofs.requests.AsksKept.{AsksAlong-acquires, there-acquires}
use Rattle.stateful_exec_laws.proofs.linked.Circular.{but_last-push}
use Rattle.stateful_exec_laws.proofs.pauses.DueStands.{IsDue-quietly}
use Rattle.stateful_exec_laws.proofs.requests.FetchStands.{TablesStand-fetched, IsInHand-fetched, acquired-fetched}
use Rattle.stateful_exec_laws.proofs.requests.KeptMarks.{KeepsBehind, EachMark-behind}
use Rattle.stateful_exec_laws.proofs.places.Asks.{asked_along}
use Rattle.stateful_exec_laws.proofs.places.Fetched.{gathered-push, fetched-in_place}
use Rattle.stateful_exec_laws.proofs.places.Starts.{live-request}
use Rattle.stateful_exec_laws.proofs.requests.Putting.{put_here, All-put}
use Rattle.stateful_exec_laws.proofs.requests.Quiet.{AreQuiet, GoesQuietly, GoesQuietly-fetched, unhooked-quiet}
use Rattle.stateful_exec_laws.proofs.reasons.Fetched.{IsGround-fetched}
use Rattle.stateful_exec_laws.proofs.runs.Removing.{at_other, All-at, All-without}
use Rattle.stateful_exec_laws.proofs.requests.ServedMarks.{AreServedBy, WasAsked-before, acquires-marks, concludes-marks}
use Rattle.stateful_loop_model.specs.Moments.{Moment, inner, with_inner}
use Rattle.stateful_loop_laws.specs.Execution.{IsFree, IsPlaced, Executes}
use Rattle.stateful_loop_laws.specs.Places.{IsInPlace, HasMovedIn, PlacesKept, PlacesBehind}
use Rattle.stateful_loop_laws.proofs.places.Places.{fetches-free}
use Rattle.stateful_loop_laws.proofs.places.Events.{places-besides}
use Rattle.stateful_loop_laws.proofs.places.Scheduled.{ground-free}
use Rattle.stateful_loop_laws.proofs.places.Served.{served-rules, served-ends, queued-acquires, queued-concludes, own-acquires, own-concludes, asks-served, put_some}
use Rattle.stateful_loop_laws.proofs.places.Still.{places-of}

module _ {B C I P R D H G U : Type 0} (w : Workings B C I P R D H G U) (stored : ℕ → Option (Named B)) (base : w.States) (p : Past B C I)
    (f : ℕ) (answer : Option (Named B)) (names : TrueNames (setting w stored) (Came (Fetched f answer) ∷ p)) (stored_now : ℕ → Option (Named B))
    (m : Moment w) (e : Executes w stored base p m) (h : PlacesKept w stored p m) (k : PlacesKept w stored (Came (Fetched f answer) ∷ p) m)
    (then : exec.Moment w) where
  abbrev given : Past B C I
  given = Came (Fetched f answer) ∷ p

  abbrev v : Tables B C I R U
  v = m.execution.state

  asked_of : (t : ℕ) (r : Requested B C I) → Fetches v f t r → AsksParents (setting w stored) p t (gathered r.request r.acquired)
  asked_of t r fetches = All-at
      (λ (x : ℕ × Requested B C I). (g : ℕ) → x.1.phase ≡ Fetching g → AsksParents (setting w stored) p x.0 (gathered x.1.request x.1.acquired))
      v.requests t r fetches.there h.asks.along f fetches.fetching

  module _ (t : ℕ) (r : Requested B C I) (fetches : Fetches v f t r) where
    abbrev serving_it : exec.Moment w
    serving_it = serving w (inner w m) t

    no_front : m.execution.front ≡ None
    no_front = fetches-free w stored base p e.points e.point m.next v m.execution.front e.placed f t r fetches

    free : IsFree w stored base p e.points e.point m.next v
    free = subst (λ (x : Option (Front B R U H)). IsPlaced w stored base p e.points e.point m.next v x) no_front e.placed

    hand : IsInHand w stored given t r.request serving_it.state
    hand = IsInHand-fetched w stored p e.points e.point m.next v e.tables f answer t r fetches

    live : IsLiveRequest t given
    live = live-request w stored given t r.request hand.asked

    placed : IsFetched w stored_now (inner w m) f answer then → KeepsBehind w (IsInPlace w stored base) given (inner w m) then
    placed fetched = fetched-in_place w stored base p e.points e.point v.anchor (inner w m) e.tables
        (ground-free w stored base p e.points e.point (inner w m) free)
        free.pause_is f answer names stored_now k.past.orderly (λ u x on. asked_of u x on) then fetched

    along_serving : AsksAlong (setting w stored) given serving_it.state.requests
    along_serving = All-without
        (λ (x : ℕ × Requested B C I). (g : ℕ) → x.1.phase ≡ Fetching g → AsksParents (setting w stored) given x.0 (gathered x.1.request x.1.acquired))
        v.requests t (λ i d l other. k.asks.along i d l)

    -- how the request was served
    served : IsFetched w stored_now (inner w m) f answer then → (more : List (Mark B)) → then.marks ≡ m.marks ++ more → AreServedBy t given more
        → ((u : ℕ) → IsSome (at serving_it.state.requests u) → IsSome (at then.state.requests u))
        → ((u : ℕ) → IsSome (at serving_it.state.queued u) → IsSome (at then.state.queued u))
        → (IsLiveRequest t (after given more) → IsElsewhere then.state t → ⊥) → AsksAlong (setting w stored) (after given more) then.state.requests
        → PlacesBehind w stored base given m (with_inner w m then)
    served fetched more is are there queued own along =
        let quietly : GoesQuietly w (inner w m) then = GoesQuietly-fetched w stored_now (inner w m) then f answer fetched in
        let quiet : AreQuiet more = subst (λ (ms : List (Mark B)). AreQuiet ms)
        (append_cancel_left m.marks quietly.more more (sym quietly.marks_are ∙ is)) quietly.quiet in
        places-of w stored base given m (with_inner w m then) more is
        (EachMark-behind w (IsInPlace w stored base) given (inner w m) then more is (placed fetched)) (served-rules t given more are)
        (served-ends t given more are) k.past
        (IsDue-quietly w stored given (inner w m) then m.execution.front quietly k.due more is)
        (asks-served w stored given serving_it then t more are live m.execution.build m.execution.front k.asks.earlier
        (λ u d other was alive out. k.asks.inside u d was alive (record {
          elsewhere = record { absent = sym (at_other v.requests t u other) ∙ out.elsewhere.absent; not_queued = out.elsewhere.not_queued };
          unbuilt = out.unbuilt;
        })) there queued own along
        (λ moved. absurd (subst (λ (x : Option (Front B R U H)). HasMovedIn x) no_front moved)))
        (λ g captured at some. unhooked-quiet (setting w stored) given more quiet ∙ k.hooks g captured at some)

    ended_stays : (x : Tables B C I R U) (request : Request B C I) (y : said.Verdict) → (ended x t request y).requests ≡ x.requests
    ended_stays x (Verify u ancestry) verdict.Valid = refl
    ended_stays x (Verify u ancestry) verdict.Invalid = refl
    ended_stays x (Recover u context ancestry input kind) verdict.Valid = refl
    ended_stays x (Recover u context ancestry input kind) verdict.Invalid = refl

    along_later : (more : List (Mark B)) → AreServedBy t given more → AsksAlong (setting w stored) (after given more) serving_it.state.requests
    along_later more are =
        All-without (λ (x : ℕ × Requested B C I). (g : ℕ) → x.1.phase ≡ Fetching g → AsksParents (setting w stored) (after given more) x.0
        (gathered x.1.request x.1.acquired))
        v.requests t (λ i d l other g fetching x was. k.asks.along i d l g fetching x (WasAsked-before t _ x given more are other was))

  by : IsFetched w stored_now (inner w m) f answer then → PlacesBehind w stored base given m (with_inner w m then)
  by (found t r b fetches is acquires) =
      let all : All (Met (setting w stored) given) (r.acquired ++ b ∷ []) = All-push (Met (setting w stored) given) r.acquired b
      (acquired-fetched w stored p e.points e.point m.next v e.tables f answer t r fetches) (inl is) in
      let asked : AsksParents (setting w stored) given t (but_last (gathered r.request (r.acquired ++ b ∷ []))) = λ d was.
      subst (λ (l : List (Named B)). Any (λ x. d ≡ parent_of (setting w stored) x) l)
      (sym (ap but_last (gathered-push r.request r.acquired b) ∙ but_last-push (gathered r.request r.acquired) b)) (asked_of t r fetches d was) in
      let one = acquires-marks w given (serving_it t r fetches) then t stored_now (with_block r b) acquires in
      served t r fetches (found t r b fetches is acquires) one.more one.marks_are one.each
      (there-acquires w (serving_it t r fetches) then t stored_now (with_block r b) acquires)
      (queued-acquires w (serving_it t r fetches) then t stored_now (with_block r b) acquires)
      (own-acquires w (serving_it t r fetches) then t given one.more one.marks_are stored_now (with_block r b) acquires)
      (AsksAlong-acquires w stored given (serving_it t r fetches) then t (hand t r fetches).absent one.more one.each one.marks_are
      (along_serving t r fetches) stored_now (with_block r b)
      (λ g d needs. asked_along w stored base given e.points e.point v.anchor (serving_it t r fetches)
      (IsGround-fetched w stored base p e.points e.point v.anchor (inner w m) e.tables
      (ground-free w stored base p e.points e.point (inner w m) (free t r fetches))
      (free t r fetches).pause_is f answer [] names t r fetches) (free t r fetches).pause_is stored_now
      (TablesStand-fetched w stored p e.points e.point m.next v e.tables f answer t r fetches) k.past.orderly.apart k.past.orderly.again t
      (with_block r b) (hand t r fetches) all asked g d needs) acquires)
  by (waits t r fetches is verification becomes) =
      served t r fetches (waits t r fetches is verification becomes) [] (ap (λ (n : exec.Moment w). n.marks) becomes) tt
      (λ u some. rw becomes (put_some (without v.requests t) t u (record r { phase = Waiting }) some))
      (λ u some. rw becomes some)
      (λ alive out. let there = put_here (without v.requests t) t (record r { phase = Waiting }) in
      let no = sym there ∙ sym (ap (λ (n : exec.Moment w). at n.state.requests t) becomes) ∙ out.absent in cc)
      (rw becomes (All-put (λ (x : ℕ × Requested B C I). (g : ℕ) → x.1.phase ≡ Fetching g → AsksParents (setting w stored) given x.0 (gathered x.1.request x.1.acquired))
      (without v.requests t) t (record r { phase = Waiting }) (along_serving t r fetches) (λ g fetching. cc)))
  by (declines t r fetches is proposal concludes) =
      let one = concludes-marks w given (serving_it t r fetches) then t r verdict.Invalid concludes in
      served t r fetches (declines t r fetches is proposal concludes) one.more one.marks_are one.each
      (λ u some. rw (concludes, ended_stays t r fetches (serving_it t r fetches).state r.request verdict.Invalid) some)
      (queued-concludes w (serving_it t r fetches) then t r verdict.Invalid concludes)
      (own-concludes w (serving_it t r fetches) then t given one.more one.marks_are r verdict.Invalid concludes)
      (subst (λ (es : List (ℕ × Requested B C I)). AsksAlong (setting w stored) (after given one.more) es)
      (sym (ap (λ (n : exec.Moment w). n.state.requests) concludes ∙ ended_stays t r fetches (serving_it t r fetches).state r.request verdict.Invalid))
      (along_later t r fetches one.more one.each))
  by (dead none is) = places-besides w stored base p m (with_inner w m then) given (ap (λ (n : exec.Moment w). n.marks) is)
      (ap (λ (n : exec.Moment w). record m.execution { state = n.state }) is) refl k

  -- They are, whether its request still fetches or not.
  pub places-fetched : (now : Moment w) → IsFetched w stored_now (inner w m) f answer then → now ≡ with_inner w m then
      → PlacesBehind w stored base given m now
  places-fetched now fetched is = subst (λ (n : Moment w). PlacesBehind w stored base given m n) (sym is) (by fetched)
