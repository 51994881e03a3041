-- What is kept for marks to be in their places is kept where execution has no part.
use Rattle.std.proofs.Common.{◌≡◌, ◌≢◌, ◌++◌, ◌<◌, ℕ, true, List, [], ◌∷◌, All, Option, None, Some, IfSome, map, refl, sym, ◌∙◌, subst, arith}
use Rattle.std.proofs.lemmas.List.Elements.{All-head, All-tail}
use Rattle.stateful_base.specs.Names.{Named}
use Rattle.stateful_durability.specs.Durability.{receipts_up_to}
use Rattle.stateful_history.specs.Answers.{EndsLive}
use Rattle.stateful_history.specs.Barriers.{begun_over}
use Rattle.stateful_history.specs.Past.{Past, Made, EachMark, after}
use Rattle.stateful_history.specs.Requests.{IsLiveRequest}
use Rattle.stateful_history.specs.Runs.{unhooked}
use Rattle.stateful_history.specs.declared.mark.Mark.{Mark}
use Rattle.stateful_history.specs.declared.mark.JobKind.TheVariants as job
use Rattle.stateful_history.specs.declared.mark.Mark.TheVariants as mark
use Rattle.stateful_exec_model.specs.Workings.{Workings}
use Rattle.stateful_exec_model.specs.declared.building.Building.{Building}
use Rattle.stateful_exec_model.specs.declared.front.Front.{Front}
use Rattle.stateful_exec_tables.specs.declared.state.Tables.{Tables}
use Rattle.stateful_exec_tables.specs.declared.tables.Requested.{Requested}
use Rattle.stateful_exec_laws.specs.Due.{IsDue}
use Rattle.stateful_exec_laws.specs.Gathering.{gathered, AsksParents, AsksNothing}
use Rattle.stateful_exec_laws.specs.Setting.{setting}
use Rattle.stateful_exec_tables.specs.declared.tables.Phase.TheVariants.{Fetching}
use Rattle.stateful_exec_laws.proofs.pauses.DueStands.{IsDue-quiet}
use Rattle.stateful_exec_laws.proofs.requests.Quiet.{IsQuiet}
use Rattle.stateful_loop_model.specs.Moments.{Moment}
use Rattle.stateful_loop_model.specs.Rules.{acknowledged}
use Rattle.stateful_loop_model.specs.declared.barriers.Active.{Active}
use Rattle.stateful_loop_model.specs.declared.tables.Finalizing.{Finalizing}
use Rattle.stateful_loop_laws.specs.Places.{CancelledIsGone, EndsNoRun, IsInPlace, IsOrderlyPast, HasMovedIn, AsksStand, PlacesKept, PlacesBehind}
use Rattle.stateful_loop_laws.specs.RuleMarks.{IsOfRule}
use Rattle.stateful_loop_laws.specs.Stands.{LoopStands}
use Rattle.stateful_loop_laws.specs.Tickets.{IsOutside, TicketsStand}
use Rattle.stateful_loop_laws.proofs.barriers.Acknowledging.{completes-EndsLive}
use Rattle.stateful_loop_laws.proofs.places.Past.{IsAskless, past-after, live-before, bound-after, asked-before}
use Rattle.stateful_loop_laws.proofs.tickets.Uncancelled.{live-uncancelled, gone-mark}

-- the mark is of a barrier, of a receipt or of a subscription
abbrev pub IsStill : {B : Type 0} → Mark B → Type 0
IsStill (mark.Databases t) = Unit {0}
IsStill (mark.Acknowledged t height) = Unit {0}
IsStill (mark.BarrierBegun k height) = Unit {0}
IsStill (mark.BarrierDone k height good) = Unit {0}
IsStill mark = ⊥

-- the mark leaves behind which block no hook was started yet
abbrev pub IsHookless : {B : Type 0} → Mark B → Type 0
IsHookless (mark.Opened anchor) = ⊥
IsHookless (mark.Converged anchor) = ⊥
IsHookless (mark.Applied b) = ⊥
IsHookless (mark.Started j job.Hook d) = ⊥
IsHookless mark = Unit {0}

still_marks : {B : Type 0} (P : Mark B → Type 0) (one : (m : Mark B) → IsStill m → P m) (more : List (Mark B)) → All IsStill more → All P more
still_marks P one more each = λ k d l. one _ (each k d l)

still_askless : {B : Type 0} (m : Mark B) → IsStill m → IsAskless m
still_askless (mark.Asked f t d) h = absurd h
still_askless m h = tt

still_rule : {B : Type 0} (m : Mark B) → IsStill m → IsOfRule m
still_rule (mark.Databases t) h = tt
still_rule (mark.Acknowledged t height) h = tt
still_rule (mark.BarrierBegun k height) h = tt
still_rule (mark.BarrierDone k height good) h = tt
still_rule m h = absurd h

still_hookless : {B : Type 0} (m : Mark B) → IsStill m → IsHookless m
still_hookless (mark.Databases t) h = tt
still_hookless (mark.Acknowledged t height) h = tt
still_hookless (mark.BarrierBegun k height) h = tt
still_hookless (mark.BarrierDone k height good) h = tt
still_hookless m h = absurd h

still_quiet : {B : Type 0} (m : Mark B) → IsStill m → IsQuiet m
still_quiet (mark.Databases t) h = tt
still_quiet (mark.Acknowledged t height) h = tt
still_quiet (mark.BarrierBegun k height) h = tt
still_quiet (mark.BarrierDone k height good) h = tt
still_quiet m h = absurd h

module _ {B C I : Type 0} where
  still_ends : (p : Past B C I) (more : List (Mark B)) → All IsStill more → EachMark EndsNoRun p more
  still_ends p [] each = tt
  still_ends p (m ∷ more) each = (one m (All-head IsStill m more each), still_ends (Made m ∷ p) more (All-tail IsStill m more each))
    where
      one : (x : Mark B) → IsStill x → EndsNoRun p x
      one (mark.Ended j how) h = absurd h
      one x h = tt

  hookless_one : (p : Past B C I) (m : Mark B) → IsHookless m → unhooked (Made m ∷ p) ≡ unhooked p
  hookless_one p (mark.Opened anchor) h = absurd h
  hookless_one p (mark.Converged anchor) h = absurd h
  hookless_one p (mark.Applied b) h = absurd h
  hookless_one p (mark.Started j job.Hook d) h = absurd h
  hookless_one p (mark.Started j job.Candidate d) h = refl
  hookless_one p (mark.Started j job.Finalized d) h = refl
  hookless_one p (mark.Started j job.Build d) h = refl
  hookless_one p m h = refl

  -- the block behind which no hook was started yet is the same behind such marks
  pub unhooked-after : (p : Past B C I) (more : List (Mark B)) → All IsHookless more → unhooked (after p more) ≡ unhooked p
  unhooked-after p [] each = refl
  unhooked-after p (m ∷ more) each = unhooked-after (Made m ∷ p) more (All-tail IsHookless m more each) ∙ hookless_one p m
      (All-head IsHookless m more each)

module _ {B C I P R D H G U : Type 0} (w : Workings B C I P R D H G U) (stored : ℕ → Option (Named B)) where
  -- What was asked stays so after marks that ask for nothing, where no request comes to fetch, and what is outside of the tables
  -- was so before.
  pub asks-left : (p : Past B C I) (more : List (Mark B)) → All IsAskless more → (v u : Tables B C I R U) (build then : Option (Building B C D))
      (front next : Option (Front B R U H))
      → ((P : ℕ × Requested B C I → Type 0) → All P v.requests → All P u.requests)
      → ((t : ℕ) → IsLiveRequest t (after p more) → IsOutside w stored (after p more) u then t → IsOutside w stored p v build t)
      → (HasMovedIn next → AsksNothing (setting w stored) (after p more))
      → AsksStand w stored p v build front → AsksStand w stored (after p more) u then next
  asks-left p more askless v u build then front next requests outside nothing h = record {
    along = requests Asks (λ k d l f fetching x was. h.along k d l f fetching x (asked-before _ x p more askless was));
    earlier = λ t d was. subst (λ n. t < n) (sym (bound-after p more)) (h.earlier t d (asked-before t d p more askless was));
    inside = λ t d was live out. h.inside t d (asked-before t d p more askless was) (live-before t _ p more live) (outside t live out);
    nothing = nothing;
  }
    where
      Asks : ℕ × Requested B C I → Type 0
      Asks e = (f : ℕ) → e.1.phase ≡ Fetching f → AsksParents (setting w stored) (after p more) e.0 (gathered e.1.request e.1.acquired)

  -- the same tables hold them
  pub asks-same : (p : Past B C I) (more : List (Mark B)) → All IsAskless more → (v u : Tables B C I R U) (build then : Option (Building B C D))
      (front next : Option (Front B R U H)) → u.requests ≡ v.requests → u.queued ≡ v.queued → then ≡ build
      → (HasMovedIn next → AsksNothing (setting w stored) (after p more))
      → AsksStand w stored p v build front → AsksStand w stored (after p more) u then next
  asks-same p more askless v u build then front next requests queued same nothing h =
      asks-left p more askless v u build then front next (λ Q all. subst (λ es. All Q es) (sym requests) all)
      (λ t live out. record {
        elsewhere = record { absent = rw requests at out.elsewhere.absent; not_queued = rw queued at out.elsewhere.not_queued };
        unbuilt = subst (λ (o : Option (Building B C D)). IfSome o (λ b. b.ticket ≢ t)) same out.unbuilt;
      }) nothing h

  module _ (base : w.States) (p : Past B C I) (m : Moment w) where
    -- What is kept is put together after marks of rules by which no run ends.
    pub places-of : (now : Moment w) (more : List (Mark B)) → now.marks ≡ m.marks ++ more → EachMark (IsInPlace w stored base) p more
        → All IsOfRule more → EachMark EndsNoRun p more → IsOrderlyPast w stored p
        → IsDue (setting w stored) (after p more) now.execution.state.cache now.execution.front
        → AsksStand w stored (after p more) now.execution.state now.execution.build now.execution.front
        → ((f : Finalizing B G) (captured : G) → now.loop.front ≡ Some f → f.captured ≡ Some captured → unhooked (after p more) ≡ Some f.block)
        → PlacesBehind w stored base p m now
    places-of now more is each rules ends past due asks hooks = record {
      more = more;
      marks_are = is;
      each = each;
      kept = record { past = past-after w stored p more rules ends past; due = due; asks = asks; hooks = hooks };
    }

    -- Where execution has no part, that is kept.
    pub places-still : (now : Moment w) (more : List (Mark B)) → now.marks ≡ m.marks ++ more → EachMark (IsInPlace w stored base) p more
        → All IsStill more → now.execution.state.requests ≡ m.execution.state.requests → now.execution.state.queued ≡ m.execution.state.queued
        → now.execution.state.cache ≡ m.execution.state.cache → now.execution.build ≡ m.execution.build → now.execution.front ≡ m.execution.front
        → now.loop.front ≡ m.loop.front → PlacesKept w stored p m → PlacesBehind w stored base p m now
    places-still now more is each still requests queued cache build front in_front h =
        places-of now more is each (still_marks IsOfRule still_rule more still) (still_ends p more still) h.past
        (subst (λ c. IsDue (setting w stored) (after p more) c now.execution.front) (sym cache)
        (subst (λ f. IsDue (setting w stored) (after p more) m.execution.state.cache f) (sym front)
        (IsDue-quiet (setting w stored) p m.execution.state.cache more (still_marks IsQuiet still_quiet more still) m.execution.front h.due)))
        (asks-same p more (still_marks IsAskless still_askless more still) m.execution.state now.execution.state m.execution.build now.execution.build
        m.execution.front now.execution.front requests queued build
        (λ moved t d was. h.asks.nothing (subst (λ f. HasMovedIn f) front moved) t d
        (asked-before t d p more (still_marks IsAskless still_askless more still) was)) h.asks)
        (λ f captured at some. unhooked-after p more (still_marks IsHookless still_hookless more still) ∙ h.hooks f captured (sym in_front ∙ at) some)

    -- the number of the next barrier is new
    pub barrier-new : LoopStands w stored base p m → begun_over m.loop.next_barrier p ≡ None
    barrier-new l = go (begun_over m.loop.next_barrier p) refl
      where
        go : (o : Option _) → begun_over m.loop.next_barrier p ≡ o → o ≡ None
        go None is = refl
        go (Some x) is =
            let below = l.barriers.numbers m.loop.next_barrier (λ none. let no = sym is ∙ none in cc) in
            let never : ⊥ = omega (arith, below) in absurd never

    -- marks of barriers and of receipts are in their places, where each receipt is live
    pub receipts-in_place : (q : Past B C I) (receipts : List (ℕ × ℕ)) → CancelledIsGone q
        → EachMark (EndsLive (setting w stored)) q (map acknowledged receipts) → EachMark (IsInPlace w stored base) q (map acknowledged receipts)
    receipts-in_place q [] gone ends = tt
    receipts-in_place q (r ∷ receipts) gone ends = (
      (ends.0, tt, tt, tt, live-uncancelled q gone r.1 _ ends.0.0),
      receipts-in_place (Made (acknowledged r) ∷ q) receipts (gone-mark q (acknowledged r) gone) ends.1,
    )

    -- so are those of a barrier that is done
    pub completes-in_place : CancelledIsGone p → TicketsStand w stored p m → (active : Active)
        → EachMark (IsInPlace w stored base) p
        (mark.BarrierDone active.number active.height true ∷ map acknowledged (receipts_up_to active.height.0 m.loop.durability.held))
    completes-in_place gone s active = (
      (tt, tt, tt, tt, tt),
      receipts-in_place (Made (mark.BarrierDone active.number active.height true) ∷ p) (receipts_up_to active.height.0 m.loop.durability.held)
          (gone-mark p (mark.BarrierDone active.number active.height true) gone) (completes-EndsLive w stored p m s active).1,
    )
