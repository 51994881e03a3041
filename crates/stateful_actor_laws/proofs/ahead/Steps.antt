-- The finalized blocks that wait stay in their order behind each step, where each event since the last restart was lawful.
use Rattle.std.proofs.Common.{◌≡◌, ◌≤◌, ◌⊎◌, inl, inr, ◌++◌, ◌∷◌, [], ℕ, Bool, true, false, not, if◌then◌else◌, Option, Some, None, List, refl, sym, ap, ◌∙◌, subst, append_assoc, true≢false, arith}
use Rattle.std.proofs.lemmas.List.{append_cancel_left}
use Rattle.stateful_base.specs.Names.{Named}
use Rattle.stateful_base.specs.Anchor.{anchor_by}
use Rattle.stateful_base.specs.declared.anchor.Anchor.{Anchor}
use Rattle.stateful_base.specs.declared.floor.Floor.{Floor}
use Rattle.stateful_db.specs.Laws.{Laws}
use Rattle.stateful_history.specs.Lawful.{IsLawful, LawfulSince}
use Rattle.stateful_history.specs.Live.{live_ticket, may_come, names_live}
use Rattle.stateful_history.specs.Met.{TrueNames}
use Rattle.stateful_history.specs.Opening.{opens, held_or}
use Rattle.stateful_history.specs.Past.{Past, Came, Made, EachMark, after, after_entry, after_all}
use Rattle.stateful_history.specs.Refusals.{WasFinalized}
use Rattle.stateful_history.specs.Stops.{IsRestart, NothingLive, StartsClean}
use Rattle.stateful_history.specs.Telling.{telling_of}
use Rattle.stateful_history.specs.Honest.{StoresHeights, StoresFinalized}
use Rattle.stateful_history.specs.declared.entry.Entry.{Entry}
use Rattle.stateful_history.specs.declared.event.Event.{Event}
use Rattle.stateful_history.specs.declared.event.Event.TheVariants.{Restart}
use Rattle.stateful_history.specs.declared.mark.Mark.{Mark}
use Rattle.stateful_history.specs.declared.mark.Mark.TheVariants.{Opened}
use Rattle.stateful_history.specs.declared.ticket.Ticket.TheVariants.{Request}
use Rattle.stateful_history.proofs.Marks.{after-append, TrueNames-before_marks}
use Rattle.stateful_exec_model.specs.Workings.{Workings}
use Rattle.stateful_exec_model.specs.declared.front.Front.{Front}
use Rattle.stateful_actor_register.specs.Register.{RegisterStands}
use Rattle.stateful_actor_register.specs.declared.register.Register.{Register}
use Rattle.stateful_exec_laws.specs.Building.{BuildsTakeTurns}
use Rattle.stateful_exec_laws.specs.Fronting.{RunsTakeTurns}
use Rattle.stateful_exec_laws.specs.Setting.{setting}
use Rattle.stateful_exec_laws.specs.Storing.{IsStoredNow}
use Rattle.stateful_loop_model.specs.Intake.{Counts}
use Rattle.stateful_loop_model.specs.Moments.{Moment}
use Rattle.stateful_loop_laws.specs.Behind.{UpBehind}
use Rattle.stateful_loop_laws.specs.EventBehind.{EventBehind}
use Rattle.stateful_loop_laws.specs.Execution.{NamesBehind}
use Rattle.stateful_loop_laws.specs.Stands.{IsUpAt}
use Rattle.stateful_loop_laws.specs.TakenBehind.{TakenBehind}
use Rattle.stateful_loop_laws.proofs.events.AlongUp.{along-up}
use Rattle.stateful_loop_laws.proofs.media.AppliedFurther.{was_finalized-before}
use Rattle.stateful_loop_laws.proofs.events.EventUp.{names-taken, event-up}
use Rattle.stateful_loop_laws.proofs.duly.MarksOfRules.{taken_in_marks}
use Rattle.stateful_loop_laws.proofs.events.NamesBehind.{NamesBehind-marks}
use Rattle.stateful_loop_laws.proofs.events.RuleItems.{IsStoredNow-after, opens-none}
use Rattle.stateful_loop_laws.proofs.events.TakenIn.{may_come-live, takes_in-up}
use Rattle.stateful_loop_laws.proofs.ways.Beside.{StoresFinalized-after}
use Rattle.stateful_actor_laws.specs.Entering.{Steps}
use Rattle.stateful_actor_laws.specs.Machine.{numbered, is_restart}
use Rattle.stateful_actor_laws.specs.Stands.{StandsAt}
use Rattle.stateful_actor_laws.specs.StepBehind.{StepBehind, EachStands}
use Rattle.stateful_actor_laws.specs.Steps.{Advances, Plays, Stops, Restarts, IsStep}
use Rattle.stateful_actor_laws.proofs.work.LiveFlushes.{numbered_le, names_live-more}
use Rattle.stateful_actor_laws.proofs.steps.Stepping.{may_come-up, base-same}
use Rattle.stateful_actor_laws.specs.Ahead.{finals_at, finals_in, finals_under, HeadIs, LeadsUp, there, IsAhead, IsAheadLawfully, RoundsAscend}
use Rattle.stateful_actor_laws.proofs.ahead.Kept.{ahead-along}
use Rattle.stateful_actor_laws.proofs.ahead.Taken.{ahead-taken}

module _ {B C I P R D H G U : Type 0} (w : Workings B C I P R D H G U) (stored : ℕ → Option (Named B)) (base : w.States) where
  -- whatever marks wait to be answered
  pub ahead-remarked : (p : Past B C I) (m : Moment w) (marks : List (Mark B)) → IsAhead w stored base p m → IsAhead w stored base p (record m { marks = marks })
  ahead-remarked p m marks a = record {
    anchor = a.anchor;
    now = a.now;
    anchored = a.anchored;
    folded = a.folded;
    top = a.top;
    last = a.last;
    top_is = a.top_is;
    waits = record { head = a.waits.head; before = a.waits.before; front = a.waits.front; leads = a.waits.leads };
    finalized = a.finalized;
    opened = a.opened;
    rounds = a.rounds;
  }

module _ {B C I : Type 0} where
  -- the opening stands behind all that was live
  opened-clean : (q : Past B C I) (ends : List (Mark B)) (anchor : Anchor) → EachMark StartsClean q (ends ++ Opened anchor ∷ []) → NothingLive (after q ends)
  opened-clean q [] anchor h = h.0
  opened-clean q (mark ∷ ends) anchor h = opened-clean (Made mark ∷ q) ends anchor h.1

module _ {B C I P R D H G U : Type 0} (w : Workings B C I P R D H G U) (stored : ℕ → Option (Named B)) where
  module _ (stored_now : ℕ → Option (Named B)) (floor : Floor) (keep : List ℕ) (register : Register) (m now : Moment w) (p : Past B C I)
      (r : Restarts w stored_now register (Restart floor keep) floor keep m now)
      (clean : EachMark StartsClean (Came (Restart floor keep) ∷ p) now.marks) (base : w.States) where
    abbrev start : Anchor
    start = anchor_by w.header r.opens.block

    abbrev ended : Past B C I
    ended = after (Came (Restart floor keep) ∷ p) r.cleared.marks

    none-live : NothingLive ended
    none-live = opened-clean (Came (Restart floor keep) ∷ p) r.cleared.marks start
        (subst (λ (ms : List (Mark B)). EachMark StartsClean (Came (Restart floor keep) ∷ p) ms) r.opens.marks clean)

    none-wait : finals_at w now ≡ []
    none-wait =
        ap (λ l. finals_under l.actions ++ finals_in l.queue) r.opens.loop
        ∙ ap (λ actions. finals_under actions ++ finals_in r.cleared.loop.queue) r.clears.actions
        ∙ ap (λ queue. finals_in queue) r.clears.queue

    opened_ahead : IsAhead w stored base (Made (Opened start) ∷ ended) now
    opened_ahead = record {
      anchor = start;
      now = base;
      anchored = refl;
      folded = refl;
      top = start;
      last = base;
      top_is = refl;
      waits = record {
        head = start;
        before = base;
        front = subst (λ (f : Option (Front B R U H)). HeadIs (setting w stored) start base f start base) (sym r.opens.nothing.1)
            (record { head_is = refl; before_is = refl });
        leads = subst (λ (bs : List (Named B)). LeadsUp (setting w stored) start base start base bs) (sym none-wait) there;
      };
      finalized = λ b was. absurd (was_finalized-before (Came (Restart floor keep) ∷ p) r.cleared.marks b was);
      opened = λ anchor is. let same : anchor ≡ start = cc in
          (let height = ap (λ (a : Anchor). a.height.0) same in omega (arith, height), λ level. ap (λ (a : Anchor). a.digest) same);
      rounds = λ t asks live. let found : None ≡ Some Request = sym (none-live.tickets t) ∙ live.live in cc;
    }

    -- after a restart nothing waits
    pub ahead-opened : IsAhead w stored base (after_entry p (Restart floor keep) now.marks) now
    ahead-opened =
        subst (λ (ms : List (Mark B)). IsAhead w stored base (after (Came (Restart floor keep) ∷ p) ms) now) (sym r.opens.marks)
        (subst (λ (q : Past B C I). IsAhead w stored base q now) (sym (after-append (Came (Restart floor keep) ∷ p) r.cleared.marks (Opened start ∷ []))) opened_ahead)

module _ {B C I P R D H G U : Type 0} (w : Workings B C I P R D H G U) (laws : Laws w.kind) (stored stored_now : ℕ → Option (Named B))
    (counts : Counts R D H) (provider : P) (runs_cost : RunsTakeTurns w) (builds_cost : BuildsTakeTurns w) (base : w.States) (p : Past B C I)
    (stored_is : IsStoredNow stored p stored_now) where
  module _ (event : Event B C I) (on : IsRestart event → ⊥) (may : may_come (numbered w.kind.count) p event ≡ true)
      (stores : StoresFinalized w.header stored (Came event ∷ p)) (m settled : Moment w) (s : StandsAt w stored base p m)
      (adv : Advances w stored_now provider counts event m settled) (still : settled.loop.up ≡ true)
      (names : TrueNames (setting w stored) (after_entry p event settled.marks)) where
    up : m.loop.up ≡ true
    up = s.up_is ∙ s.open_is ∙ ap (λ b. not b) (may_come-up (numbered w.kind.count) p event on may)

    marks_are : settled.marks ≡ m.marks ++ settled.marks
    marks_are = ap (λ (ms : List (Mark B)). ms ++ settled.marks) (sym s.restart.unmarked)

    names_there : NamesBehind w stored base (Came event ∷ p) m settled
    names_there = NamesBehind-marks w stored base (Came event ∷ p) m settled settled.marks marks_are names

    live : names_live w.kind.count p event ≡ true
    live = names_live-more (numbered w.kind.count) w.kind.count (numbered_le w.kind.count) p event (may_come-live (numbered w.kind.count) p event on may)

    -- no mark opens
    behind : EventBehind w stored base (Came event ∷ p) m settled
    behind = event-up w laws stored base p stored_now stored_is counts provider runs_cost builds_cost event m adv.taken settled up (s.up up).1 (s.up up).0 on
        live names_there stores adv.takes adv.settles.along

    told : behind.more ≡ settled.marks
    told = append_cancel_left m.marks behind.more settled.marks (sym behind.marks_are ∙ marks_are)

    pub opens_none : opens settled.marks ≡ false
    opens_none = ap (λ (ms : List (Mark B)). opens ms) (sym told) ∙ opens-none behind.more behind.of_rules

    -- the finalized blocks that wait stay in their order after a lawful event
    pub ahead-goes_on : IsAhead w stored base p m → IsLawful (setting w stored) (telling_of w.works) w.round_of base p (numbered w.kind.count) event
        → IsAhead w stored base (after_entry p event settled.marks) settled
    ahead-goes_on a lawful =
        let taken_names : NamesBehind w stored base (Came event ∷ p) m adv.taken =
        names-taken w stored base (Came event ∷ p) m stored_now provider adv.taken settled (taken_in_marks w stored_now counts m adv.taken event adv.takes)
        adv.settles.along names_there in
        let taken : TakenBehind w stored base (Came event ∷ p) m adv.taken =
        takes_in-up w laws stored base p stored_now stored_is counts m adv.taken up (s.up up).1 (s.up up).0 event on live taken_names adv.takes in
        let named : TrueNames (setting w stored) (Came event ∷ p) = TrueNames-before_marks (setting w stored) (Came event ∷ p) settled.marks names in
        let first : IsAhead w stored base (after (Came event ∷ p) taken.more) adv.taken =
        ahead-taken w stored base p m adv.taken (s.up up).0 a stored_now counts event on named lawful adv.takes taken.more taken.marks_are in
        let r = after (Came event ∷ p) taken.more in
        let stored_mid = IsStoredNow-after stored (Came event ∷ p) stored_now stored_is taken.more taken.of_rules in
        let stores_mid = StoresFinalized-after w.header stored (Came event ∷ p) taken.more stores in
        let b : UpBehind w stored base r adv.taken settled =
        along-up w stored base laws r stored_now stored_mid provider runs_cost builds_cost stores_mid adv.taken settled taken.stands adv.settles.along in
        let last : IsAhead w stored base (after r b.more) settled =
        ahead-along w stored base laws r stored_now stored_mid provider runs_cost builds_cost stores_mid adv.taken settled taken.stands first
        adv.settles.along still b.more b.marks_are in
        let all : taken.more ++ b.more ≡ settled.marks =
        append_cancel_left m.marks (taken.more ++ b.more) settled.marks
        (sym (b.marks_are ∙ ap (λ (ms : List (Mark B)). ms ++ b.more) taken.marks_are ∙ append_assoc m.marks taken.more b.more) ∙ marks_are) in
        subst (λ (ms : List (Mark B)). IsAhead w stored base (after (Came event ∷ p) ms) settled) all
        (subst (λ (q : Past B C I). IsAhead w stored base q settled) (sym (after-append (Came event ∷ p) taken.more b.more)) last)

  abbrev Lawfully : w.States → Past B C I → Type 0
  Lawfully b q = LawfulSince (setting w stored) (telling_of w.works) w.round_of b (numbered w.kind.count) q

  since_before : (b : w.States) (q : Past B C I) (marks : List (Mark B)) → Lawfully b (after q marks) → Lawfully b q
  since_before b q [] h = h
  since_before b q (mark ∷ marks) h = since_before b (Made mark ∷ q) marks h

  since_came : (b : w.States) (event : Event B C I) → (IsRestart event → ⊥) → Lawfully b (Came event ∷ p)
      → IsLawful (setting w stored) (telling_of w.works) w.round_of b p (numbered w.kind.count) event × Lawfully b p
  since_came b (Restart floor keep) on h = absurd (on tt)
  since_came b event on h = h

  -- an event that is no restart
  plays_ahead : (event : Event B C I) → (IsRestart event → ⊥) → (register : Register) (m now : Moment w) → may_come (numbered w.kind.count) p event ≡ true
      → StoresFinalized w.header stored (Came event ∷ p) → StandsAt w stored base p m → Plays w stored_now provider counts register event m now
      → TrueNames (setting w stored) (after_entry p event now.marks) → (b : StepBehind w stored base p event now) → IsAheadLawfully w stored base p m
      → now.loop.up ≡ true → Lawfully b.base_behind (after_entry p event now.marks)
      → IsAhead w stored b.base_behind (after_entry p event now.marks) now
  plays_ahead event on register m now may stores s played names b a up since = of played.ends
    where
      of : ((played.settled.loop.up ≡ true) × (now ≡ played.settled)) ⊎ Stops w stored_now register event played.settled now
          → IsAhead w stored b.base_behind (after_entry p event now.marks) now
      of (inl (still, same)) =
          let settled_names = subst (λ (n : Moment w). TrueNames (setting w stored) (after_entry p event n.marks)) same names in
          let none : opens now.marks ≡ false =
          ap (λ (n : Moment w). opens n.marks) same ∙ opens_none event on may stores m played.settled s played.advances still settled_names in
          let based : b.base_behind ≡ base = b.base_is ∙ sym (base-same base now.marks (w.kind.point now.members) none) in
          let lawful = since_came base event on
          (since_before base (Came event ∷ p) now.marks (subst (λ (x : w.States). Lawfully x (after_entry p event now.marks)) based since)) in
          let was_up = s.up_is ∙ s.open_is ∙ ap (λ x. not x) (may_come-up (numbered w.kind.count) p event on may) in
          let there = ahead-goes_on event on may stores m played.settled s played.advances still settled_names (a was_up lawful.1) lawful.0 in
          subst (λ (x : w.States). IsAhead w stored x (after_entry p event now.marks) now) (sym based)
          (subst (λ (n : Moment w). IsAhead w stored base (after_entry p event n.marks) n) (sym same) there)
      of (inr stopped) = absurd (true≢false (sym up ∙ stopped.cleared.up))

  -- behind a step
  pub ahead-step : (event : Event B C I) (register : Register) (m now : Moment w) → may_come (numbered w.kind.count) p event ≡ true
      → StoresFinalized w.header stored (Came event ∷ p) → (is_restart event ≡ false → StandsAt w stored base p m) → IsStep w stored_now provider counts register event m now
      → TrueNames (setting w stored) (after_entry p event now.marks) → (b : StepBehind w stored base p event now) → IsAheadLawfully w stored base p m
      → IsAheadLawfully w stored b.base_behind (after_entry p event now.marks) (record now { marks = [] })
  ahead-step (Restart floor keep) register m now may stores s step names b a up since =
      ahead-remarked w stored b.base_behind (after_entry p (Restart floor keep) now.marks) now []
      (ahead-opened w stored stored_now floor keep register m now p step b.clean_start b.base_behind)
  ahead-step event register m now may stores s step names b a up since =
      ahead-remarked w stored b.base_behind (after_entry p event now.marks) now []
      (plays_ahead event (λ no. no) register m now may stores (s refl) step names b a up since)
