-- Marks are in their places after events in which execution has no part, and behind cancels.
use Rattle.std.proofs.Common.{◌≡◌, ◌≢◌, ◌++◌, ◌==◌, inl, ℕ, true, List, [], ◌∷◌, All, Option, Some, IfSome, refl, sym, ap, ◌∙◌, subst, append-nil}
use Rattle.std.proofs.lemmas.Bool.{eq-eqb}
use Rattle.std.proofs.lemmas.List.Elements.{All-nil, All-cons}
use Rattle.stateful_base.specs.Names.{Named}
use Rattle.stateful_history.specs.Live.{names_live, live_ticket}
use Rattle.stateful_history.specs.Past.{Past, Came, EachMark, after}
use Rattle.stateful_history.specs.Requests.{IsLiveRequest}
use Rattle.stateful_history.specs.Stops.{IsRestart}
use Rattle.stateful_history.specs.declared.event.Event.{Event}
use Rattle.stateful_history.specs.declared.event.Event.TheVariants as event
use Rattle.stateful_history.specs.declared.mark.How.TheVariants.{Cancelled}
use Rattle.stateful_history.specs.declared.mark.Mark.{Mark}
use Rattle.stateful_history.specs.declared.mark.Mark.TheVariants.{Ended, Withdrawn}
use Rattle.stateful_table.specs.Table.{at, without}
use Rattle.stateful_exec_model.specs.Built.{GivesUp, building, asking}
use Rattle.stateful_exec_tables.specs.Cancelling.{Cancels}
use Rattle.stateful_exec_tables.specs.Cancelling.{idle, withdraws, leaves, ends, unqueued}
use Rattle.stateful_exec_model.specs.Workings.{Workings}
use Rattle.stateful_exec_model.specs.declared.building.Building.{Building}
use Rattle.stateful_exec_tables.specs.declared.state.Tables.{Tables}
use Rattle.stateful_exec_tables.specs.declared.tables.Requested.{Requested}
use Rattle.stateful_exec_laws.specs.Setting.{setting}
use Rattle.stateful_exec_laws.proofs.pauses.DueStands.{IsDue-came, IsDue-quiet}
use Rattle.stateful_exec_laws.proofs.requests.Quiet.{IsQuiet, AreQuiet, quiet_one}
use Rattle.stateful_exec_laws.proofs.runs.Removing.{at_other, All-without}
use Rattle.stateful_loop_model.specs.Intake as intake
use Rattle.stateful_loop_model.specs.Moments.{Moment}
use Rattle.stateful_loop_laws.specs.Places.{EndsNoRun, IsInPlace, PlacesKept, PlacesBehind}
use Rattle.stateful_loop_laws.specs.RuleMarks.{IsOfRule}
use Rattle.stateful_loop_laws.specs.Tickets.{IsOutside}
use Rattle.stateful_loop_laws.proofs.places.Came.{live-came, bound-came, asked-came, begun-came, unhooked-came, past-came}
use Rattle.stateful_loop_laws.proofs.places.Front.{one_rule, one_askless}
use Rattle.stateful_loop_laws.proofs.places.Past.{IsAskless, live-before, asked-before}
use Rattle.stateful_loop_laws.proofs.places.Still.{IsStill, IsHookless, asks-left, places-of, places-still, unhooked-after}

module _ {B C I P R D H G U : Type 0} (w : Workings B C I P R D H G U) (stored : ℕ → Option (Named B)) (base : w.States) (p : Past B C I)
    (m : Moment w) where
  -- What is kept is kept after an event that names what is live, and is no restart.
  pub kept-came : (count : ℕ) (e : Event B C I) → (IsRestart e → ⊥) → names_live count p e ≡ true → PlacesKept w stored p m
      → PlacesKept w stored (Came e ∷ p) m
  kept-came count e on live h = record {
    past = past-came w stored count p e live h.past;
    due = IsDue-came (setting w stored) p m.execution.state.cache e (begun-came p e on) m.execution.front h.due;
    asks = record {
      along = λ k d l f fetching x was. h.asks.along k d l f fetching x (asked-came p e _ x was);
      earlier = λ t d was. bound-came p e t (h.asks.earlier t d (asked-came p e t d was));
      inside = λ t d was alive out. h.asks.inside t d (asked-came p e t d was)
          (live-came count p e on live t _ (h.asks.earlier t d (asked-came p e t d was)) alive)
          (record { elsewhere = out.elsewhere; unbuilt = out.unbuilt });
      nothing = λ moved t d was. h.asks.nothing moved t d (asked-came p e t d was);
    };
    hooks = λ f captured at some. unhooked-came p e on ∙ h.hooks f captured at some;
  }

  module _ (now : Moment w) where
    -- where execution has no part, and no mark is made
    pub places-besides : (q : Past B C I) → now.marks ≡ m.marks → now.execution ≡ m.execution → now.loop.front ≡ m.loop.front
        → PlacesKept w stored q m
        → PlacesBehind w stored base q m now
    places-besides q marks execution front k = places-still w stored base q m now [] (marks ∙ sym (append-nil m.marks)) tt (All-nil IsStill)
        (ap (λ x. x.state.requests) execution) (ap (λ x. x.state.queued) execution) (ap (λ x. x.state.cache) execution)
        (ap (λ x. x.build) execution) (ap (λ x. x.front) execution) front k

module _ {B C I P R D H G U : Type 0} (w : Workings B C I P R D H G U) (stored : ℕ → Option (Named B)) (base : w.States) (p : Past B C I) (t : ℕ)
    (m now : Moment w) (k : PlacesKept w stored (Came (event.Cancel t) ∷ p) m) where
  abbrev given : Past B C I
  given = Came (event.Cancel t) ∷ p

  abbrev v : Tables B C I R U
  v = m.execution.state

  -- what a mark keeps by which a request is given up
  record Keeps (more : List (Mark B)) : Type 0 where
    each : EachMark (IsInPlace w stored base) given more
    rules : All IsOfRule more
    ends_none : EachMark EndsNoRun given more
    askless : All IsAskless more
    quiet : AreQuiet more
    hookless : All IsHookless more

  keeps_none : Keeps []
  keeps_none = record {
    each = tt;
    rules = All-nil IsOfRule;
    ends_none = tt;
    askless = All-nil IsAskless;
    quiet = All-nil
        (λ x. IsQuiet x);
    hookless = All-nil IsHookless;
  }

  keeps_withdrawn : (f : ℕ) → Keeps (Withdrawn f ∷ [])
  keeps_withdrawn f = record {
    each = ((tt, tt, tt, tt, tt), tt);
    rules = one_rule _ tt;
    ends_none =
        (tt, tt);
    askless = one_askless _ tt;
    quiet = quiet_one _ tt;
    hookless = All-cons IsHookless _ [] tt (All-nil IsHookless);
  }

  keeps_ended : (j : ℕ) → Keeps (Ended j Cancelled ∷ [])
  keeps_ended j = record {
    each = ((tt, tt, tt, tt, tt), tt);
    rules = one_rule _ tt;
    ends_none =
        (inl refl, tt);
    askless = one_askless _ tt;
    quiet = quiet_one _ tt;
    hookless = All-cons IsHookless _ [] tt (All-nil IsHookless);
  }

  -- a request that was given up isn't live
  dead : (u : ℕ) (more : List (Mark B)) → IsLiveRequest u (after given more) → u ≢ t
  dead u more live same =
      let before : live_ticket u given ≡ Some _ = live-before u _ given more live in
      let own : (u == t) ≡ true = eq-eqb u t same in
      let no = rw own at before in let never : ⊥ = cc in never

  given_up : (state : Tables B C I R U) (build : Option (Building B C D)) (more : List (Mark B)) → Keeps more → state.cache ≡ v.cache
      → ((Q : ℕ × Requested B C I → Type 0) → All Q v.requests → All Q state.requests)
      → ((u : ℕ) → u ≢ t → IsOutside w stored (after given more) state build u → IsOutside w stored given v m.execution.build u)
      → now.execution ≡ record m.execution { state = state; build = build } → now.loop.front ≡ m.loop.front → now.marks ≡ m.marks ++ more
      → PlacesBehind w stored base given m now
  given_up state build more h cache requests outside execution front marks =
      places-of w stored base given m now more marks h.each h.rules h.ends_none k.past
      (rw (execution, cache) (IsDue-quiet (setting w stored) given v.cache more h.quiet m.execution.front k.due))
      (rw execution (asks-left w stored given more h.askless v state m.execution.build build m.execution.front m.execution.front requests
      (λ u live out. outside u (dead u more live) out)
      (λ moved x d was. k.asks.nothing moved x d (asked-before x d given more h.askless was)) k.asks))
      (λ f captured at some. unhooked-after given more h.hookless ∙ k.hooks f captured (sym front ∙ at) some)

  by_cancel : (state : Tables B C I R U) (marks : List (Mark B)) → Cancels v state t marks → (build : Option (Building B C D))
      → build ≡ m.execution.build
      → now.execution ≡ record m.execution { state = state; build = build } → now.loop.front ≡ m.loop.front → now.marks ≡ m.marks ++ marks
      → PlacesBehind w stored base given m now
  by_cancel state marks c build same execution front is = go c
    where
      taken_out : (u : ℕ) (more : List (Mark B)) → u ≢ t → at state.requests u ≡ at v.requests u → at state.queued u ≡ at v.queued u
          → IsOutside w stored (after given more) state build u → IsOutside w stored given v m.execution.build u
      taken_out u more other requests queued out = record {
        elsewhere = record { absent = sym requests ∙ out.elsewhere.absent; not_queued = sym queued ∙ out.elsewhere.not_queued };
        unbuilt = subst (λ (o : Option (Building B C D)). IfSome o (λ b. b.ticket ≢ u)) same out.unbuilt;
      }

      by_state : (more : List (Mark B)) → marks ≡ more → Keeps more → state.cache ≡ v.cache → state.requests ≡ without v.requests t
          → ((u : ℕ) → u ≢ t → at state.queued u ≡ at v.queued u) → PlacesBehind w stored base given m now
      by_state more marks_is h cache requests queued =
          given_up state build more h cache
          (λ Q all. subst (λ es. All Q es) (sym requests) (All-without Q v.requests t (λ i d l other. all i d l)))
          (λ u other out. taken_out u more other (ap (λ es. at es u) requests ∙ at_other v.requests t u other) (queued u other) out)
          execution front (is ∙ ap (λ ms. m.marks ++ ms) marks_is)

      go : Cancels v state t marks → PlacesBehind w stored base given m now
      go (idle r there rest new marks_is) = by_state [] marks_is keeps_none (ap (λ x. x.cache) new) (ap (λ x. x.requests) new)
          (λ u other. ap (λ x. at x.queued u) new)
      go (withdraws r fetch there new marks_is) = by_state _ marks_is (keeps_withdrawn fetch) (ap (λ x. x.cache) new) (ap (λ x. x.requests) new)
          (λ u other. ap (λ x. at x.queued u) new)
      go (leaves r j path there executing others new marks_is) = by_state [] marks_is keeps_none (ap (λ x. x.cache) new) (ap (λ x. x.requests) new)
          (λ u other. ap (λ x. at x.queued u) new)
      go (ends r j path there executing last new marks_is) = by_state _ marks_is (keeps_ended j) (ap (λ x. x.cache) new) (ap (λ x. x.requests) new)
          (λ u other. ap (λ x. at x.queued u) new)
      go (unqueued absent new marks_is) = by_state [] marks_is keeps_none (ap (λ x. x.cache) new) (ap (λ x. x.requests) new)
          (λ u other. ap (λ x. at x.queued u) new ∙ at_other v.queued t u other)

  -- Marks are in their places where a request is given up.
  pub places-cancels : intake.Cancels w t m now → PlacesBehind w stored base given m now
  places-cancels c = go c.gives_up
    where
      go : GivesUp v c.state m.execution.build c.build t c.marks → PlacesBehind w stored base given m now
      go (building {b = b} for_it same none one) =
          given_up c.state c.build (Ended b.job Cancelled ∷ []) (keeps_ended b.job) (ap (λ x. x.cache) same) (λ Q all. rw same all)
          (λ u other out. record {
            elsewhere = record {
              absent = sym (ap (λ x. at x.requests u) same) ∙ out.elsewhere.absent;
              not_queued = sym (ap (λ x. at x.queued u) same)
                  ∙ out.elsewhere.not_queued;
            };
            unbuilt = subst (λ (o : Option (Building B C D)). IfSome o (λ y. y.ticket ≢ u)) (sym for_it.live)
                (λ own. other (sym own ∙ for_it.ticket));
          })
          (ap (λ (n : Moment w). n.execution) c.becomes) (ap (λ (n : Moment w). n.loop.front) c.becomes)
          (ap (λ (n : Moment w). n.marks) c.becomes ∙ ap (λ ms. m.marks ++ ms) one)
      go (asking none cancels same) = by_cancel c.state c.marks cancels c.build same (ap (λ (n : Moment w). n.execution) c.becomes)
          (ap (λ (n : Moment w). n.loop.front) c.becomes) (ap (λ (n : Moment w). n.marks) c.becomes)
