-- Marks on which no rule speaks of jobs, answers to builds, withdrawn fetches and finalizations: those of requests that are served.
use Rattle.std.proofs.Common.{◌≡◌, ◌++◌, ℕ, List, [], ◌∷◌, All, Option, None, Some, refl, sym, ap, ◌∙◌, append_assoc, append-nil}
use Rattle.std.proofs.lemmas.List.Elements.{All-nil, All-cons, All-head, All-tail, All-weaker, All-append}
use Rattle.std.specs.List.{Contains}
use Rattle.stateful_base.specs.Names.{Named}
use Rattle.stateful_history.specs.Past.{Past, Made, EachMark, EachNext, after}
use Rattle.stateful_history.specs.Runs.{BuildIsAnswered}
use Rattle.stateful_history.specs.declared.event.Event.{Event}
use Rattle.stateful_history.specs.declared.mark.How.{How}
use Rattle.stateful_history.specs.declared.mark.How.TheVariants.{Nothing}
use Rattle.stateful_history.specs.declared.mark.JobKind.TheVariants.{Candidate}
use Rattle.stateful_history.specs.declared.mark.Mark.{Mark}
use Rattle.stateful_history.specs.declared.mark.Mark.TheVariants as mark
use Rattle.stateful_history.proofs.Marks.{EachMark-append}
use Rattle.stateful_exec_model.specs.Ending.{InTurn, none, next, Follows}
use Rattle.stateful_exec_model.specs.Fetching.{IsFetched, found, waits, declines, dead, serving}
use Rattle.stateful_exec_tables.specs.Fetching.{with_block}
use Rattle.stateful_exec_model.specs.Moments.{Moment}
use Rattle.stateful_exec_model.specs.Pausing.{GoesAlong, AcquiresAnew, unparked, unsettled, Resumes}
use Rattle.stateful_exec_tables.specs.Phase.{parked_in, unacquired_in}
use Rattle.stateful_exec_tables.specs.Tables.{requested}
use Rattle.stateful_exec_model.specs.Rules.{Advances, Acquires}
use Rattle.stateful_exec_model.specs.Workings.{Workings}
use Rattle.stateful_exec_walk.specs.declared.request.Verdict.TheVariants as verdict
use Rattle.stateful_exec_tables.specs.declared.tables.Released.{Released}
use Rattle.stateful_exec_tables.specs.declared.tables.Requested.{Requested}
use Rattle.stateful_exec_laws.proofs.requests.AdvanceStands.{All-front, All-back}
use Rattle.stateful_exec_laws.proofs.requests.ServedMarks.{IsServedBy, AreServedBy, ServesMarks, advances-marks, acquires-marks, follows-marks, concludes-marks}
use Rattle.stateful_loop_model.specs.Moments as loop
use Rattle.stateful_loop_laws.specs.Duly.{IsDulySaid, DulyBehind}

-- none of these rules speaks of the mark
abbrev pub IsUnruled : {B : Type 0} → Mark B → Type 0
IsUnruled (mark.Began t b) = ⊥
IsUnruled (mark.Applied b) = ⊥
IsUnruled (mark.Answered t decision b) = ⊥
IsUnruled (mark.Ended j how) = ⊥
IsUnruled (mark.Built j t b) = ⊥
IsUnruled (mark.Withdrawn f) = ⊥
IsUnruled (mark.Asked f None d) = ⊥
IsUnruled (mark.Recorded anchor) = ⊥
IsUnruled (mark.Dispatched generation height) = ⊥
IsUnruled (mark.Converged anchor) = ⊥
IsUnruled (mark.Completed height) = ⊥
IsUnruled m = Unit {0}

-- no build ends by the mark
abbrev pub IsUnbuilt : {B : Type 0} → Mark B → Type 0
IsUnbuilt (mark.Ended j Nothing) = ⊥
IsUnbuilt (mark.Built j t b) = ⊥
IsUnbuilt m = Unit {0}

unruled_unbuilt : {B : Type 0} (m : Mark B) → IsUnruled m → IsUnbuilt m
unruled_unbuilt (mark.Ended j how) h = absurd h
unruled_unbuilt (mark.Built j t b) h = absurd h
unruled_unbuilt m h = tt

-- none does by those
pub unruled-unbuilt : {B : Type 0} (more : List (Mark B)) → All IsUnruled more → All IsUnbuilt more
unruled-unbuilt more each = All-weaker IsUnruled IsUnbuilt (λ m h. unruled_unbuilt m h) more each

served_unruled : {B : Type 0} (t : ℕ) (m : Mark B) → IsServedBy t m → IsUnruled m
served_unruled t (mark.Verdict u good) h = tt
served_unruled t (mark.Declined u) h = tt
served_unruled t (mark.Asked f (Some u) d) h = tt
served_unruled t (mark.Started j Candidate d) h = tt
served_unruled t m h = absurd h

-- the marks of a request that is served are such
served_all : {B C I : Type 0} (t : ℕ) (p : Past B C I) (more : List (Mark B)) → AreServedBy t p more → All IsUnruled more
served_all t p [] are = All-nil IsUnruled
served_all t p (m ∷ more) are = All-cons IsUnruled m more (served_unruled t m are.0) (served_all t (Made m ∷ p) more are.1)

module _ {B C I P R D H G U : Type 0} (w : Workings B C I P R D H G U) where
  -- from one moment to a later one such marks are made
  pub record UnruledBehind (m now : Moment w) : Type 0 where
    pub more : List (Mark B)
    pub marks_are : now.marks ≡ m.marks ++ more
    pub each : All IsUnruled more

  none_made : (m now : Moment w) → now.marks ≡ m.marks → UnruledBehind m now
  none_made m now is = record { more = []; marks_are = is ∙ sym (append-nil m.marks); each = All-nil IsUnruled }

  served : (p : Past B C I) (m now : Moment w) (t : ℕ) → ServesMarks w p m now t → UnruledBehind m now
  served p m now t s = record { more = s.more; marks_are = s.marks_are; each = served_all t p s.more s.each }

  pub unruled-then : (m mid now : Moment w) → UnruledBehind m mid → UnruledBehind mid now → UnruledBehind m now
  unruled-then m mid now one two = record {
    more = one.more ++ two.more;
    marks_are = two.marks_are ∙ ap (λ (ms : List (Mark B)). ms ++ two.more) one.marks_are ∙ append_assoc m.marks one.more two.more;
    each = All-append IsUnruled one.more two.more one.each two.each;
  }

  in_turn : {X : Type 0} (Rule : X → Moment w → Moment w → Type 0) → ((x : X) (m now : Moment w) → Rule x m now → UnruledBehind m now)
      → (xs : List X) (m last : Moment w) → InTurn Rule xs m last → UnruledBehind m last
  in_turn Rule each [] m _ none = none_made m m refl
  in_turn Rule each (x ∷ xs) m last (next {n = n} rule rules) = unruled-then m n last (each x m n rule) (in_turn Rule each xs n last rules)

  module _ (p : Past B C I) where
    -- so are those where a request acquires what it needs
    pub unruled-acquires : (stored_now : ℕ → Option (Named B)) (m now : Moment w) (t : ℕ) (r : Requested B C I) → Acquires w stored_now m t r now
        → UnruledBehind m now
    unruled-acquires stored_now m now t r rule = served p m now t (acquires-marks w p m now t stored_now r rule)

    -- where requests follow the end of a run
    pub unruled-follow : (b : Named B) (how : How) (rs : List (Released B C I)) (m last : Moment w) → InTurn (Follows w b how) rs m last
        → UnruledBehind m last
    unruled-follow b how rs m last rules = in_turn (Follows w b how)
        (λ r n now rule. served p n now r.ticket (follows-marks w p n now b how r rule)) rs m last rules

    -- where execution goes on after a pause
    pub unruled-resumes : (stored_now : ℕ → Option (Named B)) (m now : Moment w) → Resumes w stored_now m now → UnruledBehind m now
    unruled-resumes stored_now m now r =
        let first : UnruledBehind (unparked w m) r.mid = in_turn (GoesAlong w)
        (λ x n last rule. served p n last x.ticket (advances-marks w p n last x.ticket (requested x.request) x.path rule))
        (parked_in m.state.requests) (unparked w m) r.mid r.along in
        let second : UnruledBehind (unsettled w r.mid) now = in_turn (AcquiresAnew w stored_now)
        (λ x n last rule. unruled-acquires stored_now n last x.0 (requested x.1.request) rule)
        (unacquired_in r.mid.state.requests) (unsettled w r.mid) now r.anew in
        unruled-then m r.mid now (record { more = first.more; marks_are = first.marks_are; each = first.each })
        (record { more = second.more; marks_are = second.marks_are; each = second.each })

    -- and where a fetch is answered
    pub unruled-fetched : (stored_now : ℕ → Option (Named B)) (m now : Moment w) (f : ℕ) (answer : Option (Named B))
        → IsFetched w stored_now m f answer now → UnruledBehind m now
    unruled-fetched stored_now m now f answer (found t r b fetches is rule) =
        let s = unruled-acquires stored_now (serving w m t) now t (with_block r b) rule in
        record { more = s.more; marks_are = s.marks_are; each = s.each }
    unruled-fetched stored_now m now f answer (waits t r fetches is verification becomes) =
        none_made m now (ap (λ (n : Moment w). n.marks) becomes ∙ append-nil m.marks)
    unruled-fetched stored_now m now f answer (declines t r fetches is proposal rule) =
        let s = served p (serving w m t) now t (concludes-marks w p (serving w m t) now t r verdict.Invalid rule) in
        record { more = s.more; marks_are = s.marks_are; each = s.each }
    unruled-fetched stored_now m now f answer (dead off is) = none_made m now (ap (λ (n : Moment w). n.marks) is)

module _ {B C I P R D H G U : Type 0} (w : Workings B C I P R D H G U) (stored : ℕ → Option (Named B)) (base : w.States)
    (event : Event B C I) where
  one_said : (all : List (Mark B)) (p : Past B C I) (m : Mark B) → IsUnruled m → IsDulySaid w stored base event all p m
  one_said all p (mark.Began t b) h = absurd h
  one_said all p (mark.Applied b) h = absurd h
  one_said all p (mark.Answered t decision b) h = absurd h
  one_said all p (mark.Ended j how) h = absurd h
  one_said all p (mark.Built j t b) h = absurd h
  one_said all p (mark.Withdrawn f) h = absurd h
  one_said all p (mark.Asked f None d) h = absurd h
  one_said all p (mark.Asked f (Some t) d) h = (tt, tt, tt, tt, λ rule. tt, tt)
  one_said all p (mark.Recorded anchor) h = absurd h
  one_said all p (mark.Dispatched generation height) h = absurd h
  one_said all p (mark.Converged anchor) h = absurd h
  one_said all p (mark.Completed height) h = absurd h
  one_said all p m h = (tt, tt, tt, tt, λ rule. tt, tt)

  -- such marks keep the rules
  pub unruled-said : (all : List (Mark B)) (p : Past B C I) (more : List (Mark B)) → All IsUnruled more
      → EachMark (IsDulySaid w stored base event all) p more
  unruled-said all p [] each = tt
  unruled-said all p (m ∷ more) each =
      (one_said all p m (All-head IsUnruled m more each), unruled-said all (Made m ∷ p) more (All-tail IsUnruled m more each))

module _ {B C I : Type 0} where
  unbuilt_next : (p : Past B C I) (m : Mark B) → IsUnbuilt m → (then : Option (Mark B)) → BuildIsAnswered p m then
  unbuilt_next p (mark.Ended j Nothing) h then = absurd h
  unbuilt_next p (mark.Built j t b) h then = absurd h
  unbuilt_next p m h then = tt

  -- where no build ends, none has to be answered
  pub unbuilt-answered : (p : Past B C I) (more : List (Mark B)) → All IsUnbuilt more → EachNext BuildIsAnswered p more
  unbuilt-answered p [] each = tt
  unbuilt-answered p (m ∷ []) each = unbuilt_next p m (All-head IsUnbuilt m [] each) None
  unbuilt-answered p (m ∷ n ∷ more) each =
      (unbuilt_next p m (All-head IsUnbuilt m (n ∷ more) each) (Some n), unbuilt-answered (Made m ∷ p) (n ∷ more) (All-tail IsUnbuilt m (n ∷ more) each))

  -- a mark behind which none has to stand may have another one behind it
  with_next : (p : Past B C I) (m : Mark B) (then : Option (Mark B)) → BuildIsAnswered p m None → BuildIsAnswered p m then
  with_next p (mark.Ended j Nothing) then h = let no : None ≡ Some (mark.Declined h.0) = h.4 in let never : ⊥ = cc in absurd never
  with_next p (mark.Built j t b) then h = absurd h.3
  with_next p m then h = tt

  -- builds are answered among marks and further ones
  pub answered-append : (p : Past B C I) (more rest : List (Mark B)) → EachNext BuildIsAnswered p more → EachNext BuildIsAnswered (after p more) rest
      → EachNext BuildIsAnswered p (more ++ rest)
  answered-append p [] rest one two = two
  answered-append p (m ∷ []) [] one two = one
  answered-append p (m ∷ []) (n ∷ rest) one two = (with_next p m (Some n) one, two)
  answered-append p (m ∷ n ∷ more) rest one two = (one.0, answered-append (Made m ∷ p) (n ∷ more) rest one.1 two)

module _ {B C I P R D H G U : Type 0} (w : Workings B C I P R D H G U) (stored : ℕ → Option (Named B)) (base : w.States)
    (event : Event B C I) (p : Past B C I) where
  abbrev Duly : loop.Moment w → loop.Moment w → Type 0
  Duly = DulyBehind w stored base event p

  -- where such marks are made, all is said duly
  pub duly-unruled : (m now : loop.Moment w) (more : List (Mark B)) → now.marks ≡ m.marks ++ more → All IsUnruled more → Duly m now
  duly-unruled m now more is each = record {
    more = more;
    marks_are = is;
    each = λ all among. unruled-said w stored base event all p more each;
    answered = unbuilt-answered p more (unruled-unbuilt more each);
  }

  pub duly-none : (m now : loop.Moment w) → now.marks ≡ m.marks → Duly m now
  duly-none m now is = duly-unruled m now [] (is ∙ sym (append-nil m.marks)) (All-nil IsUnruled)

  pub duly-one : (m now : loop.Moment w) (x : Mark B) → now.marks ≡ m.marks ++ x ∷ [] → IsUnruled x → Duly m now
  duly-one m now x is h = duly-unruled m now (x ∷ []) is (All-cons IsUnruled x [] h (All-nil IsUnruled))

  pub duly-by : (m now : loop.Moment w) (then : Moment w) → UnruledBehind w (loop.inner w m) then → now.marks ≡ then.marks → Duly m now
  duly-by m now then u is = duly-unruled m now u.more (is ∙ u.marks_are) u.each

  -- from an earlier moment with the same marks
  pub duly-before : (m mid now : loop.Moment w) → mid.marks ≡ m.marks → Duly mid now → Duly m now
  duly-before m mid now same d = record {
    more = d.more;
    marks_are = d.marks_are ∙ ap (λ (ms : List (Mark B)). ms ++ d.more) same;
    each = d.each;
    answered = d.answered;
  }

  -- and then behind others
  pub duly-then : (m mid now : loop.Moment w) (one : Duly m mid) → DulyBehind w stored base event (after p one.more) mid now → Duly m now
  duly-then m mid now one two = record {
    more = one.more ++ two.more;
    marks_are = two.marks_are ∙ ap (λ (ms : List (Mark B)). ms ++ two.more) one.marks_are ∙ append_assoc m.marks one.more two.more;
    each = λ all among. EachMark-append (IsDulySaid w stored base event all) p one.more two.more
        (one.each all (All-front (λ mark. Contains all mark) one.more two.more among))
        (two.each all (All-back (λ mark. Contains all mark) one.more two.more among));
    answered = answered-append p one.more two.more one.answered two.answered;
  }
