-- After each rule of execution a request that was in its tables is there still, or has ended.
use Rattle.std.proofs.Common.{zero, suc, ◌≡◌, ◌≢◌, ◌<◌, ◌+◌, ◌==◌, ◌++◌, ◌⊎◌, inl, inr, ℕ, Bool, true, false, not, cond, List, [], ◌∷◌, map, filter, filter_map, Option, Some, None, IsSome, Result, Ok, Err, refl, sym, ap, ◌∙◌, subst, arith, ⊎_elim}
use Rattle.std.specs.Prelude.{is_none}
use Rattle.std.proofs.lemmas.Bool.{eqb-true, eq-eqb}
use Rattle.std.proofs.lemmas.List.{append_assoc, append-nil}
use Rattle.stateful_base.specs.Names.{Named}
use Rattle.stateful_base.specs.declared.outcome.Moved.{Moved}
use Rattle.stateful_base.specs.declared.outcome.Moved.TheVariants.{Pending, Done}
use Rattle.stateful_db.specs.declared.application.AppFault.{AppFault}
use Rattle.stateful_history.specs.Live.{live_ticket}
use Rattle.stateful_history.specs.Past.{Past, Made, after}
use Rattle.stateful_history.specs.declared.ticket.Ticket.{Ticket}
use Rattle.stateful_history.specs.declared.mark.Mark.{Mark}
use Rattle.stateful_history.specs.declared.mark.Mark.TheVariants as mark
use Rattle.stateful_history.proofs.Marks.{after-append}
use Rattle.stateful_table.specs.Table.{at, put}
use Rattle.stateful_table.proofs.Tables.{is_at_number, at-put, at-without}
use Rattle.stateful_exec_model.specs.Ending.{InTurn, none as in_none, next as in_next, Settles, SettlesBy, Steps, TurnsRun, Follows, given_up, at_boundary, failed, parked, goes_on}
use Rattle.stateful_exec_tables.specs.Tables.{released}
use Rattle.stateful_exec_model.specs.Fetching.{IsFetched, found, waits as awaits, declines, dead, serving}
use Rattle.stateful_exec_tables.specs.Fetching.{with_block}
use Rattle.stateful_exec_model.specs.Moments.{Moment, Becomes}
use Rattle.stateful_exec_walk.specs.Path.{Path}
use Rattle.stateful_exec_model.specs.Pausing.{Resumes, GoesAlong, AcquiresAnew, unparked, unsettled}
use Rattle.stateful_exec_tables.specs.Phase.{is_on, released_from, released_on, parked_path, parked_from, parked_in, is_unacquired, unacquired_in}
use Rattle.stateful_exec_tables.specs.Tables.{requested, moved, ended, told}
use Rattle.stateful_exec_model.specs.Rules.{Concludes, Advances, arrives, leaves, joins, starts, misses, Acquires, valid, invalid, asks, waits, runs}
use Rattle.stateful_exec_model.specs.Workings.{Workings}
use Rattle.stateful_exec_walk.specs.declared.request.Request.{Request}
use Rattle.stateful_exec_walk.specs.declared.request.Request.TheVariants.{Verify, Recover}
use Rattle.stateful_exec_walk.specs.declared.request.Verdict.{Verdict}
use Rattle.stateful_exec_walk.specs.declared.request.Verdict.TheVariants.{Valid, Invalid}
use Rattle.stateful_exec_tables.specs.declared.state.Tables.{Tables}
use Rattle.stateful_history.specs.declared.mark.How.{How}
use Rattle.stateful_exec_tables.specs.declared.tables.Phase.{Phase}
use Rattle.stateful_exec_tables.specs.declared.tables.Phase.TheVariants.{Open, Fetching, Waiting, Executing, Parked}
use Rattle.stateful_exec_tables.specs.declared.tables.Released.{Released}
use Rattle.stateful_exec_tables.specs.declared.tables.Requested.{Requested}
use Rattle.stateful_loop_laws.proofs.tickets.Times.{times, times-append}

-- a request of this ticket is in the table of requests, or its proposal was recovered
abbrev pub IsTabled : {B C I R U : Type 0} → ℕ → Tables B C I R U → Type 0
IsTabled t v = IsSome (at v.requests t) ⊎ (0 < times t v.recovered)

-- what is live is so where no mark has ended it
pub unless_ended : (b : Bool) (o : Option Ticket) → cond b None o ≢ None → o ≢ None
unless_ended true o live = absurd (live refl)
unless_ended false o live = live

module _ {B C I : Type 0} where
  live_mark : (t : ℕ) (p : Past B C I) (mark : Mark B) → live_ticket t (Made mark ∷ p) ≢ None → live_ticket t p ≢ None
  live_mark t p (mark.Verdict u answer) live = unless_ended (t == u) (live_ticket t p) live
  live_mark t p (mark.Answered u decision b) live = unless_ended (t == u) (live_ticket t p) live
  live_mark t p (mark.Declined u) live = unless_ended (t == u) (live_ticket t p) live
  live_mark t p (mark.Databases u) live = unless_ended (t == u) (live_ticket t p) live
  live_mark t p (mark.Acknowledged u height) live = unless_ended (t == u) (live_ticket t p) live
  live_mark t p (mark.Dropped u) live = unless_ended (t == u) (live_ticket t p) live
  live_mark t p mark live = live

  -- what is live behind some marks was live before them
  pub live_before : (t : ℕ) (p : Past B C I) (marks : List (Mark B)) → live_ticket t (after p marks) ≢ None → live_ticket t p ≢ None
  live_before t p [] live = live
  live_before t p (mark ∷ marks) live = live_mark t p mark (live_before t (Made mark ∷ p) marks live)

module _ {V X : Type 0} (keep : ℕ × V → Bool) (ticket : X → ℕ) (from : ℕ × V → Option X)
    (each : (e : ℕ × V) → ((keep e ≡ true) × (from e ≡ None)) ⊎ ((keep e ≡ false) × (x : X) × (from e ≡ Some x) × (ticket x ≡ e.0))) where
  -- what isn't kept is taken out
  pub times_out : (es : List (ℕ × V)) (t : ℕ)
      → times t (map (λ (e : ℕ × V). e.0) (filter (λ e. not (keep e)) es)) ≡ times t (map ticket (filter_map from es))
  times_out [] t = refl
  times_out (e ∷ es) t = by (each e) (times_out es t)
    where
      by : ((keep e ≡ true) × (from e ≡ None)) ⊎ ((keep e ≡ false) × (x : X) × (from e ≡ Some x) × (ticket x ≡ e.0))
          → times t (map (λ (e : ℕ × V). e.0) (filter (λ e. not (keep e)) es)) ≡ times t (map ticket (filter_map from es))
          → times t (map (λ (e : ℕ × V). e.0) (filter (λ e. not (keep e)) (e ∷ es))) ≡ times t (map ticket (filter_map from (e ∷ es)))
      by (inl h) rest = rw (h.0, h.1) rest
      by (inr h) rest = rw (h.0, h.2, h.3) (ap (λ n. cond (e.0 == t) 1 0 + n) rest)

module _ {V : Type 0} where
  at_first : (e : ℕ × V) (es : List (ℕ × V)) (t : ℕ) → at (e ∷ es) t ≡ cond (e.0 == t) (Some e.1) (at es t)
  at_first e es t = rw (is_at_number t e.0) refl

  -- what is in a table is in what is kept of it, or left out
  pub parted : (keep : ℕ × V → Bool) (es : List (ℕ × V)) (t : ℕ) → IsSome (at es t)
      → IsSome (at (filter keep es) t) ⊎ (0 < times t (map (λ (e : ℕ × V). e.0) (filter (λ e. not (keep e)) es)))
  parted keep [] t some = inl some
  parted keep (e ∷ es) t some = by (e.0 == t) (keep e) refl refl (parted keep es t)
    where
      by : (b k : Bool) → (e.0 == t) ≡ b → keep e ≡ k
          → (IsSome (at es t) → IsSome (at (filter keep es) t) ⊎ (0 < times t (map (λ (e : ℕ × V). e.0) (filter (λ e. not (keep e)) es))))
          → IsSome (at (filter keep (e ∷ es)) t) ⊎ (0 < times t (map (λ (e : ℕ × V). e.0) (filter (λ e. not (keep e)) (e ∷ es))))
      by true true is kept rest = inl (rw kept (rw (at_first e (filter keep es) t) (rw is refl)))
      by true false is kept rest = inr (rw kept (rw is (omega arith)))
      by false true is kept rest =
          let there : IsSome (at es t) = rw is at (rw (at_first e es t) at some) in
          rw kept (rw (at_first e (filter keep es) t) (rw is (rest there)))
      by false false is kept rest =
          let there : IsSome (at es t) = rw is at (rw (at_first e es t) at some) in
          rw kept (rw is (⊎_elim (λ a. inl a) (λ l. inr (omega (arith, l))) (rest there)))

module _ {B C I P R D H G U : Type 0} (w : Workings B C I P R D H G U) where
  -- Some marks are made, and what was in the tables, or is of these tickets, is in the tables behind them, where it is live.
  pub record HandsOn (own : List ℕ) (m now : Moment w) : Type 0 where
    pub more : List (Mark B)
    pub marks_are : now.marks ≡ m.marks ++ more
    pub kept : (p : Past B C I) (t : ℕ) → live_ticket t (after p more) ≢ None → IsTabled t m.state ⊎ (0 < times t own) → IsTabled t now.state

  -- it is the request of this ticket
  one_of : (t u : ℕ) → 0 < times u (t ∷ []) → t ≡ u
  one_of t u some = by (t == u) refl
    where
      by : (b : Bool) → (t == u) ≡ b → t ≡ u
      by true is = eqb-true t u is
      by false is = let no : 0 < 0 + 0 = rw is at some in absurd (omega (arith, no))

  -- a request is put into its table
  pub hands_put : (m now : Moment w) (t : ℕ) (r : Requested B C I) (marks : List (Mark B)) → now.marks ≡ m.marks ++ marks
      → now.state.requests ≡ put m.state.requests t r → now.state.recovered ≡ m.state.recovered → HandsOn (t ∷ []) m now
  hands_put m now t r marks is requests recovered = record { more = marks; marks_are = is; kept = λ p u live. by u }
    where
      table : (u : ℕ) (b : Bool) → (t == u) ≡ b → IsSome (at m.state.requests u) ⊎ (t ≡ u) → IsSome (at now.state.requests u)
      table u true is had = rw (requests, at-put m.state.requests t r u, is) refl
      table u false is (inl had) = rw (requests, at-put m.state.requests t r u, is) had
      table u false is (inr same) = let yes : (t == u) ≡ true = eq-eqb t u same in let no = sym yes ∙ is in absurd (cc)

      by : (u : ℕ) → IsTabled u m.state ⊎ (0 < times u (t ∷ [])) → IsTabled u now.state
      by u (inl (inl had)) = inl (table u (t == u) refl (inl had))
      by u (inl (inr had)) = inr (rw recovered had)
      by u (inr own) = inl (table u (t == u) refl (inr (one_of t u own)))

  -- a request ends
  pub hands_concludes : (m now : Moment w) (t : ℕ) (r : Requested B C I) (v : Verdict) → Concludes w m t r v now → HandsOn (t ∷ []) m now
  hands_concludes m now t r v c = subst (λ (n : Moment w). HandsOn (t ∷ []) m n) (sym c) (by r.request v)
    where
      at_end : Request B C I → Verdict → Moment w
      at_end request v = record m { state = ended m.state t request v; marks = m.marks ++ told t request v }

      told_so : (mark : Mark B) → ((p : Past B C I) → live_ticket t (Made mark ∷ p) ≡ None)
          → HandsOn (t ∷ []) m (record m { marks = m.marks ++ mark ∷ [] })
      told_so mark ends = record { more = mark ∷ []; marks_are = refl; kept = λ p u live had. over p u live had }
        where
          over : (p : Past B C I) (u : ℕ) → live_ticket u (Made mark ∷ p) ≢ None → IsTabled u m.state ⊎ (0 < times u (t ∷ [])) → IsTabled u m.state
          over p u live (inl had) = had
          over p u live (inr own) = absurd (live (subst (λ x. live_ticket x (Made mark ∷ p) ≡ None) (one_of t u own) (ends p)))

      by : (request : Request B C I) (v : Verdict) → HandsOn (t ∷ []) m (at_end request v)
      by (Verify u ancestry) Valid = told_so (mark.Verdict t true) (λ p. rw (eq-eqb t t refl) refl)
      by (Verify u ancestry) Invalid = told_so (mark.Verdict t false) (λ p. rw (eq-eqb t t refl) refl)
      by (Recover u context ancestry input kind) Invalid = told_so (mark.Declined t) (λ p. rw (eq-eqb t t refl) refl)
      by (Recover u context ancestry input kind) Valid = record { more = []; marks_are = refl; kept = λ p x live had. over x had }
        where
          over : (x : ℕ) → IsTabled x m.state ⊎ (0 < times x (t ∷ [])) → IsSome (at m.state.requests x) ⊎ (0 < times x (m.state.recovered ++ t ∷ []))
          over x (inl (inl had)) = inl had
          over x (inl (inr had)) = inr (let e = times-append x m.state.recovered (t ∷ []) in omega (arith, e, had))
          over x (inr own) = inr (let e = times-append x m.state.recovered (t ∷ []) in omega (arith, e, own))

  -- one with blocks to run
  pub hands_advances : (m now : Moment w) (t : ℕ) (r : Requested B C I) (path : Path B) → Advances w m t r path now → HandsOn (t ∷ []) m now
  hands_advances m now t r path (arrives passed c) = hands_concludes m now t r Valid c
  hands_advances m now t r path (leaves reaches off c) = hands_concludes m now t r Invalid c
  hands_advances m now t r path (misses reaches on off none off_parent c) = hands_concludes m now t r Invalid c
  hands_advances m now t r path (joins {left = left} {b = b} {parent = parent} j reaches on off run becomes) =
      hands_put m now t (record r { phase = Executing j (record { blocks = left; parent = b }) }) [] (ap (λ (n : Moment w). n.marks) becomes)
      (ap (λ (n : Moment w). n.state.requests) becomes) (ap (λ (n : Moment w). n.state.recovered) becomes)
  hands_advances m now t r path (starts {left = left} {b = b} {parent = parent} reaches on off none known l) =
      hands_put m now t (record r { phase = Executing m.state.next_job (record { blocks = left; parent = b }) }) _ l.marks
      (ap (λ (v : Tables B C I R U). v.requests) l.state
      ∙ ap (λ (v : Tables B C I R U). put v.requests t
      (record r { phase = Executing m.state.next_job (record { blocks = left; parent = b }) })) l.starts.state)
      (ap (λ (v : Tables B C I R U). v.recovered) l.state ∙ ap (λ (v : Tables B C I R U). v.recovered) l.starts.state)

  hands_becomes : (m now : Moment w) (t : ℕ) (r : Requested B C I) (phase : Phase B) → Becomes w m (moved m.state t r phase) [] now
      → HandsOn (t ∷ []) m now
  hands_becomes m now t r phase becomes = hands_put m now t (record r { phase = phase }) [] (ap (λ (n : Moment w). n.marks) becomes)
      (ap (λ (n : Moment w). n.state.requests) becomes) (ap (λ (n : Moment w). n.state.recovered) becomes)

  -- one that acquires what it needs
  pub hands_acquires : (stored_now : ℕ → Option (Named B)) (m now : Moment w) (t : ℕ) (r : Requested B C I) → Acquires w stored_now m t r now
      → HandsOn (t ∷ []) m now
  hands_acquires stored_now m now t r (valid needs c) = hands_concludes m now t r Valid c
  hands_acquires stored_now m now t r (invalid needs c) = hands_concludes m now t r Invalid c
  hands_acquires stored_now m now t r (asks digest needs left becomes) =
      hands_put m now t (record r { phase = Fetching m.state.next_fetch }) _ (ap (λ (n : Moment w). n.marks) becomes)
      (ap (λ (n : Moment w). n.state.requests) becomes) (ap (λ (n : Moment w). n.state.recovered) becomes)
  hands_acquires stored_now m now t r (waits needs becomes) = hands_becomes m now t r Waiting becomes
  hands_acquires stored_now m now t r (runs {path = path} needs advances) = hands_advances m now t (requested r.request) path advances

  -- one that follows the end of the run that it waited for
  pub hands_follows : (b : Named B) (how : How) (r : Released B C I) (m now : Moment w) → Follows w b how r m now → HandsOn (r.ticket ∷ []) m now
  hands_follows b how r m now (given_up up c) = hands_concludes m now r.ticket (requested r.request) Invalid c
  hands_follows b how r m now (at_boundary is becomes) = hands_becomes m now r.ticket (requested r.request) _ becomes
  hands_follows b how r m now (failed not_held off c) = hands_concludes m now r.ticket (requested r.request) Invalid c
  hands_follows b how r m now (parked pause there becomes) = hands_becomes m now r.ticket (requested r.request) _ becomes
  hands_follows b how r m now (goes_on up not_held pause there rule) = hands_advances m now r.ticket (requested r.request) r.path rule

  -- one after another
  pub hands_then : (us vs : List ℕ) (a b c : Moment w) → HandsOn us a b → HandsOn vs b c → HandsOn (us ++ vs) a c
  hands_then us vs a b c f g = record {
    more = f.more ++ g.more;
    marks_are = g.marks_are ∙ ap (λ ms. ms ++ g.more) f.marks_are ∙ append_assoc a.marks f.more g.more;
    kept = λ p t live had. go p t (λ is. live (ap (λ q. live_ticket t q) (after-append p f.more g.more) ∙ is)) had;
  }
    where
      go : (p : Past B C I) (t : ℕ) → live_ticket t (after (after p f.more) g.more) ≢ None → IsTabled t a.state ⊎ (0 < times t (us ++ vs))
          → IsTabled t c.state
      go p t live had = g.kept (after p f.more) t live (by had)
        where
          before : live_ticket t (after p f.more) ≢ None
          before = live_before t (after p f.more) g.more live

          of : (n : ℕ) → times t us ≡ n → 0 < times t (us ++ vs) → IsTabled t b.state ⊎ (0 < times t vs)
          of zero is own = inr (let e = times-append t us vs in omega (arith, e, own, is))
          of (suc n) is own = inl (f.kept p t before (inr (omega (arith, is))))

          by : IsTabled t a.state ⊎ (0 < times t (us ++ vs)) → IsTabled t b.state ⊎ (0 < times t vs)
          by (inl had) = inl (f.kept p t before (inl had))
          by (inr own) = of (times t us) refl own

  module _ {X : Type 0} (Rule : X → Moment w → Moment w → Type 0) (ticket : X → ℕ)
      (hands : (x : X) (m now : Moment w) → Rule x m now → HandsOn (ticket x ∷ []) m now) where
    -- for each of a list
    pub hands_in_turn : (xs : List X) (m last : Moment w) → InTurn Rule xs m last → HandsOn (map ticket xs) m last
    hands_in_turn [] m last in_none =
        record { more = []; marks_are = sym (append-nil m.marks); kept = λ p t live had. ⊎_elim (λ h. h) (λ none. absurd (omega (arith, none))) had }
    hands_in_turn (x ∷ xs) m last (in_next {n = n} rule rest) =
        hands_then (ticket x ∷ []) (map ticket xs) m n last (hands x m n rule) (hands_in_turn xs n last rest)

  -- nothing changes of these tables
  pub hands_same : (m now : Moment w) (marks : List (Mark B)) → now.marks ≡ m.marks ++ marks → now.state.requests ≡ m.state.requests
      → now.state.recovered ≡ m.state.recovered → HandsOn [] m now
  hands_same m now marks is requests recovered = record { more = marks; marks_are = is; kept = λ p t live had. by t had }
    where
      by : (t : ℕ) → IsTabled t m.state ⊎ (0 < times t []) → IsTabled t now.state
      by t (inl (inl had)) = inl (rw requests had)
      by t (inl (inr had)) = inr (rw recovered had)
      by t (inr none) = absurd (omega (arith, none))

  -- some requests are taken out, and these are served
  pub hands_out : (keep : ℕ × Requested B C I → Bool) (own : List ℕ) (m mid last : Moment w) → mid.marks ≡ m.marks
      → mid.state.requests ≡ filter keep m.state.requests → mid.state.recovered ≡ m.state.recovered
      → ((t : ℕ) → 0 < times t (map (λ (e : ℕ × Requested B C I). e.0) (filter (λ e. not (keep e)) m.state.requests)) → 0 < times t own)
      → HandsOn own mid last → HandsOn [] m last
  hands_out keep own m mid last same requests recovered out h = record {
    more = h.more;
    marks_are = h.marks_are ∙ ap (λ ms. ms ++ h.more) same;
    kept = λ p t live had. h.kept p t live (by t had);
  }
    where
      by : (t : ℕ) → IsTabled t m.state ⊎ (0 < times t []) → IsTabled t mid.state ⊎ (0 < times t own)
      by t (inl (inl had)) = ⊎_elim (λ there. inl (inl (rw requests there))) (λ off. inr (out t off)) (parted keep m.state.requests t had)
      by t (inl (inr had)) = inl (inr (rw recovered had))
      by t (inr none) = absurd (omega (arith, none))

  abbrev released_ticket : Released B C I → ℕ
  released_ticket r = r.ticket

  abbrev Parts : ℕ → ℕ → Requested B C I → Phase B → Type 0
  Parts j t r phase = ((not (is_on j phase) ≡ true) × (released_from j (t, record r { phase = phase }) ≡ None))
      ⊎ ((not (is_on j phase) ≡ false) × (x : Released B C I) × (released_from j (t, record r { phase = phase }) ≡ Some x) × (x.ticket ≡ t))

  -- the end of a run, and what follows it
  pub hands_settles : (m now : Moment w) (j : ℕ) (o : Option U) → Settles w m j o now → HandsOn [] m now
  hands_settles m now j o s =
      let done : Moment w = s.done in
      let mid : Moment w = record done { state = released j done.state } in
      hands_then [] [] m done now
      (hands_same m done _ (ap (λ (n : Moment w). n.marks) s.ends.becomes) (ap (λ (n : Moment w). n.state.requests) s.ends.becomes)
      (ap (λ (n : Moment w). n.state.recovered) s.ends.becomes))
      (hands_out (λ e. not (is_on j e.1.phase)) (map released_ticket (released_on j done.state.requests)) done mid now refl refl refl
      (λ t some. let e = times_out (λ e. not (is_on j e.1.phase)) released_ticket (released_from j) each done.state.requests t in
      omega (arith, e, some))
      (hands_in_turn (Follows w s.block s.how) released_ticket (λ r n l. hands_follows s.block s.how r n l)
      (released_on j done.state.requests) mid now s.follow))
    where
      on : (t : ℕ) (r : Requested B C I) (k : ℕ) (path : Path B) (b : Bool) → (k == j) ≡ b → Parts j t r (Executing k path)
      on t r k path true same = inr (rw same refl, record { ticket = t; request = r.request; path = path }, rw same refl, refl)
      on t r k path false other = inl (rw other refl, rw other refl)

      by : (t : ℕ) (r : Requested B C I) (phase : Phase B) → Parts j t r phase
      by t r Open = inl (refl, refl)
      by t r Waiting = inl (refl, refl)
      by t r (Fetching f) = inl (refl, refl)
      by t r (Parked path) = inl (refl, refl)
      by t r (Executing k path) = on t r k path (k == j) refl

      each : (e : ℕ × Requested B C I) → Parts j e.0 e.1 e.1.phase
      each e = by e.0 e.1 e.1.phase

  -- a turn of a run, and what its answer leads to
  pub hands_steps : (count : R → ℕ) (m now : Moment w) (j : ℕ) → Steps w count m j now → HandsOn [] m now
  hands_steps count m now j steps = by steps.running steps.answer steps.turns steps.settles
    where
      turned : (running : Tables B C I R U) (answer : Result (Moved (Option U)) AppFault) → TurnsRun w count m.members j m.state running answer
          → HandsOn [] m (record m { state = running })
      turned running answer turns = hands_same m (record m { state = running }) [] (sym (append-nil m.marks))
          (ap (λ (v : Tables B C I R U). v.requests) turns.state) (ap (λ (v : Tables B C I R U). v.recovered) turns.state)

      by : (running : Tables B C I R U) (answer : Result (Moved (Option U)) AppFault) → TurnsRun w count m.members j m.state running answer
          → SettlesBy w (record m { state = running }) j answer now → HandsOn [] m now
      by running (Ok Pending) turns settles = subst (λ (n : Moment w). HandsOn [] m n) (sym settles) (turned running (Ok Pending) turns)
      by running (Ok (Done o)) turns settles = hands_then [] [] m (record m { state = running }) now (turned running (Ok (Done o)) turns)
          (hands_settles (record m { state = running }) now j o settles)
      by running (Err fault) turns settles = absurd settles

  -- a resume
  pub hands_resumes : (stored_now : ℕ → Option (Named B)) (m now : Moment w) → Resumes w stored_now m now → HandsOn [] m now
  hands_resumes stored_now m now r =
      let mid : Moment w = r.mid in
      hands_then [] [] m mid now
      (hands_out (λ e. is_none (parked_path e.1.phase)) (map released_ticket (parked_in m.state.requests)) m (unparked w m) mid refl refl refl
      (λ t some. let e = times_out (λ e. is_none (parked_path e.1.phase)) released_ticket parked_from
      (λ e. by e.0 e.1 e.1.phase) m.state.requests t in omega (arith, e, some))
      (hands_in_turn (GoesAlong w) released_ticket (λ x n l. hands_advances n l x.ticket (requested x.request) x.path) (parked_in m.state.requests)
      (unparked w m) mid r.along))
      (hands_out (λ e. not (is_unacquired e.1.phase)) (map (λ (e : ℕ × Requested B C I). e.0) (unacquired_in mid.state.requests)) mid
      (unsettled w mid) now refl refl refl
      (λ t some. subst (λ es. 0 < times t (map (λ (e : ℕ × Requested B C I). e.0) es)) (twice (λ e. is_unacquired e.1.phase) mid.state.requests) some)
      (hands_in_turn (AcquiresAnew w stored_now) (λ e. e.0) (λ x n l. hands_acquires stored_now n l x.0 (requested x.1.request))
      (unacquired_in mid.state.requests) (unsettled w mid) now r.anew))
    where
      twice : (f : ℕ × Requested B C I → Bool) (es : List (ℕ × Requested B C I)) → filter (λ e. not (not (f e))) es ≡ filter f es
      twice f [] = refl
      twice f (e ∷ es) = on (f e) refl (twice f es)
        where
          on : (b : Bool) → f e ≡ b → filter (λ e. not (not (f e))) es ≡ filter f es → filter (λ e. not (not (f e))) (e ∷ es) ≡ filter f (e ∷ es)
          on true is rest = rw is (ap (λ xs. e ∷ xs) rest)
          on false is rest = rw is rest

      by : (t : ℕ) (r : Requested B C I) (phase : Phase B)
          → ((is_none (parked_path phase) ≡ true) × (parked_from (t, record r { phase = phase }) ≡ None))
          ⊎ ((is_none (parked_path phase) ≡ false) × (x : Released B C I) × (parked_from (t, record r { phase = phase }) ≡ Some x) × (x.ticket ≡ t))
      by t r Open = inl (refl, refl)
      by t r Waiting = inl (refl, refl)
      by t r (Fetching f) = inl (refl, refl)
      by t r (Executing k path) = inl (refl, refl)
      by t r (Parked path) = inr (refl, record { ticket = t; request = r.request; path = path }, refl, refl)

  -- the request of a ticket is served
  pub hands_serving : (m now : Moment w) (t : ℕ) → HandsOn (t ∷ []) (serving w m t) now → HandsOn [] m now
  hands_serving m now t h = record { more = h.more; marks_are = h.marks_are; kept = λ p u live had. h.kept p u live (by u had) }
    where
      table : (u : ℕ) (b : Bool) → (t == u) ≡ b → IsSome (at m.state.requests u) → IsTabled u (serving w m t).state ⊎ (0 < times u (t ∷ []))
      table u true is had = inr (rw is (omega arith))
      table u false is had = inl (inl (rw (at-without m.state.requests t u, is) had))

      by : (u : ℕ) → IsTabled u m.state ⊎ (0 < times u []) → IsTabled u (serving w m t).state ⊎ (0 < times u (t ∷ []))
      by u (inl (inl had)) = table u (t == u) refl had
      by u (inl (inr had)) = inl (inr had)
      by u (inr none) = absurd (omega (arith, none))

  -- the answer of a fetch
  pub hands_fetched : (stored_now : ℕ → Option (Named B)) (m now : Moment w) (fetch : ℕ) (answer : Option (Named B))
      → IsFetched w stored_now m fetch answer now → HandsOn [] m now
  hands_fetched stored_now m now fetch answer (found t r b fetches is acquires) =
      hands_serving m now t (hands_acquires stored_now (serving w m t) now t (with_block r b) acquires)
  hands_fetched stored_now m now fetch answer (awaits t r fetches is verification becomes) =
      hands_serving m now t (hands_becomes (serving w m t) now t r Waiting becomes)
  hands_fetched stored_now m now fetch answer (declines t r fetches is other c) =
      hands_serving m now t (hands_concludes (serving w m t) now t r Invalid c)
  hands_fetched stored_now m now fetch answer (dead off same) =
      subst (λ (n : Moment w). HandsOn [] m n) (sym same) (hands_same m m [] (sym (append-nil m.marks)) refl refl)
