-- What comes into the queue of builds: proposals that weren't there, each once; and what is queued stays.
use Rattle.std.proofs.Common.{◌≡◌, ◌≢◌, ◌==◌, ◌<◌, ◌++◌, ℕ, suc, Bool, true, false, List, [], ◌∷◌, filter, All, AllPairs, Option, Some, None, IsSome, refl, sym, ap, ◌∙◌, subst, arith}
use Rattle.std.specs.List.Sorted.{IsStrictlySortedBy}
use Rattle.std.specs.Map.{keys_of}
use Rattle.std.specs.Ordering.{nat_cmp}
use Rattle.std.proofs.lemmas.Bool.{eqb-true, eqb-false}
use Rattle.std.proofs.lemmas.List.{append_assoc, append-nil}
use Rattle.std.proofs.lemmas.List.Elements.{All-nil, All-cons, All-append, All-weaker, All-head, All-tail}
use Rattle.stateful_table.specs.Table.{at, put}
use Rattle.stateful_exec_model.specs.Ending.{InTurn, none, next}
use Rattle.stateful_exec_model.specs.Moments.{Moment, Becomes}
use Rattle.stateful_exec_tables.specs.Tables.{moved, ended}
use Rattle.stateful_exec_model.specs.Rules.{Concludes}
use Rattle.stateful_exec_model.specs.Workings.{Workings}
use Rattle.stateful_exec_walk.specs.declared.request.Request.{Request}
use Rattle.stateful_exec_walk.specs.declared.request.Request.TheVariants.{Verify, Recover}
use Rattle.stateful_exec_walk.specs.declared.request.Proposal.{Proposal}
use Rattle.stateful_exec_walk.specs.declared.request.Verdict.{Verdict}
use Rattle.stateful_exec_walk.specs.declared.request.Verdict.TheVariants.{Valid, Invalid}
use Rattle.stateful_exec_tables.specs.declared.state.Tables.{Tables}
use Rattle.stateful_exec_tables.specs.declared.tables.Phase.{Phase}
use Rattle.stateful_exec_tables.specs.declared.tables.Requested.{Requested}
use Rattle.stateful_exec_laws.specs.Building.{IsElsewhere}
use Rattle.stateful_exec_laws.proofs.ended.Left.{sorted_filter}
use Rattle.stateful_exec_laws.proofs.pauses.PassingRules.{none_kept}
use Rattle.stateful_exec_laws.proofs.requests.Putting.{sorted_put, put_other, put_here}
use Rattle.stateful_exec_laws.proofs.runs.Replacing.{some_put}
use Rattle.stateful_loop_laws.proofs.tickets.Times.{times, AreApart, times-none, apart-append}

-- what is there isn't absent
pub some_none : {V : Type 0} (o : Option V) → IsSome o → o ≡ None → ⊥
some_none None some off = cc
some_none (Some x) some off = cc

-- what isn't absent is there
pub some_unless : {V : Type 0} (o : Option V) → (o ≡ None → ⊥) → IsSome o
some_unless None off = absurd (off refl)
some_unless (Some x) off = refl

-- an empty list
pub none_apart : AreApart []
none_apart i j d lt within = let no : ⊥ = omega (arith, within) in absurd no

module _ {B C I R U : Type 0} where
  -- requests are in order, and off of them is queued
  pub record IsOrderly (v : Tables B C I R U) : Type 0 where
    pub ascending : IsStrictlySortedBy nat_cmp (keys_of v.requests)
    pub once : (t : ℕ) → IsSome (at v.requests t) → at v.queued t ≡ None

  -- From some tables to later ones these proposals come into the queue and are handed out, each once; what was queued stays, and
  -- what isn't of these tickets stays elsewhere.
  pub record QueueGrows (Own : ℕ → Type 0) (old new : Tables B C I R U) : Type 0 where
    pub added : List ℕ
    pub recovered : new.recovered ≡ old.recovered ++ added
    pub own : All Own added
    pub was : All (λ t. at old.queued t ≡ None) added
    pub is : All (λ t. IsSome (at new.queued t)) added
    pub apart : AreApart added
    pub still : (t : ℕ) → IsSome (at old.queued t) → IsSome (at new.queued t)
    pub out : (t : ℕ) → (Own t → ⊥) → IsElsewhere old t → IsElsewhere new t
    pub orderly : IsOrderly old → IsOrderly new

  -- where neither requests nor the queue change
  pub grows_beside : (Own : ℕ → Type 0) (old new : Tables B C I R U) → new.requests ≡ old.requests → new.queued ≡ old.queued
      → new.recovered ≡ old.recovered → QueueGrows Own old new
  grows_beside Own old new requests queued recovered = record {
    added = [];
    recovered = recovered ∙ sym (append-nil old.recovered);
    own = All-nil Own;
    was = All-nil (λ t. at old.queued t ≡ None);
    is = All-nil (λ t. IsSome (at new.queued t));
    apart = none_apart;
    still = λ t some. rw queued some;
    out = λ t off h. record { absent = rw requests h.absent; not_queued = rw queued h.not_queued };
    orderly = λ o. record { ascending = rw requests o.ascending; once = λ t some. rw queued (o.once t (rw requests at some)) };
  }

  -- where requests are taken out
  pub grows_kept : (Own : ℕ → Type 0) (old new : Tables B C I R U) (keep : ℕ × Requested B C I → Bool) → new.requests ≡ filter keep old.requests
      → new.queued ≡ old.queued → new.recovered ≡ old.recovered → QueueGrows Own old new
  grows_kept Own old new keep requests queued recovered = record {
    added = [];
    recovered = recovered ∙ sym (append-nil old.recovered);
    own = All-nil Own;
    was = All-nil (λ t. at old.queued t ≡ None);
    is = All-nil (λ t. IsSome (at new.queued t));
    apart = none_apart;
    still = λ t some. rw queued some;
    out = λ t off h. record { absent = rw requests (none_kept keep old.requests t h.absent); not_queued = rw queued h.not_queued };
    orderly = λ o. record {
      ascending = rw requests (sorted_filter keep old.requests o.ascending);
      once = λ t some. rw queued (o.once t
          (some_unless (at old.requests t) (λ off. some_none (at new.requests t) some (rw requests (none_kept keep old.requests t off)))));
    };
  }

  -- one after another
  pub grows_then : (Own : ℕ → Type 0) (a b c : Tables B C I R U) → QueueGrows Own a b → QueueGrows Own b c → QueueGrows Own a c
  grows_then Own a b c f g = record {
    added = f.added ++ g.added;
    recovered = g.recovered ∙ ap (λ us. us ++ g.added) f.recovered ∙ append_assoc a.recovered f.added g.added;
    own = All-append Own f.added g.added f.own g.own;
    was = All-append (λ t. at a.queued t ≡ None) f.added g.added f.was
        (All-weaker (λ t. at b.queued t ≡ None) (λ t. at a.queued t ≡ None) before g.added g.was);
    is = All-append (λ t. IsSome (at c.queued t)) f.added g.added
        (All-weaker (λ t. IsSome (at b.queued t)) (λ t. IsSome (at c.queued t)) g.still f.added f.is) g.is;
    apart = apart-append f.added g.added f.apart g.apart (λ t there. between t there (at b.queued t) refl);
    still = λ t some. g.still t (f.still t some);
    out = λ t off h. g.out t off (f.out t off h);
    orderly = λ o. g.orderly (f.orderly o);
  }
    where
      before : (t : ℕ) → at b.queued t ≡ None → at a.queued t ≡ None
      before t off = go (at a.queued t) refl
        where
          go : (o : Option (Proposal B C I)) → at a.queued t ≡ o → at a.queued t ≡ None
          go None is = is
          go (Some x) is = absurd (some_none (at b.queued t) (f.still t (rw is refl)) off)

      between : (t : ℕ) → 0 < times t f.added → (o : Option (Proposal B C I)) → at b.queued t ≡ o → times t g.added ≡ 0
      between t there None is =
          let gone = times-none t f.added
          (All-weaker (λ u. IsSome (at b.queued u)) (λ u. t ≢ u)
          (λ u some same. some_none (at b.queued u) some (subst (λ n. at b.queued n ≡ None) same is)) f.added f.is) in
          absurd (omega (arith, there, gone))
      between t there (Some x) is =
          times-none t g.added (All-weaker (λ u. at b.queued u ≡ None) (λ u. t ≢ u)
          (λ u off same. some_none (at b.queued u) (subst (λ n. IsSome (at b.queued n)) same (rw is refl)) off) g.added g.was)

  -- of more tickets
  pub grows_any : (Own : ℕ → Type 0) (old new : Tables B C I R U) → QueueGrows Own old new → QueueGrows (λ t. Unit {0}) old new
  grows_any Own old new g = record {
    added = g.added;
    recovered = g.recovered;
    own = All-weaker Own (λ t. Unit {0}) (λ t h. tt) g.added g.own;
    was = g.was;
    is = g.is;
    apart = g.apart;
    still = g.still;
    out = λ t off h. absurd (off tt);
    orderly = g.orderly;
  }

  -- a request of a ticket that is in no table comes so far
  pub grows_moved : (old new : Tables B C I R U) (t : ℕ) (r : Requested B C I) → IsElsewhere old t → new.requests ≡ put old.requests t r
      → new.queued ≡ old.queued → new.recovered ≡ old.recovered → QueueGrows (λ u. u ≡ t) old new
  grows_moved old new t r hand requests queued recovered = record {
    added = [];
    recovered = recovered ∙ sym (append-nil old.recovered);
    own = All-nil (λ u. u ≡ t);
    was = All-nil (λ u. at old.queued u ≡ None);
    is = All-nil (λ u. IsSome (at new.queued u));
    apart = none_apart;
    still = λ u some. rw queued some;
    out = λ u off h. record { absent = rw requests (put_other old.requests t u r off ∙ h.absent); not_queued = rw queued h.not_queued };
    orderly = λ o. record {
      ascending = rw requests (sorted_put old.requests t r o.ascending);
      once = λ u some. rw queued (other o u (rw requests at some) (u == t) refl);
    };
  }
    where
      other : IsOrderly old → (u : ℕ) → IsSome (at (put old.requests t r) u) → (b : Bool) → (u == t) ≡ b → at old.queued u ≡ None
      other o u some true is = subst (λ n. at old.queued n ≡ None) (sym (eqb-true u t is)) hand.not_queued
      other o u some false is = o.once u (subst (λ x. IsSome x) (put_other old.requests t u r (eqb-false u t is)) some)

  -- or it ends, and its proposal may be queued
  pub grows_ended : (old : Tables B C I R U) (t : ℕ) (request : Request B C I) (v : Verdict) → IsElsewhere old t
      → QueueGrows (λ u. u ≡ t) old (ended old t request v)
  grows_ended old t (Verify u ancestry) Valid hand = grows_beside (λ n. n ≡ t) old old refl refl refl
  grows_ended old t (Verify u ancestry) Invalid hand = grows_beside (λ n. n ≡ t) old old refl refl refl
  grows_ended old t (Recover u context ancestry input kind) Invalid hand = grows_beside (λ n. n ≡ t) old old refl refl refl
  grows_ended old t (Recover u context ancestry input kind) Valid hand = record {
    added = t ∷ [];
    recovered = refl;
    own = All-cons (λ n. n ≡ t) t [] refl (All-nil (λ n. n ≡ t));
    was = All-cons (λ n. at old.queued n ≡ None) t [] hand.not_queued (All-nil (λ n. at old.queued n ≡ None));
    is = All-cons (λ n. IsSome (at (put old.queued t proposal) n)) t [] (rw (put_here old.queued t proposal) refl)
        (All-nil (λ n. IsSome (at (put old.queued t proposal) n)));
    apart = λ i j d lt within. let no : ⊥ = omega (arith, lt, within) in absurd no;
    still = some_put old.queued t proposal;
    out = λ n off h. record { absent = h.absent; not_queued = put_other old.queued t n proposal off ∙ h.not_queued };
    orderly = λ o. record {
      ascending = o.ascending;
      once = λ n some. put_other old.queued t n proposal
          (λ same. some_none (at old.requests t) (subst (λ k. IsSome (at old.requests k)) same some) hand.absent) ∙ o.once n some;
    };
  }
    where
      proposal : Proposal B C I
      proposal = record { context = context; ancestry = ancestry; input = input; kind = kind }

module _ {B C I P R D H G U : Type 0} (w : Workings B C I P R D H G U) where
  -- a request ends
  pub grows_concludes : (m now : Moment w) (t : ℕ) (r : Requested B C I) (v : Verdict) → IsElsewhere m.state t → Concludes w m t r v now
      → QueueGrows (λ u. u ≡ t) m.state now.state
  grows_concludes m now t r v hand is = subst (λ (n : Moment w). QueueGrows (λ u. u ≡ t) m.state n.state) (sym is)
      (grows_ended m.state t r.request v hand)

  -- a request comes so far
  pub grows_put : (m now : Moment w) (t : ℕ) (r : Requested B C I) (phase : Phase B) → IsElsewhere m.state t
      → Becomes w m (moved m.state t r phase) [] now → QueueGrows (λ u. u ≡ t) m.state now.state
  grows_put m now t r phase hand is =
      subst (λ (n : Moment w). QueueGrows (λ u. u ≡ t) m.state n.state) (sym is)
      (grows_moved m.state (moved m.state t r phase) t (record r { phase = phase }) hand refl refl refl)

  -- all of a list, in turn
  module _ {X : Type 0} (Rule : X → Moment w → Moment w → Type 0) (ticket : X → ℕ)
      (grows : (x : X) (m now : Moment w) → IsElsewhere m.state (ticket x) → Rule x m now → QueueGrows (λ u. u ≡ ticket x) m.state now.state) where
    -- the queue grows by what each one brings
    pub grows_in_turn : (xs : List X) (m last : Moment w) → All (λ x. IsElsewhere m.state (ticket x)) xs → AllPairs (λ x y. ticket x ≢ ticket y) xs
        → InTurn Rule xs m last → QueueGrows (λ t. Unit {0}) m.state last.state
    grows_in_turn [] m _ hands apart none = grows_beside (λ t. Unit {0}) m.state m.state refl refl refl
    grows_in_turn (x ∷ xs) m last hands apart (next {n = n} rule rules) =
        let f : QueueGrows (λ u. u ≡ ticket x) m.state n.state = grows x m n (All-head (λ y. IsElsewhere m.state (ticket y)) x xs hands) rule in
        let rest : QueueGrows (λ t. Unit {0}) n.state last.state = grows_in_turn xs n last
        (λ k d l. f.out (ticket _) (λ same. apart 0 (suc k) d (omega arith) (omega (arith, l)) (sym same))
        (All-tail (λ y. IsElsewhere m.state (ticket y)) x xs hands k d l))
        (λ i j d lt within. apart (suc i) (suc j) d (omega (arith, lt)) (omega (arith, within))) rules in
        grows_then (λ t. Unit {0}) m.state n.state last.state (grows_any (λ u. u ≡ ticket x) m.state n.state f) rest
