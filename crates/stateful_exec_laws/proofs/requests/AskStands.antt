-- The tables stand behind a block that is asked for.
use Rattle.std.proofs.Common.{◌≡◌, ◌≢◌, ◌==◌, ◌+◌, ◌<◌, ℕ, Bool, true, false, ◌∷◌, All, Option, Some, None, MatchOption, get_or, inr, refl, sym, ap, ◌∙◌, subst, arith}
use Rattle.std.proofs.lemmas.Bool.{eqb-true, eq-eqb}
use Rattle.stateful_base.specs.Names.{Named}
use Rattle.stateful_base.specs.declared.digest.Digest.{Digest}
use Rattle.stateful_history.specs.Past.{Past, Item, Made}
use Rattle.stateful_history.specs.Met.{Met}
use Rattle.stateful_history.specs.Asked.{asked_for}
use Rattle.stateful_history.specs.Live.{live_fetch}
use Rattle.stateful_history.specs.declared.mark.Mark.TheVariants.{Asked}
use Rattle.stateful_table.specs.Table.{at, put}
use Rattle.stateful_exec_tables.specs.Tables.{moved}
use Rattle.stateful_exec_model.specs.Workings.{Workings, Point}
use Rattle.stateful_exec_tables.specs.declared.state.Tables.{Tables}
use Rattle.stateful_exec_tables.specs.declared.tables.Phase.TheVariants.{Fetching}
use Rattle.stateful_exec_tables.specs.declared.tables.Requested.{Requested}
use Rattle.stateful_exec_laws.specs.Setting.{setting}
use Rattle.stateful_exec_laws.specs.Requesting.{IsInPhase, IsStanding}
use Rattle.stateful_exec_laws.specs.Standing.{TablesStand, IsInHand}
use Rattle.stateful_exec_laws.proofs.requests.Calm.{IsCalm, CacheStands-calm, RunsStand-calm}
use Rattle.stateful_exec_laws.proofs.requests.Asking.{LeavesFetch, IsRequestOf-calm, IsStanding-calm}
use Rattle.stateful_exec_laws.proofs.requests.Cancelled.{same_ticket}
use Rattle.stateful_exec_laws.proofs.runs.Removing.{differ}
use Rattle.stateful_exec_laws.proofs.requests.Putting.{sorted_put, All-put, put_here, tickets_more}
use Rattle.stateful_exec_laws.proofs.requests.PutStands.{fetches-put, once-put}

below_next : (a b : ℕ) → a < b → a < b + 1
below_next a b l = omega (arith, l)

module _ {B C I : Type 0} (p : Past B C I) (f t : ℕ) (d : Digest) where
  abbrev asked : Item B C I
  asked = Made (Asked f (Some t) d)

  asked-LeavesFetch : (g : ℕ) → g ≢ f → LeavesFetch p asked g
  asked-LeavesFetch g ne = record { live = rw (differ g f (λ e. ne (sym e))) refl; asked = rw (differ g f (λ e. ne (sym e))) refl }

module _ {B C I P R D H G U : Type 0} (w : Workings B C I P R D H G U) (stored : ℕ → Option (Named B)) (p : Past B C I) (points : Digest → Point w) (point : Point w) (next : w.Ids) (old : Tables B C I R U) (t : ℕ) (s : TablesStand w stored p points point next old)
    (r : Requested B C I) (hand : IsInHand w stored p t r.request old) (met : All (Met (setting w stored) p) r.acquired) (d : Digest) where
  abbrev given : Past B C I
  given = Made (Asked old.next_fetch (Some t) d) ∷ p

  abbrev now : Requested B C I
  now = record r { phase = Fetching old.next_fetch }

  calm : IsCalm (setting w stored) p (Made (Asked old.next_fetch (Some t) d))
  calm = record { tip = refl; starts_none = tt; built = λ x h. h; kept = refl }

  -- an earlier fetch has another number
  earlier : (g : ℕ) (o : Option ℕ) → asked_for g p ≡ Some o → g ≢ old.next_fetch
  earlier g o is same = let some : asked_for g p ≢ None = (λ none. let no : Some o ≡ None = sym is ∙ none in cc) in let l = s.numbers.fetches g some in omega (arith, l, same)

  others : All (λ e. IsStanding w stored given old.runs e.0 e.1) old.requests
  others = λ k x l.
      let e = get_or old.requests k x in
      let stands = s.requests.each k x l in
      IsStanding-calm w stored p (Made (Asked old.next_fetch (Some t) d)) old.runs e.0 e.1 (record { live = refl; verified = refl; proposed = refl })
      (λ g is. asked-LeavesFetch p old.next_fetch t d g (let h = subst (λ phase. IsInPhase w stored p old.runs e.0 e.1.request phase) is stands.phase in earlier g (Some e.0) h.1)) stands

  own : IsStanding w stored given old.runs t now
  own = record {
    own = hand.own;
    asked = IsRequestOf-calm w stored p (Made (Asked old.next_fetch (Some t) d)) t r.request (record { live = refl; verified = refl; proposed = refl }) hand.asked;
    brought = λ k x l. inr (hand.brought k x l);
    met = λ k x l. inr (met k x l);
    phase = (rw (eq-eqb old.next_fetch old.next_fetch refl) refl, rw (eq-eqb old.next_fetch old.next_fetch refl) refl);
  }

  fetches : (g u : ℕ) → live_fetch g given ≡ true → asked_for g given ≡ Some (Some u) → MatchOption (at (put old.requests t now) u) ⊥ (λ q. q.phase ≡ Fetching g)
  fetches g u live is = go (g == old.next_fetch) refl
    where
      go : (b : Bool) → (g == old.next_fetch) ≡ b → MatchOption (at (put old.requests t now) u) ⊥ (λ q. q.phase ≡ Fetching g)
      go true same =
          let mine : t ≡ u = same_ticket t u (rw same at is) in
          subst (λ k. MatchOption (at (put old.requests t now) k) ⊥ (λ (q : Requested B C I). q.phase ≡ Fetching g)) mine
          (subst (λ o. MatchOption o ⊥ (λ (q : Requested B C I). q.phase ≡ Fetching g)) (sym (put_here old.requests t now)) (ap (λ n. Fetching n) (sym (eqb-true g old.next_fetch same))))
      go false other = fetches-put w stored p points point next old t s r hand met (Fetching old.next_fetch) g u (rw other at live) (rw other at is)

  asked_below : (g : ℕ) → asked_for g given ≢ None → g < old.next_fetch + 1
  asked_below g some = go (g == old.next_fetch) refl
    where
      go : (b : Bool) → (g == old.next_fetch) ≡ b → g < old.next_fetch + 1
      go true same = let e = eqb-true g old.next_fetch same in omega (arith, e)
      go false other = below_next g old.next_fetch (s.numbers.fetches g (λ none. some (rw other none)))

  -- the request fetches under the next number
  pub TablesStand-asks : TablesStand w stored given points point next (record (moved old t r (Fetching old.next_fetch)) { next_fetch = old.next_fetch + 1 })
  TablesStand-asks = record {
    at_anchor = s.at_anchor;
    cache = CacheStands-calm w stored p (Made (Asked old.next_fetch (Some t) d)) calm points next old.anchor old.pause old.cache s.cache;
    runs = RunsStand-calm w stored p (Made (Asked old.next_fetch (Some t) d)) calm points next old.anchor old.cache (λ j. record { live = refl; started = refl; turns = refl }) old.runs s.runs;
    requests = record {
      ascending = sorted_put old.requests t now s.requests.ascending;
      each = All-put (λ (e : ℕ × Requested B C I). IsStanding w stored given old.runs e.0 e.1) old.requests t now others own;
      fetches = fetches;
      wanted = λ j live. tickets_more j t old.requests now hand.absent (s.requests.wanted j live);
    };
    once = once-put w stored p points point next old t s r hand met (Fetching old.next_fetch);
    queue = record { each = λ k x l. let e = s.queue.each k x l in record { live = e.live; proposes = e.proposes }; ready = s.queue.ready };
    numbers = record { jobs = s.numbers.jobs; unturned = s.numbers.unturned; fetches = asked_below };
  }
