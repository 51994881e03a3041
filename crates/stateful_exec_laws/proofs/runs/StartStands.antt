-- The tables stand after a run that is started.
use Rattle.std.proofs.Common.{◌≡◌, ◌≢◌, ◌==◌, ◌<◌, ℕ, suc, Bool, true, false, List, [], ◌∷◌, All, AllPairs, Option, Some, None, IsSome, get_or, inr, refl, sym, ◌∙◌, subst, arith}
use Rattle.std.specs.Ordering.{nat_cmp, match_ordering, MatchOrdering}
use Rattle.std.specs.declared.cmp.Ordering.{Ordering}
use Rattle.std.specs.declared.cmp.Ordering.TheVariants.{Less, Equal, Greater}
use Rattle.std.proofs.lemmas.Bool.{eqb-true, eqb-false, eq-eqb}
use Rattle.std.proofs.lemmas.Cmp.{ranked}
use Rattle.std.proofs.lemmas.List.Elements.{All-weaker, All-head, All-tail}
use Rattle.std.proofs.lemmas.List.Kept.{AllPairs-cons}
use Rattle.stateful_base.specs.Names.{Named}
use Rattle.stateful_base.specs.declared.anchor.Anchor.{Anchor}
use Rattle.stateful_base.specs.declared.digest.Digest.{Digest}
use Rattle.stateful_base.specs.declared.outcome.Finality.TheVariants as finality
use Rattle.stateful_history.specs.Setting.{parent_of}
use Rattle.stateful_history.specs.Past.{Past, Made}
use Rattle.stateful_history.specs.Met.{Met}
use Rattle.stateful_history.specs.Jobs.{IsLiveJob, started_for}
use Rattle.stateful_history.specs.declared.mark.JobKind.TheVariants.{Candidate}
use Rattle.stateful_history.specs.declared.mark.Mark.TheVariants.{Started}
use Rattle.stateful_exec_cache.specs.Cache.{IsAtHand}
use Rattle.stateful_exec_cache.specs.declared.cache.Cached.{Cached}
use Rattle.stateful_table.specs.Table.{at, put}
use Rattle.stateful_table.proofs.Tables.{is_at_number}
use Rattle.stateful_exec_model.specs.Starting.{IsFresh, StartsRun}
use Rattle.stateful_exec_model.specs.Workings.{Workings, Point}
use Rattle.stateful_exec_tables.specs.declared.state.Tables.{Tables}
use Rattle.stateful_exec_tables.specs.declared.tables.LiveRun.{LiveRun}
use Rattle.stateful_exec_laws.specs.Setting.{setting}
use Rattle.stateful_exec_laws.specs.Caching.{IsCached, CacheStands}
use Rattle.stateful_exec_laws.specs.Running.{IsRunning, RunsStand}
use Rattle.stateful_exec_laws.specs.Standing.{TablesStand}
use Rattle.stateful_exec_laws.proofs.requests.Calm.{IsCalm, LeavesJob, Chain-calm, CacheStands-calm, IsRunning-calm}
use Rattle.stateful_exec_laws.proofs.linked.OverChain.{IsOnChain, on_chain}
use Rattle.stateful_exec_laws.proofs.runs.Removing.{differ, All-at}
use Rattle.stateful_exec_laws.proofs.requests.Putting.{sorted_put, All-put, put_here, put_other}

-- pairs that are apart stay so with a value more that is apart from all
pub AllPairs-put : {V : Type 0} (R : ℕ × V → ℕ × V → Type 0) (es : List (ℕ × V)) (t : ℕ) (v : V) → at es t ≡ None → AllPairs R es → All (R (t, v)) es → All (λ e. R e (t, v)) es → AllPairs R (put es t v)
AllPairs-put R [] t v none apart before behind = AllPairs-cons R (t, v) [] before apart
AllPairs-put {V = V} R (e ∷ es) t v none apart before behind = go (nat_cmp t e.0) (ranked t e.0 (nat_cmp t e.0) refl) (AllPairs-put R es t v)
  where
    first : All (R e) es
    first = λ k d l. apart 0 (suc k) d (omega arith) (omega (arith, l))

    rest : AllPairs R es
    rest = λ i k d l m. apart (suc i) (suc k) d (omega (arith, l)) (omega (arith, m))

    go : (o : Ordering) → MatchOrdering o (t < e.0) (t ≡ e.0) (e.0 < t) → (at es t ≡ None → AllPairs R es → All (R (t, v)) es → All (λ x. R x (t, v)) es → AllPairs R (put es t v))
        → AllPairs R (match_ordering o ((t, v) ∷ e ∷ es) ((e.0, v) ∷ es) (e ∷ put es t v))
    go Less lt more = AllPairs-cons R (t, v) (e ∷ es) before apart
    go Equal is more = let same : (e.0 == t) ≡ true = eq-eqb e.0 t (sym is) in let no : Some e.1 ≡ None = rw (is_at_number t e.0 ∙ same) at none in cc
    go Greater gt more =
        let other : (e.0 == t) ≡ false = differ e.0 t (λ same. omega (arith, gt, same)) in
        AllPairs-cons R e (put es t v) (All-put (R e) es t v first (All-head (λ (x : ℕ × V). R x (t, v)) e es behind))
        (more (rw (is_at_number t e.0 ∙ other) at none) rest (All-tail (R (t, v)) e es before) (All-tail (λ (x : ℕ × V). R x (t, v)) e es behind))

module _ {B C I : Type 0} (p : Past B C I) (j : ℕ) (d : Digest) where
  started-LeavesJob : (k : ℕ) → k ≢ j → LeavesJob p (Made (Started j Candidate d)) k
  started-LeavesJob k ne = record { live = rw (differ k j (λ e. ne (sym e))) refl; started = rw (differ k j (λ e. ne (sym e))) refl; turns = refl }

  started-IsCalm : {S T : Type 0} (s : _) → IsCalm {S = S} {T = T} s p (Made (Started j Candidate d))
  started-IsCalm s = record { tip = refl; starts_none = tt; built = λ x h. h; kept = refl }

module _ {B C I P R D H G U : Type 0} (w : Workings B C I P R D H G U) (stored : ℕ → Option (Named B)) (p : Past B C I) (points : Digest → Point w) (next now : w.Ids) (keeps : (c : List (Point w)) → w.kind.issued next c → w.kind.issued now c) (anchor : Anchor) where
  -- ids that are drawn leave those that were drawn before
  pub CacheStands-next : (pause : _) (cache : List (Cached U)) → CacheStands w stored p points next anchor pause cache → CacheStands w stored p points now anchor pause cache
  CacheStands-next pause cache h = record {
    each = All-weaker (IsCached w stored p points next anchor) (IsCached w stored p points now anchor) (λ e c. record {
      block = c.block;
      met = c.met;
      digest_is = c.digest_is;
      parent_is = c.parent_is;
      round_is = c.round_is;
      other = c.other;
      below = c.below;
      chain = c.chain;
      drawn = keeps _ c.drawn;
      shows = c.shows;
    }) cache h.each;
    in_order = h.in_order;
    knows = h.knows;
  }

  pub IsRunning-next : (cache : List (Cached U)) (j : ℕ) (run : LiveRun B R) → IsRunning w stored p points next anchor cache j run → IsRunning w stored p points now anchor cache j run
  IsRunning-next cache j run h = record {
    job = h.job;
    met = h.met;
    other = h.other;
    parent = h.parent;
    parent_met = h.parent_met;
    parent_is = h.parent_is;
    at_hand = h.at_hand;
    below = h.below;
    chain = h.chain;
    own = h.own;
    drawn = λ x. keeps _ (h.drawn x);
    round = h.round;
    runs = h.runs;
  }

module _ {B C I P R D H G U : Type 0} (w : Workings B C I P R D H G U) (stored : ℕ → Option (Named B)) (p : Past B C I) (points : Digest → Point w) (point : Point w) (next now : w.Ids) (old new : Tables B C I R U) (s : TablesStand w stored p points point next old)
    (other_states : (n i : w.Ids) (x y : w.States) (c : List (Point w)) → w.kind.issued n ((i, x) ∷ c) → w.kind.issued n ((i, y) ∷ c))
    (members : w.kind.Members) (located : w.kind.point members ≡ Some point) (drawn : w.kind.issued next (point ∷ []))
    (b parent : Named B) (starts : StartsRun w b parent members next now old new) (met : Met (setting w stored) p b) (parent_met : Met (setting w stored) p parent)
    (parent_is : parent.digest ≡ parent_of (setting w stored) b) (at_hand : IsAtHand old.anchor old.cache parent.digest) (other : b.digest ≢ old.anchor.digest) (unrun : All (λ e. e.1.block.digest ≢ b.digest) old.runs) where
  abbrev given : Past B C I
  given = Made (Started old.next_job Candidate b.digest) ∷ p

  calm : IsCalm (setting w stored) p (Made (Started old.next_job Candidate b.digest))
  calm = started-IsCalm p old.next_job b.digest (setting w stored)

  abbrev live : LiveRun B R
  live = record { block = b; run = starts.run }

  new_job : (j : ℕ) (k : _) → started_for j p ≡ Some k → j ≢ old.next_job
  new_job j k is same = let some : started_for j p ≢ None = (λ none. let no : Some k ≡ None = sym is ∙ none in cc) in let l = s.numbers.jobs j some in omega (arith, l, same)

  is_running : IsOnChain w stored p points point next old s now members located drawn (λ q c. IsFresh w starts.run finality.Candidate b parent next q c) parent.digest → IsRunning w stored given points now old.anchor old.cache old.next_job live
  is_running o = record {
    job = record { live = rw (eq-eqb old.next_job old.next_job refl) refl; is = rw (eq-eqb old.next_job old.next_job refl) refl };
    met = inr met;
    other = other;
    parent = parent;
    parent_met = inr parent_met;
    parent_is = parent_is;
    at_hand = at_hand;
    below = o.below;
    chain = Chain-calm w stored p (Made (Started old.next_job Candidate b.digest)) calm points old.anchor.digest parent.digest _ o.chain;
    own = next;
    drawn = λ x. other_states now next (w.kind.begun (points parent.digest).1) x _ o.issued;
    round = o.has.round;
    runs = rw (s.numbers.unturned old.next_job (omega arith)) o.has.runs;
  }

  others : All (λ e. IsRunning w stored given points now old.anchor old.cache e.0 e.1) old.runs
  others = λ k x l.
      let e = get_or old.runs k x in
      let runs = s.runs.each k x l in
      IsRunning-calm w stored p (Made (Started old.next_job Candidate b.digest)) calm points now old.anchor old.cache e.0 e.1 (started-LeavesJob p old.next_job b.digest e.0 (new_job e.0 _ runs.job.is))
      (IsRunning-next w stored p points next now starts.keeps old.anchor old.cache e.0 e.1 runs)

  pub no_run : at old.runs old.next_job ≡ None
  no_run = go (at old.runs old.next_job) refl
    where
      go : (o : Option (LiveRun B R)) → at old.runs old.next_job ≡ o → o ≡ None
      go None is = refl
      go (Some run) is =
          let runs = All-at (λ (e : ℕ × LiveRun B R). IsRunning w stored p points next old.anchor old.cache e.0 e.1) old.runs old.next_job run is s.runs.each in
          absurd (new_job old.next_job _ runs.job.is refl)

  complete : (j : ℕ) (d : Digest) → IsLiveJob j Candidate d given → IsSome (at (put old.runs old.next_job live) j)
  complete j d h = go (j == old.next_job) refl
    where
      go : (v : Bool) → (j == old.next_job) ≡ v → IsSome (at (put old.runs old.next_job live) j)
      go true same = subst (λ k. IsSome (at (put old.runs old.next_job live) k)) (sym (eqb-true j old.next_job same)) (rw (put_here old.runs old.next_job live) refl)
      go false other = subst (λ o. IsSome o) (sym (put_other old.runs old.next_job j live (eqb-false j old.next_job other))) (s.runs.complete j d (record { live = rw other at h.live; is = rw other at h.is }))

  -- the live runs stand with the run that is started
  pub RunsStand-starts : RunsStand w stored given points now old.anchor old.cache (put old.runs old.next_job live)
  RunsStand-starts = record {
    ascending = sorted_put old.runs old.next_job live s.runs.ascending;
    each = All-put (λ (e : ℕ × LiveRun B R). IsRunning w stored given points now old.anchor old.cache e.0 e.1) old.runs old.next_job live others (is_running (on_chain w stored p points point next old s now members located drawn (λ q c. IsFresh w starts.run finality.Candidate b parent next q c) parent.digest starts.over));
    apart = AllPairs-put (λ (e f : ℕ × LiveRun B R). e.1.block.digest ≢ f.1.block.digest) old.runs old.next_job live no_run s.runs.apart
        (All-weaker (λ (e : ℕ × LiveRun B R). e.1.block.digest ≢ b.digest) (λ e. b.digest ≢ e.1.block.digest) (λ e ne same. ne (sym same)) old.runs unrun) unrun;
    complete = complete;
  }

  -- the cache stands behind the start
  pub CacheStands-starts : CacheStands w stored given points now old.anchor old.pause old.cache
  CacheStands-starts = CacheStands-calm w stored p (Made (Started old.next_job Candidate b.digest)) calm points now old.anchor old.pause old.cache
      (CacheStands-next w stored p points next now starts.keeps old.anchor old.pause old.cache s.cache)
