-- The tables stand after the end of a run: one that isn't kept, and one whose block was known.
use Rattle.std.proofs.Common.{◌≡◌, ◌≢◌, ◌<◌, ◌≤◌, ◌↔◌, ◌+◌, ◌==◌, Bool, true, false, if◌then◌else◌, arith, length, get_or, inl, inr, ℕ, List, ◌∷◌, All, AllPairs, Option, Some, None, refl, sym, ◌∙◌, subst}
use Rattle.std.proofs.lemmas.Bool.{eqb-true}
use Rattle.std.proofs.lemmas.List.Elements.{Contains-get_or}
use Rattle.stateful_base.specs.Names.{Named}
use Rattle.stateful_base.specs.declared.anchor.Anchor.{Anchor}
use Rattle.stateful_base.specs.declared.digest.Digest.{Digest}
use Rattle.stateful_history.specs.Past.{Past, Came, Made}
use Rattle.stateful_history.specs.Asked.{started, kept_by}
use Rattle.stateful_history.specs.Jobs.{job_of, turns}
use Rattle.stateful_history.specs.Known.{Known}
use Rattle.stateful_history.specs.declared.event.Event.TheVariants.{Turn}
use Rattle.stateful_history.specs.declared.mark.How.{How}
use Rattle.stateful_history.specs.declared.mark.How.TheVariants.{Kept}
use Rattle.stateful_history.specs.declared.mark.JobKind.TheVariants.{Candidate}
use Rattle.stateful_history.specs.declared.mark.Mark.TheVariants.{Ended}
use Rattle.stateful_exec_cache.specs.Cache.{IsAtHand}
use Rattle.stateful_exec_cache.specs.declared.cache.Cached.{Cached}
use Rattle.stateful_table.specs.Table.{at, without}
use Rattle.stateful_exec_tables.specs.Phase.{not_on, released_on}
use Rattle.stateful_exec_model.specs.Workings.{Workings, Point}
use Rattle.stateful_exec_pause.specs.declared.pause.Pause.{Pause}
use Rattle.stateful_exec_tables.specs.declared.state.Tables.{Tables}
use Rattle.stateful_exec_tables.specs.declared.tables.LiveRun.{LiveRun}
use Rattle.stateful_exec_laws.specs.Setting.{setting}
use Rattle.stateful_exec_laws.specs.Caching.{IsKnownBy, CacheStands}
use Rattle.stateful_exec_laws.specs.Running.{IsRunning, RunsStand}
use Rattle.stateful_exec_laws.specs.Standing.{TablesStand}
use Rattle.stateful_exec_laws.proofs.requests.Calm.{CacheStands-calm}
use Rattle.stateful_exec_laws.proofs.runs.Removing.{All-at}
use Rattle.stateful_exec_laws.proofs.ended.Left.{released_apart}
use Rattle.stateful_exec_laws.proofs.ended.Requests.{IsTakenOut, RequestsStand-turned, left_before, released-IsTakenOut, QueueStands-turned}
use Rattle.stateful_exec_laws.proofs.ended.Runs.{Moves, IsCached-moved, RunsStand-turned}
use Rattle.stateful_exec_laws.proofs.ended.Known.{started-by, turn-IsCalm, Known-turned, Known-turned_before}
use Rattle.stateful_exec_laws.proofs.ended.Points.{Moves-turned}

-- each entry is at hand
pub entry_at_hand : {U : Type 0} (anchor : Anchor) (cache : List (Cached U)) (k : ℕ) (d : Cached U) → k < length cache → IsAtHand anchor cache (get_or cache k d).digest
entry_at_hand anchor cache k d l = let c = Contains-get_or cache k d l in inr (c.0, get_or cache k d, c.1, c.2, refl)

-- without the run of a job and the requests that waited for it, with this cache and this pause
abbrev pub left : {B C I R U : Type 0} → Tables B C I R U → ℕ → List (Cached U) → Pause → Tables B C I R U
left old j cache pause = record old { cache = cache; runs = without old.runs j; requests = not_on j old.requests; pause = pause }

module _ {B C I P R D H G U : Type 0} (w : Workings B C I P R D H G U) (stored : ℕ → Option (Named B)) (p : Past B C I) (point : Point w) (next : w.Ids) (old : Tables B C I R U) (j : ℕ) (live : LiveRun B R) (how : How) where
  abbrev pub ended : Past B C I
  ended = Made (Ended j how) ∷ Came (Turn j) ∷ p

  -- What stands after the end of the run of a job, with this cache and this pause: the tables over some points, to which what was
  -- at hand has gone over from these; and the requests that waited for it are in hand, each of another ticket.
  pub record IsLeftBy (before : Digest → Point w) (cache : List (Cached U)) (pause : Pause) : Type 0 where
    pub points : Digest → Point w
    pub moves : Moves w stored p ended before points old.anchor old.cache
    pub tables : TablesStand w stored ended points point next (left old j cache pause)
    pub released : All (IsTakenOut w stored ended (not_on j old.requests) old.queued live.block) (released_on j old.requests)
    pub apart : AllPairs (λ r s. r.ticket ≢ s.ticket) (released_on j old.requests)

module _ {B C I P R D H G U : Type 0} (w : Workings B C I P R D H G U) (stored : ℕ → Option (Named B)) (p : Past B C I) (points : Digest → Point w) (point : Point w) (next : w.Ids) (old : Tables B C I R U) (s : TablesStand w stored p points point next old) (j : ℕ) (live : LiveRun B R) (live_is : at old.runs j ≡ Some live) where
  pub running : IsRunning w stored p points next old.anchor old.cache j live
  running = All-at (λ (e : ℕ × LiveRun B R). IsRunning w stored p points next old.anchor old.cache e.0 e.1) old.runs j live live_is s.runs.each

  pub started-own : started j p ≡ Some live.block.digest
  started-own = started-by j p ∙ rw running.job.is refl

  -- no later job has had a turn
  unturned_later : (k : ℕ) → old.next_job ≤ k → turns k (Came (Turn j) ∷ p) ≡ 0
  unturned_later k later = go (k == j) refl
    where
      drawn : j < old.next_job
      drawn = s.numbers.jobs j (λ none. let no : Some (job_of Candidate live.block.digest) ≡ None = sym running.job.is ∙ none in cc)

      go : (b : Bool) → (k == j) ≡ b → (if b then turns k p + 1 else turns k p) ≡ 0
      go true same = let e = eqb-true k j same in let no : ⊥ = omega (arith, drawn, later, e) in absurd no
      go false is = s.numbers.unturned k later

  module _ (how : How) where
    -- where the cache and the runs that are left stand, so do the tables
    pub IsLeftBy-from : (now : Digest → Point w) → Moves w stored p (ended w stored p point next old j live how) points now old.anchor old.cache → (cache : List (Cached U)) (pause : Pause) → now old.anchor.digest ≡ point
        → CacheStands w stored (ended w stored p point next old j live how) now next old.anchor pause cache
        → RunsStand w stored (ended w stored p point next old j live how) now next old.anchor cache (without old.runs j) → IsLeftBy w stored p point next old j live how points cache pause
    IsLeftBy-from now moves cache pause at_anchor caches runs = record {
      points = now;
      moves = moves;
      tables = record {
        at_anchor = at_anchor;
        cache = caches;
        runs = runs;
        requests = RequestsStand-turned w stored p old.runs old.requests s.requests j how;
        once = λ t some. s.once t (left_before w stored p old.runs old.requests s.requests j how t some);
        queue = QueueStands-turned w stored p old.runs old.requests s.requests j how old.queued old.recovered s.queue;
        numbers = record { jobs = s.numbers.jobs; unturned = unturned_later; fetches = s.numbers.fetches };
      };
      released = released-IsTakenOut w stored p old.runs old.requests s.requests j how old.queued s.once live live_is running.met;
      apart = released_apart j old.requests s.requests.ascending;
    }

    runs-same : RunsStand w stored (ended w stored p point next old j live how) points next old.anchor old.cache (without old.runs j)
    runs-same = RunsStand-turned w stored p points points next old.anchor old.cache old.cache j how (Moves-turned w stored p j how points old.anchor old.cache) (λ d at_hand. at_hand) old.runs s.runs

    -- after the end of a run that isn't kept
    pub IsLeftBy-gone : kept_by (Came (Turn j) ∷ p) (Made (Ended j how)) ≡ None → IsLeftBy w stored p point next old j live how points old.cache old.pause
    IsLeftBy-gone none =
        IsLeftBy-from points (Moves-turned w stored p j how points old.anchor old.cache) old.cache old.pause s.at_anchor
        (CacheStands-calm w stored (Came (Turn j) ∷ p) (Made (Ended j how)) (record { tip = refl; starts_none = tt; built = λ d h. h; kept = none }) points next old.anchor old.pause old.cache
        (CacheStands-calm w stored p (Came (Turn j)) (turn-IsCalm (setting w stored) p j) points next old.anchor old.pause old.cache s.cache))
        runs-same

  -- after the end of a run that is kept and adds nothing, where nothing becomes known
  pub IsLeftBy-there : ((d : Digest) → Known (setting w stored) (ended w stored p point next old j live Kept) d → IsKnownBy old.pause old.anchor old.cache d) → IsLeftBy w stored p point next old j live Kept points old.cache old.pause
  IsLeftBy-there known = IsLeftBy-from Kept points (Moves-turned w stored p j Kept points old.anchor old.cache) old.cache old.pause s.at_anchor caches (runs-same Kept)
    where
      caches : CacheStands w stored (ended w stored p point next old j live Kept) points next old.anchor old.pause old.cache
      caches = record {
        each = λ k d l. IsCached-moved w stored p (ended w stored p point next old j live Kept) points points old.anchor old.cache (Moves-turned w stored p j Kept points old.anchor old.cache) next _ (entry_at_hand old.anchor old.cache k d l) (s.cache.each k d l);
        in_order = s.cache.in_order;
        knows = λ d. (known d, λ b. Known-turned (setting w stored) p d j Kept ((s.cache.knows d).1 b));
      }

  -- after the end of a run that is kept, of a block that was known
  pub IsLeftBy-known : Known (setting w stored) p live.block.digest → IsLeftBy w stored p point next old j live Kept points old.cache old.pause
  IsLeftBy-known known = IsLeftBy-there (λ d k. (s.cache.knows d).0 (elim (Known-turned_before (setting w stored) p d live.block.digest j started-own k) [
    | inl e ↦ subst (λ (x : Digest). Known (setting w stored) p x) (sym e) known
    | inr before ↦ before
  ]))

  -- what stands with a pause stands with another one that tells the same blocks
  pub IsLeftBy-pause : (how : How) (cache : List (Cached U)) (pause other : Pause) → ((d : Digest) → IsKnownBy pause old.anchor cache d ↔ IsKnownBy other old.anchor cache d)
      → IsLeftBy w stored p point next old j live how points cache pause → IsLeftBy w stored p point next old j live how points cache other
  IsLeftBy-pause how cache pause other same h = let t = h.tables in record {
    points = h.points;
    moves = h.moves;
    tables = record {
      at_anchor = t.at_anchor;
      cache = record { each = t.cache.each; in_order = t.cache.in_order; knows = λ d. (λ k. (same d).0 ((t.cache.knows d).0 k), λ b. (t.cache.knows d).1 ((same d).1 b)) };
      runs = t.runs;
      requests = t.requests;
      once = t.once;
      queue = t.queue;
      numbers = t.numbers;
    };
    released = h.released;
    apart = h.apart;
  }
