-- An item that says nothing of what the tables hold leaves what they stand for.
use Rattle.std.proofs.Common.{◌↔◌, inl, inr, ℕ, List, ◌∷◌, All, Option, get_or, sym, ◌∙◌}
use Rattle.stateful_base.specs.Names.{Named}
use Rattle.stateful_base.specs.declared.anchor.Anchor.{Anchor}
use Rattle.stateful_base.specs.declared.digest.Digest.{Digest}
use Rattle.stateful_history.specs.Past.{Past, Item}
use Rattle.stateful_history.specs.Jobs.{IsLiveJob}
use Rattle.stateful_history.specs.Joined.{WasBuilt}
use Rattle.stateful_history.specs.Known.{Known}
use Rattle.stateful_history.specs.declared.mark.JobKind.TheVariants.{Candidate}
use Rattle.stateful_exec_cache.specs.declared.cache.Cached.{Cached}
use Rattle.stateful_exec_model.specs.Workings.{Workings, Point}
use Rattle.stateful_exec_tables.specs.declared.state.Tables.{Tables}
use Rattle.stateful_exec_laws.specs.Setting.{setting}
use Rattle.stateful_exec_laws.specs.Chains.{Leads}
use Rattle.stateful_exec_laws.specs.Standing.{NumbersStand, TablesStand}
use Rattle.stateful_exec_laws.proofs.requests.Calm.{IsCalm, LeavesJob, Known-calm, Known-before}
use Rattle.stateful_exec_laws.proofs.requests.Asking.{LeavesTicket, LeavesFetch, IsStanding-calm}
use Rattle.stateful_exec_laws.proofs.ended.Runs.{Moves, IsCached-moved, IsRunning-moved}
use Rattle.stateful_exec_laws.proofs.ended.Points.{Moves-same}
use Rattle.stateful_exec_laws.proofs.ended.Stands.{entry_at_hand}

module _ {B C I P R D H G U : Type 0} (w : Workings B C I P R D H G U) (stored : ℕ → Option (Named B)) (p : Past B C I) (x : Item B C I) where
  -- the same blocks are known
  abbrev pub KnowsSame : Type 0
  KnowsSame = (d : Digest) → Known (setting w stored) (x ∷ p) d ↔ Known (setting w stored) p d

  pub knows-calm : IsCalm (setting w stored) p x → KnowsSame
  knows-calm calm d = (λ k. Known-before (setting w stored) k calm, λ k. Known-calm (setting w stored) k x calm)

  -- The item says nothing of a live run, a request or a queued build, starts and ends no candidate run, and leaves what is
  -- known, the fetches and the numbers.
  pub record Spares (v : Tables B C I R U) : Type 0 where
    pub built : (d : Digest) → WasBuilt p d → WasBuilt (x ∷ p) d
    pub known : KnowsSame
    pub runs : All (λ e. LeavesJob p x e.0) v.runs
    pub candidates : (j : ℕ) (d : Digest) → IsLiveJob j Candidate d (x ∷ p) → IsLiveJob j Candidate d p
    pub requests : All (λ e. LeavesTicket p x e.0) v.requests
    pub queued : All (λ e. LeavesTicket p x e.0) v.queued
    pub fetches : (f : ℕ) → LeavesFetch p x f
    pub numbers : NumbersStand p v.next_job v.next_fetch → NumbersStand (x ∷ p) v.next_job v.next_fetch

  module _ (built : (d : Digest) → WasBuilt p d → WasBuilt (x ∷ p) d) where
    pub Leads-longer : (t : w.States) (b : Named B) (u : w.States) → Leads w stored p t b u → Leads w stored (x ∷ p) t b u
    Leads-longer t b u l = record { met = inr l.met; matches = l.matches; earned = elim l.earned [ inl a ↦ inl a | inr was ↦ inr (built b.digest was) ] }

    -- all is over the same points
    pub Moves-longer : (points : Digest → Point w) (anchor : Anchor) (cache : List (Cached U)) → Moves w stored p (x ∷ p) points points anchor cache
    Moves-longer points anchor cache = Moves-same w stored p (x ∷ p) (λ b m. inr m) Leads-longer points anchor cache

  module _ (points : Digest → Point w) (point : Point w) (next : w.Ids) (v : Tables B C I R U) where
    -- the tables stand behind such an item
    pub TablesStand-spared : Spares v → TablesStand w stored p points point next v → TablesStand w stored (x ∷ p) points point next v
    TablesStand-spared h s =
        let moves : Moves w stored p (x ∷ p) points points v.anchor v.cache = Moves-longer h.built points v.anchor v.cache in
        record {
          at_anchor = s.at_anchor;
          cache = record {
            each = λ k d l. IsCached-moved w stored p (x ∷ p) points points v.anchor v.cache moves next (get_or v.cache k d) (entry_at_hand v.anchor v.cache k d l) (s.cache.each k d l);
            in_order = s.cache.in_order;
            knows = λ d. (λ k. (s.cache.knows d).0 ((h.known d).0 k), λ b. (h.known d).1 ((s.cache.knows d).1 b));
          };
          runs = record {
            ascending = s.runs.ascending;
            each = λ k d l.
                let e = get_or v.runs k d in
                let same = h.runs k d l in
                IsRunning-moved w stored p (x ∷ p) points points v.anchor v.cache moves next v.cache (λ c at_hand. at_hand) e.0 e.1 same.live same.started same.turns (s.runs.each k d l);
            apart = s.runs.apart;
            complete = λ j d live. s.runs.complete j d (h.candidates j d live);
          };
          requests = record {
            ascending = s.requests.ascending;
            each = λ k d l.
                let e = get_or v.requests k d in
                IsStanding-calm w stored p x v.runs e.0 e.1 (h.requests k d l) (λ f is. h.fetches f) (s.requests.each k d l);
            fetches = λ f t live asked. let same = h.fetches f in s.requests.fetches f t (sym same.live ∙ live) (sym same.asked ∙ asked);
            wanted = s.requests.wanted;
          };
          once = s.once;
          queue = record {
            each = λ k d l. let q = s.queue.each k d l in let same = h.queued k d l in record { live = same.live ∙ q.live; proposes = same.proposed ∙ q.proposes };
            ready = s.queue.ready;
          };
          numbers = h.numbers s.numbers;
        }
