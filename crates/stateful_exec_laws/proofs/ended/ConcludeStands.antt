-- The tables stand after the end of a request.
use Rattle.std.proofs.Common.{◌≡◌, ◌≢◌, ◌==◌, ◌++◌, ℕ, Bool, true, false, [], ◌∷◌, Option, None, IsSome, get_or, refl, sym, ◌∙◌, subst}
use Rattle.std.proofs.lemmas.Bool.{eqb-true, eqb-false}
use Rattle.std.proofs.lemmas.List.Elements.{All-push, All-weaker}
use Rattle.stateful_base.specs.Names.{Named}
use Rattle.stateful_base.specs.declared.digest.Digest.{Digest}
use Rattle.stateful_history.specs.Past.{Past, Item, Made, after}
use Rattle.stateful_history.specs.Fetches.{Abstains}
use Rattle.stateful_history.specs.Requests.{IsLiveProposal}
use Rattle.stateful_history.specs.declared.mark.Mark.TheVariants.{Verdict, Declined}
use Rattle.stateful_table.specs.Table.{at, put}
use Rattle.stateful_exec_tables.specs.Tables.{told, ended}
use Rattle.stateful_exec_model.specs.Workings.{Workings, Point}
use Rattle.stateful_exec_walk.specs.declared.request.Proposal.{Proposal}
use Rattle.stateful_exec_walk.specs.declared.request.Request.{Request}
use Rattle.stateful_exec_walk.specs.declared.request.Request.TheVariants.{Verify, Recover}
use Rattle.stateful_exec_walk.specs.declared.request.Verdict.TheVariants as verdict
use Rattle.stateful_exec_walk.specs.declared.request.Verdict.{Verdict as Verdicts}
use Rattle.stateful_exec_tables.specs.declared.state.Tables.{Tables}
use Rattle.stateful_exec_laws.specs.Setting.{setting}
use Rattle.stateful_exec_laws.specs.Standing.{TablesStand, IsInHand}
use Rattle.stateful_exec_laws.proofs.requests.Calm.{IsCalm, LeavesJob, CacheStands-calm, RunsStand-calm}
use Rattle.stateful_exec_laws.proofs.requests.Asking.{LeavesTicket, LeavesFetch, IsStanding-calm}
use Rattle.stateful_exec_laws.proofs.runs.Removing.{differ, none_at}
use Rattle.stateful_exec_laws.proofs.requests.Putting.{All-put, put_here, put_other}

-- the item tells of a ticket alone
pub record TellsOf {B C I S T : Type 0} (s : _) (p : Past B C I) (x : Item B C I) (t : ℕ) : Type 0 where
  pub calm : IsCalm {S = S} {T = T} s p x
  pub jobs : (j : ℕ) → LeavesJob p x j
  pub tickets : (u : ℕ) → u ≢ t → LeavesTicket p x u
  pub fetches : (f : ℕ) → LeavesFetch p x f
  pub abstains : (u : ℕ) (b : Named B) → Abstains s u p b → Abstains s u (x ∷ p) b

module _ {B C I S T : Type 0} (s : _) (p : Past B C I) (t : ℕ) where
  pub verdict-TellsOf : (valid : Bool) → TellsOf {S = S} {T = T} s p (Made (Verdict t valid)) t
  verdict-TellsOf valid = record {
    calm = record { tip = refl; starts_none = tt; built = λ d h. h; kept = refl };
    jobs = λ j. record { live = refl; started = refl; turns = refl };
    tickets = λ u ne. record { live = rw (differ u t (λ e. ne (sym e))) refl; verified = refl; proposed = refl };
    fetches = λ f. record { live = refl; asked = refl };
    abstains = λ u b a. a;
  }

  pub declined-TellsOf : TellsOf {S = S} {T = T} s p (Made (Declined t)) t
  declined-TellsOf = record {
    calm = record { tip = refl; starts_none = tt; built = λ d h. h; kept = refl };
    jobs = λ j. record { live = refl; started = refl; turns = refl };
    tickets = λ u ne. record { live = rw (differ u t (λ e. ne (sym e))) refl; verified = refl; proposed = refl };
    fetches = λ f. record { live = refl; asked = refl };
    abstains = λ u b a. a;
  }

module _ {B C I P R D H G U : Type 0} (w : Workings B C I P R D H G U) (stored : ℕ → Option (Named B)) (p : Past B C I) (points : Digest → Point w) (point : Point w) (next : w.Ids) (old : Tables B C I R U) (t : ℕ) (s : TablesStand w stored p points point next old) where
  -- the tables stand behind an item that tells of a ticket that is in none of them
  pub TablesStand-told : (x : Item B C I) → TellsOf (setting w stored) p x t → at old.requests t ≡ None → at old.queued t ≡ None → TablesStand w stored (x ∷ p) points point next old
  TablesStand-told x tells absent not_queued = record {
    at_anchor = s.at_anchor;
    cache = CacheStands-calm w stored p x tells.calm points next old.anchor old.pause old.cache s.cache;
    runs = RunsStand-calm w stored p x tells.calm points next old.anchor old.cache tells.jobs old.runs s.runs;
    requests = record {
      ascending = s.requests.ascending;
      each = λ k d l.
          let e = get_or old.requests k d in
          IsStanding-calm w stored p x old.runs e.0 e.1 (tells.tickets e.0 (none_at old.requests t absent k d l)) (λ f is. tells.fetches f) (s.requests.each k d l);
      fetches = λ f u live asked. s.requests.fetches f u (sym (tells.fetches f).live ∙ live) (sym (tells.fetches f).asked ∙ asked);
      wanted = s.requests.wanted;
    };
    once = s.once;
    queue = record {
      each = λ k d l. let e = s.queue.each k d l in let same = tells.tickets _ (none_at old.queued t not_queued k d l) in record { live = same.live ∙ e.live; proposes = same.proposed ∙ e.proposes };
      ready = s.queue.ready;
    };
    numbers = record {
      jobs = λ j some. s.numbers.jobs j (λ none. some ((tells.jobs j).started ∙ none));
      unturned = λ j l. (tells.jobs j).turns ∙ s.numbers.unturned j l;
      fetches = λ f some. s.numbers.fetches f (λ none. some ((tells.fetches f).asked ∙ none));
    };
  }

  -- a proposal in hand is queued
  pub TablesStand-queued : (proposal : Proposal B C I) → at old.requests t ≡ None → IsLiveProposal t p (record { kind = proposal.kind; context = proposal.context; parent = proposal.ancestry.first; input = proposal.input })
      → TablesStand w stored p points point next (record old { queued = put old.queued t proposal; recovered = old.recovered ++ t ∷ [] })
  TablesStand-queued proposal absent live = record {
    at_anchor = s.at_anchor;
    cache = s.cache;
    runs = s.runs;
    requests = s.requests;
    once = once;
    queue = record {
      each = All-put (λ (e : ℕ × Proposal B C I). IsLiveProposal e.0 p (record { kind = e.1.kind; context = e.1.context; parent = e.1.ancestry.first; input = e.1.input })) old.queued t proposal s.queue.each live;
      ready = All-push (λ u. IsSome (at (put old.queued t proposal) u)) old.recovered t
          (All-weaker (λ u. IsSome (at old.queued u)) (λ u. IsSome (at (put old.queued t proposal) u)) (λ u some. still u some (u == t) refl) old.recovered s.queue.ready) (rw (put_here old.queued t proposal) refl);
    };
    numbers = s.numbers;
  }
    where
      once : (u : ℕ) → IsSome (at old.requests u) → at (put old.queued t proposal) u ≡ None
      once u some = go (u == t) refl
        where
          go : (b : Bool) → (u == t) ≡ b → at (put old.queued t proposal) u ≡ None
          go true is = let here : IsSome (at old.requests t) = subst (λ k. IsSome (at old.requests k)) (eqb-true u t is) some in let off = rw absent at here in cc
          go false is = put_other old.queued t u proposal (eqb-false u t is) ∙ s.once u some

      still : (u : ℕ) → IsSome (at old.queued u) → (b : Bool) → (u == t) ≡ b → IsSome (at (put old.queued t proposal) u)
      still u some true is = subst (λ k. IsSome (at (put old.queued t proposal) k)) (sym (eqb-true u t is)) (rw (put_here old.queued t proposal) refl)
      still u some false is = subst (λ o. IsSome o) (sym (put_other old.queued t u proposal (eqb-false u t is))) some

  -- the tables stand after the end of a request in hand
  pub TablesStand-concludes : (request : Request B C I) (v : Verdicts) → IsInHand w stored p t request old → TablesStand w stored (after p (told t request v)) points point next (ended old t request v)
  TablesStand-concludes (Verify u ancestry) verdict.Valid hand = TablesStand-told (Made (Verdict t true)) (verdict-TellsOf (setting w stored) p t true) hand.absent hand.not_queued
  TablesStand-concludes (Verify u ancestry) verdict.Invalid hand = TablesStand-told (Made (Verdict t false)) (verdict-TellsOf (setting w stored) p t false) hand.absent hand.not_queued
  TablesStand-concludes (Recover u context ancestry input kind) verdict.Valid hand = TablesStand-queued (record { context = context; ancestry = ancestry; input = input; kind = kind }) hand.absent hand.asked
  TablesStand-concludes (Recover u context ancestry input kind) verdict.Invalid hand = TablesStand-told (Made (Declined t)) (declined-TellsOf (setting w stored) p t) hand.absent hand.not_queued
