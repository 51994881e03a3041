-- What comes under a ticket tells of it alone, and so does what answers it; barriers and prunes tell of none.
use Rattle.std.proofs.Common.{ℕ, Bool, Option, refl, sym, ◌∙◌}
use Rattle.stateful_base.specs.Names.{Named}
use Rattle.stateful_base.specs.declared.block.Ancestry.{Ancestry}
use Rattle.stateful_base.specs.declared.number.Height.{Height}
use Rattle.stateful_history.specs.Setting.{Setting}
use Rattle.stateful_history.specs.Past.{Past, Item, Came, Made}
use Rattle.stateful_history.specs.declared.event.Event.TheVariants.{Verify, Prepare, Propose, Subscribe, Finalized}
use Rattle.stateful_history.specs.declared.mark.Mark.TheVariants.{Acknowledged, Databases, BarrierBegun, BarrierDone, Pruned}
use Rattle.stateful_exec_model.specs.Workings.{Workings}
use Rattle.stateful_exec_tables.specs.declared.state.Tables.{Tables}
use Rattle.stateful_exec_laws.specs.Setting.{setting}
use Rattle.stateful_exec_laws.proofs.requests.Calm.{IsCalm, LeavesJob}
use Rattle.stateful_exec_laws.proofs.requests.Asking.{LeavesTicket, LeavesFetch}
use Rattle.stateful_exec_laws.proofs.ended.ConcludeStands.{TellsOf}
use Rattle.stateful_exec_laws.proofs.runs.Removing.{differ}
use Rattle.stateful_exec_laws.proofs.runs.Spared.{Spares, knows-calm}

module _ {B C I S T : Type 0} (s : Setting B S T) (p : Past B C I) (t : ℕ) where
  -- what comes under a ticket tells of it alone
  pub verify-TellsOf : (ancestry : Ancestry B) → TellsOf s p (Came (Verify t ancestry)) t
  verify-TellsOf ancestry = record {
    calm = record { tip = refl; starts_none = tt; built = λ d h. h; kept = refl };
    jobs = λ j. record { live = refl; started = refl; turns = refl };
    tickets = λ u ne. record { live = rw (differ u t (λ e. ne (sym e))) refl; verified = rw (differ u t (λ e. ne (sym e))) refl; proposed = refl };
    fetches = λ f. record { live = refl; asked = refl };
    abstains = λ u b a. a;
  }

  pub prepare-TellsOf : (context : C) (ancestry : Ancestry B) (input : I) → TellsOf s p (Came (Prepare t context ancestry input)) t
  prepare-TellsOf context ancestry input = record {
    calm = record { tip = refl; starts_none = tt; built = λ d h. h; kept = refl };
    jobs = λ j. record { live = refl; started = refl; turns = refl };
    tickets = λ u ne. record { live = rw (differ u t (λ e. ne (sym e))) refl; verified = refl; proposed = rw (differ u t (λ e. ne (sym e))) refl };
    fetches = λ f. record { live = refl; asked = refl };
    abstains = λ u b a. a;
  }

  pub propose-TellsOf : (context : C) (ancestry : Ancestry B) (input : I) → TellsOf s p (Came (Propose t context ancestry input)) t
  propose-TellsOf context ancestry input = record {
    calm = record { tip = refl; starts_none = tt; built = λ d h. h; kept = refl };
    jobs = λ j. record { live = refl; started = refl; turns = refl };
    tickets = λ u ne. record { live = rw (differ u t (λ e. ne (sym e))) refl; verified = refl; proposed = rw (differ u t (λ e. ne (sym e))) refl };
    fetches = λ f. record { live = refl; asked = refl };
    abstains = λ u b a. a;
  }

  pub subscribe-TellsOf : TellsOf s p (Came (Subscribe t)) t
  subscribe-TellsOf = record {
    calm = record { tip = refl; starts_none = tt; built = λ d h. h; kept = refl };
    jobs = λ j. record { live = refl; started = refl; turns = refl };
    tickets = λ u ne. record { live = rw (differ u t (λ e. ne (sym e))) refl; verified = refl; proposed = refl };
    fetches = λ f. record { live = refl; asked = refl };
    abstains = λ u b a. a;
  }

  pub finalized-TellsOf : (b : Named B) → TellsOf s p (Came (Finalized t b)) t
  finalized-TellsOf b = record {
    calm = record { tip = refl; starts_none = tt; built = λ d h. h; kept = refl };
    jobs = λ j. record { live = refl; started = refl; turns = refl };
    tickets = λ u ne. record { live = rw (differ u t (λ e. ne (sym e))) refl; verified = refl; proposed = refl };
    fetches = λ f. record { live = refl; asked = refl };
    abstains = λ u c a. a;
  }

  -- and so does what answers a receipt or a subscription
  pub acknowledged-TellsOf : (height : Height) → TellsOf s p (Made (Acknowledged t height)) t
  acknowledged-TellsOf height = record {
    calm = record { tip = refl; starts_none = tt; built = λ d h. h; kept = refl };
    jobs = λ j. record { live = refl; started = refl; turns = refl };
    tickets = λ u ne. record { live = rw (differ u t (λ e. ne (sym e))) refl; verified = refl; proposed = refl };
    fetches = λ f. record { live = refl; asked = refl };
    abstains = λ u b a. a;
  }

  pub databases-TellsOf : TellsOf s p (Made (Databases t)) t
  databases-TellsOf = record {
    calm = record { tip = refl; starts_none = tt; built = λ d h. h; kept = refl };
    jobs = λ j. record { live = refl; started = refl; turns = refl };
    tickets = λ u ne. record { live = rw (differ u t (λ e. ne (sym e))) refl; verified = refl; proposed = refl };
    fetches = λ f. record { live = refl; asked = refl };
    abstains = λ u b a. a;
  }

-- the item says nothing of jobs, tickets and fetches, and neither opens nor finalizes anything
pub record IsSilent {B C I S T : Type 0} (s : Setting B S T) (p : Past B C I) (x : Item B C I) : Type 0 where
  pub calm : IsCalm s p x
  pub jobs : (j : ℕ) → LeavesJob p x j
  pub tickets : (t : ℕ) → LeavesTicket p x t
  pub fetches : (f : ℕ) → LeavesFetch p x f

module _ {B C I S T : Type 0} (s : Setting B S T) (p : Past B C I) where
  -- barriers and prunes say nothing of execution
  pub begun-IsSilent : (k : ℕ) (height : Height) → IsSilent s p (Made (BarrierBegun k height))
  begun-IsSilent k height = record {
    calm = record { tip = refl; starts_none = tt; built = λ d h. h; kept = refl };
    jobs = λ j. record { live = refl; started = refl; turns = refl };
    tickets = λ t. record { live = refl; verified = refl; proposed = refl };
    fetches = λ f. record { live = refl; asked = refl };
  }

  pub done-IsSilent : (k : ℕ) (height : Height) (good : Bool) → IsSilent s p (Made (BarrierDone k height good))
  done-IsSilent k height good = record {
    calm = record { tip = refl; starts_none = tt; built = λ d h. h; kept = refl };
    jobs = λ j. record { live = refl; started = refl; turns = refl };
    tickets = λ t. record { live = refl; verified = refl; proposed = refl };
    fetches = λ f. record { live = refl; asked = refl };
  }

  pub pruned-IsSilent : (marshal target : Height) → IsSilent s p (Made (Pruned marshal target))
  pruned-IsSilent marshal target = record {
    calm = record { tip = refl; starts_none = tt; built = λ d h. h; kept = refl };
    jobs = λ j. record { live = refl; started = refl; turns = refl };
    tickets = λ t. record { live = refl; verified = refl; proposed = refl };
    fetches = λ f. record { live = refl; asked = refl };
  }

module _ {B C I P R D H G U : Type 0} (w : Workings B C I P R D H G U) (stored : ℕ → Option (Named B)) (p : Past B C I) where
  -- the tables stand behind what is silent
  pub silent-Spares : (x : Item B C I) → IsSilent (setting w stored) p x → (v : Tables B C I R U) → Spares w stored p x v
  silent-Spares x h v = record {
    built = h.calm.built;
    known = knows-calm w stored p x h.calm;
    runs = λ k d l. h.jobs _;
    candidates = λ j d live. let same = h.jobs j in record { live = sym same.live ∙ live.live; is = sym same.started ∙ live.is };
    requests = λ k d l. h.tickets _;
    queued = λ k d l. h.tickets _;
    fetches = h.fetches;
    numbers = λ n. record {
      jobs = λ j some. n.jobs j (λ none. some ((h.jobs j).started ∙ none));
      unturned = λ j later. (h.jobs j).turns ∙ n.unturned j later;
      fetches = λ f some. n.fetches f (λ none. some ((h.fetches f).asked ∙ none));
    };
  }
