-- The pasts that a register stands for.
use Rattle.std.specs.Prelude.{◌≡◌, ℕ, ◌+◌, true, false, is_some, Option, Some, None, List, []}
use Rattle.std.specs.Prelude.{Contains}
use Rattle.std.specs.List.{fold}
use Rattle.stateful_history.specs.Past.{Past}
use Rattle.stateful_history.specs.Opening.{is_down}
use Rattle.stateful_history.specs.Live.{live_ticket, live_job, live_fetch, live_flush, bound_of}
use Rattle.stateful_history.specs.Live.{seeking}
use Rattle.stateful_actor_register.specs.Change.{ticket_after, proposal_after, job_after, fetch_after}
use Rattle.stateful_actor_register.specs.Change.{bound_after, down_after}
use Rattle.stateful_actor_register.specs.Flushes.{is_waiting}
use Rattle.stateful_actor_register.specs.Live.{entry, HasRoom}
use Rattle.stateful_actor_register.specs.Proposals.{live_proposal}
use Rattle.stateful_actor_register.specs.declared.change.Change.{Change}
use Rattle.stateful_actor_register.specs.declared.change.Change.TheVariants.{Opens, Proposes, Asks}
use Rattle.stateful_actor_register.specs.declared.change.Change.TheVariants.{StartsJob}
use Rattle.stateful_actor_register.specs.declared.register.Register.{Register}

-- the least number above the last ticket
abbrev pub above : Option ℕ → ℕ
above None = 0
above (Some t) = t + 1

-- nothing is live, each ticket is new, and the machine is down
pub record IsBlank (r : Register) : Type 0 where
  pub tickets : (t : ℕ) → entry r.tickets t ≡ None
  pub proposals : (t : ℕ) → is_some (entry r.proposals t) ≡ false
  pub jobs : (j : ℕ) → is_some (entry r.jobs j) ≡ false
  pub fetches : (f : ℕ) → is_some (entry r.fetches f) ≡ false
  pub flushes : (k i : ℕ) → is_waiting r.flushes k i ≡ false
  pub bound : above r.last ≡ 0
  pub down : r.down ≡ true

module _ {B C I : Type 0} (count : ℕ) (p : Past B C I) where
  -- With so many databases, what the register has as live is live after this past, and it has all
  -- of it; it knows which live tickets ask to build. Its bound is the least new ticket, and it
  -- knows whether the machine is down. It has no database that is live for progress, since none
  -- syncs yet.
  pub record RegisterStands (r : Register) : Type 0 where
    pub tickets : (t : ℕ) → entry r.tickets t ≡ live_ticket t p
    pub proposals : (t : ℕ) → is_some (entry r.proposals t) ≡ live_proposal t p
    pub jobs : (j : ℕ) → is_some (entry r.jobs j) ≡ live_job j p
    pub fetches : (f : ℕ) → is_some (entry r.fetches f) ≡ live_fetch f p
    pub flushes : (k i : ℕ) → is_waiting r.flushes k i ≡ live_flush count k i p
    pub bound : above r.last ≡ bound_of p
    pub down : r.down ≡ is_down p
    pub syncs_none : seeking p ≡ []

module _ (old new : Register) where
  -- the new register answers as the old one
  pub record IsUnchanged : Type 0 where
    pub tickets : (t : ℕ) → entry new.tickets t ≡ entry old.tickets t
    pub proposals : (t : ℕ) → is_some (entry new.proposals t) ≡ is_some (entry old.proposals t)
    pub jobs : (j : ℕ) → is_some (entry new.jobs j) ≡ is_some (entry old.jobs j)
    pub fetches : (f : ℕ) → is_some (entry new.fetches f) ≡ is_some (entry old.fetches f)
    pub flushes : (k i : ℕ) → is_waiting new.flushes k i ≡ is_waiting old.flushes k i
    pub bound : above new.last ≡ above old.last
    pub down : new.down ≡ old.down

  -- the new register is the old one with these changes, one after another; of flushes it is said
  -- apart
  pub record Applies (changes : List Change) : Type 0 where
    pub tickets : (t : ℕ)
        → entry new.tickets t
        ≡ fold (λ was change. ticket_after change t was) (entry old.tickets t) changes
    pub proposals : (t : ℕ)
        → is_some (entry new.proposals t)
        ≡ fold (λ was change. proposal_after change t was)
        (is_some (entry old.proposals t)) changes
    pub jobs : (j : ℕ)
        → is_some (entry new.jobs j)
        ≡ fold (λ was change. job_after change j was) (is_some (entry old.jobs j)) changes
    pub fetches : (f : ℕ)
        → is_some (entry new.fetches f)
        ≡ fold (λ was change. fetch_after change f was) (is_some (entry old.fetches f)) changes
    pub bound : above new.last
        ≡ fold (λ was change. bound_after change was) (above old.last) changes
    pub down : new.down ≡ fold (λ was change. down_after change was) old.down changes

-- the change can be taken in without more memory; of flushes it isn't said
abbrev pub HasRoomFor : Change → Register → Type 0
HasRoomFor (Opens t kind) r = HasRoom r.tickets t
HasRoomFor (Proposes t) r = HasRoom r.tickets t × HasRoom r.proposals t
HasRoomFor (Asks f) r = HasRoom r.fetches f
HasRoomFor (StartsJob j) r = HasRoom r.jobs j
HasRoomFor change r = Unit {0}

-- each of the changes can
abbrev pub HasRoomForEach : List Change → Register → Type 0
HasRoomForEach changes r = (change : Change) → Contains changes change → HasRoomFor change r
