-- A register that has taken an entry in stands for the past with this entry.
use Rattle.std.proofs.Common.{◌≡◌, ℕ, List, [], ◌∷◌, map, refl, ap, ◌∙◌, Result, Ok, Err}
use Rattle.std.specs.List.{fold}
use Rattle.std.specs.Result.{OnOk}
use Rattle.stateful_history.specs.Past.{Past, Came, Made, after, after_entry}
use Rattle.stateful_history.specs.Opening.{is_down}
use Rattle.stateful_history.specs.Live.{live_ticket, live_job, live_fetch, live_flush, bound_of, seeking}
use Rattle.stateful_history.specs.declared.event.Event.{Event}
use Rattle.stateful_history.specs.declared.mark.Mark.{Mark}
use Rattle.stateful_actor_register.specs.Change.{change_by_event, change_by_mark, changes_of, ticket_after, proposal_after, job_after, fetch_after, flush_after, bound_after, down_after}
use Rattle.stateful_actor_register.specs.Flushes.{FlushesApply}
use Rattle.stateful_actor_register.specs.Proposals.{live_proposal}
use Rattle.stateful_actor_register.specs.Register.{RegisterStands, IsUnchanged, Applies, IsBlank}
use Rattle.stateful_actor_register.specs.declared.change.Change.{Change}
use Rattle.stateful_actor_register.specs.declared.register.Register.{Register}
use Rattle.stateful_actor_register.proofs.Changes.{live_ticket-came, live_ticket-made, live_proposal-came, live_proposal-made, live_job-came, live_job-made, live_fetch-came, live_fetch-made, live_flush-came, live_flush-made, bound_of-came, bound_of-made, is_down-came, is_down-made, seeking-came, seeking-made}

module _ {B C I : Type 0} where
  -- what the changes of marks make of what was live, one after another
  made_each : {X : Type 0} (view : Past B C I → X) (step : Change → X → X) → ((p : Past B C I) (mark : Mark B) → step (change_by_mark mark) (view p) ≡ view (Made mark ∷ p))
      → (p : Past B C I) (marks : List (Mark B)) → fold (λ was change. step change was) (view p) (map change_by_mark marks) ≡ view (after p marks)
  made_each view step made p [] = refl
  made_each view step made p (mark ∷ marks) =
      ap (λ was. fold (λ was change. step change was) was (map change_by_mark marks)) (made p mark) ∙ made_each view step made (Made mark ∷ p) marks

  seeking-made_each : (p : Past B C I) (marks : List (Mark B)) → seeking p ≡ [] → seeking (after p marks) ≡ []
  seeking-made_each p [] none = none
  seeking-made_each p (mark ∷ marks) none = seeking-made_each (Made mark ∷ p) marks (seeking-made p mark none)

  module _ (count : ℕ) (p : Past B C I) (old new : Register) (stands : RegisterStands count p old) where
    -- what the changes of an event and its marks make of what was live
    after_changes : {X : Type 0} (view : Past B C I → X) (step : Change → X → X)
        → ((event : Event B C I) → step (change_by_event event) (view p) ≡ view (Came event ∷ p))
        → ((q : Past B C I) (mark : Mark B) → step (change_by_mark mark) (view q) ≡ view (Made mark ∷ q))
        → (event : Event B C I) (marks : List (Mark B)) (was : X) → was ≡ view p
        → fold (λ was change. step change was) was (changes_of event marks) ≡ view (after_entry p event marks)
    after_changes view step came made event marks was is =
        ap (λ was. fold (λ was change. step change was) was (changes_of event marks)) is
        ∙ ap (λ was. fold (λ was change. step change was) was (map change_by_mark marks)) (came event)
        ∙ made_each view step made (Came event ∷ p) marks

    -- with the changes of an event and its marks a register stands for the past with this entry
    pub RegisterStands-entry : (event : Event B C I) (marks : List (Mark B)) → Applies old new (changes_of event marks) → FlushesApply count old.flushes new.flushes (changes_of event marks) → RegisterStands count (after_entry p event marks) new
    RegisterStands-entry event marks applies flushes = record {
      tickets = λ t. applies.tickets t ∙ after_changes (λ q. live_ticket t q) (λ change was. ticket_after change t was) (live_ticket-came p t) (λ q. live_ticket-made q t) event marks _ (stands.tickets t);
      proposals = λ t. applies.proposals t ∙ after_changes (λ q. live_proposal t q) (λ change was. proposal_after change t was) (live_proposal-came p t) (λ q. live_proposal-made q t) event marks _ (stands.proposals t);
      jobs = λ j. applies.jobs j ∙ after_changes (λ q. live_job j q) (λ change was. job_after change j was) (live_job-came p j) (λ q. live_job-made q j) event marks _ (stands.jobs j);
      fetches = λ f. applies.fetches f ∙ after_changes (λ q. live_fetch f q) (λ change was. fetch_after change f was) (live_fetch-came p f) (λ q. live_fetch-made q f) event marks _ (stands.fetches f);
      flushes = λ k i. flushes k i ∙ after_changes (λ q. live_flush count k i q) (λ change was. flush_after count change k i was) (live_flush-came p count k i) (λ q. live_flush-made q count k i) event marks _ (stands.flushes k i);
      bound = applies.bound ∙ after_changes (λ q. bound_of q) (λ change was. bound_after change was) (bound_of-came p) (λ q. bound_of-made q) event marks _ stands.bound;
      down = applies.down ∙ after_changes (λ q. is_down q) (λ change was. down_after change was) (is_down-came p) (λ q. is_down-made q) event marks _ stands.down;
      syncs_none = seeking-made_each (Came event ∷ p) marks (seeking-came p event stands.syncs_none);
    }

    -- a register that answers as another stands for what that stands for
    pub RegisterStands-same : IsUnchanged old new → RegisterStands count p new
    RegisterStands-same same = record {
      tickets = λ t. same.tickets t ∙ stands.tickets t;
      proposals = λ t. same.proposals t ∙ stands.proposals t;
      jobs = λ j. same.jobs j ∙ stands.jobs j;
      fetches = λ f. same.fetches f ∙ stands.fetches f;
      flushes = λ k i. same.flushes k i ∙ stands.flushes k i;
      bound = same.bound ∙ stands.bound;
      down = same.down ∙ stands.down;
      syncs_none = stands.syncs_none;
    }

  -- what a call has taken in that may be refused, where what follows it changes nothing
  pub RegisterStands-taken : {T E : Type 0} (result : Result T E) (count : ℕ) (old taken new : Register) (event : Event B C I) (marks : List (Mark B))
      → OnOk result (Applies old taken (changes_of event marks) × FlushesApply count old.flushes taken.flushes (changes_of event marks))
      → IsUnchanged taken new
      → OnOk result ((p : Past B C I) → RegisterStands count p old → RegisterStands count (after_entry p event marks) new)
  RegisterStands-taken (Err e) count old taken new event marks applied same = tt
  RegisterStands-taken (Ok x) count old taken new event marks applied same = λ p stands.
      RegisterStands-same count (after_entry p event marks) taken new (RegisterStands-entry count p old taken stands event marks applied.0 applied.1) same

  -- a new register stands for the empty past
  pub RegisterStands-none : (count : ℕ) (r : Register) → IsBlank r → RegisterStands {B = B} {C = C} {I = I} count [] r
  RegisterStands-none count r blank = record {
    tickets = blank.tickets;
    proposals = blank.proposals;
    jobs = blank.jobs;
    fetches = blank.fetches;
    flushes = blank.flushes;
    bound = blank.bound;
    down = blank.down;
    syncs_none = refl;
  }
