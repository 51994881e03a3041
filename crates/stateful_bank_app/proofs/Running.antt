-- One turn of a run.
use Rattle.std.proofs.Common.{◌≡◌, ℕ, ◌+◌, ◌<◌, List, ◌∷◌, Option, Some, None, IsSomeAnd, ap, sym, ◌∙◌, subst}
use Rattle.stateful_base.specs.declared.outcome.Moved.TheVariants.{Done}
use Rattle.stateful_db.specs.Meaning.{outcome, Ends}
use Rattle.stateful_db.specs.Works.{block_of, run_chain}
use Rattle.stateful_bank.specs.declared.op.Op.{Op}
use Rattle.stateful_bank_app.specs.Rules.{Rules, bank_meaning, turns_of, stepped}
use Rattle.stateful_bank_app.specs.Draft.{IsAmong}
use Rattle.stateful_bank_app.specs.Progress.{Shows, HasDone, Advances}
use Rattle.stateful_bank_app.specs.Runs.{BankRunOf, IsRun, IsRejected, LeadsToFull, LeadsToRoom}
use Rattle.stateful_bank_app.specs.declared.progress.Progress.{Progress}
use Rattle.stateful_bank_app.specs.declared.progress.Advanced.{Advanced}
use Rattle.stateful_bank_app.specs.declared.progress.Advanced.TheVariants.{Refused, Further, Complete}
use Rattle.stateful_bank_app.specs.declared.run.BankRun.{BankRun}
use Rattle.stateful_bank_app.proofs.Outcomes.{outcome_refused, outcome_allowed}

module _ {U Ids States Targets : Type 0} (w : Rules States Targets) (Holds : U → w.Changes → Ids → Ids × States → List (Ids × States) → Type 0) (place : Option (Ids × States)) (run : BankRun U) (r : BankRunOf Ids States) (turns : ℕ) (is : IsRun w Holds run r turns) (progress : Progress U) (held : run.progress ≡ Some progress) (ops : List Op) (ops_are : ops ≡ run.block.block.ops) (at : IsAmong place (r.at ∷ r.below)) (advanced : Advanced U) (next : (i : Ids) (p : Ids × States) (c : List (Ids × States)) → HasDone w Holds progress ops i p c → IsAmong place (p ∷ c) → Advances w Holds advanced progress.done ops i p c) where
  ops_of : ops ≡ (block_of r).ops
  ops_of = ops_are ∙ ap (λ named. named.block.ops) is.block_is

  here : is.progress ≡ progress
  here = let kept = is.progress_is in cc

  count : progress.done ≡ turns
  count = ap (λ z. z.done) (sym here) ∙ is.turns_are

  went : Advances w Holds advanced progress.done (block_of r).ops r.own r.at r.below
  went =
      let done : HasDone w Holds progress ops r.own r.at r.below = subst (λ z. HasDone w Holds progress z r.own r.at r.below) (sym ops_of) (subst (λ z. HasDone w Holds z (block_of r).ops r.own r.at r.below) here is.done) in
      subst (λ z. Advances w Holds advanced progress.done z r.own r.at r.below) ops_of (next r.own r.at r.below done at)

  went_to : (a : Advanced U) → advanced ≡ a → Advances w Holds a progress.done (block_of r).ops r.own r.at r.below
  went_to a same = subst (λ z. Advances w Holds z progress.done (block_of r).ops r.own r.at r.below) same went

  -- a refused operation leads to no states
  pub refused_outcome : advanced ≡ Refused → outcome (bank_meaning w) r.finality r.at.1 (block_of r) ≡ None
  refused_outcome same = outcome_refused w r.at.1 (block_of r) r.finality (went_to Refused same).0

  pub refused_cost : advanced ≡ Refused → turns_of w r.at.1 (block_of r).ops ≡ turns + 1
  refused_cost same = (went_to Refused same).1 ∙ ap (λ n. n + 1) count

  -- the run goes on behind an allowed operation
  pub further_run : (left : Progress U) (new : BankRun U) → advanced ≡ Further left → new.finality ≡ run.finality → new.block ≡ run.block → new.progress ≡ Some left → IsRun w Holds new r (turns + 1)
  further_run left new same same_finality same_block held_now =
      let behind = went_to (Further left) same in
      record {
        finality_is = same_finality ∙ is.finality_is;
        block_is = same_block ∙ is.block_is;
        progress = left;
        progress_is = held_now;
        turns_are = behind.1 ∙ ap (λ n. n + 1) count;
        done = behind.0;
      }

  pub further_cost : (left : Progress U) → advanced ≡ Further left → turns + 1 < turns_of w r.at.1 (block_of r).ops
  further_cost left same = subst (λ n. n + 1 < turns_of w r.at.1 (block_of r).ops) count (went_to (Further left) same).2

  pub complete_cost : (batch : U) → advanced ≡ Complete batch → turns_of w r.at.1 (block_of r).ops ≡ turns + 1
  complete_cost batch same = (went_to (Complete batch) same).1 ∙ ap (λ n. n + 1) count

  module _ (batch : U) (same : advanced ≡ Complete batch) (height : ℕ) (height_is : height ≡ run.block.block.height.0) where
    shows : Shows w Holds batch (block_of r).ops r.own r.at r.below
    shows = (went_to (Complete batch) same).0

    height_of : height ≡ (block_of r).height.0
    height_of = height_is ∙ ap (λ named. named.block.height.0) is.block_is

    -- the states behind the block
    abbrev behind : States
    behind = w.sealed r.at.1 shows.changes (block_of r).ops (block_of r).height.0

    same_behind : w.sealed r.at.1 shows.changes ops height ≡ behind
    same_behind = ap (λ z. w.sealed r.at.1 shows.changes z height) ops_of ∙ ap (w.sealed r.at.1 shows.changes (block_of r).ops) height_of

    leads : stepped w r.at.1 (block_of r).ops (block_of r).height.0 ≡ Some behind
    leads = rw shows.after

    -- the seal shows the states behind the block
    pub complete_outcome : {M : Type 0} (Sealed : M → List (Ids × States) → Type 0) (sealed : Option M) (Left : Type 0) → (IsRejected run.finality ops → ⊥) → ((changes : w.Changes) (i : Ids) (p : Ids × States) (c : List (Ids × States)) → Holds batch changes i p c → IsAmong place (p ∷ c) → IsSomeAnd sealed (λ m. Sealed m ((i, w.sealed p.1 changes ops height) ∷ p ∷ c))) → Ends (Done sealed) (outcome (bank_meaning w) r.finality r.at.1 (block_of r)) (λ m s. Sealed m (run_chain r s)) Left
    complete_outcome {M} Sealed sealed Left good seals =
        let fine : IsRejected r.finality (block_of r).ops → ⊥ = rw (is.finality_is, ops_of) at good in
        let shown : IsSomeAnd sealed (λ m. Sealed m (run_chain r behind)) = subst (λ s. IsSomeAnd sealed (λ m. Sealed m (run_chain r s))) same_behind (seals shows.changes r.own r.at r.below shows.holds at) in
        subst (λ o. Ends (Done sealed) o (λ m s. Sealed m (run_chain r s)) Left) (sym (outcome_allowed w r.at.1 (block_of r) r.finality shows.changes fine shows.after)) (ends sealed shown)
      where
        ends : (sealed : Option M) → IsSomeAnd sealed (λ m. Sealed m (run_chain r behind)) → Ends (Done sealed) (Some behind) (λ m s. Sealed m (run_chain r s)) Left
        ends None none = absurd none
        ends (Some m) shown = shown

    module _ (Full : States → Type 0) where
      -- where no number is left for it, the block's states are at the end of the numbers
      pub complete_full : ((changes : w.Changes) (i : Ids) (p : Ids × States) (c : List (Ids × States)) → Holds batch changes i p c → IsAmong place (p ∷ c) → Full (w.sealed p.1 changes ops height)) → LeadsToFull w Full r.at.1 (block_of r).ops (block_of r).height.0
      complete_full ended = record {
        after = behind;
        leads = leads;
        is_full = subst Full same_behind (ended shows.changes r.own r.at r.below shows.holds at);
      }

      -- where it is sealed, the block's states are below that end
      pub complete_room : ((changes : w.Changes) (i : Ids) (p : Ids × States) (c : List (Ids × States)) → Holds batch changes i p c → IsAmong place (p ∷ c) → Full (w.sealed p.1 changes ops height) → ⊥) → LeadsToRoom w Full r.at.1 (block_of r).ops (block_of r).height.0
      complete_room below = record {
        after = behind;
        leads = leads;
        has_room = λ full. below shows.changes r.own r.at r.below shows.holds at (subst Full (sym same_behind) full);
      }
