-- One turn of a run or a build.
use Rattle.std.proofs.Common.{◌≡◌, ℕ, zero, suc, ◌+◌, ◌<◌, ◌≤◌, max, List, Option, Some, None, take, drop, length, refl, ap, ◌∙◌, add-one, arith}
use Rattle.stateful_bank.specs.declared.op.Op.{Op}
use Rattle.stateful_bank.specs.Accounts.{Becomes, do_ops}
use Rattle.stateful_bank.proofs.Doing.{do_ops-next, do_ops-last, do_ops-refused, turns_refused, turns_last, turns_more}
use Rattle.stateful_bank_app.specs.Rules.{Rules, book_on, turns_of, changes_of}
use Rattle.stateful_bank_app.specs.Progress.{HasDone, Advances}
use Rattle.stateful_bank_app.specs.declared.progress.Progress.{Progress}
use Rattle.stateful_bank_app.specs.declared.progress.Advanced.TheVariants.{Refused, Further, Complete}

module _ {U Ids States Targets : Type 0} (w : Rules States Targets) (Holds : U → w.Changes → Ids → Ids × States → List (Ids × States) → Type 0) where
  -- behind allowed operations that aren't all there is at least one turn more
  turns_least : (s : States) (after : w.Changes) (ops : List Op) (k : ℕ) → k < max 1 (length ops) → changes_of w s (take k ops) ≡ Some after → k + 1 ≤ turns_of w s ops
  turns_least s after ops zero within done = omega arith
  turns_least s after ops (suc j) within done =
      let done_here : changes_of w s (take (j + 1) ops) ≡ Some after = ap (λ k. changes_of w s (take k ops)) (add-one j) ∙ done in
      omega (arith, turns_more (book_on w s) (w.none s) after ops j done_here (omega arith))

  -- the batch after the operation of this number
  abbrev pub IsNext : Option U → U → List Op → ℕ → Ids → Ids × States → List (Ids × States) → Type 0
  IsNext after batch ops done i p c =
      (changes : w.Changes) → Holds batch changes i p c → Becomes (λ u now. Holds u now i p c) after (do_ops (book_on w p.1) changes (take 1 (drop done ops)))

  module _ (progress : Progress U) (ops : List Op) (i : Ids) (p : Ids × States) (c : List (Ids × States)) (is : HasDone w Holds progress ops i p c) where
    becomes : (after : Option U) → IsNext after progress.batch ops progress.done i p c → Becomes (λ u now. Holds u now i p c) after (do_ops (book_on w p.1) is.shows.changes (take 1 (drop progress.done ops)))
    becomes after next = next is.shows.changes is.shows.holds

    least : progress.done + 1 ≤ turns_of w p.1 ops
    least = turns_least p.1 is.shows.changes ops progress.done is.within is.shows.after

    within : progress.done ≤ length ops
    within = let below = is.within in omega arith

    pub refused : IsNext None progress.batch ops progress.done i p c → Advances w Holds Refused progress.done ops i p c
    refused next = (
      do_ops-refused (book_on w p.1) (w.none p.1) is.shows.changes ops progress.done is.shows.after (becomes None next),
      omega (arith, least, turns_refused (book_on w p.1) (w.none p.1) is.shows.changes ops progress.done is.shows.after within (becomes None next)),
    )

    -- what an allowed operation leaves
    allowed : (after : U) (o : Option w.Changes) → Becomes (λ u now. Holds u now i p c) (Some after) o → (next : w.Changes) × (o ≡ Some next) × Holds after next i p c
    allowed after None none = absurd none
    allowed after (Some next) held = (next, refl, held)

    pub further : (after : U) → IsNext (Some after) progress.batch ops progress.done i p c → progress.done + 1 < length ops → Advances w Holds (Further (record { done = progress.done + 1; batch = after })) progress.done ops i p c
    further after next more =
        let left = allowed after (do_ops (book_on w p.1) is.shows.changes (take 1 (drop progress.done ops))) (becomes (Some after) next) in
        let done = do_ops-next (book_on w p.1) (w.none p.1) is.shows.changes ops progress.done is.shows.after ∙ left.1 in
        (record { within = omega arith; shows = record { changes = left.0; after = done; holds = left.2 } }, refl, turns_more (book_on w p.1) (w.none p.1) left.0 ops progress.done done more)

    pub complete : (after : U) → IsNext (Some after) progress.batch ops progress.done i p c → length ops ≤ progress.done + 1 → Advances w Holds (Complete after) progress.done ops i p c
    complete after next last =
        let left = allowed after (do_ops (book_on w p.1) is.shows.changes (take 1 (drop progress.done ops))) (becomes (Some after) next) in (
          record {
            changes = left.0;
            after = do_ops-last (book_on w p.1) (w.none p.1) is.shows.changes ops progress.done is.shows.after last ∙ left.1;
            holds = left.2;
          },
          omega (arith, least, turns_last (book_on w p.1) (w.none p.1) is.shows.changes ops progress.done is.shows.after within last),
        )
