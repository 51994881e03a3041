-- What becomes of receipts over many calls.
use Rattle.std.proofs.Common.{◌≡◌, ℕ, ◌≤◌, Some, None, List, [], ◌∷◌, ◌++◌, refl, sym, ap, ◌∙◌, append_assoc}
use Rattle.std.specs.List.Sorted.{IsPermutation}
use Rattle.std.proofs.lemmas.Bool.{le-leb}
use Rattle.std.proofs.lemmas.List.{append-nil}
use Rattle.std.proofs.lemmas.List.Sorted.{IsPermutation-refl, IsPermutation-trans, IsPermutation-to_front, IsPermutation-append_left, IsPermutation-append_right}
use Rattle.stateful_durability.specs.Durability.{Coverage, covered_receipts, Releases}
use Rattle.stateful_durability.specs.Calls.{ReleasesExactly, Call, applies, sets_barrier, completes, records, records_duplicate, releases, none, further, KeepsReceipts}
use Rattle.stateful_durability.proofs.Receipts.{receipts_up_to_none, with_duplicate_adds}

-- a released receipt was the first of those of durable heights
pub covered_front : (old new : Coverage) (receipt : ℕ × ℕ) → Releases old new receipt → covered_receipts old ≡ receipt ∷ covered_receipts new
covered_front old new receipt taken =
    let durable : receipt.0 ≤ new.durable = rw (ap (λ (c : Coverage). c.durable) taken.front) at taken.durable in
    ap covered_receipts taken.front ∙ (rw (le-leb receipt.0 new.durable durable) refl)

-- exactly the receipts of durable heights are released
pub releases_covered : (c : Coverage) → ReleasesExactly c (covered_receipts c)
releases_covered c [] last h = sym (receipts_up_to_none c.durable c.held h.0)
releases_covered c (receipt ∷ released) last h =
    ap (λ xs. receipt ∷ xs) (releases_covered h.0 released last h.2) ∙ sym (covered_front c h.0 receipt h.1)

-- what one call does to the receipts
kept_by_call : (c d : Coverage) (recorded released : List (ℕ × ℕ)) → Call c recorded released d → IsPermutation (c.held ++ recorded) (released ++ d.held)
kept_by_call c d recorded released (applies height) = rw append-nil (IsPermutation-refl c.held)
kept_by_call c d recorded released (sets_barrier height) = rw append-nil (IsPermutation-refl c.held)
kept_by_call c d recorded released (completes None) = rw append-nil (IsPermutation-refl c.held)
kept_by_call c d recorded released (completes (Some height)) = rw append-nil (IsPermutation-refl c.held)
kept_by_call c d recorded released (records height ticket) = IsPermutation-refl (c.held ++ (height, ticket) ∷ [])
kept_by_call c d recorded released (records_duplicate height ticket) =
    IsPermutation-trans _ _ _ (IsPermutation-to_front c.held (height, ticket)) (with_duplicate_adds c.held height ticket)
kept_by_call c d recorded released (releases {receipt = receipt} taken) =
    let front : c.held ≡ receipt ∷ d.held = ap (λ (v : Coverage). v.held) taken.front in
    rw append-nil (rw front (IsPermutation-refl (receipt ∷ d.held)))

-- each receipt that is held or recorded is released once, or is still held
pub keeps_receipts : (c : Coverage) → KeepsReceipts c
keeps_receipts c recorded released last none = rw append-nil (IsPermutation-refl c.held)
keeps_receipts c r s last (further {d = d} {recorded = recorded} {released = released} {more_recorded = more} {more_released = later} call calls) =
    let first : IsPermutation ((c.held ++ recorded) ++ more) ((released ++ d.held) ++ more) =
    IsPermutation-append_left more _ _ (kept_by_call c d recorded released call) in
    let rest : IsPermutation (released ++ (d.held ++ more)) (released ++ (later ++ last.held)) =
    IsPermutation-append_right released _ _ (keeps_receipts d more later last calls) in
    rw (← append_assoc c.held recorded more, append_assoc released later last.held)
    (IsPermutation-trans _ _ _ (rw (append_assoc released d.held more) at first) rest)
