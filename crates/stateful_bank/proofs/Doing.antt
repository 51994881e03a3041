-- Operations one after another, and the turns that they take.
use Rattle.std.proofs.Common.{◌≡◌, ℕ, zero, suc, ◌+◌, ◌<◌, ◌≤◌, List, [], ◌∷◌, ◌++◌, Some, None, option_and_then, take, drop, length, refl, ap, sym, ◌∙◌, arith, length-drop}
use Rattle.std.specs.Option.{option_map_or}
use Rattle.std.proofs.Math.Seq.{take-add}
use Rattle.std.proofs.lemmas.List.{take_all, take-append-drop}
use Rattle.stateful_bank.specs.declared.op.Op.{Op}
use Rattle.stateful_bank.specs.Accounts.{Book, do_op, do_ops, begun_ops, run_turns}

module _ (book : Book) where
  -- some operations, and then others
  pub do_ops-append : (s : book.State) (xs ys : List Op) → do_ops book s (xs ++ ys) ≡ option_and_then (λ after. do_ops book after ys) (do_ops book s xs)
  do_ops-append s [] ys = refl
  do_ops-append s (op ∷ xs) ys =
      elim (do_op book s op) as (λ o. option_and_then (λ after. do_ops book after (xs ++ ys)) o ≡ option_and_then (λ after. do_ops book after ys) (option_and_then (λ after. do_ops book after xs) o)) [
        | None ↦ refl
        | Some after ↦ do_ops-append after xs ys
      ]

  -- no more operations are begun than there are
  begun_le : (s : book.State) (ops : List Op) → begun_ops book s ops ≤ length ops
  begun_le s [] = omega arith
  begun_le s (op ∷ ops) =
      elim (do_op book s op) as (λ o. 1 + option_map_or (λ after. begun_ops book after ops) o 0 ≤ suc (length ops)) [
        | None ↦ omega arith
        | Some after ↦ omega (arith, begun_le after ops)
      ]

  -- the first of some operations is begun
  begun_some : (s : book.State) (ops : List Op) → 0 < length ops → 0 < begun_ops book s ops
  begun_some s [] some = absurd (omega arith)
  begun_some s (op ∷ ops) some = omega arith

  -- one alone is begun where it isn't allowed
  begun_refused : (s : book.State) (ops : List Op) → do_ops book s (take 1 ops) ≡ None → begun_ops book s ops ≤ 1
  begun_refused s [] none = absurd cc
  begun_refused s (op ∷ ops) none =
      elim (do_op book s op) as (λ o. option_and_then (λ after. do_ops book after (take 0 ops)) o ≡ None → 1 + option_map_or (λ after. begun_ops book after ops) o 0 ≤ 1) [
        | None ↦ λ e. omega arith
        | Some after ↦ λ e. absurd cc
      ] none

  -- behind operations that are allowed, the others are begun
  begun_behind : (s after : book.State) (ops : List Op) (k : ℕ) → k ≤ length ops → do_ops book s (take k ops) ≡ Some after → begun_ops book s ops ≡ k + begun_ops book after (drop k ops)
  begun_behind s after ops zero within done =
      let same : s ≡ after = cc in omega (arith, ap (λ x. begun_ops book x ops) same)
  begun_behind s after [] (suc k) within done = absurd (omega arith)
  begun_behind s after (op ∷ ops) (suc k) within done =
      elim (do_op book s op) as (λ o. option_and_then (λ left. do_ops book left (take k ops)) o ≡ Some after → 1 + option_map_or (λ left. begun_ops book left ops) o 0 ≡ suc k + begun_ops book after (drop k ops)) [
        | None ↦ λ e. absurd cc
        | Some left ↦ λ e. omega (arith, begun_behind left after ops k (omega arith) e)
      ] done

  module _ (s after : book.State) (ops : List Op) (k : ℕ) (done : do_ops book s (take k ops) ≡ Some after) where
    -- one operation more
    pub do_ops-next : do_ops book s (take (k + 1) ops) ≡ do_ops book after (take 1 (drop k ops))
    do_ops-next =
        ap (do_ops book s) (take-add k 1 ops)
        ∙ do_ops-append s (take k ops) (take 1 (drop k ops))
        ∙ ap (option_and_then (λ left. do_ops book left (take 1 (drop k ops)))) done

    -- the last operation
    pub do_ops-last : length ops ≤ k + 1 → do_ops book s ops ≡ do_ops book after (take 1 (drop k ops))
    do_ops-last last = ap (do_ops book s) (sym (take_all (k + 1) ops last)) ∙ do_ops-next

    -- a refused operation
    pub do_ops-refused : do_ops book after (take 1 (drop k ops)) ≡ None → do_ops book s ops ≡ None
    do_ops-refused none =
        ap (do_ops book s) (sym (take-append-drop (k + 1) ops))
        ∙ do_ops-append s (take (k + 1) ops) (drop (k + 1) ops)
        ∙ ap (option_and_then (λ left. do_ops book left (drop (k + 1) ops))) (do_ops-next ∙ none)

    -- the turn of a refused operation is the last one
    pub turns_refused : k ≤ length ops → do_ops book after (take 1 (drop k ops)) ≡ None → run_turns book s ops ≤ k + 1
    turns_refused within none =
        omega (arith, begun_behind s after ops k within done, begun_refused after (drop k ops) none)

    -- so is that of the last operation
    pub turns_last : k ≤ length ops → length ops ≤ k + 1 → run_turns book s ops ≤ k + 1
    turns_last within last =
        omega (arith, begun_behind s after ops k within done, begun_le after (drop k ops), length-drop k ops)

  -- after an allowed operation that isn't the last, there is a turn more
  pub turns_more : (s next : book.State) (ops : List Op) (k : ℕ) → do_ops book s (take (k + 1) ops) ≡ Some next → k + 1 < length ops → k + 1 < run_turns book s ops
  turns_more s next ops k done more =
      omega (arith, begun_behind s next ops (k + 1) (omega arith) done, begun_some next (drop (k + 1) ops) (omega (arith, length-drop (k + 1) ops)))
