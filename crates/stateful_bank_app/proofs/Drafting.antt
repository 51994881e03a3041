-- Operations on a batch, as operations on what it changes.
use Rattle.std.proofs.Common.{◌≡◌, List, [], ◌∷◌, Option, Some, None, MatchOption, option_map, option_and_then, inr, refl, sym, ap, ◌∙◌, subst}
use Rattle.stateful_bank.specs.declared.op.Op.{Op}
use Rattle.stateful_bank.specs.Accounts.{do_op, do_ops}
use Rattle.stateful_bank.proofs.Following.{Follows, do_op-seen}
use Rattle.stateful_bank_app.specs.Rules.{Rules, book_on}
use Rattle.stateful_bank_app.specs.Draft.{IsAmong, Place, draft_book, StandsAt}

-- a point of a chain is one of any longer chain
pub among_behind : {P : Type 0} (place : Option P) (p : P) (c : List P) → IsAmong place c → IsAmong place (p ∷ c)
among_behind place p c at = record { point = at.point; is = at.is; among = inr at.among }

-- a place with these changes
abbrev pub place_of : {Ids States Targets : Type 0} (w : Rules States Targets) → w.Changes → Ids → Ids × States → List (Ids × States) → Place Ids w
place_of w changes own parent below = record { changes = changes; own = own; parent = parent; below = below }

-- a batch that holds them stands there
pub stands : {U Ids States Targets : Type 0} (w : Rules States Targets) (Holds : U → w.Changes → Ids → Ids × States → List (Ids × States) → Type 0) (changes : w.Changes) (own : Ids) (parent : Ids × States) (below : List (Ids × States)) (at : Option (Ids × States)) (batch : U) → Holds batch changes own parent below → IsAmong at (parent ∷ below) → StandsAt Ids w Holds at batch (place_of w changes own parent below)
stands w Holds changes own parent below at batch holds among = record { holds = holds; among = among }

module _ {U Ids States Targets : Type 0} (w : Rules States Targets) (Holds : U → w.Changes → Ids → Ids × States → List (Ids × States) → Type 0) (s : Place Ids w) where
  -- the place with these changes
  abbrev with_changes : w.Changes → Place Ids w
  with_changes changes = record s { changes = changes }

  follows : Follows (book_on w s.parent.1) (draft_book Ids w) with_changes
  follows = record { balance = λ changes account. refl; with_balance = λ changes account balance. refl }

  -- an operation does to a place what it does to the changes
  same : (op : Op) → do_op (draft_book Ids w) s op ≡ option_map with_changes (do_op (book_on w s.parent.1) s.changes op)
  same op = do_op-seen (book_on w s.parent.1) (draft_book Ids w) with_changes follows s.changes op

  -- and so do operations in order
  same_each : (changes : w.Changes) (ops : List Op) → do_ops (draft_book Ids w) (with_changes changes) ops ≡ option_map with_changes (do_ops (book_on w s.parent.1) changes ops)
  same_each changes [] = refl
  same_each changes (op ∷ ops) =
      ap (λ o. option_and_then (λ after. do_ops (draft_book Ids w) after ops) o) (do_op-seen (book_on w s.parent.1) (draft_book Ids w) with_changes follows changes op)
      ∙ behind (λ after. same_each after ops) (do_op (book_on w s.parent.1) changes op)
    where
      behind : ((after : w.Changes) → do_ops (draft_book Ids w) (with_changes after) ops ≡ option_map with_changes (do_ops (book_on w s.parent.1) after ops)) → (o : Option w.Changes)
          → option_and_then (λ after. do_ops (draft_book Ids w) after ops) (option_map with_changes o) ≡ option_map with_changes (option_and_then (λ after. do_ops (book_on w s.parent.1) after ops) o)
      behind rest None = refl
      behind rest (Some after) = rest after

  refused : (o : Option w.Changes) → option_map with_changes o ≡ None → o ≡ None
  refused None e = refl
  refused (Some changes) e = absurd cc

  module _ (at : Option (Ids × States)) (batch : U) where
    held : (o : Option w.Changes) → MatchOption (option_map with_changes o) ⊥ (StandsAt Ids w Holds at batch) → MatchOption o ⊥ (λ changes. Holds batch changes s.own s.parent s.below)
    held None none = absurd none
    held (Some changes) behind = behind.holds

    -- a batch that stands behind an operation holds what the operation makes of the changes
    pub held_behind : (op : Op) → MatchOption (do_op (draft_book Ids w) s op) ⊥ (StandsAt Ids w Holds at batch) → MatchOption (do_op (book_on w s.parent.1) s.changes op) ⊥ (λ changes. Holds batch changes s.own s.parent s.below)
    held_behind op stands =
        held (do_op (book_on w s.parent.1) s.changes op) (subst (λ o. MatchOption o ⊥ (StandsAt Ids w Holds at batch)) (same op) stands)

    -- and behind operations in order
    pub held_behind_each : (ops : List Op) → MatchOption (do_ops (draft_book Ids w) s ops) ⊥ (StandsAt Ids w Holds at batch) → MatchOption (do_ops (book_on w s.parent.1) s.changes ops) ⊥ (λ changes. Holds batch changes s.own s.parent s.below)
    held_behind_each ops stands =
        held (do_ops (book_on w s.parent.1) s.changes ops) (subst (λ o. MatchOption o ⊥ (StandsAt Ids w Holds at batch)) (same_each s.changes ops) stands)

  -- an operation that is refused at a place is refused by the changes
  pub refused_behind : (op : Op) → do_op (draft_book Ids w) s op ≡ None → do_op (book_on w s.parent.1) s.changes op ≡ None
  refused_behind op none = refused (do_op (book_on w s.parent.1) s.changes op) (sym (same op) ∙ none)

  -- and so are operations in order
  pub refused_behind_each : (ops : List Op) → do_ops (draft_book Ids w) s ops ≡ None → do_ops (book_on w s.parent.1) s.changes ops ≡ None
  refused_behind_each ops none = refused (do_ops (book_on w s.parent.1) s.changes ops) (sym (same_each s.changes ops) ∙ none)
