-- A build hands over one thing.
use Rattle.std.proofs.Common.{◌≡◌, ◌+◌, ◌^◌, ◌<◌, ◌≤◌, ◌⊎◌, inl, inr, Bool, true, false, List, [], ◌∷◌, length, Option, Some, None, refl, ap, sym, ◌∙◌, arith}
use Rattle.std.proofs.lemmas.Bool.{cases_lt}
use Rattle.stateful_base.specs.Handoff.{IsWait}
use Rattle.stateful_base.specs.declared.outcome.Handoff.{Handoff}
use Rattle.stateful_base.specs.declared.outcome.Handoff.TheVariants.{Wait, Vote, Stage}
use Rattle.stateful_base.specs.declared.target.Target.{Target}
use Rattle.stateful_bank.specs.declared.op.Op.{Op}
use Rattle.stateful_bank.specs.declared.block.BankBlock.{BankBlock}
use Rattle.stateful_bank.specs.declared.proposal.Proposal.{Proposal}
use Rattle.stateful_bank.specs.Op.{accept}
use Rattle.stateful_bank.specs.Proposal.{IsDeclined, Waits, HasNone, HasMany, IsAtEnd, built_block, Declines, Declined, HasNoStates, IsUnacceptable, Builds, Gives, IgnoresTargets, GivesOne}

not_declined : (p : Proposal) → (IsWait p.decision → ⊥) → (p.ops ≡ [] → ⊥) → length p.ops ≤ 16 → p.height.0 + 1 < 2 ^ 64 → IsDeclined p → ⊥
not_declined p waits none few below (Waits h) = waits h
not_declined p waits none few below (HasNone h) = none h
not_declined p waits none few below (HasMany h) = omega arith
not_declined p waits none few below (IsAtEnd h) = omega arith

waits_or_not : (d : Handoff (Unit {0})) → IsWait d ⊎ (IsWait d → ⊥)
waits_or_not Wait = inl tt
waits_or_not (Vote v) = inr (λ h. h)
waits_or_not (Stage v) = inr (λ h. h)

none_or_not : (ops : List Op) → (ops ≡ []) ⊎ (ops ≡ [] → ⊥)
none_or_not [] = inl refl
none_or_not (op ∷ ops) = inr (λ h. cc)

declined_or_not : (p : Proposal) → IsDeclined p ⊎ (IsDeclined p → ⊥)
declined_or_not p =
    elim (waits_or_not p.decision) [
      | inl waits ↦ inl (Waits waits)
      | inr waits ↦ elim (none_or_not p.ops) [
        | inl none ↦ inl (HasNone none)
        | inr none ↦ elim (cases_lt 16 (length p.ops)) [
          | inl many ↦ inl (HasMany many)
          | inr few ↦ elim (cases_lt (p.height.0 + 1) (2 ^ 64)) [
            | inl below ↦ inr (not_declined p waits none few below)
            | inr end ↦ inl (IsAtEnd end)
          ]
        ]
      ]
    ]

module _ {States : Type 0} (step : States → BankBlock → Option States) (targets_of : States → List Target) where
  apart : (p : Proposal) (before : States) (block : BankBlock) → Declines step targets_of p before → Builds step targets_of p before block → ⊥
  apart p before block (Declined h) builds = builds.asked h
  apart p before block (HasNoStates none) builds =
      let leads = sym (ap (step before) builds.block_is) ∙ builds.leads in
      let here = none (targets_of builds.after) in
      absurd cc
  apart p before block (IsUnacceptable h) builds = let good = builds.acceptable in absurd cc

  module _ (alike : IgnoresTargets step targets_of) (p : Proposal) (before : States) where
    same_block : (x y : BankBlock) → Builds step targets_of p before x → Builds step targets_of p before y → x ≡ y
    same_block x y one other =
        let leads = sym (ap (step before) one.block_is) ∙ one.leads in
        let leads_other = sym (ap (step before) other.block_is) ∙ other.leads in
        let both = alike p before (targets_of one.after) (targets_of other.after) in
        let after : one.after ≡ other.after = cc in
        one.block_is ∙ ap (λ s. built_block p (targets_of s)) after ∙ sym other.block_is

    once : (given other : Handoff BankBlock) → Gives step targets_of p before given → Gives step targets_of p before other → other ≡ given
    once Wait Wait g o = refl
    once Wait (Vote y) g o = absurd (apart p before y g o.1)
    once Wait (Stage y) g o = absurd (apart p before y g o.1)
    once (Vote x) Wait g o = absurd (apart p before x o g.1)
    once (Stage x) Wait g o = absurd (apart p before x o g.1)
    once (Vote x) (Vote y) g o = ap (λ b. Vote b) (same_block y x o.1 g.1)
    once (Stage x) (Stage y) g o = ap (λ b. Stage b) (same_block y x o.1 g.1)
    once (Vote x) (Stage y) g o = let one = g.0 in let other = o.0 in absurd cc
    once (Stage x) (Vote y) g o = let one = g.0 in let other = o.0 in absurd cc

    handed : (d : Handoff (Unit {0})) (block : BankBlock) → p.decision ≡ d → Builds step targets_of p before block → (given : Handoff BankBlock) × Gives step targets_of p before given
    handed Wait block is builds = absurd (builds.asked (Waits (rw is tt)))
    handed (Vote v) block is builds = (Vote block, (is, builds))
    handed (Stage v) block is builds = (Stage block, (is, builds))

    led : (IsDeclined p → ⊥) → accept p.ops ≡ true → (o : Option States) → step before (built_block p []) ≡ o → (given : Handoff BankBlock) × Gives step targets_of p before given
    led asked good None none = (Wait, HasNoStates (λ targets. alike p before targets [] ∙ none))
    led asked good (Some after) some =
        handed p.decision (built_block p (targets_of after)) refl (record {
          asked = asked;
          acceptable = good;
          after = after;
          block_is = refl;
          leads = alike p before (targets_of after) [] ∙ some;
        })

    judged : (IsDeclined p → ⊥) → (b : Bool) → accept p.ops ≡ b → (given : Handoff BankBlock) × Gives step targets_of p before given
    judged asked false bad = (Wait, IsUnacceptable bad)
    judged asked true good = led asked good (step before (built_block p [])) refl

    something : (given : Handoff BankBlock) × Gives step targets_of p before given
    something =
        elim (declined_or_not p) [
          | inl declined ↦ (Wait, Declined declined)
          | inr asked ↦ judged asked (accept p.ops) refl
        ]

  pub gives_one : GivesOne step targets_of
  gives_one = λ alike p before.
      let given = something alike p before in
      (given.0, given.1, λ other gives. once alike p before given.0 other given.1 gives)
