-- States after blocks, over databases that stay where they were opened.
use Rattle.std.proofs.Common.{◌≡◌, inl, inr, List, [], ◌∷◌, ◌++◌, Option, Some, None, MatchOption, option_and_then, refl, sym, ap, ◌∙◌, subst}
use Rattle.stateful_base.specs.declared.target.Target.{Target}
use Rattle.stateful_db.specs.Chain.{IsPoint}
use Rattle.stateful_db.specs.Databases.{Databases}
use Rattle.stateful_db.specs.Laws.{IdLaws}
use Rattle.stateful_bank.specs.Accounts.{Becomes}
use Rattle.stateful_bank_app.specs.Rules.{Rules}
use Rattle.stateful_bank_app.specs.Draft.{IsAmong}
use Rattle.stateful_script_plan.specs.Plan.{targets_after}
use Rattle.stateful_script_plan.specs.Scratch.{Chain, BeginsOn, Begins, LeadsTo}

last_point : {P : Type 0} (p : P) (above : List P) → IsPoint p (above ++ p ∷ [])
last_point p [] = inl refl
last_point p (x ∷ above) = inr (last_point p above)

module _ {Ids States Targets : Type 0} (d : Databases Ids States Targets) (at : Ids × States) where
  -- the point where a chain ends is one of it
  among : (place : Option (Ids × States)) (next : Ids) (s : States) (chain : Chain d next at s) → place ≡ Some at → IsAmong place (chain.first ∷ chain.behind)
  among place next s chain here = record { point = at; is = here; among = subst (IsPoint at) (sym chain.ends) (last_point at chain.above) }

  module _ {U M : Type 0} (Opened : U → List (Ids × States) → Type 0) (Shows : M → List (Ids × States) → Type 0) where
    -- a batch over the databases' own states
    pub begins_initial : (own next : Ids) (batch : U) (states : Option States) → Opened batch ((own, d.begun at.1) ∷ at ∷ []) → d.issued next ((own, d.begun at.1) ∷ at ∷ []) → d.issued next (at ∷ [])
        → states ≡ Some at.1 → Begins d Opened next at (Some batch) states
    begins_initial own next batch states opened drawn before is =
        subst (λ o. MatchOption o ⊥ (BeginsOn d Opened next at batch)) (sym is) (record {
          chain = record { first = at; behind = []; is = refl; above = []; ends = refl; drawn = before };
          own = own;
          opened = opened;
          drawn = drawn;
        })

    -- a batch over the states to which a sealed batch leads
    pub begins_sealed : (own before next : Ids) (parent : M) (batch : U) (states : Option States)
        → ((q : Ids × States) (above : List (Ids × States)) → Shows parent (q ∷ above ++ at ∷ []) → d.issued before (q ∷ above ++ at ∷ []) → Opened batch ((own, d.begun q.1) ∷ q ∷ above ++ at ∷ []) × d.issued next ((own, d.begun q.1) ∷ q ∷ above ++ at ∷ []))
        → ((c : List (Ids × States)) → d.issued before c → d.issued next c)
        → MatchOption states ⊥ (LeadsTo d Shows before at parent) → Begins d Opened next at (Some batch) states
    begins_sealed own before next parent batch None forks later leads = absurd leads
    begins_sealed own before next parent batch (Some s) forks later leads =
        let begun = forks (leads.own, s) leads.above leads.shown leads.drawn in
        record {
          chain = record { first = (leads.own, s); behind = leads.above ++ at ∷ []; is = refl; above = (leads.own, s) ∷ leads.above; ends = refl; drawn = later _ leads.drawn };
          own = own;
          opened = begun.0;
          drawn = begun.1;
        }

    -- what is said of the seal of each batch that begins on a chain of the databases
    abbrev pub Seals : Option (Ids × States) → U → Option M → (States → Option States) → Type 0
    Seals place batch sealed step =
        (i : Ids) (p : Ids × States) (c : List (Ids × States)) → Opened batch ((i, d.begun p.1) ∷ p ∷ c) → IsAmong place (p ∷ c) → Becomes (λ m s. Shows m ((i, s) ∷ p ∷ c)) sealed (step p.1)

    module _ (place : Option (Ids × States)) (here : place ≡ Some at) (next : Ids) (batch : U) (step : States → Option States) where
      -- the seal of a batch on such a chain
      sealed_on : (sealed : Option M) (s : States) (begins : BeginsOn d Opened next at batch s) → Seals place batch sealed step → Becomes (λ m t. Shows m ((begins.own, t) ∷ begins.chain.first ∷ begins.chain.behind)) sealed (step s)
      sealed_on sealed s begins seals =
          let chain = begins.chain in
          subst (λ (x : States). Becomes (λ m t. Shows m ((begins.own, t) ∷ chain.first ∷ chain.behind)) sealed (step x)) chain.is
          (seals begins.own chain.first chain.behind (subst (λ (x : States). Opened batch ((begins.own, d.begun x) ∷ chain.first ∷ chain.behind)) (sym chain.is) begins.opened) (among place next s chain here))

      -- a batch that isn't sealed: there are no states after the block
      pub keeps_none : (states : Option States) → Begins d Opened next at (Some batch) states → Seals place batch None step → option_and_then step states ≡ None
      keeps_none None begins seals = absurd begins
      keeps_none (Some s) begins seals = sealed_on None s begins seals

      -- a sealed batch leads to the states after the block
      pub keeps_sealed : IdLaws d → (m : M) (states : Option States) → Begins d Opened next at (Some batch) states → Seals place batch (Some m) step → MatchOption (option_and_then step states) ⊥ (LeadsTo d Shows next at m)
      keeps_sealed ids m None begins seals = absurd begins
      keeps_sealed ids m (Some s) begins seals = leads (step s) (sealed_on (Some m) s begins seals)
        where
          leads : (o : Option States) → MatchOption o ⊥ (λ t. Shows m ((begins.own, t) ∷ begins.chain.first ∷ begins.chain.behind)) → MatchOption o ⊥ (LeadsTo d Shows next at m)
          leads None none = absurd none
          leads (Some t) shown = record {
            own = begins.own;
            above = begins.chain.above;
            shown = subst (λ (c : List (Ids × States)). Shows m ((begins.own, t) ∷ c)) begins.chain.ends shown;
            drawn = subst (λ (c : List (Ids × States)). d.issued next ((begins.own, t) ∷ c)) begins.chain.ends (ids.issued_other next begins.own (d.begun s) t (begins.chain.first ∷ begins.chain.behind) begins.drawn);
          }

-- the targets of what is kept
module _ {M Ids States Targets : Type 0} (w : Rules States Targets) (d : Databases Ids States Targets) (Shows : M → List (Ids × States) → Type 0) (next : Ids) (at : Ids × States) (start : at.1 ≡ d.initial) (t : Targets) (list : List Target) (listed : list ≡ w.listed t) where
  pub targets_initial : (states : Option States) → t ≡ d.target_of d.initial → states ≡ Some at.1 → list ≡ targets_after w d.target_of d.initial states
  targets_initial states is kept = rw (kept, start, listed, is) refl

  pub targets_nothing : (states : Option States) → t ≡ d.target_of d.initial → states ≡ None → list ≡ targets_after w d.target_of d.initial states
  targets_nothing states is kept = rw (kept, listed, is) refl

  pub targets_sealed : (m : M) (states : Option States) → ((p : Ids × States) (c : List (Ids × States)) → Shows m (p ∷ c) → t ≡ d.target_of p.1) → MatchOption states ⊥ (LeadsTo d Shows next at m) → list ≡ targets_after w d.target_of d.initial states
  targets_sealed m None targets leads = absurd leads
  targets_sealed m (Some s) targets leads = listed ∙ ap w.listed (targets (leads.own, s) (leads.above ++ at ∷ []) leads.shown)
