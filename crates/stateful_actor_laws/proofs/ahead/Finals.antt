-- The finalized blocks among messages and actions, as these come and go.
use Rattle.std.proofs.Common.{◌≡◌, ◌++◌, ◌∷◌, [], ℕ, Bool, true, false, not, ◌==◌, List, filter, refl, sym, ap, ◌∙◌, append_assoc, append-nil}
use Rattle.stateful_base.specs.Names.{Named}
use Rattle.stateful_loop_model.specs.Message.{asks_of, asks_for}
use Rattle.stateful_loop_model.specs.declared.message.Action.{Action}
use Rattle.stateful_loop_model.specs.declared.message.Action.TheVariants as action
use Rattle.stateful_loop_model.specs.declared.message.Message.{Message}
use Rattle.stateful_loop_model.specs.declared.message.Message.TheVariants as message
use Rattle.stateful_actor_laws.specs.Ahead.{final_in, final_under, finals_in, finals_under}

module _ {B C I : Type 0} where
  pub finals_in-append : (xs ys : List (Message B C I)) → finals_in (xs ++ ys) ≡ finals_in xs ++ finals_in ys
  finals_in-append [] ys = refl
  finals_in-append (x ∷ xs) ys =
      ap (λ (bs : List (Named B)). final_in x ++ bs) (finals_in-append xs ys) ∙ sym (append_assoc (final_in x) (finals_in xs) (finals_in ys))

  pub finals_under-append : (xs ys : List (Action B C I)) → finals_under (xs ++ ys) ≡ finals_under xs ++ finals_under ys
  finals_under-append [] ys = refl
  finals_under-append (x ∷ xs) ys =
      ap (λ (bs : List (Named B)). final_under x ++ bs) (finals_under-append xs ys)
      ∙ sym (append_assoc (final_under x) (finals_under xs) (finals_under ys))

  -- an action more, which hands over nothing
  pub finals-built : (xs : List (Action B C I)) (t : ℕ) → finals_under (xs ++ action.Build t ∷ []) ≡ finals_under xs
  finals-built xs t = finals_under-append xs (action.Build t ∷ []) ∙ append-nil (finals_under xs)

  -- the first message goes behind the actions
  pub finals-put_off : (xs : List (Action B C I)) (x : Message B C I) (rest : List (Message B C I))
      → finals_under (xs ++ action.Message x ∷ []) ++ finals_in rest ≡ finals_under xs ++ finals_in (x ∷ rest)
  finals-put_off xs x rest =
      ap (λ (bs : List (Named B)). bs ++ finals_in rest)
      (finals_under-append xs (action.Message x ∷ []) ∙ ap (λ (bs : List (Named B)). finals_under xs ++ bs) (append-nil (final_in x)))
      ∙ append_assoc (finals_under xs) (final_in x) (finals_in rest)

  -- a message more
  pub finals-entered : (xs : List (Action B C I)) (queue : List (Message B C I)) (x : Message B C I)
      → finals_under xs ++ finals_in (queue ++ x ∷ []) ≡ (finals_under xs ++ finals_in queue) ++ final_in x
  finals-entered xs queue x =
      ap (λ (bs : List (Named B)). finals_under xs ++ bs)
      (finals_in-append queue (x ∷ []) ∙ ap (λ (bs : List (Named B)). finals_in queue ++ bs) (append-nil (final_in x)))
      ∙ sym (append_assoc (finals_under xs) (finals_in queue) (final_in x))

  -- a message that is of a request hands over nothing
  asked : (x : Message B C I) (t : ℕ) → asks_of x t ≡ true → final_in x ≡ []
  asked (message.Request request) t is = refl
  asked (message.Subscribe u) t is = refl
  asked (message.Finalized u b) t is = cc

  asked_for : (x : Action B C I) (t : ℕ) → asks_for x t ≡ true → final_under x ≡ []
  asked_for (action.Message x) t is = asked x t is
  asked_for (action.Build u) t is = refl

  -- requests that are given up hand over nothing
  pub finals-given_up : (t : ℕ) (xs : List (Message B C I)) → finals_in (filter (λ x. not (asks_of x t)) xs) ≡ finals_in xs
  finals-given_up t [] = refl
  finals-given_up t (x ∷ xs) = of (asks_of x t) refl (finals-given_up t xs)
    where
      of : (v : Bool) → asks_of x t ≡ v → finals_in (filter (λ y. not (asks_of y t)) xs) ≡ finals_in xs
          → finals_in (filter (λ y. not (asks_of y t)) (x ∷ xs)) ≡ finals_in (x ∷ xs)
      of true is rest = rw is (rest ∙ ap (λ (bs : List (Named B)). bs ++ finals_in xs) (sym (asked x t is)))
      of false is rest = rw is (ap (λ (bs : List (Named B)). final_in x ++ bs) rest)

  pub finals-put_off_given_up : (t : ℕ) (xs : List (Action B C I)) → finals_under (filter (λ x. not (asks_for x t)) xs) ≡ finals_under xs
  finals-put_off_given_up t [] = refl
  finals-put_off_given_up t (x ∷ xs) = of (asks_for x t) refl (finals-put_off_given_up t xs)
    where
      of : (v : Bool) → asks_for x t ≡ v → finals_under (filter (λ y. not (asks_for y t)) xs) ≡ finals_under xs
          → finals_under (filter (λ y. not (asks_for y t)) (x ∷ xs)) ≡ finals_under (x ∷ xs)
      of true is rest = rw is (rest ∙ ap (λ (bs : List (Named B)). bs ++ finals_under xs) (sym (asked_for x t is)))
      of false is rest = rw is (ap (λ (bs : List (Named B)). final_under x ++ bs) rest)
