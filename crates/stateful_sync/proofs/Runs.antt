-- What holds over many calls, by what holds of each.
use Rattle.std.proofs.Common.{◌≡◌, Option, List, [], ◌∷◌, ◌++◌, refl, sym, ap, subst, ◌∙◌, append_assoc}
use Rattle.std.proofs.lemmas.List.{append-nil}
use Rattle.std.proofs.lemmas.List.Concat.{flat_map-append}
use Rattle.stateful_sync.specs.Coordinator.{Coordination, Call, Steps}
use Rattle.stateful_sync.specs.Laws.{Turn, Runs, StandsBehind, last_of, tips, recorded, dispatches, dispatched}
use Rattle.stateful_sync.specs.declared.action.CoordinatorAction.{CoordinatorAction}

pub last_of_push : {A : Type 0} (x : A) (xs : List A) (y : A) → last_of x (xs ++ y ∷ []) ≡ y
last_of_push x [] y = refl
last_of_push x (z ∷ xs) y = last_of_push z xs y

-- a list in two empty parts
pub both_empty : {A : Type 0} (xs ys : List A) → xs ++ ys ≡ [] → (xs ≡ []) × (ys ≡ [])
both_empty [] ys e = (refl, e)
both_empty (x ∷ xs) ys e = absurd (cc)

module _ {T : Type 0} where
  -- one call as a turn
  abbrev pub turn_of : Call T → Option (CoordinatorAction T) → Coordination T → Turn T
  turn_of call answer next = record { call = call; answer = answer; after = next }

  -- calls in two parts
  pub run_split : (turns more : List (Turn T)) (s last : Coordination T) → Runs s (turns ++ more) last
      → (mid : Coordination T) × Runs s turns mid × Runs mid more last
  run_split [] more s last runs = (s, refl, runs)
  run_split (turn ∷ turns) more s last runs =
      let rest = run_split turns more turn.after last runs.1 in
      (rest.0, (runs.0, rest.1), rest.2)

  -- what each call keeps is kept, also where it speaks of the calls before
  pub kept : (I : List (Turn T) → Coordination T → Type 0)
      → ((past : List (Turn T)) (s : Coordination T) (call : Call T) (answer : Option (CoordinatorAction T)) (next : Coordination T)
      → Steps s call answer next → I past s → I (past ++ turn_of call answer next ∷ []) next)
      → (turns past : List (Turn T)) (s last : Coordination T) → Runs s turns last → I past s → I (past ++ turns) last
  kept I step [] past s last runs here = subst (λ w. I w last) (sym (append-nil past)) (subst (I past) (sym runs) here)
  kept I step (turn ∷ turns) past s last runs here =
      subst (λ w. I w last) (append_assoc past (turn ∷ []) turns)
      (kept I step turns (past ++ turn ∷ []) turn.after last runs.1 (step past s turn.call turn.answer turn.after runs.0 here))

  -- what one turn more records and dispatches
  pub tips_push : (past : List (Turn T)) (turn : Turn T) → tips (past ++ turn ∷ []) ≡ tips past ++ recorded turn.call
  tips_push past turn = flat_map-append (λ t. recorded t.call) past (turn ∷ []) ∙ ap (λ w. tips past ++ w) (append-nil (recorded turn.call))

  pub dispatches_push : (past : List (Turn T)) (turn : Turn T) → dispatches (past ++ turn ∷ []) ≡ dispatches past ++ dispatched turn.answer
  dispatches_push past turn = flat_map-append (λ t. dispatched t.answer) past (turn ∷ []) ∙ ap (λ w. dispatches past ++ w) (append-nil (dispatched turn.answer))

  -- a turn stands where it stood, with more behind it
  pub stands_more : (turns more before : List (Turn T)) (turn : Turn T) → StandsBehind turns before turn → StandsBehind (turns ++ more) before turn
  stands_more turns more before turn stands = record {
    behind = stands.behind ++ more;
    place = ap (λ w. w ++ more) stands.place ∙ append_assoc before (turn ∷ stands.behind) more;
  }

  pub stands_last : (past : List (Turn T)) (turn : Turn T) → StandsBehind (past ++ turn ∷ []) past turn
  stands_last past turn = record { behind = []; place = refl }
