-- What is first among the actions and the messages is taken.
use Rattle.std.proofs.Common.{◌≡◌, ◌∷◌, ◌++◌, ◌⊎◌, [], ℕ, true, false, List, Option, IsSome, inl, inr, sym, ap, ◌∙◌}
use Rattle.stateful_base.specs.Names.{Named}
use Rattle.stateful_exec_model.specs.Causes.{FaultsAcquire}
use Rattle.stateful_exec_tables.specs.Tables.{requested}
use Rattle.stateful_exec_model.specs.Workings.{Workings}
use Rattle.stateful_exec_walk.specs.declared.request.Request.{Request}
use Rattle.stateful_loop_model.specs.Causes.{Via, FaultsMessage, FaultsRule}
use Rattle.stateful_loop_model.specs.Causes.FaultsRule.{memory, scheduling, taking}
use Rattle.stateful_loop_model.specs.Message.{is_verification}
use Rattle.stateful_loop_model.specs.Moments.{Moment, inner, with_loop}
use Rattle.stateful_loop_model.specs.Rules.{IsCollected, IsCalm, Takes, Schedules, Rule}
use Rattle.stateful_loop_model.specs.Rules.Takes.{of_message}
use Rattle.stateful_loop_model.specs.Rules.Rule.{schedules, puts_off}
use Rattle.stateful_loop_model.specs.declared.error.StepError.{StepError}
use Rattle.stateful_loop_model.specs.declared.error.StepError.TheVariants.{OutOfMemory}
use Rattle.stateful_loop_model.specs.declared.message.Action.{Action}
use Rattle.stateful_loop_model.specs.declared.message.Action.TheVariants as action
use Rattle.stateful_loop_model.specs.declared.message.Message.{Message}
use Rattle.stateful_loop_model.specs.declared.message.Message.TheVariants as message

module _ {B C I P R D H G U : Type 0} (w : Workings B C I P R D H G U) (stored : ℕ → Option (Named B)) (m : Moment w) where
  -- with these in the mailbox and these actions
  abbrev pub left : List (Message B C I) → List (Action B C I) → Moment w
  left queue actions = with_loop w m (record m.loop { queue = queue; actions = actions })

  -- while a build goes on
  module _ (queue : List (Message B C I)) (collected : IsCollected w m) (build : IsSome m.execution.build) where
    module _ (x : Message B C I) (first : m.loop.queue ≡ x ∷ queue) where
      pub put_off : (provider : P) (actions : List (Action B C I)) → is_verification x ≡ false → actions ≡ m.loop.actions ++ action.Message x ∷ [] → Rule w stored provider m (left queue actions)
      put_off provider actions other is = puts_off collected build first other (ap (left queue) is)

      module _ (request : Request B C I) (is : x ≡ message.Request request) (verifies : is_verification x ≡ true) where
        same : m.loop.queue ≡ message.Request request ∷ queue
        same = first ∙ ap (λ (y : Message B C I). y ∷ queue) is

        verifying : is_verification (message.Request request) ≡ true
        verifying = sym (ap is_verification is) ∙ verifies

        pub drained : (provider : P) (now : Moment w) → Schedules w stored request (left queue m.loop.actions) now → Rule w stored provider m now
        drained provider now does = schedules collected build same verifying does

        pub not_drained : (rose : Type 0) (before now : ℕ → ℕ) (new : w.kind.Members) (e : StepError) → Via (FaultsAcquire w rose stored (inner w m) (requested request)) e
            → FaultsRule w stored rose before now new m e
        not_drained rose before now new e cause = scheduling collected build same verifying cause

  -- with nothing in front
  module _ (calm : IsCalm w m) where
    module _ (actions : List (Action B C I)) (none : m.loop.actions ≡ []) (none_left : actions ≡ []) where
      untouched : (queue : List (Message B C I)) → left queue actions ≡ with_loop w m (record m.loop { queue = queue })
      untouched queue = ap (left queue) (none_left ∙ sym none)

      pub takes_message : (x : Message B C I) (queue : List (Message B C I)) → m.loop.queue ≡ x ∷ queue → Takes w x m (left queue actions)
      takes_message x queue first = of_message none first (untouched queue)

    pub not_taken : (rose : Type 0) (before now : ℕ → ℕ) (new : w.kind.Members) (x : Message B C I) (mid : Moment w) (e : StepError) → Takes w x m mid
        → (e ≡ OutOfMemory) ⊎ FaultsMessage w stored rose before now new mid x e → FaultsRule w stored rose before now new m e
    not_taken rose before now new x mid e taken (inl refused) = memory refused
    not_taken rose before now new x mid e taken (inr cause) = taking calm taken cause
