-- Hooks, by the turns that they take.
use Rattle.std.specs.Prelude.{◌≡◌, ℕ, ◌+◌, ◌<◌}
use Rattle.stateful_base.specs.declared.outcome.Moved.{Moved}
use Rattle.stateful_base.specs.declared.outcome.Moved.TheVariants as moved
use Rattle.stateful_db.specs.declared.application.Hooked.{Hooked}
use Rattle.stateful_db.specs.declared.application.Hooked.TheVariants as hooked
use Rattle.stateful_bank_app.specs.declared.hook.BankHook.{BankHook}

-- of so many turns so many were taken: a hook has the others left, and there is none where no turn
-- is left
abbrev pub IsLeft : Hooked BankHook → ℕ → ℕ → Type 0
IsLeft hooked.Done turns taken = turns ≡ taken
IsLeft (hooked.Pending hook) turns taken = (taken + hook.left ≡ turns) × (taken < turns)

-- a turn goes on exactly where others are left
abbrev pub GoesOn : {T : Type 0} → Moved T → ℕ → Type 0
GoesOn moved.Pending left = 0 < left
GoesOn (moved.Done value) left = left ≡ 0

-- a hook never fails
abbrev pub hook_faults : BankHook → ℕ
hook_faults hook = 0
