use Rattle.std.proofs.Common.{◌≡◌, ◌++◌, ◌∷◌, take, map}
use Rattle.std.specs.List.{flat_map}
use Rattle.stateful_script_text.specs.Transcript.{balance_text}
use Rattle.stateful_script_text.proofs.whole.push_balances.Given as goal

abbrev pub invariant-loop-account : goal.invariant-loop-account
invariant-loop-account l =
    l.out.items ≡ l.initial.out.items ++ flat_map (λ field. 32 ∷ field) (map balance_text (take l.account-index l.balances))
