-- What is shown of databases is one list.
use Rattle.std.proofs.Common.{◌≡◌, ℕ, refl, sym, ◌∙◌}
use Rattle.std.specs.Ordering.{nat_cmp}
use Rattle.stateful_db.specs.Member.{Member, here, closed, lost, away}
use Rattle.stateful_db_any.specs.Any.{State}
use Rattle.stateful_db_any.specs.Entries.{HasOneList}
use Rattle.stateful_script_text.specs.declared.shown.Shown.{Shown}
use Rattle.stateful_play_bank.specs.declared.playing.Databases.TheVariants as databases
use Rattle.stateful_play_bank.specs.Database.{ShowsKeys}
use Rattle.stateful_play_bank.specs.Shown.{AreShownOnce}
use Rattle.stateful_bank_logs.specs.Kept.{balances_member}

module _ (one : HasOneList ℕ nat_cmp) where
  keys_once : (m : Member (State ℕ ℕ)) (shown other : Shown) → ShowsKeys m shown → ShowsKeys m other → shown ≡ other
  keys_once (here s) shown other x y = rw (x.2, y.2, one s.disk.newest x.0 y.0 x.1 y.1) refl
  keys_once (closed disk) shown other x y = x ∙ sym y
  keys_once (lost disk) shown other x y = x ∙ sym y
  keys_once away shown other x y = x ∙ sym y

  pub shown_once : AreShownOnce
  shown_once (databases.Plain d) shown others x y = x ∙ sym y
  shown_once (databases.Pair d) shown others x y = rw (x.2, y.2, keys_once (balances_member d.0) x.0 y.0 x.1 y.1) refl
  shown_once (databases.Triple d) shown others x y = rw (x.2, y.2, keys_once (balances_member d.0) x.0 y.0 x.1 y.1) refl
