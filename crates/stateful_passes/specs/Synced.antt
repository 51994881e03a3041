-- The database that a sync makes.
use Rattle.std.specs.Prelude.{◌≡◌, ℕ, [], Option}
use Rattle.stateful_base.specs.declared.target.Target.{Target}
use Rattle.stateful_db.specs.Calls.{Calls}
use Rattle.stateful_db.specs.Disk.{Disk, Standing}

module _ {S : Type 0} where
  -- one durable checkpoint alone
  abbrev pub only : S → Disk S
  only s = record { older = []; newest = s; pruned = 0; durable = 0 }

  -- opened at one durable checkpoint alone
  abbrev pub synced : S → Standing S
  synced s = record { id = 0; disk = only s; out = [] }

  -- A database is opened at this state alone, which has the sync's target. It has the next batch
  -- id, the count and the calls of the medium.
  pub record Makes (s : S) (of_s aim : Target) (db : Standing S) (n n_new k k_new : ℕ)
      (c c_new : Option Calls) : Type 0 where
    pub standing : db ≡ synced s
    pub target : of_s ≡ aim
    pub next : n_new ≡ n
    pub count : k_new ≡ k
    pub calls : c_new ≡ c
