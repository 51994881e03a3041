-- What the rules need of the machine and the databases, whatever came before.
use Rattle.std.specs.Prelude.{◌≡◌, ◌<◌, ◌≤◌, ◌+◌, ◌⊎◌, ◌++◌, ◌∷◌, [], ℕ, zero, suc, true, Option}
use Rattle.std.specs.Prelude.{Some, None, List, All, Any, map, length}
use Rattle.stateful_db.specs.declared.barrier.Flushed.TheVariants.{Good, Interrupted}
use Rattle.stateful_db.specs.declared.barrier.Handle.{Handle}
use Rattle.stateful_durability.specs.Durability.{Coverage}
use Rattle.stateful_exec_model.specs.Finalizing.{front_at}
use Rattle.stateful_exec_model.specs.Workings.{Workings, Point}
use Rattle.stateful_exec_model.specs.declared.front.Front.{Front}
use Rattle.stateful_exec_model.specs.declared.front.Stage.{Stage}
use Rattle.stateful_exec_model.specs.declared.front.Stage.TheVariants.{Begun, Running, Ran, Advanced}
use Rattle.stateful_exec_model.specs.declared.front.Stage.TheVariants.{Hooking}
use Rattle.stateful_loop_model.specs.Moments.{Moment}
use Rattle.stateful_loop_model.specs.declared.barriers.Active.{Active}
use Rattle.stateful_loop_model.specs.declared.tables.Finalizing.{Finalizing}

-- the place of a token that is out: until a good flush of it
abbrev pub out_of : Handle → List ℕ
out_of handle =
    elim handle.answer [
      | None ↦ handle.token.place ∷ []
      | Some answer ↦ elim answer [ Good ↦ [] | Interrupted ↦ handle.token.place ∷ [] ]
    ]

-- the place of the token of a database that is out, if it is
abbrev pub out_in : List Handle → ℕ → List ℕ
out_in [] i = []
out_in (handle ∷ handles) zero = out_of handle
out_in (handle ∷ handles) (suc i) = out_in handles i

-- the places of the tokens of a database that are out, by the barriers' order
abbrev pub out_at : List Active → ℕ → List ℕ
out_at [] i = []
out_at (active ∷ barriers) i = out_in active.barrier i ++ out_at barriers i

-- a height has a receipt
abbrev pub HasReceipt : Coverage → ℕ → Type 0
HasReceipt c n = Any (λ receipt. receipt.0 ≡ n) c.held

-- a block that was applied has its receipt where it isn't durable
abbrev pub IsHeldFor : Coverage → ℕ → Type 0
IsHeldFor c n = (n ≤ c.durable) ⊎ HasReceipt c n

module _ {B C I P R D H G U : Type 0} (w : Workings B C I P R D H G U) where
  -- the finalization in front is that of execution: until its block is applied it is of the next
  -- height, and nothing was captured; from then on it is of the last applied height, which has no
  -- receipt yet
  abbrev pub AgreesWith : Coverage → Finalizing B G → Stage R U H → Type 0
  AgreesWith c f Begun = (f.captured ≡ None) × (w.header.height f.block.block ≡ c.applied + 1)
  AgreesWith c f (Running j run) =
      (f.captured ≡ None) × (w.header.height f.block.block ≡ c.applied + 1)
  AgreesWith c f (Ran batch) = (f.captured ≡ None) × (w.header.height f.block.block ≡ c.applied + 1)
  AgreesWith c f Advanced =
      (w.header.height f.block.block ≡ c.applied) × All (λ receipt. receipt.0 < c.applied) c.held
  AgreesWith c f (Hooking j hook) =
      (f.captured ≡ None)
      × (w.header.height f.block.block ≡ c.applied)
      × All (λ receipt. receipt.0 < c.applied) c.held

  -- each applied height that isn't durable has a receipt, but for that of the block that is being
  -- finalized
  abbrev pub AreHeld : Coverage → Option (Finalizing B G) → Type 0
  AreHeld c None = (n : ℕ) → n ≤ c.applied → IsHeldFor c n
  AreHeld c (Some f) = (n : ℕ) → n ≤ c.applied → n < w.header.height f.block.block → IsHeldFor c n

  -- the finalization of the loop and that of execution are one
  abbrev pub FrontAgrees : Coverage → Option (Finalizing B G) → Option (Front B R U H) → Type 0
  FrontAgrees c None front = front ≡ None
  FrontAgrees c (Some f) front =
      (stage : Stage R U H) × (front ≡ front_at f.block stage) × AgreesWith c f stage

  -- What holds of a machine that is up: its databases are here, at the anchor's height; the tokens
  -- that are out are those with which the open barriers await answers; and the receipts and the
  -- finalization in front are those of its heights.
  pub record IsUp (m : Moment w) : Type 0 where
    pub point : Point w
    pub here : w.kind.point m.members ≡ Some point
    pub applied : m.loop.durability.applied ≡ m.execution.state.anchor.height.0
    pub heights : map (λ active. active.height.0) m.loop.barriers ≡ m.loop.durability.barriers
    pub few : length m.loop.barriers ≤ 2
    pub counts : All (λ active. length active.barrier ≡ w.kind.count) m.loop.barriers
    pub tokens : (i : ℕ) → i < w.kind.count → w.kind.tokens m.members i ≡ out_at m.loop.barriers i
    pub front : FrontAgrees m.loop.durability m.loop.front m.execution.front
    pub held : AreHeld m.loop.durability m.loop.front

  -- no database is away, and what holds of a machine that is up holds where it is
  pub record Sound (m : Moment w) : Type 0 where
    pub none_away : w.kind.NoneAway m.members
    pub up : m.loop.up ≡ true → IsUp m
