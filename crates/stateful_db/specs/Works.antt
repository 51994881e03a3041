-- How an application works: what its blocks do to states, what its builds may give, and what its
-- runs, builds and hooks are of.
use Rattle.std.specs.Prelude.{◌≡◌, ℕ, ◌+◌, ◌<◌, Option, Some, None, List, ◌∷◌}
use Rattle.stateful_base.specs.declared.block.Ancestry.{Ancestry}
use Rattle.stateful_base.specs.declared.outcome.Finality.{Finality}
use Rattle.stateful_base.specs.declared.outcome.Handoff.{Handoff}
use Rattle.stateful_base.specs.declared.outcome.Handoff.TheVariants as handed
use Rattle.stateful_base.specs.declared.outcome.Moved.{Moved}
use Rattle.stateful_base.specs.declared.outcome.Moved.TheVariants as moved
use Rattle.stateful_db.specs.Meaning.{Meaning}
use Rattle.stateful_db.specs.declared.application.Hooked.{Hooked}
use Rattle.stateful_db.specs.declared.application.Hooked.TheVariants as hooked
use Rattle.stateful_db.specs.declared.application.ProposalKind.{ProposalKind}
use Rattle.stateful_db.specs.declared.application.ProposedBlock.{ProposedBlock}

-- What a request to build asks for: a block on this parent, in this context, of this input.
pub record Asked (Block Context Input : Type 0) : Type 0 where
  pub kind : ProposalKind
  pub context : Context
  pub parent : Block
  pub input : Input

-- What a run is of: the first block of this ancestry, on batches of these ids over a chain of
-- points, the newest of which is this one.
pub record RunOf (Block Context Ids States : Type 0) : Type 0 where
  pub finality : Finality
  pub context : Context
  pub ancestry : Ancestry Block
  pub own : Ids
  pub at : Ids × States
  pub below : List (Ids × States)

-- What a build is of: a request, with what the machine gives to each build, on batches of these ids
-- over a chain of points.
pub record BuildOf (Block Context Input Provider Ids States : Type 0) : Type 0 where
  pub asked : Asked Block Context Input
  pub provider : Provider
  pub own : Ids
  pub at : Ids × States
  pub below : List (Ids × States)

-- What a hook is of: a finalized block, with the states before and after it.
pub record HookOf (Block Context States : Type 0) : Type 0 where
  pub context : Context
  pub block : Block
  pub before : States
  pub after : States

pub record Works
    (Block Context Input Provider Ids States Targets Run Build Hook Captured : Type 0) : Type 1
  where
    -- what blocks do to states
    pub meaning : Meaning Block States Targets
    -- a build on these states may hand this over: a block to vote on or to stage, or nothing
    pub gives : Asked Block Context Input → States → Handoff Block → Type 0
    -- how many turns a run of the block takes, a build for the request, and the hook behind the
    -- block, where that is told: by the states before, and for a hook by those after
    pub run_cost : Finality → States → Block → Option ℕ
    pub build_cost : Asked Block Context Input → States → Option ℕ
    pub hook_cost : Block → States → Option ℕ
    -- the run is of this, and so many turns were taken
    pub runs : Run → RunOf Block Context Ids States → ℕ → Type 0
    -- the build is of this, and so many turns were taken
    pub building : Build → BuildOf Block Context Input Provider Ids States → ℕ → Type 0
    -- this was read for the block, in this context, of these states, which are those before it
    pub captures : Captured → Context → Block → States → Type 0
    -- this is left to do behind a finalized block, once so many turns of its hook were taken
    pub hooks : Hooked Hook → HookOf Block Context States → ℕ → Type 0
    -- what the application keeps of the blocks that were finalized, and what it keeps once one more
    -- was
    pub Notes : Type 0
    pub noted : Notes → Block → Notes

-- a turn after so many others: the last one where the cost is reached, and else not
abbrev pub Costs : {T : Type 0} → Option ℕ → Moved T → ℕ → Type 0
Costs None moved turns = Unit {0}
Costs (Some cost) moved.Pending turns = turns + 1 < cost
Costs (Some cost) (moved.Done value) turns = cost ≡ turns + 1

-- a hook is left where it costs any turn
abbrev pub CostsHook : {H : Type 0} → Option ℕ → Hooked H → Type 0
CostsHook None left = Unit {0}
CostsHook (Some cost) hooked.Done = cost ≡ 0
CostsHook (Some cost) (hooked.Pending hook) = 0 < cost

-- a request of this kind, on the first block of this ancestry
abbrev pub asked_for : {Block Context Input : Type 0}
    → ProposalKind
    → Context
    → Ancestry Block
    → Input
    → Asked Block Context Input
asked_for kind context ancestry input =
    record { kind = kind; context = context; parent = ancestry.first.block; input = input }

module _ {Block Context Input Provider Ids States : Type 0} where
  abbrev pub build_of : Asked Block Context Input
      → Provider
      → Ids
      → Ids × States
      → List (Ids × States)
      → BuildOf Block Context Input Provider Ids States
  build_of asked provider own at below =
      record { asked = asked; provider = provider; own = own; at = at; below = below }

module _ {Block Context Ids States : Type 0} where
  abbrev pub run_of : Finality
      → Context
      → Ancestry Block
      → Ids
      → Ids × States
      → List (Ids × States)
      → RunOf Block Context Ids States
  run_of finality context ancestry own at below =
      record {
        finality =
            finality;
        context = context;
        ancestry = ancestry;
        own = own;
        at = at;
        below = below;
      }

abbrev pub hook_of : {Block Context States : Type 0}
    → Context
    → Block
    → States
    → States
    → HookOf Block Context States
hook_of context block before after =
    record { context = context; block = block; before = before; after = after }

-- the block of a run
abbrev pub block_of : {Block Context Ids States : Type 0} → RunOf Block Context Ids States → Block
block_of r = r.ancestry.first.block

-- the chain of points on which a run or a build stands, its own first, with these states
abbrev pub run_chain : {Block Context Ids States : Type 0}
    → RunOf Block Context Ids States
    → States
    → List (Ids × States)
run_chain r s = (r.own, s) ∷ r.at ∷ r.below

abbrev pub build_chain : {Block Context Input Provider Ids States : Type 0}
    → BuildOf Block Context Input Provider Ids States
    → States
    → List (Ids × States)
build_chain b s = (b.own, s) ∷ b.at ∷ b.below

module _ {Block Context Input Provider Ids States Targets Run Build Hook Captured : Type 0}
    (w : Works Block Context Input Provider Ids States Targets Run Build Hook Captured) where
  -- each run takes a turn at least, where that is told, and so does each build
  pub record TakesTurns : Type 0 where
    pub runs : (f : Finality) (s : States) (b : Block) (n : ℕ) → w.run_cost f s b ≡ Some n → 0 < n
    pub builds : (asked : Asked Block Context Input) (s : States) (n : ℕ)
        → w.build_cost asked s ≡ Some n → 0 < n

  -- the block with this batch, which shows the states after it, is handed over so
  pub record Hands {Batch : Type 0} (Shows : Batch → List (Ids × States) → Type 0)
      (b : BuildOf Block Context Input Provider Ids States) (given : Handoff Block) (block : Block)
      (batch : Batch) : Type 0 where
    pub gives : w.gives b.asked b.at.1 given
    pub states : States
    pub steps : w.meaning.step b.at.1 block ≡ Some states
    pub shown : Shows batch (build_chain b states)

  -- a turn of a build goes on, or ends: with nothing, or with a block and a batch that shows the
  -- states after it
  abbrev pub BuildEnds : {Batch : Type 0}
      → Moved (Handoff (ProposedBlock Block Batch))
      → (Batch → List (Ids × States) → Type 0)
      → BuildOf Block Context Input Provider Ids States
      → Type 0
      → Type 0
  BuildEnds moved.Pending Shows b GoesOn = GoesOn
  BuildEnds (moved.Done handed.Wait) Shows b GoesOn = w.gives b.asked b.at.1 handed.Wait
  BuildEnds (moved.Done (handed.Vote p)) Shows b GoesOn =
      Hands Shows b (handed.Vote p.block) p.block p.merkleized
  BuildEnds (moved.Done (handed.Stage p)) Shows b GoesOn =
      Hands Shows b (handed.Stage p.block) p.block p.merkleized
