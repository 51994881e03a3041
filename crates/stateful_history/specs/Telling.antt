-- What an application tells of its builds, of the turns that its jobs take, and of what it keeps of
-- finalized blocks.
use Rattle.std.specs.Prelude.{ℕ, Option}
use Rattle.stateful_base.specs.declared.outcome.Finality.{Finality}
use Rattle.stateful_base.specs.declared.outcome.Handoff.{Handoff}
use Rattle.stateful_db.specs.Works.{Works, Asked}

pub record Telling (B C I S : Type 0) : Type 1 where
  -- a build on these states may hand this over
  pub gives : Asked B C I → S → Handoff B → Type 0
  -- how many turns a run of the block, a build for the request and the hook behind the block take,
  -- where that is told
  pub run_cost : Finality → S → B → Option ℕ
  pub build_cost : Asked B C I → S → Option ℕ
  pub hook_cost : B → S → Option ℕ
  -- what is kept of the blocks that were finalized, and what is kept once one more was
  pub Notes : Type 0
  pub noted : Notes → B → Notes

-- what an application that works so tells
abbrev pub telling_of : {B C I P Ids S T R D H G : Type 0}
    → Works B C I P Ids S T R D H G
    → Telling B C I S
telling_of works = record {
  gives = works.gives;
  run_cost = works.run_cost;
  build_cost = works.build_cost;
  hook_cost = works.hook_cost;
  Notes = works.Notes;
  noted = works.noted;
}
