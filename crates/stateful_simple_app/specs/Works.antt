-- How applications work that take one turn.
use Rattle.std.proofs.Common.{◌≡◌, ◌<◌, ◌+◌, ℕ, List, ◌∷◌, Option, Some, None, IsSomeAnd, arith}
use Rattle.std.specs.Prelude.{option_and_then}
use Rattle.std.specs.Option.{option_map}
use Rattle.std.proofs.lemmas.Option.{same_Some}
use Rattle.sha2.specs.Sha256.{sha256}
use Rattle.stateful_base.specs.declared.round.Round.{Round}
use Rattle.stateful_base.specs.declared.target.Target.{Target}
use Rattle.stateful_base.specs.declared.outcome.Finality.TheVariants.{Candidate}
use Rattle.stateful_base.specs.declared.outcome.Handoff.{Handoff}
use Rattle.stateful_base.specs.declared.outcome.Handoff.TheVariants.{Wait, Vote, Stage}
use Rattle.stateful_db.specs.declared.application.Hooked.TheVariants.{Done}
use Rattle.stateful_db.specs.Works.{Works, Asked, RunOf, BuildOf, TakesTurns}
use Rattle.stateful_db_plain.specs.Whole.{Whole, begun, target_of}
use Rattle.stateful_db_plain.specs.Shown.{DraftShows}
use Rattle.stateful_simple_app.specs.Blocks.{block_bytes}
use Rattle.stateful_simple_app.specs.Rules.{Rules, run_outcome, one_turn_meaning}
use Rattle.stateful_simple_app.specs.Drafts.{Place}
use Rattle.stateful_simple_app.specs.declared.block.PayloadBlock.{PayloadBlock}
use Rattle.stateful_simple_app.specs.declared.run.OneTurnRun.{OneTurnRun}
use Rattle.stateful_simple_app.specs.declared.build.Header.{Header}
use Rattle.stateful_simple_app.specs.declared.build.OneTurnBuild.{OneTurnBuild}
use Rattle.stateful_simple_app.specs.declared.application.NoHook.{NoHook}

-- what runs and builds are of
abbrev pub OneTurnRunOf : Type 0 → Type 0
OneTurnRunOf P = RunOf (PayloadBlock P) Round ℕ Whole

abbrev pub OneTurnBuildOf : Type 0 → Type 0 → Type 0
OneTurnBuildOf P I = BuildOf (PayloadBlock P) Round I (Unit {0}) ℕ Whole

-- what a request to build asks for
abbrev pub OneTurnAsked : Type 0 → Type 0 → Type 0
OneTurnAsked P I = Asked (PayloadBlock P) Round I

-- where the batch of a build stands
abbrev pub place_of : {P I : Type 0} → OneTurnBuildOf P I → Place
place_of b = record { own = b.own; at = b.at; below = b.below }

-- the run is of this, and no turn was taken: it has its block and a batch without changes
pub record IsRun {P : Type 0} (run : OneTurnRun P) (r : OneTurnRunOf P) (turns : ℕ) : Type 0 where
  pub turns_are : turns ≡ 0
  pub finality_is : run.finality ≡ r.finality
  pub block_is : run.block ≡ r.ancestry.first
  pub batch : IsSomeAnd run.batch (λ u. DraftShows u ((r.own, begun r.at.1) ∷ r.at ∷ r.below))

module _ {P : Type 0} (bytes : P → List ℕ) where
  -- the place of the block that a request asks for: one above its parent, which is named by the
  -- digest of the parent's bytes
  abbrev pub header_for : {I : Type 0} → OneTurnAsked P I → Header
  header_for a = record {
    parent = record { 0 = sha256 (block_bytes bytes a.parent) };
    height = record { 0 = a.parent.height.0 + 1 };
    round = a.context;
  }

  -- the block that a request asks for, which carries this and leads to this state
  abbrev pub block_for : {I : Type 0} → OneTurnAsked P I → P → Whole → PayloadBlock P
  block_for a payload whole = record {
    parent = (header_for a).parent;
    height = (header_for a).height;
    round = (header_for a).round;
    payload = payload;
    target = target_of whole;
  }

  -- the build is of this, and no turn was taken: it has its place in the chain, what its request
  -- brings, and a batch without changes
  pub record IsBuild {I : Type 0} (build : OneTurnBuild I) (b : OneTurnBuildOf P I)
      (turns : ℕ) : Type 0 where
    pub turns_are : turns ≡ 0
    pub header_is : build.header ≡ header_for b.asked
    pub work : IsSomeAnd build.work (λ w. (w.0 ≡ b.asked.input)
        × DraftShows w.1 ((b.own, begun b.at.1) ∷ b.at ∷ b.below))

  module _ {I : Type 0} (rules : Rules P I) where
    -- the block that a request asks for on this state, where it asks for one that is acceptable and
    -- leads to a state
    abbrev pub built_on : OneTurnAsked P I → Whole → Option (PayloadBlock P)
    built_on a whole =
        option_and_then
        (λ payload. option_map (block_for a payload) (run_outcome rules Candidate whole payload))
        (rules.choose whole.entries a.input)

    -- a build for the request on this state hands that block over to be voted on, and nothing where
    -- there is none
    abbrev pub Gives : OneTurnAsked P I → Whole → Handoff (PayloadBlock P) → Type 0
    Gives a whole Wait = built_on a whole ≡ None
    Gives a whole (Vote b) = built_on a whole ≡ Some b
    Gives a whole (Stage b) = ⊥

one_turn : (n : ℕ) → Some 1 ≡ Some n → 0 < n
one_turn n is = let one = same_Some 1 n is in omega arith

module _ {P I : Type 0} (rules : Rules P I) (bytes : P → List ℕ) where
  -- A run and a build take one turn. Nothing is read before a block is applied, and nothing is left
  -- to do after it.
  abbrev pub one_turn_works : Works (PayloadBlock P) Round I
      (Unit {0}) ℕ Whole Target (OneTurnRun P) (OneTurnBuild I) NoHook (Unit {0})
  one_turn_works = record {
    meaning = one_turn_meaning rules;
    gives = Gives bytes rules;
    run_cost = λ finality whole block. Some 1;
    build_cost = λ asked whole. Some 1;
    hook_cost = λ block whole. Some 0;
    runs = IsRun;
    building = IsBuild bytes;
    captures = λ captured context block whole. Unit {0};
    hooks = λ hooked h turns. hooked ≡ Done;
    Notes = Unit {0};
    noted = λ notes block. notes;
  }

  -- a run and a build take a turn at least
  pub one_turn_takes_turns : TakesTurns one_turn_works
  one_turn_takes_turns =
      record { runs = λ f s b n is. one_turn n is; builds = λ asked s n is. one_turn n is }
