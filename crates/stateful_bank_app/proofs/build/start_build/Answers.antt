use Rattle.std.proofs.Common.{ap, Some}
use Rattle.stateful_bank_app.specs.Builds.{proposal_of}
use Rattle.stateful_bank_app.proofs.build.start_build.Goals as goal

pub returns-clause-build : goal.returns-clause-build
returns-clause-build g c = λ b same shown.
    record {
      progress = c.begin.result;
      work_is = ap (λ z. Some (z, c.begin.result)) same;
      turns_are = c.begin.ensures.done;
      done = c.begin.ensures.shown (proposal_of b.asked).ops b.own b.at b.below shown;
    }
