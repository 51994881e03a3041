use Rattle.std.proofs.Common.{refl}
use Rattle.stateful_db.specs.Works.{block_of}
use Rattle.stateful_bank_app.proofs.run.start_run.Goals as goal

pub returns-clause-run : goal.returns-clause-run
returns-clause-run g c = λ r finality block shown.
    record {
      finality_is = finality;
      block_is = block;
      progress = c.begin.result;
      progress_is = refl;
      turns_are = c.begin.ensures.done;
      done = c.begin.ensures.shown (block_of r).ops r.own r.at r.below shown;
    }
