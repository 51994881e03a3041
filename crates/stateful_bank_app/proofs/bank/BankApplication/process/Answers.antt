use Rattle.std.proofs.Common.{refl}
use Rattle.stateful_db.specs.Works.{run_of}
use Rattle.stateful_bank_app.proofs.bank.BankApplication.process.Goals as goal

pub returns-clause-run : goal.returns-clause-run
returns-clause-run g c = λ i p below shown. c.start_run.ensures.run (run_of c.args.finality c.args.context c.args.ancestry i p below) refl refl shown
