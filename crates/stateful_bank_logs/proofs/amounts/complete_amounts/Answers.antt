use Rattle.stateful_bank_logs.proofs.amounts.complete_amounts.Goals as goal

pub returns-in_ok-complete_batch-in-Here : goal.returns-in_ok-complete_batch-in-Here
returns-in_ok-complete_batch-in-Here c = λ i p chain holds at. c.in_ok-complete_batch-in-Here.ensures i p chain holds
