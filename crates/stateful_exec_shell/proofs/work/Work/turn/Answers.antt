use Rattle.std.proofs.Common.{◌≢◌, ◌∷◌, inr, sym, ◌∙◌}
use Rattle.stateful_db_plain.specs.Whole.{begun}
use Rattle.stateful_exec_shell.specs.declared.block.End.TheVariants.{Nothing}
use Rattle.stateful_exec_shell.proofs.Working.{sealed_ends}
use Rattle.stateful_exec_shell.proofs.work.Work.turn.Goals as goal

-- the batch that was there is sealed
pub returns-clause-ok : goal.returns-clause-ok
returns-clause-ok c = λ own at below stands here.
    let held = sym c.take.ensures.value ∙ c.in-Some.is in
    let isnt : c.args.self.now.end ≢ Nothing = λ nothing. let states = c.in-States.is in cc in
    sealed_ends _ _ own at below _ isnt (c.in_ok-sealed.ensures.ok ((own, begun at.1) ∷ at ∷ below) (rw held at stands) (inr here))
