use Rattle.std.proofs.Common.{subst, Ok, Err}
use Rattle.stateful_types.specs.declared.request.Request.{Request}
use Rattle.stateful_db_source.specs.declared.source.ServeFault.{ServeFault}
use Rattle.stateful_db_source.specs.declared.source.ServeFault.TheVariants as serve
use Rattle.stateful_db_pass.specs.Fetched.{request}
use Rattle.stateful_db_pass.specs.Progress.{not_served, failed, wanted}
use Rattle.stateful_db_pass.proofs.Keeping.{progressed, told_target}
use Rattle.stateful_db_pass.proofs.pass.LogPass.progress.Goals as goal

-- the response is taken
pub returns-in-Ok-clause-progresses : goal.returns-in-Ok-clause-progresses
returns-in-Ok-clause-progresses g c = λ lacks. (
  Ok c.in-Ok.response,
  subst (λ (r : Request). g.R.SyncSource.serves c.args.source.now r (Ok c.in-Ok.response) c.serve.new.self) c.request.ensures c.in-Ok.ensures.serves,
  progressed g.Op.Linked.linked g.Op.Linked.alone c.args.self.now c.take.new.self c.in-Ok.response c.take.result c.take.ensures.ok c.take.ensures.err,
)

pub returns-in-Ok-clause-reached : goal.returns-in-Ok-clause-reached
returns-in-Ok-clause-reached g c =
    told_target g.Op.Linked.linked g.Op.Linked.alone c.args.self.now c.take.new.self c.in-Ok.response c.take.result c.take.ensures.ok

-- nothing changes
pub returns-in-Err-NotServed-clause-progresses : goal.returns-in-Err-NotServed-clause-progresses
returns-in-Err-NotServed-clause-progresses g c = λ lacks. (
  Err serve.NotServed,
  subst (λ (e : ServeFault). g.R.SyncSource.serves c.args.source.now (request c.args.self.now) (Err e) c.serve.new.self) c.in-Err-NotServed.field-0-is
      (subst (λ (r : Request). g.R.SyncSource.serves c.args.source.now r (Err c.in-Err-NotServed.field-0) c.serve.new.self) c.request.ensures c.in-Err-NotServed.ensures.serves),
  not_served,
)

pub returns-in-Err-Failed-clause-progresses : goal.returns-in-Err-Failed-clause-progresses
returns-in-Err-Failed-clause-progresses g c = λ lacks. (
  Err serve.Failed,
  subst (λ (e : ServeFault). g.R.SyncSource.serves c.args.source.now (request c.args.self.now) (Err e) c.serve.new.self) c.in-Err-Failed.field-0-is
      (subst (λ (r : Request). g.R.SyncSource.serves c.args.source.now r (Err c.in-Err-Failed.field-0) c.serve.new.self) c.request.ensures c.in-Err-Failed.ensures.serves),
  failed,
)

pub returns-in-Err-OutOfMemory-clause-progresses : goal.returns-in-Err-OutOfMemory-clause-progresses
returns-in-Err-OutOfMemory-clause-progresses g c = λ lacks. (
  Err serve.OutOfMemory,
  subst (λ (e : ServeFault). g.R.SyncSource.serves c.args.source.now (request c.args.self.now) (Err e) c.serve.new.self) c.in-Err-OutOfMemory.field-0-is
      (subst (λ (r : Request). g.R.SyncSource.serves c.args.source.now r (Err c.in-Err-OutOfMemory.field-0) c.serve.new.self) c.request.ensures c.in-Err-OutOfMemory.ensures.serves),
  wanted,
)
