use Rattle.stateful_exec_cache.proofs.Found.{has_iff}
use Rattle.stateful_exec_cache.proofs.cache.Cache.has.Goals as goal

pub returns : goal.returns
returns g c = has_iff c.args.self.now c.args.digest c.find.result _ c.is_some.ensures c.find.ensures.found c.find.ensures.absent
