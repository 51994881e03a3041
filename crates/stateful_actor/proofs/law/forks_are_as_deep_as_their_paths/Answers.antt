use Rattle.stateful_exec_laws.proofs.runs.ForkDepth.{runs-as-deep, builds-as-deep}
use Rattle.stateful_actor.proofs.law.forks_are_as_deep_as_their_paths.Goals as goal

pub returns : goal.returns
returns g c = record {
  runs = λ stored p points point next now m old new. runs-as-deep _ stored p points point next now m old new;
  builds = λ stored p points point next now m old new. builds-as-deep _ stored p points point next now m old new;
}
