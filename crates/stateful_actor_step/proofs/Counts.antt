-- Counts that never fall.
use Rattle.std.proofs.Common.{arith}
use Rattle.stateful_exec_model.specs.Workings.{Workings}
use Rattle.stateful_loop_model.specs.Moments.{Moment}
use Rattle.stateful_actor_step.specs.Faults.{Tally, HasNotFallen, NeverFalls}

pub HasNotFallen-itself : (t : Tally) → HasNotFallen t t
HasNotFallen-itself t = record { application = omega arith; databases = λ i. omega arith }

pub HasNotFallen-further : (start before now : Tally) → HasNotFallen start before → HasNotFallen before now → HasNotFallen start now
HasNotFallen-further start before now first then = record {
  application = let a = first.application in let b = then.application in omega arith;
  databases = λ i. let a = first.databases i in let b = then.databases i in omega arith;
}

module _ {B C I P R D H G U : Type 0} {w : Workings B C I P R D H G U} where
  pub NeverFalls-itself : (t : Tally) (m : Moment w) → NeverFalls t t m m
  NeverFalls-itself t m = record { faults = HasNotFallen-itself t; numbers = (omega arith, omega arith); barriers = omega arith }

  pub NeverFalls-further : (start before now : Tally) (m mid later : Moment w) → NeverFalls start before m mid → NeverFalls before now mid later
      → NeverFalls start now m later
  NeverFalls-further start before now m mid later first then =
      let a = first.numbers in
      let b = then.numbers in
      let c = first.barriers in
      let d = then.barriers in
      record { faults = HasNotFallen-further start before now first.faults then.faults; numbers = (omega arith, omega arith); barriers = omega arith }
