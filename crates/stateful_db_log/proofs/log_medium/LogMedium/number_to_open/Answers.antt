use Rattle.std.proofs.Common.{inl, inr}
use Rattle.stateful_db_medium.specs.Kept as kept
use Rattle.stateful_db_medium.specs.Ranged.{range_of}
use Rattle.stateful_db_medium.specs.Mapped.{number-mapped, fails-mapped, none-mapped}
use Rattle.stateful_db_log.specs.Between.{state_in}
use Rattle.stateful_db_log.proofs.Results.{ok-leads, err-leads}
use Rattle.stateful_db_log.proofs.log_medium.LogMedium.number_to_open.Goals as goal

pub returns-clause-ok : goal.returns-clause-ok
returns-clause-ok g c =
    let m = c.args.self.now in
    ok-leads _ _ (λ n is. number-mapped (state_in m.first m.ops) range_of c.args.expected (kept.disk_of m.medium) n is) c.number_to_open.result
    c.number_to_open.ensures.ok

pub returns-clause-cause : goal.returns-clause-cause
returns-clause-cause g c =
    let m = c.args.self.now in
    err-leads _ _ (λ why fails. fails-mapped (state_in m.first m.ops) range_of c.args.expected (kept.disk_of m.medium) _ why fails)
    c.number_to_open.result c.number_to_open.ensures.cause

pub returns-clause-unlisted : goal.returns-clause-unlisted
returns-clause-unlisted g c =
    let m = c.args.self.now in
    err-leads _ _ (λ why unlisted is.
    elim (unlisted is) [
      | inl listed ↦ inl listed
      | inr none ↦ inr (none-mapped (state_in m.first m.ops) range_of c.args.expected (kept.disk_of m.medium) none)
    ]) c.number_to_open.result c.number_to_open.ensures.unlisted
