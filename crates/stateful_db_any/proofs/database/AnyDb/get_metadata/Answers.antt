use Rattle.std.proofs.Common.{Some, sym, ap, ◌∙◌, arith}
use Rattle.std.specs.Option.{option_copied}
use Rattle.stateful_base.specs.declared.target.Target.{Target}
use Rattle.stateful_db_log.specs.LogSound.{length_newest}
use Rattle.stateful_db_any.specs.Stored.{standing_of}
use Rattle.stateful_db_any.proofs.Values.{metadata_in, newest_metadata}
use Rattle.stateful_db_any.proofs.database.AnyDb.get_metadata.Goals as goal

pub returns-in-Some-Commit : goal.returns-in-Some-Commit
returns-in-Some-Commit g c =
    let s = (standing_of c.args.self.now).disk.newest in
    let end = ap (λ (t : Target). t.end.0) c.target.ensures in
    let at = c.saturating_sub-last.result in
    let last = newest_metadata s at (option_copied c.get.result) (length_newest c.args.self.now.log) (omega (arith, end, c.saturating_sub-last.ensures)) c.get.ensures.inside (λ less. ap option_copied (c.get.ensures.below less)) in
    c.as_ref.ensures.value ∙ sym (last ∙ ap metadata_in (ap option_copied c.in-Some-Commit.is ∙ ap Some c.in-Some-Commit.field-0-is))

pub returns-in-Some-Update : goal.returns-in-Some-Update
returns-in-Some-Update g c =
    let s = (standing_of c.args.self.now).disk.newest in
    let end = ap (λ (t : Target). t.end.0) c.target.ensures in
    let at = c.saturating_sub-last.result in
    let last = newest_metadata s at (option_copied c.get.result) (length_newest c.args.self.now.log) (omega (arith, end, c.saturating_sub-last.ensures)) c.get.ensures.inside (λ less. ap option_copied (c.get.ensures.below less)) in
    sym (last ∙ ap metadata_in (ap option_copied c.in-Some-Update.is ∙ ap Some c.in-Some-Update.field-0-is))

pub returns-in-Some-Delete : goal.returns-in-Some-Delete
returns-in-Some-Delete g c =
    let s = (standing_of c.args.self.now).disk.newest in
    let end = ap (λ (t : Target). t.end.0) c.target.ensures in
    let at = c.saturating_sub-last.result in
    let last = newest_metadata s at (option_copied c.get.result) (length_newest c.args.self.now.log) (omega (arith, end, c.saturating_sub-last.ensures)) c.get.ensures.inside (λ less. ap option_copied (c.get.ensures.below less)) in
    sym (last ∙ ap metadata_in (ap option_copied c.in-Some-Delete.is ∙ ap Some c.in-Some-Delete.field-0-is))

pub returns-in-None : goal.returns-in-None
returns-in-None g c =
    let s = (standing_of c.args.self.now).disk.newest in
    let end = ap (λ (t : Target). t.end.0) c.target.ensures in
    let at = c.saturating_sub-last.result in
    let last = newest_metadata s at (option_copied c.get.result) (length_newest c.args.self.now.log) (omega (arith, end, c.saturating_sub-last.ensures)) c.get.ensures.inside (λ less. ap option_copied (c.get.ensures.below less)) in
    sym (last ∙ ap metadata_in (ap option_copied c.in-None.is))
