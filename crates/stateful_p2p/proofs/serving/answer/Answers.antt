use Rattle.std.proofs.Common.{◌≡◌, Some, None, refl, sym, ◌∙◌}
use Rattle.stateful_p2p.specs.Resolving.{unattached, too_many, unserved, served}
use Rattle.stateful_p2p.proofs.serving.answer.Goals as goal

pub returns-in_default : goal.returns-in_default
returns-in_default g c =
    let none : c.args.attached.now ≡ None = rw (← c.take.ensures.value) c.in_default.is in
    let same : c.take.new.self ≡ c.args.attached.now = rw (c.take.ensures.after, none) refl in
    rw same (unattached none)

pub returns-then-asks_too_many : goal.returns-then-asks_too_many
returns-then-asks_too_many g c =
    let some : c.args.attached.now ≡ Some c.in-Some.database = rw (← c.take.ensures.value) c.in-Some.is in
    rw some (too_many refl (sym c.asks_too_many.ensures ∙ c.if-asks_too_many.true))

pub returns-in_ok-from_vec-in-Ok : goal.returns-in_ok-from_vec-in-Ok
returns-in_ok-from_vec-in-Ok g c =
    let some : c.args.attached.now ≡ Some c.in-Some.database = rw (← c.take.ensures.value) c.in-Some.is in
    let w = c.in_ok-write-in-Ok.ensures in
    rw (c.in_ok-from_vec-in-Ok.ensures.ok, w.appended, c.new-bytes.ensures.items)
    (served some (sym c.asks_too_many.ensures ∙ c.if-asks_too_many.false) c.in-Ok.ensures.serves w.fits)

pub returns-in_ok-admits_no_answer-in-Err : goal.returns-in_ok-admits_no_answer-in-Err
returns-in_ok-admits_no_answer-in-Err g c =
    let some : c.args.attached.now ≡ Some c.in-Some.database = rw (← c.take.ensures.value) c.in-Some.is in
    unserved some (sym c.asks_too_many.ensures ∙ c.if-asks_too_many.false) c.in-Err.ensures.serves c.in_ok-admits_no_answer-in-Err.ensures
