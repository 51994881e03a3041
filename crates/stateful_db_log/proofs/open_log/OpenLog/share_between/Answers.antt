use Rattle.std.proofs.Common.{◌-◌, ◌∷◌, [], ◌++◌, Vec, Global, Option, Bor, ap, sym, ◌∙◌, arith}
use Rattle.std.specs.Option.{option_copied}
use Rattle.stateful_db_log.specs.Between.{between}
use Rattle.stateful_db_log.proofs.Windows.{between-next, slice_get-there}
use Rattle.stateful_db_log.proofs.open_log.OpenLog.share_between.Goals as goal
use Rattle.stateful_db_log.proofs.open_log.OpenLog.share_between.Goals.{in-Some+in_ok-share+in_ok-push, in_default}

-- one copy more
pub loop-at-preserved : goal.loop-at-preserved
loop-at-preserved g c =
    let o = c.args.self.now in
    let at = c.loop-at.at in
    let low = c.requires.low in
    let above = c.loop-at.auto.at in
    let below = c.loop-at-test.true in
    let here = c.held.ensures.inside (omega (arith, low, above)) in
    elim c.match-held.branch [
      | in-Some+in_ok-share+in_ok-push w ↦
          let op = w.in_ok-share.field-0 in
          let is = sym here ∙ ap (λ (x : Option (Bor g.row.Op.Denot)). option_copied x) w.in-Some.is in (
            omega (arith, below),
            ap (λ (v : Vec g.row.Op.Denot Global). v.items) w.copies-is
                ∙ w.in_ok-push.ensures.items
                ∙ ap (λ xs. xs ++ op ∷ []) c.loop-at.invariant.1
                ∙ ap (λ x. between o.first o.ops c.args.start at ++ x ∷ []) w.in_ok-share.ensures
                ∙ sym (between-next o.first o.ops c.args.start at w.in-Some.op.now low above is),
          )
      | in_default w ↦
          let none = sym here ∙ ap (λ (x : Option (Bor g.row.Op.Denot)). option_copied x) w.in_default.is in
          absurd (omega (arith, low, above, below, c.requires.high, slice_get-there o.ops (at - o.first) none))
    ]
