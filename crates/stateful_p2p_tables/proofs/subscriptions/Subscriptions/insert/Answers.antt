use Rattle.std.proofs.Common.{◌≡◌, List, ℕ, None, refl, ap, ◌∙◌}
use Rattle.std.proofs.lemmas.Bool.{eq-eqb}
use Rattle.stateful_table.specs.Table.{at, without}
use Rattle.stateful_table.proofs.Tables.{at-without, restored}
use Rattle.stateful_p2p_tables.proofs.Indexing.{come_listed}
use Rattle.stateful_p2p_tables.proofs.subscriptions.Subscriptions.insert.Goals as goal

-- a ticket that was taken out has no key
taken_out : {V : Type 0} (old now : List (ℕ × V)) (t : ℕ) → now ≡ without old t → at now t ≡ None
taken_out old now t is = rw (is, at-without old t t, eq-eqb t t refl) refl

-- src/subscriptions.rt:73:23
pub invariant_of-self-in-Ok : goal.invariant_of-self-in-Ok
invariant_of-self-in-Ok c key t =
    let others = c.remove.ensures.others in
    let view = c.self.view_is in
    let now : c.self.inside.keys ≡ without c.args.self.now c.args.ticket = cc in
    let none = taken_out c.args.self.now c.self.inside.keys c.args.ticket now in
    rw (c.in_ok-put.ensures.ok) (come_listed _ c.self.inside.index.tickets c.list.new.self.tickets c.self.inside.keys c.args.ticket c.args.key c.self.invariant none c.in-Ok.ensures.ok key t)

-- src/subscriptions.rt:76:17
pub invariant_of-self-in-Err : goal.invariant_of-self-in-Err
invariant_of-self-in-Err c key t =
    let others = c.remove.ensures.others in
    let view = c.self.view_is in
    let now : c.self.inside.keys ≡ without c.args.self.now c.args.ticket = cc in
    let none = taken_out c.args.self.now c.self.inside.keys c.args.ticket now in
    let after = c.remove-in-Err.ensures.others ∙ ap (λ w. without w c.args.ticket) c.in_ok-put.ensures.ok ∙ restored c.self.inside.keys c.args.ticket c.args.key none in
    rw (after) (c.in-Err.ensures.err key t ∙ c.self.invariant key t)
