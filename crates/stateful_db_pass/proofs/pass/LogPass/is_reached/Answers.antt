use Rattle.std.proofs.Common.{sym, ◌∙◌, arith}
use Rattle.std.proofs.lemmas.Bool.{eqb-true}
use Rattle.stateful_db_pass.proofs.Keeping.{leads, single}
use Rattle.stateful_db_pass.proofs.pass.LogPass.is_reached.Goals as goal

-- what is there leads to the root
pub returns-then-is_some-clause-leads : goal.returns-then-is_some-clause-leads
returns-then-is_some-clause-leads g c =
    rw (← c.self.view_is)
    (λ all. leads g.Op.Linked.linked g.Op.Linked.alone c.self.inside.target c.self.inside.fetches c.self.inside.before c.self.inside.behind c.self.inside.ops.items c.self.invariant (sym c.is_some.ensures ∙ c.if-is_some.true)
    (omega (arith, eqb-true c.len.result c.count.result all, c.len.ensures, c.count.ensures, c.self.inside.ops.ok)))

-- the latest operation is there alone
pub returns-then-is_some-clause-single : goal.returns-then-is_some-clause-single
returns-then-is_some-clause-single g c =
    rw (← c.self.view_is)
    (λ all latest. single g.Op.Linked.linked g.Op.Linked.alone c.self.inside.target c.self.inside.fetches c.self.inside.before c.self.inside.behind c.self.inside.ops.items c.self.invariant
    (sym c.is_some.ensures ∙ c.if-is_some.true) latest)
