use Rattle.std.proofs.Common.{sym, ap, ◌∙◌, refl, subst, List, None}
use Rattle.std.proofs.lemmas.Bool.{false≢true}
use Rattle.std.specs.Result.{IfOk}
use Rattle.stateful_types.specs.declared.response.Response.TheVariants.{Boundary}
use Rattle.stateful_db_pass.specs.Fetched.{Fetched, toward, added}
use Rattle.stateful_db_pass.specs.Kept.{IsNext}
use Rattle.stateful_db_pass.specs.Progress.{Settles, Takes, discards}
use Rattle.stateful_db_pass.proofs.Keeping.{taken_ok}
use Rattle.stateful_db_pass.proofs.pass.LogPass.take_boundary.Goals as goal

-- it isn't what was asked for
pub returns-then-not-fits_boundary-clause-ok : goal.returns-then-not-fits_boundary-clause-ok
returns-then-not-fits_boundary-clause-ok g c =
    let p = c.args.self.now in
    let same = ap (λ (q : Fetched g.row.Op.Denot). toward q.target p.fetches) c.begin.view_is in
    subst (λ q. Takes g.Op.Linked.linked g.Op.Linked.alone p (Boundary c.args.before c.args.op) None q)
    (sym (c.begin-then-not-fits_boundary.ensures ∙ same))
    (discards (λ fits. false≢true (c.if-not-fits_boundary.ensures.fits.1 fits)))

pub add-requires : goal.add-requires
add-requires g c =
    subst (λ (xs : List g.row.Op.Denot). IsNext g.Op.Linked.linked g.Op.Linked.alone c.args.self.now c.args.before c.args.before xs) (sym c.in_ok-ops.ensures.ok)
    (c.if-not-fits_boundary.ensures.next refl c.args.before)

-- it is
pub returns-clause-ok : goal.returns-clause-ok
returns-clause-ok g c =
    let p = c.args.self.now in
    taken_ok g.Op.Linked.linked g.Op.Linked.alone p (Boundary c.args.before c.args.op) c.add.result c.add.new.self
    (c.if-not-fits_boundary.ensures.fits.0 refl)
    (subst (λ (xs : List g.row.Op.Denot). IfOk c.add.result (λ reached. Settles g.Op.Linked.linked (added p c.args.before xs) reached c.add.new.self)) c.in_ok-ops.ensures.ok c.add.ensures.ok)
