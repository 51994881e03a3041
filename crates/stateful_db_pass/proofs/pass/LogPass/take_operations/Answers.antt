use Rattle.std.proofs.Common.{◌≡◌, ◌++◌, sym, ap, ◌∙◌, refl, subst, None, Some, Option, length, arith}
use Rattle.std.proofs.lemmas.Bool.{false≢true}
use Rattle.std.specs.Result.{IfOk}
use Rattle.stateful_base.specs.declared.digest.Digest.{Digest}
use Rattle.stateful_types.specs.declared.response.Response.TheVariants.{Operations}
use Rattle.stateful_db_pass.specs.Fetched.{Fetched, toward, FitsOperations}
use Rattle.stateful_db_pass.specs.Progress.{Settles, Takes, discards}
use Rattle.stateful_db_pass.proofs.Keeping.{taken_ok}
use Rattle.stateful_db_pass.proofs.pass.LogPass.take_operations.Goals as goal
use Rattle.stateful_db_pass.proofs.pass.LogPass.take_operations.Goals.{in_default-via-in-Some+else-fits_operations, in_default-via-in_default}

-- they are what was asked for
pub returns-in-Some-clause-ok : goal.returns-in-Some-clause-ok
returns-in-Some-clause-ok g c =
    let p = c.args.self.now in
    let there : p.before ≡ Some c.in-Some.before = sym (ap (λ (q : Fetched g.row.Op.Denot). q.before) c.self.view_is) ∙ c.in-Some.is in
    let many : length c.args.ops.items ≡ c.len.result = omega (arith, c.len.ensures, c.args.ops.ok) in
    taken_ok g.Op.Linked.linked g.Op.Linked.alone p (Operations c.args.ops.items) c.add-in-Some.result c.add-in-Some.new.self
    ((c.if-fits_operations.ensures c.args.ops.items many).0 refl)
    (subst (λ (b : Option Digest). IfOk c.add-in-Some.result (λ reached. Settles g.Op.Linked.linked (record p { before = b; ops = p.ops ++ c.args.ops.items }) reached c.add-in-Some.new.self)) (sym there) c.add-in-Some.ensures.ok)

-- they aren't
pub returns-in_default-clause-ok : goal.returns-in_default-clause-ok
returns-in_default-clause-ok g c =
    let p = c.args.self.now in
    let same = ap (λ (q : Fetched g.row.Op.Denot). toward q.target p.fetches) c.begin.view_is in
    subst (λ q. Takes g.Op.Linked.linked g.Op.Linked.alone p (Operations c.args.ops.items) None q)
    (sym (c.begin-in_default.ensures ∙ same))
    (discards
    (elim c.in_default.branch [
      | in_default-via-in-Some+else-fits_operations w ↦
          λ fits. false≢true ((w.if-fits_operations.ensures c.args.ops.items (omega (arith, w.len.ensures, c.args.ops.ok))).1 fits)
      | in_default-via-in_default w ↦
          let none : p.before ≡ None = sym (ap (λ (q : Fetched g.row.Op.Denot). q.before) c.self.view_is) ∙ w.in_default.is in
          subst (λ (b : Option Digest). FitsOperations g.Op.Linked.alone p b p.fetches c.args.ops.items → ⊥) (sym none) (λ fits. fits)
    ]))
