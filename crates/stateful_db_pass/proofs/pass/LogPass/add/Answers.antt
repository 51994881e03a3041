use Rattle.std.proofs.Common.{◌≡◌, ◌+◌, ◌^◌, ◌<◌, length, sym, ap, ◌∙◌, refl, arith, subst, Some, None}
use Rattle.std.proofs.lemmas.Bool.{false≢true}
use Rattle.stateful_base.specs.declared.target.Target.{Target}
use Rattle.stateful_db_log.specs.Linking.{behind}
use Rattle.stateful_db_pass.specs.Fetched.{Fetched, added, count, toward}
use Rattle.stateful_db_pass.specs.Progress.{Settles}
use Rattle.stateful_db_pass.proofs.Keeping.{next_kept, settles_part, settles_whole, settles_other}
use Rattle.stateful_db_pass.proofs.pass.LogPass.add.Goals as goal

-- not all is there yet
pub put-requires : goal.put-requires
put-requires g c =
    let L = g.Op.Linked.linked in
    let p = c.args.self.now in
    let held = ap (λ (q : Fetched g.row.Op.Denot). length q.ops) c.self.view_is in
    let begin = ap (λ (q : Fetched g.row.Op.Denot). q.target.start.0) c.self.view_is in
    let ends = ap (λ (q : Fetched g.row.Op.Denot). count q) c.self.view_is in
    let place : c.self.inside.target.start.0 + c.len.result ≡ p.target.start.0 + length p.ops = omega (arith, held, begin, c.len.ensures, c.self.inside.ops.ok) in
    let last = c.link_each-behind.ensures ∙ ap (λ n. behind L n c.args.from c.as_slice.result.now) place ∙ ap (λ xs. behind L (p.target.start.0 + length p.ops) c.args.from xs) c.as_slice.ensures.value in
    let small = subst (λ (q : Fetched g.row.Op.Denot). q.target.end.0 < 2 ^ 64) c.self.view_is c.self.invariant.small in
    next_kept L g.Op.Linked.alone p c.args.before c.args.from c.args.ops.items c.link_each-behind.result small c.requires last
    (λ all. absurd (c.if-len-count.true (omega (arith, all, held, ends, c.len-2.ensures, c.len-3.ensures, c.count.ensures, c.args.ops.ok, c.self.inside.ops.ok))))

-- it goes on
pub returns-then-len-count-clause-ok : goal.returns-then-len-count-clause-ok
returns-then-len-count-clause-ok g c =
    let L = g.Op.Linked.linked in
    let p = c.args.self.now in
    let held = ap (λ (q : Fetched g.row.Op.Denot). length q.ops) c.self.view_is in
    let ends = ap (λ (q : Fetched g.row.Op.Denot). count q) c.self.view_is in
    subst (λ q. Settles L (added p c.args.before c.args.ops.items) None q) (sym c.in_ok-put.ensures.ok)
    (settles_part L g.Op.Linked.alone p c.args.before c.args.from c.args.ops.items c.link_each-behind.result
    (λ all. c.if-len-count.true (omega (arith, all, held, ends, c.len-2.ensures, c.len-3.ensures, c.count.ensures, c.args.ops.ok, c.self.inside.ops.ok))))

-- all is there, and leads to another root
pub returns-then-not-is-clause-ok : goal.returns-then-not-is-clause-ok
returns-then-not-is-clause-ok g c =
    let L = g.Op.Linked.linked in
    let p = c.args.self.now in
    let held = ap (λ (q : Fetched g.row.Op.Denot). length q.ops) c.self.view_is in
    let begin = ap (λ (q : Fetched g.row.Op.Denot). q.target.start.0) c.self.view_is in
    let ends = ap (λ (q : Fetched g.row.Op.Denot). count q) c.self.view_is in
    let root = ap (λ (q : Fetched g.row.Op.Denot). q.target.root) c.self.view_is in
    let place : c.self.inside.target.start.0 + c.len.result ≡ p.target.start.0 + length p.ops = omega (arith, held, begin, c.len.ensures, c.self.inside.ops.ok) in
    let last = c.link_each-behind.ensures ∙ ap (λ n. behind L n c.args.from c.as_slice.result.now) place ∙ ap (λ xs. behind L (p.target.start.0 + length p.ops) c.args.from xs) c.as_slice.ensures.value in
    let all : length p.ops + length c.args.ops.items ≡ count p = omega (arith, held, ends, c.if-len-count.false, c.len-2.ensures, c.len-3.ensures, c.count.ensures, c.args.ops.ok, c.self.inside.ops.ok) in
    let same = ap (λ (q : Fetched g.row.Op.Denot). toward q.target p.fetches) c.begin.view_is in
    subst (λ q. Settles L (added p c.args.before c.args.ops.items) None q) (sym (c.begin-then-not-is.ensures ∙ same))
    (settles_other L g.Op.Linked.alone p c.args.before c.args.from c.args.ops.items c.link_each-behind.result c.requires last all
    (λ e. false≢true (c.if-not-is.ensures.1 (e ∙ sym root))))

-- all is there, and leads to the root
pub put-requires-2 : goal.put-requires-2
put-requires-2 g c =
    let L = g.Op.Linked.linked in
    let p = c.args.self.now in
    let held = ap (λ (q : Fetched g.row.Op.Denot). length q.ops) c.self.view_is in
    let begin = ap (λ (q : Fetched g.row.Op.Denot). q.target.start.0) c.self.view_is in
    let root = ap (λ (q : Fetched g.row.Op.Denot). q.target.root) c.self.view_is in
    let place : c.self.inside.target.start.0 + c.len.result ≡ p.target.start.0 + length p.ops = omega (arith, held, begin, c.len.ensures, c.self.inside.ops.ok) in
    let last = c.link_each-behind.ensures ∙ ap (λ n. behind L n c.args.from c.as_slice.result.now) place ∙ ap (λ xs. behind L (p.target.start.0 + length p.ops) c.args.from xs) c.as_slice.ensures.value in
    let small = subst (λ (q : Fetched g.row.Op.Denot). q.target.end.0 < 2 ^ 64) c.self.view_is c.self.invariant.small in
    next_kept L g.Op.Linked.alone p c.args.before c.args.from c.args.ops.items c.link_each-behind.result small c.requires last
    (λ all. c.if-not-is.ensures.0 refl ∙ root)

pub returns-clause-ok : goal.returns-clause-ok
returns-clause-ok g c =
    let L = g.Op.Linked.linked in
    let p = c.args.self.now in
    let held = ap (λ (q : Fetched g.row.Op.Denot). length q.ops) c.self.view_is in
    let begin = ap (λ (q : Fetched g.row.Op.Denot). q.target.start.0) c.self.view_is in
    let ends = ap (λ (q : Fetched g.row.Op.Denot). count q) c.self.view_is in
    let root = ap (λ (q : Fetched g.row.Op.Denot). q.target.root) c.self.view_is in
    let place : c.self.inside.target.start.0 + c.len.result ≡ p.target.start.0 + length p.ops = omega (arith, held, begin, c.len.ensures, c.self.inside.ops.ok) in
    let last = c.link_each-behind.ensures ∙ ap (λ n. behind L n c.args.from c.as_slice.result.now) place ∙ ap (λ xs. behind L (p.target.start.0 + length p.ops) c.args.from xs) c.as_slice.ensures.value in
    let all : length p.ops + length c.args.ops.items ≡ count p = omega (arith, held, ends, c.if-len-count.false, c.len-2.ensures, c.len-3.ensures, c.count.ensures, c.args.ops.ok, c.self.inside.ops.ok) in
    let more = added p c.args.before c.args.ops.items in
    let target : p.target ≡ c.self-2.inside.target = sym (ap (λ (q : Fetched g.row.Op.Denot). q.target) (c.self-2.view_is ∙ c.in_ok-put-2.ensures.ok)) in
    subst (λ q. Settles L more (Some c.self-2.inside.target) q) (sym c.in_ok-put-2.ensures.ok)
    (subst (λ (t : Target). Settles L more (Some t) more) target
    (settles_whole L g.Op.Linked.alone p c.args.before c.args.from c.args.ops.items c.link_each-behind.result c.requires last all (c.if-not-is.ensures.0 refl ∙ root)))
