use Rattle.std.proofs.Common.{◌≡◌, ◌∷◌, true, false, ap, sym, ◌∙◌, subst, refl}
use Rattle.stateful_db_any.specs.Shown.{Draft, DraftShows}
use Rattle.stateful_db_any.specs.Staged.{Staging, filled}
use Rattle.stateful_db_any.specs.Stored.{standing_of}
use Rattle.stateful_db_any.proofs.Staging.{filled_stands}
use Rattle.stateful_db_any.proofs.staged.AnyStaged.merkleize.Goals as goal

pub returns-then-not-stands-clause-stale : goal.returns-then-not-stands-clause-stale
returns-then-not-stands-clause-stale g c = λ chain shown same.
    let K = g.row.K.Denot in
    let V = g.row.V.Denot in
    let batch = ap (λ (s : Staging K V). s.batch) c.self.view_is in
    let inside = filled_stands g.K.Ord.cmp g.K.Field.fields.spelling g.V.Field.fields.spelling c.args.self c.self.inside.batch c.args.slots.items c.args.unstaged.items chain (standing_of c.args.db.now).id c.id.result c.stands_on-stands.result batch c.id.ensures c.stands_on-stands.ensures shown in
    (λ _. inside ∙ c.if-not-stands.true, λ _. refl)

pub returns-in-Err-clause-stale : goal.returns-in-Err-clause-stale
returns-in-Err-clause-stale g c = λ chain shown same.
    let K = g.row.K.Denot in
    let V = g.row.V.Denot in
    let batch = ap (λ (s : Staging K V). s.batch) c.self.view_is in
    let inside = filled_stands g.K.Ord.cmp g.K.Field.fields.spelling g.V.Field.fields.spelling c.args.self c.self.inside.batch c.args.slots.items c.args.unstaged.items chain (standing_of c.args.db.now).id c.id.result c.stands_on-stands.result batch c.id.ensures c.stands_on-stands.ensures shown in
    (λ e. cc, λ out. let both : true ≡ false = sym (inside ∙ c.if-not-stands.false) ∙ out in cc)

pub returns-in-Ok-clause-stale : goal.returns-in-Ok-clause-stale
returns-in-Ok-clause-stale g c = λ chain shown same.
    let K = g.row.K.Denot in
    let V = g.row.V.Denot in
    let cmp = g.K.Ord.cmp in
    let is : c.in-Ok.batch ≡ filled cmp c.args.self c.args.slots.items c.args.unstaged.items = c.in-Ok.ensures in
    let Shows : Draft K V → Type 0 = λ u. DraftShows cmp g.K.Field.fields.spelling g.V.Field.fields.spelling u chain in
    c.merkleize.ensures.stale chain (subst Shows (sym is) shown)

pub returns-in-Ok-clause-exhausted : goal.returns-in-Ok-clause-exhausted
returns-in-Ok-clause-exhausted g c = λ p chain shown exhausted.
    let K = g.row.K.Denot in
    let V = g.row.V.Denot in
    let cmp = g.K.Ord.cmp in
    let is : c.in-Ok.batch ≡ filled cmp c.args.self c.args.slots.items c.args.unstaged.items = c.in-Ok.ensures in
    let Shows : Draft K V → Type 0 = λ u. DraftShows cmp g.K.Field.fields.spelling g.V.Field.fields.spelling u (p ∷ chain) in
    c.merkleize.ensures.exhausted p chain (subst Shows (sym is) shown) exhausted
