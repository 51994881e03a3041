use Rattle.std.proofs.Common.{◌≢◌, [], MatchOption, All, IsTrue, sym, ◌∙◌, subst, refl, arith, List}
use Rattle.stateful_exec_cache.specs.Cut.{IsRootOf}
use Rattle.stateful_exec_cache.specs.declared.cache.Cached.{Cached}
use Rattle.stateful_exec_cache.proofs.Cutting.{Cuts, none, keeps, drops, IsCutTo-from, root_here, root_longer, one_over, none_over}
use Rattle.stateful_exec_cache.proofs.cache.Cache.cut.Goals.{else-is_later_than-via-then-is_later_than+else-goes_on, else-is_later_than-via-else-is_later_than}
use Rattle.stateful_exec_cache.proofs.cache.Cache.cut.Goals as goal

pub loop-entry-init : goal.loop-entry-init
loop-entry-init g c = record {
  all = c.into_iter-entry-iterator.ensures.into_iter_gives.0 ∙ c.self.view_is;
  cuts = subst (Cuts c.args.root []) (sym c.new.ensures) none;
  root = λ k d l. absurd (omega (arith, l));
}

pub loop-entry-preserved-then-is : goal.loop-entry-preserved-then-is
loop-entry-preserved-then-is g c =
    let i = c.loop-entry.invariant in
    let is = c.is.ensures.0 c.if-is.true in
    record {
      all = one_over c.loop-entry.yielded _ _ _ _ i.all c.in-Some.ensures.steps.0;
      cuts = drops c.loop-entry.yielded c.in-Some.entry i.cuts refl (λ other later goes. other is);
      root = root_here c.args.root c.loop-entry.yielded c.in-Some.entry is;
    }

pub loop-entry-preserved-then-is-2 : goal.loop-entry-preserved-then-is-2
loop-entry-preserved-then-is-2 g c =
    let i = c.loop-entry.invariant in
    let is = c.is.ensures.0 c.if-is.true in
    record {
      all = one_over c.loop-entry.yielded _ _ _ _ i.all c.in-Some.ensures.steps.0;
      cuts = drops c.loop-entry.yielded c.in-Some.entry i.cuts refl (λ other later goes. other is);
      root = root_here c.args.root c.loop-entry.yielded c.in-Some.entry is;
    }

pub loop-entry-preserved-then-goes_on : goal.loop-entry-preserved-then-goes_on
loop-entry-preserved-then-goes_on g c =
    let i = c.loop-entry.invariant in
    let other : c.in-Some.entry.digest ≢ c.args.root.digest = (λ e. let t : IsTrue c.is.result = c.is.ensures.1 e in cc) in
    record {
      all = one_over c.loop-entry.yielded _ _ _ _ i.all c.in-Some.ensures.steps.0;
      cuts = keeps {left = c.insert.new.self} c.loop-entry.yielded c.loop-entry.cut.kept c.in-Some.entry i.cuts refl c.in_ok-insert.ensures.ok other (c.is_later_than.ensures.0 c.if-is_later_than.true) (c.goes_on.ensures.0 c.if-goes_on.true);
      root = root_longer c.args.root c.loop-entry.yielded c.in-Some.entry _ other i.root;
    }

pub loop-entry-preserved : goal.loop-entry-preserved
loop-entry-preserved g c =
    let i = c.loop-entry.invariant in
    let other : c.in-Some.entry.digest ≢ c.args.root.digest = (λ e. let t : IsTrue c.is.result = c.is.ensures.1 e in cc) in
    record {
      all = one_over c.loop-entry.yielded _ _ _ _ i.all c.in-Some.ensures.steps.0;
      cuts = elim c.else-is_later_than.branch [
        | else-is_later_than-via-then-is_later_than+else-goes_on w ↦ drops c.loop-entry.yielded c.in-Some.entry i.cuts refl (λ o later goes. let t : IsTrue w.goes_on.result = w.goes_on.ensures.1 goes in cc)
        | else-is_later_than-via-else-is_later_than w ↦ drops c.loop-entry.yielded c.in-Some.entry i.cuts refl (λ o later goes. let t : IsTrue c.is_later_than.result = c.is_later_than.ensures.1 later in cc)
      ];
      root = root_longer c.args.root c.loop-entry.yielded c.in-Some.entry _ other i.root;
    }

pub returns-clause-kept : goal.returns-clause-kept
returns-clause-kept g c =
    let whole = none_over c.loop-entry.yielded _ _ _ c.loop-entry.invariant.all c.loop-entry.entry-iterator.rest.ok.0 c.in-None.ensures.steps.0 in
    IsCutTo-from c.args.root _ _ (subst (λ (l : List (Cached g.row.U.Denot)). Cuts c.args.root l c.loop-entry.cut.kept) whole c.loop-entry.invariant.cuts)

pub returns-clause-root : goal.returns-clause-root
returns-clause-root g c =
    let whole = none_over c.loop-entry.yielded _ _ _ c.loop-entry.invariant.all c.loop-entry.entry-iterator.rest.ok.0 c.in-None.ensures.steps.0 in
    subst (λ (l : List (Cached g.row.U.Denot)). MatchOption c.loop-entry.cut.root (All (λ (e : Cached g.row.U.Denot). e.digest ≢ c.args.root.digest) l) (λ batch. IsRootOf c.args.root l batch)) whole c.loop-entry.invariant.root
