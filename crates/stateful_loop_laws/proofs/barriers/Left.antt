-- The open barriers stand behind items that say nothing of them.
use Rattle.std.proofs.Common.{◌≤◌, ◌<◌, ◌-◌, ◌∷◌, ⊎_elim, inl, inr, ℕ, List, sym, ◌∙◌, arith}
use Rattle.std.proofs.lemmas.List.Elements.{All-weaker}
use Rattle.stateful_base.specs.Names.{Header}
use Rattle.stateful_base.specs.declared.anchor.Anchor.{Anchor}
use Rattle.stateful_db.specs.Databases.{Databases}
use Rattle.stateful_db.specs.declared.barrier.Handle.{Handle}
use Rattle.stateful_history.specs.Past.{Past, Item}
use Rattle.stateful_loop_laws.specs.OpenBarriers.{HandleStands, ActiveStands, BarriersStand}
use Rattle.stateful_loop_laws.proofs.loop.CalmItems.{LeavesBarriers}
use Rattle.stateful_loop_model.specs.declared.barriers.Active.{Active}

module _ {B C I Ids S T : Type 0} (d : Databases Ids S T) (header : Header B) (p : Past B C I) (x : Item B C I) (same : LeavesBarriers header p x)
    (m now : d.Members) (first : Anchor) (origin : ℕ → ℕ) (durable : (i : ℕ) → i < d.count → d.durable m i ≤ d.durable now i) where
  -- a handle stands behind such an item
  pub HandleStands-left : (number offset i : ℕ) (handle : Handle) → i < d.count → HandleStands d header p m first origin number offset i handle
      → HandleStands d header (x ∷ p) now first origin number offset i handle
  HandleStands-left number offset i handle l h = record {
    place = h.place;
    flushed = λ good. let was = h.flushed good in let far = was.1 in (same.flushed number i was.0, omega (arith, far, durable i l));
    interrupted = λ e. same.interrupted number (h.interrupted e);
  }

  -- and so does an open barrier
  pub ActiveStands-left : (a : Active) → ActiveStands d header p m first origin a → ActiveStands d header (x ∷ p) now first origin a
  ActiveStands-left a h = record {
    live = same.live a.number ∙ h.live;
    over = same.over a.number ∙ h.over;
    began = same.began a.number a.height.0 h.began;
    since = same.since a.number h.since;
    handles = λ i handle l is. HandleStands-left a.number (a.height.0 - first.height.0) i handle l (h.handles i handle l is);
  }

  -- the open barriers stand behind such an item, where the databases are as durable as before
  pub BarriersStand-left : (barriers : List Active) (next : ℕ) → BarriersStand d header p m first origin barriers next
      → BarriersStand d header (x ∷ p) now first origin barriers next
  BarriersStand-left barriers next h = record {
    each = All-weaker (ActiveStands d header p m first origin) (ActiveStands d header (x ∷ p) now first origin) ActiveStands-left barriers h.each;
    ascending = h.ascending;
    complete = λ k live. h.complete k (sym (same.live k) ∙ live);
    done = λ k since. ⊎_elim (λ w. inl (same.done k w)) (λ l. inr (same.live k ∙ l)) (h.done k (same.since_before k since));
    later = λ k n since before. let low = h.later k n (same.since_before n since) (same.before k n before) in (same.since k low.0, low.1);
    numbers = λ k begun. h.numbers k (λ none. begun (same.over k ∙ none));
  }
