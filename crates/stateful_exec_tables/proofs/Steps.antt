-- The next step of a request's path.
use Rattle.std.proofs.Common.{◌≡◌, ◌≢◌, ◌++◌, ◌∷◌, [], ℕ, List, Option, Some, None, IfSome, IfNone, refl, sym, ap, subst, ◌∙◌}
use Rattle.stateful_base.specs.Names.{Header, Named}
use Rattle.stateful_table.specs.Table.{at}
use Rattle.stateful_exec_tables.specs.Cancelling.{IsIdle}
use Rattle.stateful_exec_walk.specs.Path.{Path, IsLastOf}
use Rattle.stateful_exec_tables.specs.Tables.{Knows}
use Rattle.stateful_exec_tables.specs.Meeting.{JoinsAs, MeetsOnKnown}
use Rattle.stateful_exec_tables.specs.Stepping.{IsFree, IsParked, HasNext}
use Rattle.stateful_exec_walk.specs.declared.request.Request.{Request}
use Rattle.stateful_exec_tables.specs.declared.state.Tables.{Tables}
use Rattle.stateful_exec_tables.specs.declared.tables.Phase.TheVariants.{Parked}
use Rattle.stateful_exec_tables.specs.declared.tables.Requested.{Requested}
use Rattle.stateful_exec_tables.proofs.Releasing.{some-injective}
use Rattle.stateful_exec_tables.specs.declared.met.Met.{Met}
use Rattle.stateful_exec_tables.specs.declared.met.Met.TheVariants as met

not_none : {X : Type 0} (earlier : List X) (x : X) → [] ≡ earlier ++ x ∷ [] → ⊥
not_none [] x e = cc
not_none (y ∷ ys) x e = cc

-- a path with a next block isn't at its end
pub some_blocks : {B : Type 0} (blocks : List (Named B)) (b : Named B) → IsLastOf blocks b → blocks ≢ []
some_blocks blocks b last none = not_none last.earlier b (sym none ∙ last.parts)

pub if_none_weaker : {X P Q : Type 0} (o : Option X) → (P → Q) → IfNone o P → IfNone o Q
if_none_weaker None f p = f p
if_none_weaker (Some x) f p = tt

-- a block that is to be run is met on a known parent
pub joined_on_known : {B C I R U : Type 0} (header : Header B) (v : Tables B C I R U) (b parent : Named B) (found : Met B) → JoinsAs header v b parent found → MeetsOnKnown header v found
joined_on_known header v b parent met.Arrived joins = tt
joined_on_known header v b parent met.Left joins = tt
joined_on_known header v b parent met.Known joins = tt
joined_on_known header v b parent (met.Run j) joins = tt
joined_on_known header v b parent (met.Unrun c p) joins = subst (λ (q : Named _). Knows v q.digest) (sym joins.4) joins.2
joined_on_known header v b parent met.Missed joins = tt

module _ {B C I R U : Type 0} (v : Tables B C I R U) (t : ℕ) where
  -- no request goes on under the ticket
  pub no_request : None ≡ at v.requests t → (b : Named B) → HasNext v t b → ⊥
  no_request none b h = let no = none ∙ h.parked.there in cc

  module _ (r : Requested B C I) (there : Some r ≡ at v.requests t) where
    same : (s : Requested B C I) → at v.requests t ≡ Some s → r ≡ s
    same s is = some-injective (there ∙ is)

    pub not_parked : ((path : Path B) → r.phase ≡ Parked path → ⊥) → (b : Named B) → HasNext v t b → ⊥
    not_parked other b h = other h.path (ap (λ (s : Requested B C I). s.phase) (same h.parked.of h.parked.there) ∙ h.parked.parked)

    pub is_free : (s : Requested B C I) → at v.requests t ≡ Some s → IsIdle r.phase → IsFree v t s.request
    is_free s is idle = record { of = s; there = is; request_is = refl; idle = subst (λ (q : Requested B C I). IsIdle q.phase) (same s is) idle }

    pub not_idle : (IsIdle r.phase → ⊥) → (request : Request B C I) → IsFree v t request → ⊥
    not_idle busy request h = busy (subst (λ (s : Requested B C I). IsIdle s.phase) (sym (same h.of h.there)) h.idle)

    module _ (path : Path B) (parked : r.phase ≡ Parked path) where
      pub is_parked : IsParked v t r.request path
      is_parked = record { of = r; there = sym there; request_is = refl; parked = parked }

      pub has_next : (o : Option (Named B)) → IfSome o (IsLastOf path.blocks) → IfSome o (HasNext v t)
      has_next None last = tt
      has_next (Some b) last = record { request = r.request; path = path; parked = is_parked; last = last }

      same_path : (b : Named B) (h : HasNext v t b) → path ≡ h.path
      same_path b h = let e : Parked path ≡ Parked h.path = sym parked ∙ ap (λ (s : Requested B C I). s.phase) (same h.parked.of h.parked.there) ∙ h.parked.parked in cc

      pub at_its_end : path.blocks ≡ [] → (b : Named B) → HasNext v t b → ⊥
      at_its_end none b h = some_blocks h.path.blocks b h.last (subst (λ (q : Path B). q.blocks ≡ []) (same_path b h) none)

      pub has_blocks : (b : Named B) → HasNext v t b → path.blocks ≢ []
      has_blocks b h none = at_its_end none b h
