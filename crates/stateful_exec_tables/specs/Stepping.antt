-- The next step of a request's path.
use Rattle.std.specs.Prelude.{◌≡◌, ◌++◌, ◌∷◌, [], ℕ, Bool, true, false, Option, Some, None, List}
use Rattle.stateful_base.specs.Names.{Header, Named}
use Rattle.stateful_table.specs.Table.{at}
use Rattle.stateful_exec_walk.specs.Path.{Path, IsLastOf}
use Rattle.stateful_exec_walk.specs.Walk.{IsPrepared}
use Rattle.stateful_exec_tables.specs.Tables.{requested, taken, moved}
use Rattle.stateful_exec_tables.specs.Cancelling.{IsIdle}
use Rattle.stateful_exec_walk.specs.declared.request.Request.{Request}
use Rattle.stateful_exec_tables.specs.declared.state.Tables.{Tables}
use Rattle.stateful_exec_tables.specs.declared.tables.Phase.TheVariants.{Parked}
use Rattle.stateful_exec_tables.specs.declared.tables.Requested.{Requested}
use Rattle.stateful_exec_walk.specs.declared.walk.Acquired.{Acquired}

module _ {B C I R U : Type 0} (v : Tables B C I R U) (t : ℕ) where
  -- the request of this ticket waits for no run and no fetch
  pub record IsFree (request : Request B C I) : Type 0 where
    pub of : Requested B C I
    pub there : at v.requests t ≡ Some of
    pub request_is : of.request ≡ request
    pub idle : IsIdle of.phase

  -- the request of this ticket is parked with these blocks
  pub record IsParked (request : Request B C I) (path : Path B) : Type 0 where
    pub of : Requested B C I
    pub there : at v.requests t ≡ Some of
    pub request_is : of.request ≡ request
    pub parked : of.phase ≡ Parked path

  -- the request of this ticket is parked: this block is the next one of its path, on this parent,
  -- and these are left behind it
  pub record IsAbout (request : Request B C I) (left : List (Named B))
      (b parent : Named B) : Type 0 where
    pub parked : IsParked request (record { blocks = left ++ b ∷ []; parent = parent })

  -- the request of this ticket is parked, and this is the next block of its path
  pub record HasNext (b : Named B) : Type 0 where
    pub request : Request B C I
    pub path : Path B
    pub parked : IsParked request path
    pub last : IsLastOf path.blocks b

  -- The request of this ticket is to go along this path, where it waits for no run and no fetch;
  -- else nothing changes.
  pub data SetsOut (path : Path B) (new : Tables B C I R U) : Bool → Type 0 where
    sets_out : {request : Request B C I}
        → IsFree request
        → new ≡ moved (taken v t) t (requested request) (Parked path)
        → SetsOut path new true
    not_free : ((request : Request B C I) → IsFree request → ⊥) → new ≡ v → SetsOut path new false

  -- what the request of this ticket needs, with the blocks that were acquired for it so far, where
  -- it goes on
  pub data Prepares (header : Header B) (stored : ℕ → Option (Named B)) : Option (Acquired B)
      → Type 0 where
    needs : {r : Requested B C I} {found : Acquired B} → at v.requests t ≡ Some r
        → IsPrepared header v.anchor v.cache stored r.request r.acquired found
        → Prepares header stored (Some found)
    gone : at v.requests t ≡ None → Prepares header stored None
