-- Requests for which blocks are fetched.
use Rattle.std.specs.Prelude.{◌≡◌, ◌++◌, ◌∷◌, [], ℕ, Some, Any}
use Rattle.stateful_base.specs.Names.{Named}
use Rattle.stateful_table.specs.Table.{at}
use Rattle.stateful_exec_walk.specs.declared.request.Request.{Request}
use Rattle.stateful_exec_walk.specs.declared.request.Request.TheVariants.{Verify, Recover}
use Rattle.stateful_exec_tables.specs.declared.state.Tables.{Tables}
use Rattle.stateful_exec_tables.specs.declared.tables.Phase.TheVariants.{Fetching}
use Rattle.stateful_exec_tables.specs.declared.tables.Requested.{Requested}

abbrev pub IsVerification : {B C I : Type 0} → Request B C I → Type 0
IsVerification (Verify t ancestry) = Unit {0}
IsVerification (Recover t context ancestry input kind) = ⊥

module _ {B C I R U : Type 0} (v : Tables B C I R U) where
  -- the request of this ticket fetches under this number
  pub record Fetches (fetch t : ℕ) (r : Requested B C I) : Type 0 where
    pub there : at v.requests t ≡ Some r
    pub fetching : r.phase ≡ Fetching fetch

  -- a block is fetched for some request under this number
  abbrev pub IsLiveFetch : ℕ → Type 0
  IsLiveFetch fetch = Any (λ e. e.1.phase ≡ Fetching fetch) v.requests

-- a request with one block more that was fetched for it
abbrev pub with_block : {B C I : Type 0} → Requested B C I → Named B → Requested B C I
with_block r b = record r { acquired = r.acquired ++ b ∷ [] }
