-- What requests wait for.
use Rattle.std.specs.Prelude.{ℕ, ◌==◌, Bool, true, false, not, if◌then◌else◌, Option, Some, None}
use Rattle.std.specs.Prelude.{is_none, option_map, List, map, filter, filter_map}
use Rattle.stateful_exec_walk.specs.Path.{Path}
use Rattle.stateful_exec_tables.specs.declared.tables.Phase.{Phase}
use Rattle.stateful_exec_tables.specs.declared.tables.Phase.TheVariants.{Open, Fetching, Waiting}
use Rattle.stateful_exec_tables.specs.declared.tables.Phase.TheVariants.{Executing, Parked}
use Rattle.stateful_exec_tables.specs.declared.tables.Released.{Released}
use Rattle.stateful_exec_tables.specs.declared.tables.Requested.{Requested}

-- the request waits for the run of this job
abbrev pub is_on : {B : Type 0} → ℕ → Phase B → Bool
is_on job (Executing of path) = of == job
is_on job phase = false

-- the tickets of the requests that wait for the run of a job, ascending
abbrev pub tickets_on : {B C I : Type 0} → ℕ → List (ℕ × Requested B C I) → List ℕ
tickets_on job requests = map (λ e. e.0) (filter (λ e. is_on job e.1.phase) requests)

-- the blocks that are left behind that of the run of this job, for a request that waits for it
abbrev pub path_on : {B : Type 0} → ℕ → Phase B → Option (Path B)
path_on job (Executing of path) = if of == job then Some path else None
path_on job phase = None

abbrev pub released_from : {B C I : Type 0} → ℕ → ℕ × Requested B C I → Option (Released B C I)
released_from job e =
    option_map (λ path. record { ticket = e.0; request = e.1.request; path = path })
    (path_on job e.1.phase)

-- the requests that wait for the run of a job, by ascending tickets
abbrev pub released_on : {B C I : Type 0} → ℕ → List (ℕ × Requested B C I) → List (Released B C I)
released_on job requests = filter_map (released_from job) requests

-- those that don't
abbrev pub not_on : {B C I : Type 0} → ℕ → List (ℕ × Requested B C I) → List (ℕ × Requested B C I)
not_on job requests = filter (λ e. not (is_on job e.1.phase)) requests

-- the blocks of a parked request
abbrev pub parked_path : {B : Type 0} → Phase B → Option (Path B)
parked_path (Parked path) = Some path
parked_path phase = None

abbrev pub parked_from : {B C I : Type 0} → ℕ × Requested B C I → Option (Released B C I)
parked_from e =
    option_map (λ path. record { ticket = e.0; request = e.1.request; path = path })
    (parked_path e.1.phase)

-- the parked requests, by ascending tickets, and the others
abbrev pub parked_in : {B C I : Type 0} → List (ℕ × Requested B C I) → List (Released B C I)
parked_in requests = filter_map parked_from requests

abbrev pub not_parked : {B C I : Type 0} → List (ℕ × Requested B C I) → List (ℕ × Requested B C I)
not_parked requests = filter (λ e. is_none (parked_path e.1.phase)) requests

-- what the request needs is to be found anew
abbrev pub is_unacquired : {B : Type 0} → Phase B → Bool
is_unacquired Open = true
is_unacquired Waiting = true
is_unacquired phase = false

-- the requests of which that holds, by ascending tickets, and the others
abbrev pub unacquired_in : {B C I : Type 0}
    → List (ℕ × Requested B C I)
    → List (ℕ × Requested B C I)
unacquired_in requests = filter (λ e. is_unacquired e.1.phase) requests

abbrev pub not_unacquired : {B C I : Type 0}
    → List (ℕ × Requested B C I)
    → List (ℕ × Requested B C I)
not_unacquired requests = filter (λ e. not (is_unacquired e.1.phase)) requests

-- a request whose fetch is given up
abbrev pub unfetched : {B : Type 0} → Phase B → Phase B
unfetched (Fetching fetch) = Open
unfetched phase = phase

abbrev pub dropped : {B C I : Type 0} → ℕ × Requested B C I → ℕ × Requested B C I
dropped e = (e.0, record e.1 { phase = unfetched e.1.phase })
