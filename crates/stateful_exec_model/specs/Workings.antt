-- How an application works, and how its blocks, batches and databases are seen.
use Rattle.std.specs.Prelude.{List}
use Rattle.stateful_base.specs.Names.{Header}
use Rattle.stateful_base.specs.declared.round.Round.{Round}
use Rattle.stateful_db.specs.Databases.{Databases}
use Rattle.stateful_db.specs.Works.{Works}

pub record Workings (B C I P R D H G U : Type 0) : Type 1 where
  pub Ids : Type 0
  pub States : Type 0
  pub Targets : Type 0
  -- what blocks say of themselves, what consensus knows of each, and of which round that is
  pub header : Header B
  pub context_of : B → C
  pub round_of : C → Round
  pub works : Works B C I P Ids States Targets R D H G
  pub kind : Databases Ids States Targets
  -- the sealed batch stands on this chain
  pub shows : U → List (Ids × States) → Type 0

abbrev pub workings : {B C I P Ids S T R D H G U : Type 0}
    → Header B
    → (B → C)
    → (C → Round)
    → Works B C I P Ids S T R D H G
    → Databases Ids S T
    → (U → List (Ids × S) → Type 0)
    → Workings B C I P R D H G U
workings {Ids = Ids} {S = S} {T = T} header context_of round_of works kind shows = record {
  Ids = Ids;
  States = S;
  Targets = T;
  header = header;
  context_of = context_of;
  round_of = round_of;
  works = works;
  kind = kind;
  shows = shows;
}

-- the id of a batch, and the states after it
abbrev pub Point : {B C I P R D H G U : Type 0} → Workings B C I P R D H G U → Type 0
Point w = w.Ids × w.States
