-- What a new resolver keeps.
use Rattle.std.specs.Prelude.{◌≡◌, None, []}
use Rattle.stateful_p2p_tables.specs.declared.state.State.{State}

-- a resolver that has taken nothing in
pub record IsNew {D : Type 0} (s : State D) : Type 0 where
  pub no_database : s.database ≡ None
  pub nobody : s.subscriptions ≡ []
  pub nothing : s.unjudged ≡ []
  pub none : s.deliveries ≡ []
  pub first_delivery : s.next_delivery ≡ 0
  pub first_serve : s.next_serve ≡ 0
