-- The blocks of a way are the first one of its request and ancestors of it.
use Rattle.std.proofs.Common.{◌≡◌, ◌++◌, ℕ, List, [], ◌∷◌, All, Option, None, Some, MatchOption, refl, sym, ◌∙◌, subst}
use Rattle.std.proofs.lemmas.List.Elements.{All-head, All-tail}
use Rattle.stateful_base.specs.Names.{Named}
use Rattle.stateful_history.specs.Ancestors.{Up, itself, above, IsOnPath}
use Rattle.stateful_history.specs.Asked.{verified}
use Rattle.stateful_history.specs.Met.{Met}
use Rattle.stateful_history.specs.Past.{Past}
use Rattle.stateful_history.specs.Requests.{subject, StandsOn}
use Rattle.stateful_history.specs.Setting.{Setting, parent_of}
use Rattle.stateful_exec_walk.specs.Path.{Path}
use Rattle.stateful_exec_tables.specs.Meeting.{first_or}
use Rattle.stateful_exec_model.specs.Workings.{Workings}
use Rattle.stateful_exec_walk.specs.declared.request.Request.{Request}
use Rattle.stateful_exec_walk.specs.declared.request.Request.TheVariants.{Verify, Recover}
use Rattle.stateful_exec_laws.specs.Setting.{setting}
use Rattle.stateful_exec_laws.specs.Outstanding.{TicketsApart}
use Rattle.stateful_exec_laws.specs.Requesting.{first_of, LeadsDown, IsRequestOf, IsWayOf}
use Rattle.stateful_exec_laws.proofs.requests.Acquired.{leads_down}

module _ {B C I S T : Type 0} (s : Setting B S T) (p : Past B C I) where
  -- the ancestors of a block's parent are the block's
  pub Up-child : {b x : Named B} → Up s p b x → (z : Named B) → Met s p b → b.digest ≡ parent_of s z → Up s p z x
  Up-child itself z met is = above itself met is
  Up-child (above u there at) z met is = above (Up-child u z met is) there at

  -- down a list whose blocks lead to each other
  pub Up-along : (bs : List (Named B)) (x : Named B) → All (Met s p) (bs ++ x ∷ []) → LeadsDown s.header (bs ++ x ∷ []) → Up s p (first_or x bs) x
  Up-along [] x met leads = itself
  Up-along (z ∷ []) x met leads = Up-child itself z (All-head (Met s p) x [] (All-tail (Met s p) z (x ∷ []) met)) leads.0
  Up-along (z ∷ c ∷ bs) x met leads =
      let met_on : All (Met s p) ((c ∷ bs) ++ x ∷ []) = All-tail (Met s p) z (c ∷ bs ++ x ∷ []) met in
      Up-child (Up-along (c ∷ bs) x met_on (leads_down s.header (c ∷ bs ++ x ∷ []) leads.1)) z (All-head (Met s p) c (bs ++ x ∷ []) met_on) leads.0

module _ {B C I P R D H G U : Type 0} (w : Workings B C I P R D H G U) (stored : ℕ → Option (Named B)) (p : Past B C I) where
  -- the first block of a request is its subject
  pub subject-first : TicketsApart p → (t : ℕ) (request : Request B C I) → IsRequestOf w stored p t request → subject t p ≡ Some (first_of request)
  subject-first apart t (Verify u ancestry) asked = rw asked.verifies refl
  subject-first apart t (Recover u context ancestry input kind) asked =
      let none : verified t p ≡ None = apart t (λ e. let no = sym asked.proposes ∙ e in cc) in
      rw (none, asked.proposes) refl

  -- a request stands on the last block of its way
  pub StandsOn-way : TicketsApart p → (t : ℕ) (request : Request B C I) (path : Path B) → IsRequestOf w stored p t request → IsWayOf w stored p request path → StandsOn (setting w stored) p t path.parent.digest
  StandsOn-way apart t request path asked way =
      subst (λ (o : Option (Named B)). MatchOption o ⊥ (λ b. IsOnPath (setting w stored) p b path.parent.digest)) (sym (subject-first apart t request asked))
      (record {
        ancestor = path.parent;
        up = subst (λ (b : Named B). Up (setting w stored) p b path.parent) way.begins (Up-along (setting w stored) p path.blocks path.parent way.met way.leads);
        is = refl;
      })
