-- Requests in hand are served in turn.
use Rattle.std.proofs.Common.{◌≡◌, ◌≢◌, ◌++◌, ℕ, suc, get_or, arith, List, [], ◌∷◌, All, AllPairs, Option, Some, refl, sym, ap, ◌∙◌, subst}
use Rattle.std.proofs.lemmas.List.{append_assoc, append-nil}
use Rattle.std.proofs.lemmas.List.Elements.{All-weaker, All-head, All-tail}
use Rattle.stateful_base.specs.Names.{Named}
use Rattle.stateful_base.specs.declared.digest.Digest.{Digest}
use Rattle.stateful_history.specs.Past.{Past, after}
use Rattle.stateful_history.specs.Met.{Met, TrueNames}
use Rattle.stateful_history.proofs.Marks.{after-append}
use Rattle.stateful_exec_model.specs.Ending.{InTurn, none, next}
use Rattle.stateful_exec_model.specs.Moments.{Moment}
use Rattle.stateful_exec_walk.specs.Path.{Path}
use Rattle.stateful_exec_model.specs.Workings.{Workings, Point}
use Rattle.stateful_exec_walk.specs.declared.request.Request.{Request}
use Rattle.stateful_exec_laws.specs.Setting.{setting}
use Rattle.stateful_exec_laws.specs.Requesting.{steps, IsWayOf}
use Rattle.stateful_exec_laws.specs.Standing.{TablesStand, IsInHand, StandsBehind}
use Rattle.stateful_exec_laws.proofs.requests.Served.{Serves}

module _ {B C I P R D H G U : Type 0} (w : Workings B C I P R D H G U) (stored : ℕ → Option (Named B)) (points : Digest → Point w) (point : Point w) where
  -- what is asked of the databases and of the past
  pub record IsReady (p : Past B C I) (m : Moment w) : Type 0 where
    pub stands : TablesStand w stored p points point m.next m.state
    pub names : TrueNames (setting w stored) p
    pub located : w.kind.point m.members ≡ Some point
    pub drawn : w.kind.issued m.next (point ∷ [])

  -- all of them were served, and more can be
  pub record AreServed (p : Past B C I) (m last : Moment w) : Type 0 where
    pub behind : StandsBehind w stored p points point m last
    pub ready : IsReady (after p behind.more) last

  module _ {X : Type 0} (ticket : X → ℕ) (request : X → Request B C I) (Fits : Past B C I → Moment w → X → Type 0) where
    -- the request is in hand, and what is asked of it holds
    pub record IsFit (p : Past B C I) (m : Moment w) (x : X) : Type 0 where
      pub hand : IsInHand w stored p (ticket x) (request x) m.state
      pub fits : Fits p m x

    module _ (Rule : X → Moment w → Moment w → Type 0)
        (serves : (p : Past B C I) (m now : Moment w) (x : X) → IsReady p m → IsFit p m x → Rule x m now → Serves w stored p points point m (ticket x) now)
        (keeps : (p : Past B C I) (m now : Moment w) (x : X) → Rule x m now → (v : Serves w stored p points point m (ticket x) now) → (y : X) → Fits p m y → Fits (after p v.behind.more) now y) where
      still_ready : (p : Past B C I) (m now : Moment w) (t : ℕ) → IsReady p m → (v : Serves w stored p points point m t now) → IsReady (after p v.behind.more) now
      still_ready p m now t ready v = record {
        stands = v.behind.stands;
        names = λ x y has_x has_y. ready.names x y ((v.met x).0 has_x) ((v.met y).0 has_y);
        located = rw v.behind.members_are ready.located;
        drawn = v.drawn ready.drawn;
      }

      -- all of them are served
      pub AreServed-each : (xs : List X) (p : Past B C I) (m last : Moment w) → IsReady p m → All (IsFit p m) xs → AllPairs (λ x y. ticket x ≢ ticket y) xs → InTurn Rule xs m last → AreServed p m last
      AreServed-each [] p _ _ ready each apart (none {m = m}) = record { behind = record { more = []; marks_are = sym (append-nil m.marks); members_are = refl; stands = ready.stands; waiting = λ h. h }; ready = ready }
      AreServed-each (x ∷ xs) p m last ready each apart (next {n = n} rule rules) =
          let served : Serves w stored p points point m (ticket x) n = serves p m n x ready (All-head (IsFit p m) x xs each) rule in
          let others : All (λ y. ticket y ≢ ticket x) xs = λ k y within same. apart 0 (suc k) y (omega arith) (omega (arith, within)) (sym same) in
          let rest : AreServed (after p served.behind.more) n last =
          AreServed-each xs (after p served.behind.more) n last (still_ready p m n (ticket x) ready served)
          (λ k y within. let fit = All-tail (IsFit p m) x xs each k y within in record {
            hand = served.others (ticket (get_or xs k y)) (request (get_or xs k y)) (others k y within) fit.hand;
            fits = keeps p m n x rule served (get_or xs k y) fit.fits;
          })
          (λ i j y lt within. apart (suc i) (suc j) y (omega (arith, lt)) (omega (arith, within))) rules in
          let behind = rest.behind in
          record {
            behind = record {
              more = served.behind.more ++ behind.more;
              marks_are = behind.marks_are ∙ ap (λ marks. marks ++ behind.more) served.behind.marks_are ∙ append_assoc m.marks served.behind.more behind.more;
              members_are = behind.members_are ∙ served.behind.members_are;
              stands = rw (after-append p served.behind.more behind.more) behind.stands;
              waiting = λ h. rw (after-append p served.behind.more behind.more) (behind.waiting (served.behind.waiting h));
            };
            ready = subst (λ q. IsReady q last) (sym (after-append p served.behind.more behind.more)) rest.ready;
          }

  module _ {X : Type 0} (ticket : X → ℕ) (request : X → Request B C I) (path : X → Path B) where
    -- the request is in hand, and its way leads down its path
    pub record IsOnWay (p : Past B C I) (m : Moment w) (x : X) : Type 0 where
      pub hand : IsInHand w stored p (ticket x) (request x) m.state
      pub way : IsWayOf w stored p (request x) (path x)

    module _ (Rule : X → Moment w → Moment w → Type 0)
        (serves : (p : Past B C I) (m now : Moment w) (x : X) → IsReady p m → IsOnWay p m x → Rule x m now → Serves w stored p points point m (ticket x) now) where
      abbrev has_way : Past B C I → Moment w → X → Type 0
      has_way p m x = IsWayOf w stored p (request x) (path x)

      -- all requests that go along their ways are served
      pub AreServed-in_turn : (xs : List X) (p : Past B C I) (m last : Moment w) → IsReady p m → All (IsOnWay p m) xs → AllPairs (λ x y. ticket x ≢ ticket y) xs → InTurn Rule xs m last → AreServed p m last
      AreServed-in_turn xs p m last ready each apart rules =
          AreServed-each ticket request has_way Rule
          (λ q n now x r fit rule. serves q n now x r (record { hand = fit.hand; way = fit.fits }) rule)
          (λ q n now x rule v y way. record {
            met = All-weaker (Met (setting w stored) q) (Met (setting w stored) (after q v.behind.more)) (λ b met. (v.met b).1 met) (steps (path y)) way.met;
            leads = way.leads;
            begins = way.begins;
          })
          xs p m last ready
          (All-weaker (IsOnWay p m) (IsFit ticket request has_way p m) (λ x on. record { hand = on.hand; fits = on.way }) xs each) apart rules
