-- Requests in hand that are served in turn, each on the ground on which reasons are found: what a rule on marks and the ground are
-- carried by from one to the next.
use Rattle.std.proofs.Common.{◌≡◌, ◌≢◌, ◌++◌, ℕ, suc, List, [], ◌∷◌, All, AllPairs, Option, get_or, sym, ◌∙◌, subst, arith}
use Rattle.std.proofs.lemmas.List.{append_cancel_left}
use Rattle.std.proofs.lemmas.List.Elements.{All-head, All-tail}
use Rattle.stateful_base.specs.Names.{Named}
use Rattle.stateful_base.specs.declared.anchor.Anchor.{Anchor}
use Rattle.stateful_base.specs.declared.digest.Digest.{Digest}
use Rattle.stateful_history.specs.Fetches.{Abstains}
use Rattle.stateful_history.specs.Met.{TrueNames}
use Rattle.stateful_history.specs.Past.{Past, after}
use Rattle.stateful_history.specs.declared.mark.Mark.{Mark}
use Rattle.stateful_exec_cache.specs.declared.cache.Cached.{Cached}
use Rattle.stateful_exec_model.specs.Ending.{InTurn}
use Rattle.stateful_exec_model.specs.Moments.{Moment}
use Rattle.stateful_exec_model.specs.Workings.{Workings, Point}
use Rattle.stateful_exec_pause.specs.declared.pause.Pause.{Pause}
use Rattle.stateful_exec_walk.specs.declared.request.Request.{Request}
use Rattle.stateful_exec_laws.specs.Setting.{setting}
use Rattle.stateful_exec_laws.specs.Standing.{IsInHand}
use Rattle.stateful_exec_laws.proofs.earned.Carried.{IsMild}
use Rattle.stateful_exec_laws.proofs.earned.Left.{IsLeft, LeavesBehind}
use Rattle.stateful_exec_laws.proofs.pauses.InTurn.{IsReady}
use Rattle.stateful_exec_laws.proofs.requests.KeptMarks.{KeepsBehind, EachMark-behind, KeepsReady, KeepsReady-in_turn}
use Rattle.stateful_exec_laws.proofs.reasons.Ground.{IsGround, IsGround-longer}
use Rattle.stateful_exec_laws.proofs.requests.SamePast.{IsSamePast, IsSamePast-mild}
use Rattle.stateful_exec_laws.proofs.requests.Served.{Serves}

module _ {B C I P R D H G U : Type 0} (w : Workings B C I P R D H G U) (stored : ℕ → Option (Named B)) where
  -- the longer past is the same, and who abstains does so still
  pub record IsCarried (p q : Past B C I) : Type 0 where
    pub same : IsSamePast (setting w stored) p q
    pub abstains : (t : ℕ) (b : Named B) → Abstains (setting w stored) t p b → Abstains (setting w stored) t q b

module _ {B C I P R D H G U : Type 0} (w : Workings B C I P R D H G U) (stored : ℕ → Option (Named B)) (base : w.States) (points : Digest → Point w) (point : Point w) (tip : Anchor) where
  -- more can be served, and reasons can be found
  pub record IsGrounded (p : Past B C I) (m : Moment w) : Type 0 where
    pub ready : IsReady w stored points point p m
    pub ground : IsGround w stored base p points point m.next tip m.state.pause m.state.anchor m.state.cache

  module _ (p : Past B C I) (m now : Moment w) (t : ℕ) (v : Serves w stored p points point m t now) (l : LeavesBehind w m now) where
    abbrev q : Past B C I
    q = after p v.behind.more

    mild : All (λ x. IsMild x) v.behind.more
    mild = subst (λ (more : List (Mark B)). All (λ x. IsMild x) more) (append_cancel_left m.marks l.more v.behind.more (sym l.marks_are ∙ v.behind.marks_are)) l.mild

    pub IsCarried-served : IsCarried w stored p q
    IsCarried-served = record { same = IsSamePast-mild (setting w stored) p v.behind.more mild v.met; abstains = v.abstains }

    -- so it is behind a request that was served
    pub IsGrounded-served : IsGrounded p m → IsGrounded q now
    IsGrounded-served g = record {
      ready = record {
        stands = v.behind.stands;
        names = names;
        located = rw v.behind.members_are g.ready.located;
        drawn = v.drawn g.ready.drawn;
      };
      ground = rw (l.left.pause, l.left.anchor, l.left.cache) (IsGround-longer w stored base points point tip p q (λ b met. (v.met b).1 met) same.anchor same.tip same.blocks m.next now.next m.state.pause m.state.anchor m.state.cache
          (rw (sym l.left.pause, sym l.left.anchor, sym l.left.cache) v.behind.stands.cache) names g.ground);
    }
      where
        names : TrueNames (setting w stored) q
        names = λ x y has_x has_y. g.ready.names x y ((v.met x).0 has_x) ((v.met y).0 has_y)

        same : IsSamePast (setting w stored) p q
        same = IsCarried-served.same

  module _ (Rule : Past B C I → Mark B → Type 0) {X : Type 0} (ticket : X → ℕ) (request : X → Request B C I) (Also : Past B C I → Pause → Anchor → List (Cached U) → X → Type 0) where
    -- what is asked of each, over the tables' pause, anchor and cache
    abbrev pub Fits : Past B C I → Moment w → X → Type 0
    Fits p m x = Also p m.state.pause m.state.anchor m.state.cache x

    -- the requests are in hand, each of a ticket of its own, what is asked of each holds, and what stays
    pub record AreGrounded (Stays : Past B C I → Moment w → Type 0) (xs : List X) (p : Past B C I) (m : Moment w) : Type 0 where
      pub grounded : IsGrounded p m
      pub stays : Stays p m
      pub hands : All (λ x. IsInHand w stored p (ticket x) (request x) m.state) xs
      pub apart : AllPairs (λ x y. ticket x ≢ ticket y) xs
      pub also : All (Fits p m) xs

    fits_left : (q : Past B C I) (m now : Moment w) → IsLeft m.state now.state → (x : X) → Fits q m x → Fits q now x
    fits_left q m now left x h = rw (left.pause, left.anchor, left.cache) h

    module _ (Step : X → Moment w → Moment w → Type 0)
        (serves : (p : Past B C I) (m now : Moment w) (x : X) → IsReady w stored points point p m → IsInHand w stored p (ticket x) (request x) m.state → Fits p m x → Step x m now → Serves w stored p points point m (ticket x) now)
        (leaves : (m now : Moment w) (x : X) → Step x m now → LeavesBehind w m now)
        (carry : (p q : Past B C I) (pause : Pause) (anchor : Anchor) (cache : List (Cached U)) (x : X) → IsCarried w stored p q → Also p pause anchor cache x → Also q pause anchor cache x) where
      module _ (Stays Then : Past B C I → Moment w → Type 0)
          (stay : (p : Past B C I) (m now : Moment w) (x : X) (more : List (Mark B)) → now.marks ≡ m.marks ++ more → IsGrounded p m → IsInHand w stored p (ticket x) (request x) m.state → Fits p m x → Step x m now → IsCarried w stored p (after p more) → Stays p m → Then (after p more) now)
          (keeps : (p : Past B C I) (m now : Moment w) (x : X) → IsGrounded p m → IsInHand w stored p (ticket x) (request x) m.state → Fits p m x → Stays p m → Step x m now → KeepsBehind w Rule p m now) where
        -- one of them is served: its marks keep the rule, and the others are ready behind it
        pub AreGrounded-one : (x : X) (xs : List X) (p : Past B C I) (m now : Moment w) → AreGrounded Stays (x ∷ xs) p m → Step x m now → KeepsReady w Rule Step (AreGrounded Then) xs p m now
        AreGrounded-one x xs p m now r step = record {
          more = v.behind.more;
          marks_are = v.behind.marks_are;
          each = EachMark-behind w Rule p m now v.behind.more v.behind.marks_are (keeps p m now x r.grounded hand fits r.stays step);
          ready = record {
            grounded = IsGrounded-served p m now (ticket x) v l r.grounded;
            stays = stay p m now x v.behind.more v.behind.marks_are r.grounded hand fits step (IsCarried-served p m now (ticket x) v l) r.stays;
            hands = λ k y within. v.others (ticket (get_or xs k y)) (request (get_or xs k y)) (λ same. r.apart 0 (suc k) y (omega arith) (omega (arith, within)) (sym same)) (All-tail (λ z. IsInHand w stored p (ticket z) (request z) m.state) x xs r.hands k y within);
            apart = λ i j y lt within. r.apart (suc i) (suc j) y (omega (arith, lt)) (omega (arith, within));
            also = λ k y within. moved (get_or xs k y) (All-tail (Fits p m) x xs r.also k y within);
          };
        }
          where
            hand : IsInHand w stored p (ticket x) (request x) m.state
            hand = All-head (λ z. IsInHand w stored p (ticket z) (request z) m.state) x xs r.hands

            fits : Fits p m x
            fits = All-head (Fits p m) x xs r.also

            v : Serves w stored p points point m (ticket x) now
            v = serves p m now x r.grounded.ready hand fits step

            l : LeavesBehind w m now
            l = leaves m now x step

            moved : (y : X) → Fits p m y → Fits (after p v.behind.more) now y
            moved y h = fits_left (after p v.behind.more) m now l.left y (carry p (after p v.behind.more) m.state.pause m.state.anchor m.state.cache y (IsCarried-served p m now (ticket x) v l) h)

      module _ (Stays : Past B C I → Moment w → Type 0)
          (stay : (p : Past B C I) (m now : Moment w) (x : X) (more : List (Mark B)) → now.marks ≡ m.marks ++ more → IsGrounded p m → IsInHand w stored p (ticket x) (request x) m.state → Fits p m x → Step x m now → IsCarried w stored p (after p more) → Stays p m → Stays (after p more) now)
          (keeps : (p : Past B C I) (m now : Moment w) (x : X) → IsGrounded p m → IsInHand w stored p (ticket x) (request x) m.state → Fits p m x → Stays p m → Step x m now → KeepsBehind w Rule p m now) where
        -- each mark that is made keeps the rule, and the ground is there behind them
        pub AreGrounded-in_turn : (xs : List X) (p : Past B C I) (m last : Moment w) → AreGrounded Stays xs p m → InTurn Step xs m last → KeepsReady w Rule Step (AreGrounded Stays) [] p m last
        AreGrounded-in_turn xs p m last r turns = KeepsReady-in_turn w Rule Step (AreGrounded Stays) (AreGrounded-one Stays Stays stay keeps) xs p m last r turns
