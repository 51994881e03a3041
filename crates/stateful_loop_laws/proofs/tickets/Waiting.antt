-- What waits in the loop stays, where it isn't of the tickets that are served.
use Rattle.std.proofs.Common.{◌≡◌, ◌≢◌, AllPairs, ◌≤◌, ◌+◌, ◌++◌, ℕ, List, [], ◌∷◌, map, All, Option, Some, None, IfSome, IsSome, get_or, sym, ap, ◌∙◌, arith}
use Rattle.std.proofs.lemmas.List.{map-append}
use Rattle.std.proofs.lemmas.List.Elements.{All-nil, All-cons, All-weaker, All-head, All-tail}
use Rattle.std.proofs.lemmas.List.Kept.{AllPairs-cons}
use Rattle.stateful_base.specs.Names.{Named}
use Rattle.stateful_history.specs.Finalizations.{finalized_since}
use Rattle.stateful_history.specs.Met.{Met}
use Rattle.stateful_history.specs.Past.{Past}
use Rattle.stateful_history.specs.Requests.{IsLiveReceipt}
use Rattle.stateful_table.specs.Table.{at}
use Rattle.stateful_exec_model.specs.Workings.{Workings}
use Rattle.stateful_exec_model.specs.declared.building.Building.{Building}
use Rattle.stateful_exec_walk.specs.declared.request.Request.TheVariants.{Verify, Recover}
use Rattle.stateful_exec_tables.specs.declared.state.Tables.{Tables}
use Rattle.stateful_exec_laws.specs.Building.{IsElsewhere}
use Rattle.stateful_exec_laws.specs.Requesting.{brought_by}
use Rattle.stateful_exec_laws.specs.Setting.{setting}
use Rattle.stateful_loop_model.specs.Moments.{Moment}
use Rattle.stateful_loop_model.specs.declared.message.Action.{Action}
use Rattle.stateful_loop_model.specs.declared.message.Action.TheVariants as action
use Rattle.stateful_loop_model.specs.declared.message.Message.{Message}
use Rattle.stateful_loop_model.specs.declared.message.Message.TheVariants.{Request, Finalized, Subscribe}
use Rattle.stateful_loop_model.specs.declared.tables.Finalizing.{Finalizing}
use Rattle.stateful_loop_laws.specs.Tickets.{ticket_in, ticket_under, ticket_in_front, IsReceiptAt, MessageStands, ActionStands, TicketsStand}
use Rattle.stateful_loop_laws.proofs.tickets.Saying.{SaysSame}
use Rattle.stateful_loop_laws.proofs.tickets.Times.{times, AreApart, times-append, apart_fewer, apart_others, apart_rest}

module _ {X : Type 0} (P : X → Type 0) where
  -- what holds of all of a list holds of its parts
  pub All-left : (xs ys : List X) → All P (xs ++ ys) → All P xs
  All-left [] ys all = All-nil P
  All-left (x ∷ xs) ys all = All-cons P x xs (All-head P x (xs ++ ys) all) (All-left xs ys (All-tail P x (xs ++ ys) all))

  -- and of the later part
  pub All-right : (xs ys : List X) → All P (xs ++ ys) → All P ys
  All-right [] ys all = all
  All-right (x ∷ xs) ys all = All-right xs ys (All-tail P x (xs ++ ys) all)

  -- what holds of what is read off each one
  pub All-unmap : {Y : Type 0} (f : Y → X) (ys : List Y) → All P (map f ys) → All (λ y. P (f y)) ys
  All-unmap f [] all = All-nil (λ y. P (f y))
  All-unmap f (y ∷ ys) all = All-cons (λ z. P (f z)) y ys (All-head P (f y) (map f ys) all) (All-unmap f ys (All-tail P (f y) (map f ys) all))

module _ {X : Type 0} (f : X → ℕ) where
  -- where their numbers are different, they are
  pub apart-unmap : (xs : List X) → AreApart (map f xs) → AllPairs (λ x y. f x ≢ f y) xs
  apart-unmap [] apart = λ i j d lt within. let never : ⊥ = omega (arith, within) in absurd never
  apart-unmap (x ∷ xs) apart = AllPairs-cons (λ y z. f y ≢ f z) x xs (All-unmap (λ u. f x ≢ u) f xs (apart_others (f x) (map f xs) apart))
      (apart-unmap xs (apart_rest (f x) (map f xs) apart))

  -- with one more behind the others
  pub times-pushed : (t : ℕ) (xs : List X) (x : X) → times t (map f (xs ++ x ∷ [])) ≡ times t (map f xs) + times t (f x ∷ [])
  times-pushed t xs x = rw (map-append f xs (x ∷ [])) (times-append t (map f xs) (f x ∷ []))

module _ {B C I G : Type 0} where
  -- the tickets of all that waits
  abbrev pub waiting : List (Message B C I) → List (Action B C I) → Option (Finalizing B G) → List (ℕ × ℕ) → List ℕ
  waiting queue actions front held = map ticket_in queue ++ map ticket_under actions ++ ticket_in_front front ++ map (λ receipt. receipt.1) held

  -- how often a ticket waits, part by part
  pub times-waiting : (t : ℕ) (queue : List (Message B C I)) (actions : List (Action B C I)) (front : Option (Finalizing B G)) (held : List (ℕ × ℕ))
      → times t (waiting queue actions front held) ≡ times t (map ticket_in queue) + times t (map ticket_under actions) + times t
      (ticket_in_front front) + times t (map (λ receipt. receipt.1) held)
  times-waiting t queue actions front held =
      times-append t (map ticket_in queue ++ map ticket_under actions ++ ticket_in_front front) (map (λ receipt. receipt.1) held)
      ∙ ap (λ n. n + times t (map (λ receipt. receipt.1) held))
      (times-append t (map ticket_in queue ++ map ticket_under actions) (ticket_in_front front)
      ∙ ap (λ n. n + times t (ticket_in_front front)) (times-append t (map ticket_in queue) (map ticket_under actions)))

module _ {B C I P R D H G U : Type 0} (w : Workings B C I P R D H G U) (stored : ℕ → Option (Named B)) where
  -- a ticket of which no request is in a table, for which nothing is built, and which isn't one of these
  abbrev pub Other : Tables B C I R U → Option (Building B C D) → (ℕ → Type 0) → ℕ → Type 0
  Other v build Own t = IsElsewhere v t × IfSome build (λ b. b.ticket ≢ t) × (Own t → ⊥)

  -- From a past and tables to later ones, what isn't of these tickets is as it was: what the past says of it, and that its
  -- request is in no table, or that its proposal is queued and was handed out.
  pub record Spares (Own : ℕ → Type 0) (p q : Past B C I) (v new : Tables B C I R U) (build after : Option (Building B C D)) : Type 0 where
    pub says : SaysSame (setting w stored) (Other v build Own) p q
    pub elsewhere : (t : ℕ) → Other v build Own t → IsElsewhere new t
    pub unbuilt : (t : ℕ) → (Own t → ⊥) → IfSome build (λ b. b.ticket ≢ t) → IfSome after (λ b. b.ticket ≢ t)
    pub queued : (t : ℕ) → (Own t → ⊥) → IsSome (at v.queued t) → IsSome (at new.queued t)
    pub recovered : (t : ℕ) → (Own t → ⊥) → IsSome (at v.queued t) → All (λ u. u ≢ t) v.recovered → All (λ u. u ≢ t) new.recovered
    pub receipts : (t : ℕ) → IsLiveReceipt t p → IsElsewhere v t × IfSome build (λ b. b.ticket ≢ t)

  -- what waits stands for a past, and for the tables
  pub record Waits (p : Past B C I) (v : Tables B C I R U) (build : Option (Building B C D))
      (messages : List (Message B C I)) (acts : List (Action B C I)) (in_front : Option (Finalizing B G)) (receipts : List (ℕ × ℕ)) : Type 0 where
    pub queue : All (MessageStands w stored p v build) messages
    pub actions : All (ActionStands w stored p v build) acts
    pub front : IfSome in_front (λ f. IsLiveReceipt f.ticket p × (finalized_since f.ticket p ≡ Some f.block))
    pub held : All (λ receipt. IsReceiptAt w.header p receipt.1 receipt.0) receipts

  module _ (Own : ℕ → Type 0) (p q : Past B C I) (v new : Tables B C I R U) (build after : Option (Building B C D))
      (s : Spares Own p q v new build after) where
    receipt_other : (t : ℕ) → IsLiveReceipt t p → (Own t → ⊥) → Other v build Own t
    receipt_other t live off = let r = s.receipts t live in (r.0, r.1, off)

    -- a message of another ticket stands still
    pub message_stays : (x : Message B C I) → (Own (ticket_in x) → ⊥) → MessageStands w stored p v build x → MessageStands w stored q new after x
    message_stays (Request (Verify u ancestry)) off h =
        let o : Other v build Own u = (h.2.elsewhere, h.2.unbuilt, off) in (
          record { live = s.says.live u o ∙ h.0.live; verifies = s.says.verified u o ∙ h.0.verifies },
          All-weaker (Met (setting w stored) p) (Met (setting w stored) q) s.says.met (brought_by {C = C} {I = I} (Verify u ancestry)) h.1,
          record { elsewhere = s.elsewhere u o; unbuilt = s.unbuilt u off h.2.unbuilt },
        )
    message_stays (Request (Recover u context ancestry input kind)) off h =
        let o : Other v build Own u = (h.2.elsewhere, h.2.unbuilt, off) in (
          record { live = s.says.live u o ∙ h.0.live; proposes = s.says.proposed u o ∙ h.0.proposes },
          All-weaker (Met (setting w stored) p) (Met (setting w stored) q) s.says.met (brought_by (Recover u context ancestry input kind)) h.1,
          record { elsewhere = s.elsewhere u o; unbuilt = s.unbuilt u off h.2.unbuilt },
        )
    message_stays (Subscribe t) off h =
        let o : Other v build Own t = (h.1.elsewhere, h.1.unbuilt, off) in (
          record { live = s.says.live t o ∙ h.0.live; subscribes = s.says.subscribed t o ∙ h.0.subscribes },
          record { elsewhere = s.elsewhere t o; unbuilt = s.unbuilt t off h.1.unbuilt },
        )
    message_stays (Finalized t b) off h = let o = receipt_other t h.0 off in (s.says.live t o ∙ h.0, s.says.finalized t o ∙ h.1)

    -- an action of another ticket does
    pub action_stays : (x : Action B C I) → (Own (ticket_under x) → ⊥) → ActionStands w stored p v build x → ActionStands w stored q new after x
    action_stays (action.Message x) off h = message_stays x off h
    action_stays (action.Build t) off h = (s.queued t off h.0, s.recovered t off h.0 h.1, s.unbuilt t off h.2)

    front_stays : (f : Option (Finalizing B G)) → All (λ t. Own t → ⊥) (ticket_in_front f)
        → IfSome f (λ f. IsLiveReceipt f.ticket p × (finalized_since f.ticket p ≡ Some f.block))
        → IfSome f (λ f. IsLiveReceipt f.ticket q × (finalized_since f.ticket q ≡ Some f.block))
    front_stays None off h = tt
    front_stays (Some f) off h = let o = receipt_other f.ticket h.0 (All-head (λ t. Own t → ⊥) f.ticket [] off) in
        (s.says.live f.ticket o ∙ h.0, s.says.finalized f.ticket o ∙ h.1)

    -- a receipt of another ticket does
    pub receipt_stays : (t height : ℕ) → (Own t → ⊥) → IsReceiptAt w.header p t height → IsReceiptAt w.header q t height
    receipt_stays t height off h = let o = receipt_other t h.live off in record {
      live = s.says.live t o ∙ h.live;
      block = h.block;
      finalized = s.says.finalized t o ∙ h.finalized;
      height_is = h.height_is;
    }

    -- what waits under other tickets stands still
    pub waits_still : (queue : List (Message B C I)) (actions : List (Action B C I)) (front : Option (Finalizing B G)) (held : List (ℕ × ℕ))
        → All (λ t. Own t → ⊥) (waiting queue actions front held) → Waits p v build queue actions front held
        → Waits q new after queue actions front held
    waits_still queue actions front held off h =
        let N : ℕ → Type 0 = λ t. Own t → ⊥ in
        let receipts : List ℕ = map (λ receipt. receipt.1) held in
        let before = All-left N (map ticket_in queue ++ map ticket_under actions ++ ticket_in_front front) receipts off in
        let first = All-left N (map ticket_in queue ++ map ticket_under actions) (ticket_in_front front) before in
        let of_queue : All (λ x. N (ticket_in x)) queue = All-unmap N ticket_in queue
        (All-left N (map ticket_in queue) (map ticket_under actions) first) in
        let of_actions : All (λ x. N (ticket_under x)) actions = All-unmap N ticket_under actions
        (All-right N (map ticket_in queue) (map ticket_under actions) first) in
        let of_held : All (λ (r : ℕ × ℕ). N r.1) held = All-unmap N (λ receipt. receipt.1) held
        (All-right N (map ticket_in queue ++ map ticket_under actions ++ ticket_in_front front) receipts off) in
        record {
          queue = λ k d l. message_stays (get_or queue k d) (of_queue k d l) (h.queue k d l);
          actions = λ k d l. action_stays (get_or actions k d) (of_actions k d l) (h.actions k d l);
          front = front_stays front (All-right N (map ticket_in queue ++ map ticket_under actions) (ticket_in_front front) before) h.front;
          held = λ k d l. receipt_stays (get_or held k d).1 (get_or held k d).0 (of_held k d l) (h.held k d l);
        }

  -- of a moment
  abbrev pub WaitsAt : Past B C I → Moment w → Type 0
  WaitsAt p m = Waits p m.execution.state m.execution.build m.loop.queue m.loop.actions m.loop.front m.loop.durability.held

  -- the tickets of all that waits at a moment
  abbrev pub waiting_at : Moment w → List ℕ
  waiting_at m = waiting m.loop.queue m.loop.actions m.loop.front m.loop.durability.held

  -- what waits at a moment where all of it stands
  pub waits_of : (p : Past B C I) (m : Moment w) → TicketsStand w stored p m → WaitsAt p m
  waits_of p m s = record { queue = s.queue; actions = s.actions; front = s.front; held = s.held }

  -- all of it stands where each one does and no two are of one ticket
  pub TicketsStand-by : (p : Past B C I) (m : Moment w) → WaitsAt p m → AreApart (waiting_at m) → AreApart m.execution.state.recovered
      → TicketsStand w stored p m
  TicketsStand-by p m h apart once = record { queue = h.queue; actions = h.actions; front = h.front; held = h.held; apart = apart; once = once }

-- a ticket in a list of different ones isn't among the others
pub apart_taken : (t : ℕ) (us vs : List ℕ) → ((u : ℕ) → times u (t ∷ vs) ≤ times u us) → AreApart us → All (λ u. u ≡ t → ⊥) vs × AreApart vs
apart_taken t us vs fewer apart =
    let with_it : AreApart (t ∷ vs) = apart_fewer us (t ∷ vs) apart fewer in
    (All-weaker (λ u. t ≢ u) (λ u. u ≡ t → ⊥) (λ u other same. other (sym same)) vs (apart_others t vs with_it), apart_rest t vs with_it)

-- no ticket is served
pub none_of : (us : List ℕ) → All (λ t. ⊥ → ⊥) us
none_of us k d l never = never
