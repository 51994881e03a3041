-- How much the parts of a moment weigh, and their sum.
use Rattle.std.proofs.Common.{◌≡◌, ◌≤◌, ◌<◌, ◌+◌, ◌*◌, ℕ, Bool, true, false, if◌then◌else◌, nat_lt, Option, Some, None, List, [], ◌∷◌, ◌++◌, length, sum_by, unwrap_or, refl, ap, ◌∙◌, arith}
use Rattle.std.specs.List.{last_or}
use Rattle.std.proofs.lemmas.Bool.{lt-ltb, le-ltb}
use Rattle.stateful_base.specs.Names.{Named}
use Rattle.stateful_durability.specs.Durability.{Coverage, covered_by_barriers}
use Rattle.stateful_exec_model.specs.Finalizing.{front_at}
use Rattle.stateful_exec_model.specs.Workings.{Workings}
use Rattle.stateful_exec_model.specs.declared.front.Front.{Front}
use Rattle.stateful_exec_model.specs.declared.front.Stage.{Stage}
use Rattle.stateful_exec_model.specs.declared.front.Stage.TheVariants.{Begun, Running, Ran, Advanced, Hooking}
use Rattle.stateful_loop_model.proofs.FallingTables.{tables_weight}
use Rattle.stateful_loop_model.specs.Moments.{Moment}
use Rattle.stateful_loop_model.specs.declared.message.Action.{Action}
use Rattle.stateful_loop_model.specs.declared.message.Action.TheVariants as action
use Rattle.stateful_loop_model.specs.declared.tables.Finalizing.{Finalizing}

-- a message that was put off, and a build that is to be started
abbrev pub action_weight : {B C I : Type 0} → Action B C I → ℕ
action_weight (action.Message message) = 9
action_weight (action.Build t) = 1

-- a finalization of which nothing is captured, by how far it has come
abbrev pub stage_weight : {R U H : Type 0} → Stage R U H → ℕ
stage_weight Begun = 8
stage_weight (Running j run) = 7
stage_weight (Ran batch) = 7
stage_weight Advanced = 1
stage_weight (Hooking j hook) = 1

abbrev pub reached_weight : {B R U H : Type 0} → Option (Front B R U H) → ℕ
reached_weight None = 0
reached_weight (Some front) = stage_weight front.stage

-- 3 where something is captured
abbrev pub captured_or : {G : Type 0} → ℕ → Option G → ℕ
captured_or n None = n
captured_or n (Some captured) = 3

abbrev pub front_weight : {B R U H G : Type 0} → Option (Finalizing B G) → Option (Front B R U H) → ℕ
front_weight None front = 0
front_weight (Some f) front = captured_or (reached_weight front) f.captured

-- the applied height isn't covered by barriers
abbrev pub uncovered_by : ℕ → ℕ → ℕ
uncovered_by covered applied = if nat_lt covered applied then 2 else 0

abbrev pub uncovered : Coverage → ℕ
uncovered c = uncovered_by (covered_by_barriers c) c.applied

abbrev pub up_weight : Bool → ℕ
up_weight up = if up then 1 else 0

-- What is left to do at a moment: each message of the mailbox, each action, each recovered proposal and each request, the
-- finalization in front, each open barrier and one that is wanted, and the machine itself weigh something.
abbrev pub weight : {B C I P R D H G U : Type 0} (w : Workings B C I P R D H G U) → Moment w → ℕ
weight w m =
    10 * length m.loop.queue
    + sum_by action_weight m.loop.actions
    + tables_weight m.execution.state
    + front_weight m.loop.front m.execution.front
    + length m.loop.barriers
    + uncovered m.loop.durability
    + up_weight m.loop.up

pub uncovered_few : (c : Coverage) → uncovered c ≤ 2
uncovered_few c = by (nat_lt (covered_by_barriers c) c.applied)
  where
    by : (b : Bool) → (if b then 2 else 0) ≤ 2
    by true = omega arith
    by false = omega arith

pub uncovered_two : (c : Coverage) → covered_by_barriers c < c.applied → uncovered c ≡ 2
uncovered_two c lt = ap (λ b. if b then 2 else 0) (lt-ltb (covered_by_barriers c) c.applied lt)

last_push : (o : Option ℕ) (xs : List ℕ) (x : ℕ) → last_or o (xs ++ x ∷ []) ≡ Some x
last_push o [] x = refl
last_push o (y ∷ ys) x = last_push (Some y) ys x

-- a new barrier covers it
pub covered_now : (c : Coverage) → uncovered (record c { barriers = c.barriers ++ c.applied ∷ [] }) ≡ 0
covered_now c =
    let last : covered_by_barriers (record c { barriers = c.barriers ++ c.applied ∷ [] }) ≡ c.applied =
    ap (λ o. unwrap_or o c.durable) (last_push None c.barriers c.applied) in
    ap (λ b. if b then 2 else 0) (le-ltb (covered_by_barriers (record c { barriers = c.barriers ++ c.applied ∷ [] })) c.applied (omega (arith, last)))

last_some : (x : ℕ) (xs : List ℕ) (d e : ℕ) → unwrap_or (last_or (Some x) xs) d ≡ unwrap_or (last_or (Some x) xs) e
last_some x [] d e = refl
last_some x (y ∷ ys) d e = last_some y ys d e

-- once the oldest barrier has made its height durable, the others cover as much as before
pub covered_still : (h : ℕ) (hs : List ℕ) (d : ℕ) → unwrap_or (last_or None (h ∷ hs)) d ≡ unwrap_or (last_or None hs) h
covered_still h [] d = refl
covered_still h (x ∷ xs) d = last_some x xs d h

module _ {B R U H G : Type 0} where
  pub weighs : (front : Option (Finalizing B G)) (reached : Option (Front B R U H)) (f : Finalizing B G) (b : Named B) (s : Stage R U H)
      → front ≡ Some f → f.captured ≡ None → reached ≡ front_at b s → front_weight front reached ≡ stage_weight s
  weighs front reached f b s is none at =
      ap (λ x. front_weight x reached) is ∙ ap (captured_or (reached_weight reached)) none ∙ ap reached_weight at

  pub weighs_captured : (front : Option (Finalizing B G)) (reached : Option (Front B R U H)) (f : Finalizing B G) (captured : G)
      → front ≡ Some f → f.captured ≡ Some captured → front_weight front reached ≡ 3
  weighs_captured front reached f captured is some = ap (λ x. front_weight x reached) is ∙ ap (captured_or (reached_weight reached)) some
