-- What a set of one database means. Its number is 0.
use Rattle.std.specs.Prelude.{◌≡◌, ℕ, ◌+◌, ◌-◌, ◌^◌, ◌≤◌, slice_get}
use Rattle.stateful_base.specs.declared.target.Target.{Target}
use Rattle.stateful_db.specs.Chain.{AllBelow, ids}
use Rattle.stateful_db.specs.Databases.{Databases}
use Rattle.stateful_db.specs.Member.{Member, member_point, MemberHasAt, MemberKeeps, member_first}
use Rattle.stateful_db.specs.Member.{member_place, member_durable, member_tokens, MemberIsSound}
use Rattle.stateful_db.specs.Member.{IsIdle, HasRoom, IsOpenable, IsClosed, IsNotAway, IsAway}
use Rattle.stateful_db.specs.Member.{IsLost, MemberHas, member_applied, member_finalized}
use Rattle.stateful_db.specs.Member.{member_flushed}
use Rattle.stateful_db.specs.Member.{IsPrunable, member_pruned, IsLostApplying, IsLostFinalizing}
use Rattle.stateful_db.specs.Member.{IsLostFlushing, IsLostPruning, MemberReopened, MemberReclosed}
use Rattle.stateful_db.specs.Member.{MemberRefuses, MemberNotOpened, MemberCrashed}

module _ {S T : Type 0} (target_of : S → T) (targeted : T → Target) (begun : S → S)
    (initial : S) where
  abbrev pub single : Databases ℕ S T
  single = record {
    Members = Member S;
    count = 1;
    point = member_point;
    target_of = target_of;
    target_at = λ t i. targeted t;
    Agrees = λ t u i. t ≡ u;
    operations = λ t. (targeted t).end.0;
    initial = initial;
    Full = λ s. 2 ^ 64 - 1 ≤ (targeted (target_of s)).end.0;
    Spent = λ n. 2 ^ 64 - 1 ≤ n;
    following = λ n. n + 1;
    begun = begun;
    issued = λ n c. AllBelow n (ids c);
    HasAt = λ m i k s. MemberHasAt m k s;
    Keeps = λ m i origin states. MemberKeeps m origin states;
    first = λ m i. member_first m;
    place = λ m i. member_place m;
    durable = λ m i. member_durable m;
    tokens = λ m i. member_tokens m;
    Sound = MemberIsSound target_of targeted;
    Idle = IsIdle;
    HasRoom = HasRoom;
    Openable = IsOpenable;
    Closed = IsClosed;
    NoneAway = IsNotAway;
    AllAway = IsAway;
    Lost = λ m i. (i ≡ 0) × IsLost m;
    HasState = λ m i s. MemberHas m s;
    applied = member_applied;
    finalized = member_finalized;
    flushed = λ m i at. member_flushed m at;
    Prunable = IsPrunable target_of targeted;
    pruned = member_pruned target_of targeted;
    LostApplying = λ m p i k. (i ≡ 0) × IsLostApplying m p.1 k;
    LostFinalizing = λ m i k. (i ≡ 0) × IsLostFinalizing m k;
    LostFlushing = λ m i at k. (i ≡ 0) × IsLostFlushing m at k;
    LostPruning = λ m t i k. (i ≡ 0) × IsLostPruning target_of targeted m t k;
    Reopened = MemberReopened target_of targeted;
    Reclosed = MemberReclosed target_of targeted;
    Refuses = λ m expected i why. MemberRefuses target_of targeted m expected why;
    NotOpened =
        λ m expected i before now why k. (i ≡ 0)
        × MemberNotOpened target_of targeted m expected before now why k;
    Crashed = λ m keep k. MemberCrashed m (slice_get keep 0) k;
  }
