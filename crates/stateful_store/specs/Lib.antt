-- What the contracts of databases cite, handed on.
pub use Rattle.stateful_db.specs.Chain
pub use Rattle.stateful_db.specs.Disk
pub use Rattle.stateful_db.specs.Calls
pub use Rattle.stateful_db.specs.Member
pub use Rattle.stateful_db.specs.Databases
pub use Rattle.stateful_db.specs.Laws
pub use Rattle.stateful_db.specs.Targeted
pub use Rattle.stateful_db.specs.Reopening
pub use Rattle.stateful_db.specs.Tokens
pub use Rattle.stateful_db.specs.Single
pub use Rattle.stateful_db.specs.Pair
pub use Rattle.stateful_db.specs.Barrier
pub use Rattle.stateful_db.specs.Batch
pub use Rattle.stateful_db_any.specs.Ops as AnyOps
pub use Rattle.stateful_db_any.specs.Live as AnyLive
pub use Rattle.stateful_db_any.specs.Any
pub use Rattle.stateful_db_any.specs.Through as AnyThrough
pub use Rattle.stateful_db_any.specs.Keyed as AnyKeyed
pub use Rattle.stateful_db_any.specs.Shown as AnyShown
pub use Rattle.stateful_db_any.specs.Staged as AnyStaged
pub use Rattle.stateful_db_any.specs.Entries as AnyEntries
pub use Rattle.stateful_db_any.specs.Stored as AnyStored
pub use Rattle.stateful_db_any.specs.Laws as AnyLaws
pub use Rattle.stateful_db_any.specs.Newest as AnyNewest
pub use Rattle.stateful_db_compact.specs.Ops as KeylessOps
pub use Rattle.stateful_db_compact.specs.Compacted
pub use Rattle.stateful_db_compact.specs.CompactShown
pub use Rattle.stateful_db_compact.specs.CompactStored
pub use Rattle.stateful_db_keyless.specs.Keyless
pub use Rattle.stateful_db_keyless.specs.Reads as KeylessReads
pub use Rattle.stateful_db_keyless.specs.Through as KeylessThrough
pub use Rattle.stateful_db_keyless.specs.KeylessShown
pub use Rattle.stateful_db_keyless.specs.KeylessStored
pub use Rattle.stateful_db_keyless.specs.Follows as KeylessFollows
pub use Rattle.stateful_db_plain.specs.Whole as PlainWhole
pub use Rattle.stateful_db_plain.specs.Rooted as PlainRooted
pub use Rattle.stateful_db_plain.specs.Stored as PlainStored
pub use Rattle.stateful_db_plain.specs.Writes as PlainWrites
pub use Rattle.stateful_db_plain.specs.Shown as PlainShown
pub use Rattle.stateful_db_log.specs.Chained as LogChained
pub use Rattle.stateful_db_log.specs.Runs as LogRuns
pub use Rattle.stateful_db_log.specs.Digests as LogDigests
pub use Rattle.stateful_db_log.specs.Between as LogBetween
pub use Rattle.stateful_db_log.specs.Logs
pub use Rattle.stateful_db_medium.specs.Kept as MediumKept
pub use Rattle.stateful_db_medium.specs.Mapped as MediumMapped
pub use Rattle.stateful_db_plain.specs.Ops as PlainOps
pub use Rattle.stateful_db_plain.specs.Serving as PlainServing
pub use Rattle.stateful_db_log.specs.Blobs as LogBlobs
pub use Rattle.stateful_db_log.specs.Linking as LogLinking
pub use Rattle.stateful_db_log.specs.Held as LogHeld
pub use Rattle.stateful_db_log.specs.HeldLaws as LogHeldLaws
pub use Rattle.stateful_db_log.specs.Pruned as LogPruned
pub use Rattle.stateful_db_pass.specs.Fetched as PassFetched
pub use Rattle.stateful_db_pass.specs.Counted as PassCounted
pub use Rattle.stateful_db_pass.specs.Progress as PassProgress
pub use Rattle.stateful_db_pass.specs.Kept as PassKept
pub use Rattle.stateful_db_pass.specs.Serving as PassServing
pub use Rattle.stateful_passes.specs.Asks as SyncAsks
pub use Rattle.stateful_passes.specs.Synced
pub use Rattle.stateful_passes.specs.CompactMade
pub use Rattle.stateful_passes.specs.PlainMade
pub use Rattle.stateful_passes.specs.LogMade
pub use Rattle.stateful_passes.specs.CompactServed
pub use Rattle.stateful_passes.specs.PlainServed
pub use Rattle.stateful_passes.specs.Serving as ServerServing
pub use Rattle.stateful_pass_sets.specs.Seeking as SyncSeeking
pub use Rattle.stateful_pass_sets.specs.Steps as SyncSteps
pub use Rattle.stateful_pass_sets.specs.Made as SyncMade
pub use Rattle.stateful_pass_sets.specs.Counts as SyncCounts
