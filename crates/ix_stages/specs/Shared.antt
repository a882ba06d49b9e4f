-- What the threads of an export share, as contracts see it.
use Rattle.std.specs.Prelude.{List}
use Rattle.atomic_table.specs.Seated.{TableId}
use Rattle.ix_store.specs.Store.{Blocks}
use Rattle.ix_walk.specs.JobMeaning.{JobMeaning}
use Rattle.ix_stages.specs.Queue.{table_of}
use Rattle.ix_stages.specs.declared.shared.Shared.{Shared}

module _ {G : Type 0} where
  -- the blocks of the export's store
  abbrev pub store_of : Shared G → Blocks
  store_of x = x.task.now.walks.now.store

  -- the jobs to export
  abbrev pub jobs_of : Shared G → List JobMeaning
  jobs_of x = x.task.now.walks.now.jobs

  -- the table by which the queue is known to its seats
  abbrev pub queue_of : Shared G → TableId
  queue_of x = table_of x.queue.now
