-- What is to be exported.
use Rattle.std.specs.Prelude.{true, Option, None, Some}
use Rattle.std.specs.Global.{Global}
use Rattle.std.specs.Arc.{arc_value}
use Rattle.std.specs.declared.sync.Arc.{Arc}
use Rattle.ix_store.specs.Store.{Blocks}
use Rattle.ix_walk.specs.JobMeaning.{going_in}
use Rattle.ix_car.specs.Archive.{Known, known_by}
use Rattle.ix_api.specs.declared.request.Request.{Request}

-- what the receiver of a request is known to have: the sound blocks of the base, if there is one
abbrev pub known_to : Request → Known
known_to request = of_base request.base where
  of_base : Option (Arc Blocks Global) → Known
  of_base None = None
  of_base (Some base) = known_by (arc_value base)

-- the same whose job expands each CID once
abbrev pub once_of : Request → Request
once_of request = record { job = going_in true request.job; base = request.base }

-- the same job with this base
abbrev pub with_base : Arc Blocks Global → Request → Request
with_base base request = record { job = request.job; base = Some base }
