-- The words for how a job ended.
use Rattle.std.specs.Prelude.{ℕ, List, codes}
use Rattle.ix_car.specs.declared.sink.End.{End}
use Rattle.ix_car.specs.declared.sink.End.TheVariants.{Done, Limit, Memory, Write, Start}

-- the word for an end, in ASCII
abbrev pub end_word : End → List ℕ
end_word Done = codes "done"
end_word Limit = codes "limit"
end_word Memory = codes "memory"
end_word Write = codes "write"
end_word Start = codes "start"
