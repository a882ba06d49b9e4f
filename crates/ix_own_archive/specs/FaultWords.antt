-- The words for what is wrong with an archive.
use Rattle.std.specs.Prelude.{ℕ, List, ◌++◌, codes}
use Rattle.std.specs.Fmt.{decimal}
use Rattle.ix_verdict.specs.VerdictWords.{verdict_word}
use Rattle.ix_sections.specs.FaultWords as car
use Rattle.ix_receive.specs.declared.fault.ReceiveFault.{ReceiveFault}
use Rattle.ix_receive.specs.declared.fault.ReceiveFault.TheVariants as received
use Rattle.ix_own_archive.specs.declared.fault.ArchiveReason.{ArchiveReason}
use Rattle.ix_own_archive.specs.declared.fault.ArchiveReason.TheVariants.{Header, OtherHeader, Section, Refused, Unfinished, Memory}
use Rattle.ix_own_archive.specs.declared.fault.ArchiveFault.{ArchiveFault}
use Rattle.ix_own_archive.specs.declared.stream_fault.StreamReason.{StreamReason}
use Rattle.ix_own_archive.specs.declared.stream_fault.StreamReason.TheVariants.{Archive, HeaderLength, SectionLength, Ended}
use Rattle.ix_own_archive.specs.declared.stream_fault.StreamFault.{StreamFault}

-- the words for a receiver's fault, in ASCII
abbrev pub refusal_words : ReceiveFault → List ℕ
refusal_words (received.Unsound v) = verdict_word v
refusal_words received.InBase = codes "in the base"
refusal_words received.Repeated = codes "repeated"
refusal_words received.OutOfOrder = codes "out of order"
refusal_words received.NotAskedFor = codes "not asked for"
refusal_words (received.Missing c) = codes "a block is missing"
refusal_words (received.Root c v) = codes "root " ++ verdict_word v
refusal_words received.Limit = codes "limit"
refusal_words received.Ended = codes "ended"
refusal_words received.Memory = codes "memory"

-- the words for what is wrong
abbrev pub reason_words : ArchiveReason → List ℕ
reason_words (Header kind) = codes "header: " ++ car.fault_words kind
reason_words OtherHeader = codes "another header"
reason_words (Section kind) = codes "section: " ++ car.fault_words kind
reason_words (Refused c fault) = codes "refused: " ++ refusal_words fault
reason_words (Unfinished fault) = codes "unfinished: " ++ refusal_words fault
reason_words Memory = codes "memory"

-- the offset before them
abbrev pub fault_words : ArchiveFault → List ℕ
fault_words e = decimal e.place ++ codes ": " ++ reason_words e.reason

-- the words for what is wrong with a stream
abbrev pub stream_words : StreamReason → List ℕ
stream_words (Archive reason) = reason_words reason
stream_words (HeaderLength n) = codes "header: " ++ decimal n ++ codes " bytes"
stream_words (SectionLength n) = codes "section: " ++ decimal n ++ codes " bytes"
stream_words Ended = codes "ended"

-- the offset before them
abbrev pub stream_fault_words : StreamFault → List ℕ
stream_fault_words e = decimal e.place ++ codes ": " ++ stream_words e.reason
