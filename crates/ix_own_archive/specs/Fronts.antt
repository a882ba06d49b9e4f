-- Whether what has its length before it has come whole.
use Rattle.std.specs.Prelude.{ℕ, ◌+◌, Bool, true, false, List, length, nat_lt, nat_le, if◌then◌else◌, Result, Ok, Err}
use Rattle.ix_cid.specs.Varint.{varint_at}
use Rattle.ix_cid.specs.declared.fault.VarintFault.{VarintFault}
use Rattle.ix_cid.specs.declared.fault.VarintFault.TheVariants.{Truncated, TooLong, NotMinimal}

-- the same by its length: what is no varint is there as far as it is needed
abbrev pub is_whole_by : ℕ → List ℕ → Result (ℕ × ℕ) VarintFault → Result Bool ℕ
is_whole_by limit b (Ok v) = if nat_lt limit v.0 then Err v.0 else Ok (nat_le (v.1 + v.0) (length b))
is_whole_by limit b (Err Truncated) = Ok false
is_whole_by limit b (Err TooLong) = Ok true
is_whole_by limit b (Err NotMinimal) = Ok true

-- whether the bytes at the front with their length before them are all there, or their length if it is above a limit
abbrev pub is_whole : ℕ → List ℕ → Result Bool ℕ
is_whole limit b = is_whole_by limit b (varint_at b)
