-- The width of a head's argument, in bytes.
use Rattle.std.specs.Prelude.{ℕ, ◌^◌, List}
use Rattle.std.specs.Int.{Width, w8, w16, w32, w64}
use Rattle.ix_cbor.specs.Reading.{Parse, wide_at}
use Rattle.ix_cbor.specs.declared.width.Width.{Width as HeadWidth}
use Rattle.ix_cbor.specs.declared.width.Width.TheVariants.{One, Two, Four, Eight}

-- the width as the toolchain's word width
abbrev pub bits_of : HeadWidth → Width
bits_of One = w8
bits_of Two = w16
bits_of Four = w32
bits_of Eight = w64

-- the least number that has no shorter form
abbrev pub least_of : HeadWidth → ℕ
least_of One = 24
least_of Two = 2 ^ 8
least_of Four = 2 ^ 16
least_of Eight = 2 ^ 32

-- an argument in so many bytes, of the head at a position
abbrev pub argument_in : List ℕ → HeadWidth → Parse ℕ
argument_in at width b = wide_at at (bits_of width) (least_of width) b
