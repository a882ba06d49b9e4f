-- What a loader has read.
use Rattle.ix_store.specs.Store.{Blocks}
use Rattle.ix_sections.specs.declared.files.loader.Copies.{Copies}
use Rattle.ix_sections.specs.declared.files.loader.Copies.TheVariants as copies
use Rattle.ix_sections.specs.declared.files.loader.Loader.{Loader}
use Rattle.ix_sections.specs.declared.files.loader.Loader.TheVariants.{First, Sound}

-- by which copies it reads
abbrev pub copies_in : Loader → Copies
copies_in (First loader) = copies.First
copies_in (Sound loader) = copies.Sound

-- what it has read so far
abbrev pub blocks_in : Loader → Blocks
blocks_in (First loader) = loader
blocks_in (Sound loader) = loader
