-- What readings of a CID's parts return.
use Rattle.ix_cid.specs.Cid.{Parts}
use Rattle.ix_cid.specs.declared.parts.Parts.{Parts as PartsRead}

-- the parts, apart from where the digest is
abbrev pub parts_view : PartsRead → Parts
parts_view p = record { version = p.version; codec = p.codec; hash_code = p.hash_code; digest = p.digest.now }
