-- Names of codes in the multicodec table.
use Rattle.std.specs.Prelude.{ℕ, List, ◌==◌, if◌then◌else◌, codes, Option, Some, None}

-- the name of a common codec
abbrev pub named_codec : ℕ → Option (List ℕ)
named_codec c =
    if c == 0x51 then Some (codes "cbor")
    else (if c == 0x55 then Some (codes "raw")
    else (if c == 0x70 then Some (codes "dag-pb")
    else (if c == 0x71 then Some (codes "dag-cbor")
    else (if c == 0x72 then Some (codes "libp2p-key")
    else (if c == 0x78 then Some (codes "git-raw")
    else (if c == 0x85 then Some (codes "dag-jose")
    else (if c == 0x90 then Some (codes "eth-block")
    else (if c == 0xb0 then Some (codes "bitcoin-block")
    else (if c == 0x0129 then Some (codes "dag-json")
    else (if c == 0x0200 then Some (codes "json")
    else None))))))))))

-- the name of a common hash function
abbrev pub named_hash : ℕ → Option (List ℕ)
named_hash c =
    if c == 0x00 then Some (codes "identity")
    else (if c == 0x11 then Some (codes "sha1")
    else (if c == 0x12 then Some (codes "sha2-256")
    else (if c == 0x13 then Some (codes "sha2-512")
    else (if c == 0x14 then Some (codes "sha3-512")
    else (if c == 0x15 then Some (codes "sha3-384")
    else (if c == 0x16 then Some (codes "sha3-256")
    else (if c == 0x17 then Some (codes "sha3-224")
    else (if c == 0x1b then Some (codes "keccak-256")
    else (if c == 0x1e then Some (codes "blake3")
    else (if c == 0x20 then Some (codes "sha2-384")
    else (if c == 0x56 then Some (codes "dbl-sha2-256")
    else (if c == 0xd5 then Some (codes "md5")
    else (if c == 0xb220 then Some (codes "blake2b-256")
    else (if c == 0xb240 then Some (codes "blake2b-512")
    else (if c == 0xb260 then Some (codes "blake2s-256")
    else None)))))))))))))))
