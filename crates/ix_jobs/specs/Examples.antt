-- Examples, computed.
use Rattle.std.specs.Prelude.{◌≡◌, [], ◌∷◌, ◌++◌, Ok, Err, None, Some, refl, codes, false}
use Rattle.hex.specs.Hex.{decode_pairs}
use Rattle.ix_cbor.specs.Reading.{item_at}
use Rattle.ix_selector.specs.Pattern.{matcher}
use Rattle.ix_selector.specs.Reading.{selector_at}
use Rattle.ix_jobs.specs.declared.fault.JobErrorKind.TheVariants.{Fields, Name, Root, Limit, Hex, Selector, Repeated}
use Rattle.ix_jobs.specs.Jobs.{jobs_of}
use Rattle.ix_jobs.specs.Report.{report_of, job_line, skip_line}
use Rattle.ix_verdict.specs.declared.verdict.Verdict.TheVariants.{Missing}
use Rattle.ix_car.specs.declared.sink.End.TheVariants.{Done}
use Rattle.std.specs.Fmt.{digits}

pub one_job : jobs_of (codes "# x" ++ 10 ∷ codes "a bafkqaaa 10 a1612ea0" ++ 13 ∷ 10 ∷ []) ≡ Ok (record { name = codes "a"; roots = (1 ∷ 0x55 ∷ 0 ∷ 0 ∷ []) ∷ []; selector = matcher; limit = 10; once = false } ∷ [])
unfolding item_at selector_at decode_pairs
one_job = refl

-- the second is that of DAG-CBOR with no bytes
pub two_roots : jobs_of (codes "a bafkqaaa,bafyqaaa 10 a1612ea0") ≡ Ok (record { name = codes "a"; roots = (1 ∷ 0x55 ∷ 0 ∷ 0 ∷ []) ∷ (1 ∷ 0x71 ∷ 0 ∷ 0 ∷ []) ∷ []; selector = matcher; limit = 10; once = false } ∷ [])
unfolding item_at selector_at decode_pairs
two_roots = refl

pub empty_root : jobs_of (codes "a bafkqaaa, 10 a1612ea0") ≡ Err (Root, 1)
unfolding item_at selector_at decode_pairs
empty_root = refl

pub twice : jobs_of (codes "a bafkqaaa 10 a1612ea0" ++ 10 ∷ codes "a bafkqaaa 10 a1612ea0") ≡ Err (Repeated, 2)
unfolding item_at selector_at decode_pairs
twice = refl

pub two_fields : jobs_of (codes "a b") ≡ Err (Fields, 1)
unfolding item_at selector_at decode_pairs
two_fields = refl

pub upper_name : jobs_of (codes "A bafkqaaa 10 a1612ea0") ≡ Err (Name, 1)
unfolding item_at selector_at decode_pairs
upper_name = refl

pub zero_limit : jobs_of (codes "a bafkqaaa 0 a1612ea0") ≡ Err (Limit, 1)
unfolding item_at selector_at decode_pairs
zero_limit = refl

pub odd_hex : jobs_of (codes "a bafkqaaa 10 a1612ea") ≡ Err (Hex, 1)
unfolding item_at selector_at decode_pairs
odd_hex = refl

pub byte_more : jobs_of (codes "a bafkqaaa 10 a1612ea000") ≡ Err (Selector, 1)
unfolding item_at selector_at decode_pairs
byte_more = refl

pub no_jobs : report_of [] [] ≡ codes "total jobs=0 done=0 skips=0" ++ 10 ∷ []
unfolding digits
no_jobs = refl

pub done_line : job_line (codes "a") Done (record { visits = 1; kept = 1; sections = 0; bytes = 59; known = None }) ≡ codes "a done visits=1 kept=1 sections=0 bytes=59" ++ 10 ∷ []
unfolding digits
done_line = refl

-- the line of a job of whose blocks two are known
pub known_line : job_line (codes "a") Done (record { visits = 3; kept = 3; sections = 1; bytes = 97; known = Some 2 }) ≡ codes "a done visits=3 kept=3 sections=1 bytes=97 known=2" ++ 10 ∷ []
unfolding digits
known_line = refl

-- the CIDv1 of the raw block `abc`
pub missing_line : skip_line (record { seq = 0; cid = 0x01 ∷ 0x55 ∷ 0x12 ∷ 0x20 ∷ 0xba ∷ 0x78 ∷ 0x16 ∷ 0xbf ∷ 0x8f ∷ 0x01 ∷ 0xcf ∷ 0xea ∷ 0x41 ∷ 0x41 ∷ 0x40 ∷ 0xde ∷ 0x5d ∷ 0xae ∷ 0x22 ∷ 0x23 ∷ 0xb0 ∷ 0x03 ∷ 0x61 ∷ 0xa3 ∷ 0x96 ∷ 0x17 ∷ 0x7a ∷ 0x9c ∷ 0xb4 ∷ 0x10 ∷ 0xff ∷ 0x61 ∷ 0xf2 ∷ 0x00 ∷ 0x15 ∷ 0xad ∷ []; verdict = Missing }) ≡ codes "  0 missing bafkreif2pall7dybz7vecqka3zo24irdwabwdi4wc55jznaq75q7eaavvu" ++ 10 ∷ []
unfolding digits
missing_line = refl
