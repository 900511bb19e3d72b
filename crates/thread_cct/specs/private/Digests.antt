-- Digests: numbers that are made of raw paths. Where two of them differ, so do their paths.
use Rattle.std.specs.Prelude.{ℕ, ◌+◌, ◌*◌, ◌%◌, ◌^◌, List, fold, take, drop, reverse}
use Rattle.scope_types.specs.Ends.{end_number}
use Rattle.thread_cct.specs.declared.path_list.ListedPath.{ListedPath}

-- the digest with one address more
abbrev pub with_address : ℕ → ℕ → ℕ
with_address digest pc = (digest * 2246822519 % 2 ^ 64 + pc) % 2 ^ 64

-- the digest of a path whose frames begin at an index of the addresses: its end first, then its addresses, the outermost
-- first
abbrev pub digest_at : List ℕ → ListedPath → ℕ
digest_at pcs p = fold with_address (end_number p.end) (reverse (take p.length (drop p.first pcs)))
