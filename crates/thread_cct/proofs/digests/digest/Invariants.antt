use Rattle.std.proofs.Common.{◌≡◌, ℕ, map, fold, Bor}
use Rattle.scope_types.specs.Ends.{end_number}
use Rattle.thread_cct.specs.private.Digests.{with_address}
use Rattle.thread_cct.proofs.digests.digest.Given as goal

abbrev pub invariant-loop-pc : goal.invariant-loop-pc
invariant-loop-pc l = record {
  digest : l.digest ≡ fold with_address (end_number l.fn.end) (map (λ (b : Bor ℕ). b.now) l.yielded);
  next : (goal.iterator-loop-pc).can_next l.pc-iterator;
  finite : (goal.iterator-loop-pc).is_finite l.pc-iterator;
}
