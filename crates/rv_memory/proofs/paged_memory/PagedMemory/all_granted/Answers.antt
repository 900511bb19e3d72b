use Rattle.std.proofs.Common.{◌≡◌, ℕ, ◌+◌, ◌-◌, false, refl, sym, subst, arith}
use Rattle.rv_memory.specs.AddressSpace.{may}
use Rattle.rv_memory.specs.private.Paging.{bit_of}
use Rattle.rv_memory.proofs.Contiguous.{all-range, all-not}
use Rattle.rv_memory.proofs.paged_memory.PagedMemory.all_granted.Goals as goal

pub returns-in-None : goal.returns-in-None
returns-in-None c =
    let low = c.loop-next.invariant.low in
    let test = c.loop-next-test.true in
    let here : c.loop-next.next ≡ c.args.at + (c.loop-next.next - c.args.at) = omega (arith, low) in
    sym (all-not (may (bit_of c.args.right) c.args.self.now.regions) c.args.at c.args.count (c.loop-next.next - c.args.at) (omega (arith, low, test))
    (subst (λ (n : ℕ). may (bit_of c.args.right) c.args.self.now.regions n ≡ false) here (c.in-None.ensures.none refl)))

pub returns : goal.returns
returns c =
    let test = c.loop-next-test.false in
    sym (all-range (may (bit_of c.args.right) c.args.self.now.regions) c.args.at c.args.count (λ i few. c.loop-next.invariant.granted (c.args.at + i) (omega arith) (omega (arith, few, test))))
