use Rattle.std.proofs.Common.{rules, ◌≡◌, ℕ, ◌-◌, subst, ◌∙◌, arith, length-set}
use Rattle.dwarf_inline.specs.private.Ends.{AreAftersFrom}
use Rattle.dwarf_inline.proofs.KeptEntries.{kept_long, end_within_ends, end_is, one_more_after, all_afters}
use Rattle.dwarf_inline.proofs.ends.afters_of.Goals as goal

pub loop-k-init : goal.loop-k-init
loop-k-init c = record {
  within = omega arith;
  long = search rules;
  afters = record { are = λ k from there. absurd (omega (arith, kept_long c.args.info.now c.args.items.now c.requires.items)) };
}

pub loop-k-preserved : goal.loop-k-preserved
loop-k-preserved c =
    let within = c.loop-k.invariant.within in
    let long = c.loop-k.invariant.long in
    let some = c.loop-k-test.true in
    record {
      within = omega arith;
      long = length-set c.loop-k.afters.items _ _ ∙ long;
      afters = one_more_after c.args.info.now c.loop-k.afters.items c.loop-k.k _ c.after_from-after.result (omega arith) (omega arith) c.loop-k.invariant.afters c.after_from-after.ensures;
    }

pub bounds-ends-index : goal.bounds-ends-index
bounds-ends-index c =
    let within = c.loop-k.invariant.within in
    let some = c.loop-k-test.true in
    end_within_ends c.args.info.now c.args.items.now c.args.ends.now (c.loop-k.k - 1) c.index.result c.index-items-k.result c.requires.items c.requires.ends (omega arith) c.index-items-k.is c.index.ensures

pub after_from-after-requires-clause-end : goal.after_from-after-requires-clause-end
after_from-after-requires-clause-end c =
    let within = c.loop-k.invariant.within in
    let some = c.loop-k-test.true in
    end_is c.args.info.now c.args.items.now c.args.ends.now (c.loop-k.k - 1) c.index.result c.index-items-k.result c.requires.items c.requires.ends (omega arith) c.index-items-k.is c.index.ensures

pub returns : goal.returns
returns c =
    let none = c.loop-k-test.false in
    let zero : c.loop-k.k ≡ 0 = omega arith in
    all_afters c.args.info.now c.args.items.now c.loop-k.afters.items c.requires.items c.loop-k.invariant.long
    (subst (λ (k : ℕ). AreAftersFrom c.args.info.now k c.loop-k.afters.items) zero c.loop-k.invariant.afters)
