use Rattle.std.proofs.Common.{◌≡◌, ◌∙◌, sym, ap, length, arith, replicate, false, refl}
use Rattle.std.proofs.lemmas.List.{length-replicate}
use Rattle.dwarf_info.specs.private.Starts.{set_from}
use Rattle.dwarf_info.proofs.SetFlags.{set_none, none_set, none_listed}
use Rattle.dwarf_info.proofs.starts.Starts.new.Goals as goal

pub invariant_of-result : goal.invariant_of-result
invariant_of-result c =
    let blank : c.in_ok-flags.flags.items ≡ replicate c.args.bytes false = c.in_ok-flags.ensures.items_if_clones_equal (λ y h. h) in
    record {
      counted = sym (ap length (ap (set_from 0) blank ∙ set_none 0 c.args.bytes));
      firsts = none_listed _ c.new.result.items c.new.ensures.items;
      ends = rw blank (none_set c.args.bytes);
      few = let r = c.requires in let l = ap length blank ∙ length-replicate c.args.bytes false in omega arith;
    }

pub returns : goal.returns
returns c =
    let blank : c.in_ok-flags.flags.items ≡ replicate c.args.bytes false = c.in_ok-flags.ensures.items_if_clones_equal (λ y h. h) in
    let none = ap (set_from 0) blank ∙ set_none 0 c.args.bytes in
    let long = ap length blank ∙ length-replicate c.args.bytes false in
    rw (none, long) refl
