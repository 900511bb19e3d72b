use Rattle.std.proofs.Common.{◌<◌, ◌∙◌, sym, ap, map, subst, length, ℕ, List, arith}
use Rattle.std.specs.Prelude.{AllPairs}
use Rattle.dwarf_info.specs.Sections.{sections_of}
use Rattle.dwarf_info.specs.Units.{unit_of}
use Rattle.dwarf_info.specs.private.Indexed.{AreIndexed}
use Rattle.dwarf_info.proofs.SetFlags.{set_few, set_ascends}
use Rattle.dwarf_info.proofs.info.read_info.Goals as goal

pub invariant_of-result : goal.invariant_of-result
invariant_of-result c = record {
  strings = c.of.ensures;
  line_strings = c.of-2.ensures;
  shown = c.in_ok-units.ensures ∙ ap (map unit_of) c.as_slice.ensures.value;
  are = c.in_ok-contexts.ensures.are;
  indexed = subst (λ (os : List ℕ). AreIndexed (sections_of c.args.sections) c.in_ok-contexts.contexts.items os c.read_units.new.firsts.items) (sym c.in_ok-offsets.ensures) c.in_ok-contexts.ensures.indexed;
  ascend = subst (λ (os : List ℕ). AllPairs (λ a b. a < b) os) (sym (c.in_ok-offsets.ensures ∙ ap (λ s. s.offsets) (sym c.starts.view_is))) (set_ascends 0 c.starts.inside.flags.items);
  few =
      let marked = set_few 0 c.starts.inside.flags.items in
      let few = c.starts.invariant.few in
      let same = ap length (c.in_ok-offsets.ensures ∙ ap (λ s. s.offsets) (sym c.starts.view_is)) in
      omega arith;
  info = c.requires.info;
  lists = c.requires.lists;
}
