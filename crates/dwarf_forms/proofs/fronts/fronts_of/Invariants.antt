use Rattle.dwarf_forms.proofs.FixedFronts.{AreFrontsOf}
use Rattle.dwarf_forms.proofs.fronts.fronts_of.Given as goal

abbrev pub invariant-loop-behind : goal.invariant-loop-behind
invariant-loop-behind l = AreFrontsOf l.specs l.fronts.items l.front l.behind
