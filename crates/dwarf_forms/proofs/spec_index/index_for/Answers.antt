use Rattle.dwarf_forms.proofs.spec_index.index_for.Goals as goal

pub returns : goal.returns
returns c = rw c.in_ok-new.ensures.ok (record { fronts_are = c.in_ok-fronts.ensures; firsts_are = c.in_ok-firsts.ensures })
