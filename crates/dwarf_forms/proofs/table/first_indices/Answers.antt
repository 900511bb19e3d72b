use Rattle.std.proofs.Common.{◌≡◌, ◌==◌, ◌∙◌, ◌+◌, ◌++◌, ◌∷◌, [], sym, ap, arith, length, take}
use Rattle.std.specs.Ordering.{nat_cmp}
use Rattle.std.specs.BTreeMap.{get}
use Rattle.std.proofs.lemmas.List.{take_more, length-take}
use Rattle.dwarf_forms.proofs.Indices.{index_push}
use Rattle.dwarf_forms.proofs.table.first_indices.Goals as goal

pub loop-index-preserved : goal.loop-index-preserved
loop-index-preserved c = λ code.
    let items = c.args.items.now in
    let i = c.loop-index.index in
    let d = c.index-items-index.result in
    let grown : take (i + 1) items ≡ take i items ++ d ∷ [] = take_more items i d c.loop-index-test.true ∙ ap (λ x. take i items ++ x ∷ []) (sym c.index-items-index.is) in
    let long : length (take i items) ≡ i = omega (arith, length-take i items) in
    rw grown (index_push (λ x. x.code == code) (take i items) d i (get nat_cmp c.loop-index.indices code) (get nat_cmp c.add_index.new.indices code) long (c.loop-index.invariant code) (c.in_ok-add_index.ensures code))
