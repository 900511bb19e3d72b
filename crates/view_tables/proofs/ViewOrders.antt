-- The orders of items and of rows are total, and tell any two apart.
use Rattle.std.proofs.Common.{◌≡◌, ℕ, zero, suc, List, [], ◌∷◌, Ordering, refl, sym, ap, ◌∙◌}
use Rattle.std.specs.Ordering.{nat_cmp, ordering_then}
use Rattle.std.specs.declared.cmp.Ordering.TheVariants.{Less, Equal, Greater}
use Rattle.std.specs.Cmp.{IsTotalOrder}
use Rattle.std.specs.FinMap.{IsAntisymmetric, nat_cmp-IsAntisymmetric, slice_cmp-IsAntisymmetric}
use Rattle.std.proofs.lemmas.Cmp.{on_total, back_total, then_total, nat_cmp_total, nat_list_cmp_total}
use Rattle.scope_types.specs.declared.scope.ProcId.{ProcId}
use Rattle.scope_types.specs.declared.scope.ProcId.TheVariants.{Die, Sym, Nameless}
use Rattle.view_tables.specs.Views.{Item, File, Procedure, SourceLine, Instruction, ViewRow, item_words, item_order, row_order}

pub item_order_total : IsTotalOrder item_order
item_order_total = on_total item_words nat_list_cmp_total

-- the item that words spell
abbrev proc_spelled : List ℕ → ProcId
proc_spelled (zero ∷ offset ∷ ws) = Die offset
proc_spelled (suc zero ∷ address ∷ ws) = Sym address
proc_spelled ws = Nameless

abbrev number_spelled : List ℕ → ℕ
number_spelled [] = 0
number_spelled (n ∷ ws) = n

abbrev item_spelled : List ℕ → Item
item_spelled [] = SourceLine 0
item_spelled (zero ∷ ws) = File ws
item_spelled (suc zero ∷ ws) = Procedure (proc_spelled ws)
item_spelled (suc (suc zero) ∷ ws) = SourceLine (number_spelled ws)
item_spelled (suc (suc (suc n)) ∷ ws) = Instruction (number_spelled ws)

spelled : (a : Item) → item_spelled (item_words a) ≡ a
spelled (File name) = refl
spelled (Procedure (Die offset)) = refl
spelled (Procedure (Sym address)) = refl
spelled (Procedure Nameless) = refl
spelled (SourceLine line) = refl
spelled (Instruction address) = refl

pub item_order_tells : IsAntisymmetric item_order
item_order_tells a b e = sym (spelled a) ∙ ap item_spelled (slice_cmp-IsAntisymmetric nat_cmp-IsAntisymmetric (item_words a) (item_words b) e) ∙ spelled b

pub row_order_total : IsTotalOrder row_order
row_order_total =
    then_total (on_total (λ (r : ViewRow). r.inclusive) (back_total nat_cmp_total))
    (then_total (on_total (λ (r : ViewRow). r.item) item_order_total) (on_total (λ (r : ViewRow). r.exclusive) nat_cmp_total))

both_equal : (o p : Ordering) → ordering_then o p ≡ Equal → (o ≡ Equal) × (p ≡ Equal)
both_equal Less p e = absurd cc
both_equal Equal p e = (refl, e)
both_equal Greater p e = absurd cc

pub row_order_tells : IsAntisymmetric row_order
row_order_tells a b e =
    let first = both_equal (nat_cmp b.inclusive a.inclusive) (ordering_then (item_order a.item b.item) (nat_cmp a.exclusive b.exclusive)) e in
    let second = both_equal (item_order a.item b.item) (nat_cmp a.exclusive b.exclusive) first.1 in
    let inclusive : a.inclusive ≡ b.inclusive = sym (nat_cmp-IsAntisymmetric b.inclusive a.inclusive first.0) in
    let item : a.item ≡ b.item = item_order_tells a.item b.item second.0 in
    let exclusive : a.exclusive ≡ b.exclusive = nat_cmp-IsAntisymmetric a.exclusive b.exclusive second.1 in
    λ i. record { inclusive = inclusive i; item = item i; exclusive = exclusive i }
