-- The place of a procedure or a file among names that ascend, as halving finds it.
use Rattle.std.proofs.Common.{◌≡◌, ℕ, List, length, AllPairs, Ordering, Less, Equal, Greater, is_eq, Result, Some, None, refl, sym, ap, subst, ◌∙◌, rules}
use Rattle.std.specs.Prelude.{MatchResult, position}
use Rattle.std.specs.Cmp.{IsTotalOrder}
use Rattle.std.specs.List.Sorted.{IsSearchInRange, IsBinarySearchResult}
use Rattle.std.specs.Ordering.{nat_cmp, ordering_then, ordering_reverse}
use Rattle.scope_types.specs.declared.scope.ProcId.{ProcId}
use Rattle.scope_types.specs.declared.scope.ProcId.TheVariants.{Die, Sym, Nameless}
use Rattle.scope_types.specs.contracts.scope.ProcIdOrd.TheImpl.{ghosts as derived}
use Rattle.tree_types.proofs.Places.{then_end}
use Rattle.tree_types.specs.declared.content.FileName.{FileName}
use Rattle.tree_types.specs.declared.content.ProcName.{ProcName}
use Rattle.tree_types.specs.Naming.{FileId, proc_order, file_order}
use Rattle.tree_types.proofs.NamesAgain.{proc_order_total, proc_order_tells, file_order_total, file_order_tells}
use Rattle.tree_types.proofs.Searched.{found_position}

tied_turned : (r : Ordering) → is_eq (ordering_reverse r) ≡ is_eq r
tied_turned Less = refl
tied_turned Equal = refl
tied_turned Greater = refl

-- two tie whichever comes first
tied : {K : Type 0} {R : K → K → Ordering} → IsTotalOrder R → (a b : K) → is_eq (R a b) ≡ is_eq (R b a)
tied {K} {R} total a b = ap is_eq (total.antisymm a b) ∙ tied_turned (R b a)

-- the derived order of procedures is that of their words
derived_is : (p q : ProcId) → derived.cmp p q ≡ proc_order p q
derived_is (Die a) (Die b) = search rules
derived_is (Die a) (Sym b) = search rules
derived_is (Die a) Nameless = search rules
derived_is (Sym a) (Die b) = search rules
derived_is (Sym a) (Sym b) = search rules
derived_is (Sym a) Nameless = search rules
derived_is Nameless (Die b) = search rules
derived_is Nameless (Sym b) = search rules
derived_is Nameless Nameless = search rules

pub found_proc : (procs : List ProcName) (id : ProcId) (r : Result ℕ ℕ) → AllPairs (λ p q. proc_order p.id q.id ≡ Less) procs → IsSearchInRange r (length procs)
    → IsBinarySearchResult (λ p. derived.cmp p.id id) procs r
    → MatchResult r (λ i. position (λ p. is_eq (proc_order id p.id)) procs ≡ Some i) (λ i. position (λ p. is_eq (proc_order id p.id)) procs ≡ None)
found_proc procs id r ascend in_range found =
    let by_words : IsBinarySearchResult (λ p. proc_order p.id id) procs r = subst (λ (order : ProcName → Ordering). IsBinarySearchResult order procs r) (λ i p. derived_is p.id id i) found in
    found_position proc_order_total proc_order_tells (λ (p : ProcName). p.id) id (λ p. is_eq (proc_order id p.id)) (λ p. tied proc_order_total id p.id) (λ p. 0) procs ascend r in_range by_words

pub found_file : (files : List FileName) (file : FileId) (r : Result ℕ ℕ) → AllPairs (λ f g. file_order (f.table, f.file) (g.table, g.file) ≡ Less) files → IsSearchInRange r (length files)
    → IsBinarySearchResult (λ f. ordering_then (nat_cmp f.table file.0) (nat_cmp f.file file.1)) files r
    → MatchResult r (λ i. position (λ f. is_eq (file_order file (f.table, f.file))) files ≡ Some i) (λ i. position (λ f. is_eq (file_order file (f.table, f.file))) files ≡ None)
found_file files file r ascend in_range found =
    let as_list : (f : FileName) → ordering_then (nat_cmp f.table file.0) (nat_cmp f.file file.1) ≡ file_order (f.table, f.file) file =
    λ f. ap (ordering_then (nat_cmp f.table file.0)) (sym (then_end (nat_cmp f.file file.1))) in
    let by_list : IsBinarySearchResult (λ f. file_order (f.table, f.file) file) files r = subst (λ (order : FileName → Ordering). IsBinarySearchResult order files r) (λ i f. as_list f i) found in
    found_position file_order_total file_order_tells (λ (f : FileName). (f.table, f.file)) file (λ f. is_eq (file_order file (f.table, f.file))) (λ f. tied file_order_total file (f.table, f.file)) (λ f. 0) files ascend r in_range by_list
