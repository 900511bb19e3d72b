-- Function symbols in the order of their starts, and those that are found.
use Rattle.std.proofs.Common.{◌≡◌, ◌≢◌, ℕ, zero, suc, ◌<◌, ◌≤◌, Bool, true, false, cond, not, ◌&&◌, List, [], ◌∷◌, ◌++◌, length, get_or, filter, Option, Some, None, find, map, option_map, ◌==◌, Ordering, Less, Equal, Greater, is_eq, inl, inr, refl, sym, ap, subst, ◌∙◌, arith}
use Rattle.std.specs.Prelude.{slice_get}
use Rattle.std.specs.List.Sorted.{IsNonDecreasingBy, IsPartitionPoint, IsStableByKey, ties}
use Rattle.std.specs.Ordering.{is_lt, nat_cmp, ordering_reverse}
use Rattle.std.specs.Cmp.{unsigned_ties}
use Rattle.std.proofs.lemmas.Bool.{cases_lt, eqb-true, eq-eqb, ne_eqb, ltb-true, ltb-false}
use Rattle.std.proofs.lemmas.Cmp.{nat_cmp_total}
use Rattle.std.proofs.lemmas.Option.{same_Some, slice_get-get_or}
use Rattle.std.proofs.Math.Dec.{ltb}
use Rattle.elf_image.specs.declared.part.Function.{Function}
use Rattle.elf_image.specs.Image.{FunctionSymbol, ProgramImage, symbol_view, in_function}
use Rattle.scope_types.specs.declared.scope.ProcId.TheVariants.{Sym, Nameless}
use Rattle.elf_image.proofs.Tables.{find_map}
use Rattle.scope_find.specs.Symbols.{symbol_procedure, procedure_by_symbol}
use Rattle.scope_find.specs.private.Starts.{AreByStart}

abbrev starts_at : ℕ → Function → Bool
starts_at start f = f.start == start

-- ---- sorted

abbrev head_of : {X : Type 0} → List X → Option X
head_of [] = None
head_of (x ∷ xs) = Some x

find_head : {X : Type 0} (p : X → Bool) (xs : List X) → find p xs ≡ head_of (filter p xs)
find_head p [] = refl
find_head p (x ∷ xs) =
    elim (p x) as (λ b. cond b (Some x) (find p xs) ≡ head_of (cond b (x ∷ filter p xs) (filter p xs))) [ true ↦ refl | false ↦ find_head p xs ]

found_passes : {X : Type 0} (p : X → Bool) (xs : List X) (x : X) → find p xs ≡ Some x → p x ≡ true
found_passes p [] x found = absurd cc
found_passes {X} p (y ∷ ys) x found = go (p y) refl found (λ e. found_passes p ys x e)
  where
    go : (b : Bool) → p y ≡ b → cond b (Some y) (find p ys) ≡ Some x → (find p ys ≡ Some x → p x ≡ true) → p x ≡ true
    go true is here rest = subst (λ z. p z ≡ true) (same_Some y x here) is
    go false is here rest = rest here

tied : (o : Ordering) → (not (is_lt (ordering_reverse o)) && not (is_lt o)) ≡ is_eq o
tied Less = refl
tied Equal = refl
tied Greater = refl

module _ (xs ys : List Function) (stable : IsStableByKey (λ f. f.start) nat_cmp xs ys) (start : ℕ) where
  ties_are : (x : Function) → x.start ≡ start → (y : Function) → ties (λ (a b : Function). is_lt (nat_cmp a.start b.start)) x y ≡ starts_at start y
  ties_are x is y =
      ap (λ o. not (is_lt o) && not (is_lt (nat_cmp y.start x.start))) (nat_cmp_total.antisymm x.start y.start)
      ∙ tied (nat_cmp y.start x.start) ∙ sym (unsigned_ties y.start x.start) ∙ ap (λ (n : ℕ). y.start == n) is

  by_tie : (x : Function) → x.start ≡ start → find (starts_at start) ys ≡ find (starts_at start) xs
  by_tie x is =
      find_head (starts_at start) ys
      ∙ ap (λ (fs : List Function). head_of fs) ((λ i. filter (λ y. sym (ties_are x is y) i) ys) ∙ stable x ∙ (λ i. filter (λ y. ties_are x is y i) xs))
      ∙ sym (find_head (starts_at start) xs)

  either : (o q : Option Function) → find (starts_at start) xs ≡ o → find (starts_at start) ys ≡ q → find (starts_at start) ys ≡ find (starts_at start) xs
  either (Some x) q here there = by_tie x (eqb-true x.start start (found_passes (starts_at start) xs x here))
  either None (Some y) here there = by_tie y (eqb-true y.start start (found_passes (starts_at start) ys y there))
  either None None here there = there ∙ sym here

  first_stays : find (starts_at start) ys ≡ find (starts_at start) xs
  first_stays = either (find (starts_at start) xs) (find (starts_at start) ys) refl refl

pub by_start : (functions : List FunctionSymbol) (xs ys : List Function) → map symbol_view xs ≡ functions → IsNonDecreasingBy (λ f. f.start) ys → IsStableByKey (λ f. f.start) nat_cmp xs ys → AreByStart functions ys
by_start functions xs ys seen up stable = record {
  rising = up;
  first = λ start.
      ap (option_map symbol_view) (first_stays xs ys stable start)
      ∙ sym (find_map (λ (f : FunctionSymbol). f.start == start) symbol_view xs)
      ∙ ap (find (λ (f : FunctionSymbol). f.start == start)) seen;
}

pub copied : (empty all functions : List Function) → empty ≡ [] → all ≡ empty ++ functions → all ≡ functions
copied empty all functions none is = is ∙ ap (λ (fs : List Function). fs ++ functions) none

-- ---- found

pub start_found : (start : ℕ) (fs : List Function) (n : ℕ) (x : Function) → ((k : ℕ) (d : Function) → k < n → (get_or fs k d).start < start) → slice_get fs n ≡ Some x → x.start ≡ start → find (starts_at start) fs ≡ Some x
start_found start [] n x below there is = absurd cc
start_found start (f ∷ fs) zero x below there is =
    ap (λ b. cond b (Some f) (find (starts_at start) fs)) (eq-eqb f.start start (ap (λ (g : Function). g.start) (same_Some f x there) ∙ is)) ∙ there
start_found start (f ∷ fs) (suc n) x below there is =
    let lt : f.start < start = below 0 f (omega arith) in
    ap (λ b. cond b (Some f) (find (starts_at start) fs)) (ne_eqb f.start start (λ e. omega arith))
    ∙ start_found start fs n x (λ k d l. below (suc k) d (omega arith)) there is

none_starts : (start : ℕ) (fs : List Function) → ((k : ℕ) (d : Function) → k < length fs → (get_or fs k d).start ≢ start) → find (starts_at start) fs ≡ None
none_starts start [] other = refl
none_starts start (f ∷ fs) other =
    ap (λ b. cond b (Some f) (find (starts_at start) fs)) (ne_eqb f.start start (other 0 f (omega arith)))
    ∙ none_starts start fs (λ k d l. other (suc k) d (omega arith))

pub start_missing : (start : ℕ) (fs : List Function) (n : ℕ) → IsNonDecreasingBy (λ f. f.start) fs → IsPartitionPoint (λ (f : Function). ltb f.start start ≡ true) (λ f. ltb f.start start ≡ false) fs n
    → ((x : Function) → slice_get fs n ≡ Some x → x.start ≢ start) → find (starts_at start) fs ≡ None
start_missing start fs n up point other = none_starts start fs (λ k d lt same. elim (cases_lt k n) [
  | inl less ↦ let below : (get_or fs k d).start < start = ltb-true _ _ (point.0 k d (omega arith) less) in absurd (omega arith)
  | inr ge ↦
      let first : start ≤ (get_or fs n d).start = ltb-false _ _ (point.1 n d (omega arith) (omega arith)) in
      let more : (get_or fs n d).start ≤ (get_or fs k d).start = up n k d ge lt in
      other (get_or fs n d) (slice_get-get_or fs n d (omega arith)) (omega arith)
])

-- ---- the procedure at an address

pub at_is : (image : ProgramImage) (pc : ℕ) (f : Function) → option_map symbol_view (Some f) ≡ find (in_function pc) image.functions → Sym f.start ≡ procedure_by_symbol image pc
at_is image pc f found = ap symbol_procedure found

pub at_none : (image : ProgramImage) (pc : ℕ) → None ≡ find (in_function pc) image.functions → Nameless ≡ procedure_by_symbol image pc
at_none image pc found = ap symbol_procedure found

pub ruleset at_steps = (at_is, at_none)
