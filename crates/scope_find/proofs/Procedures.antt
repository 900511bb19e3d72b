-- The first subprogram with an open range is the procedure.
use Rattle.std.proofs.Common.{◌≡◌, ℕ, zero, suc, ◌+◌, ◌<◌, ◌≤◌, Bool, true, false, ◌&&◌, not, List, [], ◌∷◌, length, get_or, Option, Some, None, refl, sym, ap, ◌∙◌, subst, arith}
use Rattle.std.specs.Prelude.{slice_get, find, MatchOption, IfSome}
use Rattle.std.specs.List.{enumerate_from}
use Rattle.std.proofs.lemmas.Option.{slice_get-get_or, slice_get_within, get_or_from_slice_get}
use Rattle.dwarf_inline.specs.declared.subroutine.Subroutine.{Subroutine}
use Rattle.dwarf_inline.specs.Structure.{ProgramStructure}
use Rattle.scope_find.specs.declared.span.Span.{Span}
use Rattle.scope_find.specs.Found.{Numbered, item_holds, subprogram_at}
use Rattle.scope_find.specs.private.Spans.{AreSpans, IsOpenAt, NoneOpen, IsFirstOpen, IsProcedure, IsProcedureAt, no_item, item_at}
use Rattle.scope_find.proofs.Holding.{held_item, open_range}

module _ (test : Numbered → Bool) where
  pub find_first : (xs : List Subroutine) (m n : ℕ) (d : Subroutine) → n < length xs → test (m + n, get_or xs n d) ≡ true → ((k : ℕ) → k < n → test (m + k, get_or xs k d) ≡ false) → find test (enumerate_from m xs) ≡ Some (m + n, get_or xs n d)
  find_first [] m n d lt is before = absurd (omega arith)
  find_first (x ∷ xs) m zero d lt is before =
      let e : m + 0 ≡ m = omega arith in
      let is' : test (m, x) ≡ true = subst (λ (j : ℕ). test (j, x) ≡ true) e is in
      rw is' (ap (λ (j : ℕ). Some (j, x)) (sym e))
  find_first (x ∷ xs) m (suc n) d lt is before =
      let e : m + suc n ≡ m + 1 + n = omega arith in
      let z : m + 0 ≡ m = omega arith in
      let fails : test (m, x) ≡ false = subst (λ (j : ℕ). test (j, x) ≡ false) z (before 0 (omega arith)) in
      let rest = find_first xs (m + 1) n d (omega arith) (subst (λ (j : ℕ). test (j, get_or xs n d) ≡ true) e is)
      (λ k lt. subst (λ (j : ℕ). test (j, get_or xs k d) ≡ false) (let f : m + suc k ≡ m + 1 + k = omega arith in f) (before (suc k) (omega arith))) in
      rw fails (rest ∙ ap (λ (j : ℕ). Some (j, get_or xs n d)) (sym e))

  pub find_none : (xs : List Subroutine) (m : ℕ) (d : Subroutine) → ((k : ℕ) → k < length xs → test (m + k, get_or xs k d) ≡ false) → find test (enumerate_from m xs) ≡ None
  find_none [] m d all = refl
  find_none (x ∷ xs) m d all =
      let z : m + 0 ≡ m = omega arith in
      let fails : test (m, x) ≡ false = subst (λ (j : ℕ). test (j, x) ≡ false) z (all 0 (omega arith)) in
      rw fails (find_none xs (m + 1) d (λ k lt. subst (λ (j : ℕ). test (j, get_or xs k d) ≡ false) (let f : m + suc k ≡ m + 1 + k = omega arith in f) (all (suc k) (omega arith))))

not_both : (a b : Bool) → ((a ≡ false) → (b ≡ true) → ⊥) → not a && b ≡ false
not_both true b never = refl
not_both false true never = absurd (never refl refl)
not_both false false never = refl

is_both : (a b : Bool) → a ≡ false → b ≡ true → not a && b ≡ true
is_both a b e f = rw (e, f) refl

module _ (s : ProgramStructure) (held : List Span) (address : ℕ) (o : IsOpenAt s held address) where
  at_number : (k : ℕ) → k < length s.items → slice_get s.items k ≡ Some (item_at s k)
  at_number k lt = slice_get-get_or s.items k no_item lt

  pub found_procedure : (number : ℕ) → IsFirstOpen held false 0 number → IsProcedure s address number
  found_procedure number first =
      let it = (o.spans first.span first.there).item in
      let at : slice_get s.items first.span.item ≡ Some it = (o.spans first.span first.there).there in
      let there : slice_get s.items number ≡ Some it = subst (λ (n : ℕ). slice_get s.items n ≡ Some it) first.same at in
      let h = held_item s held address o first.span first.there it at in
      let g : item_at s number ≡ it = get_or_from_slice_get s.items number it no_item there in
      let z : 0 + number ≡ number = omega arith in
      let test : Numbered → Bool = λ i. not i.1.inlined && item_holds s address i.1 in
      let is : test (0 + number, item_at s number) ≡ true =
      rw g (is_both it.inlined (item_holds s address it) (sym h.0 ∙ first.kinds) h.1) in
      record {
        item = it;
        there = there;
        found =
            find_first test s.items 0 number no_item (slice_get_within s.items number it there) is
            (λ k lt. not_both (item_at s k).inlined (item_holds s address (item_at s k)) (λ sub holds. earlier k lt (let l : k < length s.items = omega (arith, slice_get_within s.items number it there) in l) sub holds))
            ∙ ap (λ (j : ℕ). Some (j, item_at s number)) z ∙ ap (λ (i : Subroutine). Some (number, i)) g;
      }
    where
      earlier : (k : ℕ) → k < number → k < length s.items → (item_at s k).inlined ≡ false → item_holds s address (item_at s k) ≡ true → ⊥
      earlier k lt within sub holds =
          let r = open_range s held address o k (item_at s k) (at_number k within) holds in
          let le : number ≤ r.span.item = first.least r.span r.there (r.kind ∙ sub) (omega arith) in
          let e : r.span.item ≡ k = r.same in
          omega arith

  pub no_procedure : NoneOpen held false 0 → subprogram_at s address ≡ None
  no_procedure none =
      let test : Numbered → Bool = λ i. not i.1.inlined && item_holds s address i.1 in
      find_none test s.items 0 no_item (λ k lt. not_both (item_at s k).inlined (item_holds s address (item_at s k)) (λ sub holds. nowhere k lt sub holds))
    where
      nowhere : (k : ℕ) → k < length s.items → (item_at s k).inlined ≡ false → item_holds s address (item_at s k) ≡ true → ⊥
      nowhere k within sub holds =
          let r = open_range s held address o k (item_at s k) (at_number k within) holds in
          let lt : r.span.item < 0 = none r.span r.there (r.kind ∙ sub) in
          omega arith

pub first_within : (s : ProgramStructure) (held : List Span) → AreSpans s held → (inlined : Bool) (low number : ℕ) → IsFirstOpen held inlined low number → number < length s.items
first_within s held spans inlined low number first =
    let it = (spans first.span first.there).item in
    let at : slice_get s.items first.span.item ≡ Some it = (spans first.span first.there).there in
    let e : first.span.item ≡ number = first.same in
    let lt : first.span.item < length s.items = slice_get_within s.items first.span.item it at in
    omega arith

pub procedure_within : (s : ProgramStructure) (held : List Span) → AreSpans s held → (r : Option ℕ) → MatchOption r (NoneOpen held false 0) (IsFirstOpen held false 0) → IfSome r (λ number. number < length s.items)
procedure_within s held spans None none = tt
procedure_within s held spans (Some number) first = first_within s held spans false 0 number first

pub procedure_at : (s : ProgramStructure) (held : List Span) (address : ℕ) → IsOpenAt s held address → (r : Option ℕ) → MatchOption r (NoneOpen held false 0) (IsFirstOpen held false 0) → IsProcedureAt s address r
procedure_at s held address o None none = no_procedure s held address o none
procedure_at s held address o (Some number) first = found_procedure s held address o number first
