-- The inlined subroutines that are open at an item, and the level of one that is below it.
use Rattle.std.proofs.Common.{◌≡◌, ℕ, zero, suc, ◌+◌, ◌-◌, ◌^◌, ◌<◌, ◌≤◌, Bool, true, false, cond, List, [], ◌∷◌, ◌++◌, length, take, drop, get_or, Some, refl, sym, ap, ◌∙◌, arith, ◌&&◌}
use Rattle.std.specs.Prelude.{count_by, nat_lt, slice_get}
use Rattle.std.proofs.lemmas.Bool.{le-ltb}
use Rattle.std.proofs.lemmas.List.{length-take, take_all, take_more}
use Rattle.std.proofs.lemmas.List.Sums.{count_by-le-length, count_by_more_no, sum_by-append, sum_by_push}
use Rattle.std.proofs.lemmas.Option.{slice_get_within, get_or_from_slice_get}
use Rattle.dwarf_inline.specs.declared.subroutine.Subroutine.{Subroutine}
use Rattle.dwarf_inline.specs.Structure.{ProgramStructure, IsWholeStructure}
use Rattle.struct_listing.specs.Listing.{inlined_level, is_inlined_beyond}
use Rattle.struct_listing.specs.private.Opened.{AreOpenAt, AreOpenFrom, IsOpened, KeepsOpen, open_at}

abbrev one_if : Bool → ℕ
one_if b = cond b 1 0

-- ---- ends

pub less_open : (number kept : ℕ) (ends : List ℕ) (d : ℕ) → 0 < kept → kept ≤ length ends → get_or ends (kept - 1) d ≤ number
    → KeepsOpen number ends (take kept ends) → KeepsOpen number ends (take (kept - 1) ends)
less_open number kept ends d some within ended so_far = λ n le.
    let e : kept - 1 + 1 ≡ kept = omega arith in
    sym (count_by_more_no (λ end. nat_lt n end) ends (kept - 1) d (omega arith) (le-ltb n (get_or ends (kept - 1) d) (omega arith)))
    ∙ ap (λ (k : ℕ). count_by (λ end. nat_lt n end) (take k ends)) e ∙ so_far n le

pub all_open : (number kept : ℕ) (ends : List ℕ) → length ends ≤ kept → KeepsOpen number ends (take kept ends)
all_open number kept ends le = λ n far. ap (count_by (λ end. nat_lt n end)) (take_all kept ends le)

pub opened : (number : ℕ) (item : Subroutine) (before closed after : List ℕ) → item.inlined ≡ true → KeepsOpen number before closed → after ≡ closed ++ item.next_after_subtree ∷ []
    → IsOpened number item before after
opened number item before closed after inlined kept is = λ n le.
    ap (count_by (λ end. nat_lt n end)) is ∙ sum_by_push (λ end. one_if (nat_lt n end)) closed item.next_after_subtree
    ∙ (λ i. kept n le i + one_if (sym inlined i && nat_lt n item.next_after_subtree))

pub not_opened : (number : ℕ) (item : Subroutine) (ends : List ℕ) → item.inlined ≡ false → IsOpened number item ends ends
not_opened number item ends inlined = λ n le.
    no_more (count_by (λ end. nat_lt n end) ends) ∙ ap (λ (b : Bool). count_by (λ end. nat_lt n end) ends + one_if (b && nat_lt n item.next_after_subtree)) (sym inlined)
  where
    no_more : (m : ℕ) → m ≡ m + 0
    no_more m = omega arith

-- ---- all items up to one

pub none_open : (s : ProgramStructure) (ends : List ℕ) → ends ≡ [] → AreOpenFrom s 0 ends
none_open s ends empty = λ n le. ap (count_by (λ end. nat_lt n end)) empty

pub open_at_item : (s : ProgramStructure) (number : ℕ) (item : Subroutine) (ends after : List ℕ) → slice_get s.items number ≡ Some item → AreOpenFrom s number ends → IsOpened number item ends after
    → AreOpenAt s number after
open_at_item s number item ends after there are is = λ n le.
    let lt : number < length s.items = slice_get_within s.items number item there in
    is n le ∙ ap (λ (k : ℕ). k + one_if (is_inlined_beyond n item)) (are n le)
    ∙ sym (ap (count_by (is_inlined_beyond n))
    (take_more s.items number item lt ∙ ap (λ (x : Subroutine). take number s.items ++ x ∷ []) (get_or_from_slice_get s.items number item item there))
    ∙ sum_by_push (λ i. one_if (is_inlined_beyond n i)) (take number s.items) item)

pub open_next : (s : ProgramStructure) (number : ℕ) (ends : List ℕ) → AreOpenAt s number ends → AreOpenFrom s (number + 1) ends
open_next s number ends are = λ n le. are n (omega arith)

pub few_open : (s : ProgramStructure) (number : ℕ) (ends : List ℕ) → IsWholeStructure s → AreOpenAt s number ends → count_by (λ end. nat_lt number end) ends < 2 ^ 32
few_open s number ends whole are =
    let few = whole.few in
    let most = count_by-le-length (is_inlined_beyond number) (take (number + 1) s.items) in
    let long = length-take (number + 1) s.items in
    let is = are number (omega arith) in
    omega arith

-- ---- the level

take_none : {X : Type 0} (m : ℕ) (none : List X) → none ≡ [] → take m none ≡ []
take_none m none is = take_all m none (omega (arith, ap length is)) ∙ is

split_take : {X : Type 0} (n m : ℕ) (xs : List X) → take (n + m) xs ≡ take n xs ++ take m (drop n xs)
split_take zero m xs = let e : 0 + m ≡ m = omega arith in ap (λ (k : ℕ). take k xs) e
split_take (suc n) m [] = take_none (suc n + m) [] refl ∙ sym (take_none m [] refl)
split_take {X} (suc n) m (x ∷ xs) =
    let e : suc n + m ≡ suc (n + m) = omega arith in
    ap (λ (k : ℕ). take k (x ∷ xs)) e ∙ ap (λ (l : List X). x ∷ l) (split_take n m xs)

pub depth_is : (s : ProgramStructure) (subprogram number depth : ℕ) (ends : List ℕ) → subprogram < number → AreOpenAt s subprogram ends → depth ≡ open_at s number
    → depth ≡ count_by (λ end. nat_lt number end) ends + inlined_level s subprogram number
depth_is s subprogram number depth ends below are is =
    let e : number + 1 ≡ subprogram + 1 + (number - subprogram) = omega arith in
    let p : Subroutine → Bool = is_inlined_beyond number in
    is ∙ ap (λ (k : ℕ). count_by p (take k s.items)) e ∙ ap (count_by p) (split_take (subprogram + 1) (number - subprogram) s.items)
    ∙ sum_by-append (λ i. one_if (p i)) (take (subprogram + 1) s.items) (take (number - subprogram) (drop (subprogram + 1) s.items))
    ∙ ap (λ (k : ℕ). k + inlined_level s subprogram number) (sym (are number (omega arith)))
