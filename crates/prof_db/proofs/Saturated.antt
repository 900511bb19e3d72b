-- Where more lists are to be read than there are bytes for, the same field is at fault, however many they are.
use Rattle.std.proofs.Common.{◌≡◌, ℕ, zero, suc, ◌+◌, ◌-◌, ◌*◌, ◌/◌, ◌^◌, ◌<◌, ◌≤◌, List, [], length, Result, Ok, Err, inl, inr, refl, sym, ap, subst, ◌∙◌, arith}
use Rattle.std.specs.Prelude.{min}
use Rattle.std.proofs.lemmas.Bool.{cases_order}
use Rattle.std.proofs.lemmas.List.{length-drop}
use Rattle.prof_bytes.specs.Number.{number_in}
use Rattle.prof_bytes.specs.Outcome.{◌>>=◌}
use Rattle.prof_bytes.specs.Reading.{At, left_of, moved}
use Rattle.prof_bytes.specs.Repeated.{times}
use Rattle.prof_bytes.proofs.Outcomes.{bind_ok}
use Rattle.prof_bytes.proofs.Repeated.{Step}
use Rattle.prof_bytes.proofs.Took.{given, number_moved}
use Rattle.prof_db.specs.declared.fault.DbFault.{DbFault}
use Rattle.prof_db.specs.declared.raw.RawEntry.{RawEntry}
use Rattle.prof_db.specs.Fields.{not_whole, word_field}
use Rattle.prof_db.specs.Layout.{list_from}
use Rattle.prof_db.proofs.BackPlanes.{list_moved}

-- ---- each list takes four bytes at least

moved_less : (k : ℕ) (at : At) → 4 ≤ length (left_of at) → 4 + length (left_of (moved (4 + k) at)) ≤ length (left_of at)
moved_less k at long =
    let before = length-drop at.offset at.whole in
    let after = length-drop (at.offset + (4 + k)) at.whole in
    omega (arith, before, after, long)

list_takes : (column : ℕ) (before after : List RawEntry) (at next : At) → list_from column before at ≡ Ok (after, next) → 4 + length (left_of next) ≤ length (left_of at)
unfolding list_from
list_takes column before after at next is =
    let a = bind_ok (word_field at) _ _ is in
    let long = (number_moved not_whole 4 at a.0.1 a.0.0 a.1).0 in
    subst (λ (n : At). 4 + length (left_of n) ≤ length (left_of at)) (list_moved column before after at next is) (moved_less (16 * number_in 4 (left_of at)) at long)

lists_take : (n i : ℕ) (before after : List RawEntry) (at next : At) → times list_from n i before at ≡ Ok (after, next) → 4 * n + length (left_of next) ≤ length (left_of at)
unfolding times
lists_take zero i before after at next is = given (λ after next. 4 * 0 + length (left_of next) ≤ length (left_of at)) before after at next is (omega arith)
lists_take (suc n) i before after at next is =
    let a = bind_ok (list_from i before at) _ _ is in
    let first = list_takes i before a.0.0 at a.0.1 a.1 in
    let rest = lists_take n (i + 1) a.0.0 after a.0.1 next a.2 in
    omega (arith, first, rest)

-- ---- what is at fault in some steps is so in more

first_fails : {S F : Type 0} (r : Result (S × At) F) (f g : S × At → Result (S × At) F) (e : F) → ((p : S × At) → f p ≡ Err e → g p ≡ Err e) → (r >>= f) ≡ Err e → (r >>= g) ≡ Err e
first_fails (Ok p) f g e more is = more p is
first_fails (Err found) f g e more is = is

more_fail : {S F : Type 0} (step : Step S F) (m n i : ℕ) (before : S) (at : At) (e : F) → m ≤ n → times step m i before at ≡ Err e → times step n i before at ≡ Err e
unfolding times
more_fail step zero n i before at e le is = absurd cc
more_fail step (suc m) zero i before at e le is = absurd (omega (arith, le))
more_fail step (suc m) (suc n) i before at e le is = first_fails (step i before at) _ _ e (λ p fails. more_fail step m n (i + 1) p.0 p.1 e (omega (arith, le)) fails) is

-- ---- the lists of a file

too_many : (r : Result (List RawEntry × At) DbFault) (most n : ℕ) (at : At) → times list_from most 0 [] at ≡ r → most ≤ n → length (left_of at) < 4 * most → times list_from most 0 [] at ≡ times list_from n 0 [] at
too_many (Ok p) most n at is le short = absurd (let taken = lists_take most 0 [] p.0 at p.1 is in omega (arith, taken, short))
too_many (Err e) most n at is le short = is ∙ sym (more_fail list_from most n 0 [] at e le is)

pub saturated : (n columns left most : ℕ) (at : At) → columns ≡ min n (2 ^ 64 - 1) → most ≡ min columns (left / 4 + 1) → left ≡ length (left_of at) → left < 2 ^ 64
    → times list_from most 0 [] at ≡ times list_from n 0 [] at
saturated n columns left most at columns_is most_is left_is small = elim (cases_order most n) [
  | inl same ↦ ap (λ (k : ℕ). times list_from k 0 [] at) same
  | inr (inl less) ↦ too_many (times list_from most 0 [] at) most n at refl (omega (arith, less)) (omega (arith, less, columns_is, most_is, left_is, small))
  | inr (inr more) ↦ absurd (omega (arith, columns_is, most_is, more))
]

-- ---- the number of columns

-- what is small is as it is
pub uncapped : (n m : ℕ) → n ≡ min m (2 ^ 64 - 1) → m ≤ 4096 → n ≡ m
uncapped n m is few = omega (arith, is, few)
