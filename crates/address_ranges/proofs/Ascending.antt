-- Ranges in ascending order are a table as they are.
use Rattle.std.proofs.Common.{◌≡◌, ℕ, map, take, get_or, ◌+◌, ◌<◌, ◌≤◌, Bool, false, cond, ltb, List, [], ◌∷◌, ◌++◌, length, Option, Some, None, refl, sym, ap, subst, ◌∙◌, arith, append_assoc, inl, inr}
use Rattle.std.specs.Prelude.{◌⊎◌}
use Rattle.std.specs.Option.{option_or}
use Rattle.std.specs.List.{position_from}
use Rattle.std.proofs.lemmas.List.{length-map, length-take, take_all, take_more, get_or-map}
use Rattle.std.proofs.lemmas.Bool.{cases_lt}
use Rattle.std.proofs.lemmas.Bool.Decides.{nat_tests}
use Rattle.address_ranges.specs.declared.ranges.AddressRange.{AddressRange}
use Rattle.address_ranges.specs.declared.ranges.Step.{Step}
use Rattle.address_ranges.specs.Ranges.{holds}
use Rattle.address_ranges.specs.private.Steps.{holder_from, IsAscending, with_start}
use Rattle.address_ranges.proofs.Steps.{test_true, test_false, position_append}

-- no range holds the addresses from there on
abbrev pub closing : ℕ → Step
closing end = record { start = end; holder = None }

abbrev pub opening : ℕ → ℕ → Step
opening start holder = record { start = start; holder = Some holder }

last_low : (low : ℕ) (xs : List Step) (s : Step) → IsAscending low (xs ++ s ∷ []) → low ≤ s.start
last_low low [] s up = up.0
last_low low (x ∷ xs) s up =
    let one : low ≤ x.start = up.0 in
    let more : x.start + 1 ≤ s.start = last_low (x.start + 1) xs s up.1 in
    omega arith

one_more : (low : ℕ) (xs : List Step) (s t : Step) → IsAscending low (xs ++ s ∷ []) → s.start < t.start → IsAscending low (xs ++ s ∷ t ∷ [])
one_more low [] s t up lt = (up.0, (omega arith, tt))
one_more low (x ∷ xs) s t up lt = (up.0, one_more (x.start + 1) xs s t up.1 lt)

other_last : (low : ℕ) (xs : List Step) (s t : Step) → IsAscending low (xs ++ s ∷ []) → s.start ≡ t.start → IsAscending low (xs ++ t ∷ [])
other_last low [] s t up same = (let le : low ≤ s.start = up.0 in omega arith, tt)
other_last low (x ∷ xs) s t up same = (up.0, other_last (x.start + 1) xs s t up.1 same)

-- below two steps, what they and those after them say does not matter
below : (before : Option ℕ) (xs : List Step) (s t : Step) (rest others : List Step) (address : ℕ) → address < s.start → address < t.start → holder_from before (xs ++ s ∷ rest) address ≡ holder_from before (xs ++ t ∷ others) address
below before [] s t rest others address ls lt = rw (test_true address s.start ls, test_true address t.start lt) refl
below before (x ∷ xs) s t rest others address ls lt = ap (λ (o : Option ℕ). cond (ltb address x.start) before o) (below x.holder xs s t rest others address ls lt)

-- from a step on, what those before it say does not
above : (low : ℕ) (before : Option ℕ) (xs : List Step) (s : Step) (rest : List Step) (address : ℕ) → IsAscending low (xs ++ s ∷ []) → s.start ≤ address → holder_from before (xs ++ s ∷ rest) address ≡ holder_from s.holder rest address
above low before [] s rest address up le = rw (test_false address s.start le) refl
above low before (x ∷ xs) s rest address up le =
    let more : x.start + 1 ≤ s.start = last_low (x.start + 1) xs s up.1 in
    rw (test_false address x.start (omega arith)) (above (x.start + 1) x.holder xs s rest address up.1 le)

-- with the step at their end, the steps are the table of the ranges
pub record EndsAt (steps : List Step) (end : ℕ) (ranges : List AddressRange) (number : ℕ) : Type 0 where
  pub ascending : IsAscending 0 (steps ++ closing end ∷ [])
  pub holders : (address : ℕ) → holder_from None (steps ++ closing end ∷ []) address ≡ position_from (holds address) number ranges

pub nothing_yet : (number : ℕ) → EndsAt [] 0 [] number
nothing_yet number = record { ascending = (omega arith, tt); holders = λ address. rw (test_false address 0 (omega arith)) refl }

or_none : (o : Option ℕ) → option_or o None ≡ o
or_none None = refl
or_none (Some n) = refl

held_from : (address : ℕ) (r : AddressRange) → r.start ≤ address → holds address r ≡ ltb address r.end
held_from address r le = grind (arith, nat_tests)

not_below : (address : ℕ) (r : AddressRange) → address < r.start → holds address r ≡ false
not_below address r lt = grind (arith, nat_tests)

-- what ranges say with one more
by_one_more : (address number : ℕ) (ranges : List AddressRange) (r : AddressRange) → position_from (holds address) number (ranges ++ r ∷ []) ≡ option_or (position_from (holds address) number ranges) (cond (holds address r) (Some (number + length ranges)) None)
by_one_more address number ranges r = position_append (holds address) number ranges (r ∷ [])

low_value : (address number : ℕ) (ranges : List AddressRange) (r : AddressRange) → address < r.start → position_from (holds address) number (ranges ++ r ∷ []) ≡ position_from (holds address) number ranges
low_value address number ranges r lt =
    by_one_more address number ranges r
    ∙ ap (λ (b : Bool). option_or (position_from (holds address) number ranges) (cond b (Some (number + length ranges)) None)) (not_below address r lt)
    ∙ or_none (position_from (holds address) number ranges)

high_value : (address number : ℕ) (ranges : List AddressRange) (r : AddressRange) → position_from (holds address) number ranges ≡ None → position_from (holds address) number (ranges ++ r ∷ []) ≡ cond (holds address r) (Some (number + length ranges)) None
high_value address number ranges r none =
    by_one_more address number ranges r ∙ ap (λ (o : Option ℕ). option_or o (cond (holds address r) (Some (number + length ranges)) None)) none

-- the ranges before hold nothing from their end on
past_end : (steps : List Step) (end : ℕ) (ranges : List AddressRange) (number address : ℕ) → EndsAt steps end ranges number → end ≤ address → position_from (holds address) number ranges ≡ None
past_end steps end ranges number address before le = sym (before.holders address) ∙ above 0 None steps (closing end) [] address before.ascending le

-- a range that begins above the end of those before it
after_gap : (steps : List Step) (end number : ℕ) (ranges : List AddressRange) (r : AddressRange) → EndsAt steps end ranges number → end < r.start → r.start < r.end
    → EndsAt ((steps ++ closing end ∷ []) ++ opening r.start (number + length ranges) ∷ []) r.end (ranges ++ r ∷ []) number
after_gap steps end number ranges r before lt some =
    let k : ℕ = number + length ranges in
    let last : Step = closing r.end in
    let joined : ((steps ++ closing end ∷ []) ++ opening r.start k ∷ []) ++ last ∷ [] ≡ (steps ++ closing end ∷ []) ++ opening r.start k ∷ last ∷ [] = append_assoc (steps ++ closing end ∷ []) (opening r.start k ∷ []) (last ∷ []) in
    let whole : (steps ++ closing end ∷ []) ++ opening r.start k ∷ last ∷ [] ≡ steps ++ closing end ∷ opening r.start k ∷ last ∷ [] = append_assoc steps (closing end ∷ []) (opening r.start k ∷ last ∷ []) in
    let two : IsAscending 0 ((steps ++ closing end ∷ []) ++ opening r.start k ∷ []) = subst (IsAscending 0) (sym (append_assoc steps (closing end ∷ []) (opening r.start k ∷ []))) (one_more 0 steps (closing end) (opening r.start k) before.ascending lt) in
    record {
      ascending = subst (IsAscending 0) (sym joined) (one_more 0 (steps ++ closing end ∷ []) (opening r.start k) last two some);
      holders = λ address.
          ap (λ (zs : List Step). holder_from None zs address) (joined ∙ whole)
          ∙ elim (cases_lt address end) [
            | inl low ↦
                below None steps (closing end) (closing end) (opening r.start k ∷ last ∷ []) [] address low low
                ∙ before.holders address
                ∙ sym (low_value address number ranges r (omega arith))
            | inr high ↦
                above 0 None steps (closing end) (opening r.start k ∷ last ∷ []) address before.ascending high
                ∙ here address (cases_lt address r.start)
                ∙ sym (high_value address number ranges r (past_end steps end ranges number address before high))
          ];
    }
  where
    here : (address : ℕ) → (address < r.start) ⊎ (r.start ≤ address) → holder_from None (opening r.start (number + length ranges) ∷ closing r.end ∷ []) address ≡ cond (holds address r) (Some (number + length ranges)) None
    here address (inl under) = rw (test_true address r.start under, not_below address r under) refl
    here address (inr over) = rw (test_false address r.start over, held_from address r over) refl

-- a range that begins where those before it end
at_end : (steps : List Step) (end number : ℕ) (ranges : List AddressRange) (r : AddressRange) → EndsAt steps end ranges number → end ≡ r.start → r.start < r.end
    → EndsAt (steps ++ opening r.start (number + length ranges) ∷ []) r.end (ranges ++ r ∷ []) number
at_end steps end number ranges r before same some =
    let k : ℕ = number + length ranges in
    let last : Step = closing r.end in
    let joined : (steps ++ opening r.start k ∷ []) ++ last ∷ [] ≡ steps ++ opening r.start k ∷ last ∷ [] = append_assoc steps (opening r.start k ∷ []) (last ∷ []) in
    let one : IsAscending 0 (steps ++ opening r.start k ∷ []) = other_last 0 steps (closing end) (opening r.start k) before.ascending same in
    record {
      ascending = subst (IsAscending 0) (sym joined) (one_more 0 steps (opening r.start k) last one some);
      holders = λ address.
          ap (λ (zs : List Step). holder_from None zs address) joined
          ∙ elim (cases_lt address end) [
            | inl low ↦
                below None steps (opening r.start k) (closing end) (last ∷ []) [] address (omega arith) low
                ∙ before.holders address
                ∙ sym (low_value address number ranges r (omega arith))
            | inr high ↦
                above 0 None steps (opening r.start k) (last ∷ []) address one (omega arith)
                ∙ ap (λ (b : Bool). cond b (Some k) None) (sym (held_from address r (omega arith)))
                ∙ sym (high_value address number ranges r (past_end steps end ranges number address before high))
          ];
    }

-- one range more
next_range : (steps after : List Step) (end number k : ℕ) (ranges more : List AddressRange) (r : AddressRange) → EndsAt steps end ranges number → end ≤ r.start → r.start < r.end
    → k ≡ number + length ranges → more ≡ ranges ++ r ∷ [] → after ≡ with_start steps end r.start k → EndsAt after r.end more number
next_range steps after end number k ranges more r before le some same grown made =
    rw (made, grown, same) (elim (cases_lt end r.start) [
      | inl lt ↦ rw (test_true end r.start lt) (after_gap steps end number ranges r before lt some)
      | inr ge ↦ rw (test_false end r.start ge) (at_end steps end number ranges r before (omega arith) some)
    ])

-- ---- the ranges of a list's first elements

one_item_more : {T : Type 0} (f : T → AddressRange) (items : List T) (i : ℕ) (x : T) → i < length items → x ≡ get_or items i x → take (i + 1) (map f items) ≡ take i (map f items) ++ f x ∷ []
one_item_more f items i x low is =
    let many : length (map f items) ≡ length items = length-map items f in
    take_more (map f items) i (f x) (omega arith) ∙ ap (λ (r : AddressRange). take i (map f items) ++ r ∷ []) (get_or-map f items i x (f x) low ∙ ap f (sym is))

as_many_taken : {T : Type 0} (f : T → AddressRange) (items : List T) (i : ℕ) → i < length items → length (take i (map f items)) ≡ i
as_many_taken f items i low = omega (arith, length-take i (map f items), length-map items f)

pub next_item : {T : Type 0} (f : T → AddressRange) (items : List T) (steps after : List Step) (end number i start : ℕ) (x : T) (r : AddressRange) → EndsAt steps end (take i (map f items)) number → start ≡ r.start → end ≤ start → start < r.end
    → i < length items → x ≡ get_or items i x → r ≡ f x → after ≡ with_start steps end start (number + i) → EndsAt after r.end (take (i + 1) (map f items)) number
next_item f items steps after end number i start x r before here le some low is given made =
    let many = as_many_taken f items i low in
    next_range steps after end number (number + i) (take i (map f items)) (take (i + 1) (map f items)) r before (omega arith) (omega arith) (omega arith)
    (one_item_more f items i x low is ∙ ap (λ (s : AddressRange). take i (map f items) ++ s ∷ []) (sym given))
    (made ∙ ap (λ (s : ℕ). with_start steps end s (number + i)) here)

pub all_ranges : {T : Type 0} (f : T → AddressRange) (items : List T) (i : ℕ) (number address : ℕ) → length items ≤ i → position_from (holds address) number (take i (map f items)) ≡ position_from (holds address) number (map f items)
all_ranges f items i number address past =
    let many : length (map f items) ≡ length items = length-map items f in
    ap (λ (rs : List AddressRange). position_from (holds address) number rs) (take_all i (map f items) (omega arith))
