-- The derived order and test of procedures are those of the definition; and the letters of procedures.
use Rattle.std.proofs.Common.{◌≡◌, inl, inr, ℕ, zero, suc, ◌+◌, ◌-◌, ◌<◌, ◌≤◌, nat_lt, Bool, true, false, cond, not, List, [], ◌∷◌, length, take, None, Some, Ordering, is_eq, refl, sym, ap, ◌∙◌, rules, arith}
use Rattle.std.specs.Prelude.{min}
use Rattle.std.specs.Bool.{Decides}
use Rattle.std.specs.FinMap.{IsAntisymmetric}
use Rattle.std.specs.List.{position, position_or_len}
use Rattle.std.proofs.lemmas.Bool.{cases_lt, le-ltb, lt-ltb}
use Rattle.std.proofs.lemmas.List.{length-take-le}
use Rattle.std.proofs.lemmas.Cmp.{tied_itself}
use Rattle.scope_types.specs.declared.scope.ProcId.{ProcId}
use Rattle.scope_types.specs.declared.scope.ProcId.TheVariants.{Die, Sym, Nameless}
use Rattle.scope_types.specs.contracts.scope.ProcIdOrd.TheImpl.{ghosts as ordered}
use Rattle.scope_types.specs.contracts.scope.ProcIdPartialEq.TheImpl.{ghosts as tested}
use Rattle.tree_types.specs.Ascending.{ascending}
use Rattle.tree_types.specs.Naming.{proc_order}
use Rattle.tree_types.proofs.NamesAgain.{proc_order_tells, proc_order_total}
use Rattle.tree_types.proofs.Sorting.{bool_same, equal_from_is}
use Rattle.trace_lines.specs.Timeline.{letter, same_proc}

-- ---- the derived order

derived_order : (p q : ProcId) → ordered.cmp p q ≡ proc_order p q
derived_order (Die a) (Die b) = search rules
derived_order (Die a) (Sym b) = search rules
derived_order (Die a) Nameless = search rules
derived_order (Sym a) (Die b) = search rules
derived_order (Sym a) (Sym b) = search rules
derived_order (Sym a) Nameless = search rules
derived_order Nameless (Die b) = search rules
derived_order Nameless (Sym b) = search rules
derived_order Nameless Nameless = search rules

pub derived_tells : IsAntisymmetric ordered.cmp
derived_tells p q e = proc_order_tells p q (sym (derived_order p q) ∙ e)

pub derived_ascends : (procs : List ProcId) → ascending ordered.cmp procs ≡ ascending proc_order procs
derived_ascends procs = ap (λ (order : ProcId → ProcId → Ordering). ascending order procs) (λ i p q. derived_order p q i)

-- ---- the derived test

tests_decide : (p q : ProcId) → Decides (tested.eq p q) (p ≡ q)
tests_decide p q = search rules

pub derived_same : (p q : ProcId) → tested.eq p q ≡ same_proc q p
derived_same p q =
    bool_same (tested.eq p q) (same_proc q p)
    (λ e. ap is_eq (ap (proc_order q) ((tests_decide p q).0 e) ∙ tied_itself proc_order_total q))
    (λ e. (tests_decide p q).1 (sym (proc_order_tells q p (equal_from_is (proc_order q p) e))))

-- ---- the first procedures alone have letters of their own

first_of : (test : ProcId → Bool) (procs : List ProcId) (n : ℕ) → n ≤ length procs → position_or_len test (take n procs) < n → position_or_len test procs ≡ position_or_len test (take n procs)
first_of test procs zero few found = absurd (omega (arith, found))
first_of test [] (suc n) few found = absurd (omega (arith, few))
first_of test (p ∷ procs) (suc n) few found =
    elim (test p) as (λ b. cond (not b) (1 + position_or_len test (take n procs)) 0 < suc n → cond (not b) (1 + position_or_len test procs) 0 ≡ cond (not b) (1 + position_or_len test (take n procs)) 0) [
      | true ↦ λ less. refl
      | false ↦ λ less. ap (λ (k : ℕ). 1 + k) (first_of test procs n (omega (arith, few)) (omega (arith, less)))
    ] found

none_of : (test : ProcId → Bool) (procs : List ProcId) (n : ℕ) → n ≤ length procs → n ≤ position_or_len test (take n procs) → n ≤ position_or_len test procs
none_of test procs zero few absent = omega arith
none_of test [] (suc n) few absent = absurd (omega (arith, few))
none_of test (p ∷ procs) (suc n) few absent =
    elim (test p) as (λ b. suc n ≤ cond (not b) (1 + position_or_len test (take n procs)) 0 → suc n ≤ cond (not b) (1 + position_or_len test procs) 0) [
      | true ↦ λ more. absurd (omega (arith, more))
      | false ↦ λ more. let rest = none_of test procs n (omega (arith, few)) (omega (arith, more)) in omega (arith, rest)
    ] absent

within_list : (test : ProcId → Bool) (procs : List ProcId) → position_or_len test procs ≤ length procs
within_list test [] = omega arith
within_list test (p ∷ procs) = elim (test p) as (λ b. cond (not b) (1 + position_or_len test procs) 0 ≤ length (p ∷ procs)) [ true ↦ omega arith | false ↦ let rest = within_list test procs in omega (arith, rest) ]

plus_from : (n : ℕ) → 62 ≤ n → letter n ≡ 43
plus_from n many =
    ap (λ (b : Bool). cond b (65 + n) (cond (nat_lt n 52) (71 + n) (cond (nat_lt n 62) (n - 4) 43))) (le-ltb n 26 (omega (arith, many)))
    ∙ ap (λ (b : Bool). cond b (71 + n) (cond (nat_lt n 62) (n - 4) 43)) (le-ltb n 52 (omega (arith, many))) ∙ ap (λ (b : Bool). cond b (n - 4) 43) (le-ltb n 62 many)

-- a procedure that is found among the first ones
pub letter_found : (test : ProcId → Bool) (procs : List ProcId) (n i : ℕ) → n ≤ length procs → i < n → position_or_len test (take n procs) ≡ i → letter i ≡ letter (position_or_len test procs)
letter_found test procs n i few less is = ap letter (sym is ∙ sym (first_of test procs n few (omega (arith, is, less))))

-- and one that isn't
pub letter_absent : (test : ProcId → Bool) (procs : List ProcId) (n : ℕ) → n ≡ min (length procs) 62 → n ≤ position_or_len test (take n procs) → letter n ≡ letter (position_or_len test procs)
letter_absent test procs n first absent =
    let beyond = none_of test procs n (omega (arith, first)) absent in
    let within = within_list test procs in
    elim (cases_lt (length procs) 62) as (λ _. letter n ≡ letter (position_or_len test procs)) [
      | inl few ↦ (let same : n ≡ position_or_len test procs = omega (arith, few, first, beyond, within) in ap letter same)
      | inr many ↦ plus_from n (omega (arith, many, first)) ∙ sym (plus_from (position_or_len test procs) (omega (arith, many, first, beyond)))
    ]

-- where the first of them that passes is, or that none does
found_first : (test : ProcId → Bool) (procs : List ProcId) (i : ℕ) → position test procs ≡ Some i → (position_or_len test procs ≡ i) × (i < length procs)
found_first test procs i is =
    elim (cases_lt (position_or_len test procs) (length procs)) as (λ _. (position_or_len test procs ≡ i) × (i < length procs)) [
      | inl less ↦
          (let whole : Some (position_or_len test procs) ≡ Some i = sym (ap (λ (b : Bool). cond b (Some (position_or_len test procs)) None) (lt-ltb (position_or_len test procs) (length procs) less)) ∙ is in
          let same = numbers_same (position_or_len test procs) i whole in
          (same, omega (arith, same, less)))
      | inr more ↦
          (let whole : None ≡ Some i = sym (ap (λ (b : Bool). cond b (Some (position_or_len test procs)) None) (le-ltb (position_or_len test procs) (length procs) more)) ∙ is in
          absurd cc)
    ]
  where
    numbers_same : (a b : ℕ) → Some a ≡ Some b → a ≡ b
    numbers_same a b e = cc

none_found : (test : ProcId → Bool) (procs : List ProcId) → position test procs ≡ None → length procs ≤ position_or_len test procs
none_found test procs is =
    elim (cases_lt (position_or_len test procs) (length procs)) as (λ _. length procs ≤ position_or_len test procs) [
      | inl less ↦
          (let whole : Some (position_or_len test procs) ≡ None = sym (ap (λ (b : Bool). cond b (Some (position_or_len test procs)) None) (lt-ltb (position_or_len test procs) (length procs) less)) ∙ is in
          absurd cc)
      | inr more ↦ more
    ]

pub letter_some : (test : ProcId → Bool) (procs : List ProcId) (n i : ℕ) → n ≤ length procs → position test (take n procs) ≡ Some i → letter i ≡ letter (position_or_len test procs)
letter_some test procs n i few is =
    let found = found_first test (take n procs) i is in
    let first = found.0 in
    let within = found.1 in
    let long = length-take-le n procs few in
    letter_found test procs n i few (omega (arith, within, long)) first

pub letter_none : (test : ProcId → Bool) (procs : List ProcId) (n : ℕ) → n ≡ min (length procs) 62 → position test (take n procs) ≡ None → letter n ≡ letter (position_or_len test procs)
letter_none test procs n first is =
    let beyond = none_found test (take n procs) is in
    let long = length-take-le n procs (omega (arith, first)) in
    letter_absent test procs n first (omega (arith, beyond, long))
