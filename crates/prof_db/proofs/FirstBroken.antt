-- The first of many things that is broken.
use Rattle.std.proofs.Common.{◌≡◌, ℕ, zero, suc, ap, inl, inr, ◌-◌, ◌+◌, ◌≤◌, ◌<◌, Bool, true, false, Ok, Err, sym, ◌∙◌, refl, arith}
use Rattle.std.proofs.lemmas.Bool.{cases_eq}
use Rattle.prof_bytes.proofs.Outcomes.{guard_ok}
use Rattle.prof_db.specs.Broken.{RuleCheck, first_broken}
use Rattle.prof_db.specs.Fields.{fault}

-- one more is not broken
pub passes_on : (rule : ℕ) (is_broken : ℕ → Bool) (offset : ℕ → ℕ) (n i : ℕ) (total : RuleCheck)
    → i < n → is_broken i ≡ false → first_broken rule is_broken offset i (n - i) ≡ total → first_broken rule is_broken offset (i + 1) (n - (i + 1)) ≡ total
unfolding first_broken
passes_on rule is_broken offset n i total lt whole so_far =
    let k : n - i ≡ suc (n - (i + 1)) = omega arith in
    let one : first_broken rule is_broken offset i (n - i) ≡ first_broken rule is_broken offset (i + 1) (n - (i + 1)) = rw (k, whole) refl in
    sym one ∙ so_far

-- one is broken
pub breaks_at : (rule : ℕ) (is_broken : ℕ → Bool) (offset : ℕ → ℕ) (n i : ℕ) (total : RuleCheck)
    → i < n → is_broken i ≡ true → first_broken rule is_broken offset i (n - i) ≡ total → total ≡ Err (fault rule (offset i))
unfolding first_broken
breaks_at rule is_broken offset n i total lt broken so_far =
    let k : n - i ≡ suc (n - (i + 1)) = omega arith in
    let one : first_broken rule is_broken offset i (n - i) ≡ Err (fault rule (offset i)) = rw (k, broken) refl in
    sym so_far ∙ one

-- none is
pub all_pass : (rule : ℕ) (is_broken : ℕ → Bool) (offset : ℕ → ℕ) (n i : ℕ) (total : RuleCheck)
    → n ≤ i → first_broken rule is_broken offset i (n - i) ≡ total → total ≡ Ok tt
unfolding first_broken
all_pass rule is_broken offset n i total le so_far =
    let k : n - i ≡ 0 = omega arith in
    let one : first_broken rule is_broken offset i (n - i) ≡ Ok tt = rw k refl in
    sym so_far ∙ one

-- where nothing is broken, no place is
pub none_broken : (rule : ℕ) (is_broken : ℕ → Bool) (offset : ℕ → ℕ) (i n k : ℕ)
    → first_broken rule is_broken offset i n ≡ Ok tt → i ≤ k → k < i + n → is_broken k ≡ false
unfolding first_broken
none_broken rule is_broken offset i zero k kept le lt = absurd (omega arith)
none_broken rule is_broken offset i (suc n) k kept le lt =
    let first = guard_ok (is_broken i) (fault rule (offset i)) (first_broken rule is_broken offset (i + 1) n) tt kept in
    elim (cases_eq k i) [
      | inl same ↦ ap is_broken same ∙ first.0
      | inr apart ↦ none_broken rule is_broken offset (i + 1) n k first.1 (omega arith) (omega arith)
    ]
