-- Values whose forms say their size are passed in one step.
use Rattle.std.proofs.Common.{◌≡◌, ℕ, ◌+◌, inl, inr, List, [], ◌∷◌, length, Some, Result, Ok, Err, refl, sym, ap, ◌∙◌, arith}
use Rattle.std.proofs.lemmas.Bool.{cases_lt}
use Rattle.std.proofs.lemmas.Option.{same_Some}
use Rattle.prof_bytes.specs.Fields.{Input, bytes_from}
use Rattle.prof_bytes.specs.Outcome.{◌>>=◌}
use Rattle.prof_bytes.specs.Reading.{left_of, moved}
use Rattle.dwarf_forms.specs.declared.declaration.Spec.{Spec}
use Rattle.dwarf_forms.specs.Values.{FormValue, value_from}
use Rattle.dwarf_forms.specs.Sizes.{form_size, fixed_size, passed_by}
use Rattle.dwarf_forms.proofs.FixedSizes.{Parts, parts, few_left, some_left, none_passed, passed_twice, value_passed}
use Rattle.dwarf_info.specs.Values.{passed_from}

then_passed : {F : Type 0} (unknown : F) (specs : List Spec) (read : Result (FormValue × Input F) F)
    → (read >>= (λ r. passed_from unknown specs r.1)) ≡ (passed_by read >>= (λ r. passed_from unknown specs r.1))
then_passed unknown specs (Ok r) = refl
then_passed unknown specs (Err fault) = refl

then_others : {F : Type 0} (unknown : F) (specs : List Spec) (front back count : ℕ) (input : Input F) → front + back ≡ count
    → ((after : Input F) → passed_from unknown specs after ≡ passed_by (bytes_from back after))
    → (passed_by (bytes_from front input) >>= (λ r. passed_from unknown specs r.1)) ≡ passed_by (bytes_from count input)
then_others {F = F} unknown specs front back count input sum rest =
    let next : Result (Unit {0} × Input F) F → Result (Unit {0} × Input F) F = λ read. read >>= (λ r. passed_from unknown specs r.1) in
    elim (cases_lt (length (left_of input.at)) front) [
      | inl lt ↦ ap (λ r. next (passed_by r)) (few_left front input lt) ∙ sym (ap passed_by (few_left count input (omega arith)))
      | inr ge ↦
          ap (λ r. next (passed_by r)) (some_left front input ge) ∙ rest (record input { at = moved front input.at }) ∙ passed_twice front back input ge
          ∙ ap (λ (n : ℕ). passed_by (bytes_from n input)) sum
    ]

pub passed_fixed : {F : Type 0} (unknown : F) (specs : List Spec) (count : ℕ) (input : Input F) → fixed_size specs ≡ Some count
    → passed_from unknown specs input ≡ passed_by (bytes_from count input)
unfolding passed_from
passed_fixed unknown [] count input is = none_passed input ∙ ap (λ (n : ℕ). passed_by (bytes_from n input)) (same_Some 0 count is)
passed_fixed {F = F} unknown (spec ∷ specs) count input is =
    let p : Parts (form_size spec.form) (fixed_size specs) count = parts (form_size spec.form) (fixed_size specs) count is in
    let next : Result (Unit {0} × Input F) F → Result (Unit {0} × Input F) F = λ read. read >>= (λ r. passed_from unknown specs r.1) in
    then_passed unknown specs (value_from unknown spec.form spec.implicit input)
    ∙ ap next (value_passed unknown spec.form spec.implicit p.front input p.front_is)
    ∙ then_others unknown specs p.front p.back count input p.sum (λ after. passed_fixed unknown specs p.back after p.back_is)
