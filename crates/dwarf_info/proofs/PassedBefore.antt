-- Passing over the values before an index, as a loop does: those of fixed size together, and each other one by itself.
use Rattle.std.proofs.Common.{◌≡◌, ℕ, zero, suc, ◌+◌, ◌≤◌, ◌<◌, List, [], ◌∷◌, length, get_or, take, drop, Some, Result, Ok, Err, refl, sym, ap, ◌∙◌, arith}
use Rattle.std.proofs.lemmas.List.{drop_more, drop_all, drop-drop, length-take, length-drop, get_or-take}
use Rattle.prof_bytes.specs.Fields.{Input, bytes_from}
use Rattle.prof_bytes.specs.Outcome.{◌>>=◌}
use Rattle.dwarf_forms.specs.declared.declaration.Spec.{Spec}
use Rattle.dwarf_forms.specs.declared.fronts.FixedFront.{FixedFront}
use Rattle.dwarf_forms.specs.Values.{FormValue, value_from}
use Rattle.dwarf_forms.specs.Sizes.{fixed_size, passed_by, IsFixedFront}
use Rattle.dwarf_info.specs.Values.{passed_from}
use Rattle.dwarf_info.proofs.OneValue.{passed_one, stopped_at, none_passed}
use Rattle.dwarf_info.proofs.FixedValues.{passed_fixed}

-- values are passed as the first of them and then the others
split_passed : {F : Type 0} (unknown : F) (count : ℕ) (specs : List Spec) (input : Input F)
    → passed_from unknown specs input ≡ (passed_from unknown (take count specs) input >>= (λ r. passed_from unknown (drop count specs) r.1))
unfolding passed_from
split_passed unknown zero specs input = refl
split_passed unknown (suc count) [] input = refl
split_passed {F = F} unknown (suc count) (spec ∷ specs) input =
    by (value_from unknown spec.form spec.implicit input) (λ after. split_passed unknown count specs after)
  where
    by : (read : Result (FormValue × Input F) F)
        → ((after : Input F) → passed_from unknown specs after ≡ (passed_from unknown (take count specs) after >>= (λ r. passed_from unknown (drop count specs) r.1)))
        → (read >>= (λ r. passed_from unknown specs r.1)) ≡ ((read >>= (λ r. passed_from unknown (take count specs) r.1)) >>= (λ r. passed_from unknown (drop count specs) r.1))
    by (Ok r) again = again r.1
    by (Err fault) again = refl

-- the first values have so many bytes
front_passed : {F : Type 0} (unknown : F) (count bytes : ℕ) (specs : List Spec) (input : Input F) → fixed_size (take count specs) ≡ Some bytes
    → passed_from unknown specs input ≡ (passed_by (bytes_from bytes input) >>= (λ r. passed_from unknown (drop count specs) r.1))
front_passed {F = F} unknown count bytes specs input is =
    split_passed unknown count specs input
    ∙ ap (λ (r : Result (Unit {0} × Input F) F). r >>= (λ q. passed_from unknown (drop count specs) q.1)) (passed_fixed unknown (take count specs) bytes input is)

after_front : {F : Type 0} (unknown : F) (count bytes : ℕ) (specs : List Spec) (u : Unit {0}) (was after : Input F) → fixed_size (take count specs) ≡ Some bytes
    → passed_by (bytes_from bytes was) ≡ Ok (u, after) → passed_from unknown specs was ≡ passed_from unknown (drop count specs) after
after_front {F = F} unknown count bytes specs u was after is read =
    front_passed unknown count bytes specs was is
    ∙ ap (λ (r : Result (Unit {0} × Input F) F). r >>= (λ q. passed_from unknown (drop count specs) q.1)) read

in_front : {F : Type 0} (unknown fault : F) (count bytes : ℕ) (specs : List Spec) (was : Input F) → fixed_size (take count specs) ≡ Some bytes
    → passed_by (bytes_from bytes was) ≡ Err fault → passed_from unknown specs was ≡ Err fault
in_front {F = F} unknown fault count bytes specs was is read =
    front_passed unknown count bytes specs was is
    ∙ ap (λ (r : Result (Unit {0} × Input F) F). r >>= (λ q. passed_from unknown (drop count specs) q.1)) read

-- the attribute with an index before another one
next_there : (specs : List Spec) (index at : ℕ) (d : Spec) → at < index → index ≤ length specs
    → drop at (take index specs) ≡ get_or specs at d ∷ drop (at + 1) (take index specs)
next_there specs index at d lt le =
    drop_more (take index specs) at d (omega (arith, length-take index specs))
    ∙ ap (λ (s : Spec). s ∷ drop (at + 1) (take index specs)) (get_or-take index specs at d lt)

-- ---- steps of the loop

-- what is left to be passed at an index gives what all gives
abbrev pub IsLeft : {F : Type 0} → F → List Spec → ℕ → ℕ → Input F → Result (Unit {0} × Input F) F → Type 0
IsLeft unknown specs index at input whole = passed_from unknown (drop at (take index specs)) input ≡ whole

-- a front ends at the index or before it
pub front_end : (specs : List Spec) (index at : ℕ) (front : FixedFront) → IsFixedFront (drop at (take index specs)) front → at ≤ index → at + front.count ≤ index
front_end specs index at front is le =
    let w : front.count ≤ length (drop at (take index specs)) = is.within in
    omega (arith, length-drop at (take index specs), length-take index specs)

behind_front : {F : Type 0} (unknown : F) (specs : List Spec) (index at : ℕ) (front : FixedFront) (u : Unit {0}) (was after : Input F) (whole : Result (Unit {0} × Input F) F)
    → IsFixedFront (drop at (take index specs)) front → passed_by (bytes_from front.bytes was) ≡ Ok (u, after) → IsLeft unknown specs index at was whole
    → IsLeft unknown specs index (at + front.count) after whole
behind_front {F = F} unknown specs index at front u was after whole is read left =
    ap (λ (xs : List Spec). passed_from unknown xs after) (sym (drop-drop front.count at (take index specs)))
    ∙ sym (after_front unknown front.count front.bytes (drop at (take index specs)) u was after is.sized read) ∙ left

pub bad_front : {F : Type 0} (unknown fault : F) (specs : List Spec) (index at : ℕ) (front : FixedFront) (was : Input F) (whole : Result (Unit {0} × Input F) F)
    → IsFixedFront (drop at (take index specs)) front → passed_by (bytes_from front.bytes was) ≡ Err fault → IsLeft unknown specs index at was whole → whole ≡ Err fault
bad_front unknown fault specs index at front was whole is read left =
    sym left ∙ in_front unknown fault front.count front.bytes (drop at (take index specs)) was is.sized read

-- once the index is reached all is passed
pub all_passed : {F : Type 0} (unknown : F) (specs : List Spec) (index at : ℕ) (was : Input F) (whole : Result (Unit {0} × Input F) F)
    → index ≤ at → IsLeft unknown specs index at was whole → whole ≡ Ok (tt, was)
all_passed unknown specs index at was whole le left =
    sym left ∙ ap (λ (xs : List Spec). passed_from unknown xs was) (drop_all at (take index specs) (omega (arith, length-take index specs))) ∙ none_passed unknown was

pub front_last : {F : Type 0} (unknown : F) (specs : List Spec) (index at : ℕ) (front : FixedFront) (u : Unit {0}) (was after : Input F) (whole : Result (Unit {0} × Input F) F)
    → IsFixedFront (drop at (take index specs)) front → passed_by (bytes_from front.bytes was) ≡ Ok (u, after) → at + front.count ≡ index → IsLeft unknown specs index at was whole
    → whole ≡ Ok (tt, after)
front_last unknown specs index at front u was after whole is read end left =
    all_passed unknown specs index (at + front.count) after whole (omega arith) (behind_front unknown specs index at front u was after whole is read left)

-- a front, and the value behind it
pub one_step : {F : Type 0} (unknown : F) (specs : List Spec) (index at : ℕ) (front : FixedFront) (u : Unit {0}) (d : Spec) (value : FormValue) (was mid after : Input F)
    (whole : Result (Unit {0} × Input F) F) → IsFixedFront (drop at (take index specs)) front → passed_by (bytes_from front.bytes was) ≡ Ok (u, mid)
    → at + front.count < index → index ≤ length specs
    → value_from unknown (get_or specs (at + front.count) d).form (get_or specs (at + front.count) d).implicit mid ≡ Ok (value, after)
    → IsLeft unknown specs index at was whole → IsLeft unknown specs index (at + front.count + 1) after whole
one_step unknown specs index at front u d value was mid after whole is read lt le one left =
    sym (passed_one unknown (get_or specs (at + front.count) d) (drop (at + front.count + 1) (take index specs)) value mid after one)
    ∙ ap (λ (xs : List Spec). passed_from unknown xs mid) (sym (next_there specs index (at + front.count) d lt le))
    ∙ behind_front unknown specs index at front u was mid whole is read left

pub bad_value : {F : Type 0} (unknown fault : F) (specs : List Spec) (index at : ℕ) (front : FixedFront) (u : Unit {0}) (d : Spec) (was mid : Input F)
    (whole : Result (Unit {0} × Input F) F) → IsFixedFront (drop at (take index specs)) front → passed_by (bytes_from front.bytes was) ≡ Ok (u, mid)
    → at + front.count < index → index ≤ length specs
    → value_from unknown (get_or specs (at + front.count) d).form (get_or specs (at + front.count) d).implicit mid ≡ Err fault
    → IsLeft unknown specs index at was whole → whole ≡ Err fault
bad_value unknown fault specs index at front u d was mid whole is read lt le one left =
    sym (behind_front unknown specs index at front u was mid whole is read left)
    ∙ ap (λ (xs : List Spec). passed_from unknown xs mid) (next_there specs index (at + front.count) d lt le)
    ∙ stopped_at unknown fault (get_or specs (at + front.count) d) (drop (at + front.count + 1) (take index specs)) mid one
