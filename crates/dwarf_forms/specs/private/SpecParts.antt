-- What is kept of the attributes of a declaration beside them.
use Rattle.std.specs.Prelude.{◌≡◌, ◌==◌, ◌+◌, ◌-◌, ℕ, List, length, drop, Option, Some, None, position, slice_get}
use Rattle.dwarf_forms.specs.declared.declaration.Spec.{Spec}
use Rattle.dwarf_forms.specs.declared.fronts.FixedFront.{FixedFront}
use Rattle.dwarf_forms.specs.Sizes.{IsFixedFront}

-- the front of the last attributes, for each number of them
abbrev pub AreFixedFronts : List Spec → List FixedFront → Type 0
AreFixedFronts specs fronts = (count : ℕ) (front : FixedFront) → slice_get fronts count ≡ Some front
    → IsFixedFront (drop (length specs - count) specs) front

-- an index and one; 0 for none
abbrev pub after_index : Option ℕ → ℕ
after_index None = 0
after_index (Some index) = index + 1

-- for each code one more than the index of the first attribute with it
abbrev pub AreFirsts : List Spec → List ℕ → Type 0
AreFirsts specs firsts = (code first : ℕ) → slice_get firsts code ≡ Some first
    → first ≡ after_index (position (λ spec. spec.attribute == code) specs)

-- the fronts and the first attributes are those of the declaration
pub record IsSpecIndex (specs : List Spec) (fronts : List FixedFront) (firsts : List ℕ) : Type 0 where
  pub fronts_are : AreFixedFronts specs fronts
  pub firsts_are : AreFirsts specs firsts
