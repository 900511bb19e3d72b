-- The number of bytes of values whose forms fix it. DWARF 5, sections 7.5.5 and 7.5.6.
use Rattle.std.specs.Prelude.{◌≡◌, ℕ, ◌+◌, ◌^◌, ◌≤◌, List, [], ◌∷◌, length, take, Option, Some, None, option_map}
use Rattle.std.specs.Prelude.{option_and_then, Result, Ok, Err, if◌then◌else◌, nat_lt}
use Rattle.prof_bytes.specs.Fields.{Input}
use Rattle.dwarf_forms.specs.declared.encoding.Size.{Size}
use Rattle.dwarf_forms.specs.declared.encoding.Size.TheVariants.{One, Two, Three, Four, Eight, Uleb}
use Rattle.dwarf_forms.specs.declared.encoding.Encoding.{Encoding}
use Rattle.dwarf_forms.specs.declared.encoding.Encoding.TheVariants as encodings
use Rattle.dwarf_forms.specs.declared.declaration.Spec.{Spec}
use Rattle.dwarf_forms.specs.declared.fronts.FixedFront.{FixedFront}
use Rattle.dwarf_forms.specs.Forms.{encoding_of}

-- the number of bytes of a number; a LEB128 number has no fixed one
abbrev pub number_size : Size → Option ℕ
number_size One = Some 1
number_size Two = Some 2
number_size Three = Some 3
number_size Four = Some 4
number_size Eight = Some 8
number_size Uleb = None

-- the number of bytes of a value of an encoding, where it is the same for all
abbrev pub encoding_size : Encoding → Option ℕ
encoding_size (encodings.Word class) = Some 4
encoding_size (encodings.Number size class) = number_size size
encoding_size encodings.Sleb = None
encoding_size (encodings.Block size) = None
encoding_size encodings.Data16 = Some 16
encoding_size encodings.String = None
encoding_size encodings.FlagPresent = Some 0
encoding_size encodings.ImplicitConst = Some 0

-- the number of bytes of a value of a form, where it is the same for all
abbrev pub form_size : ℕ → Option ℕ
form_size form = option_and_then encoding_size (encoding_of form)

-- the number of bytes of all values of these attributes, where each form fixes it
abbrev pub fixed_size : List Spec → Option ℕ
fixed_size [] = Some 0
fixed_size (spec ∷ specs) =
    option_and_then (λ first. option_map (λ others. first + others) (fixed_size specs)) (form_size spec.form)

-- so many of the first of these attributes have values of so many bytes together, which their forms fix
pub record IsFixedFront (specs : List Spec) (front : FixedFront) : Type 0 where
  pub within : front.count ≤ length specs
  pub sized : fixed_size (take front.count specs) ≡ Some front.bytes

-- a number of bytes, where it has 32 bits
abbrev pub in_32_bits : Option ℕ → Option ℕ
in_32_bits None = None
in_32_bits (Some n) = if nat_lt n (2 ^ 32) then Some n else None

-- the input after a value
abbrev pub passed_by : {X F : Type 0} → Result (X × Input F) F → Result (Unit {0} × Input F) F
passed_by (Ok r) = Ok (tt, r.1)
passed_by (Err fault) = Err fault
