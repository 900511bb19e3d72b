-- The first declaration of a code, in a table that is not kept.
use Rattle.std.proofs.Common.{◌≡◌, ◌==◌, ◌<◌, ◌≤◌, ◌+◌, ◌-◌, inl, inr, ℕ, suc, Bool, true, false, cond, List, [], ◌∷◌, ◌++◌, length, Option, Some, None, Result, Ok, Err, refl, sym, ap, ◌∙◌, subst, arith}
use Rattle.std.specs.Prelude.{option_map, slice_get}
use Rattle.std.specs.List.{All}
use Rattle.std.proofs.lemmas.Bool.{eqb-true, cases_lt}
use Rattle.std.proofs.lemmas.Option.{same_Some, slice_get_past, slice_get-get_or}
use Rattle.std.proofs.lemmas.List.Elements.{All-get_or, All-push}
use Rattle.prof_bytes.specs.Fields.{Input}
use Rattle.prof_bytes.specs.Outcome.{◌>>=◌}
use Rattle.dwarf_forms.specs.declared.declaration.Abbrev.{Abbrev}
use Rattle.dwarf_forms.specs.declared.declaration.Spec.{Spec}
use Rattle.dwarf_forms.specs.declared.declaration.BadTable.{BadTable}
use Rattle.dwarf_forms.specs.Lists.{list_from, with_first}
use Rattle.dwarf_forms.specs.Abbreviations.{table_at, code_at, specs_at, attribute_from, attributes_from, offset_of_code}
use Rattle.dwarf_forms.proofs.OneDeclaration.{IsDeclared, is_declared}
use Rattle.dwarf_info.specs.declared.code_list.CodeAt.{CodeAt}
use Rattle.dwarf_info.specs.Units.{or_none}
use Rattle.dwarf_info.specs.Values.{declaration_of}
use Rattle.dwarf_info.specs.private.CodeLists.{IsFirst, AreCodes, declared_offset}

-- ---- elements

pub all_at : {X : Type 0} (P : X → Type 0) (xs : List X) (i : ℕ) (x : X) → All P xs → slice_get xs i ≡ Some x → P x
all_at {X = X} P xs i x all e = elim (cases_lt i (length xs)) [
  | inl lt ↦ subst P (same_Some _ x (sym (slice_get-get_or xs i x lt) ∙ e)) (All-get_or P xs i x lt all)
  | inr le ↦ let none = slice_get_past xs i le in absurd cc
]

-- ---- codes

pub found_code : (code : ℕ) (d : Abbrev) (table : List Abbrev) → declaration_of table code ≡ Some d → d.code ≡ code
found_code code d [] e = absurd cc
found_code code d (first ∷ others) e = by (first.code == code) refl e (λ there. found_code code d others there)
  where
    by : (here : Bool) → (first.code == code) ≡ here → cond here (Some first) (declaration_of others code) ≡ Some d → (declaration_of others code ≡ Some d → d.code ≡ code) → d.code ≡ code
    by true at same again = sym (ap (λ (x : Abbrev). x.code) (same_Some first d same)) ∙ eqb-true first.code code at
    by false at there again = again there

abbrev number_or : ℕ → Result ℕ BadTable → ℕ
number_or other (Ok n) = n
number_or other (Err fault) = other

-- an offset of a list at which a code is declared is that of the code's first declaration
pub listed_offset : (section : List ℕ) (start offset code : ℕ) → IsFirst section start offset → code_at section offset ≡ Ok code → Some offset ≡ declared_offset section start code
listed_offset section start offset code f at =
    let is : IsDeclared section f.declared = is_declared section start f.code f.table f.declared f.read f.first in
    let there : code_at section offset ≡ Ok f.declared.code = subst (λ (n : ℕ). code_at section n ≡ Ok f.declared.code) f.here is.code in
    let same : code ≡ f.declared.code = ap (number_or code) (sym at ∙ there) in
    let code_is : f.declared.code ≡ f.code = found_code f.code f.declared f.table f.first in
    let whole : or_none (table_at section start) ≡ f.table = ap (λ (r : Result (List Abbrev) BadTable). or_none r) f.read in
    sym (ap (offset_of_code code) whole ∙ ap (λ (n : ℕ). offset_of_code n f.table) (same ∙ code_is) ∙ ap (option_map (λ (d : Abbrev). d.offset)) f.first
    ∙ ap (λ (n : ℕ). let o : Option ℕ = Some n in o) f.here)

-- the declaration at an offset that was found
pub record IsFound (section : List ℕ) (start code offset : ℕ) : Type 0 where
  pub declared : Abbrev
  pub first : declaration_of (or_none (table_at section start)) code ≡ Some declared
  pub input : Input BadTable
  pub end : Input BadTable
  pub specs : specs_at section offset ≡ Ok input
  pub attributes : attributes_from input ≡ Ok (declared.specs, end)

pub found_at : (section : List ℕ) (start code offset : ℕ) → Some offset ≡ declared_offset section start code → IsFound section start code offset
found_at section start code offset e = by (table_at section start) refl e
  where
    one : (table : List Abbrev) → table_at section start ≡ Ok table → (found : Option Abbrev) → declaration_of table code ≡ found → Some offset ≡ option_map (λ (d : Abbrev). d.offset) found
        → IsFound section start code offset
    one table read None is same = absurd cc
    one table read (Some d) is same =
        let there : IsDeclared section d = is_declared section start code table d read is in
        let here : d.offset ≡ offset = sym (same_Some offset d.offset same) in
        record {
          declared = d;
          first = ap (λ (r : Result (List Abbrev) BadTable). declaration_of (or_none r) code) read ∙ is;
          input = there.body;
          end = there.end;
          specs = subst (λ (n : ℕ). specs_at section n ≡ Ok there.body) here there.specs;
          attributes = there.attributes;
        }

    by : (read : Result (List Abbrev) BadTable) → table_at section start ≡ read → Some offset ≡ offset_of_code code (or_none read) → IsFound section start code offset
    by (Err fault) is same = absurd cc
    by (Ok table) is same = one table is (declaration_of table code) refl same

-- ---- attributes that are read one by one

abbrev Specs : Type 0
Specs = Result (List Spec × Input BadTable) BadTable

abbrev One : Type 0
One = Result (Option Spec × Input BadTable) BadTable

abbrev before_specs : Spec → Specs → Specs
before_specs s rest = rest >>= (λ (ds, last). Ok (s ∷ ds, last))

abbrev specs_in : Specs → List Spec
specs_in (Ok r) = r.0
specs_in (Err fault) = []

abbrev end_or : Input BadTable → Specs → Input BadTable
end_or other (Ok r) = r.1
end_or other (Err fault) = other

abbrev pub read_specs : List Spec → Input BadTable → Specs
read_specs specs end = Ok (specs, end)

split_specs : (s : Spec) (rest : List Spec) (end : Input BadTable) (read : Specs) → before_specs s read ≡ read_specs rest end → (others : List Spec) × (rest ≡ s ∷ others) × (read ≡ read_specs others end)
split_specs s rest end (Err fault) e = absurd cc
split_specs s rest end (Ok r) e = (r.0, sym (ap specs_in e), ap (λ (i : Input BadTable). read_specs r.0 i) (ap (end_or end) e))

pub one_spec : (k : ℕ) (input after end : Input BadTable) (s : Spec) (rest : List Spec) → attribute_from input ≡ Ok (Some s, after) → list_from attribute_from (suc k) input ≡ read_specs rest end
    → (others : List Spec) × (rest ≡ s ∷ others) × (list_from attribute_from k after ≡ read_specs others end)
unfolding list_from
one_spec k input after end s rest read all =
    split_specs s rest end (list_from attribute_from k after) (sym (ap (λ (r : One). r >>= (λ (first, after). with_first first after (list_from attribute_from k))) read) ∙ all)

pub no_spec : (k : ℕ) (input after end : Input BadTable) (rest : List Spec) → attribute_from input ≡ Ok (None, after) → list_from attribute_from (suc k) input ≡ read_specs rest end → rest ≡ []
unfolding list_from
no_spec k input after end rest read all =
    sym (ap specs_in (sym (ap (λ (r : One). r >>= (λ (first, after). with_first first after (list_from attribute_from k))) read) ∙ all))

abbrev is_specs : Specs → Bool
is_specs (Ok r) = true
is_specs (Err fault) = false

pub not_bad : (k : ℕ) (input end : Input BadTable) (rest : List Spec) (fault : BadTable) → attribute_from input ≡ Err fault → list_from attribute_from (suc k) input ≡ read_specs rest end → false ≡ true
unfolding list_from
not_bad k input end rest fault read all =
    ap is_specs (sym (ap (λ (r : One). r >>= (λ (first, after). with_first first after (list_from attribute_from k))) read) ∙ all)

pub not_out : (input end : Input BadTable) (rest : List Spec) → list_from attribute_from 0 input ≡ read_specs rest end → false ≡ true
unfolding list_from
not_out input end rest all = ap is_specs all

-- ---- lists of codes

pub pushed : (section : List ℕ) (start code : ℕ) (table : List Abbrev) (d : Abbrev) (codes : List CodeAt) (c : CodeAt) → table_at section start ≡ Ok table → declaration_of table code ≡ Some d
    → d.offset ≡ c.offset → AreCodes section start codes → AreCodes section start (codes ++ c ∷ [])
pushed section start code table d codes c read first here all = All-push (λ (x : CodeAt). IsFirst section start x.offset) codes c all (record { table = table; code = code; declared = d; read = read; first = first; here = here })

-- ---- the attribute that a loop reads next

pub next_spec : (room i : ℕ) (input after end : Input BadTable) (s : Spec) (rest : List Spec) → i < room → attribute_from input ≡ Ok (Some s, after) → list_from attribute_from (room - i) input ≡ read_specs rest end
    → (others : List Spec) × (rest ≡ s ∷ others) × (list_from attribute_from (room - (i + 1)) after ≡ read_specs others end)
next_spec room i input after end s rest lt read all =
    let k : room - i ≡ suc (room - (i + 1)) = omega arith in
    one_spec (room - (i + 1)) input after end s rest read (ap (λ (n : ℕ). list_from attribute_from n input) (sym k) ∙ all)

pub last_spec : (room i : ℕ) (input after end : Input BadTable) (rest : List Spec) → i < room → attribute_from input ≡ Ok (None, after) → list_from attribute_from (room - i) input ≡ read_specs rest end → rest ≡ []
last_spec room i input after end rest lt read all =
    let k : room - i ≡ suc (room - (i + 1)) = omega arith in
    no_spec (room - (i + 1)) input after end rest read (ap (λ (n : ℕ). list_from attribute_from n input) (sym k) ∙ all)

pub bad_spec : (room i : ℕ) (input end : Input BadTable) (rest : List Spec) (fault : BadTable) → i < room → attribute_from input ≡ Err fault → list_from attribute_from (room - i) input ≡ read_specs rest end → false ≡ true
bad_spec room i input end rest fault lt read all =
    let k : room - i ≡ suc (room - (i + 1)) = omega arith in
    not_bad (room - (i + 1)) input end rest fault read (ap (λ (n : ℕ). list_from attribute_from n input) (sym k) ∙ all)

pub out_of_specs : (room i : ℕ) (input end : Input BadTable) (rest : List Spec) → room ≤ i → list_from attribute_from (room - i) input ≡ read_specs rest end → false ≡ true
out_of_specs room i input end rest le all =
    let k : room - i ≡ 0 = omega arith in
    not_out input end rest (ap (λ (n : ℕ). list_from attribute_from n input) (sym k) ∙ all)
