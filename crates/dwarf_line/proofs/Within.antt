-- The program of a table lies within the bytes of its section.
use Rattle.std.proofs.Common.{◌≡◌, ◌+◌, ◌==◌, ◌||◌, ◌&&◌, ◌≤◌, ℕ, Bool, true, false, List, length, Option, Some, None, Result, Ok, Err, refl, ap, ◌∙◌, arith}
use Rattle.std.proofs.lemmas.List.{length-take}
use Rattle.std.specs.Prelude.{if◌then◌else◌, nat_le, nat_lt}
use Rattle.prof_bytes.specs.Number.{number_at}
use Rattle.prof_bytes.specs.Reading.{left_of, bytes_at, up_to, moved}
use Rattle.prof_bytes.specs.Fields.{Input, taken, number_from, part_from}
use Rattle.prof_bytes.specs.Outcome.{◌>>=◌}
use Rattle.dwarf_forms.specs.Sections.{input_at}
use Rattle.dwarf_line.specs.declared.fault.LineFault.{LineFault}
use Rattle.dwarf_line.specs.Names.{Texts, checked, names_from}
use Rattle.dwarf_line.specs.Headers.{Header, is_flat, line_encoding_from, header5_from, header_by_version, header_from}

abbrev In : Type 0
In = Input LineFault

-- the program of a header has at most so many bytes
abbrev pub Below : ℕ → Result Header LineFault → Type 0
Below n (Ok header) = length header.program.at.whole ≤ n
Below n (Err f) = Unit {0}

abbrev pub BelowSome : ℕ → Result (Option Header) LineFault → Type 0
BelowSome n (Ok (Some header)) = length header.program.at.whole ≤ n
BelowSome n (Ok None) = Unit {0}
BelowSome n (Err f) = Unit {0}

-- a field is read, and then what is of the same bytes
taken_below : {X : Type 0} (n : ℕ) (input : In) (o : Option (X × ℕ)) (next : X × In → Result Header LineFault)
    → ((x : X) (after : In) → after.at.whole ≡ input.at.whole → Below n (next (x, after))) → Below n (taken input o >>= next)
taken_below n input None next each = tt
taken_below n input (Some r) next each = each r.0 _ refl

read_below : {X : Type 0} (n : ℕ) (read : Result X LineFault) (next : X → Result Header LineFault) → ((x : X) → Below n (next x)) → Below n (read >>= next)
read_below n (Ok x) next each = each x
read_below n (Err f) next each = tt

checked_below : (n : ℕ) (rule : Bool) (input : In) (next : In → Result Header LineFault) → Below n (next input) → Below n (checked rule input >>= next)
checked_below n true input next q = q
checked_below n false input next q = tt

small : (n : ℕ) (one other : In) → one.at.whole ≡ other.at.whole → length other.at.whole ≤ n → length one.at.whole ≤ n
small n one other e le = let k : length one.at.whole ≡ length other.at.whole = ap length e in omega arith

version5_below : (n : ℕ) (texts : Texts) (input : In) → length input.at.whole ≤ n → Below n (header5_from texts input)
unfolding header5_from
version5_below n texts input le =
    taken_below n input (number_at 1 (left_of input.at)) _ (λ address_size a ea.
    taken_below n a (number_at 1 (left_of a.at)) _ (λ selector_size b eb.
    taken_below n b (number_at 4 (left_of b.at)) _ (λ header_length d ed.
    checked_below n (is_flat address_size selector_size) d _
    (taken_below n d (bytes_at header_length (left_of d.at)) _ (λ rest program ep.
    read_below n (line_encoding_from d) _ (λ encoding.
    read_below n (names_from texts encoding.1) _ (λ directories.
    read_below n (names_from texts directories.1) _ (λ file_names.
    small n program input (ep ∙ ed ∙ eb ∙ ea) le))))))))

some_below : (n : ℕ) (read : Result Header LineFault) → Below n read → BelowSome n (read >>= (λ header. Ok (Some header)))
some_below n (Ok header) q = q
some_below n (Err f) q = tt

if_below : (n : ℕ) (b : Bool) (one other : Result (Option Header) LineFault) → BelowSome n one → BelowSome n other → BelowSome n (if b then one else other)
if_below n true one other p q = p
if_below n false one other p q = q

version_below : (n : ℕ) (texts : Texts) (version : ℕ) (input : In) → length input.at.whole ≤ n → BelowSome n (header_by_version texts version input)
version_below n texts version input le =
    if_below n (version == 5) _ _ (some_below n (header5_from texts input) (version5_below n texts input le))
    (if_below n (nat_le 2 version && nat_le version 4) (Ok None) (Err input.missing) tt tt)

abbrev PartBelow : ℕ → Result (In × In) LineFault → Type 0
PartBelow n (Ok parts) = length parts.0.at.whole ≤ n
PartBelow n (Err f) = Unit {0}

abbrev Size : Type 0
Size = Result (ℕ × In) LineFault

abbrev parts_of : Size → Result (In × In) LineFault
parts_of read = read >>= (λ r. Ok (record r.1 { at = up_to (r.1.at.offset + r.0) r.1.at }, record r.1 { at = moved r.0 r.1.at }))

abbrev if_fits : Bool → LineFault → ℕ × In → Size
if_fits b fault r = if b then Err fault else Ok (r.0, r.1)

fits_below : (n : ℕ) (b : Bool) (fault : LineFault) (r : ℕ × In) → length r.1.at.whole ≤ n → PartBelow n (parts_of (if_fits b fault r))
fits_below n true fault r le = tt
fits_below n false fault r le = let t = length-take (r.1.at.offset + r.0) r.1.at.whole in omega arith

abbrev size_of : In → Size → Size
size_of input read = read >>= (λ r. if_fits (nat_le 0xfffffff0 r.0 || nat_lt (length (left_of r.1.at)) r.0) input.missing r)

part_by : (input : In) (o : Option (ℕ × ℕ)) → PartBelow (length input.at.whole) (parts_of (size_of input (taken input o)))
part_by input None = tt
part_by input (Some r) = fits_below (length input.at.whole) _ input.missing _ (omega arith)

part_below : (input : In) → PartBelow (length input.at.whole) (part_from input)
part_below input = part_by input (number_at 4 (left_of input.at))

header_by : (n : ℕ) (texts : Texts) (read : Result (In × In) LineFault) → PartBelow n read
    → BelowSome n (read >>= (λ parts. number_from 2 parts.0 >>= (λ version. header_by_version texts version.0 version.1)))
header_by n texts (Err f) q = tt
header_by n texts (Ok parts) q = versioned (number_at 2 (left_of parts.0.at))
  where
    versioned : (o : Option (ℕ × ℕ)) → BelowSome n (taken parts.0 o >>= (λ version. header_by_version texts version.0 version.1))
    versioned None = tt
    versioned (Some r) = version_below n texts r.0 _ q

below_is : (n : ℕ) (header : Header) (read : Result (Option Header) LineFault) → BelowSome n read → read ≡ Ok (Some header) → length header.program.at.whole ≤ n
below_is n header read q e = rw e at q

pub program_below : (texts : Texts) (input : Input LineFault) (header : Header) → header_from texts input ≡ Ok (Some header) → length header.program.at.whole ≤ length input.at.whole
unfolding header_from
program_below texts input header e =
    below_is (length input.at.whole) header _ (header_by (length input.at.whole) texts (part_from input) (part_below input)) e

-- an input at an offset of a section is of its bytes
input_by : (b : Bool) (one two input : Input LineFault) (fault : LineFault) → one.at.whole ≡ two.at.whole → Ok input ≡ (let read : Result In LineFault = if b then Ok one else Err fault in read) → input.at.whole ≡ two.at.whole
input_by true one two input fault same e = let q : input ≡ one = cc in ap (λ (i : In). i.at.whole) q ∙ same
input_by false one two input fault same e = absurd cc

pub input_whole : (section : List ℕ) (offset : ℕ) (missing : LineFault) (input : Input LineFault) → Ok input ≡ input_at section offset missing → input.at.whole ≡ section
input_whole section offset missing input e =
    let one : In = record { at = record { whole = section; offset = offset }; missing = missing } in
    input_by (nat_le offset (length section)) one one input missing refl e
