-- The call frame information of a guest is read without a fault.
use Rattle.std.proofs.Common.{◌≡◌, ℕ, zero, suc, ◌+◌, ◌-◌, ◌==◌, nat_lt, true, false, cond, List, [], ◌∷◌, ◌++◌, length, map, take, drop, Option, Some, None, Result, Ok, Err, IsOk, is_ok, refl, sym, ap, subst, ◌∙◌, append_assoc, arith, length-append}
use Rattle.std.specs.List.{flat_map, list_all, range_with_len}
use Rattle.std.proofs.Math.Seq.{drop-append-add, take-append-add}
use Rattle.std.proofs.lemmas.Bool.{and_from, and_parts}
use Rattle.std.proofs.lemmas.Bool.Decides.{nat_tests}
use Rattle.std.proofs.lemmas.List.Folds.{list_all-append}
use Rattle.prof_bytes.specs.Number.{number_at, number_in, word}
use Rattle.prof_bytes.specs.Outcome.{◌>>=◌, viewed}
use Rattle.prof_bytes.specs.Reading.{left_of}
use Rattle.prof_bytes.specs.Fields.{Input, number_from, taken}
use Rattle.elf_image.specs.declared.part.Segment.{Segment}
use Rattle.cfi_table.specs.declared.constants.TheConstants.{DW_CIE_ID}
use Rattle.cfi_table.specs.declared.extent.Extent.{Extent}
use Rattle.cfi_table.specs.declared.cie.Cie.{Cie}
use Rattle.cfi_table.specs.declared.fde.Fde.{Fde}
use Rattle.cfi_table.specs.declared.fault.FrameFault.{FrameFault}
use Rattle.cfi_table.specs.Instructions.{Reading, instruction_after_opcode, instruction_from, extended_from, cfa_from, offset_from}
use Rattle.cfi_table.specs.Rules.{FrameState, run_by}
use Rattle.cfi_table.specs.Entries.{after_cie, at_end, body_of, chain_from, checked_cie, checked_fde, cie_at, cie_from, cie_from_augmentation, cie_from_factors, cie_from_sizes, cie_of, continued, entries_of, extents_of, factors_from, fde_by, fde_fields_from, fde_of, fde_with, instructions_of, is_cie, read_entry}
use Rattle.cfi_table.specs.Frames.{FrameDescription, all_ok, descriptions, descriptions_of, frames_of}
use Rattle.eh_frame.specs.declared.both.SectionFault.{SectionFault}
use Rattle.eh_frame.specs.Descriptions.{descriptions_of_both, in_debug_frame, in_eh_frame, eh_descriptions_of}
use Rattle.eh_frame.specs.Entries.{eh_entries}
use Rattle.eh_frame.proofs.ReadBack.{behind, drop_on, on}
use Rattle.guest_gen.specs.Code.{function_count, function_start}
use Rattle.guest_gen.specs.Frames.{cie, debug_frame, fde, fdes, frame_instructions}
use Rattle.guest_laws.proofs.Instructions.{all_run, guest_factors, guest_initial}

-- ---- the CIE

abbrev cie_extent : Extent
cie_extent = record { offset = 0; end = 16 }

abbrev guest_cie : Cie
guest_cie = record {
  factors = guest_factors;
  return_address_register = 1;
  initial_instructions = record { offset = 13; end = 16 };
}

cie_read : (rest : List ℕ) → cie_of (cie ++ rest) cie_extent ≡ Ok (Some guest_cie)
unfolding cie_of cie_from cie_from_augmentation cie_from_sizes cie_from_factors factors_from
cie_read rest = refl

cie_found : (rest : List ℕ) → is_cie (cie ++ rest) cie_extent ≡ true
cie_found rest = refl

cie_run : (rest : List ℕ) → after_cie (cie ++ rest) guest_cie ≡ Ok guest_initial
unfolding after_cie run_by instruction_from instruction_after_opcode extended_from cfa_from offset_from
cie_run rest = refl

-- ---- an FDE

four_read : (input : Input FrameFault) (bytes rest : List ℕ) → length bytes ≡ 4 → left_of input.at ≡ bytes ++ rest → number_from 4 input ≡ Ok (number_in 4 (bytes ++ rest), on 4 input)
four_read input bytes rest four is =
    let both = length-append bytes rest in
    let long : nat_lt (length (bytes ++ rest)) 4 ≡ false = grind (arith, nat_tests) in
    ap (λ (xs : List ℕ). taken input (number_at 4 xs)) is ∙ rw long refl

-- the fields of an FDE after its CIE_pointer
fields_read : (start : ℕ) (input : Input FrameFault) → left_of input.at ≡ word start ++ (52 ∷ 0 ∷ 0 ∷ 0 ∷ frame_instructions)
    → (fields : ℕ × ℕ) × (next : Input FrameFault) × (fde_fields_from input ≡ Ok (fields, next)) × (left_of next.at ≡ frame_instructions)
unfolding fde_fields_from
fields_read start input is =
    let tail : List ℕ = 52 ∷ 0 ∷ 0 ∷ 0 ∷ frame_instructions in
    let a : number_from 4 input ≡ Ok (number_in 4 (word start ++ tail), on 4 input) = four_read input (word start) tail refl is in
    let left : left_of (on 4 input).at ≡ tail = behind input (word start) tail is in
    let b : number_from 4 (on 4 input) ≡ Ok (52, on 4 (on 4 input)) = four_read (on 4 input) (52 ∷ 0 ∷ 0 ∷ 0 ∷ []) frame_instructions refl left in
    ((number_in 4 (word start ++ tail), 52), on 4 (on 4 input), rw (a, b) refl, behind (on 4 input) (52 ∷ 0 ∷ 0 ∷ 0 ∷ []) frame_instructions left)

abbrev fde_body : ℕ → List ℕ
fde_body start = 0 ∷ 0 ∷ 0 ∷ 0 ∷ (word start ++ (52 ∷ 0 ∷ 0 ∷ 0 ∷ frame_instructions))

-- a result that is read, and then another
then_ok : {A B F : Type 0} (r : Result A F) (f : A → Result B F) → is_ok r ≡ true → ((a : A) → is_ok (f a) ≡ true) → is_ok (r >>= f) ≡ true
then_ok (Ok a) f first each = each a
then_ok (Err e) f first each = absurd cc

all_are_ok : {X F : Type 0} (rs : List (Result X F)) → list_all is_ok rs ≡ true → is_ok (all_ok rs) ≡ true
all_are_ok [] each = refl
all_are_ok (r ∷ rs) each =
    let parts = and_parts (is_ok r) (list_all is_ok rs) each in
    then_ok r _ parts.0 (λ x. then_ok (all_ok rs) _ (all_are_ok rs parts.1) (λ xs. refl))

-- an FDE of the CIE, whose bytes end with the entry
fde_read : (section : List ℕ) (extents : List Extent) (e c : Extent) (start : ℕ) → e.end ≡ e.offset + 32 → left_of (body_of section e).at ≡ fde_body start
    → cie_at section extents 0 ≡ Some c → cie_of section c ≡ Ok (Some guest_cie) → after_cie section guest_cie ≡ Ok guest_initial
    → is_ok (read_entry section extents e) ≡ true
unfolding read_entry
fde_read section extents e c start size is found reads ran =
    let tail : List ℕ = word start ++ (52 ∷ 0 ∷ 0 ∷ 0 ∷ frame_instructions) in
    let id : number_from 4 (body_of section e) ≡ Ok (0, on 4 (body_of section e)) = four_read (body_of section e) (0 ∷ 0 ∷ 0 ∷ 0 ∷ []) tail refl is in
    let left : left_of (on 4 (body_of section e)).at ≡ tail = behind (body_of section e) (0 ∷ 0 ∷ 0 ∷ 0 ∷ []) tail is in
    let fields = fields_read start (on 4 (body_of section e)) left in
    let f : Fde = fde_with e guest_cie fields.0 fields.1 in
    let sixteen : length (left_of fields.1.at) ≡ 16 = ap (λ (l : List ℕ). length l) fields.3 in
    let place : e.end - length (left_of fields.1.at) ≡ e.offset + 4 + 12 = omega (arith, size, sixteen) in
    let there : left_of (instructions_of section f.instructions).at ≡ frame_instructions =
    ap (λ (o : ℕ). drop o (take e.end section)) place ∙ drop_on (e.offset + 4) 12 (take e.end section) ∙ ap (drop 12) is in
    let run = all_run f.initial_location (instructions_of section f.instructions) there in
    ap (λ (r : Reading ℕ). is_ok (r >>= (λ (q : ℕ × Input FrameFault). cond (q.0 == DW_CIE_ID) (cie_from e.end q.1 >>= checked_cie section) (fde_by section e q.1 (cie_at section extents q.0))))) id
    ∙ ap (λ (o : Option Extent). is_ok (fde_by section e (on 4 (body_of section e)) o)) found
    ∙ ap (λ (r : Result (Option Cie) FrameFault). is_ok (fde_of section e (on 4 (body_of section e)) r)) reads
    ∙ ap (λ (r : Reading (ℕ × ℕ)). is_ok (r >>= (λ (q : (ℕ × ℕ) × Input FrameFault). checked_fde section (fde_with e guest_cie q.0 q.1) (after_cie section guest_cie)))) fields.2
    ∙ ap (λ (r : Result FrameState FrameFault). is_ok (checked_fde section f r)) ran
    ∙ then_ok (continued None section f guest_initial) _ (ap (λ (r : Result FrameState FrameFault). is_ok r) run.1) (λ after. refl)

fde_long : (i : ℕ) → length (fde i) ≡ 32
unfolding fde
fde_long i = refl

-- ---- all FDEs

-- where entries of 32 bytes lie that follow one another
fde_extents : ℕ → ℕ → List Extent
fde_extents offset zero = []
fde_extents offset (suc count) = record { offset = offset; end = offset + 32 } ∷ fde_extents (offset + 32) count

-- an FDE's bytes between others
body_left : (before after : List ℕ) (i : ℕ) → left_of (body_of (before ++ (fde i ++ after)) (record { offset = length before; end = length before + 32 })).at ≡ fde_body (function_start i)
unfolding fde
body_left before after i =
    let cut : take (length before + 32) (before ++ (fde i ++ after)) ≡ before ++ fde i = take-append-add before (fde i ++ after) 32 in
    ap (drop (length before + 4)) cut ∙ drop-append-add before (fde i) 4

record HasCie (section : List ℕ) (extents : List Extent) : Type 0 where
  found : cie_at section extents 0 ≡ Some cie_extent
  read : cie_of section cie_extent ≡ Ok (Some guest_cie)
  ran : after_cie section guest_cie ≡ Ok guest_initial

fdes_read : (section : List ℕ) (extents : List Extent) (before : List ℕ) (is : List ℕ) → HasCie section extents → section ≡ before ++ flat_map fde is
    → list_all is_ok (map (read_entry section extents) (fde_extents (length before) (length is))) ≡ true
unfolding fde_extents
fdes_read section extents before [] common whole = refl
fdes_read section extents before (i ∷ is) common whole =
    let e : Extent = record { offset = length before; end = length before + 32 } in
    let body : left_of (body_of section e).at ≡ fde_body (function_start i) = ap (λ (s : List ℕ). left_of (body_of s e).at) whole ∙ body_left before (flat_map fde is) i in
    let own = fde_read section extents e cie_extent (function_start i) refl body common.found common.read common.ran in
    let both = length-append before (fde i) in
    let next : length (before ++ fde i) ≡ length before + 32 = both ∙ ap (λ (n : ℕ). length before + n) (fde_long i) in
    let others = fdes_read section extents (before ++ fde i) is common (whole ∙ sym (append_assoc before (fde i) (flat_map fde is))) in
    let rest : list_all is_ok (map (read_entry section extents) (fde_extents (length before + 32) (length is))) ≡ true =
    subst (λ (n : ℕ). list_all is_ok (map (read_entry section extents) (fde_extents n (length is))) ≡ true) next others in
    and_from (is_ok (read_entry section extents e)) (list_all is_ok (map (read_entry section extents) (fde_extents (length before + 32) (length is)))) own rest

-- ---- the section

guest_extents : List Extent
guest_extents = cie_extent ∷ fde_extents 16 48

-- the entries follow one another up to the section's end
extents_are : extents_of debug_frame ≡ (guest_extents, None)
unfolding guest_extents fde_extents chain_from fdes fde
extents_are = refl

cie_is_first : (section : List ℕ) (others : List Extent) → is_cie section cie_extent ≡ true → cie_at section (cie_extent ∷ others) 0 ≡ Some cie_extent
unfolding cie_at
cie_is_first section others is = rw is refl

common_cie : HasCie debug_frame guest_extents
unfolding guest_extents
common_cie = record {
  found = cie_is_first debug_frame (fde_extents 16 48) (cie_found (fdes 48));
  read = cie_read (fdes 48);
  ran = cie_run (fdes 48);
}

cie_checked : (rest : List ℕ) (extents : List Extent) → is_ok (read_entry (cie ++ rest) extents cie_extent) ≡ true
unfolding read_entry cie_from cie_from_augmentation cie_from_sizes cie_from_factors factors_from
cie_checked rest extents = then_ok (after_cie (cie ++ rest) guest_cie) _ (ap (λ (r : Result FrameState FrameFault). is_ok r) (cie_run rest)) (λ after. refl)

all_read : list_all is_ok (map (read_entry debug_frame guest_extents) guest_extents) ≡ true
unfolding guest_extents fdes
all_read =
    let rest : list_all is_ok (map (read_entry debug_frame guest_extents) (fde_extents 16 48)) ≡ true = fdes_read debug_frame guest_extents cie (range_with_len 0 function_count) common_cie refl in
    and_from (is_ok (read_entry debug_frame guest_extents cie_extent)) (list_all is_ok (map (read_entry debug_frame guest_extents) (fde_extents 16 48))) (cie_checked (fdes 48) guest_extents) rest

entries_read : is_ok (all_ok (entries_of debug_frame)) ≡ true
unfolding entries_of
entries_read =
    ap (λ (e : List Extent × Option FrameFault). is_ok (all_ok (map (read_entry debug_frame e.0) e.0 ++ at_end e.1))) extents_are
    ∙ all_are_ok (map (read_entry debug_frame guest_extents) guest_extents ++ []) (list_all-append is_ok (map (read_entry debug_frame guest_extents) guest_extents) [] ∙ and_from (list_all is_ok (map (read_entry debug_frame guest_extents) guest_extents)) true all_read refl)

-- ---- with an empty `.eh_frame`

no_eh_frame : (address : ℕ) (segments : List Segment) → in_eh_frame (eh_descriptions_of [] address segments) ≡ Ok []
unfolding eh_entries chain_from
no_eh_frame address segments = refl

viewed_ok : {X Y F : Type 0} (view : X → Y) (r : Result X F) → is_ok r ≡ true → is_ok (viewed view r) ≡ true
viewed_ok view (Ok x) is = refl
viewed_ok view (Err e) is = absurd cc

debug_frame_ok : {X : Type 0} (r : Result X FrameFault) → is_ok r ≡ true → is_ok (in_debug_frame r) ≡ true
debug_frame_ok (Ok x) is = refl
debug_frame_ok (Err e) is = absurd cc

own_frames : (segments : List Segment) → is_ok (frames_of debug_frame segments) ≡ true
unfolding frames_of
own_frames segments = then_ok (all_ok (entries_of debug_frame)) _ entries_read (λ read. refl)

pub frames_are_read : (address : ℕ) (segments : List Segment) → IsOk (descriptions_of_both debug_frame [] address segments)
unfolding descriptions_of_both
frames_are_read address segments =
    let own : is_ok (in_debug_frame (descriptions_of debug_frame segments)) ≡ true =
    debug_frame_ok (descriptions_of debug_frame segments) (viewed_ok descriptions (frames_of debug_frame segments) (own_frames segments)) in
    let others : is_ok (in_eh_frame (eh_descriptions_of [] address segments)) ≡ true = ap (λ (r : Result (List FrameDescription) SectionFault). is_ok r) (no_eh_frame address segments) in
    then_ok (in_debug_frame (descriptions_of debug_frame segments)) _ own (λ ds. then_ok (in_eh_frame (eh_descriptions_of [] address segments)) _ others (λ more. refl))
