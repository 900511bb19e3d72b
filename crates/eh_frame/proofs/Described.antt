-- What is known of an entry of .eh_frame that was read.
use Rattle.std.proofs.Common.{◌≡◌, ℕ, ◌+◌, ◌<◌, ◌^◌, Bool, true, false, cond, List, take, Option, Some, None, Result, Ok, Err, refl, subst, arith, length, length-append, length-drop, ◌*◌, ◌-◌, ◌≤◌, ◌++◌}
use Rattle.std.proofs.lemmas.List.{length-take}
use Rattle.prof_bytes.specs.Reading.{left_of}
use Rattle.std.specs.List.{flat_map}
use Rattle.eh_frame.specs.Translation.{translated_offset, encoded, cie_head, fde_head, entry_body}
use Rattle.cfi_table.specs.private.Placed.{IsPlaced}
use Rattle.cfi_table.specs.Frames.{size_of}
use Rattle.std.specs.Prelude.{◌==◌, ◌&&◌, All, IfOk, nat_lt}
use Rattle.prof_bytes.specs.Outcome.{◌>>=◌}
use Rattle.prof_bytes.specs.Number.{IsBytes}
use Rattle.prof_bytes.specs.Fields.{Input, number_from}
use Rattle.cfi_table.specs.declared.fault.FrameFault.{FrameFault}
use Rattle.cfi_table.specs.declared.extent.Extent.{Extent}
use Rattle.cfi_table.specs.declared.instruction.CallFrameInstruction.{CallFrameInstruction}
use Rattle.cfi_table.specs.Instructions.{Reading}
use Rattle.cfi_table.specs.Rules.{FrameState, no_rules, all_same_value}
use Rattle.cfi_table.specs.Entries.{body_of, instructions_of}
use Rattle.cfi_table.proofs.Moves.{AllMove, number_moves, Moves}
use Rattle.eh_frame.specs.declared.constants.TheConstants.{EH_CIE_ID}
use Rattle.eh_frame.specs.declared.cie.EhCie.{EhCie}
use Rattle.eh_frame.specs.Addresses.{address_from}
use Rattle.eh_frame.specs.Cies.{eh_cie_from}
use Rattle.eh_frame.specs.Runs.{addresses_of, cie_instructions, fde_instructions, rules_after}
use Rattle.eh_frame.specs.Entries.{EhFde, EhContent, PassedOver, Common, Description, past_data, eh_fields_from, eh_fde_with, content_of_cie, content_of_fde, content_by, is_eh_id, is_eh_cie, is_cie_before, cie_back, eh_cie_of, entry_content}
use Rattle.eh_frame.specs.Laws.{HasWordOperands}
use Rattle.eh_frame.proofs.Bounds.{fields_move, less_left, IsSound, sound_of, cie_short, own_short}
use Rattle.eh_frame.proofs.Listed.{address_moves}
use Rattle.eh_frame.proofs.Members.{IsIn, found_in}
use Rattle.eh_frame.proofs.Runs.{listed_rules}
use Rattle.eh_frame.proofs.Words.{take_bytes, number_small, address_small, words_of}

-- ---- an FDE's fields

abbrev AreSmall : Reading (ℕ × ℕ) → Type 0
AreSmall r = IfOk r (λ f. (f.0.0 < 2 ^ 32) × (f.0.1 < 2 ^ 32))

fields_small : (address : ℕ) (cie : EhCie) (input : Input FrameFault) → IsBytes input.at.whole → AreSmall (eh_fields_from address cie input)
unfolding eh_fields_from
fields_small address cie input are = start (address_from (addresses_of address cie) input) (address_small (addresses_of address cie) input are) (address_moves (addresses_of address cie) input)
  where
    last : (a b : ℕ) (r : Result (Input FrameFault) FrameFault) → a < 2 ^ 32 → b < 2 ^ 32 → AreSmall (r >>= λ next. (let u : Reading (ℕ × ℕ) = Ok ((a, b), next) in u))
    last a b (Err fault) p q = tt
    last a b (Ok next) p q = (p, q)

    range : (a : ℕ) (r : Reading ℕ) → a < 2 ^ 32 → IfOk r (λ n. n.0 < 2 ^ 32) → AreSmall (r >>= λ n. past_data cie.has_data n.1 >>= λ next. (let u : Reading (ℕ × ℕ) = Ok ((a, n.0), next) in u))
    range a (Err fault) p small = tt
    range a (Ok n) p small = last a n.0 (past_data cie.has_data n.1) p small

    start : (r : Reading ℕ) → IfOk r (λ n. n.0 < 2 ^ 32) → AllMove input r
        → AreSmall (r >>= λ a. number_from 4 a.1 >>= λ n. past_data cie.has_data n.1 >>= λ next. (let u : Reading (ℕ × ℕ) = Ok ((a.0, n.0), next) in u))
    start (Err fault) small moves = tt
    start (Ok a) small moves = range a.0 (number_from 4 a.1) small (number_small a.1 (rw moves.whole are))

-- ---- what an entry is

-- a CIE's instructions
pub record CommonRead (section : List ℕ) (address : ℕ) (cie : EhCie) (own : List CallFrameInstruction) : Type 0 where
  pub final : FrameState
  pub ran : cie_instructions section address cie ≡ Ok (own, final)
  pub register : cie.return_address_register < 32

-- an FDE's fields, and the rules after its instructions and after its CIE's
pub record DescriptionRead (section : List ℕ) (address : ℕ) (extents : List Extent) (fde : EhFde) : Type 0 where
  pub c : Extent
  pub there : IsIn c extents
  pub marked : is_eh_cie section c ≡ true
  pub cie : eh_cie_of section c ≡ Ok (Some fde.cie)
  pub offset : fde.cie_offset ≡ c.offset
  pub initial : FrameState
  pub initial_ran : cie_instructions section address fde.cie ≡ Ok (fde.initial, initial)
  pub own : FrameState
  pub own_rules : rules_after None initial.regs fde.instructions (record initial { location = fde.initial_location }) ≡ Some own
  pub words : All HasWordOperands fde.instructions
  pub start : fde.initial_location < 2 ^ 32
  pub range : fde.address_range < 2 ^ 32

abbrev pub Facts : List ℕ → ℕ → List Extent → EhContent → Type 0
Facts section address extents PassedOver = Unit {0}
Facts section address extents (Common cie own) = CommonRead section address cie own
Facts section address extents (Description fde) = DescriptionRead section address extents fde

-- its translation fits in its block
abbrev pub FitsIn : Extent → EhContent → Type 0
FitsIn e content = (base : ℕ) → length (entry_body base content) + 7 ≤ 8 * size_of e

abbrev pub AllFacts : List ℕ → ℕ → List Extent → Extent → Result EhContent FrameFault → Type 0
AllFacts section address extents e r = IfOk r (λ content. Facts section address extents content × FitsIn e content)

common_facts : (section : List ℕ) (address : ℕ) (extents : List Extent) (e : Extent) (input : Input FrameFault) (o : Option EhCie) → length (left_of input.at) + 4 ≤ size_of e → eh_cie_from e.end input ≡ Ok o → AllFacts section address extents e (content_of_cie section address o)
common_facts section address extents e input None room is = (tt, λ base. omega arith)
common_facts section address extents e input (Some cie) room is = go (cie_instructions section address cie) refl
  where
    sound : IsSound e.end (length (left_of input.at)) cie
    sound = sound_of e.end input cie is

    go : (r : Result (List CallFrameInstruction × FrameState) FrameFault) → cie_instructions section address cie ≡ r → AllFacts section address extents e (r >>= λ own. (let u : Result EhContent FrameFault = Ok (Common cie own.0) in u))
    go (Err fault) ran = tt
    go (Ok own) ran =
        let short = cie_short section address cie own ran in
        let same : cie.initial_instructions.end ≡ e.end = sound.1 in
        let few : e.end - cie.initial_instructions.offset ≤ length (left_of input.at) = sound.2 in
        let both : length (cie_head cie.return_address_register ++ flat_map encoded own.0) ≡ 9 + length (flat_map encoded own.0) = length-append (cie_head cie.return_address_register) (flat_map encoded own.0) in
        (record { final = own.1; ran = ran; register = sound.0 }, λ base. omega arith)

both_true : (a b : Bool) → (a && b) ≡ true → (a ≡ true) × (b ≡ true)
both_true true b e = (refl, e)
both_true false b e = absurd cc

fde_facts : (section : List ℕ) (address : ℕ) (extents : List Extent) (e c : Extent) (distance : ℕ) (input : Input FrameFault) (o : Option EhCie) → length (left_of input.at) + 4 ≤ size_of e → IsBytes input.at.whole → cie_back section extents e distance ≡ Some c → eh_cie_of section c ≡ Ok o
    → AllFacts section address extents e (content_of_fde section address c.offset input o)
unfolding cie_back
fde_facts section address extents e c distance input None room are found is = (tt, λ base. omega arith)
fde_facts section address extents e c distance input (Some cie) room are found is = fields (eh_fields_from address cie input) (fields_small address cie input are) (fields_move address cie input)
  where
    back : IsIn c extents × ((c.offset + distance == e.offset + 4 && is_cie_before section e c) ≡ true)
    back = found_in (λ (x : Extent). x.offset + distance == e.offset + 4 && is_cie_before section e x) extents c found

    own : (f : ℕ × ℕ) (next : Input FrameFault) (initial : List CallFrameInstruction × FrameState) (r : Result (List CallFrameInstruction × FrameState) FrameFault) → f.0 < 2 ^ 32 → f.1 < 2 ^ 32 → Moves input next
        → cie_instructions section address cie ≡ Ok initial → fde_instructions address cie f.0 next initial.1 ≡ r
        → AllFacts section address extents e (r >>= λ own. (let u : Result EhContent FrameFault = Ok (Description (eh_fde_with cie c.offset initial.0 f own.0)) in u))
    own f next initial (Err fault) start range moves before ran = tt
    own f next initial (Ok o) start range moves before ran =
        let s : FrameState = record initial.1 { location = f.0 } in
        let short = own_short address cie f.0 next initial.1 o ran in
        let less = less_left input next moves in (
          record {
            c = c;
            there = back.0;
            marked = (both_true (nat_lt c.offset e.offset) (is_eh_cie section c) (both_true (c.offset + distance == e.offset + 4) (is_cie_before section e c) back.1).1).1;
            cie = is;
            offset = refl;
            initial = initial.1;
            initial_ran = before;
            own = o.1;
            own_rules = listed_rules initial.1.regs _ (addresses_of address cie) cie.factors next s o ran;
            words = words_of initial.1.regs _ (addresses_of address cie) cie.factors next s o (rw moves.whole are) ran;
            start = start;
            range = range;
          },
          λ base.
              (let both : length (fde_head (translated_offset base c.offset) f.0 f.1 ++ flat_map encoded o.0) ≡ 12 + length (flat_map encoded o.0) = length-append (fde_head (translated_offset base c.offset) f.0 f.1) (flat_map encoded o.0) in
              omega arith),
        )

    initial : (f : ℕ × ℕ) (next : Input FrameFault) (r : Result (List CallFrameInstruction × FrameState) FrameFault) → f.0 < 2 ^ 32 → f.1 < 2 ^ 32 → Moves input next → cie_instructions section address cie ≡ r
        → AllFacts section address extents e (r >>= λ initial. fde_instructions address cie f.0 next initial.1 >>= λ own. (let u : Result EhContent FrameFault = Ok (Description (eh_fde_with cie c.offset initial.0 f own.0)) in u))
    initial f next (Err fault) start range moves before = tt
    initial f next (Ok i) start range moves before = own f next i (fde_instructions address cie f.0 next i.1) start range moves before refl

    fields : (r : Reading (ℕ × ℕ)) → AreSmall r → AllMove input r
        → AllFacts section address extents e (r >>= λ f. cie_instructions section address cie >>= λ initial. fde_instructions address cie f.0.0 f.1 initial.1 >>= λ own. (let u : Result EhContent FrameFault = Ok (Description (eh_fde_with cie c.offset initial.0 f.0 own.0)) in u))
    fields (Err fault) small moves = tt
    fields (Ok f) small moves = initial f.0 f.1 (cie_instructions section address cie) small.0 small.1 moves refl

by_facts : (section : List ℕ) (address : ℕ) (extents : List Extent) (e : Extent) (distance : ℕ) (input : Input FrameFault) (o : Option Extent) → length (left_of input.at) + 4 ≤ size_of e → IsBytes input.at.whole → cie_back section extents e distance ≡ o → AllFacts section address extents e (content_by section address e input o)
by_facts section address extents e distance input None room are found = tt
by_facts section address extents e distance input (Some c) room are found = go (eh_cie_of section c) refl
  where
    go : (r : Result (Option EhCie) FrameFault) → eh_cie_of section c ≡ r → AllFacts section address extents e (r >>= λ cie. content_of_fde section address c.offset input cie)
    go (Err fault) is = tt
    go (Ok o) is = fde_facts section address extents e c distance input o room are found is

pub content_facts : (section : List ℕ) (address : ℕ) (extents : List Extent) (e : Extent) → IsBytes section → IsPlaced section e → AllFacts section address extents e (entry_content section address extents e)
unfolding entry_content
content_facts section address extents e are placed = go (number_from 4 (body_of section e)) (number_moves 4 (body_of section e))
  where
    room : length (left_of (body_of section e).at) + 4 ≤ size_of e
    room =
        let order = placed.order in
        let within = placed.within in
        omega (arith, length-drop (e.offset + 4) (take e.end section), length-take e.end section)

    read : (input : Input FrameFault) (r : Result (Option EhCie) FrameFault) → length (left_of input.at) + 4 ≤ size_of e → eh_cie_from e.end input ≡ r → AllFacts section address extents e (r >>= λ cie. content_of_cie section address cie)
    read input (Err fault) less is = tt
    read input (Ok o) less is = common_facts section address extents e input o less is

    some : (b : Bool) (id : ℕ) (input : Input FrameFault) → length (left_of input.at) + 4 ≤ size_of e → IsBytes input.at.whole
        → AllFacts section address extents e (cond b (eh_cie_from e.end input >>= λ cie. content_of_cie section address cie) (content_by section address e input (cie_back section extents e id)))
    some true id input less bytes = read input (eh_cie_from e.end input) less refl
    some false id input less bytes = by_facts section address extents e id input (cie_back section extents e id) less bytes refl

    go : (r : Reading ℕ) → AllMove (body_of section e) r
        → AllFacts section address extents e (r >>= λ id. cond (id.0 == EH_CIE_ID) (eh_cie_from e.end id.1 >>= λ cie. content_of_cie section address cie) (content_by section address e id.1 (cie_back section extents e id.0)))
    go (Err fault) moves = tt
    go (Ok id) moves =
        let less = less_left (body_of section e) id.1 moves in
        let enough = room in
        some (id.0 == EH_CIE_ID) id.0 id.1 (omega arith) (rw moves.whole (take_bytes e.end section are))

pub facts_of : (section : List ℕ) (address : ℕ) (extents : List Extent) (e : Extent) (content : EhContent) → IsBytes section → IsPlaced section e → entry_content section address extents e ≡ Ok content → Facts section address extents content × FitsIn e content
facts_of section address extents e content are placed is = let P : Result EhContent FrameFault → Type 0 = λ r. AllFacts section address extents e r in subst P is (content_facts section address extents e are placed)

-- ---- a CIE's instructions, and the rules after them

pub initial_rules : (section : List ℕ) (address : ℕ) (cie : EhCie) (own : List CallFrameInstruction) (final : FrameState) → cie_instructions section address cie ≡ Ok (own, final) → rules_after None all_same_value own no_rules ≡ Some final
unfolding cie_instructions
initial_rules section address cie own final ran = listed_rules all_same_value _ (addresses_of address cie) cie.factors (instructions_of section cie.initial_instructions) no_rules (own, final) ran

pub initial_words : (section : List ℕ) (address : ℕ) (cie : EhCie) (own : List CallFrameInstruction) (final : FrameState) → IsBytes section → cie_instructions section address cie ≡ Ok (own, final) → All HasWordOperands own
unfolding cie_instructions
initial_words section address cie own final are ran =
    words_of all_same_value _ (addresses_of address cie) cie.factors (instructions_of section cie.initial_instructions) no_rules (own, final) (take_bytes cie.initial_instructions.end section are) ran

-- an FDE's CIE is read with the same instructions
pub cie_content : (section : List ℕ) (address : ℕ) (extents : List Extent) (c : Extent) (cie : EhCie) (own : List CallFrameInstruction) (final : FrameState) → is_eh_cie section c ≡ true → eh_cie_of section c ≡ Ok (Some cie) → cie_instructions section address cie ≡ Ok (own, final)
    → entry_content section address extents c ≡ Ok (Common cie own)
unfolding entry_content eh_cie_of
cie_content section address extents c cie own final mark is ran = go (number_from 4 (body_of section c)) mark is
  where
    go : (r : Reading ℕ) → is_eh_id r ≡ true → (r >>= λ id. eh_cie_from c.end id.1) ≡ Ok (Some cie)
        → (r >>= λ id. cond (id.0 == EH_CIE_ID) (eh_cie_from c.end id.1 >>= λ cie. content_of_cie section address cie) (content_by section address c id.1 (cie_back section extents c id.0))) ≡ Ok (Common cie own)
    go (Err fault) mark is = absurd cc
    go (Ok id) mark is = rw (mark, is, ran) refl
