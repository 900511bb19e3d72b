-- What is read of an entry: a CIE's fields, and how many bytes instructions have in the translation.
use Rattle.std.proofs.Common.{◌≡◌, ℕ, ◌*◌, ◌-◌, ◌≤◌, Bool, true, false, cond, List, [], ◌∷◌, length, length-drop, take, Option, Some, None, Result, Ok, Err, refl, ap, subst, arith, ◌<◌}
use Rattle.std.proofs.lemmas.Bool.Decides.{nat_tests}
use Rattle.std.specs.Prelude.{◌==◌, ◌||◌, nat_lt, option_map, IfOk, IfSome}
use Rattle.std.specs.List.{flat_map}
use Rattle.std.proofs.lemmas.List.{length-take}
use Rattle.prof_bytes.specs.Outcome.{◌>>=◌}
use Rattle.prof_bytes.specs.Reading.{left_of, text_at}
use Rattle.prof_bytes.specs.Fields.{Input, number_from, uleb_from, sleb_from, text_from, bytes_from}
use Rattle.cfi_table.specs.declared.fault.FrameFault.{FrameFault}
use Rattle.cfi_table.specs.declared.instruction.AlignmentFactors.{AlignmentFactors}
use Rattle.cfi_table.specs.declared.instruction.CallFrameInstruction.{CallFrameInstruction}
use Rattle.cfi_table.specs.Instructions.{Reading, block_from}
use Rattle.cfi_table.specs.Rules.{FrameState, execute, no_rules, all_same_value}
use Rattle.cfi_table.specs.Entries.{register_from, factors_from, instructions_of}
use Rattle.cfi_table.proofs.Moves.{Moves, AllMove, stays, binds, number_moves, takes, uleb_moves, sleb_moves, bytes_move, block_moves, either}
use Rattle.eh_frame.specs.declared.address.Application.{Application}
use Rattle.eh_frame.specs.declared.address.Application.TheVariants as applications
use Rattle.eh_frame.specs.declared.cie.EhCie.{EhCie}
use Rattle.eh_frame.specs.Addresses.{address_from}
use Rattle.eh_frame.specs.Cies.{is_read_augmentation, application_from, until, eh_cie_with, cie_from_letters, cie_from_data, eh_cie_from_factors, eh_cie_from_augmentation, eh_cie_from}
use Rattle.eh_frame.specs.Runs.{listed_by, addresses_of, cie_instructions, fde_instructions}
use Rattle.eh_frame.specs.Entries.{past_data, eh_fields_from}
use Rattle.eh_frame.specs.Translation.{encoded}
use Rattle.eh_frame.proofs.Listed.{Short, listed_short, address_moves}

-- ---- readers go forward

pub less_left : (a b : Input FrameFault) → Moves a b → length (left_of b.at) ≤ length (left_of a.at)
less_left a b moves =
    let order = moves.offset in
    let len : length b.at.whole ≡ length a.at.whole = ap (λ (xs : List ℕ). length xs) moves.whole in
    omega (arith, length-drop a.at.offset a.at.whole, length-drop b.at.offset b.at.whole)

-- ---- a CIE that is read

-- its return address register is below 32, and its instructions are no more bytes than are left
abbrev pub IsSound : ℕ → ℕ → EhCie → Type 0
IsSound end left cie = (cie.return_address_register < 32) × (cie.initial_instructions.end ≡ end) × (end - cie.initial_instructions.offset ≤ left)

abbrev AllSound : ℕ → ℕ → Result (Option EhCie) FrameFault → Type 0
AllSound end left r = IfOk r (λ o. IfSome o (IsSound end left))

sound_more : (end few many : ℕ) (r : Result (Option EhCie) FrameFault) → few ≤ many → AllSound end few r → AllSound end many r
sound_more end few many (Err fault) le is = tt
sound_more end few many (Ok None) le is = tt
sound_more end few many (Ok (Some cie)) le is = (is.0, is.1, let x : end - cie.initial_instructions.offset ≤ few = is.2 in omega arith)

sound_bind : {X : Type 0} (end : ℕ) (input : Input FrameFault) (r : Reading X) (next : X × Input FrameFault → Result (Option EhCie) FrameFault) → AllMove input r → ((x : X × Input FrameFault) → AllSound end (length (left_of x.1.at)) (next x)) → AllSound end (length (left_of input.at)) (r >>= next)
sound_bind end input (Err fault) next moves after = tt
sound_bind end input (Ok x) next moves after = sound_more end (length (left_of x.1.at)) (length (left_of input.at)) (next x) (less_left input x.1 moves) (after x)

sound_either : (end left : ℕ) (b : Bool) (x y : Result (Option EhCie) FrameFault) → (b ≡ true → AllSound end left x) → AllSound end left y → AllSound end left (cond b x y)
sound_either end left true x y p q = p refl
sound_either end left false x y p q = q

with_sound : (end : ℕ) (f : AlignmentFactors) (register : ℕ) (b : Bool) (input : Input FrameFault) (o : Option Application) → register < 32 → AllSound end (length (left_of input.at)) (Ok (option_map (eh_cie_with end f register b input) o))
with_sound end f register b input None small = tt
with_sound end f register b input (Some a) small = (small, refl, omega arith)

letters_sound : (end : ℕ) (f : AlignmentFactors) (register : ℕ) (letters : List ℕ) (input : Input FrameFault) → register < 32 → AllSound end (length (left_of input.at)) (cie_from_letters end f register letters input)
unfolding cie_from_letters
letters_sound end f register letters input small =
    sound_bind end input (uleb_from input) _ (uleb_moves input) (λ s. sound_bind {X = List ℕ} end s.1 (bytes_from s.0 s.1) _ (bytes_move s.0 s.1) (λ b. go b.1 (application_from letters applications.Absolute (until b.1 s.1))))
  where
    go : (behind : Input FrameFault) (r : Result (Option Application) FrameFault) → AllSound end (length (left_of behind.at)) (r >>= λ application. (let u : Result (Option EhCie) FrameFault = Ok (option_map (eh_cie_with end f register true behind) application) in u))
    go behind (Err fault) = tt
    go behind (Ok o) = with_sound end f register true behind o small

data_sound : (end : ℕ) (f : AlignmentFactors) (register : ℕ) (augmentation : List ℕ) (input : Input FrameFault) → register < 32 → AllSound end (length (left_of input.at)) (cie_from_data end f register augmentation input)
data_sound end f register [] input small = with_sound end f register false input (Some applications.Absolute) small
data_sound end f register (first ∷ letters) input small = letters_sound end f register letters input small

register_moves : (version : ℕ) (input : Input FrameFault) → AllMove input (register_from version input)
register_moves version input = either input (version == 1) _ _ (number_moves 1 input) (uleb_moves input)

factors_move : (version : ℕ) (input : Input FrameFault) → AllMove input (factors_from version input)
unfolding factors_from
factors_move version input =
    binds input (uleb_from input) _ (uleb_moves input) (λ c. binds c.1 (sleb_from c.1) _ (sleb_moves c.1) (λ d. binds d.1 (register_from version d.1) _ (register_moves version d.1) (λ r. stays r.1)))

low : (n : ℕ) → nat_lt n 32 ≡ true → n < 32
low n e = grind (arith, nat_tests)

factors_sound : (end version : ℕ) (augmentation : List ℕ) (input : Input FrameFault) → AllSound end (length (left_of input.at)) (eh_cie_from_factors end version augmentation input)
unfolding eh_cie_from_factors
factors_sound end version augmentation input =
    sound_bind end input (factors_from version input) _ (factors_move version input)
    (λ r. sound_either end (length (left_of r.1.at)) (nat_lt r.0.1 32) _ _ (λ is. data_sound end r.0.0 r.0.1 augmentation r.1 (low r.0.1 is)) tt)

augmentation_sound : (end version : ℕ) (input : Input FrameFault) → AllSound end (length (left_of input.at)) (eh_cie_from_augmentation end version input)
unfolding eh_cie_from_augmentation
augmentation_sound end version input =
    sound_bind {X = List ℕ} end input (text_from input) _ (takes input (text_at (left_of input.at))) (λ t. sound_either end (length (left_of t.1.at)) (is_read_augmentation t.0) _ _ (λ is. factors_sound end version t.0 t.1) tt)

cie_sound : (end : ℕ) (input : Input FrameFault) → AllSound end (length (left_of input.at)) (eh_cie_from end input)
unfolding eh_cie_from
cie_sound end input = sound_bind end input (number_from 1 input) _ (number_moves 1 input) (λ v. sound_either end (length (left_of v.1.at)) (v.0 == 1 || v.0 == 3) _ _ (λ is. augmentation_sound end v.0 v.1) tt)

pub sound_of : (end : ℕ) (input : Input FrameFault) (cie : EhCie) → eh_cie_from end input ≡ Ok (Some cie) → IsSound end (length (left_of input.at)) cie
sound_of end input cie is = let P : Result (Option EhCie) FrameFault → Type 0 = λ r. AllSound end (length (left_of input.at)) r in subst P is (cie_sound end input)

-- ---- instructions of an entry

short_is : {S : Type 0} (input : Input FrameFault) (r : Result (List CallFrameInstruction × S) FrameFault) (own : List CallFrameInstruction × S) → Short input r → r ≡ Ok own → length (flat_map encoded own.0) ≤ 7 * length (left_of input.at)
short_is {S} input r own short is = let P : Result (List CallFrameInstruction × S) FrameFault → Type 0 = λ x. Short input x in subst P is short

pub cie_short : (section : List ℕ) (address : ℕ) (cie : EhCie) (own : List CallFrameInstruction × FrameState) → cie_instructions section address cie ≡ Ok own → length (flat_map encoded own.0) ≤ 7 * (cie.initial_instructions.end - cie.initial_instructions.offset)
unfolding cie_instructions
cie_short section address cie own is =
    let input : Input FrameFault = instructions_of section cie.initial_instructions in
    let short = short_is input (listed_by (execute all_same_value) (length (left_of input.at)) (addresses_of address cie) cie.factors input no_rules) own
    (listed_short (execute all_same_value) (length (left_of input.at)) (addresses_of address cie) cie.factors input no_rules) is in
    omega (arith, length-drop cie.initial_instructions.offset (take cie.initial_instructions.end section), length-take cie.initial_instructions.end section)

pub own_short : (address : ℕ) (cie : EhCie) (start : ℕ) (input : Input FrameFault) (initial : FrameState) (own : List CallFrameInstruction × FrameState) → fde_instructions address cie start input initial ≡ Ok own → length (flat_map encoded own.0) ≤ 7 * length (left_of input.at)
own_short address cie start input initial own is =
    short_is input (fde_instructions address cie start input initial) own
    (listed_short (execute initial.regs) (length (left_of input.at)) (addresses_of address cie) cie.factors input (record initial { location = start })) is

pub fields_move : (address : ℕ) (cie : EhCie) (input : Input FrameFault) → AllMove input (eh_fields_from address cie input)
unfolding eh_fields_from
fields_move address cie input =
    binds input (address_from (addresses_of address cie) input) _ (address_moves (addresses_of address cie) input) (λ a. binds a.1 (number_from 4 a.1) _ (number_moves 4 a.1) (λ r. past cie.has_data (a.0, r.0) r.1))
  where
    after : (fields : ℕ × ℕ) (input : Input FrameFault) (r : Reading ℕ) → AllMove input r → AllMove input ((r >>= λ s. (let u : Result (Input FrameFault) FrameFault = Ok s.1 in u)) >>= λ next. (let u : Reading (ℕ × ℕ) = Ok (fields, next) in u))
    after fields input (Err fault) moves = tt
    after fields input (Ok s) moves = moves

    past : (b : Bool) (fields : ℕ × ℕ) (input : Input FrameFault) → AllMove input (past_data b input >>= λ next. (let u : Reading (ℕ × ℕ) = Ok (fields, next) in u))
    past true fields input = after fields input (block_from input) (block_moves input)
    past false fields input = stays input
