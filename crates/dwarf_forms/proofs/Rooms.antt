-- Each item takes a byte or more, so more room than there are bytes changes nothing.
use Rattle.std.proofs.Common.{◌≡◌, ℕ, zero, suc, ◌+◌, ◌≤◌, Bool, true, false, List, [], ◌∷◌, length, Option, Some, None, Result, Ok, Err}
use Rattle.std.proofs.Common.{refl, ap, ◌∙◌, arith, ◌==◌, pos}
use Rattle.std.specs.Prelude.{if◌then◌else◌, not}
use Rattle.prof_bytes.specs.Fields.{Input, taken, number_from, uleb_from, sleb_from}
use Rattle.prof_bytes.specs.Leb.{uleb_at}
use Rattle.prof_bytes.specs.Number.{number_at}
use Rattle.prof_bytes.specs.Reading.{left_of}
use Rattle.prof_bytes.specs.Outcome.{◌>>=◌}
use Rattle.dwarf_forms.specs.declared.constants.TheConstants.{DW_CHILDREN_no, DW_FORM_implicit_const}
use Rattle.dwarf_forms.specs.declared.declaration.Spec.{Spec}
use Rattle.dwarf_forms.specs.declared.declaration.Abbrev.{Abbrev}
use Rattle.dwarf_forms.specs.declared.declaration.BadTable.{BadTable}
use Rattle.dwarf_forms.specs.Lists.{with_first, list_from}
use Rattle.dwarf_forms.specs.Runs.{RunStep, is_end, before, run_from}
use Rattle.dwarf_forms.specs.Abbreviations.{implicit_from, unless_closing, attribute_from, attributes_from, declared_from, declaration_from, table_from}
use Rattle.dwarf_forms.proofs.Items.{Item, Items}
use Rattle.dwarf_forms.proofs.Moves.{Moves, number_moves, uleb_moves, sleb_moves, moves_then, moves_less, uleb_passes, moves_if, stays}

-- ---- lists

-- an item takes a byte or more
abbrev pub Takes : {X F : Type 0} → Item X F → Type 0
Takes {F = F} item = (input : Input F) → Moves 1 input (item input)

-- where no byte is left, there is no item
abbrev pub Misses : {X F : Type 0} → Item X F → Type 0
Misses {F = F} item = (input : Input F) → length (left_of input.at) ≡ 0 → item input ≡ Err input.missing

pub same_list : {X F : Type 0} (item : Item X F) → Takes item → Misses item → (m n : ℕ) (input : Input F)
    → length (left_of input.at) ≤ m → length (left_of input.at) ≤ n → list_from item m input ≡ list_from item n input
unfolding list_from
same_list item takes misses zero zero input a b = refl
same_list item takes misses zero (suc n) input a b = rw (misses input (omega arith)) refl
same_list item takes misses (suc m) zero input a b = rw (misses input (omega arith)) refl
same_list {X = X} {F = F} item takes misses (suc m) (suc n) input a b = by (item input) (takes input) (λ after c d. same_list item takes misses m n after c d)
  where
    each : (first : Option X) (after : Input F) → list_from item m after ≡ list_from item n after
        → with_first first after (list_from item m) ≡ with_first first after (list_from item n)
    each None after same = refl
    each (Some x) after same = ap (λ (r : Items X F). r >>= (λ (others, end). Ok (x ∷ others, end))) same

    by : (read : Result (Option X × Input F) F) → Moves 1 input read
        → ((after : Input F) → length (left_of after.at) ≤ m → length (left_of after.at) ≤ n → list_from item m after ≡ list_from item n after)
        → (read >>= (λ (first, after). with_first first after (list_from item m))) ≡ (read >>= (λ (first, after). with_first first after (list_from item n)))
    by (Err fault) moves again = refl
    by (Ok r) moves again = each r.0 r.1 (again r.1 (let l = moves.1 in omega arith) (let l = moves.1 in omega arith))

pub list_moves : {X F : Type 0} (item : Item X F) → Takes item → (room : ℕ) (input : Input F) → Moves 0 input (list_from item room input)
unfolding list_from
list_moves item takes zero input = tt
list_moves {X = X} {F = F} item takes (suc room) input =
    moves_less 1 0 input (item input >>= (λ (first, after). with_first first after (list_from item room))) (omega arith)
    (moves_then 1 0 input (item input) _ (takes input) (λ r. rest r.0 r.1 (list_moves item takes room r.1)))
  where
    rest : (first : Option X) (after : Input F) → Moves 0 after (list_from item room after) → Moves 0 after (with_first first after (list_from item room))
    rest None after moves = stays {X = List X} after []
    rest (Some x) after moves = moves_then 0 0 after (list_from item room after) _ moves (λ r. stays r.1 (x ∷ r.0))

-- ---- runs

-- a step takes so many bytes or more
abbrev pub StepMoves : {S X F : Type 0} → ℕ → Input F → RunStep S X F → Type 0
StepMoves count input (Ok t) = length (left_of t.2.at) + count ≤ length (left_of input.at)
StepMoves count input (Err fault) = Unit {0}

pub step_then : {Y S X F : Type 0} (j k : ℕ) (input : Input F) (first : Result (Y × Input F) F) (next : Y × Input F → RunStep S X F)
    → Moves j input first → ((r : Y × Input F) → StepMoves k r.1 (next r)) → StepMoves (j + k) input (first >>= next)
step_then j k input (Err fault) next one others = tt
step_then {S = S} {X = X} {F = F} j k input (Ok r) next one others = both (next r) (others r)
  where
    both : (last : RunStep S X F) → StepMoves k r.1 last → StepMoves (j + k) input last
    both (Err fault) two = tt
    both (Ok t) two = let a = one.1 in omega arith

pub step_if : {S X F : Type 0} (count : ℕ) (input : Input F) (b : Bool) (one other : RunStep S X F)
    → StepMoves count input one → StepMoves count input other → StepMoves count input (if b then one else other)
step_if count input true one other a b = a
step_if count input false one other a b = b

pub same_run : {S X F : Type 0} (step : S → Input F → RunStep S X F) → ((state : S) (input : Input F) → StepMoves 1 input (step state input))
    → (m n : ℕ) (state : S) (input : Input F) → length (left_of input.at) ≤ m → length (left_of input.at) ≤ n
    → run_from step m state input ≡ run_from step n state input
unfolding run_from
same_run step takes zero zero state input a b = refl
same_run step takes zero (suc n) state input a b =
    let none : length (left_of input.at) ≡ 0 = omega arith in
    let end : is_end input ≡ true = rw none refl in
    rw end refl
same_run step takes (suc m) zero state input a b =
    let none : length (left_of input.at) ≡ 0 = omega arith in
    let end : is_end input ≡ true = rw none refl in
    rw end refl
same_run {S = S} {X = X} {F = F} step takes (suc m) (suc n) state input a b =
    one (is_end input) (step state input) (takes state input) (λ s after c d. same_run step takes m n s after c d)
  where
    one : (end : Bool) (read : RunStep S X F) → StepMoves 1 input read
        → ((s : S) (after : Input F) → length (left_of after.at) ≤ m → length (left_of after.at) ≤ n → run_from step m s after ≡ run_from step n s after)
        → (if end then Ok [] else read >>= (λ taken. before taken.0 (run_from step m taken.1 taken.2)))
        ≡ (if end then Ok [] else read >>= (λ taken. before taken.0 (run_from step n taken.1 taken.2)))
    one true read moves again = refl
    one false (Err fault) moves again = refl
    one false (Ok t) moves again = ap (before t.0) (again t.1 t.2 (let l = moves in omega arith) (let l = moves in omega arith))

-- ---- abbreviation tables

no_bytes : (bytes : List ℕ) → length bytes ≡ 0 → bytes ≡ []
no_bytes [] e = refl
no_bytes (b ∷ bytes) e = absurd (omega arith)

pub uleb_misses : {F : Type 0} (input : Input F) → length (left_of input.at) ≡ 0 → uleb_from input ≡ Err input.missing
uleb_misses input none = ap (λ (bytes : List ℕ). taken input (uleb_at bytes)) (no_bytes (left_of input.at) none) ∙ refl

pub byte_misses : {F : Type 0} (input : Input F) → length (left_of input.at) ≡ 0 → number_from 1 input ≡ Err input.missing
byte_misses input none = ap (λ (bytes : List ℕ). taken input (number_at 1 bytes)) (no_bytes (left_of input.at) none) ∙ refl

-- what misses first misses
pub misses_first : {X Y F : Type 0} (first : Result (X × Input F) F) (next : X × Input F → Result (Y × Input F) F) (missing : F) → first ≡ Err missing → (first >>= next) ≡ Err missing
misses_first {X = X} {Y = Y} {F = F} first next missing e = ap (λ (r : Result (X × Input F) F). r >>= next) e

implicit_moves : (form : ℕ) (input : Input BadTable) → Moves 0 input (implicit_from form input)
implicit_moves form input =
    moves_if 0 input (form == DW_FORM_implicit_const) (sleb_from input) (Ok (pos 0, input))
    (moves_less 1 0 input (sleb_from input) (omega arith) (sleb_moves input)) (stays input (pos 0))

attribute_takes : Takes attribute_from
unfolding attribute_from
attribute_takes input =
    moves_then 1 0 input (uleb_from input) _ (uleb_moves input) (λ attribute.
    moves_then 0 0 attribute.1 (uleb_from attribute.1) _ (uleb_passes attribute.1) (λ form.
    moves_then 0 0 form.1 (implicit_from form.0 form.1) _ (implicit_moves form.0 form.1) (λ implicit.
    stays {X = Option Spec} implicit.1 (unless_closing (record { attribute = attribute.0; form = form.0; implicit = implicit.0 })))))

attribute_misses : Misses attribute_from
unfolding attribute_from
attribute_misses input none = misses_first (uleb_from input) _ input.missing (uleb_misses input none)

declared_moves : (offset code : ℕ) (input : Input BadTable) → Moves 0 input (declared_from offset code input)
unfolding declared_from
declared_moves offset code input =
    moves_then 0 0 input (uleb_from input) _ (uleb_passes input) (λ tag.
    moves_then 0 0 tag.1 (number_from 1 tag.1) _ (moves_less 1 0 tag.1 (number_from 1 tag.1) (omega arith) (number_moves 1 tag.1)) (λ children.
    moves_then 0 0 children.1 (attributes_from children.1) _ (list_moves attribute_from attribute_takes (length (left_of children.1.at)) children.1) (λ specs.
    stays {X = Option Abbrev} specs.1 (Some (record { offset = offset; code = code; tag = tag.0; children = not (children.0 == DW_CHILDREN_no); specs = specs.0 })))))

abbrev no_declaration : Option Abbrev
no_declaration = None

pub declaration_takes : Takes declaration_from
unfolding declaration_from
declaration_takes input =
    moves_then 1 0 input (uleb_from input) _ (uleb_moves input) (λ code.
    moves_if 0 code.1 (code.0 == 0) (Ok (no_declaration, code.1)) (declared_from input.at.offset code.0 code.1) (stays code.1 no_declaration) (declared_moves input.at.offset code.0 code.1))

declaration_misses : Misses declaration_from
unfolding declaration_from
declaration_misses input none = misses_first (uleb_from input) _ input.missing (uleb_misses input none)

pub attributes_room : (room : ℕ) (input : Input BadTable) → length (left_of input.at) ≤ room → list_from attribute_from room input ≡ attributes_from input
attributes_room room input le = same_list attribute_from attribute_takes attribute_misses room (length (left_of input.at)) input le (omega arith)

pub declarations_room : (room : ℕ) (input : Input BadTable) → length (left_of input.at) ≤ room → list_from declaration_from room input ≡ table_from input
declarations_room room input le = same_list declaration_from declaration_takes declaration_misses room (length (left_of input.at)) input le (omega arith)
