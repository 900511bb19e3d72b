-- What is known of a file whose headers were checked.
use Rattle.std.proofs.Common.{◌≡◌, ℕ, zero, suc, ◌+◌, ◌*◌, ◌<◌, ◌≤◌, Bool, true, false, cond, not, List, [], ◌∷◌, length, get_or, Option, Some, None, Result, Ok, refl, subst, arith, lit<}
use Rattle.std.specs.Prelude.{find, option_map, ◌==◌, ◌&&◌}
use Rattle.std.proofs.lemmas.Bool.Decides.{nat_tests}
use Rattle.std.proofs.lemmas.Bool.{not-false}
use Rattle.prof_bytes.specs.Outcome.{◌>>=◌}
use Rattle.prof_bytes.proofs.Tests.{some_same}
use Rattle.elf_image.specs.declared.header.SectionHeader.{SectionHeader}
use Rattle.elf_image.specs.declared.fault.ElfFault.{ElfFault}
use Rattle.elf_image.specs.declared.fault.ElfRule.{ElfRule}
use Rattle.elf_image.specs.declared.fault.ElfRule.TheVariants.{NotElf, NotRiscv32Exec, CompressedCode, HeaderPlace, SectionPlace}
use Rattle.elf_image.specs.Fields.{lies_within}
use Rattle.elf_image.specs.Headers.{e_phoff, e_phnum, e_shoff, e_shnum, section_headers, symbol_table, has_bytes}
use Rattle.elf_image.specs.declared.elf.TheConstants.{SHT_SYMTAB}
use Rattle.elf_image.specs.Refusals.{not_elf, not_riscv32_exec, compressed_code, header_tests, header_place, section_outside}
use Rattle.elf_image.specs.Reading.{refused_at, checked_header, checked_sections}
use Rattle.elf_image.proofs.Tables.{cond_none}

-- a rule that refused nothing, and what came after it
pub passed : {Y : Type 0} (rule : ElfRule) (place : Option ℕ) (next : Unit {0} → Result Y ElfFault) (y : Y) → (refused_at rule place >>= next) ≡ Ok y → (place ≡ None) × (next tt ≡ Ok y)
passed rule None next y e = (refl, e)
passed rule (Some p) next y e = absurd cc

pub passed_last : (rule : ElfRule) (place : Option ℕ) → refused_at rule place ≡ Ok tt → place ≡ None
passed_last rule None e = refl
passed_last rule (Some p) e = absurd cc

pub option_map_none : {X Y : Type 0} (f : X → Y) (o : Option X) → option_map f o ≡ None → o ≡ None
option_map_none f None e = refl
option_map_none f (Some x) e = absurd cc

-- no element passes the test
pub find_none : {X : Type 0} (p : X → Bool) (xs : List X) → find p xs ≡ None → (i : ℕ) (d : X) → i < length xs → p (get_or xs i d) ≡ false
find_none p [] e i d lt = absurd (omega arith)
find_none p (x ∷ xs) e zero d lt = (cond_none (p x) x (find p xs) e).0
find_none p (x ∷ xs) e (suc i) d lt = find_none p xs (cond_none (p x) x (find p xs) e).1 i d (omega arith)

pub within : (file : List ℕ) (offset size : ℕ) → lies_within file offset size ≡ true → 0 < size → offset + size ≤ length file
within file offset size e some = grind (arith, nat_tests)

headers_lie : (file : List ℕ) → header_place file ≡ None → (lies_within file (e_phoff file) (32 * e_phnum file) ≡ true) × (lies_within file (e_shoff file) (40 * e_shnum file) ≡ true)
unfolding header_place
headers_lie file none =
    let tests : List (Bool × ℕ) = header_tests file in
    let all = find_none (λ t. t.0) tests (option_map_none (λ t. t.1) (find (λ t. t.0) tests) none) in
    (not-false _ (all 1 (true, 0) (lit< tt)), not-false _ (all 3 (true, 0) (lit< tt)))

headers_within : (file : List ℕ) → checked_header file ≡ Ok tt → (lies_within file (e_phoff file) (32 * e_phnum file) ≡ true) × (lies_within file (e_shoff file) (40 * e_shnum file) ≡ true)
unfolding checked_header
headers_within file e =
    let a = passed NotElf (not_elf file) _ tt e in
    let b = passed NotRiscv32Exec (not_riscv32_exec file) _ tt a.1 in
    let c = passed CompressedCode (compressed_code file) _ tt b.1 in
    headers_lie file (passed_last HeaderPlace (header_place file) c.1)

pub programs_within : (file : List ℕ) → checked_header file ≡ Ok tt → 0 < e_phnum file → e_phoff file + 32 * e_phnum file ≤ length file
programs_within file e some = within file (e_phoff file) (32 * e_phnum file) (headers_within file e).0 (omega arith)

pub sections_within : (file : List ℕ) → checked_header file ≡ Ok tt → 0 < e_shnum file → e_shoff file + 40 * e_shnum file ≤ length file
sections_within file e some = within file (e_shoff file) (40 * e_shnum file) (headers_within file e).1 (omega arith)

-- ---- the symbol table

find_both : {X : Type 0} (p q : X → Bool) (xs : List X) (x : X) → find p xs ≡ Some x → find q xs ≡ None → (p x ≡ true) × (q x ≡ false)
find_both p q [] x found none = absurd cc
find_both {X} p q (y ∷ ys) x found none =
    let other = cond_none (q y) y (find q ys) none in
    go (p y) refl other.0 found (λ e. find_both p q ys x e other.1)
  where
    go : (b : Bool) → p y ≡ b → q y ≡ false → cond b (Some y) (find p ys) ≡ Some x → (find p ys ≡ Some x → (p x ≡ true) × (q x ≡ false)) → (p x ≡ true) × (q x ≡ false)
    go true is here e rest = let P : X → Type 0 = λ z. (p z ≡ true) × (q z ≡ false) in subst P (some_same y x e) (is, here)
    go false is here e rest = rest e

nothing_outside : (file : List ℕ) → checked_sections file ≡ Ok tt → section_outside file (section_headers file) ≡ None
unfolding checked_sections
nothing_outside file e = (passed SectionPlace (section_outside file (section_headers file)) _ tt e).0

table_tests : (file : List ℕ) (h : SectionHeader) → (h.sh_type == SHT_SYMTAB) ≡ true → (has_bytes h && not (lies_within file h.sh_offset h.sh_size)) ≡ false → lies_within file h.sh_offset h.sh_size ≡ true
table_tests file h kind inside = grind (arith, nat_tests)

table_lies : (file : List ℕ) (table : SectionHeader) → symbol_table file ≡ Some table → section_outside file (section_headers file) ≡ None → lies_within file table.sh_offset table.sh_size ≡ true
unfolding symbol_table section_outside
table_lies file table found none =
    let both = find_both (λ h. h.sh_type == SHT_SYMTAB) (λ h. has_bytes h && not (lies_within file h.sh_offset h.sh_size)) (section_headers file) table found (option_map_none (λ h. h.offset) _ none) in
    table_tests file table both.0 both.1

pub table_within : (file : List ℕ) (table : SectionHeader) → symbol_table file ≡ Some table → checked_sections file ≡ Ok tt → 0 < table.sh_size → table.sh_offset + table.sh_size ≤ length file
table_within file table found e some = within file table.sh_offset table.sh_size (table_lies file table found (nothing_outside file e)) some
