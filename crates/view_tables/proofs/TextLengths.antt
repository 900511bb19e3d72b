-- The lengths of the parts of a row of the top-down table.
use Rattle.std.proofs.Common.{◌≡◌, ℕ, ◌+◌, ◌-◌, ◌*◌, ◌^◌, List, [], ◌∷◌, ◌++◌, length, codes, decimal, refl, ap, ◌∙◌, arith, length-append}
use Rattle.std.specs.Prelude.{min}
use Rattle.std.proofs.lemmas.Fmt.{length-decimal-le}
use Rattle.std.proofs.lemmas.List.{length-map, length-replicate}
use Rattle.itoa.proofs.Decimal.{length_one, length_pair, length_two}
use Rattle.scope_types.specs.declared.scope.ProcId.{ProcId}
use Rattle.scope_types.specs.declared.scope.LineId.{LineId}
use Rattle.scope_types.specs.declared.scope.LineId.TheVariants.{Row, Address}
use Rattle.scope_types.specs.declared.scope.Scope.TheVariants.{Proc, Inline, Call}
use Rattle.tree_types.specs.Naming.{Naming}
use Rattle.prof_bytes.specs.Printing.{printed}
use Rattle.tree_types.specs.TopDown.{label, line_label, spaces}
use Rattle.view_tables.specs.private.top.Rows.{capped}
use Rattle.view_tables.proofs.CellWidths.{three_long}

pub capped_sum : (a b : ℕ) → min (capped a + capped b) (2 ^ 64 - 1) ≡ capped (a + b)
capped_sum a b = omega arith

pub capped_add : (a b : ℕ) → min (capped a + b) (2 ^ 64 - 1) ≡ capped (a + b)
capped_add a b = omega arith

long_printed : (name : List ℕ) → length (printed name) ≡ length name
long_printed name = length-map name _

pub row_parts : (values name : List ℕ) (level : ℕ) → length values ≡ 40 → length (values ++ spaces (2 + 2 * level) ++ name ++ 10 ∷ []) ≡ length name + (43 + 2 * level)
row_parts values name level forty =
    length-append (values ++ spaces (2 + 2 * level) ++ name) (10 ∷ [])
    ∙ ap (λ (k : ℕ). k + 1) (three_long values (spaces (2 + 2 * level)) name 40 (2 + 2 * level) (length name) forty (length-replicate {A = ℕ} (2 + 2 * level) 32) refl)
    ∙ turned (2 * level) (length name)
  where
    turned : (l n : ℕ) → 40 + (2 + l) + n + 1 ≡ n + (43 + l)
    turned l n = omega arith

-- ---- labels

pub row_line_length : (naming : Naming) (table file line : ℕ) → length (line_label naming (Row table file line)) ≡ length (naming.file_name table file) + (1 + length (decimal line))
row_line_length naming table file line =
    three_long (printed (naming.file_name table file)) (codes ":") (decimal line) _ 1 _ (long_printed (naming.file_name table file)) refl refl ∙ grouped (length (naming.file_name table file)) (length (decimal line))
  where
    grouped : (n k : ℕ) → n + 1 + k ≡ n + (1 + k)
    grouped n k = omega arith

pub address_length : (naming : Naming) (address : ℕ) → length (line_label naming (Address address)) ≡ 10
address_length naming address = refl

pub proc_length : (naming : Naming) (id : ProcId) → length (label naming (Proc id)) ≡ length (naming.proc_name id)
proc_length naming id = long_printed (naming.proc_name id)

pub call_length : (naming : Naming) (line : LineId) → length (label naming (Call line)) ≡ length (line_label naming line) + 8
call_length naming line = long (codes "call at ") (line_label naming line) refl
  where
    long : (a b : List ℕ) → length a ≡ 8 → length (a ++ b) ≡ length b + 8
    long a b e = let l = length-append a b in omega (arith, l, e)

pub inline_length : (naming : Naming) (callee : ProcId) (call : LineId) → length (label naming (Inline callee call)) ≡ length (naming.proc_name callee) + 15 + length (line_label naming call)
inline_length naming callee call =
    long (codes "[I] ") (printed (naming.proc_name callee)) (codes " called at ") (line_label naming call) (length (naming.proc_name callee)) refl (long_printed (naming.proc_name callee)) refl
  where
    long : (a b c d : List ℕ) (x : ℕ) → length a ≡ 4 → length b ≡ x → length c ≡ 11 → length (a ++ b ++ c ++ d) ≡ x + 15 + length d
    long a b c d x ea eb ec = let l = length-append (a ++ b ++ c) d in let m = three_long a b c 4 x 11 ea eb ec in omega (arith, l, m)

pub ruleset label_lengths = (row_line_length, address_length, proc_length, call_length, inline_length, capped_sum, capped_add)

pub ruleset digit_steps = (length_one, length_two, length_pair, length-decimal-le)
