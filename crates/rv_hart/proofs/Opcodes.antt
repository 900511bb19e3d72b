-- The opcode of a word tells the event of its instruction.
use Rattle.std.proofs.Common.{◌≡◌, ◌≢◌, ℕ, ◌==◌, Bool, true, false, cond, List, [], ◌∷◌, Option, Some, None, find, refl, sym, ap, subst, ◌∙◌}
use Rattle.std.specs.List.{AllByRecursion}
use Rattle.std.proofs.lemmas.Bool.{eqb-true, and_parts}
use Rattle.rv_table.specs.declared.inst.Op.{Op}
use Rattle.rv_table.specs.declared.inst.Op.TheVariants as ops
use Rattle.rv_table.specs.declared.inst.Inst.{Inst}
use Rattle.rv_table.specs.Fields.{opcode, Format, R, I, S, B, U, J, shift, bare, laid_out}
use Rattle.rv_table.specs.Table.{Row, table, has_encoding, selects, by_row}
use Rattle.rv_hart.specs.Events.{event_by, inst_event, event_by_opcode}
use Rattle.rv_hart.specs.Step.{State, branch_test}

laid-operation : (format : Format) (op : Op) (word : ℕ) → (laid_out format op word).op ≡ op
laid-operation R op word = refl
laid-operation I op word = refl
laid-operation S op word = refl
laid-operation B op word = refl
laid-operation U op word = refl
laid-operation J op word = refl
laid-operation shift op word = refl
laid-operation bare op word = refl

-- the row's code tells the event
abbrev Tells : Row → Type 0
Tells row = (inst : Inst) (s : State) → event_by row.operation (branch_test row.operation inst s) ≡ event_by_opcode row.code (branch_test row.operation inst s)

all-tell : AllByRecursion Tells table
all-tell = (λ inst s. refl, (λ inst s. refl, (λ inst s. refl, (λ inst s. refl, (λ inst s. refl, (λ inst s. refl, (λ inst s. refl, (λ inst s. refl, (λ inst s. refl, (λ inst s. refl, (λ inst s. refl, (λ inst s. refl, (λ inst s. refl, (λ inst s. refl, (λ inst s. refl, (λ inst s. refl, (λ inst s. refl, (λ inst s. refl, (λ inst s. refl, (λ inst s. refl, (λ inst s. refl, (λ inst s. refl, (λ inst s. refl, (λ inst s. refl, (λ inst s. refl, (λ inst s. refl, (λ inst s. refl, (λ inst s. refl, (λ inst s. refl, (λ inst s. refl, (λ inst s. refl, (λ inst s. refl, (λ inst s. refl, (λ inst s. refl, (λ inst s. refl, (λ inst s. refl, (λ inst s. refl, (λ inst s. refl, (λ inst s. refl, (λ inst s. refl, (λ inst s. refl, (λ inst s. refl, (λ inst s. refl, (λ inst s. refl, (λ inst s. refl, (λ inst s. refl, (λ inst s. refl, (λ inst s. refl, tt))))))))))))))))))))))))))))))))))))))))))))))))

-- what is found is a row that has the word's encoding
found-row : (P : Row → Type 0) (p : Row → Bool) (rows : List Row) (row : Row) → AllByRecursion P rows → find p rows ≡ Some row → P row × (p row ≡ true)
found-row P p [] row all found = absurd cc
found-row P p (x ∷ rows) row all found = by_case (p x) refl (found-row P p rows row all.1)
  where
    by_case : (b : Bool) → p x ≡ b → (find p rows ≡ Some row → P row × (p row ≡ true)) → P row × (p row ≡ true)
    by_case true e later =
        let here : Some x ≡ Some row = sym (ap (λ (t : Bool). cond t (Some x) (find p rows)) e) ∙ found in
        let same : x ≡ row = cc in
        (subst P same all.0, subst (λ (r : Row). p r ≡ true) same e)
    by_case false e later = later (sym (ap (λ (t : Bool). cond t (Some x) (find p rows)) e) ∙ found)

told : (word : ℕ) (s : State) (found : Option Row) → find (has_encoding word) table ≡ found → (by_row word found).op ≢ ops.Illegal
    → inst_event (by_row word found) s ≡ event_by_opcode (opcode word) (branch_test (by_row word found).op (by_row word found) s)
told word s None is other = absurd (other refl)
told word s (Some row) is other =
    let inst : Inst = laid_out row.format row.operation word in
    let has : Tells row × (has_encoding word row ≡ true) = found-row Tells (has_encoding word) table row all-tell is in
    let code : opcode word ≡ row.code = eqb-true (opcode word) row.code (and_parts (opcode word == row.code) (selects word row.selector) has.1).0 in
    subst (λ (op : Op). event_by op (branch_test op inst s) ≡ event_by_opcode (opcode word) (branch_test op inst s)) (sym (laid-operation row.format row.operation word))
    (has.0 inst s ∙ ap (λ (n : ℕ). event_by_opcode n (branch_test row.operation inst s)) (sym code))

pub opcode-tells : (word : ℕ) (s : State) → (by_row word (find (has_encoding word) table)).op ≢ ops.Illegal
    → inst_event (by_row word (find (has_encoding word) table)) s ≡ event_by_opcode (opcode word) (branch_test (by_row word (find (has_encoding word) table)).op (by_row word (find (has_encoding word) table)) s)
opcode-tells word s other = told word s (find (has_encoding word) table) refl other
