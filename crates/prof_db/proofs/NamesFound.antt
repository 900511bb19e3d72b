-- The names of a content are looked up by the index of the first that fits.
use Rattle.std.proofs.Common.{◌≡◌, ℕ, ◌<◌, ◌≤◌, Bool, true, false, cond, List, [], ◌∷◌, length, get_or, Option, Some, None, is_eq, find, slice_get, refl, sym, ap, ◌∙◌, arith}
use Rattle.std.specs.Prelude.{position}
use Rattle.std.specs.List.{position_or_len}
use Rattle.std.proofs.lemmas.Grind.{common_steps}
use Rattle.std.proofs.lemmas.List.Folds.{find_at}
use Rattle.std.proofs.lemmas.Option.{slice_get-get_or, slice_get_past}
use Rattle.scope_types.specs.declared.scope.ProcId.{ProcId}
use Rattle.tree_types.specs.declared.content.ProcName.{ProcName}
use Rattle.tree_types.specs.declared.content.FileName.{FileName}
use Rattle.tree_types.specs.Naming.{proc_order, file_order}
use Rattle.tree_types.specs.Database.{proc_named, file_named}

-- the first that fits is where it was found
found_at : {X : Type 0} (t : X → Bool) (xs : List X) (i : ℕ) (d : X) → position t xs ≡ Some i → i < length xs → find t xs ≡ Some (get_or xs i d)
found_at t xs i d e lt =
    let at : position_or_len t xs ≡ i = grind (arith, common_steps) in
    find_at t xs ∙ ap (slice_get xs) at ∙ slice_get-get_or xs i d lt

found_none : {X : Type 0} (t : X → Bool) (xs : List X) → position t xs ≡ None → find t xs ≡ None
found_none t xs e =
    let past : length xs ≤ position_or_len t xs = grind (arith, common_steps) in
    find_at t xs ∙ slice_get_past xs (position_or_len t xs) past

abbrev proc_name_or_none : Option ProcName → List ℕ
proc_name_or_none (Some p) = p.name
proc_name_or_none None = []

abbrev file_name_or_none : Option FileName → List ℕ
file_name_or_none (Some f) = f.name
file_name_or_none None = []

proc_by_find : (ps : List ProcName) (id : ProcId) → proc_name_or_none (find (λ p. is_eq (proc_order id p.id)) ps) ≡ proc_named ps id
proc_by_find [] id = refl
proc_by_find (p ∷ ps) id =
    elim (is_eq (proc_order id p.id)) as (λ b. proc_name_or_none (cond b (Some p) (find (λ p. is_eq (proc_order id p.id)) ps)) ≡ cond b p.name (proc_named ps id)) [ true ↦ refl | false ↦ proc_by_find ps id ]

file_by_find : (fs : List FileName) (table file : ℕ) → file_name_or_none (find (λ f. is_eq (file_order (table, file) (f.table, f.file))) fs) ≡ file_named fs table file
file_by_find [] table file = refl
file_by_find (f ∷ fs) table file =
    elim (is_eq (file_order (table, file) (f.table, f.file))) as (λ b. file_name_or_none (cond b (Some f) (find (λ f. is_eq (file_order (table, file) (f.table, f.file))) fs)) ≡ cond b f.name (file_named fs table file)) [ true ↦ refl | false ↦ file_by_find fs table file ]

pub proc_is : (ps : List ProcName) (id : ProcId) (i : ℕ) (p : ProcName) → position (λ p. is_eq (proc_order id p.id)) ps ≡ Some i → i < length ps → p ≡ get_or ps i p → p.name ≡ proc_named ps id
proc_is ps id i p found lt at =
    ap (λ (p : ProcName). p.name) at ∙ sym (ap proc_name_or_none (found_at (λ p. is_eq (proc_order id p.id)) ps i p found lt)) ∙ proc_by_find ps id

pub proc_none : (ps : List ProcName) (id : ProcId) → position (λ p. is_eq (proc_order id p.id)) ps ≡ None → [] ≡ proc_named ps id
proc_none ps id found = sym (ap proc_name_or_none (found_none (λ p. is_eq (proc_order id p.id)) ps found)) ∙ proc_by_find ps id

pub file_is : (fs : List FileName) (table file : ℕ) (i : ℕ) (f : FileName) → position (λ f. is_eq (file_order (table, file) (f.table, f.file))) fs ≡ Some i → i < length fs → f ≡ get_or fs i f → f.name ≡ file_named fs table file
file_is fs table file i f found lt at =
    ap (λ (f : FileName). f.name) at ∙ sym (ap file_name_or_none (found_at (λ f. is_eq (file_order (table, file) (f.table, f.file))) fs i f found lt)) ∙ file_by_find fs table file

pub file_none : (fs : List FileName) (table file : ℕ) → position (λ f. is_eq (file_order (table, file) (f.table, f.file))) fs ≡ None → [] ≡ file_named fs table file
file_none fs table file found = sym (ap file_name_or_none (found_none (λ f. is_eq (file_order (table, file) (f.table, f.file))) fs found)) ∙ file_by_find fs table file

pub ruleset proc_steps = (proc_is, proc_none)

pub ruleset file_steps = (file_is, file_none)
