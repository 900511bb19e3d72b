-- What was read spells the names, the indices and the scopes that its content has.
use Rattle.std.proofs.Common.{◌≡◌, ℕ, ◌<◌, ◌==◌, nat_lt, Ok, inl, inr, true, cond, List, [], ◌∷◌, ◌++◌, length, get_or, map, is_eq, All, AllPairs, Less, Ordering, refl, sym, ap, subst, ◌∙◌, arith}
use Rattle.std.specs.Cmp.{IsTotalOrder}
use Rattle.std.specs.List.{flat_map, position_or_len}
use Rattle.std.proofs.lemmas.Bool.{and_parts, cases_eq, eq-eqb, ltb-true, ne_eqb}
use Rattle.std.proofs.lemmas.Cmp.{tied_itself}
use Rattle.std.proofs.lemmas.List.{get_or_default, get_or-map, length-map}
use Rattle.std.proofs.lemmas.List.Folds.{flat_map-map}
use Rattle.std.proofs.lemmas.List.Sums.{position_or_len_is}
use Rattle.scope_types.specs.Words.{root_words}
use Rattle.scope_types.specs.declared.scope.ProcId.TheVariants.{Nameless}
use Rattle.scope_types.specs.declared.scope.RootKind.TheVariants.{Thread, Partial}
use Rattle.tree_types.specs.Naming.{file_order, proc_order}
use Rattle.tree_types.specs.declared.content.FileName.{FileName}
use Rattle.tree_types.specs.declared.content.Names.{Names}
use Rattle.tree_types.specs.declared.content.ProcName.{ProcName}
use Rattle.tree_types.proofs.NamesAgain.{file_order_total, proc_order_total}
use Rattle.prof_db.specs.declared.raw.RawFile.{RawFile}
use Rattle.prof_db.specs.declared.raw.RawLine.{RawLine}
use Rattle.prof_db.specs.declared.raw.RawLine.TheVariants as raw_lines
use Rattle.prof_db.specs.declared.raw.RawNode.{RawNode}
use Rattle.prof_db.specs.declared.raw.RawProc.{RawProc}
use Rattle.prof_db.specs.declared.raw.RawScope.{RawScope}
use Rattle.prof_db.specs.declared.raw.RawScope.TheVariants as raws
use Rattle.prof_db.specs.NameRules.{file_name, is_valid_proc, raw_proc_name, procs_kept}
use Rattle.prof_db.specs.NodeRules.{file_numbered, in_range, line_in_range, line_id, node_of, proc_numbered, scope_of}
use Rattle.prof_db.specs.Spelling.{file_name_bytes, file_index, line_numbers, node_bytes, proc_index, procedure_bytes, scope_numbers, text_bytes}
use Rattle.prof_bytes.specs.Number.{word, words}
use Rattle.prof_db.proofs.BackItems.{raw_file_bytes, raw_line_numbers, raw_node_bytes, raw_proc_bytes, raw_scope_numbers}
use Rattle.prof_db.proofs.OwnNames.{is_proc_at, lists_same, turned, words_are}

-- ---- procedures and files

pub procs_spelled : (procs : List RawProc) (used : List ℕ) → procs_kept procs used ≡ Ok tt → flat_map procedure_bytes (map raw_proc_name procs) ≡ flat_map raw_proc_bytes procs
procs_spelled procs used kept =
    let long = length-map procs raw_proc_name in
    lists_same procedure_bytes raw_proc_bytes (map raw_proc_name procs) procs long (λ i d e lt.
    let inside : i < length procs = omega (arith, lt, long) in
    let ok : is_valid_proc (get_or procs i e) ≡ true =
    subst (λ (p : RawProc). is_valid_proc p ≡ true) (get_or_default procs i (record { offset = 0; kind = 0; number = 0; name = [] }) e inside) (is_proc_at procs used kept i inside) in
    ap procedure_bytes (get_or-map raw_proc_name procs i e d inside)
    ∙ ap (λ (w : List ℕ). words w ++ text_bytes (get_or procs i e).name) (words_are (get_or procs i e) ok))

pub files_spelled : (files : List RawFile) → flat_map file_name_bytes (map file_name files) ≡ flat_map raw_file_bytes files
files_spelled files = flat_map-map file_name_bytes file_name files

-- ---- indices

-- an entry's key is found at its own place
pub position_own : {X K : Type 0} {R : K → K → Ordering} (total : IsTotalOrder R) (key : X → K) (xs : List X) (j : ℕ) (d : X)
    → AllPairs (λ x y. R (key x) (key y) ≡ Less) xs → j < length xs → position_or_len (λ x. is_eq (R (key (get_or xs j d)) (key x))) xs ≡ j
position_own {R = R} total key xs j d up lt =
    position_or_len_is (λ x. is_eq (R (key (get_or xs j d)) (key x))) xs j d (omega (arith, lt))
    (λ k below. turned total (key (get_or xs k d)) (key (get_or xs j d)) (up k j d below lt))
    (λ k. ap is_eq (tied_itself total (key (get_or xs j d))))

module _ (names : Names) (procs_up : AllPairs (λ p q. proc_order p.id q.id ≡ Less) names.procs) (files_up : AllPairs (λ f g. file_order (f.table, f.file) (g.table, g.file) ≡ Less) names.files) where
  proc_found : (p : ℕ) → p < length names.procs → proc_index names (proc_numbered names p) ≡ p
  proc_found p lt = position_own proc_order_total (λ (q : ProcName). q.id) names.procs p (record { id = Nameless; name = [] }) procs_up lt

  file_found : (f : ℕ) → f < length names.files → file_index names (file_numbered names f).table (file_numbered names f).file ≡ f
  file_found f lt = position_own file_order_total (λ (g : FileName). (g.table, g.file)) names.files f (record { table = 0; file = 0; name = [] }) files_up lt

  -- ---- scopes

  line_again : (line : RawLine) → line_in_range (length names.files) line ≡ true → line_numbers names (line_id names line) ≡ raw_line_numbers line
  line_again (raw_lines.Row f line) ok = λ i. 0 ∷ file_found f (ltb-true f (length names.files) ok) i ∷ line ∷ []
  line_again (raw_lines.Address address) ok = refl

  root_again : (kind : ℕ) → kind < 2 → root_words (cond (kind == 0) Thread Partial) ≡ kind ∷ []
  root_again kind low = elim (cases_eq kind 0) [
    | inl none ↦ ap (λ b. root_words (cond b Thread Partial)) (eq-eqb kind 0 none) ∙ (λ i. sym none i ∷ [])
    | inr other ↦ (let one : kind ≡ 1 = omega arith in ap (λ b. root_words (cond b Thread Partial)) (ne_eqb kind 0 other) ∙ (λ i. sym one i ∷ []))
  ]

  scope_again : (s : RawScope) → in_range (length names.procs) (length names.files) s ≡ true → scope_numbers names (scope_of names s) ≡ raw_scope_numbers s
  scope_again (raws.Root kind) ok = ap (λ (l : List ℕ). 0 ∷ l) (root_again kind (ltb-true kind 2 ok))
  scope_again (raws.Proc p) ok = λ i. 1 ∷ proc_found p (ltb-true p (length names.procs) ok) i ∷ []
  scope_again (raws.Inline p line) ok =
      let both = and_parts (nat_lt p (length names.procs)) (line_in_range (length names.files) line) ok in
      λ i. 2 ∷ proc_found p (ltb-true p (length names.procs) both.0) i ∷ line_again line both.1 i
  scope_again (raws.Call line) ok = ap (λ (l : List ℕ). 3 ∷ l) (line_again line ok)
  scope_again (raws.Stmt line) ok = ap (λ (l : List ℕ). 4 ∷ l) (line_again line ok)

  pub nodes_spelled : (nodes : List RawNode) → All (λ r. in_range (length names.procs) (length names.files) r.scope ≡ true) nodes
      → flat_map (node_bytes names) (map (node_of names) nodes) ≡ flat_map raw_node_bytes nodes
  nodes_spelled nodes ranged =
      flat_map-map (node_bytes names) (node_of names) nodes
      ∙ lists_same (λ (r : RawNode). node_bytes names (node_of names r)) raw_node_bytes nodes nodes refl (λ i d e lt.
      ap (λ (r : RawNode). node_bytes names (node_of names r)) (get_or_default nodes i d e lt)
      ∙ ap (λ (l : List ℕ). word (get_or nodes i e).parent ++ words l) (scope_again (get_or nodes i e).scope (ranged i e lt)))
