-- The exclusive values of the callers table and of the flat table add up to the total.
use Rattle.std.proofs.Common.{◌≡◌, ℕ, zero, suc, ◌+◌, ◌*◌, ◌<◌, ◌&&◌, ◌||◌, nat_lt, Bool, true, false, List, [], ◌∷◌, ◌++◌, length, get_or, map, reverse, count_by, sum_by, All, true≢false, refl, sym, ap, ◌∙◌, append_assoc, arith}
use Rattle.std.specs.List.{flat_map}
use Rattle.std.proofs.lemmas.Bool.{and_parts, lt-ltb, ltb-true, or_left}
use Rattle.std.proofs.lemmas.List.{length-append, length-map, reverse-append}
use Rattle.std.proofs.lemmas.List.Elements.{All-append, All-head, All-map, All-nil, All-tail, All-weaker}
use Rattle.scope_types.specs.CallPaths.{ColumnPath}
use Rattle.scope_types.specs.Expansion.{FoundAt, call_path, expansion, frame_scopes, pc_of, root_of}
use Rattle.scope_types.specs.Raw.{Raw}
use Rattle.scope_types.specs.declared.scope.LineId.{LineId}
use Rattle.scope_types.specs.declared.scope.ProcId.{ProcId}
use Rattle.scope_types.specs.declared.scope.RootKind.{RootKind}
use Rattle.scope_types.specs.declared.scope.Scope.{Scope}
use Rattle.scope_types.specs.declared.scope.Scope.TheVariants.{Root, Proc, Inline, Call, Stmt}
use Rattle.tree_types.specs.Naming.{Naming}
use Rattle.tree_types.specs.Paths.{Path}
use Rattle.tree_types.proofs.Counting.{count_by-cons, one}
use Rattle.view_tables.specs.Callers.{call_chains, procs_up, tails}
use Rattle.view_tables.specs.Flat.{call_line, frame_at, frame_proc, frames, frames_up, line_file_item, line_item}
use Rattle.view_tables.specs.Sums.{HasFrame, ends_frame, exclusive_at, goes_on}
use Rattle.view_tables.specs.Views.{Item, Sequences, Procedure, ViewRow, begins_with, ends, rows_under}
use Rattle.view_tables.proofs.RowSums.{IsRow, add_up, are_rows, count_same, sum_same}

-- each element passes
all_counted : {X Y : Type 0} (t : Y → Bool) (f : X → Y) (xs : List X) → All (λ x. t (f x) ≡ true) xs → count_by t (map f xs) ≡ length xs
all_counted t f [] all = refl
all_counted {X} t f (x ∷ xs) all =
    let first = count_by-cons t (f x) (map f xs) in
    let here : one (t (f x)) ≡ 1 = ap one (All-head (λ (y : X). t (f y) ≡ true) x xs all) in
    let rest = all_counted t f xs (All-tail (λ (y : X). t (f y) ≡ true) x xs all) in
    omega (arith, first, here, rest)

-- ---- a frame has a procedure

frame_has_proc : (outer : Path) → 0 < length (frame_proc outer) → 0 < length (procs_up outer)
frame_has_proc [] some = some
frame_has_proc (Root kind ∷ outer) some = frame_has_proc outer some
frame_has_proc (Proc id ∷ outer) some = omega arith
frame_has_proc (Inline p line ∷ outer) some = frame_has_proc outer some
frame_has_proc (Call line ∷ outer) some = absurd (omega arith)
frame_has_proc (Stmt line ∷ outer) some = absurd (omega arith)

frame_below : (s : Scope) (outer : Path) → ends_frame (s ∷ outer) ≡ true → 0 < length (frame_proc outer)
frame_below s outer e = ltb-true 0 (length (frame_proc outer)) (and_parts (nat_lt 0 (length (call_line s))) (nat_lt 0 (length (frame_proc outer))) e).1

has_proc : (up : Path) → ends_frame up ≡ true → 0 < length (procs_up up)
has_proc [] e = absurd (true≢false (sym e))
has_proc (Root kind ∷ outer) e = frame_has_proc outer (frame_below (Root kind) outer e)
has_proc (Proc id ∷ outer) e = omega arith
has_proc (Inline p line ∷ outer) e = frame_has_proc outer (frame_below (Inline p line) outer e)
has_proc (Call line ∷ outer) e = frame_has_proc outer (frame_below (Call line) outer e)
has_proc (Stmt line ∷ outer) e = frame_has_proc outer (frame_below (Stmt line) outer e)

chain_goes_on : (items : List Item) → 0 < length items → goes_on [] (tails items) ≡ true
chain_goes_on [] some = absurd (omega arith)
chain_goes_on (a ∷ items) some = or_left (nat_lt 0 (length (a ∷ items))) false (lt-ltb 0 (length (a ∷ items)) (omega arith))

pub callers_add_up : (period : ℕ) (ps : List ColumnPath) → All HasFrame ps → sum_by (λ r. r.exclusive) (rows_under period (map call_chains ps) []) ≡ period * length ps
callers_add_up period ps all =
    add_up period (map call_chains ps) []
    ∙ ap (λ (n : ℕ). period * n) (all_counted (goes_on []) call_chains ps (All-weaker HasFrame (λ p. goes_on [] (call_chains p) ≡ true) (λ p e. chain_goes_on (procs_up (reverse p.path)) (has_proc (reverse p.path) e)) ps all))

-- ---- the flat table

abbrev IsTriple : List Item → Type 0
IsTriple items = length items ≡ 3

module _ (naming : Naming) where
  frame_triples : (line : LineId) (outer : Path) → All IsTriple (frame_at naming line outer)
  frame_triples line outer = All-map IsTriple (λ id. line_file_item naming line ∷ Procedure id ∷ line_item line ∷ []) (frame_proc outer) (λ i d lt. refl)

  scope_triples : (s : Scope) (outer : Path) → All IsTriple (flat_map (λ line. frame_at naming line outer) (call_line s))
  scope_triples (Root kind) outer = All-nil IsTriple
  scope_triples (Proc id) outer = All-nil IsTriple
  scope_triples (Inline p line) outer = All-nil IsTriple
  scope_triples (Call line) outer = All-append IsTriple (frame_at naming line outer) [] (frame_triples line outer) (All-nil IsTriple)
  scope_triples (Stmt line) outer = All-append IsTriple (frame_at naming line outer) [] (frame_triples line outer) (All-nil IsTriple)

  triples : (up : Path) → All IsTriple (frames_up naming up)
  triples [] = All-nil IsTriple
  triples (s ∷ outer) = All-append IsTriple (flat_map (λ line. frame_at naming line outer) (call_line s)) (frames_up naming outer) (scope_triples s outer) (triples outer)

  -- where the chain is shorter than each sequence, what begins with it goes on
  begun_goes_on : (chain : List Item) (sample : Sequences) → length chain < 3 → All IsTriple sample → goes_on chain sample ≡ ends chain sample
  begun_goes_on chain [] short all = refl
  begun_goes_on chain (items ∷ rest) short all =
      let long = All-head IsTriple items rest all in
      ap (λ b. (begins_with chain items && b) || false) (lt-ltb (length chain) (length items) (omega (arith, short, long))) ∙ ap (λ b. b || false) (and_true (begins_with chain items))
    where
      and_true : (b : Bool) → (b && true) ≡ b
      and_true true = refl
      and_true false = refl

  pub row_adds_up : (period : ℕ) (ps : List ColumnPath) (chain : List Item) → length chain < 3
      → sum_by (λ r. r.exclusive) (rows_under period (map (frames naming) ps) chain) ≡ period * count_by (ends chain) (map (frames naming) ps)
  row_adds_up period ps chain short =
      add_up period (map (frames naming) ps) chain
      ∙ ap (λ (n : ℕ). period * n) (count_same (goes_on chain) (ends chain) (map (frames naming) ps)
      (All-map (λ (sample : Sequences). goes_on chain sample ≡ ends chain sample) (frames naming) ps (λ i d lt. begun_goes_on chain (frames naming (get_or ps i d)) short (triples (reverse (get_or ps i d).path)))))

  module _ (period : ℕ) (ps : List ColumnPath) where
    abbrev samples : List Sequences
    samples = map (frames naming) ps

    level_adds_up : (level : ℕ) (chain : List Item) → length chain + level < 3 → exclusive_at period samples level chain ≡ period * count_by (ends chain) samples
    level_adds_up zero chain short = row_adds_up period ps chain (omega (arith, short))
    level_adds_up (suc level) chain short =
        sum_same (λ r. exclusive_at period samples level (chain ++ r.item ∷ [])) (λ r. r.exclusive) (rows_under period samples chain)
        (All-weaker (IsRow period samples chain) (λ r. exclusive_at period samples level (chain ++ r.item ∷ []) ≡ r.exclusive)
        (λ r is. level_adds_up level (chain ++ r.item ∷ []) (let long = length-append chain (r.item ∷ []) in omega (arith, long, short)) ∙ sym (ap (λ (x : ViewRow). x.exclusive) is))
        (rows_under period samples chain) (are_rows period samples chain))
        ∙ row_adds_up period ps chain (omega (arith, short))

    has_first : (up : Path) → ends_frame up ≡ true → ends [] (frames_up naming up) ≡ true
    has_first [] e = absurd (true≢false (sym e))
    has_first (s ∷ outer) e = by_scope s (and_parts (nat_lt 0 (length (call_line s))) (nat_lt 0 (length (frame_proc outer))) e).0 (frame_below s outer e)
      where
        first : (line : LineId) (ids : List ProcId) (rest : Sequences) → 0 < length ids → ends [] ((map (λ id. line_file_item naming line ∷ Procedure id ∷ line_item line ∷ []) ids ++ []) ++ rest) ≡ true
        first line [] rest some = absurd (omega arith)
        first line (id ∷ ids) rest some = refl

        by_scope : (s : Scope) → nat_lt 0 (length (call_line s)) ≡ true → 0 < length (frame_proc outer)
            → ends [] (flat_map (λ line. frame_at naming line outer) (call_line s) ++ frames_up naming outer) ≡ true
        by_scope (Root kind) line some = absurd (true≢false (sym line))
        by_scope (Proc id) line some = absurd (true≢false (sym line))
        by_scope (Inline p l) line some = absurd (true≢false (sym line))
        by_scope (Call l) line some = first l (frame_proc outer) (frames_up naming outer) some
        by_scope (Stmt l) line some = first l (frame_proc outer) (frames_up naming outer) some

    pub flat_adds_up : (level : ℕ) → All HasFrame ps → level < 3 → exclusive_at period samples level [] ≡ period * length ps
    flat_adds_up level all short =
        level_adds_up level [] (omega (arith, short))
        ∙ ap (λ (n : ℕ). period * n) (all_counted (ends []) (frames naming) ps (All-weaker HasFrame (λ p. ends [] (frames naming p) ≡ true) (λ p e. has_first (reverse p.path) e) ps all))

-- ---- the paths of a program

inlines_passed : (inlines : List (ProcId × LineId)) (rest : Path) → frame_proc (reverse (map (λ i. Inline i.0 i.1) inlines) ++ rest) ≡ frame_proc rest
inlines_passed [] rest = refl
inlines_passed (i ∷ inlines) rest =
    let others : Path = map (λ i. Inline i.0 i.1) inlines in
    ap (λ (p : Path). frame_proc (p ++ rest)) (reverse-append (Inline i.0 i.1 ∷ []) others)
    ∙ ap frame_proc (append_assoc (reverse others) (Inline i.0 i.1 ∷ []) rest) ∙ inlines_passed inlines (Inline i.0 i.1 ∷ rest)

frame_ends : (before : Path) (found : FoundAt) → ends_frame (reverse (before ++ frame_scopes Stmt found)) ≡ true
frame_ends before found =
    let inlines : Path = map (λ i. Inline i.0 i.1) found.inlines in
    let front : Path = Proc found.procedure ∷ inlines in
    let last : Path = Stmt found.line ∷ [] in
    let turned : reverse (before ++ (front ++ last)) ≡ Stmt found.line ∷ reverse (before ++ front) =
    ap reverse (sym (append_assoc before front last)) ∙ reverse-append (before ++ front) last in
    let outer : reverse (before ++ front) ≡ reverse inlines ++ (Proc found.procedure ∷ reverse before) =
    reverse-append before front ∙ ap (λ (p : Path). p ++ reverse before) (reverse-append (Proc found.procedure ∷ []) inlines)
    ∙ append_assoc (reverse inlines) (Proc found.procedure ∷ []) (reverse before) in
    ap ends_frame turned
    ∙ ap (λ (p : Path). nat_lt 0 (length (frame_proc p))) outer
    ∙ ap (λ (ids : List ProcId). nat_lt 0 (length ids)) (inlines_passed found.inlines (Proc found.procedure ∷ reverse before))

expansion_ends : (found_at : ℕ → FoundAt) (root : RootKind) (pcs : List ℕ) → 0 < length pcs → ends_frame (reverse (expansion found_at root pcs)) ≡ true
expansion_ends found_at root [] some = absurd (omega arith)
expansion_ends found_at root (pc ∷ callers) some = frame_ends (Root root ∷ flat_map (λ caller. frame_scopes Call (found_at caller)) (reverse callers)) (found_at pc)

pub paths_have_frames : (found_at : ℕ → FoundAt) (raw : Raw) (column : ℕ) → 0 < length raw.frames → HasFrame (record { column = column; path = call_path found_at raw })
paths_have_frames found_at raw column some =
    (let long = length-map raw.frames pc_of in expansion_ends found_at (root_of raw.end) (map pc_of raw.frames) (omega (arith, long, some)))
