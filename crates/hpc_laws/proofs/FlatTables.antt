-- A top-down table knows its columns only by their number: its values are sums over all.
use Rattle.std.proofs.Common.{◌≡◌, ℕ, ◌+◌, ◌*◌, ◌-◌, ◌<◌, ◌==◌, ◌&&◌, Bool, true, false, cond, List, [], ◌∷◌, ◌++◌, length, map, filter, count_by, sum_by, All, decimal, refl, sym, ap, ◌∙◌, arith}
use Rattle.std.specs.List.{flat_map}
use Rattle.std.proofs.lemmas.List.{length-map}
use Rattle.std.proofs.lemmas.List.Elements.{All-map}
use Rattle.std.proofs.lemmas.List.Sums.{sum_by-append, sum_by-cons}
use Rattle.scope_types.specs.Alike.{Alike}
use Rattle.scope_types.specs.CallPaths.{ColumnPath}
use Rattle.scope_types.specs.Order.{path_order}
use Rattle.tree_types.specs.declared.content.Kind.{Kind}
use Rattle.tree_types.specs.declared.content.Kind.TheVariants.{Frame, Inclusive}
use Rattle.tree_types.specs.Ascending.{ascending}
use Rattle.tree_types.specs.Naming.{Naming}
use Rattle.tree_types.specs.Nodes.{nodes, own_scope}
use Rattle.tree_types.specs.Paths.{Path, after_prefix, prefixes, rest_passes}
use Rattle.tree_types.specs.TopDown.{header, label, node_row, over_columns, percent, table_row, top_down}
use Rattle.tree_types.specs.Values.{columns_below, count_below, counts_for}

-- ---- counts

pub count_cons : {X : Type 0} (t : X → Bool) (x : X) (xs : List X) → count_by t (x ∷ xs) ≡ cond (t x) 1 0 + count_by t xs
count_cons t x xs = sum_by-cons (λ x. cond (t x) 1 0) x xs

pub count_mapped : {X Y : Type 0} (t : Y → Bool) (f : X → Y) (xs : List X) → count_by t (map f xs) ≡ count_by (λ x. t (f x)) xs
count_mapped t f [] = refl
count_mapped t f (x ∷ xs) = count_cons t (f x) (map f xs) ∙ ap (λ (n : ℕ). cond (t (f x)) 1 0 + n) (count_mapped t f xs) ∙ sym (count_cons (λ x. t (f x)) x xs)

pub count_filtered : {X : Type 0} (t q : X → Bool) (xs : List X) → count_by q (filter t xs) ≡ count_by (λ x. t x && q x) xs
count_filtered t q [] = refl
count_filtered t q (x ∷ xs) = kept (t x) refl (count_filtered t q xs) ∙ sym (count_cons (λ x. t x && q x) x xs)
  where
    kept : (b : Bool) → t x ≡ b → count_by q (filter t xs) ≡ count_by (λ x. t x && q x) xs → count_by q (filter t (x ∷ xs)) ≡ cond (t x && q x) 1 0 + count_by (λ x. t x && q x) xs
    kept true is rest =
        ap (λ (c : Bool). count_by q (cond c (x ∷ filter t xs) (filter t xs))) is ∙ count_cons q x (filter t xs) ∙ ap (λ (n : ℕ). cond (q x) 1 0 + n) rest
        ∙ ap (λ (c : Bool). cond (c && q x) 1 0 + count_by (λ x. t x && q x) xs) (sym is)
    kept false is rest =
        let none : 0 + count_by (λ x. t x && q x) xs ≡ count_by (λ x. t x && q x) xs = omega arith in
        ap (λ (c : Bool). count_by q (cond c (x ∷ filter t xs) (filter t xs))) is ∙ rest ∙ sym none
        ∙ ap (λ (c : Bool). cond (c && q x) 1 0 + count_by (λ x. t x && q x) xs) (sym is)

pub count_both : {X : Type 0} (t : X → Bool) (xs ys : List X) → count_by t (xs ++ ys) ≡ count_by t xs + count_by t ys
count_both t xs ys = sum_by-append (λ x. cond (t x) 1 0) xs ys

count_parts : {X Y : Type 0} (t : Y → Bool) (f : X → List Y) (xs : List X) → count_by t (flat_map f xs) ≡ sum_by (λ x. count_by t (f x)) xs
count_parts t f [] = refl
count_parts t f (x ∷ xs) = count_both t (f x) (flat_map f xs) ∙ ap (λ (n : ℕ). count_by t (f x) + n) (count_parts t f xs) ∙ sym (sum_by-cons (λ x. count_by t (f x)) x xs)

sum_same : {X : Type 0} (f g : X → ℕ) (xs : List X) → ((x : X) → f x ≡ g x) → sum_by f xs ≡ sum_by g xs
sum_same f g xs same = ap (λ (h : _ → ℕ). sum_by h xs) (λ i x. same x i)

sum_times : {X : Type 0} (k : ℕ) (f : X → ℕ) (xs : List X) → sum_by (λ x. k * f x) xs ≡ k * sum_by f xs
sum_times k f [] = omega arith
sum_times k f (x ∷ xs) =
    let whole = sum_by-cons (λ x. k * f x) x xs in
    let own = sum_by-cons f x xs in
    let spread : k * (f x + sum_by f xs) ≡ k * f x + k * sum_by f xs = grind arith in
    whole ∙ ap (λ (n : ℕ). k * f x + n) (sum_times k f xs) ∙ sym spread ∙ ap (λ (n : ℕ). k * n) (sym own)

-- ---- the paths of one column

-- the same paths, all of column 0
abbrev pub flat : List ColumnPath → List ColumnPath
flat ps = map (λ p. record { column = 0; path = p.path }) ps

-- what the law of paths that are dealt out says
abbrev pub DealtLaw : Type 0
DealtLaw = (class : ColumnPath → ℕ) (n : ℕ) (ps : List ColumnPath) → All (λ p. class p < n) ps → Alike (flat_map (λ s. filter (λ p. class p == s) ps) (columns_below n)) ps

module _ (dealt : DealtLaw) where
  counts_flat : (test : Path → Bool) (columns : ℕ) (ps : List ColumnPath) (n : Path) → All (λ p. p.column < columns) ps → sum_by (λ column. count_below test ps column n) (columns_below columns) ≡ count_by (λ p. rest_passes test (after_prefix n p.path)) ps
  unfolding count_below
  counts_flat test columns ps n below =
      let passes : ColumnPath → Bool = λ p. rest_passes test (after_prefix n p.path) in
      sum_same (λ column. count_by (λ p. p.column == column && rest_passes test (after_prefix n p.path)) ps) (λ column. count_by passes (filter (λ p. p.column == column) ps)) (columns_below columns) (λ column. sym (count_filtered (λ p. p.column == column) passes ps))
      ∙ sym (count_parts passes (λ s. filter (λ p. p.column == s) ps) (columns_below columns))
      ∙ (dealt (λ p. p.column) columns ps below).same passes

  one_flat : (test : Path → Bool) (ps : List ColumnPath) (n : Path) → count_by (λ p. rest_passes test (after_prefix n p.path)) (flat ps) ≡ count_by (λ p. rest_passes test (after_prefix n p.path)) ps
  one_flat test ps n = count_mapped (λ (p : ColumnPath). rest_passes test (after_prefix n p.path)) (λ (p : ColumnPath). record { column = 0; path = p.path }) ps

  flat_below : (ps : List ColumnPath) → All (λ p. p.column < 1) (flat ps)
  flat_below ps = All-map (λ (p : ColumnPath). p.column < 1) (λ (p : ColumnPath). record { column = 0; path = p.path }) ps (λ k d lt. omega arith)

  values_flat : (period columns : ℕ) (ps : List ColumnPath) (n : Path) (kind : Kind) → All (λ p. p.column < columns) ps → over_columns period columns ps n kind ≡ over_columns period 1 (flat ps) n kind
  values_flat period columns ps n kind below =
      sum_times period (λ column. count_below (counts_for kind) ps column n) (columns_below columns)
      ∙ ap (λ (c : ℕ). period * c) (counts_flat (counts_for kind) columns ps n below ∙ sym (one_flat (counts_for kind) ps n) ∙ sym (counts_flat (counts_for kind) 1 (flat ps) n (flat_below ps)))
      ∙ sym (sum_times period (λ column. count_below (counts_for kind) (flat ps) column n) (columns_below 1))

  nodes_flat : (ps : List ColumnPath) → nodes ps ≡ nodes (flat ps)
  unfolding nodes
  nodes_flat ps = ap (ascending path_order) (same_prefixes ps)
    where
      same_prefixes : (qs : List ColumnPath) → flat_map (λ p. prefixes p.path) qs ≡ flat_map (λ p. prefixes p.path) (flat qs)
      same_prefixes [] = refl
      same_prefixes (q ∷ qs) = ap (λ (l : List Path). prefixes q.path ++ l) (same_prefixes qs)

  row_flat : (period columns : ℕ) (naming : Naming) (ps : List ColumnPath) (n : Path) → All (λ p. p.column < columns) ps → node_row period columns naming ps n ≡ node_row period 1 naming (flat ps) n
  row_flat period columns naming ps n below =
      let inclusive = values_flat period columns ps n Inclusive below in
      let frame = values_flat period columns ps n Frame below in
      let long = sym (length-map ps (λ (p : ColumnPath). record { column = 0; path = p.path })) in
      λ i. table_row (decimal (inclusive i)) (percent (inclusive i) (period * long i)) (decimal (frame i)) (length n - 1) (label naming (own_scope n))

  pub table_flat : (period columns : ℕ) (naming : Naming) (ps : List ColumnPath) → All (λ p. p.column < columns) ps → top_down period columns naming ps ≡ top_down period 1 naming (flat ps)
  unfolding top_down
  table_flat period columns naming ps below =
      let rows : node_row period columns naming ps ≡ node_row period 1 naming (flat ps) = λ i n. row_flat period columns naming ps n below i in
      λ i. header ++ flat_map (rows i) (nodes_flat ps i)
