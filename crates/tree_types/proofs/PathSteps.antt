-- What the paths of a list of nodes are, one by one: each is its parent's, and one scope more.
use Rattle.std.proofs.Common.{◌≡◌, ℕ, zero, suc, ◌+◌, ◌<◌, ◌≤◌, cond, List, [], ◌∷◌, ◌++◌, length, get_or, take, drop, fold, refl, sym, ap, ◌∙◌, arith, length-append, take-append-drop}
use Rattle.std.specs.Prelude.{◌≢◌}
use Rattle.std.proofs.lemmas.Bool.{eq-eqb, ne_eqb}
use Rattle.std.proofs.lemmas.List.Sums.{fold-append}
use Rattle.tree_types.specs.declared.content.Node.{Node}
use Rattle.tree_types.specs.Nodes.{no_parent}
use Rattle.tree_types.specs.Paths.{Path}
use Rattle.tree_types.specs.PathsOf.{path_below, tree_paths}

abbrev grow : List Path → Node → List Path
grow paths n = paths ++ path_below paths n ∷ []

one_longer : (paths : List Path) (n : Node) → length (grow paths n) ≡ length paths + 1
one_longer paths n = length-append paths (path_below paths n ∷ [])

grown_length : (ns : List Node) (paths : List Path) → length (fold grow paths ns) ≡ length paths + length ns
grown_length [] paths = omega arith
grown_length (n ∷ ns) paths = let a = grown_length ns (grow paths n) in let b = one_longer paths n in omega arith

first_kept : (xs : List Path) (x : Path) (k : ℕ) → k < length xs → get_or (xs ++ x ∷ []) k [] ≡ get_or xs k []
first_kept [] x k lt = absurd (omega arith)
first_kept (y ∷ xs) x zero lt = refl
first_kept (y ∷ xs) x (suc k) lt = first_kept xs x k (omega arith)

last_is : (xs : List Path) (x : Path) → get_or (xs ++ x ∷ []) (length xs) [] ≡ x
last_is [] x = refl
last_is (y ∷ xs) x = last_is xs x

kept : (ns : List Node) (paths : List Path) (k : ℕ) → k < length paths → get_or (fold grow paths ns) k [] ≡ get_or paths k []
kept [] paths k lt = refl
kept (n ∷ ns) paths k lt =
    let long = one_longer paths n in
    kept ns (grow paths n) k (omega arith) ∙ first_kept paths (path_below paths n) k lt

grown_at : (ns : List Node) (paths : List Path) (i : ℕ) (d : Node) → i < length ns
    → get_or (fold grow paths ns) (length paths + i) [] ≡ path_below (fold grow paths (take i ns)) (get_or ns i d)
grown_at [] paths i d lt = absurd (omega arith)
grown_at (n ∷ ns) paths zero d lt =
    let long = one_longer paths n in
    let here : length paths + 0 ≡ length paths = omega arith in
    ap (λ (k : ℕ). get_or (fold grow (grow paths n) ns) k []) here
    ∙ kept ns (grow paths n) (length paths) (omega arith) ∙ last_is paths (path_below paths n)
grown_at (n ∷ ns) paths (suc i) d lt =
    let long = one_longer paths n in
    let here : length paths + suc i ≡ length (grow paths n) + i = omega arith in
    ap (λ (k : ℕ). get_or (fold grow (grow paths n) ns) k []) here ∙ grown_at ns (grow paths n) i d (omega arith)

path_at : (ns : List Node) (i : ℕ) (d : Node) → i < length ns → get_or (tree_paths ns) i [] ≡ path_below (fold grow [] (take i ns)) (get_or ns i d)
unfolding tree_paths
path_at ns i d lt = let none : 0 + i ≡ i = omega arith in ap (λ (k : ℕ). get_or (fold grow [] ns) k []) (sym none) ∙ grown_at ns [] i d lt

pub as_many_paths : (ns : List Node) → length (tree_paths ns) ≡ length ns
unfolding tree_paths
as_many_paths ns = let long = grown_length ns [] in omega arith

part_same : (ns : List Node) (i k : ℕ) → k < i → i < length ns → get_or (fold grow [] (take i ns)) k [] ≡ get_or (tree_paths ns) k []
unfolding tree_paths
part_same ns i k lt inside =
    let parts : fold grow [] ns ≡ fold grow (fold grow [] (take i ns)) (drop i ns) =
    ap (fold grow []) (sym (take-append-drop i ns)) ∙ fold-append grow [] (take i ns) (drop i ns) in
    let long = grown_length (take i ns) [] in
    let all = ap length (take-append-drop i ns) in
    let front : length (take i ns) ≡ i = take_length ns i (omega arith) in
    sym (ap (λ (paths : List Path). get_or paths k []) parts ∙ kept (drop i ns) (fold grow [] (take i ns)) k (omega arith))
  where
    take_length : (ns : List Node) (i : ℕ) → i ≤ length ns → length (take i ns) ≡ i
    take_length ns zero le = refl
    take_length [] (suc i) le = absurd (omega arith)
    take_length (n ∷ ns) (suc i) le = (let rest = take_length ns i (omega arith) in omega arith)

-- a root's path is its scope alone
pub root_path : (ns : List Node) (i : ℕ) (d : Node) → i < length ns → (get_or ns i d).parent ≡ no_parent
    → get_or (tree_paths ns) i [] ≡ (get_or ns i d).scope ∷ []
root_path ns i d lt root =
    path_at ns i d lt
    ∙ ap (λ b. cond b [] (get_or (fold grow [] (take i ns)) (get_or ns i d).parent []) ++ (get_or ns i d).scope ∷ []) (eq-eqb (get_or ns i d).parent no_parent root)

-- any other node's path is its parent's, and its scope
pub inner_path : (ns : List Node) (i : ℕ) (d : Node) → i < length ns → (get_or ns i d).parent ≢ no_parent → (get_or ns i d).parent < i
    → get_or (tree_paths ns) i [] ≡ get_or (tree_paths ns) (get_or ns i d).parent [] ++ (get_or ns i d).scope ∷ []
inner_path ns i d lt inner before =
    path_at ns i d lt
    ∙ ap (λ b. cond b [] (get_or (fold grow [] (take i ns)) (get_or ns i d).parent []) ++ (get_or ns i d).scope ∷ []) (ne_eqb (get_or ns i d).parent no_parent inner)
    ∙ ap (λ (p : Path). p ++ (get_or ns i d).scope ∷ []) (part_same ns i (get_or ns i d).parent before lt)
