-- The scopes of a call path: each may lie under the one before it, and a statement is the last.
use Rattle.std.proofs.Common.{◌≡◌, true, false, [], ◌∷◌, ◌++◌, true≢false, refl, sym, ◌∙◌}
use Rattle.std.proofs.lemmas.Bool.{and_parts}
use Rattle.scope_types.specs.declared.scope.Scope.{Scope}
use Rattle.scope_types.specs.declared.scope.Scope.TheVariants.{Root, Proc, Inline, Call, Stmt}
use Rattle.tree_types.specs.Nodes.{own_scope}
use Rattle.tree_types.specs.Paths.{Path}
use Rattle.prof_db.specs.NodeRules.{is_root, is_statement, stands_under}
use Rattle.prof_db.specs.Stored.{is_call_path, leads_to_statement}

-- a path begins with a root
pub begins : (s : Scope) (rest : Path) → is_call_path (s ∷ rest) ≡ true → is_root s ≡ true
begins s rest e = (and_parts (is_root s) (leads_to_statement s rest) e).0

leads : (s : Scope) (rest : Path) → is_call_path (s ∷ rest) ≡ true → leads_to_statement s rest ≡ true
leads s rest e = (and_parts (is_root s) (leads_to_statement s rest) e).1

stands_below : (above : Scope) (q : Path) (s : Scope) (rest : Path) → leads_to_statement above (q ++ s ∷ rest) ≡ true → stands_under (own_scope (above ∷ q)) s ≡ true
stands_below above [] s rest e = (and_parts (stands_under above s) (leads_to_statement s rest) e).0
stands_below above (t ∷ q) s rest e = stands_below t q s rest (and_parts (stands_under above t) (leads_to_statement t (q ++ s ∷ rest)) e).1

-- what follows a part of a path lies under its last scope
pub stands_behind : (q : Path) (s : Scope) (rest : Path) → (q ≡ [] → ⊥) → is_call_path (q ++ s ∷ rest) ≡ true → stands_under (own_scope q) s ≡ true
stands_behind [] s rest some e = absurd (some refl)
stands_behind (t ∷ q) s rest some e = stands_below t q s rest (leads t (q ++ s ∷ rest) e)

last_below : (above : Scope) (q : Path) → leads_to_statement above q ≡ true → is_statement (own_scope (above ∷ q)) ≡ true
last_below above [] e = e
last_below above (t ∷ q) e = last_below t q (and_parts (stands_under above t) (leads_to_statement t q) e).1

-- the last scope is a statement
pub last_is_statement : (q : Path) → is_call_path q ≡ true → is_statement (own_scope q) ≡ true
last_is_statement [] e = absurd (true≢false (sym e))
last_is_statement (s ∷ q) e = last_below s q (leads s q e)

nothing_below : (above s : Scope) → is_statement above ≡ true → stands_under above s ≡ false
nothing_below (Root kind) s e = absurd (true≢false (sym e))
nothing_below (Proc p) s e = absurd (true≢false (sym e))
nothing_below (Inline p line) s e = absurd (true≢false (sym e))
nothing_below (Call line) s e = absurd (true≢false (sym e))
nothing_below (Stmt line) s e = refl

-- and nothing follows one
pub ends_with_statement : (q rest : Path) → (q ≡ [] → ⊥) → is_call_path (q ++ rest) ≡ true → is_statement (own_scope q) ≡ true → rest ≡ []
ends_with_statement q [] some e is = refl
ends_with_statement q (s ∷ rest) some e is = absurd (true≢false (sym (stands_behind q s rest some e) ∙ nothing_below (own_scope q) s is))
