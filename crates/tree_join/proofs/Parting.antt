-- The order of paths where they part.
use Rattle.std.proofs.Common.{◌≡◌, [], ◌∷◌, ◌++◌, Less, Equal, Greater, refl, sym, ap, ap₂, subst, ◌∙◌, append_assoc}
use Rattle.std.specs.Ordering.{ordering_then, ordering_reverse}
use Rattle.std.proofs.lemmas.Cmp.{tied_itself}
use Rattle.scope_types.specs.declared.scope.Scope.{Scope}
use Rattle.scope_types.specs.Order.{scope_order, path_order}
use Rattle.scope_types.proofs.Orders.{scope_order_total, scope_order_tells}
use Rattle.tree_types.specs.Paths.{Path}
use Rattle.tree_join.specs.private.Walk.{Parts}

-- what comes before a path comes before what extends it
pub less_longer : (a b r : Path) → path_order a b ≡ Less → path_order a (b ++ r) ≡ Less
less_longer [] [] r e = absurd cc
less_longer [] (t ∷ b) r e = refl
less_longer (s ∷ a) [] r e = absurd cc
less_longer (s ∷ a) (t ∷ b) r e =
    elim (scope_order s t) as (λ o. ordering_then o (path_order a b) ≡ Less → ordering_then o (path_order a (b ++ r)) ≡ Less) [
      | Less ↦ λ f. refl
      | Equal ↦ λ f. less_longer a b r f
      | Greater ↦ λ f. absurd cc
    ] e

parting : (front a b : Path) (s t : Scope) → scope_order s t ≡ Less → path_order (front ++ s ∷ a) (front ++ t ∷ b) ≡ Less
parting [] a b s t less = ap (λ o. ordering_then o (path_order a b)) less
parting (u ∷ front) a b s t less = ap (λ o. ordering_then o (path_order (front ++ s ∷ a) (front ++ t ∷ b))) (tied_itself scope_order_total u) ∙ parting front a b s t less

pub parts_less : (a b : Path) → Parts a b → path_order a b ≡ Less
parts_less a b p =
    ap (λ (x : Path). path_order x b) p.is_left ∙ ap (path_order (p.front ++ p.left ∷ p.left_rest)) p.is_right
    ∙ parting p.front p.left_rest p.right_rest p.left p.right p.less

-- what extends the first parts from the second too
pub parts_longer : (a b r : Path) → Parts a b → Parts (a ++ r) b
parts_longer a b r p = record {
  front = p.front;
  left = p.left;
  right = p.right;
  left_rest = p.left_rest ++ r;
  right_rest = p.right_rest;
  is_left = ap (λ (x : Path). x ++ r) p.is_left ∙ append_assoc p.front (p.left ∷ p.left_rest) r;
  is_right = p.is_right;
  less = p.less;
}

pub parts_same : (a b c d : Path) → a ≡ c → b ≡ d → Parts c d → Parts a b
parts_same a b c d ac bd p = subst (λ (x : Path). Parts x b) (sym ac) (subst (Parts c) (sym bd) p)

-- two children of one node
pub siblings_part : (f : Path) (s t : Scope) → scope_order s t ≡ Less → Parts (f ++ s ∷ []) (f ++ t ∷ [])
siblings_part f s t less = record {
  front = f;
  left = s;
  right = t;
  left_rest = [];
  right_rest = [];
  is_left = refl;
  is_right = refl;
  less = less;
}

-- what lies between a path and its child goes on from the path with a smaller scope, and so does what extends it
pub between : (f p : Path) (t : Scope) (r : Path) → path_order f p ≡ Less → path_order p (f ++ t ∷ []) ≡ Less → Parts (p ++ r) (f ++ t ∷ [])
between [] [] t r e g = absurd cc
between [] (u ∷ p) t r e g =
    elim (scope_order u t) as (λ o. scope_order u t ≡ o → ordering_then o (path_order p []) ≡ Less → Parts (u ∷ p ++ r) (t ∷ [])) [
      | Less ↦ λ is h. record { front = []; left = u; right = t; left_rest = p ++ r; right_rest = []; is_left = refl; is_right = refl; less = is }
      | Equal ↦ λ is h. absurd (none_less p h)
      | Greater ↦ λ is h. absurd cc
    ] refl g
  where
    none_less : (p : Path) → path_order p [] ≡ Less → ⊥
    none_less [] h = cc
    none_less (x ∷ p) h = cc
between (v ∷ f) [] t r e g = absurd cc
between (v ∷ f) (w ∷ p) t r e g =
    let turned : scope_order w v ≡ ordering_reverse (scope_order v w) = scope_order_total.antisymm w v in
    elim (scope_order v w) as (λ o. scope_order v w ≡ o → ordering_then o (path_order f p) ≡ Less → ordering_then (ordering_reverse o) (path_order p (f ++ t ∷ [])) ≡ Less → Parts (w ∷ p ++ r) (v ∷ f ++ t ∷ [])) [
      | Less ↦ λ is h k. absurd cc
      | Equal ↦ λ is h k. longer_front v w (scope_order_tells v w is) (between f p t r h k)
      | Greater ↦ λ is h k. absurd cc
    ] refl e (ap (λ o. ordering_then o (path_order p (f ++ t ∷ []))) (sym turned) ∙ g)
  where
    longer_front : (v w : Scope) → v ≡ w → Parts (p ++ r) (f ++ t ∷ []) → Parts (w ∷ p ++ r) (v ∷ f ++ t ∷ [])
    longer_front v w same parts = record {
      front = v ∷ parts.front;
      left = parts.left;
      right = parts.right;
      left_rest = parts.left_rest;
      right_rest = parts.right_rest;
      is_left = ap₂ (λ (x : Scope) (l : Path). x ∷ l) (sym same) parts.is_left;
      is_right = ap (λ (l : Path). v ∷ l) parts.is_right;
      less = parts.less;
    }
