-- The index of the first attribute of each code, in a list that grows.
use Rattle.std.proofs.Common.{◌≡◌, ◌≢◌, ◌⊎◌, inl, inr, ◌==◌, ℕ, zero, suc, ◌+◌, ◌<◌, Bool, true, false, cond, eq-eqb, ne_eqb, List, [], ◌∷◌, length, take, get_or, set, Option, Some, None, refl, sym, ap, ◌∙◌, arith}
use Rattle.std.specs.Prelude.{position, slice_get, if◌then◌else◌}
use Rattle.std.specs.Option.{option_or}
use Rattle.std.proofs.lemmas.Option.{same_Some, slice_get-get_or}
use Rattle.std.proofs.lemmas.List.{take_more, length-take}
use Rattle.dwarf_forms.specs.declared.declaration.Spec.{Spec}
use Rattle.dwarf_forms.specs.private.SpecParts.{after_index, AreFirsts}
use Rattle.dwarf_forms.proofs.Indices.{position_push}

-- what was set is there, and what is elsewhere was there
after_set : {X : Type 0} (xs : List X) (i k : ℕ) (y x : X) → slice_get (set xs i y) k ≡ Some x
    → ((i ≡ k) × (k < length xs) × (x ≡ y)) ⊎ ((i ≢ k) × (slice_get xs k ≡ Some x))
after_set [] i k y x e = absurd cc
after_set (z ∷ xs) zero zero y x e = inl (refl, omega arith, sym (same_Some y x e))
after_set (z ∷ xs) zero (suc k) y x e = inr ((λ same. omega arith), e)
after_set (z ∷ xs) (suc i) zero y x e = inr ((λ same. omega arith), e)
after_set (z ∷ xs) (suc i) (suc k) y x e =
    elim (after_set xs i k y x e) [
      | inl h ↦ inl (ap suc h.0, let w = h.1 in omega arith, h.2)
      | inr h ↦ inr ((λ same. h.0 (omega arith)), h.1)
    ]

-- the value that is noted where an attribute with the code is met
abbrev pub noted_after : ℕ → ℕ → ℕ
noted_after first i = if first == 0 then i + 1 else first

met : (o : Option ℕ) (i : ℕ) → noted_after (after_index o) i ≡ after_index (option_or o (Some i))
met None i = refl
met (Some k) i = rw (ne_eqb (k + 1) 0 (λ e. omega arith)) refl

not_met : (o : Option ℕ) → after_index o ≡ after_index (option_or o None)
not_met None = refl
not_met (Some k) = refl

grown : (p : Spec → Bool) (specs : List Spec) (i : ℕ) (d : Spec) (b : Bool) → i < length specs → p (get_or specs i d) ≡ b
    → option_or (position p (take i specs)) (cond b (Some i) None) ≡ position p (take (i + 1) specs)
grown p specs i d b lt at =
    let long : length (take i specs) ≡ i = omega (arith, length-take i specs) in
    ap (λ (c : Bool). option_or (position p (take i specs)) (cond c (Some i) None)) (sym at)
    ∙ ap (λ (n : ℕ). option_or (position p (take i specs)) (cond (p (get_or specs i d)) (Some n) None)) (sym long)
    ∙ sym (position_push p (take i specs) (get_or specs i d))
    ∙ ap (position p) (sym (take_more specs i d lt))

pub one_noted : (specs : List Spec) (i : ℕ) (d : Spec) (old new : List ℕ) → i < length specs → AreFirsts (take i specs) old
    → new ≡ set old (get_or specs i d).attribute (noted_after (get_or old (get_or specs i d).attribute 0) i) → AreFirsts (take (i + 1) specs) new
one_noted specs i d old new lt firsts set_is k x e =
    elim (after_set old (get_or specs i d).attribute k (noted_after (get_or old (get_or specs i d).attribute 0) i) x (ap (λ (ns : List ℕ). slice_get ns k) (sym set_is) ∙ e)) [
      | inl h ↦ here h.0 h.1 h.2
      | inr h ↦ elsewhere h.0 h.1
    ]
  where
    here : (get_or specs i d).attribute ≡ k → k < length old → x ≡ noted_after (get_or old (get_or specs i d).attribute 0) i
        → x ≡ after_index (position (λ (s : Spec). s.attribute == k) (take (i + 1) specs))
    here same within value =
        value ∙ ap (λ (c : ℕ). noted_after (get_or old c 0) i) same
        ∙ ap (λ (n : ℕ). noted_after n i) (firsts k (get_or old k 0) (slice_get-get_or old k 0 within))
        ∙ met (position (λ (s : Spec). s.attribute == k) (take i specs)) i
        ∙ ap after_index (grown (λ (s : Spec). s.attribute == k) specs i d true lt (eq-eqb (get_or specs i d).attribute k same))

    elsewhere : (get_or specs i d).attribute ≢ k → slice_get old k ≡ Some x → x ≡ after_index (position (λ (s : Spec). s.attribute == k) (take (i + 1) specs))
    elsewhere other there =
        firsts k x there ∙ not_met (position (λ (s : Spec). s.attribute == k) (take i specs))
        ∙ ap after_index (grown (λ (s : Spec). s.attribute == k) specs i d false lt (ne_eqb (get_or specs i d).attribute k other))
