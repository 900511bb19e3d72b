-- Numbers that are marked one by one.
use Rattle.std.proofs.Common.{◌≡◌, ℕ, ◌+◌, ◌<◌, ◌≤◌, ◌==◌, ◌||◌, inl, inr, Bool, true, false, List, [], ◌∷◌, length, get_or, take, refl, sym, ap, ◌∙◌, arith, get_or-set_other, get_or-set_same}
use Rattle.std.specs.Prelude.{◌≢◌}
use Rattle.std.proofs.Math.ListN.{set}
use Rattle.std.proofs.lemmas.Bool.{cases_eq, eq-eqb, ne_eqb}
use Rattle.std.proofs.lemmas.List.{take_more}
use Rattle.std.proofs.lemmas.List.Folds.{list_any-append}
use Rattle.prof_bytes.proofs.Tests.{or_false}
use Rattle.prof_db.specs.NameRules.{is_among}

or_true : (b : Bool) → (b || true) ≡ true
or_true true = refl
or_true false = refl

module _ (numbers : List ℕ) (i x d : ℕ) (lt : i < length numbers) (is : x ≡ get_or numbers i d) where
  among_more : (k : ℕ) → is_among (take (i + 1) numbers) k ≡ (is_among (take i numbers) k || (x == k))
  among_more k =
      ap (λ (l : List ℕ). is_among l k) (take_more numbers i d lt)
      ∙ list_any-append (λ (j : ℕ). j == k) (take i numbers) (get_or numbers i d ∷ [])
      ∙ ap (λ (y : ℕ). is_among (take i numbers) k || ((y == k) || false)) (sym is) ∙ ap (λ b. is_among (take i numbers) k || b) (or_false (x == k))

  -- one number more
  pub marked : (count : ℕ) (marks after : List Bool) → length marks ≡ count → ((k : ℕ) → k < count → get_or marks k false ≡ is_among (take i numbers) k)
      → ((k : ℕ) → k < length marks → get_or after k false ≡ (get_or marks k false || (x == k)))
      → (k : ℕ) → k < count → get_or after k false ≡ is_among (take (i + 1) numbers) k
  marked count marks after long so_far new k below =
      new k (omega arith) ∙ ap (λ b. b || (x == k)) (so_far k below) ∙ sym (among_more k)

pub mark_set : (marks : List Bool) (x k : ℕ) → x < length marks → get_or (set marks x true) k false ≡ (get_or marks k false || (x == k))
mark_set marks x k inside = elim (cases_eq k x) [
  | inl same ↦
      ap (λ (j : ℕ). get_or (set marks x true) j false) same ∙ get_or-set_same marks x true false inside
      ∙ sym (ap (λ b. get_or marks k false || b) (eq-eqb x k (sym same)) ∙ or_true (get_or marks k false))
  | inr apart ↦
      get_or-set_other marks x k true false apart
      ∙ sym (ap (λ b. get_or marks k false || b) (ne_eqb x k (λ e. apart (sym e))) ∙ or_false (get_or marks k false))
]

pub mark_out : (marks : List Bool) (x k : ℕ) → length marks ≤ x → k < length marks → get_or marks k false ≡ (get_or marks k false || (x == k))
mark_out marks x k out below =
    let apart : x ≢ k = λ e. absurd (omega arith) in
    sym (ap (λ b. get_or marks k false || b) (ne_eqb x k apart) ∙ or_false (get_or marks k false))
