-- The first place of a set, and places that are taken out of it.
use Rattle.std.proofs.Common.{◌≡◌, ◌≢◌, ◌⊎◌, ℕ, ◌+◌, ◌<◌, ◌≤◌, Bool, true, false, List, [], ◌∷◌, ◌++◌, length, get_or, Ordering, Less, Equal, Greater, IsTrue, refl, sym, ◌∙◌, subst, inl, inr, arith}
use Rattle.std.specs.Prelude.{slice_get, IfSome}
use Rattle.std.specs.List.{Contains}
use Rattle.std.specs.Ordering.{nat_cmp, is_gt}
use Rattle.std.specs.declared.ops.Bound.TheVariants.{Included, Unbounded}
use Rattle.std.specs.BTreeSet.{BTreeSet, contains, IsKeyRangeOf, Updates}
use Rattle.std.specs.BTreeMap.{is_at}
use Rattle.std.specs.BTreeMap.Range.{IsInRange}
use Rattle.std.proofs.lemmas.Bool.{cases_eq, cases_lt}
use Rattle.std.proofs.lemmas.Cmp.{nat_cmp_total, ranked}
use Rattle.std.proofs.lemmas.List.{length-append, get_or_append_left, get_or_push}
use Rattle.std.proofs.lemmas.List.Elements.{Contains-get_or, Contains-append_left, Contains-push, Contains-push_cases}
use Rattle.std.proofs.lemmas.Map.Lookups.{exact_unsigned}
use Rattle.std.proofs.lemmas.Map.Views.{btree_set_contains_iff}
use Rattle.scope_find.specs.private.Places.{NoneBetween, IsFirstBetween, AreTaken, AreTakenUpTo}

-- ---- a set of numbers

le_cmp : (m n : ℕ) → m ≤ n → is_gt (nat_cmp m n) ≡ false
le_cmp m n le = go (nat_cmp m n) refl
  where
    go : (o : Ordering) → o ≡ nat_cmp m n → is_gt o ≡ false
    go Less e = refl
    go Equal e = refl
    go Greater e = absurd (let r : n < m = ranked m n Greater e in omega arith)

cmp_le : (m n : ℕ) → is_gt (nat_cmp m n) ≡ false → m ≤ n
cmp_le m n h = go (nat_cmp m n) refl h
  where
    go : (o : Ordering) → o ≡ nat_cmp m n → is_gt o ≡ false → m ≤ n
    go Less e h = let r : m < n = ranked m n Less e in omega arith
    go Equal e h = let r : m ≡ n = ranked m n Equal e in omega arith
    go Greater e h = absurd cc

listed : (s : BTreeSet ℕ) (k : ℕ) → IsTrue (contains nat_cmp s k) → Contains s.keys k
listed s k h = (btree_set_contains_iff nat_cmp_total exact_unsigned s k).0 h

found : (s : BTreeSet ℕ) (k : ℕ) → Contains s.keys k → IsTrue (contains nat_cmp s k)
found s k h = (btree_set_contains_iff nat_cmp_total exact_unsigned s k).1 h

never : IsTrue false → ⊥
never e = cc

apart : (m n : ℕ) → m ≢ n → is_at (nat_cmp m) n ≡ false
apart m n ne = go (nat_cmp m n) refl
  where
    go : (o : Ordering) → o ≡ nat_cmp m n → is_at (λ (q : ℕ). o) n ≡ false
    go Less e = refl
    go Equal e = absurd (ne (exact_unsigned m n (sym e)))
    go Greater e = refl

-- ---- the first place

abbrev IsRangeFrom : BTreeSet ℕ → ℕ → List ℕ → Type 0
IsRangeFrom s low r = IsKeyRangeOf nat_cmp (Included low) Unbounded s r

least : (s : BTreeSet ℕ) (low place : ℕ) (r rest : List ℕ) → r ≡ place ∷ rest → IsRangeFrom s low r → (k : ℕ) → Contains s.keys k → low ≤ k → place ≤ k
least s low place r rest e range k is le =
    cmp_le place k (subst (λ (xs : List ℕ). IfSome (slice_get xs 0) (λ x. is_gt (nat_cmp x k) ≡ false)) e (range.2 k (le_cmp low k le, tt) (found s k is)))

here : (s : BTreeSet ℕ) (low place : ℕ) (r rest : List ℕ) → r ≡ place ∷ rest → IsRangeFrom s low r → low ≤ place × Contains s.keys place
here s low place r rest e range =
    let h = subst (λ (xs : List ℕ). IfSome (slice_get xs 0) (λ x. IsInRange nat_cmp (Included low) Unbounded x × IsTrue (contains nat_cmp s x))) e range.1 in
    (cmp_le low place h.0.0, listed s place h.1)

pub some_place : (s : BTreeSet ℕ) (low high place : ℕ) (r rest : List ℕ) → r ≡ place ∷ rest → place < high → IsRangeFrom s low r → IsFirstBetween s.keys low high place
some_place s low high place r rest e lt range =
    let h = here s low place r rest e range in
    record { there = h.1; from = h.0; to = lt; least = least s low place r rest e range }

pub far_place : (s : BTreeSet ℕ) (low high place : ℕ) (r rest : List ℕ) → r ≡ place ∷ rest → high ≤ place → IsRangeFrom s low r → NoneBetween s.keys low high
far_place s low high place r rest e far range k is from to = let le : place ≤ k = least s low place r rest e range k is from in omega arith

pub no_place : (s : BTreeSet ℕ) (low high : ℕ) (r : List ℕ) → r ≡ [] → IsRangeFrom s low r → NoneBetween s.keys low high
no_place s low high r e range k is from to = never (subst (λ (t : Bool). IsTrue t) (range.5 e k (le_cmp low k from, tt)) (found s k is))

-- ---- a place that is taken out, or put in

-- a set without a place that it had
pub record IsWithout (place : ℕ) (before after : List ℕ) : Type 0 where
  pub keeps : (k : ℕ) → Contains after k → Contains before k
  pub others : (k : ℕ) → place ≢ k → Contains before k → Contains after k
  pub out : Contains after place → ⊥

pub removed : (s n : BTreeSet ℕ) (place : ℕ) → Updates nat_cmp s n place false → IsWithout place s.keys n.keys
removed s n place up = record {
  keeps = λ k has. elim (cases_eq place k) [
    | inl e ↦ absurd (never (subst (λ (t : Bool). IsTrue t) up.1 (found n place (subst (λ (q : ℕ). Contains n.keys q) (sym e) has))))
    | inr ne ↦ listed s k (subst (λ (t : Bool). IsTrue t) (up.2 k (apart place k ne)) (found n k has))
  ];
  others = λ k ne has. listed n k (subst (λ (t : Bool). IsTrue t) (sym (up.2 k (apart place k ne))) (found s k has));
  out = λ has. never (subst (λ (t : Bool). IsTrue t) up.1 (found n place has));
}

-- a set with one place more
pub record IsWith (place : ℕ) (before after : List ℕ) : Type 0 where
  pub there : Contains after place
  pub keeps : (k : ℕ) → Contains before k → Contains after k
  pub added : (k : ℕ) → place ≢ k → Contains after k → Contains before k

pub inserted : (s n : BTreeSet ℕ) (place : ℕ) → Updates nat_cmp s n place true → IsWith place s.keys n.keys
inserted s n place up = record {
  there = listed n place up.1;
  keeps = λ k has. elim (cases_eq place k) [
    | inl e ↦ subst (λ (q : ℕ). Contains n.keys q) e (listed n place up.1)
    | inr ne ↦ listed n k (subst (λ (t : Bool). IsTrue t) (sym (up.2 k (apart place k ne))) (found s k has))
  ];
  added = λ k ne has. listed s k (subst (λ (t : Bool). IsTrue t) (up.2 k (apart place k ne)) (found n k has));
}

-- ---- places that are taken

module _ (passes : ℕ → Bool) (all before after taken : List ℕ) (place : ℕ) (are : AreTaken passes all before taken) (w : IsWithout place before after) (there : Contains before place) (is : passes place ≡ true) where
  one_more : (k : ℕ) → Contains all k → Contains before k ⊎ Contains taken k → Contains after k ⊎ Contains (taken ++ place ∷ []) k
  one_more k has (inr t) = inr (Contains-append_left taken (place ∷ []) k t)
  one_more k has (inl b) = elim (cases_eq place k) [
    | inl e ↦ inr (subst (λ (q : ℕ). Contains (taken ++ place ∷ []) q) e (Contains-push taken place))
    | inr ne ↦ inl (w.others k ne b)
  ]

  of_one : (P : ℕ → Type 0) → P place → ((k : ℕ) → Contains taken k → P k) → (k : ℕ) → Contains taken k ⊎ (place ≡ k) → P k
  of_one P here old k (inl t) = old k t
  of_one P here old k (inr e) = subst P e here

  new_once : (m n : ℕ) → m < n → (n < length taken) ⊎ (length taken ≤ n) → n < length (taken ++ place ∷ []) → get_or (taken ++ place ∷ []) m 0 ≢ get_or (taken ++ place ∷ []) n 0
  new_once m n lt (inl low) within e =
      are.once m n lt low (sym (get_or_append_left taken (place ∷ []) 0 m (omega arith)) ∙ e ∙ get_or_append_left taken (place ∷ []) 0 n low)
  new_once m n lt (inr high) within e =
      let long : length (taken ++ place ∷ []) ≡ length taken + 1 = length-append taken (place ∷ []) in
      let last : length taken ≡ n = omega arith in
      let same : get_or taken m 0 ≡ place = sym (get_or_append_left taken (place ∷ []) 0 m (omega arith)) ∙ e ∙ get_or_push taken place 0 n last in
      are.gone place (subst (λ (q : ℕ). Contains taken q) same (Contains-get_or taken m 0 (omega arith))) there

  pub taken_one : AreTaken passes all after (taken ++ place ∷ [])
  taken_one = record {
    keeps = λ k has. are.keeps k (w.keeps k has);
    either = λ k has. one_more k has (are.either k has);
    was = λ k has. of_one (λ q. Contains all q) (are.keeps place there) are.was k (Contains-push_cases taken place k has);
    passed = λ k has. of_one (λ q. passes q ≡ true) is are.passed k (Contains-push_cases taken place k has);
    gone = λ k has. of_one (λ q. Contains after q → ⊥) w.out (λ q t a. are.gone q t (w.keeps q a)) k (Contains-push_cases taken place k has);
    once = λ m n lt within. new_once m n lt (cases_lt n (length taken)) within;
  }

pub take_more : (low high at place : ℕ) (before now after taken_before taken more : List ℕ) → low ≤ at → IsFirstBetween now at high place → IsWithout place now after → more ≡ taken ++ place ∷ [] → AreTakenUpTo low high at before now taken_before taken
    → AreTakenUpTo low high (place + 1) before after taken_before more
take_more low high at place before now after taken_before taken more le first w pushed are = subst (λ (ts : List ℕ). AreTakenUpTo low high (place + 1) before after taken_before ts) (sym pushed) (record {
  keeps = λ k has. are.keeps k (w.keeps k has);
  out = λ k has from to. elim (cases_lt k at) [
    | inl lt ↦ are.out k (w.keeps k has) from lt
    | inr ge ↦
        let up : place ≤ k = first.least k (w.keeps k has) ge in
        let e : k ≡ place = omega arith in
        w.out (subst (λ (q : ℕ). Contains after q) e has)
  ];
  takes = λ passes all range old. taken_one passes all now after taken place (are.takes passes all range old) w first.there (range place (let f : at ≤ place = first.from in omega arith) first.to);
})

pub take_end : (low high at : ℕ) (before now taken_before taken : List ℕ) → NoneBetween now at high → AreTakenUpTo low high at before now taken_before taken → AreTakenUpTo low high high before now taken_before taken
take_end low high at before now taken_before taken none are = record {
  keeps = are.keeps;
  out = λ k has from to. elim (cases_lt k at) [
    | inl lt ↦ are.out k has from lt
    | inr ge ↦ none k has ge to
  ];
  takes = are.takes;
}
