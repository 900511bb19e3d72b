-- A list that shows what is known of those elements of another list that a test lets through.
use Rattle.std.proofs.Common.{◌≡◌, ℕ, ◌+◌, ◌<◌, Bool, true, false, cond, List, [], ◌∷◌, ◌++◌, length, get_or, take, map, Option, Some, None, refl, sym, ap, ◌∙◌}
use Rattle.std.specs.Prelude.{◌&&◌, find, filter, option_map}
use Rattle.std.proofs.lemmas.List.{append-nil, map_push}
use Rattle.std.proofs.lemmas.List.Elements.{filter_more}
use Rattle.std.proofs.lemmas.Simd.{map-map}
use Rattle.prof_bytes.proofs.Tests.{some_same}
use Rattle.elf_image.proofs.Tables.{find_map}
use Rattle.cfi_table.specs.private.Placed.{AreRising}

-- ---- what is found in it

pub find_filter : {X : Type 0} (p q : X → Bool) (xs : List X) → find p (filter q xs) ≡ find (λ x. p x && q x) xs
find_filter p q [] = refl
find_filter {X} p q (x ∷ xs) = go (p x) (q x) refl (find_filter p q xs)
  where
    go : (a b : Bool) → p x ≡ a → find p (filter q xs) ≡ find (λ x. p x && q x) xs → find p (cond b (x ∷ filter q xs) (filter q xs)) ≡ cond (a && b) (Some x) (find (λ x. p x && q x) xs)
    go true true is rest = rw is refl
    go false true is rest = rw is rest
    go true false is rest = rest
    go false false is rest = rest

-- what a test finds is also found by it and another, where it passes that too
pub find_both : {X : Type 0} (p q : X → Bool) (xs : List X) (x : X) → find p xs ≡ Some x → q x ≡ true → find (λ x. p x && q x) xs ≡ Some x
find_both p q [] x found is = absurd cc
find_both {X} p q (y ∷ xs) x found is = go (p y) found (λ e. find_both p q xs x e is)
  where
    go : (b : Bool) → cond b (Some y) (find p xs) ≡ Some x → (find p xs ≡ Some x → find (λ x. p x && q x) xs ≡ Some x) → cond (b && q y) (Some y) (find (λ x. p x && q x) xs) ≡ Some x
    go true e again = rw (ap q (some_same y x e) ∙ is) e
    go false e again = again e

-- what is found among those that were seen, where each is one of the others that the test lets through
pub find_known : {C K E : Type 0} (p : K → Bool) (q : E → Bool) (seen : C → K) (known : E → K) (cs : List C) (es : List E) → map seen cs ≡ map known (filter q es)
    → option_map seen (find (λ c. p (seen c)) cs) ≡ option_map known (find (λ e. p (known e) && q e) es)
find_known {K = K} p q seen known cs es each =
    sym (find_map p seen cs)
    ∙ ap (λ (ks : List K). find p ks) each
    ∙ find_map p known (filter q es)
    ∙ ap (option_map known) (find_filter (λ e. p (known e)) q es)

pub none_known : {K E : Type 0} (known : E → K) (o : Option E) → None ≡ option_map known o → o ≡ None
none_known known None e = refl
none_known known (Some x) e = absurd cc

pub one_known : {K E : Type 0} (known : E → K) (o : Option E) (k : K) → Some k ≡ option_map known o → (e : E) × (o ≡ Some e) × (k ≡ known e)
one_known known None k e = absurd cc
one_known known (Some x) k e = (x, refl, some_same k (known x) e)

-- ---- one more element of the other list

known_one : {K : Type 0} (b : Bool) (k x : K) → Some k ≡ cond b (Some x) None → (b ≡ true) × (k ≡ x)
known_one true k x e = (refl, some_same k x e)
known_one false k x e = absurd cc

pub seen_more : {C K E : Type 0} (q : E → Bool) (seen : C → K) (known : E → K) (es : List E) (k : ℕ) (d : E) (cs next : List C) (c : C) → k < length es → next ≡ cs ++ c ∷ []
    → Some (seen c) ≡ cond (q (get_or es k d)) (Some (known (get_or es k d))) None → map seen cs ≡ map known (filter q (take k es)) → map seen next ≡ map known (filter q (take (k + 1) es))
seen_more {C} {K} {E} q seen known es k d cs next c lt pushed is so_far =
    let e = get_or es k d in
    let both = known_one (q e) (seen c) (known e) is in
    ap (λ (xs : List C). map seen xs) pushed ∙ map_push seen cs c
    ∙ ap (λ (ks : List K). ks ++ seen c ∷ []) so_far
    ∙ ap (λ (x : K). map known (filter q (take k es)) ++ x ∷ []) both.1
    ∙ sym (map_push known (filter q (take k es)) e)
    ∙ ap (λ (xs : List E). map known xs) (sym (filter_more q es k d lt ∙ ap (λ (b : Bool). filter q (take k es) ++ cond b (e ∷ []) []) both.0))

known_none : {K : Type 0} (b : Bool) (x : K) → None ≡ cond b (Some x) None → b ≡ false
known_none true x e = absurd cc
known_none false x e = refl

pub seen_none : {C K E : Type 0} (q : E → Bool) (seen : C → K) (known : E → K) (es : List E) (k : ℕ) (d : E) (cs : List C) → k < length es
    → None ≡ cond (q (get_or es k d)) (Some (known (get_or es k d))) None → map seen cs ≡ map known (filter q (take k es)) → map seen cs ≡ map known (filter q (take (k + 1) es))
seen_none {C} {K} {E} q seen known es k d cs lt is so_far =
    let e = get_or es k d in
    so_far
    ∙ ap (λ (xs : List E). map known xs) (sym (filter_more q es k d lt ∙ ap (λ (b : Bool). filter q (take k es) ++ cond b (e ∷ []) []) (known_none (q e) (known e) is) ∙ append-nil (filter q (take k es))))

-- ---- numbers of its elements

pub seen_rise : {C K E : Type 0} (at : K → ℕ) (seen : C → K) (known : E → K) (cs : List C) (es : List E) → map seen cs ≡ map known es → AreRising 0 (map (λ e. at (known e)) es) → AreRising 0 (map (λ c. at (seen c)) cs)
seen_rise {C} {K} {E} at seen known cs es each up =
    let same : map (λ (c : C). at (seen c)) cs ≡ map (λ (e : E). at (known e)) es =
    sym (map-map at seen cs) ∙ ap (λ (ks : List K). map at ks) each ∙ map-map at known es in
    rw same up
