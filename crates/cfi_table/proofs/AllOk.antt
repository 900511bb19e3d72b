-- All values of a list of results, or the first fault in it.
use Rattle.std.proofs.Common.{◌≡◌, ℕ, zero, suc, ◌+◌, ◌<◌, ◌≤◌, List, [], ◌∷◌, ◌++◌, length, get_or, take, map, Result, Ok, Err, refl, sym, ap, subst, ◌∙◌, arith}
use Rattle.std.proofs.lemmas.List.{take_more, take_all, map_push}
use Rattle.prof_bytes.specs.Outcome.{◌>>=◌, viewed}
use Rattle.prof_bytes.proofs.Outcomes.{bind_ok, ok_same}
use Rattle.cfi_table.specs.Frames.{all_ok}

-- ---- what is seen of a value

pub given : {X Y F : Type 0} (h : X → Y) (r : Result X F) (y : Y) → viewed h r ≡ Ok y → (x : X) × (r ≡ Ok x) × (h x ≡ y)
given h (Err f) y e = absurd cc
given {X} {Y} {F} h (Ok x) y e = (x, refl, same (h x) y e)
  where
    same : (a b : Y) → (let u : Result Y F = Ok a in u) ≡ Ok b → a ≡ b
    same a b e = cc

pub refused : {X Y F : Type 0} (h : X → Y) (r : Result X F) (f : F) → viewed h r ≡ Err f → r ≡ Err f
refused {X} {Y} {F} h (Err g) f e = ap (λ (k : F). Err k) (same g f e)
  where
    same : (a b : F) → (let u : Result Y F = Err a in u) ≡ Err b → a ≡ b
    same a b e = cc
refused h (Ok x) f e = absurd cc

-- ---- a list by its first

pub ok_cons : {X F : Type 0} (r : Result X F) (rs : List (Result X F)) (all : List X) → all_ok (r ∷ rs) ≡ Ok all → (x : X) × (xs : List X) × (r ≡ Ok x) × (all_ok rs ≡ Ok xs) × (all ≡ x ∷ xs)
ok_cons {X} {F} r rs all e =
    let first = bind_ok r (λ x. all_ok rs >>= λ xs. (let u : Result (List X) F = Ok (x ∷ xs) in u)) all e in
    let others = bind_ok (all_ok rs) (λ xs. (let u : Result (List X) F = Ok (first.0 ∷ xs) in u)) all first.2 in
    (first.0, others.0, first.1, others.1, sym (ok_same {F = F} (first.0 ∷ others.0) all others.2))

pub cons_ok : {X F : Type 0} (r : Result X F) (rs : List (Result X F)) (x : X) (xs : List X) → r ≡ Ok x → all_ok rs ≡ Ok xs → all_ok (r ∷ rs) ≡ Ok (x ∷ xs)
cons_ok {X} {F} r rs x xs e f =
    ap (λ (q : Result X F). q >>= λ y. all_ok rs >>= λ ys. (let u : Result (List X) F = Ok (y ∷ ys) in u)) e
    ∙ ap (λ (q : Result (List X) F). q >>= λ ys. (let u : Result (List X) F = Ok (x ∷ ys) in u)) f

pub ok_append : {X F : Type 0} (rs ss : List (Result X F)) (xs ys : List X) → all_ok rs ≡ Ok xs → all_ok ss ≡ Ok ys → all_ok (rs ++ ss) ≡ Ok (xs ++ ys)
ok_append {X} {F} [] ss xs ys e f =
    let P : List X → Type 0 = λ zs. all_ok ss ≡ Ok (zs ++ ys) in
    subst P (ok_same {F = F} [] xs e) f
ok_append {X} {F} (r ∷ rs) ss xs ys e f =
    let parts = ok_cons r rs xs e in
    let P : List X → Type 0 = λ zs. all_ok ((r ∷ rs) ++ ss) ≡ Ok (zs ++ ys) in
    subst P (sym parts.4) (cons_ok r (rs ++ ss) parts.0 (parts.1 ++ ys) parts.2 (ok_append rs ss parts.1 ys parts.3 f))

pub ok_parts : {X F : Type 0} (rs ss : List (Result X F)) (all : List X) → all_ok (rs ++ ss) ≡ Ok all → (xs : List X) × (ys : List X) × (all_ok rs ≡ Ok xs) × (all_ok ss ≡ Ok ys) × (all ≡ xs ++ ys)
ok_parts [] ss all e = ([], all, refl, e, refl)
ok_parts {X} {F} (r ∷ rs) ss all e =
    let parts = ok_cons r (rs ++ ss) all e in
    let more = ok_parts rs ss parts.1 parts.3 in
    (parts.0 ∷ more.0, more.1, cons_ok r rs parts.0 more.0 parts.2 more.2, more.3, parts.4 ∙ ap (λ (zs : List X). parts.0 ∷ zs) more.4)

-- ---- a fault in it

pub all_ok_fault : {X F : Type 0} (rs others : List (Result X F)) (xs : List X) (f : F) → all_ok rs ≡ Ok xs → all_ok (rs ++ Err f ∷ others) ≡ Err f
all_ok_fault [] others xs f e = refl
all_ok_fault (r ∷ rs) others xs f e =
    let parts = ok_cons r rs xs e in
    rw (parts.2, all_ok_fault rs others parts.1 f parts.3) refl

not_added : {X F : Type 0} (x : X) (r : Result (List X) F) (f : F) → (r >>= λ xs. (let u : Result (List X) F = Ok (x ∷ xs) in u)) ≡ Err f → r ≡ Err f
not_added x (Err g) f e = e
not_added x (Ok xs) f e = absurd cc

pub all_ok_early : {X F : Type 0} (rs others : List (Result X F)) (f : F) → all_ok rs ≡ Err f → all_ok (rs ++ others) ≡ Err f
all_ok_early [] others f e = absurd cc
all_ok_early (Err g ∷ rs) others f e = e
all_ok_early (Ok x ∷ rs) others f e = rw (all_ok_early rs others f (not_added x (all_ok rs) f e)) refl

pub fault_at_index : {X Y F : Type 0} (g : X → Result Y F) (xs : List X) (k : ℕ) (d : X) (found : List Y) (f : F) → all_ok (map g (take k xs)) ≡ Ok found → k < length xs → g (get_or xs k d) ≡ Err f → all_ok (map g xs) ≡ Err f
fault_at_index g [] k d found f read lt is = absurd (omega arith)
fault_at_index g (x ∷ xs) zero d found f read lt is = rw is refl
fault_at_index g (x ∷ xs) (suc k) d found f read lt is =
    let parts = ok_cons (g x) (map g (take k xs)) found read in
    rw (parts.2, fault_at_index g xs k d parts.1 f parts.3 (omega arith) is) refl

-- ---- values that are read one after another

-- those below an index are read, and this is made of them
pub record Reads {X Y Z F : Type 0} (g : X → Result Y F) (h : List Y → List Z) (xs : List X) (k : ℕ) (out : List Z) : Type 0 where
  pub found : List Y
  pub read : all_ok (map g (take k xs)) ≡ Ok found
  pub made : out ≡ h found

pub reads_more : {X Y Z F : Type 0} (g : X → Result Y F) (h : List Y → List Z) (xs : List X) (k : ℕ) (d : X) (y : Y) (out next : List Z) → ((a b : List Y) → h (a ++ b) ≡ h a ++ h b) → k < length xs
    → g (get_or xs k d) ≡ Ok y → next ≡ out ++ h (y ∷ []) → Reads g h xs k out → Reads g h xs (k + 1) next
reads_more {X} {Y} {Z} {F} g h xs k d y out next joins lt is pushed kept = record {
  found = kept.found ++ y ∷ [];
  read =
      ap (λ (ws : List X). all_ok (map g ws)) (take_more xs k d lt)
      ∙ ap (λ (rs : List (Result Y F)). all_ok rs) (map_push g (take k xs) (get_or xs k d))
      ∙ ok_append (map g (take k xs)) (g (get_or xs k d) ∷ []) kept.found (y ∷ []) kept.read (rw is refl);
  made = pushed ∙ ap (λ (zs : List Z). zs ++ h (y ∷ [])) kept.made ∙ sym (joins kept.found (y ∷ []));
}

pub reads_all : {X Y Z F : Type 0} (g : X → Result Y F) (h : List Y → List Z) (xs : List X) (k : ℕ) (out : List Z) → length xs ≤ k → Reads g h xs k out → viewed h (all_ok (map g xs)) ≡ Ok out
reads_all {X} {Y} {Z} {F} g h xs k out le kept =
    ap (λ (ws : List X). viewed h (all_ok (map g ws))) (sym (take_all k xs le))
    ∙ ap (λ (r : Result (List Y) F). viewed h r) kept.read
    ∙ ap (λ (zs : List Z). Ok zs) (sym kept.made)

pub reads_fault : {X Y Z F : Type 0} (g : X → Result Y F) (h : List Y → List Z) (xs : List X) (k : ℕ) (d : X) (f : F) (out : List Z) → k < length xs → g (get_or xs k d) ≡ Err f → Reads g h xs k out → viewed h (all_ok (map g xs)) ≡ Err f
reads_fault {Y = Y} {F = F} g h xs k d f out lt is kept = ap (λ (r : Result (List Y) F). viewed h r) (fault_at_index g xs k d kept.found f kept.read lt is)
