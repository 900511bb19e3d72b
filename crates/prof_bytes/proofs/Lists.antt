-- Lists whose items were read one after the other.
use Rattle.std.proofs.Common.{◌≡◌, ℕ, zero, suc, ◌+◌, List, [], ◌∷◌, ◌++◌, length, map, All, Result, Ok, refl, sym, ap, ap₂, ◌∙◌, append_assoc, append-nil, subst, arith}
use Rattle.std.specs.List.{flat_map}
use Rattle.std.proofs.lemmas.List.Elements.{All-cons, All-head, All-nil, All-tail}
use Rattle.prof_bytes.specs.Number.{IsBytes}
use Rattle.prof_bytes.specs.Outcome.{◌>>=◌}
use Rattle.prof_bytes.specs.Reading.{At, left_of}
use Rattle.prof_bytes.specs.Repeated.{adding, times}
use Rattle.prof_bytes.proofs.Outcomes.{bind_ok, ok_same}
use Rattle.prof_bytes.proofs.Took.{Took, bytes_on, given, took_both, took_none}

-- ---- what was written is read as the same

-- what was read of something, but where it was
pub record Reads {X Z F : Type 0} (bare : X → Z) (read : Result (X × At) F) (z : Z) (rest : List ℕ) : Type 0 where
  pub value : X
  pub next : At
  pub is : read ≡ Ok (value, next)
  pub same : bare value ≡ z
  pub left : left_of next ≡ rest

module _ {X Y Z F : Type 0} (item : At → Result (X × At) F) (bare : X → Z) (seen : Y → Z) (spelled : Y → List ℕ) (Fits : Y → Type 0)
    (one : (at : At) (y : Y) (rest : List ℕ) → Fits y → left_of at ≡ spelled y ++ rest → Reads bare (item at) (seen y) rest) where
  pub record AreRead (n i : ℕ) (before : List X) (at : At) (ys : List Y) (rest : List ℕ) : Type 0 where
    pub xs : List X
    pub next : At
    pub is : times (adding item) n i before at ≡ Ok (before ++ xs, next)
    pub same : map bare xs ≡ map seen ys
    pub left : left_of next ≡ rest

  pub items_come : (ys : List Y) (i : ℕ) (before : List X) (at : At) (rest : List ℕ) → All Fits ys → left_of at ≡ flat_map spelled ys ++ rest → AreRead (length ys) i before at ys rest
  unfolding times
  items_come [] i before at rest fit left = record { xs = []; next = at; is = ap (λ (l : List X). Ok (l, at)) (sym (append-nil before)); same = refl; left = left }
  items_come (y ∷ ys) i before at rest fit left =
      let a = one at y (flat_map spelled ys ++ rest) (All-head Fits y ys fit) (left ∙ append_assoc (spelled y) (flat_map spelled ys) rest) in
      let b = items_come ys (i + 1) (before ++ a.value ∷ []) a.next rest (All-tail Fits y ys fit) a.left in
      record {
        xs = a.value ∷ b.xs;
        next = b.next;
        is = rw a.is (b.is ∙ ap (λ (l : List X). Ok (l, b.next)) (append_assoc before (a.value ∷ []) b.xs));
        same = ap₂ (λ (z : Z) (zs : List Z). z ∷ zs) a.same b.same;
        left = b.left;
      }

-- ---- what was read has just these bytes

-- what was read after others
pub record ItemsTook {X : Type 0} (spelled : X → List ℕ) (Fits : X → Type 0) (n : ℕ) (at next : At) (before after : List X) : Type 0 where
  pub xs : List X
  pub is : after ≡ before ++ xs
  pub many : length xs ≡ n
  pub fit : All Fits xs
  pub took : Took at next (flat_map spelled xs)

module _ {X F : Type 0} (item : At → Result (X × At) F) (spelled : X → List ℕ) (Fits : X → Type 0)
    (one : (at next : At) (x : X) → IsBytes at.whole → item at ≡ Ok (x, next) → Took at next (spelled x) × Fits x) where
  pub items_took : (n i : ℕ) (before after : List X) (at next : At) → IsBytes at.whole → times (adding item) n i before at ≡ Ok (after, next) → ItemsTook spelled Fits n at next before after
  unfolding times
  items_took zero i before after at next bytes is =
      given (λ after next. ItemsTook spelled Fits 0 at next before after) before after at next is
      (record { xs = []; is = sym (append-nil before); many = refl; fit = All-nil Fits; took = took_none at })
  items_took (suc n) i before after at next bytes is =
      let a = bind_ok _ _ _ is in
      let b = bind_ok (item at) _ _ a.1 in
      let x : X = b.0.0 in
      let first = one at b.0.1 x bytes b.1 in
      let same : ◌≡◌ {A = List X × At} (before ++ x ∷ [], b.0.1) a.0 = ok_same _ _ b.2 in
      let read : times (adding item) n (i + 1) (before ++ x ∷ []) b.0.1 ≡ Ok (after, next) = subst (λ (p : List X × At). times (adding item) n (i + 1) p.0 p.1 ≡ Ok (after, next)) (sym same) a.2 in
      let rest = items_took n (i + 1) (before ++ x ∷ []) after b.0.1 next (bytes_on first.0 bytes) read in
      let long = rest.many in
      record {
        xs = x ∷ rest.xs;
        is = rest.is ∙ append_assoc before (x ∷ []) rest.xs;
        many = omega (arith, long);
        fit = All-cons Fits x rest.xs first.1 rest.fit;
        took = took_both first.0 rest.took;
      }

-- a whole list
pub list_took : {X F : Type 0} (item : At → Result (X × At) F) (spelled : X → List ℕ) (one : (at next : At) (x : X) → IsBytes at.whole → item at ≡ Ok (x, next) → Took at next (spelled x))
    (n : ℕ) (after : List X) (at next : At) → IsBytes at.whole → times (adding item) n 0 [] at ≡ Ok (after, next) → (length after ≡ n) × Took at next (flat_map spelled after)
list_took {X} item spelled one n after at next bytes is =
    let took = items_took item spelled (λ (x : X). Unit {0}) (λ at next x bytes is. (one at next x bytes is, tt)) n 0 [] after at next bytes is in
    (ap length took.is ∙ took.many, subst (λ (xs : List X). Took at next (flat_map spelled xs)) (sym took.is) took.took)
