-- A segment shares an address with an earlier one exactly where it is not the first that holds each of its addresses.
use Rattle.std.proofs.Common.{◌≡◌, ℕ, zero, suc, ◌+◌, ◌-◌, ◌<◌, ◌≤◌, ◌≢◌, Bool, true, false, cond, not, max, List, [], ◌∷◌, length, get_or, map, Some, refl, sym, ap, ◌∙◌, arith, inl, inr}
use Rattle.std.specs.Prelude.{position, All, AllPairs, MatchBool, ◌&&◌, nat_lt}
use Rattle.std.specs.List.{position_from}
use Rattle.std.proofs.lemmas.Bool.{cases_lt}
use Rattle.std.proofs.lemmas.Bool.Decides.{nat_tests}
use Rattle.std.proofs.lemmas.List.{get_or_default}
use Rattle.std.proofs.lemmas.List.Folds.{list_any_at, list_any_none}
use Rattle.std.proofs.lemmas.Iterator.Adapters.{position_from-zero}
use Rattle.elf_image.specs.declared.header.ProgramHeader.{ProgramHeader}
use Rattle.address_ranges.specs.Ranges.{holds, IsFirst, IsNotFirst}
use Rattle.elf_image.specs.Image.{segment_range}
use Rattle.elf_image.specs.Headers.{segment_of}
use Rattle.elf_image.specs.Refusals.{share, shares_earlier}
use Rattle.std.proofs.lemmas.Bool.{false_from_ne_true}
use Rattle.address_ranges.proofs.Places.{position_map}

some_same : (a b : ℕ) → Some a ≡ Some b → a ≡ b
some_same a b e = cc

-- before the first place at which a test passes it does not
before_first : {X : Type 0} (p : X → Bool) (j i k : ℕ) (d : X) (xs : List X) → position_from p j xs ≡ Some (j + i) → k < i → k < length xs → p (get_or xs k d) ≡ false
before_first p j i k d [] e lt within = absurd (omega arith)
before_first {X} p j i k d (x ∷ xs) e lt within = go (p x) refl e k lt within (λ m f l w. before_first p (j + 1) (i - 1) m d xs (f ∙ ap (λ (n : ℕ). Some n) (omega arith)) l w)
  where
    go : (b : Bool) → p x ≡ b → cond b (Some j) (position_from p (j + 1) xs) ≡ Some (j + i) → (k : ℕ) → k < i → k < length (x ∷ xs)
        → ((m : ℕ) → position_from p (j + 1) xs ≡ Some (j + i) → m < i - 1 → m < length xs → p (get_or xs m d) ≡ false) → p (get_or (x ∷ xs) k d) ≡ false
    go true is e k lt within rest = absurd (let z : j ≡ j + i = some_same _ _ e in omega arith)
    go false is e zero lt within rest = is
    go false is e (suc k) lt within rest = rest k e (omega arith) (omega arith)

-- where a test passes there is a first place at which it does
first_within : {X : Type 0} (p : X → Bool) (j i : ℕ) (d : X) (xs : List X) → i < length xs → p (get_or xs i d) ≡ true → (k : ℕ) × (k ≤ i) × (position_from p j xs ≡ Some (j + k)) × (p (get_or xs k d) ≡ true)
first_within p j i d [] within passes = absurd (omega arith)
first_within {X} p j i d (x ∷ xs) within passes = go (p x) refl i within passes (λ m w q. first_within p (j + 1) m d xs w q)
  where
    go : (b : Bool) → p x ≡ b → (i : ℕ) → i < length (x ∷ xs) → p (get_or (x ∷ xs) i d) ≡ true
        → ((m : ℕ) → m < length xs → p (get_or xs m d) ≡ true → (k : ℕ) × (k ≤ m) × (position_from p (j + 1) xs ≡ Some (j + 1 + k)) × (p (get_or xs k d) ≡ true))
        → (k : ℕ) × (k ≤ i) × (cond b (Some j) (position_from p (j + 1) xs) ≡ Some (j + k)) × (p (get_or (x ∷ xs) k d) ≡ true)
    go true is i within passes rest = (0, omega arith, ap (λ (n : ℕ). Some n) (omega arith), is)
    go false is zero within passes rest = absurd (let z : true ≡ false = sym passes ∙ is in cc)
    go false is (suc i) within passes rest =
        let r = rest i (omega arith) passes in
        (suc r.0, let le : r.0 ≤ i = r.1 in omega arith, r.2 ∙ ap (λ (n : ℕ). Some n) (omega arith), r.3)

-- an address in a header's segment
abbrev held_by : ℕ → ProgramHeader → Bool
held_by address h = holds address (segment_range (segment_of h))

positions : (address : ℕ) (hs : List ProgramHeader) → position (holds address) (map segment_range (map segment_of hs)) ≡ position_from (held_by address) 0 hs
positions address hs =
    position_from-zero (holds address) (map segment_range (map segment_of hs))
    ∙ position_map (holds address) segment_range 0 (map segment_of hs)
    ∙ position_map (λ s. holds address (segment_range s)) segment_of 0 hs

in_both : (g h : ProgramHeader) → (nat_lt g.offset h.offset && share g h) ≡ true → 0 < g.p_memsz → 0 < h.p_memsz
    → (g.offset < h.offset) × (h.p_vaddr ≤ max g.p_vaddr h.p_vaddr) × (max g.p_vaddr h.p_vaddr < h.p_vaddr + h.p_memsz) × (held_by (max g.p_vaddr h.p_vaddr) g ≡ true)
in_both g h e sg sh = (in_order g h e, omega arith, highest g h e sg sh, held g h e sg sh)
  where
    in_order : (g h : ProgramHeader) → (nat_lt g.offset h.offset && share g h) ≡ true → g.offset < h.offset
    in_order g h e = grind (arith, nat_tests)

    highest : (g h : ProgramHeader) → (nat_lt g.offset h.offset && share g h) ≡ true → 0 < g.p_memsz → 0 < h.p_memsz → max g.p_vaddr h.p_vaddr < h.p_vaddr + h.p_memsz
    highest g h e sg sh = grind (arith, nat_tests)

    held : (g h : ProgramHeader) → (nat_lt g.offset h.offset && share g h) ≡ true → 0 < g.p_memsz → 0 < h.p_memsz → held_by (max g.p_vaddr h.p_vaddr) g ≡ true
    held g h e sg sh = grind (arith, nat_tests)

both_share : (address : ℕ) (g h : ProgramHeader) → g.offset < h.offset → h.p_vaddr ≤ address → address < h.p_vaddr + h.p_memsz → held_by address g ≡ true → (nat_lt g.offset h.offset && share g h) ≡ true
both_share address g h lt low high held = grind (arith, nat_tests)

held_within : (address : ℕ) (h : ProgramHeader) → h.p_vaddr ≤ address → address < h.p_vaddr + h.p_memsz → held_by address h ≡ true
held_within address h low high = grind (arith, nat_tests)

pub alone : (r : Bool) (hs : List ProgramHeader) (i : ℕ) (d : ProgramHeader) → All (λ h. 0 < h.p_memsz) hs → AllPairs (λ g h. g.offset < h.offset) hs → i < length hs
    → MatchBool r (IsFirst (map segment_range (map segment_of hs)) (get_or hs i d).p_vaddr ((get_or hs i d).p_vaddr + (get_or hs i d).p_memsz) i) (IsNotFirst (map segment_range (map segment_of hs)) (get_or hs i d).p_vaddr ((get_or hs i d).p_vaddr + (get_or hs i d).p_memsz) i)
    → shares_earlier hs (get_or hs i d) ≡ not r
alone true hs i d some up li first =
    list_any_none (λ g. nat_lt g.offset (get_or hs i d).offset && share g (get_or hs i d)) hs (λ k e lk. false_from_ne_true _ (λ t.
    let g = get_or hs k e in
    let h = get_or hs i d in
    let b = in_both g h t (some k e lk) (some i d li) in
    let address = max g.p_vaddr h.p_vaddr in
    let is_first : position_from (held_by address) 0 hs ≡ Some i = sym (positions address hs) ∙ first address b.1 b.2 in
    let g-is : get_or hs k d ≡ g = get_or_default hs k d e lk in
    let lt : k < i = elim (cases_lt k i) [ inl l ↦ l | inr ge ↦ absurd (not_before hs i k d e up li lk ge b.0) ] in
    let no : held_by address (get_or hs k d) ≡ false = before_first (held_by address) 0 i k d hs (is_first ∙ ap (λ (n : ℕ). Some n) (omega arith)) lt lk in
    let z : true ≡ false = sym b.3 ∙ ap (λ (x : ProgramHeader). held_by address x) (sym g-is) ∙ no in cc))
  where
    not_before : (hs : List ProgramHeader) (i k : ℕ) (d e : ProgramHeader) → AllPairs (λ g h. g.offset < h.offset) hs → i < length hs → k < length hs → i ≤ k → (get_or hs k e).offset < (get_or hs i d).offset → ⊥
    not_before hs i k d e up li lk le lt =
        let g-is : get_or hs k d ≡ get_or hs k e = get_or_default hs k d e lk in
        elim (cases_lt i k) [
          | inl l ↦ let u : (get_or hs i d).offset < (get_or hs k d).offset = up i k d l lk in let v : (get_or hs k d).offset < (get_or hs i d).offset = rw g-is lt in omega arith
          | inr ge ↦ let same : i ≡ k = omega arith in let v : (get_or hs k d).offset < (get_or hs i d).offset = rw g-is lt in let w : (get_or hs k d).offset ≡ (get_or hs i d).offset = ap (λ (n : ℕ). (get_or hs n d).offset) (sym same) in omega arith
        ]
alone false hs i d some up li other =
    let h = get_or hs i d in
    let address = other.0 in
    let f = first_within (held_by address) 0 i d hs li (held_within address h other.1 other.2) in
    let ne : f.0 ≢ i = λ same. other.3 (positions address hs ∙ f.2 ∙ ap (λ (n : ℕ). Some n) (let z : 0 + f.0 ≡ i = omega arith in z)) in
    let le : f.0 ≤ i = f.1 in
    let lt : f.0 < i = omega arith in
    list_any_at (λ g. nat_lt g.offset h.offset && share g h) hs f.0 d (omega arith) (both_share address (get_or hs f.0 d) h (up f.0 i d lt li) other.1 other.2 f.3)
